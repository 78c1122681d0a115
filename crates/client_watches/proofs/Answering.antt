-- What is subscribed to behind each call, and what reports say of a journal that has grown.
use Rattle.std.proofs.Common.{◌≡◌, inl, inr, ℕ, Bool, true, false, cond, not, ◌&&◌, ◌||◌, List}
use Rattle.std.proofs.Common.{Option, Some, None, option_map, is_some, refl, sym, ap, ◌∙◌, arith}
use Rattle.std.specs.BTreeMap.{is_at}
use Rattle.std.specs.Ordering.{is_eq}
use Rattle.rdt_types.specs.declared.address.Address.{Address}
use Rattle.rdt_types.specs.declared.value.Value.{Value}
use Rattle.rdt_types.specs.Addresses.{address_cmp}
use Rattle.rdt_types.specs.DeltaMaps.{delta_at}
use Rattle.change_feed.specs.Feeds.{Fed}
use Rattle.client_cache.specs.Histories.{apply_maybe}
use Rattle.client_cache.specs.Cached.{held}
use Rattle.session_text.specs.declared.reply.Reply.{Reply}
use Rattle.txn_lang.specs.States.{Journal}
use Rattle.rerun_driver.specs.Watches.{is_observed}
use Rattle.docc_prepare.specs.Calls.{Known, Call, Answer}
use Rattle.docc_prepare.specs.Backends.{IsAnswered, IsPrefix}
use Rattle.client_watches.specs.declared.watching.Watching.{Watching}
use Rattle.client_watches.specs.Watching.{after_feed, with_value, is_idle, without_value}
use Rattle.client_watches.specs.Standing.{Subscribes, Stands}
use Rattle.docc_prepare.specs.Readable.{CanRead}
use Rattle.client_watches.specs.Goals.{Goal}
use Rattle.client_watches.specs.Explained.{ShownList, shown_of, AllHold, IsShownAt, IsCutShort, IsCutAtRerun}
use Rattle.client_watches.specs.Explained.{GoalPasses}
use Rattle.client_watches.proofs.Journals.{prefix-shorter}
use Rattle.client_watches.proofs.Stays.{AreUpTo, outcome-stays, reports-stay, hold-stay, hold-before, stands-stay, reports-up-to}
use Rattle.client_watches.proofs.Values.{held-advanced, rise-advanced, held-filled, rise-filled, held-released, rise-released, at-turned}
use Rattle.client_watches.proofs.Telling.{all-up-to, up-to-more, Going, IsLeft}

-- ---- what is subscribed to

-- after a feed
pub subscribes-feed : (k l : Known) (w : Watching) (feed : Fed) → IsAnswered k Call.take (Answer.feed feed) l → Subscribes k w → Subscribes l (after_feed w feed)
subscribes-feed k l w feed event is = record {
  rising = rise-advanced w.cache feed is.rising;
  told = λ a v found. event.goes_on.subscribed a ∙ was a v (held w.cache a) refl (sym (held-advanced w.cache feed a) ∙ found);
  taken = λ a v found. event.goes_on.taken;
}
  where
    was : (a : Address) (v : Value) (o : Option Value) → held w.cache a ≡ o → option_map (apply_maybe (delta_at feed.changes a)) o ≡ Some v
        → k.subscribed a ≡ true
    was a v None e f = absurd (cc)
    was a v (Some u) e f = is.told a u e

-- where nothing is subscribed to or taken
pub subscribes-on : (k l : Known) (w : Watching) → ((a : Address) → l.subscribed a ≡ k.subscribed a) → l.taken ≡ k.taken → Subscribes k w → Subscribes l w
subscribes-on k l w same taken is = record {
  rising = is.rising;
  told = λ a v found. same a ∙ is.told a v found;
  taken = λ a v found. taken ∙ is.taken a v found;
}

-- with one value more
pub subscribes-value : (k l : Known) (w : Watching) (address : Address) (value : Value) → IsAnswered k (Call.subscribe address) Answer.done l
    → k.taken ≡ w.cache.at → Subscribes k w → Subscribes l (with_value w address value)
subscribes-value k l w address value event taken is = record {
  rising = rise-filled w.cache address value is.rising;
  told = λ a v found. event.goes_on.subscribed a ∙ at a v (is_at (address_cmp address) a) refl (sym (held-filled w.cache address value a) ∙ found);
  taken = λ a v found. event.goes_on.taken ∙ taken;
}
  where
    at : (a : Address) (v : Value) (b : Bool) → is_at (address_cmp address) a ≡ b → cond (is_eq (address_cmp a address)) (Some value) (held w.cache a) ≡ Some v
        → (b || k.subscribed a) ≡ true
    at a v true e f = refl
    at a v false e f = is.told a v (sym (ap (λ b. cond b (Some value) (held w.cache a)) (at-turned a address ∙ e)) ∙ f)

-- with one value less
pub subscribes-without : (k l : Known) (w : Watching) (address : Address) → IsAnswered k (Call.unsubscribe address) Answer.done l → Subscribes k w
    → Subscribes l (without_value w address)
subscribes-without k l w address event is = record {
  rising = rise-released w.cache address is.rising;
  told = λ a v found. event.goes_on.subscribed a ∙ at a v (is_at (address_cmp address) a) refl (sym (held-released w.cache address a is.rising) ∙ found);
  taken = λ a v found. event.goes_on.taken ∙ was a v (is_at (address_cmp address) a) (sym (held-released w.cache address a is.rising) ∙ found);
}
  where
    at : (a : Address) (v : Value) (b : Bool) → is_at (address_cmp address) a ≡ b → cond b None (held w.cache a) ≡ Some v
        → (not b && k.subscribed a) ≡ true
    at a v true e f = absurd (cc)
    at a v false e f = is.told a v f

    was : (a : Address) (v : Value) (b : Bool) → cond b None (held w.cache a) ≡ Some v → k.taken ≡ w.cache.at
    was a v true f = absurd (cc)
    was a v false f = is.taken a v f

-- what a value that no watch observes is
pub idle-unobserved : (w : Watching) (address : Address) → is_idle w address ≡ true → is_observed w.watches address ≡ false
idle-unobserved w address e = by (is_some (held w.cache address)) (is_observed w.watches address) e
  where
    by : (a b : Bool) → (a && not b) ≡ true → b ≡ false
    by a false h = refl
    by true true h = absurd (cc)
    by false true h = absurd (cc)

-- ---- journals that grow

module _ (old new : Journal) (could : CanRead old) (can : CanRead new) (p : IsPrefix old new) where
  -- reports that were made stay
  pub going-stays : (low : ℕ) (goal : Goal) (story : ShownList) (w : Watching) (said : List Reply) → Going low goal story old w said
      → Going low goal story new w said
  going-stays low goal story w said is = record {
    stands = stands-stay old new could.readable.numbered can.readable.numbered p w is.stands;
    shown_at = is.shown_at;
    before = is.before;
    reports = reports-stay old new could.readable.numbered can.readable.numbered p w.cache.at is.stands.within story said (shown_of w.watches)
        is.before is.reports;
    new = is.new;
  }

  -- and that all hold
  pub holds-stay : (w : Watching) → Stands old w → AllHold old w.cache.at (shown_of w.watches) → AllHold new w.cache.at (shown_of w.watches)
  holds-stay w is all = hold-stay old new could.readable.numbered can.readable.numbered p w.cache.at is.within (shown_of w.watches)
      (all-up-to old w.cache w.watches is.watches) all

  -- and that one is left to run
  pub left-stays : (w : Watching) → Stands old w → IsLeft old w → IsLeft new w
  left-stays w is some all = some (hold-before old new could.readable.numbered can.readable.numbered p w.cache.at is.within (shown_of w.watches)
      (all-up-to old w.cache w.watches is.watches) all)

-- ---- replies that pass

-- no watch was reported past what was shown, so replies that pass stay passing when the journal grows
module _ (window low : ℕ) (story : ShownList) (upto : AreUpTo low story) (old new : Journal) (could : CanRead old) (can : CanRead new)
    (p : IsPrefix old new) where
  -- a number that was shown is one of the longer journal's
  shown-stays : (n : ℕ) → IsShownAt low n old → IsShownAt low n new
  shown-stays n is = record { not_back = is.not_back; within = let w = is.within in let up = prefix-shorter old new p in omega arith }

  -- nor was one reported past it
  at-most : (n : ℕ) → IsShownAt low n old → AreUpTo n story
  at-most n is = up-to-more low n story is.not_back upto

  -- a cut is one of the longer journal's
  cut-stays : (said : List Reply) (later : ShownList) → IsCutShort window old low story said later → IsCutShort window new low story said later
  cut-stays said later is = record {
    n = is.n;
    horizon = is.horizon;
    shown_at = shown-stays is.n is.shown_at;
    below = is.below;
    behind = let b = is.behind in let up = prefix-shorter old new p in omega arith;
    prefix = is.prefix;
    reports = reports-stay old new could.readable.numbered can.readable.numbered p is.n is.shown_at.within story is.prefix later
        (at-most is.n is.shown_at) is.reports;
    replies_are = is.replies_are;
  }

  -- and where a rerun was left, it is left
  rerun-stays : (said : List Reply) (later : ShownList) → IsCutAtRerun window old low story said later → IsCutAtRerun window new low story said later
  unfolding cut-stays
  rerun-stays said later is = record {
    cut = cut-stays said later is.cut;
    some = λ all. is.some (hold-before old new could.readable.numbered can.readable.numbered p is.cut.n is.cut.shown_at.within later
        (reports-up-to old is.cut.n is.cut.n story is.cut.prefix later (omega arith) (at-most is.cut.n is.cut.shown_at) is.cut.reports) all);
  }

  -- a row a reply
  pub passes-stay : (goal : Goal) (said : List Reply) (later : ShownList) → GoalPasses window old low goal story said later
      → GoalPasses window new low goal story said later
  passes-stay Goal.current said later (inl is) = inl (record {
    n = is.n;
    shown_at = shown-stays is.n is.shown_at;
    prefix = is.prefix;
    reports = reports-stay old new could.readable.numbered can.readable.numbered p is.n is.shown_at.within story is.prefix later
        (at-most is.n is.shown_at) is.reports;
    all = hold-stay old new could.readable.numbered can.readable.numbered p is.n is.shown_at.within later
        (reports-up-to old is.n is.n story is.prefix later (omega arith) (at-most is.n is.shown_at) is.reports) is.all;
    replies_are = is.replies_are;
  })
  passes-stay Goal.current said later (inr is) = inr (rerun-stays said later is)
  passes-stay (Goal.watch name body) said later (inl is) = inl is
  passes-stay (Goal.watch name body) said later (inr (new_name, inl is)) = inr (
    new_name,
    inl (record {
      n = is.n;
      shown_at = shown-stays is.n is.shown_at;
      prefix = is.prefix;
      others = is.others;
      reports = reports-stay old new could.readable.numbered can.readable.numbered p is.n is.shown_at.within story is.prefix is.others
          (at-most is.n is.shown_at) is.reports;
      all = hold-stay old new could.readable.numbered can.readable.numbered p is.n is.shown_at.within is.others
          (reports-up-to old is.n is.n story is.prefix is.others (omega arith) (at-most is.n is.shown_at) is.reports) is.all;
      outcome = is.outcome;
      outcome_is = outcome-stays old new could.readable.numbered can.readable.numbered p body is.n is.outcome is.shown_at.within is.outcome_is;
      replies_are = is.replies_are;
      later_are = is.later_are;
    }),
  )
  passes-stay (Goal.watch name body) said later (inr (new_name, inr is)) = inr (new_name, inr (cut-stays said later is))
