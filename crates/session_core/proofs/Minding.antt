-- What a session's watches rest on: it stays over calls that neither subscribe nor take, and over what others do.
use Rattle.std.proofs.Common.{◌≡◌, ℕ, ◌≤◌, length, Option, Some, None, refl, sym, subst, arith}
use Rattle.std.specs.Prelude.{IfSome}
use Rattle.std.specs.List.Sorted.{IsStrictlySortedBy}
use Rattle.dio_core.specs.Told.{WhereTold}
use Rattle.dio_core.proofs.Told.{IfSome-WhereTold}
use Rattle.rdt_types.specs.declared.address.Address.{Address}
use Rattle.txn_lang.specs.Journals.{IsLegal}
use Rattle.txn_lang.specs.States.{Journal}
use Rattle.docc_prepare.specs.Calls.{Known, Call, Answer}
use Rattle.docc_prepare.specs.Backends.{IsPrefix, IsAnswered, SaysOfJournal, HasGrown, IsLater}
use Rattle.docc_prepare.specs.Stores.{HasFollowed}
use Rattle.docc_prepare.proofs.Readable.{can-read-on}
use Rattle.client_watches.specs.declared.watching.Watching.{Watching}
use Rattle.client_watches.specs.Watching.{none_yet}
use Rattle.client_watches.specs.Keeping.{Keeps}
use Rattle.docc_prepare.specs.Readable.{CanRead, CanReadOn}
use Rattle.client_watches.specs.Explained.{shown_of}
use Rattle.client_watches.specs.Laws.{Attends, MayBeShown}
use Rattle.client_watches.proofs.Answering.{subscribes-on}
use Rattle.client_watches.proofs.Kept.{keeps-on}
use Rattle.client_watches.proofs.Stays.{stands-stay}
use Rattle.client_watches.proofs.Telling.{all-up-to, up-to-more}
use Rattle.session_core.specs.Holding.{Minds, WatchesAttend}

-- what stands for a journal stands for one that has grown, where the same is subscribed to and taken
minds-on : (k l : Known) (w : Watching) (old new : Journal) → ((a : Address) → l.subscribed a ≡ k.subscribed a) → l.taken ≡ k.taken
    → l.trusted ≡ k.trusted → IsPrefix old new → IsLegal l.trusted new → Minds k w old → Minds l w new
minds-on k l w old new subscribed taken trusted grows legal is =
    let can = is.can_on new grows (subst (λ (n : ℕ). IsLegal n new) trusted legal) in record {
      subscribes = subscribes-on k l w subscribed taken is.subscribes;
      stands = stands-stay old new is.can.readable.numbered can.readable.numbered grows w is.stands;
      can = can;
      can_on = can-read-on k.trusted l.trusted old new trusted grows is.can_on;
    }

-- ---- calls that neither subscribe nor take

-- the watches stand as they did, since a call that neither subscribes nor takes lets the journal grow alone
pub watches-on : (k l : Known) (w : Watching) (c : Call) (answer : Answer) → IsAnswered k c answer l → ((a : Address) → l.subscribed a ≡ k.subscribed a)
    → l.taken ≡ k.taken → WatchesAttend k w → WatchesAttend l w
watches-on k l w c answer event subscribed taken is = record {
  keeps = keeps-on k l w event.goes_on.seen is.keeps;
  told = IfSome-WhereTold (SaysOfJournal k l c answer) (Minds k w) (Minds l w) k.journal l.journal
      (λ old new minds says. minds-on k l w old new subscribed taken event.client.trusted says.grows says.legal minds) is.told event.told;
}

-- ---- without watches

-- of a journal that can be read, a client without watches owes nothing but that
pub none-minds : (k : Known) (at : ℕ) (journal : Journal) → at ≤ length journal → CanRead journal → CanReadOn k.trusted journal → Minds k (none_yet at) journal
unfolding IsStrictlySortedBy
none-minds k at journal within can on = record {
  subscribes = record { rising = tt; told = λ a v found. absurd (cc); taken = λ a v found. absurd (cc) };
  stands = record { within = within; values = λ a v found. absurd (cc); watches = tt };
  can = can;
  can_on = on;
}

-- a client without watches has nothing to keep but its place
pub none-keeps : (k : Known) (at : ℕ) → at ≤ k.seen → Keeps k (none_yet at)
none-keeps k at seen = record { seen = seen; names = tt; short = tt; loose = tt }

-- so a client that minds its watches minds none
pub none-attend : (k : Known) (w : Watching) (at : ℕ) → at ≤ k.seen → IfSome k.journal (λ journal. k.seen ≤ length journal) → WatchesAttend k w
    → WatchesAttend k (none_yet at)
none-attend k w at seen within is = record { keeps = none-keeps k at seen; told = by k.journal within is.told }
  where
    by : (o : Option Journal) → IfSome o (λ journal. k.seen ≤ length journal) → IfSome o (Minds k w) → IfSome o (Minds k (none_yet at))
    by None there minds = tt
    by (Some journal) there minds = none-minds k at journal (omega arith) minds.can minds.can_on

-- and goes on to, whatever is called
pub none-on : (k l : Known) (at : ℕ) (c : Call) (answer : Answer) → IsAnswered k c answer l → at ≤ k.seen → WatchesAttend k (none_yet at)
    → WatchesAttend l (none_yet at)
none-on k l at c answer event seen is = record {
  keeps = none-keeps l at (let up = event.goes_on.seen in omega arith);
  told = IfSome-WhereTold (SaysOfJournal k l c answer) (Minds k (none_yet at)) (Minds l (none_yet at)) k.journal l.journal
      (λ old new minds says. none-minds l at new (let w = says.within in let up = event.goes_on.seen in omega arith)
      (minds.can_on new says.grows (subst (λ (n : ℕ). IsLegal n new) event.client.trusted says.legal))
      (can-read-on k.trusted l.trusted old new event.client.trusted says.grows minds.can_on)) is.told event.told;
}

-- ---- behind a call

-- what isn't told isn't told later
pub untold-on : (k l : Known) (c : Call) (answer : Answer) → IsAnswered k c answer l → k.journal ≡ None → l.journal ≡ None
untold-on k l c answer event none = by k.journal l.journal none event.told
  where
    by : (x y : Option Journal) → x ≡ None → WhereTold (SaysOfJournal k l c answer) x y → y ≡ None
    by None None e told = refl
    by None (Some journal) e told = absurd told
    by (Some journal) y e told = absurd (cc)

-- of a journal that is told, what client_watches asks
pub told-attends : (k : Known) (w : Watching) (journal : Journal) → k.journal ≡ Some journal → Keeps k w → Minds k w journal → Attends k w journal
told-attends k w journal told keeps minds =
    record { told = told; keeps = keeps; subscribes = minds.subscribes; stands = minds.stands; can = minds.can }

-- each watch was reported at a number that is seen
pub reported-seen : (k : Known) (w : Watching) (journal : Journal) → Keeps k w → Minds k w journal → MayBeShown k w k.seen
reported-seen k w journal keeps minds = record {
  seen = omega arith;
  reported = up-to-more w.cache.at k.seen (shown_of w.watches) keeps.seen (all-up-to journal w.cache w.watches minds.stands.watches);
}

-- ---- what others do

-- others let the journal grow alone, and change nothing of what this client subscribes to or has taken
pub watches-later : (k here : Known) (w : Watching) → IsLater k here → WatchesAttend k w → WatchesAttend here w
watches-later k here w later is = record {
  keeps = keeps-on k here w (let same = later.seen in omega arith) is.keeps;
  told = IfSome-WhereTold (HasGrown k) (Minds k w) (Minds here w) k.journal here.journal
      (λ old new minds grown. minds-on k here w old new later.subscribed later.taken later.client.trusted grown.grows
      (subst (λ (n : ℕ). IsLegal n new) (sym later.client.trusted) grown.legal) minds) is.told later.told;
}

-- a shard that follows changes nothing of the journal
pub watches-followed : (k here : Known) (w : Watching) → HasFollowed k here → WatchesAttend k w → WatchesAttend here w
watches-followed k here w done is = record {
  keeps = keeps-on k here w done.seen is.keeps;
  told = subst (λ (o : Option Journal). IfSome o (Minds here w)) (sym done.journal) (by k.journal is.told);
}
  where
    by : (o : Option Journal) → IfSome o (Minds k w) → IfSome o (Minds here w)
    by None minds = tt
    by (Some journal) minds = record {
      subscribes = subscribes-on k here w done.subscribed done.taken minds.subscribes;
      stands = minds.stands;
      can = minds.can;
      can_on = subst (λ (n : ℕ). CanReadOn n journal) (sym done.client.trusted) minds.can_on;
    }
