-- What a relay's post keeps as its relay follows.
use Rattle.std.proofs.Common.{◌≡◌, ℕ, ◌≤◌, List, length, Result, Ok, Err, OnOk, OnErr, refl, sym, ap, ◌∙◌, subst}
use Rattle.change_feed.specs.declared.change.Change.{Change}
use Rattle.change_feed.specs.declared.tail.Tail.{Tail}
use Rattle.txn_lang.specs.States.{Journal}
use Rattle.journal_core.specs.Changes.{changes, between}
use Rattle.journal_core.specs.Pairs.{AreNumbered}
use Rattle.journal_core.specs.Tails.{HasAll}
use Rattle.journal_relay.specs.Relays.{Relayed, Relays, IsNextOf, followed}
use Rattle.journal_relay.proofs.Relaying.{relays_follow}

-- what goes up to where it ends goes up to that number
pub has-own_end : (from to : ℕ) (all : List Change) (tail : Tail) → HasAll from to (between from to all) tail
    → HasAll from tail.to (between from tail.to all) tail
has-own_end from to all tail has = record {
  begins = has.begins;
  ends = refl;
  exact = has.exact ∙ ap (λ (n : ℕ). between from n all) (sym has.ends);
}

-- a tail from where a relay has come comes next for it
pub tail-is-next : (journal : Journal) (relay : Relayed) (from to : ℕ) (tail : Tail) → HasAll from to (between from to (changes journal)) tail
    → from ≡ relay.to → to ≤ length journal → IsNextOf journal relay tail
tail-is-next journal relay from to tail has here within = record {
  reached = subst (λ (n : ℕ). n ≤ length journal) (sym has.ends) within;
  next = subst (λ (n : ℕ). HasAll n tail.to (between n tail.to (changes journal)) tail) here (has-own_end from to (changes journal) tail has);
}

-- who has followed what comes next stands for the journal; for want of memory he does so still
pub relays-followed : {E : Type 0} (r : Result (Unit {0}) E) (journal : Journal) (old new : Relayed) (tail : Tail) → AreNumbered journal
    → Relays journal old → IsNextOf journal old tail → OnOk r (new ≡ followed old tail) → OnErr r (new ≡ old) → Relays journal new
relays-followed (Ok u) journal old new tail numbered relays next is same =
    subst (Relays journal) (sym is) (relays_follow journal old tail numbered relays next)
relays-followed (Err e) journal old new tail numbered relays next is same = subst (Relays journal) (sym same) relays
