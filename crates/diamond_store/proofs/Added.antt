-- What may be added under the journal's lock, and what was.
use Rattle.std.proofs.Common.{◌≡◌, ℕ, List, [], Option, Some, Result, Ok, Err, IfOk, sym, ap, ◌∙◌, subst, arith}
use Rattle.std.proofs.Common.{append-nil}
use Rattle.std.specs.Prelude.{OnErr}
use Rattle.std.specs.List.Sorted.{IsStrictlySortedBy}
use Rattle.std.specs.Map.{keys_of}
use Rattle.history_lock.specs.declared.known.Known.{Known}
use Rattle.history_lock.specs.Entries.{AddsOwn}
use Rattle.history_lock.specs.Tokens.{IsLater}
use Rattle.history_lock.proofs.Named.{AddsOwn-push}
use Rattle.plain_data.specs.Histories.{IsLawful}
use Rattle.plain_data.proofs.Histories.{IsLawful-push}
use Rattle.rdt_types.specs.Addresses.{address_cmp}
use Rattle.txn_lang.specs.declared.commit.Commit.{Commit}
use Rattle.txn_lang.specs.States.{Journal}
use Rattle.journal_core.specs.declared.ready.Ready.{Ready}
use Rattle.journal_core.specs.Readies.{made_of}
use Rattle.diamond_store.specs.declared.decision.Decision.{Decision}
use Rattle.diamond_store.specs.declared.decision.Decision.TheVariants as decision
use Rattle.diamond_store.specs.Appending.{client_of, Adds}
use Rattle.diamond_store.specs.Books.{Booked, numbers, denials_after}
use Rattle.diamond_store.specs.Following.{Follows, IsSound}
use Rattle.diamond_store.specs.Numbers.{shards_in, limit_in, from_in}
use Rattle.diamond_store.specs.Owing.{IsOwed}
use Rattle.diamond_store.specs.Settling.{CanSettle, Settles}
use Rattle.diamond_store.proofs.Owed.{owed-later, can-settle, follows}
use Rattle.diamond_store.proofs.Sound.{lawful-sound}

-- nothing is added
adds-none : (author : Option ℕ) (list : Journal) → AddsOwn client_of author list list
adds-none author list = ([], append-nil list, λ k d within. absurd (omega (arith, within)))

module _ (m shards : ℕ) (old entered : Known Commit) (ready : Ready) (author : old.author ≡ Some ready.client) (owed : IsOwed shards old.seen ready)
    (later : IsLater client_of old entered) (lawful : IsLawful Follows m entered.seen) where
  -- what is owed is owed under the lock
  owed-now : IsOwed shards entered.seen ready
  owed-now = owed-later shards old.seen entered.seen ready owed later.seen (later.own_entries ready.client author)

  -- so the journal may decide on it
  pub settle-now : CanSettle shards ready entered.seen
  settle-now = can-settle m shards entered.seen ready owed-now (lawful-sound m entered.seen lawful)

  -- nothing, or the client's commit, was added to what the lock's value stood for
  adds-one : (from limit : ℕ) (d : Decision) (left : Journal) → Settles from shards limit ready entered.seen d left
      → AddsOwn client_of entered.author entered.seen left
  adds-one from limit (decision.Number n) left s =
      subst (AddsOwn client_of entered.author entered.seen) (sym s.3)
      (AddsOwn-push client_of entered.author entered.seen entered.seen (made_of entered.seen ready) (adds-none entered.author entered.seen)
      (later.author ∙ author))
  adds-one from limit (decision.Clash w) left s =
      subst (AddsOwn client_of entered.author entered.seen) (sym s.1) (adds-none entered.author entered.seen)
  adds-one from limit (decision.Held b) left s = subst (AddsOwn client_of entered.author entered.seen) (sym s.2) (adds-none entered.author entered.seen)
  adds-one from limit (decision.Full l) left s = subst (AddsOwn client_of entered.author entered.seen) (sym s.4) (adds-none entered.author entered.seen)
  adds-one from limit decision.Denied left s = subst (AddsOwn client_of entered.author entered.seen) (sym s.2) (adds-none entered.author entered.seen)

  -- and so it is where memory was wanting
  pub adds-own : {X : Type 0} (from limit : ℕ) (r : Result Decision X) (left : Journal)
      → IfOk r (λ d. Settles from shards limit ready entered.seen d left) → OnErr r (left ≡ entered.seen)
      → AddsOwn client_of entered.author entered.seen left
  adds-own from limit (Ok d) left ok err = adds-one from limit d left ok
  adds-own from limit (Err e) left ok err = subst (AddsOwn client_of entered.author entered.seen) (sym err) (adds-none entered.author entered.seen)

  module _ (rising : IsStrictlySortedBy address_cmp (keys_of ready.run.deltas)) where
    -- what the value stands for then is lawful
    lawful-one : (from limit : ℕ) (d : Decision) (left : Journal) → Settles from shards limit ready entered.seen d left → IsLawful Follows m left
    lawful-one from limit (decision.Number n) left s =
        subst (IsLawful Follows m) (sym s.3) (IsLawful-push Follows m entered.seen (made_of entered.seen ready) lawful
        (follows m shards entered.seen ready owed-now (lawful-sound m entered.seen lawful) s.0 rising))
    lawful-one from limit (decision.Clash w) left s = subst (IsLawful Follows m) (sym s.1) lawful
    lawful-one from limit (decision.Held b) left s = subst (IsLawful Follows m) (sym s.2) lawful
    lawful-one from limit (decision.Full l) left s = subst (IsLawful Follows m) (sym s.4) lawful
    lawful-one from limit decision.Denied left s = subst (IsLawful Follows m) (sym s.2) lawful

    -- also where memory was wanting
    pub lawful-left : {X : Type 0} (from limit : ℕ) (r : Result Decision X) (left : Journal)
        → IfOk r (λ d. Settles from shards limit ready entered.seen d left) → OnErr r (left ≡ entered.seen) → IsLawful Follows m left
    lawful-left from limit (Ok d) left ok err = lawful-one from limit d left ok
    lawful-left from limit (Err e) left ok err = subst (IsLawful Follows m) (sym err) lawful

-- where memory was wanting the journal stayed
stays-here : {X : Type 0} (b : Booked) (seen : Journal) (r : Result Decision X) (left : Journal) → seen ≡ b.journal.commits
    → OnErr r (left ≡ b.journal.commits) → OnErr r (left ≡ seen)
stays-here b seen (Ok d) left same stays = tt
stays-here b seen (Err e) left same stays = stays ∙ sym same

-- what a book settles, said of the numbers that its lock stands for and of the journal that a token knows
pub settles-here : {X : Type 0} (kept : List ℕ) (b : Booked) (seen : Journal) (ready : Ready) (r : Result Decision X) (left : Journal)
    → seen ≡ b.journal.commits → numbers b ≡ kept
    → IfOk r (λ d. Settles b.from b.journal.shards b.journal.limit ready b.journal.commits d left)
    → IfOk r (λ d. Settles (from_in kept) (shards_in kept) (limit_in kept) ready seen d left)
settles-here kept b seen ready (Ok d) left same of settles =
    subst (λ (all : List ℕ). Settles (from_in all) (shards_in all) (limit_in all) ready seen d left) of
    (subst (λ (j : Journal). Settles b.from b.journal.shards b.journal.limit ready j d left) (sym same) settles)
settles-here kept b seen ready (Err e) left same of settles = tt

-- the token that has left the lock: it was later, and then the journal decided
pub adds-says : {X : Type 0} (m : ℕ) (kept : List ℕ) (old entered new : Known Commit) (ready : Ready) (r : Result Decision X) (left : Journal) (n count : ℕ)
    → IsLater client_of old entered → IsSound m entered.seen
    → IfOk r (λ d. Settles (from_in kept) (shards_in kept) (limit_in kept) ready entered.seen d left) → entered.count ≡ n
    → IfOk r (λ d. count ≡ denials_after n d) → new ≡ record entered { seen = left; count = count }
    → IfOk r (λ d. Adds m kept old ready d new)
adds-says m kept old entered new ready (Ok d) left n count later sound settles same counts is = record {
  entered = entered;
  later = later;
  settles = subst (λ (k : Known Commit). Settles (from_in kept) (shards_in kept) (limit_in kept) ready entered.seen d k.seen) (sym is) settles;
  sound = sound;
  count = ap (λ (k : Known Commit). k.count) is ∙ counts ∙ ap (λ (c : ℕ). denials_after c d) (sym same);
  rest =
      is
      ∙ ap (λ (j : Journal). record entered { seen = j; count = count }) (sym (ap (λ (k : Known Commit). k.seen) is))
      ∙ ap (λ (c : ℕ). record entered { seen = new.seen; count = c }) (sym (ap (λ (k : Known Commit). k.count) is));
}
adds-says m kept old entered new ready (Err e) left n count later sound settles same counts is = tt

-- the journal that the lock's value stands for may decide on what is owed
pub settle-here : (m : ℕ) (kept : List ℕ) (old entered : Known Commit) (ready : Ready) → old.author ≡ Some ready.client
    → IsOwed (shards_in kept) old.seen ready → IsLater client_of old entered → IsLawful Follows m entered.seen → (b : Booked)
    → entered.seen ≡ b.journal.commits → numbers b ≡ kept → CanSettle b.journal.shards ready b.journal.commits
settle-here m kept old entered ready author owed later lawful b same of =
    subst (λ (all : List ℕ). CanSettle (shards_in all) ready b.journal.commits) (sym of)
    (subst (CanSettle (shards_in kept) ready) same (settle-now m (shards_in kept) old entered ready author owed later lawful))

-- so what a book stands for then is lawful
pub lawful-book : {X : Type 0} (m : ℕ) (kept : List ℕ) (old entered : Known Commit) (ready : Ready) → old.author ≡ Some ready.client
    → IsOwed (shards_in kept) old.seen ready → IsLater client_of old entered → IsLawful Follows m entered.seen
    → IsStrictlySortedBy address_cmp (keys_of ready.run.deltas) → (b : Booked) (r : Result Decision X) (left : Journal)
    → entered.seen ≡ b.journal.commits → numbers b ≡ kept
    → IfOk r (λ d. Settles b.from b.journal.shards b.journal.limit ready b.journal.commits d left) → OnErr r (left ≡ b.journal.commits) → IsLawful Follows m left
lawful-book m kept old entered ready author owed later lawful rising b r left same of settles stays =
    lawful-left m (shards_in kept) old entered ready author owed later lawful rising (from_in kept) (limit_in kept) r left
    (settles-here kept b entered.seen ready r left same of settles) (stays-here b entered.seen r left same stays)
