-- Journals that grow: what first commits left stays, and so do their changes; and the state at a later number is that at an
-- earlier one with what is pending between applied.
use Rattle.std.proofs.Common.{◌≡◌, ℕ, zero, suc, ◌≤◌, List, [], ◌∷◌, ◌++◌, map, fold, length, take, drop, refl, sym, ap}
use Rattle.std.proofs.Common.{◌∙◌, subst, arith}
use Rattle.std.specs.Prelude.{nat_lt, nat_le}
use Rattle.std.specs.List.{AllByRecursion, list_any}
use Rattle.std.proofs.lemmas.List.{take-append-drop, take-append-le, length-take, take-take}
use Rattle.std.proofs.lemmas.List.Sums.{fold-append}
use Rattle.rdt_types.specs.declared.address.Address.{Address}
use Rattle.rdt_types.specs.declared.value.Value.{Value}
use Rattle.rdt_types.specs.Values.{default_of}
use Rattle.rdt_types.specs.Deltas.{kind_changed, apply}
use Rattle.rdt_types.specs.DeltaMaps.{Deltas}
use Rattle.change_feed.specs.declared.change.Change.{Change}
use Rattle.change_feed.specs.Pending.{pending}
use Rattle.change_feed.specs.Feeds.{AreOfTheirKinds}
use Rattle.client_cache.specs.Histories.{apply_maybe, applied}
use Rattle.client_cache.proofs.Following.{pending_applies_in_turn}
use Rattle.txn_lang.specs.declared.run.Seen.{Seen}
use Rattle.txn_lang.specs.States.{Journal, left_by, state, after}
use Rattle.journal_core.specs.Changes.{changes, changes_of, changes_by, between, of_address, up_to}
use Rattle.journal_core.specs.Pairs.{AreNumbered}
use Rattle.journal_core.proofs.ByShard.{changes-between}
use Rattle.journal_core.proofs.Each.{each-filter, each-append}
use Rattle.version_shard.proofs.Folding.{AreRising, journal-left, rising-take}
use Rattle.version_shard.proofs.Stepping.{left}
use Rattle.rerun_driver.specs.Touched.{meets, is_touched}
use Rattle.docc_prepare.specs.Backends.{IsPrefix}
use Rattle.docc_prepare.specs.Serial.{AreOfTheirKinds as OfKinds}
use Rattle.docc_prepare.specs.Readable.{CanRead}

-- ---- prefixes

-- a front is no longer than the whole
pub prefix-shorter : (old new : Journal) → IsPrefix old new → length old ≤ length new
prefix-shorter old new p = let size = length-take (length old) new in let same = ap (λ (xs : Journal). length xs) p in omega arith

-- the first commits are the same
pub prefix-take : (old new : Journal) (n : ℕ) → IsPrefix old new → n ≤ length old → take n new ≡ take n old
prefix-take old new n p within =
    ap (take n) (sym (take-append-drop (length old) new) ∙ ap (λ (first : Journal). first ++ drop (length old) new) p)
    ∙ take-append-le n old (drop (length old) new) within

-- so is the state that they leave
pub prefix-state : (old new : Journal) (n : ℕ) → IsPrefix old new → n ≤ length old → state new n ≡ state old n
prefix-state old new n p within = ap left_by (prefix-take old new n p within)

-- and a front of a front is a front
pub prefix-again : (first second third : Journal) → IsPrefix first second → IsPrefix second third → IsPrefix first third
prefix-again first second third p q =
    sym (take-take (length first) (length second) third (prefix-shorter first second p)) ∙ ap (λ (xs : Journal). take (length first) xs) q ∙ p

-- the changes up to one of its numbers are the same
pub prefix-between : (old new : Journal) (from to : ℕ) → AreNumbered old → AreNumbered new → IsPrefix old new → to ≤ length old
    → between from to (changes new) ≡ between from to (changes old)
prefix-between old new from to numbered renumbered p within =
    sym (changes-between from to new renumbered) ∙ ap (λ (first : Journal). changes (drop from first)) (prefix-take old new to p within)
    ∙ changes-between from to old numbered

-- so is what they touch
pub prefix-touched : (old new : Journal) (from to : ℕ) (seen : List Seen) → AreNumbered old → AreNumbered new → IsPrefix old new → to ≤ length old
    → is_touched (changes new) from to seen ≡ is_touched (changes old) from to seen
prefix-touched old new from to seen numbered renumbered p within =
    ap (λ (some : List Change). list_any (λ z. list_any (meets z) some) seen) (prefix-between old new from to numbered renumbered p within)

-- ---- kinds

-- the changes of a commit are of the kinds of its deltas
commit-kinds : (n : ℕ) (deltas : Deltas) → OfKinds deltas → AreOfTheirKinds (changes_by n deltas)
commit-kinds n [] all = tt
commit-kinds n (pair ∷ deltas) all = (all.0, commit-kinds n deltas all.1)

-- so all changes of a journal are
pub journal-kinds : (journal : Journal) → AllByRecursion (λ commit. OfKinds commit.deltas) journal → AreOfTheirKinds (changes journal)
journal-kinds [] all = tt
journal-kinds (commit ∷ rest) all =
    each-append (λ (change : Change). kind_changed change.delta ≡ change.address.kind) (changes_of commit) (changes rest)
    (commit-kinds commit.number commit.deltas all.0) (journal-kinds rest all.1)

-- and those between two numbers
pub between-kinds : (from to : ℕ) (all : List Change) → AreOfTheirKinds all → AreOfTheirKinds (between from to all)
between-kinds from to all kinds =
    each-filter of_kind (λ change. nat_lt from change.number) (up_to to all) (each-filter of_kind (λ change. nat_le change.number to) all kinds)
  where
    of_kind : Change → Type 0
    of_kind change = kind_changed change.delta ≡ change.address.kind

-- ---- states

-- changes one by one are their deltas one by one
left-applied : (v : Value) (cs : List Change) → left v cs ≡ applied (map (λ c. c.delta) cs) v
left-applied v [] = refl
left-applied v (c ∷ cs) = left-applied (apply c.delta v) cs

-- the deltas of later commits rise as all do
rising-drop : (n : ℕ) (journal : Journal) → AreRising journal → AreRising (drop n journal)
rising-drop zero journal rising = rising
rising-drop (suc n) [] rising = tt
rising-drop (suc n) (commit ∷ rest) rising = rising-drop n rest rising.1

-- the state at a later number
pub state-between : (journal : Journal) (n m : ℕ) (a : Address) → n ≤ m → CanRead journal
    → state journal m a ≡ apply_maybe (pending a (between n m (changes journal))) (state journal n a)
state-between journal n m a up can =
    let ys : Journal = drop n (take m journal) in
    ap (λ (first : Journal). left_by first a) (sym (take-append-drop n (take m journal)))
    ∙ fold-append (λ v commit. after commit.deltas a v) (default_of a.kind) (take n (take m journal)) ys
    ∙ ap (λ (first : Journal). fold (λ v commit. after commit.deltas a v) (left_by first a) ys) (take-take n m journal up)
    ∙ sym (journal-left a ys (state journal n a) (rising-drop n (take m journal) (rising-take m journal can.readable.rising)))
    ∙ left-applied (state journal n a) (of_address a (changes ys))
    ∙ sym (pending_applies_in_turn (changes ys) a (state journal n a)
    (subst AreOfTheirKinds (sym (changes-between n m journal can.readable.numbered))
    (between-kinds n m (changes journal) (journal-kinds journal can.orderly.kinds))))
    ∙ ap (λ (some : List Change). apply_maybe (pending a some) (state journal n a)) (changes-between n m journal can.readable.numbered)
