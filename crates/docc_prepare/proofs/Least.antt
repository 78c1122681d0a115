-- The least pair of a journal is its first pair; and so it has a witness.
use Rattle.std.proofs.Common.{◌≡◌, ℕ, List, Option, Some, None, MatchOption, inl, inr, ap, ◌∙◌, arith}
use Rattle.std.specs.Option.{option_and_then}
use Rattle.abort_witness.specs.declared.witness.Based.{Based}
use Rattle.abort_witness.specs.declared.witness.Found.{Found}
use Rattle.abort_witness.specs.Pairs.{IsUpTo, IsLeast, HasNoPair}
use Rattle.txn_lang.specs.States.{Journal}
use Rattle.journal_core.specs.Changes.{changes}
use Rattle.journal_core.specs.Pairs.{least_pair}
use Rattle.journal_core.proofs.LeastOfAll.{least-pair-is-least}
use Rattle.docc_prepare.specs.Serial.{IsOrderly}
use Rattle.docc_prepare.specs.Witnesses.{witness_of, WitnessIsNamed}
use Rattle.docc_prepare.proofs.Witnessed.{witness-there}

-- a find, by its place and its number
abbrev found_of : ℕ → ℕ → Found
found_of place number = record { place = place; number = number }

-- two that are up to each other are one
up-to-both : (f g : Found) → IsUpTo f g → IsUpTo g f → f ≡ g
up-to-both f g (inl l) (inl m) = absurd (omega arith)
up-to-both f g (inl l) (inr m) = absurd (let e = m.0 in omega arith)
up-to-both f g (inr l) (inl m) = absurd (let e = l.0 in omega arith)
up-to-both f g (inr l) (inr m) =
    let number = l.0 in
    let up = l.1 in
    let down = m.1 in
    let place : f.place ≡ g.place = omega arith in
    ap (λ (p : ℕ). found_of p f.number) place ∙ ap (λ (n : ℕ). found_of g.place n) number

-- the journal's first pair is the least of all, and so it is each least one
pub least-is-found : (bs : List Based) (journal : Journal) (found : Found) → IsOrderly journal → IsLeast bs (changes journal) found
    → least_pair bs journal ≡ Some found
least-is-found bs journal found orderly is = by (least_pair bs journal) (least-pair-is-least bs journal orderly.numbered)
  where
    by : (o : Option Found) → MatchOption o (HasNoPair bs (changes journal)) (IsLeast bs (changes journal)) → o ≡ Some found
    by None none = absurd (none found is.pair)
    by (Some f) l = ap (λ (x : Found). Some x) (up-to-both f found (l.least found is.pair) (is.least f l.pair))

-- the least pair is the journal's first, which has a witness that names both
pub witness_is_named : WitnessIsNamed
witness_is_named bs journal found orderly each is =
    let least = least-is-found bs journal found orderly is in
    let w = witness-there bs journal found orderly each least in
    (w.0, ap (option_and_then (witness_of bs journal)) least ∙ w.1, w.2)
