-- What begins a journal.
use Rattle.std.proofs.Common.{◌≡◌, ◌≤◌, ◌++◌, length, take, drop, sym, ap, ◌∙◌, arith}
use Rattle.std.proofs.lemmas.List.{take-append-drop, length-take, take-take}
use Rattle.txn_lang.specs.States.{Journal}
use Rattle.docc_prepare.specs.Backends.{IsPrefix}

-- a front is no longer than the whole
pub prefix-shorter : (old new : Journal) → IsPrefix old new → length old ≤ length new
prefix-shorter old new p = let size = length-take (length old) new in let same = ap (λ (xs : Journal). length xs) p in omega arith

-- a front of a front is a front
pub prefix-again : (first second third : Journal) → IsPrefix first second → IsPrefix second third → IsPrefix first third
prefix-again first second third p q =
    sym (take-take (length first) (length second) third (prefix-shorter first second p)) ∙ ap (λ (xs : Journal). take (length first) xs) q ∙ p

-- a longer journal is the journal, and more
pub longer-is : (old new : Journal) → IsPrefix old new → new ≡ old ++ drop (length old) new
longer-is old new p = sym (take-append-drop (length old) new) ∙ ap (λ (first : Journal). first ++ drop (length old) new) p
