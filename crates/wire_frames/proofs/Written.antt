-- What is written in two parts.
use Rattle.std.proofs.Common.{◌≡◌, ℕ, ◌+◌, List, ◌++◌, length, take, Option, ap, sym, ◌∙◌, arith, length-append}
use Rattle.std.proofs.lemmas.List.{take-append-le}
use Rattle.std.proofs.Math.Seq.{take-append-add}
use Rattle.dio_core.specs.Sinks.{with_more, TakesPrefix, PassesOn}
use Rattle.dio_core.proofs.Sinks.{with_more-with_more, PassesOn-then}

-- a prefix of the first is one of both
pub prefix_first : (first second : List ℕ) (old new : Option (List ℕ)) → TakesPrefix first old new → TakesPrefix (first ++ second) old new
prefix_first first second old new is = (
  is.0,
  omega (arith, length-append first second, is.1),
  is.2 ∙ ap (with_more old) (sym (take-append-le is.0 first second is.1)),
)

-- so is the first, and a prefix of the second
pub prefix_second : (first second : List ℕ) (old mid new : Option (List ℕ)) → mid ≡ with_more old first → TakesPrefix second mid new
    → TakesPrefix (first ++ second) old new
prefix_second first second old mid new whole is = (
  length first + is.0,
  omega (arith, length-append first second, is.1),
  is.2 ∙ ap (λ taken. with_more taken (take is.0 second)) whole ∙ with_more-with_more old first (take is.0 second)
      ∙ ap (with_more old) (sym (take-append-add first second is.0)),
)

-- both were taken
pub all_both : (first second : List ℕ) (old mid new : Option (List ℕ)) → mid ≡ with_more old first → new ≡ with_more mid second
    → new ≡ with_more old (first ++ second)
all_both first second old mid new whole is = is ∙ ap (λ taken. with_more taken second) whole ∙ with_more-with_more old first second

-- what was passed on meanwhile
pub passes_both : (second : List ℕ) (taken taken_then a b c : Option (List ℕ)) → TakesPrefix second taken taken_then → PassesOn taken a b
    → PassesOn taken_then b c → PassesOn taken_then a c
passes_both second taken taken_then a b c is = PassesOn-then taken taken_then (take is.0 second) a b c is.2
