-- What a link that reads ahead has left.
use Rattle.std.proofs.Common.{◌≡◌, ◌≢◌, ◌+◌, ◌-◌, ◌<◌, ◌≤◌, ℕ, List, [], ◌∷◌, ◌++◌, length, take, drop, Option, Some, ap, sym, ◌∙◌, arith}
use Rattle.std.proofs.Common.{subst, take-take, length-append}
use Rattle.std.specs.List.{AllByRecursion}
use Rattle.std.proofs.lemmas.Grind.{common_steps}
use Rattle.std.proofs.lemmas.List.{take_at, length-take, length-take-le}
use Rattle.dio_core.specs.declared.line.TheConstants.{NEWLINE}
use Rattle.dio_core.specs.Lines.{IsLineAhead}
use Rattle.dio_core.specs.Sources.{with_prefix, length_through, Gives}
use Rattle.dio_core.specs.declared.source.Got.TheVariants as got
use Rattle.dio_core.proofs.Lines.{IsUnbroken-all}
use Rattle.dio_core.proofs.Sources.{gives_ahead, length_through-within, with_prefix-split, with_prefix-none}
use Rattle.link_buffer.specs.Ahead.{Ahead, left_of, GivesHeld}

-- what is given of what is held is given of what is left
pub gives-left : {K : Type 0} (left : K → Option (List ℕ)) (n : ℕ) (buffer filled : List ℕ) (old new : Ahead K)
    → 0 < length old.held → 0 < length buffer → GivesHeld (got.Bytes n) buffer filled old new
    → Gives (got.Bytes n) filled (left_of left old) (left_of left new)
gives-left left n buffer filled old new some room gives =
    let m = gives.n in
    let is : n ≡ m = grind (arith, common_steps) in
    let within : m ≤ length old.held = grind (arith, common_steps) in
    let long : length (take m old.held) ≡ m = length-take-le m old.held within in
    let first : take m filled ≡ take m old.held = ap (take m) gives.fills ∙ take_at (take m old.held) (drop m buffer) m long in
    let shown : take m old.held ≡ take n filled = sym first ∙ ap (λ k. take k filled) (sym is) in (
      grind (arith, common_steps),
      grind (arith, common_steps),
      with_prefix-split m old.held (left old.link)
          ∙ ap (λ b. with_prefix b (with_prefix (drop m old.held) (left old.link))) shown
          ∙ ap (λ l. with_prefix (take n filled) (left_of left l)) (sym gives.rest),
    )

-- what is left where some bytes were read ahead and nothing was held
pub left-filled : {K : Type 0} (left : K → Option (List ℕ)) (old new : Ahead K)
    → old.held ≡ [] → left old.link ≡ with_prefix new.held (left new.link) → left_of left old ≡ left_of left new
left-filled left old new none is =
    ap (λ b. with_prefix b (left old.link)) none ∙ with_prefix-none (left old.link) ∙ is

-- a line that was copied with its newline from what is held, and is held no longer, is the next of what is left
pub line-left : (n count : ℕ) (held old new : List ℕ) (behind : Option (List ℕ)) → count ≡ length_through NEWLINE (take (length old) held)
    → new ≡ take count held ++ drop count old → length (take count new) ≡ n + 1 → take count new ≡ take n (take count new) ++ NEWLINE ∷ []
    → IsLineAhead (Some n) new (with_prefix held behind) (with_prefix (drop count held) behind)
line-left n count held old new behind count_is copied long ends =
    let size = length-take (length old) held in
    let most = length_through-within NEWLINE (take (length old) held) in
    let some : 0 < length held = omega (arith, count_is, most, size, long, length-take count new) in
    let room : 0 < length old = omega (arith, count_is, most, size, long, length-take count new) in
    let gave = gives_ahead NEWLINE count held old new behind count_is copied some room in
    let whole : count ≡ n + 1 = omega (arith, long, length-take count new, gave.1.1) in
    let before : count - 1 ≡ n = omega (arith, whole) in
    let first : take n (take count new) ≡ take n new = take-take n count new (omega (arith, whole)) in (
      omega (arith, whole, gave.1.1),
      IsUnbroken-all (take n new) (subst (λ k. AllByRecursion (λ byte. byte ≢ NEWLINE) (take k new)) before gave.2),
      gave.1.2 ∙ ap (λ bytes. with_prefix bytes (with_prefix (drop count held) behind)) (ends ∙ ap (λ bytes. bytes ++ NEWLINE ∷ []) first),
    )

-- no more is copied than is held
pub copied-within : (count : ℕ) (held old : List ℕ) → count ≡ length_through NEWLINE (take (length old) held) → count ≤ length held
copied-within count held old count_is =
    omega (arith, count_is, length_through-within NEWLINE (take (length old) held), length-take (length old) held)

-- and all of it fits
pub copied-fits : (count : ℕ) (held old new : List ℕ) → count ≡ length_through NEWLINE (take (length old) held) → new ≡ take count held ++ drop count old
    → count ≤ length new
copied-fits count held old new count_is copied =
    omega (
      arith,
      copied-within count held old count_is,
      ap length copied,
      length-append (take count held) (drop count old),
      length-take count held,
    )
