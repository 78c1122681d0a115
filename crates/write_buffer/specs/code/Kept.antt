-- The walk over a list's items past those that are taken out. The lemma `place_kept` of proofs/Over ties it to the list
-- without them.
use Rattle.std.specs.Prelude.{◌-◌, ℕ, if◌then◌else◌, nat_eq, List, [], ◌∷◌, Result, Ok, Err}
use Rattle.plain_data.specs.Texts.{Bytes, SetOfTexts, has_text}

-- the item at a place among those that stay, or how many places are left behind them
abbrev pub kept_from : SetOfTexts → List Bytes → ℕ → Result Bytes ℕ
kept_from removed [] left = Err left
kept_from removed (x ∷ xs) left =
    if has_text removed x then kept_from removed xs left
    else (if nat_eq left 0 then Ok x else kept_from removed xs (left - 1))
