-- Deltas of sets and hashes: whether all is cleared, and marks at some elements or fields.
use Rattle.std.specs.Prelude.{Bool, true, false, not, ◌&&◌, if◌then◌else◌, Option, Some, None, is_some, nat_eq, ◌≡◌, refl}
use Rattle.std.proofs.Common.{ap}
use Rattle.std.specs.List.{list_all}
use Rattle.std.specs.FinMap as map
use Rattle.std.specs.Coded.{Coded, code_by, coded×, coded_bool, coded_list, coded_ℕ}
use Rattle.plain_data.specs.Texts.{Bytes, MapOf, text_cmp}
use Rattle.plain_data.specs.Overlays.{overlaid}

-- whether what was there is cleared, and then what is done at some keys
pub record Keyed (M : Type 0) : Type 0 where
  pub cleared : Bool
  pub marks : MapOf M

-- it is stored as the pair of its fields
abbrev pub keyed_code : {M : Type 0} → Coded M → Coded (Keyed M)
keyed_code {M} marks =
    code_by (Bool × MapOf M) (coded× coded_bool (map.code (coded_list coded_ℕ) marks)) (λ d. (d.cleared, d.marks))
    (λ p. record { cleared = p.0; marks = p.1 }) (λ _. refl)

module _ {M : Type 0} where
  -- the two parts
  abbrev pub of_parts : Bool → MapOf M → Keyed M
  of_parts cleared marks = record { cleared = cleared; marks = marks }

  -- one mark at a key
  abbrev pub marking : Bytes → M → Keyed M
  marking key mark = record { cleared = false; marks = map.insert map.empty key mark }

  -- all is cleared
  abbrev pub clearing : Keyed M
  clearing = record { cleared = true; marks = map.empty }

-- `left` says what a mark leaves at its key, if anything
module _ {M V : Type 0} (left : M → Option V) where
  -- The form of these deltas: where all is cleared no mark takes anything away, and else there is a mark. So none is
  -- wholly empty.
  abbrev pub has_form : Keyed M → Bool
  has_form d = if d.cleared then list_all (λ mark. is_some (left mark.1)) (map.entries d.marks) else not (nat_eq (map.len d.marks) 0)

  -- the set or hash after a delta: begun with nothing where it clears, and then each mark is done
  abbrev pub applied : Keyed M → MapOf V → MapOf V
  applied d m = overlaid left (if d.cleared then map.empty else m) d.marks

  -- what a later mark leaves among a delta's marks: itself, or nothing where it takes away from what is cleared
  abbrev pub mark_after : Bool → M → Option M
  mark_after cleared mark = if cleared && not (is_some (left mark)) then None else Some mark

  -- The first delta and then the second: the second alone where it clears, and else the marks of the first with those of
  -- the second in their place.
  abbrev pub composed : Keyed M → Keyed M → Keyed M
  composed d e = if e.cleared then e else (record { cleared = d.cleared; marks = overlaid (mark_after d.cleared) d.marks e.marks })

-- to clear nothing and to mark nothing is no delta
nothing-done : {M V : Type 0} (left : M → Option V) → has_form left (of_parts false map.empty) ≡ false
nothing-done {M} left = ap (λ n. not (nat_eq n 0)) (map.len-empty text_cmp M)
