-- A value of another kind holds what a default holds.
use Rattle.std.proofs.Common.{◌≡◌, false, None, refl, sym, ap, ◌∙◌}
use Rattle.std.specs.FinMap as map
use Rattle.plain_data.specs.Texts.{Bytes, MapOf, SetOfTexts, has_text, text_cmp}
use Rattle.rdt_types.specs.declared.value.Value.{Value}
use Rattle.rdt_types.specs.declared.value.Value.TheVariants as value
use Rattle.rdt_types.specs.Values.{set_in, hash_in}
use Rattle.conflict_table.proofs.Keys.{no_key}

-- a value that isn't a set holds the empty one
no_set : (v : Value) → ((s : SetOfTexts) → v ≡ value.Set s → ⊥) → set_in v ≡ map.empty
no_set (value.Set s) other = absurd (other s refl)
no_set v other = refl

-- a value that isn't a hash holds the empty one
no_hash : (v : Value) → ((m : MapOf Bytes) → v ≡ value.Hash m → ⊥) → hash_in v ≡ map.empty
no_hash (value.Hash m) other = absurd (other m refl)
no_hash v other = refl

-- what isn't a set has no element
pub no_element : (v : Value) (x : Bytes) → ((s : SetOfTexts) → v ≡ value.Set s → ⊥) → false ≡ has_text (set_in v) x
no_element v x other = sym (no_key (set_in v) x (no_set v other))

-- and what isn't a hash has no field
pub no_field : (v : Value) (f : Bytes) → ((m : MapOf Bytes) → v ≡ value.Hash m → ⊥) → None ≡ map.get (hash_in v) f
no_field v f other = sym (ap (λ m. map.get m f) (no_hash v other) ∙ map.get-empty text_cmp f)
