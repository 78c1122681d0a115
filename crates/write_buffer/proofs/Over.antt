-- Values over which a delta lies: what stands at a key and at a place.
use Rattle.std.proofs.Common.{◌≡◌, ◌-◌, ℕ, zero, suc, nat_eq, Bool, true, false, not, cond, List, [], ◌∷◌, ◌++◌}
use Rattle.std.proofs.Common.{slice_get, Option, Some, None, Result, Ok, Err, is_some, refl, sym, ap, ◌∙◌}
use Rattle.std.proofs.Common.{arith}
use Rattle.std.specs.FinMap as map
use Rattle.std.proofs.Common.{map as list_map}
use Rattle.plain_data.specs.Texts.{Bytes, MapOf, SetOfTexts, text_cmp, has_text}
use Rattle.plain_data.specs.Overlays.{found_after}
use Rattle.plain_data.proofs.Overlays.{get-overlaid, entries-empty, nonzero}
use Rattle.rdt_types.specs.declared.value.Value.{Value}
use Rattle.rdt_types.specs.declared.value.Value.TheVariants as value
use Rattle.rdt_types.specs.declared.delta.Delta.{Delta}
use Rattle.rdt_types.specs.declared.delta.Delta.TheVariants as delta
use Rattle.rdt_types.specs.Values.{set_in, hash_in, list_in}
use Rattle.rdt_types.specs.Deltas.{apply}
use Rattle.rdt_types.specs.Marks.{added}
use Rattle.rdt_types.specs.declared.mark.Mark.{Mark}
use Rattle.rdt_types.specs.Keyed.{Keyed, applied}
use Rattle.rdt_types.specs.Listed as listed
use Rattle.rdt_types.specs.Listed.{Listed, without}
use Rattle.rdt_types.proofs.Keyed.{begun-get}
use Rattle.rdt_types.proofs.Listed.{without-none}
use Rattle.write_buffer.specs.code.Kept.{kept_from}

-- ---- sets and hashes

module _ {M V : Type 0} (left : M → Option V) where
  -- at a key stands what its mark leaves, or what was there, if that isn't cleared
  pub get-applied : (d : Keyed M) (m : MapOf V) (x : Bytes) (o : Option M) (b : Bool) → map.get d.marks x ≡ o → d.cleared ≡ b
      → map.get (applied left d m) x ≡ found_after left o (cond b None (map.get m x))
  get-applied d m x o b marked is =
      get-overlaid left (cond d.cleared map.empty m) d.marks x
      ∙ ap (λ u. found_after left (map.get d.marks x) u) (begun-get left d.cleared m x ∙ ap (λ c. cond c None (map.get m x)) is)
      ∙ ap (λ p. found_after left p (cond b None (map.get m x))) marked

-- an element is there exactly where its mark adds it
pub added-is : (b : Bool) → is_some (added b) ≡ b
added-is true = refl
added-is false = refl

-- an element that is marked
pub has-marked : (d : Keyed Bool) (s : SetOfTexts) (x : Bytes) (b : Bool) → map.get d.marks x ≡ Some b → has_text (applied added d s) x ≡ b
has-marked d s x b marked = ap is_some (get-applied added d s x (Some b) d.cleared marked refl) ∙ added-is b

-- one that isn't
pub has-unmarked : (d : Keyed Bool) (s : SetOfTexts) (x : Bytes) (b : Bool) → map.get d.marks x ≡ None → d.cleared ≡ b
    → has_text (applied added d s) x ≡ cond b false (has_text s x)
has-unmarked d s x true marked is = ap is_some (get-applied added d s x None true marked is)
has-unmarked d s x false marked is = ap is_some (get-applied added d s x None false marked is)

-- the empty map has no pairs, and so lists no keys
pub no_keys : (V : Type 0) → map.keys (map.empty {X = V} {R = text_cmp}) ≡ []
no_keys V = ap (λ (es : List (Bytes × V)). list_map (λ e. e.0) es) entries-empty

-- ---- lists

-- what is found among the items that stay, or behind them
abbrev pub kept_or : Result Bytes ℕ → List Bytes → Option Bytes
kept_or (Ok x) pushed = Some x
kept_or (Err left) pushed = slice_get pushed left

-- a place among the items that stay, and then among those that are pushed
pub place_kept : (removed : SetOfTexts) (items pushed : List Bytes) (place : ℕ)
    → slice_get (without removed items ++ pushed) place ≡ kept_or (kept_from removed items place) pushed
place_kept removed [] pushed place = refl
place_kept removed (x ∷ items) pushed place = by (has_text removed x) place (place_kept removed items pushed)
  where
    by : (b : Bool) (place : ℕ) → ((k : ℕ) → slice_get (without removed items ++ pushed) k ≡ kept_or (kept_from removed items k) pushed)
        → slice_get (cond (not b) (x ∷ without removed items) (without removed items) ++ pushed) place
        ≡ kept_or (cond b (kept_from removed items place) (cond (nat_eq place 0) (Ok x) (kept_from removed items (place - 1)))) pushed
    by true place rest = rest place
    by false zero rest = refl
    by false (suc i) rest =
        rest i ∙ ap (λ k. kept_or (kept_from removed items k) pushed) (let same : i ≡ suc i - 1 = omega arith in same)
        ∙ ap (λ b. kept_or (cond b (Ok x) (kept_from removed items (suc i - 1))) pushed) (sym (nonzero i))

-- ---- whole deltas

-- the list after a delta that doesn't clear
kept_list : (d : Listed) (items : List Bytes) → d.cleared ≡ false → listed.applied d items ≡ without d.removed items ++ d.pushed
kept_list d items is = ap (λ b. cond b [] (without d.removed items) ++ d.pushed) is

-- a place after such a delta is one among the items that stay, or behind them among those that are pushed
pub kept_place : (d : Listed) (items : List Bytes) (place : ℕ) → d.cleared ≡ false
    → slice_get (listed.applied d items) place ≡ kept_or (kept_from d.removed items place) d.pushed
kept_place d items place is = ap (λ xs. slice_get xs place) (kept_list d items is) ∙ place_kept d.removed items d.pushed place

-- after one that takes nothing out either
pub whole_list : (d : Listed) (items : List Bytes) → d.cleared ≡ false → d.removed ≡ map.empty → listed.applied d items ≡ items ++ d.pushed
whole_list d items is none = kept_list d items is ∙ ap (λ r. without r items ++ d.pushed) none ∙ ap (λ xs. xs ++ d.pushed) (without-none items)

-- ---- values and deltas of other kinds

-- a value that isn't a set holds the empty one
pub not_set : (v : Value) → ((s : SetOfTexts) → v ≡ value.Set s → ⊥) → set_in v ≡ map.empty
not_set (value.Set s) other = absurd (other s refl)
not_set _ other = refl

-- a value that isn't a hash holds the empty one
pub not_hash : (v : Value) → ((m : MapOf Bytes) → v ≡ value.Hash m → ⊥) → hash_in v ≡ map.empty
not_hash (value.Hash m) other = absurd (other m refl)
not_hash _ other = refl

-- a value that isn't a list holds the empty one
pub not_list : (v : Value) → ((items : List Bytes) → v ≡ value.List items → ⊥) → list_in v ≡ []
not_list (value.List items) other = absurd (other items refl)
not_list _ other = refl

-- after a delta of another kind a value holds the empty set
pub other_set : (d : Delta) (v : Value) → ((e : Keyed Bool) → d ≡ delta.Set e → ⊥) → set_in (apply d v) ≡ map.empty
other_set (delta.Set e) v other = absurd (other e refl)
other_set _ v other = refl

-- after a delta of another kind a value holds the empty hash
pub other_hash : (d : Delta) (v : Value) → ((e : Keyed Mark) → d ≡ delta.Hash e → ⊥) → hash_in (apply d v) ≡ map.empty
other_hash (delta.Hash e) v other = absurd (other e refl)
other_hash _ v other = refl

-- after a delta of another kind a value holds the empty list
pub other_list : (d : Delta) (v : Value) → ((e : Listed) → d ≡ delta.List e → ⊥) → list_in (apply d v) ≡ []
other_list (delta.List e) v other = absurd (other e refl)
other_list _ v other = refl

-- the empty set has no element
pub has_none : (s : SetOfTexts) (x : Bytes) → s ≡ map.empty → has_text s x ≡ false
has_none s x is = ap (λ s. has_text s x) is ∙ ap is_some (map.get-empty text_cmp x)

-- the empty hash has no field
pub get_none : (m : MapOf Bytes) (x : Bytes) → m ≡ map.empty → map.get m x ≡ None
get_none m x is = ap (λ m. map.get m x) is ∙ map.get-empty text_cmp x

-- an empty map lists no keys
pub keys_none : {V : Type 0} (m : MapOf V) → m ≡ map.empty → map.keys m ≡ []
keys_none {V} m is = ap (λ m. map.keys m) is ∙ no_keys V
