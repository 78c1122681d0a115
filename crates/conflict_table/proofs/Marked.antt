-- Deltas of sets and hashes: what they leave, what they change, and what two of them mark.
use Rattle.std.proofs.Common.{◌≡◌, Bool, true, false, not, cond, ◌||◌, [], is_some, Option, Some, None, refl, sym, ap, ◌∙◌}
use Rattle.std.proofs.lemmas.Bool.{false≢true, true≢false}
use Rattle.std.proofs.Math.Bool.{or-true}
use Rattle.std.specs.Cmp.Lexicographic.{nat_list_cmp_total}
use Rattle.std.specs.FinMap as map
use Rattle.plain_data.specs.Texts.{Bytes, MapOf, text_cmp}
use Rattle.plain_data.specs.Overlays.{overlaid, found_after}
use Rattle.plain_data.proofs.Overlays.{get-overlaid, same_map}
use Rattle.rdt_types.specs.Keyed.{Keyed, applied, composed, mark_after}
use Rattle.conflict_table.specs.Clashes.{has_some}
use Rattle.conflict_table.proofs.Keys.{tied, no_key, empty-has_some, key-has_some}

-- what is its own opposite is nothing
pub differs : (a b : Bool) → a ≡ not b → a ≡ b → ⊥
differs true true e f = true≢false e
differs true false e f = true≢false f
differs false true e f = false≢true f
differs false false e f = false≢true e

module _ {M V : Type 0} (left : M → Option V) where
  -- without a mark there is what was there
  unmarked : (o : Option M) (u : Option V) → is_some o ≡ false → found_after left o u ≡ u
  unmarked None u none = refl
  unmarked (Some mark) u none = absurd (true≢false none)

  -- at a key without a mark, what was there stays
  pub get-applied_unmarked : (d : Keyed M) (m : MapOf V) (x : Bytes) → d.cleared ≡ false → map.contains_key d.marks x ≡ false
      → map.get (applied left d m) x ≡ map.get m x
  get-applied_unmarked d m x kept none =
      ap (λ b. map.get (overlaid left (cond b map.empty m) d.marks) x) kept
      ∙ get-overlaid left m d.marks x
      ∙ unmarked (map.get d.marks x) (map.get m x) none

  -- without any mark, all stays
  pub applied_unmarked : (d : Keyed M) (m : MapOf V) → d.cleared ≡ false → has_some d.marks ≡ false → applied left d m ≡ m
  applied_unmarked d m kept none = same_map _ _ (λ x. get-applied_unmarked d m x kept (no_key d.marks x (empty-has_some d.marks none)))

  -- what a delta that clears or marks a key leaves there
  abbrev left_at : Keyed M → Bytes → Option V
  left_at d x = found_after left (map.get d.marks x) None

  -- where all was cleared nothing was there, and else there is a mark, which covers what was
  settled : (b : Bool) (o : Option M) (u : Option V) → (b ≡ true → u ≡ None) → (b || is_some o) ≡ true
      → found_after left o u ≡ found_after left o None
  settled b (Some mark) u cleared h = refl
  settled true None u cleared h = cleared refl
  settled false None u cleared h = absurd (false≢true h)

  -- whatever was there before
  get-applied_marked : (d : Keyed M) (m : MapOf V) (x : Bytes) → (d.cleared || map.contains_key d.marks x) ≡ true
      → map.get (applied left d m) x ≡ left_at d x
  get-applied_marked d m x h =
      get-overlaid left (cond d.cleared map.empty m) d.marks x
      ∙ settled d.cleared (map.get d.marks x) _ (λ b. ap (λ c. map.get (cond c map.empty m) x) b ∙ map.get-empty text_cmp x) h

  -- a map with something at a key exactly where nothing is left there
  abbrev opposite : V → Bytes → Option V → MapOf V
  opposite v x None = map.insert map.empty x v
  opposite v x (Some w) = map.empty

  -- where nothing is left the opposite has its one value, and where something is it is empty
  is_opposite : (v : V) (x : Bytes) (o : Option V) → is_some o ≡ not (map.contains_key (opposite v x o) x)
  is_opposite v x None =
      sym (ap (λ o. not (is_some o)) (map.get-insert nat_list_cmp_total map.empty x v x
      ∙ ap (λ b. cond b (Some v) (map.get (map.empty {R = text_cmp}) x)) (tied x)))
  is_opposite v x (Some w) = sym (ap (λ o. not (is_some o)) (map.get-empty text_cmp x))

  -- a delta that clears or marks a key changes what is there, of some map
  pub changed_at : (v : V) (d : Keyed M) (x : Bytes) → (d.cleared || map.contains_key d.marks x) ≡ true
      → (m : MapOf V) × (map.contains_key (applied left d m) x ≡ not (map.contains_key m x))
  changed_at v d x h =
      let m = opposite v x (left_at d x) in
      (m, ap is_some (get-applied_marked d m x h) ∙ is_opposite v x (left_at d x))

  -- a clear touches every key, the empty one too, and without it some mark has its key
  a_key : (b : Bool) (marks : MapOf M) → (b || has_some marks) ≡ true → (x : Bytes) × ((b || map.contains_key marks x) ≡ true)
  a_key true marks h = ([], refl)
  a_key false marks h = key-has_some marks h

  -- so one that clears or marks any key changes some map
  pub changed : (v : V) (d : Keyed M) → (d.cleared || has_some d.marks) ≡ true → (m : MapOf V) × (applied left d m ≡ m → ⊥)
  changed v d h =
      let key = a_key d.cleared d.marks h in
      let change = changed_at v d key.0 key.1 in
      (change.0, λ same. differs _ _ change.1 (ap (λ m. map.contains_key m key.0) same))

  -- a test of marks that an overlay passes where one of the two does
  module _ (test : MapOf M → Bool) (by_parts : (under over : MapOf M) → test (overlaid (mark_after left false) under over) ≡ (test under || test over)) where
    -- whether a delta clears or its marks pass the test
    abbrev touches : Keyed M → Bool
    touches d = d.cleared || test d.marks

    -- a second that clears stands alone, and a first that clears stays so; else the marks of both pass by parts
    of_parts : (c : Bool) (ms : MapOf M) (b : Bool) (ns : MapOf M)
        → touches (composed left (record { cleared = c; marks = ms }) (record { cleared = b; marks = ns }))
        ≡ ((c || test ms) || (b || test ns))
    of_parts c ms true ns = sym (or-true (c || test ms))
    of_parts true ms false ns = refl
    of_parts false ms false ns = by_parts ms ns

    -- a composition does so where one of the two does
    pub touches-composed : (d e : Keyed M) → touches (composed left d e) ≡ (touches d || touches e)
    touches-composed d e = of_parts d.cleared d.marks e.cleared e.marks
