-- Maps of one or two keys, which don't compute: what is at a key, and which keys there are.
use Rattle.std.proofs.Common.{◌≡◌, true, false, not, cond, nat_eq, Some, None, [], ap, ◌∙◌}
use Rattle.std.specs.FinMap as maps
use Rattle.std.specs.FinMap.Entries.{put}
use Rattle.std.specs.Ordering.{eq_by_cmp}
use Rattle.std.specs.Cmp.Lexicographic.{nat_list_cmp_total}
use Rattle.plain_data.specs.Texts.{Bytes, text_cmp}
use Rattle.plain_data.proofs.Overlays.{entries-empty, len-one}
use Rattle.conflict_table.specs.Clashes.{has_some}

module _ {V : Type 0} where
  -- nothing is at a key of the empty map
  pub get-none : (x : Bytes) → maps.get (maps.empty {X = V} {R = text_cmp}) x ≡ None
  get-none x = maps.get-empty text_cmp x

  -- at the key that was put there is its value, and at another nothing
  pub get-one : (key : Bytes) (v : V) (x : Bytes) → maps.get (maps.insert {R = text_cmp} maps.empty key v) x ≡ cond (eq_by_cmp text_cmp x key) (Some v) None
  get-one key v x = maps.get-insert nat_list_cmp_total maps.empty key v x ∙ ap (cond (eq_by_cmp text_cmp x key) (Some v)) (get-none x)

  -- of two that were put the later one counts
  pub get-two : (a : Bytes) (v : V) (b : Bytes) (w : V) (x : Bytes)
      → maps.get (maps.insert {R = text_cmp} (maps.insert maps.empty a v) b w) x
      ≡ cond (eq_by_cmp text_cmp x b) (Some w) (cond (eq_by_cmp text_cmp x a) (Some v) None)
  get-two a v b w x =
      maps.get-insert nat_list_cmp_total (maps.insert maps.empty a v) b w x ∙ ap (cond (eq_by_cmp text_cmp x b) (Some w)) (get-one a v x)

  -- behind a removal of the one key there is nothing
  pub get-removed : (key : Bytes) (v : V) (x : Bytes)
      → maps.get (maps.remove (maps.insert {R = text_cmp} maps.empty key v) key) x
      ≡ cond (eq_by_cmp text_cmp x key) None (cond (eq_by_cmp text_cmp x key) (Some v) None)
  get-removed key v x =
      maps.get-remove nat_list_cmp_total (maps.insert maps.empty key v) key x ∙ ap (cond (eq_by_cmp text_cmp x key) None) (get-one key v x)

  -- the pairs of a map to which one is put
  pub entries-two : (a : Bytes) (v : V) (b : Bytes) (w : V)
      → maps.entries (maps.insert {R = text_cmp} (maps.insert maps.empty a v) b w) ≡ put text_cmp b w (put text_cmp a v [])
  entries-two a v b w =
      maps.entries-insert nat_list_cmp_total (maps.insert maps.empty a v) b w
      ∙ ap (put text_cmp b w) (maps.entries-insert nat_list_cmp_total maps.empty a v ∙ ap (put text_cmp a v) entries-empty)

  -- and to which another is put
  pub entries-three : (a : Bytes) (v : V) (b : Bytes) (w : V) (c : Bytes) (u : V)
      → maps.entries (maps.insert {R = text_cmp} (maps.insert (maps.insert maps.empty a v) b w) c u)
      ≡ put text_cmp c u (put text_cmp b w (put text_cmp a v []))
  entries-three a v b w c u =
      maps.entries-insert nat_list_cmp_total (maps.insert (maps.insert maps.empty a v) b w) c u ∙ ap (put text_cmp c u) (entries-two a v b w)

  -- a map of one key has some
  pub some-one : (key : Bytes) (v : V) → has_some (maps.insert maps.empty key v) ≡ true
  some-one key v = ap (λ n. not (nat_eq n 0)) (len-one key v)

-- and the empty one has none
pub some-none : (V : Type 0) → has_some (maps.empty {X = V} {R = text_cmp}) ≡ false
some-none V = ap (λ n. not (nat_eq n 0)) (maps.len-empty text_cmp V)
