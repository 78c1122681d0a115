-- What a map has at each key, once a value is put at one.
use Rattle.std.specs.Prelude.{◌≡◌, Some, if◌then◌else◌}
use Rattle.std.specs.declared.cmp.Ordering.{Ordering}
use Rattle.std.specs.BTreeMap.{BTreeMap, get, is_at}

-- at the key stands what was put there, and at all others what stood there
abbrev pub IsPut : {K V : Type 0} → (K → K → Ordering) → K → V → BTreeMap K V → BTreeMap K V → Type 0
IsPut cmp key value old new = (q : _) → get cmp new q ≡ (if is_at (cmp key) q then Some value else get cmp old q)
