-- The seven kinds: their order, their words, and what an address holds that was never written.
use Rattle.std.specs.Prelude.{List, [], ◌∷◌, map, codes, pos, false}
use Rattle.std.specs.FinMap as map_of
use Rattle.std.specs.declared.cmp.Ordering.TheVariants.{Less, Equal, Greater}
use Rattle.rdt_types.specs.declared.address.Kind.{Kind}
use Rattle.rdt_types.specs.declared.address.Kind.TheVariants as kind
use Rattle.rdt_types.specs.contracts.address.KindOrd.TheImpl as order
use Rattle.rdt_types.specs.declared.value.Value.TheVariants as value
use Rattle.rdt_types.specs.Printed.{word_of}
use Rattle.rdt_types.specs.Values.{default_of}
use Rattle.language_lines.specs.Tables.{Holds}

-- the kinds, in their order
abbrev pub kinds : List Kind
kinds = kind.Bool ∷ kind.Counter ∷ kind.Text ∷ kind.Set ∷ kind.Hash ∷ kind.List ∷ kind.Peak ∷ []

-- how each kind stands to the seven, in their order: each is below those behind it
abbrev pub KindsRise : Type 0
KindsRise =
    Holds (λ k. map (order.ghosts.cmp k) kinds)
    ((kind.Bool, Equal ∷ Less ∷ Less ∷ Less ∷ Less ∷ Less ∷ Less ∷ [])
    ∷ (kind.Counter, Greater ∷ Equal ∷ Less ∷ Less ∷ Less ∷ Less ∷ Less ∷ [])
    ∷ (kind.Text, Greater ∷ Greater ∷ Equal ∷ Less ∷ Less ∷ Less ∷ Less ∷ [])
    ∷ (kind.Set, Greater ∷ Greater ∷ Greater ∷ Equal ∷ Less ∷ Less ∷ Less ∷ [])
    ∷ (kind.Hash, Greater ∷ Greater ∷ Greater ∷ Greater ∷ Equal ∷ Less ∷ Less ∷ [])
    ∷ (kind.List, Greater ∷ Greater ∷ Greater ∷ Greater ∷ Greater ∷ Equal ∷ Less ∷ [])
    ∷ (kind.Peak, Greater ∷ Greater ∷ Greater ∷ Greater ∷ Greater ∷ Greater ∷ Equal ∷ [])
    ∷ [])

-- how each is written
abbrev pub KindsHaveWords : Type 0
KindsHaveWords =
    Holds word_of
    ((kind.Bool, codes "bool")
    ∷ (kind.Counter, codes "counter")
    ∷ (kind.Text, codes "text")
    ∷ (kind.Set, codes "set")
    ∷ (kind.Hash, codes "hash")
    ∷ (kind.List, codes "list")
    ∷ (kind.Peak, codes "peak")
    ∷ [])

-- `false`, 0, `""`, nothing, and 0 again
abbrev pub KindsHaveDefaults : Type 0
KindsHaveDefaults =
    Holds default_of
    ((kind.Bool, value.Bool false)
    ∷ (kind.Counter, value.Counter (pos 0))
    ∷ (kind.Text, value.Text [])
    ∷ (kind.Set, value.Set map_of.empty)
    ∷ (kind.Hash, value.Hash map_of.empty)
    ∷ (kind.List, value.List [])
    ∷ (kind.Peak, value.Peak (pos 0))
    ∷ [])
