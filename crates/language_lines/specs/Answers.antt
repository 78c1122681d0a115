-- What each read answers, behind some writes to an address that was never written before.
use Rattle.std.specs.Prelude.{true, false, List, [], ◌∷◌, codes, pos, negsuc}
use Rattle.rdt_types.specs.declared.address.Kind.{Kind}
use Rattle.rdt_types.specs.declared.address.Kind.TheVariants as kind
use Rattle.rdt_types.specs.declared.operation.WriteOp.{WriteOp}
use Rattle.rdt_types.specs.declared.operation.WriteOp.TheVariants as op
use Rattle.rdt_types.specs.declared.outcome.Item.{Item}
use Rattle.rdt_types.specs.declared.outcome.Item.TheVariants as item
use Rattle.rdt_types.specs.Values.{default_of}
use Rattle.conflict_table.specs.declared.read.ReadOp.{ReadOp}
use Rattle.conflict_table.specs.declared.read.ReadOp.TheVariants as read
use Rattle.conflict_table.specs.Reads.{answer, replay}
use Rattle.language_lines.specs.Tables.{Holds}

-- what a read answers behind writes at an address of a kind
abbrev pub answered : Kind → List WriteOp × ReadOp → Item
answered k (own, r) = answer r (replay own (default_of k))

-- bools, counters and texts
abbrev pub BoolsAnswer : Type 0
BoolsAnswer =
    Holds (answered kind.Bool)
    ((([], read.Get), item.Bool false)
    ∷ ((op.PutBool true ∷ [], read.Get), item.Bool true)
    ∷ ((op.PutBool true ∷ op.PutBool false ∷ [], read.Get), item.Bool false)
    ∷ [])

-- an addition wraps to 64 bits
abbrev pub CountersAnswer : Type 0
CountersAnswer =
    Holds (answered kind.Counter)
    ((([], read.Get), item.Int (pos 0))
    ∷ ((op.AddCounter (pos 2) ∷ op.AddCounter (negsuc 4) ∷ [], read.Get), item.Int (negsuc 2))
    ∷ ((op.AddCounter (pos 2) ∷ op.PutCounter (pos 7) ∷ [], read.Get), item.Int (pos 7))
    ∷ ((op.PutCounter (pos 9223372036854775807) ∷ op.AddCounter (pos 1) ∷ [], read.Get), item.Int (negsuc 9223372036854775807))
    ∷ [])

-- a put replaces
abbrev pub TextsAnswer : Type 0
TextsAnswer =
    Holds (answered kind.Text)
    ((([], read.Get), item.Text []) ∷ ((op.PutText (codes "a") ∷ op.PutText (codes "b") ∷ [], read.Get), item.Text (codes "b")) ∷ [])

-- elements rise in `all`
abbrev pub SetsAnswer : Type 0
SetsAnswer =
    Holds (answered kind.Set)
    ((([], read.SetHas (codes "a")), item.Bool false)
    ∷ ((op.SetAdd (codes "a") ∷ [], read.SetHas (codes "a")), item.Bool true)
    ∷ ((op.SetAdd (codes "a") ∷ [], read.SetHas (codes "b")), item.Bool false)
    ∷ ((op.SetAdd (codes "a") ∷ op.SetRemove (codes "a") ∷ [], read.SetHas (codes "a")), item.Bool false)
    ∷ ((op.SetAdd (codes "a") ∷ op.SetClear ∷ [], read.SetHas (codes "a")), item.Bool false)
    ∷ ((op.SetAdd (codes "b") ∷ op.SetAdd (codes "a") ∷ op.SetAdd (codes "b") ∷ [], read.SetAll), item.Texts (codes "a" ∷ codes "b" ∷ []))
    ∷ [])

-- a field that is absent is read as an empty text; fields rise in `fields`
abbrev pub HashesAnswer : Type 0
HashesAnswer =
    Holds (answered kind.Hash)
    ((([], read.HashGet (codes "f")), item.Text [])
    ∷ ((op.HashPut (codes "f") (codes "a") ∷ [], read.HashGet (codes "f")), item.Text (codes "a"))
    ∷ ((op.HashPut (codes "f") (codes "a") ∷ [], read.HashGet (codes "g")), item.Text [])
    ∷ ((op.HashPut (codes "f") (codes "a") ∷ op.HashPut (codes "f") (codes "b") ∷ [], read.HashGet (codes "f")), item.Text (codes "b"))
    ∷ ((op.HashPut (codes "f") [] ∷ [], read.HashHas (codes "f")), item.Bool true)
    ∷ ((op.HashPut (codes "f") [] ∷ [], read.HashHas (codes "g")), item.Bool false)
    ∷ ((op.HashPut (codes "f") [] ∷ op.HashRemove (codes "f") ∷ [], read.HashHas (codes "f")), item.Bool false)
    ∷ ((op.HashPut (codes "f") [] ∷ op.HashClear ∷ [], read.HashHas (codes "f")), item.Bool false)
    ∷ ((op.HashPut (codes "g") [] ∷ op.HashPut (codes "f") [] ∷ [], read.HashFields), item.Texts (codes "f" ∷ codes "g" ∷ []))
    ∷ [])

-- Places count from 0, and outside the list there is an empty text. A remove takes out every equal item.
abbrev pub ListsAnswer : Type 0
ListsAnswer =
    Holds (answered kind.List)
    ((([], read.ListAll), item.Texts [])
    ∷ ((op.ListPush (codes "a") ∷ op.ListPush (codes "b") ∷ [], read.ListAll), item.Texts (codes "a" ∷ codes "b" ∷ []))
    ∷ (
      (op.ListPush (codes "a") ∷ op.ListPush (codes "b") ∷ op.ListPush (codes "a") ∷ op.ListRemove (codes "a") ∷ [], read.ListAll),
      item.Texts (codes "b" ∷ []),
    )
    ∷ ((op.ListPush (codes "a") ∷ op.ListClear ∷ op.ListPush (codes "b") ∷ [], read.ListAll), item.Texts (codes "b" ∷ []))
    ∷ ((op.ListPush (codes "a") ∷ op.ListPush (codes "b") ∷ [], read.ListAt (pos 0)), item.Text (codes "a"))
    ∷ ((op.ListPush (codes "a") ∷ op.ListPush (codes "b") ∷ [], read.ListAt (pos 1)), item.Text (codes "b"))
    ∷ ((op.ListPush (codes "a") ∷ op.ListPush (codes "b") ∷ [], read.ListAt (pos 2)), item.Text [])
    ∷ ((op.ListPush (codes "a") ∷ op.ListPush (codes "b") ∷ [], read.ListAt (negsuc 0)), item.Text [])
    ∷ [])

-- A raise lowers nothing, and `over` is false of the very value. Both ends of 64 bits can be raised to and held against.
abbrev pub PeaksAnswer : Type 0
PeaksAnswer =
    Holds (answered kind.Peak)
    ((([], read.Get), item.Int (pos 0))
    ∷ ((op.Raise (pos 7) ∷ [], read.Get), item.Int (pos 7))
    ∷ ((op.Raise (pos 7) ∷ op.Raise (pos 5) ∷ [], read.Get), item.Int (pos 7))
    ∷ ((op.Raise (pos 5) ∷ op.Raise (pos 7) ∷ [], read.Get), item.Int (pos 7))
    ∷ ((op.Raise (negsuc 4) ∷ [], read.Get), item.Int (pos 0))
    ∷ ((op.Raise (negsuc 9223372036854775807) ∷ [], read.Get), item.Int (pos 0))
    ∷ ((op.Raise (pos 9223372036854775807) ∷ op.Raise (negsuc 9223372036854775807) ∷ [], read.Get), item.Int (pos 9223372036854775807))
    ∷ ((op.Raise (pos 7) ∷ [], read.PeakOver (pos 6)), item.Bool true)
    ∷ ((op.Raise (pos 7) ∷ [], read.PeakOver (pos 7)), item.Bool false)
    ∷ (([], read.PeakOver (negsuc 0)), item.Bool true)
    ∷ (([], read.PeakOver (negsuc 9223372036854775807)), item.Bool true)
    ∷ ((op.Raise (pos 9223372036854775807) ∷ [], read.PeakOver (pos 9223372036854775807)), item.Bool false)
    ∷ [])
