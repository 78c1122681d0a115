-- What a read of a body answers, over what the body has written.
use Rattle.std.specs.Prelude.{◌≡◌, if◌then◌else◌, List, [], ◌∷◌, fold, true, false, Option, Some, None, pos, negsuc, codes, refl}
use Rattle.rdt_types.specs.declared.address.Kind.{Kind}
use Rattle.rdt_types.specs.declared.address.Kind.TheVariants as kind
use Rattle.rdt_types.specs.declared.address.Address.{Address}
use Rattle.rdt_types.specs.declared.delta.Delta.{Delta}
use Rattle.rdt_types.specs.declared.delta.Delta.TheVariants as delta
use Rattle.rdt_types.specs.declared.value.Value.{Value}
use Rattle.rdt_types.specs.declared.value.Value.TheVariants as value
use Rattle.rdt_types.specs.declared.operation.WriteOp.{WriteOp}
use Rattle.rdt_types.specs.declared.operation.WriteOp.TheVariants as op
use Rattle.rdt_types.specs.declared.outcome.Item.{Item}
use Rattle.rdt_types.specs.declared.outcome.Item.TheVariants as item
use Rattle.rdt_types.specs.Values.{default_of, kind_of}
use Rattle.rdt_types.specs.Deltas.{delta_of}
use Rattle.rdt_types.specs.DeltaMaps.{Deltas, delta_at, with_delta}
use Rattle.conflict_table.specs.declared.observation.Obs.{Obs}
use Rattle.conflict_table.specs.declared.observation.Obs.TheVariants as obs
use Rattle.conflict_table.specs.declared.read.ReadOp.{ReadOp}
use Rattle.conflict_table.specs.declared.read.ReadOp.TheVariants as read
use Rattle.conflict_table.specs.Reads.{answer}
use Rattle.conflict_table.specs.Composed.{left_by, is_decided_by, observed_by}
use Rattle.write_buffer.specs.declared.asked.Asked.{Asked}
use Rattle.write_buffer.specs.declared.asked.Asked.TheVariants.{Answered, Need}

-- what a read answers that the own delta doesn't decide: it needs the value, and observes it
abbrev pub with_value : ReadOp → Option Delta → Option Value → Asked
with_value r own None = Need
with_value r own (Some v) = Answered (answer r (left_by own v)) (Some (observed_by r own v))

-- What a read answers over the own delta at its address. Where that decides it, it does so on the default as on any value,
-- and nothing is observed.
abbrev pub asked_over : Option Delta → Address → ReadOp → Option Value → Asked
asked_over own a r base =
    if is_decided_by r own then Answered (answer r (left_by own (default_of a.kind))) None
    else with_value r own base

-- what a read of an address answers over deltas
abbrev pub asked : Deltas → Address → ReadOp → Option Value → Asked
asked deltas a r base = asked_over (delta_at deltas a) a r base

-- a counter that was put needs no value
put-counter : asked_over (Some (delta.PutCounter (pos 7))) (record { kind = kind.Counter; key = codes "x" }) read.Get None
    ≡ Answered (item.Int (pos 7)) None
put-counter = refl

-- one that was added to needs it, and observes it
added-counter-needs : asked_over (Some (delta.AddCounter (pos 1))) (record { kind = kind.Counter; key = codes "x" }) read.Get None ≡ Need
added-counter-needs = refl

added-counter : asked_over (Some (delta.AddCounter (pos 1))) (record { kind = kind.Counter; key = codes "x" }) read.Get (Some (value.Counter (pos 2)))
    ≡ Answered (item.Int (pos 3)) (Some obs.CounterIs)
added-counter = refl

-- ---- own operations in order, and then a read of a value

-- the address of a kind at the key `k`
abbrev at_k : Kind → Address
at_k kind = record { kind = kind; key = codes "k" }

-- what is written there
abbrev wrote : Kind → List WriteOp → Deltas
wrote kind own = fold (λ deltas o. with_delta deltas (at_k kind) (delta_of o)) [] own

-- what a read answers there of a value, if it is known
abbrev read_over : List WriteOp → ReadOp → Kind → Option Value → Asked
read_over own r kind base = asked (wrote kind own) (at_k kind) r base

-- the read answers this of a value that it observes, and needs it
abbrev Observes : List WriteOp → ReadOp → Value → Item → Obs → Type 0
Observes own r v i seen = (read_over own r (kind_of v) (Some v) ≡ Answered i (Some seen)) × (read_over own r (kind_of v) None ≡ Need)

-- the read answers this with the value and without it, and observes nothing
abbrev Decides : List WriteOp → ReadOp → Value → Item → Type 0
Decides own r v i = (read_over own r (kind_of v) (Some v) ≡ Answered i None) × (read_over own r (kind_of v) None ≡ Answered i None)

bool-read : Observes [] read.Get (value.Bool true) (item.Bool true) obs.BoolIs
bool-read = (refl, refl)

bool-put : Decides (op.PutBool false ∷ []) read.Get (value.Bool true) (item.Bool false)
bool-put = (refl, refl)

text-read : Observes [] read.Get (value.Text (codes "o")) (item.Text (codes "o")) obs.TextIs
text-read = (refl, refl)

text-put : Decides (op.PutText (codes "n") ∷ []) read.Get (value.Text (codes "o")) (item.Text (codes "n"))
text-put = (refl, refl)

counter-read : Observes [] read.Get (value.Counter (pos 40)) (item.Int (pos 40)) obs.CounterIs
counter-read = (refl, refl)

counter-added : Observes (op.AddCounter (pos 2) ∷ []) read.Get (value.Counter (pos 40)) (item.Int (pos 42)) obs.CounterIs
counter-added = (refl, refl)

counter-put : Decides (op.PutCounter (pos 7) ∷ []) read.Get (value.Counter (pos 40)) (item.Int (pos 7))
counter-put = (refl, refl)

counter-put-added : Decides (op.PutCounter (pos 7) ∷ op.AddCounter (pos 2) ∷ []) read.Get (value.Counter (pos 40)) (item.Int (pos 9))
counter-put-added = (refl, refl)

counter-added-put : Decides (op.AddCounter (pos 2) ∷ op.PutCounter (pos 7) ∷ []) read.Get (value.Counter (pos 40)) (item.Int (pos 7))
counter-added-put = (refl, refl)

-- a list of three items, of which the first and the last are equal
abbrev o-p-o : Value
o-p-o = value.List (codes "o" ∷ codes "p" ∷ codes "o" ∷ [])

-- a place within the list is observed alone, and one past its end with the whole
list-place : Observes [] (read.ListAt (pos 1)) o-p-o (item.Text (codes "p")) (obs.ListAt 1)
list-place = (refl, refl)

list-past-the-end : Observes [] (read.ListAt (pos 3)) o-p-o (item.Text []) obs.ListAll
list-past-the-end = (refl, refl)

-- nothing is at a negative place of any list
list-negative : Decides [] (read.ListAt (negsuc 0)) o-p-o (item.Text [])
list-negative = (refl, refl)

list-read : Observes [] read.ListAll o-p-o (item.Texts (codes "o" ∷ codes "p" ∷ codes "o" ∷ [])) obs.ListAll
list-read = (refl, refl)

-- after a clear there is only what was pushed since
list-cleared-place : Decides (op.ListClear ∷ op.ListPush (codes "n") ∷ []) (read.ListAt (pos 0)) o-p-o (item.Text (codes "n"))
list-cleared-place = (refl, refl)

list-cleared : Decides (op.ListClear ∷ op.ListPush (codes "n") ∷ []) read.ListAll o-p-o (item.Texts (codes "n" ∷ []))
list-cleared = (refl, refl)

-- a peak is observed with its height, whatever was raised before, and the answer is the greater of the two
peak-read : Observes [] read.Get (value.Peak (pos 40)) (item.Int (pos 40)) (obs.PeakIs (pos 40))
peak-read = (refl, refl)

peak-raised : Observes (op.Raise (pos 50) ∷ []) read.Get (value.Peak (pos 40)) (item.Int (pos 50)) (obs.PeakIs (pos 40))
peak-raised = (refl, refl)

peak-raised-lower : Observes (op.Raise (pos 30) ∷ []) read.Get (value.Peak (pos 40)) (item.Int (pos 40)) (obs.PeakIs (pos 40))
peak-raised-lower = (refl, refl)

-- whether it is above a number is observed with the answer
over-less : Observes [] (read.PeakOver (negsuc 0)) (value.Peak (pos 0)) (item.Bool true) (obs.PeakOver (negsuc 0) true)
over-less = (refl, refl)

not-over-itself : Observes [] (read.PeakOver (pos 40)) (value.Peak (pos 40)) (item.Bool false) (obs.PeakOver (pos 40) false)
not-over-itself = (refl, refl)

-- a raise above the number decides it, and one to the number itself doesn't
raised-above : Decides (op.Raise (pos 41) ∷ op.Raise (pos 1) ∷ []) (read.PeakOver (pos 40)) (value.Peak (pos 7)) (item.Bool true)
raised-above = (refl, refl)

raised-to-it : Observes (op.Raise (pos 40) ∷ []) (read.PeakOver (pos 40)) (value.Peak (pos 7)) (item.Bool false) (obs.PeakOver (pos 40) false)
raised-to-it = (refl, refl)
