-- The laws of deltas, by kind.
use Rattle.std.proofs.Common.{◌≡◌, ℤ, true, false, refl, sym, ap, arith}
use Rattle.std.proofs.lemmas.Grind.{common_steps}
use Rattle.rdt_types.specs.declared.value.Value.{Value}
use Rattle.rdt_types.specs.declared.value.Value.TheVariants as value
use Rattle.rdt_types.specs.declared.mark.Mark.TheVariants as mark
use Rattle.rdt_types.specs.declared.operation.WriteOp.TheVariants as op
use Rattle.rdt_types.specs.declared.delta.Delta.{Delta}
use Rattle.rdt_types.specs.declared.delta.Delta.TheVariants as delta
use Rattle.rdt_types.specs.Values.{wrapping_sum, counter_in, set_in, hash_in, list_in, peak_in}
use Rattle.rdt_types.specs.Marks.{added, put_by}
use Rattle.rdt_types.specs.Deltas.{apply, compose, DeltasWrite, CompositionsApplyInTurn, CompositionsAssociate}
use Rattle.rdt_types.proofs.OneKind.{OfOneKind, of_one_kind, bools, puts, put_then_add, add_then_put, adds, texts, sets, hashes, lists, raises}
use Rattle.rdt_types.proofs.Greater.{int_max-associates}
use Rattle.rdt_types.proofs.Keyed as keyed
use Rattle.rdt_types.proofs.Listed as listed

-- operation by operation
pub deltas_write : DeltasWrite
deltas_write (op.PutBool b) v = refl
deltas_write (op.PutCounter n) v = refl
deltas_write (op.AddCounter n) v = refl
deltas_write (op.PutText t) v = refl
deltas_write (op.SetAdd x) v = ap value.Set (keyed.applied-marking added (set_in v) x true)
deltas_write (op.SetRemove x) v = ap value.Set (keyed.applied-marking added (set_in v) x false)
deltas_write op.SetClear v = ap value.Set (keyed.applied-clearing added (set_in v))
deltas_write (op.HashPut f t) v = ap value.Hash (keyed.applied-marking put_by (hash_in v) f (mark.Put t))
deltas_write (op.HashRemove f) v = ap value.Hash (keyed.applied-marking put_by (hash_in v) f mark.Removed)
deltas_write op.HashClear v = ap value.Hash (keyed.applied-clearing put_by (hash_in v))
deltas_write (op.ListPush x) v = ap value.List (listed.applied-pushing (list_in v) x)
deltas_write (op.ListRemove x) v = ap value.List (listed.applied-removing (list_in v) x)
deltas_write op.ListClear v = refl
deltas_write (op.Raise n) v = refl

-- sums that wrap are associative
adds_in_turn : (m n : ℤ) (v : Value) → wrapping_sum (counter_in v) (wrapping_sum m n) ≡ wrapping_sum (wrapping_sum (counter_in v) m) n
adds_in_turn m n v = grind (arith, common_steps)

-- kind by kind: a put forgets what was before it, and an addition goes into it
in_turn : (first second : Delta) (v : Value) → OfOneKind first second → apply (compose first second) v ≡ apply second (apply first v)
in_turn first second v (bools b c) = refl
in_turn first second v (puts m n) = refl
in_turn first second v (put_then_add m n) = refl
in_turn first second v (add_then_put m n) = refl
in_turn first second v (adds m n) = ap value.Counter (adds_in_turn m n v)
in_turn first second v (texts x y) = refl
in_turn first second v (sets d e) = ap value.Set (keyed.applied-composed added d e (set_in v))
in_turn first second v (hashes d e) = ap value.Hash (keyed.applied-composed put_by d e (hash_in v))
in_turn first second v (lists d e) = ap value.List (listed.applied-composed d e (list_in v))
in_turn first second v (raises m n) = ap value.Peak (sym (int_max-associates (peak_in v) m n))

-- two deltas of equal kinds are one of the pairs for which it holds
pub compositions_apply_in_turn : CompositionsApplyInTurn
compositions_apply_in_turn first second v same = in_turn first second v (of_one_kind first second same)

-- kind by kind: a last put forgets what was before it, and the others go by their parts
associates : (first second third : Delta) → OfOneKind first second → OfOneKind second third
    → compose (compose first second) third ≡ compose first (compose second third)
associates first second third p (bools b c) = refl
associates first second third p (puts m n) = refl
associates first second third p (put_then_add m n) = refl
associates first second third p (add_then_put m n) = refl
associates first second third (put_then_add l m) (adds m' n) = ap delta.PutCounter (sym (adds_in_turn m n (value.Counter l)))
associates first second third (adds l m) (adds m' n) = ap delta.AddCounter (sym (adds_in_turn m n (value.Counter l)))
associates first second third p (texts x y) = refl
associates first second third (sets d e) (sets e' f) = ap delta.Set (keyed.composed-composed added d e f)
associates first second third (hashes d e) (hashes e' f) = ap delta.Hash (keyed.composed-composed put_by d e f)
associates first second third (lists d e) (lists e' f) = ap delta.List (listed.composed-composed d e f)
associates first second third (raises l m) (raises m' n) = ap delta.Raise (int_max-associates l m n)

-- three deltas of equal kinds are two such pairs
pub compositions_associate : CompositionsAssociate
compositions_associate first second third same also =
    associates first second third (of_one_kind first second same) (of_one_kind second third also)
