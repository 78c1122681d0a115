-- The parts of answers are read as they are written.
use Rattle.std.proofs.Common.{◌≡◌, ℕ, ◌^◌, true, false, List, [], ◌∷◌, ◌++◌, Some, refl}
use Rattle.std.specs.Int.{w32}
use Rattle.rdt_types.specs.declared.address.Kind.{Kind}
use Rattle.rdt_types.specs.declared.address.Kind.TheVariants as kind
use Rattle.rdt_types.specs.declared.value.Value.{Value}
use Rattle.rdt_types.specs.declared.value.Value.TheVariants as value
use Rattle.rdt_types.specs.declared.operation.WriteOp.{WriteOp}
use Rattle.rdt_types.specs.declared.operation.WriteOp.TheVariants as op
use Rattle.record_code.specs.declared.tags.TheConstants.{KINDS_TWO}
use Rattle.record_code.specs.Spelling.{kind_byte}
use Rattle.record_code.specs.Fields.{tag_at}
use Rattle.record_code.proofs.Codes.{IsBytes, IsCode, wide32, number_code, int_code, truth_code, nothing_code, pair_code}
use Rattle.record_code.proofs.Codes.{list_code, tagged, variant}
use Rattle.record_code.proofs.OutcomeCodes.{short_code}
use Rattle.record_code.proofs.DeltaCodes.{map_code}
use Rattle.remote_wire.specs.declared.answer_tags.WriteTag.{WriteTag}
use Rattle.remote_wire.specs.declared.answer_tags.WriteTag.TheVariants as written
use Rattle.remote_wire.specs.declared.answer_tags.TheConstants.{WRITE_TAGS}
use Rattle.remote_wire.specs.AnswerSpelling.{short_bytes, value_bytes, op_bytes, witness_bytes}
use Rattle.remote_wire.specs.AnswerForms.{IsFourBytes, IsValue, IsWrite, IsWitness}
use Rattle.remote_wire.specs.AnswerReading.{short_number_at, value_of, value_at, put_of, op_of, op_at, witness_of}
use Rattle.remote_wire.specs.AnswerReading.{witness_at}
use Rattle.remote_wire.proofs.PartCodes.{made_code, bare, long_code, place_code, obs_code}

pub short_number_code : IsCode IsFourBytes short_bytes short_number_at
short_number_code = number_code w32 (2 ^ 32) wide32

-- ---- values

value_again : (x : Value) (rest : List ℕ) → IsValue x → value_at (value_bytes x ++ rest) ≡ Some (x, rest)
unfolding value_at value_of tag_at
value_again (value.Bool true) rest h = refl
value_again (value.Bool false) rest h = refl
value_again (value.Counter n) rest h = rw (int_code.again n rest h) refl
value_again (value.Text text) rest h = rw (short_code.again text rest h) refl
value_again (value.Set texts) rest h = rw ((map_code nothing_code).again texts rest h) refl
value_again (value.Hash fields) rest h = rw ((map_code short_code).again fields rest h) refl
value_again (value.List items) rest h = rw ((list_code short_code).again items rest h) refl
value_again (value.Peak n) rest h = rw (int_code.again n rest h) refl

value_of_takes : (k : Kind) (rest : List ℕ) (z : Value × List ℕ) → IsBytes rest → value_of k rest ≡ Some z
    → IsValue z.0 × ((kind_byte k ∷ []) ++ rest ≡ value_bytes z.0 ++ z.1)
unfolding value_of
value_of_takes kind.Bool rest z fits e = variant truth_code IsValue value_bytes (0 ∷ []) value.Bool (λ x. refl)
    (λ x h. tt) rest z fits e
value_of_takes kind.Counter rest z fits e = variant int_code IsValue value_bytes (1 ∷ []) value.Counter (λ x. refl)
    (λ x h. h) rest z fits e
value_of_takes kind.Text rest z fits e = variant short_code IsValue value_bytes (2 ∷ []) value.Text (λ x. refl)
    (λ x h. h) rest z fits e
value_of_takes kind.Set rest z fits e =
    variant (map_code nothing_code) IsValue value_bytes (3 ∷ []) value.Set (λ x. refl) (λ x h. h) rest z fits e
value_of_takes kind.Hash rest z fits e =
    variant (map_code short_code) IsValue value_bytes (4 ∷ []) value.Hash (λ x. refl) (λ x h. h) rest z fits e
value_of_takes kind.List rest z fits e =
    variant (list_code short_code) IsValue value_bytes (5 ∷ []) value.List (λ x. refl) (λ x h. h) rest z fits e
value_of_takes kind.Peak rest z fits e = variant int_code IsValue value_bytes (6 ∷ []) value.Peak (λ x. refl)
    (λ x h. h) rest z fits e

value_takes : (bytes : List ℕ) (z : Value × List ℕ) → IsBytes bytes → value_at bytes ≡ Some z → IsValue z.0
    × (bytes ≡ value_bytes z.0 ++ z.1)
unfolding value_at
value_takes bytes z fits e = tagged kind_byte KINDS_TWO refl IsValue value_bytes value_of value_of_takes bytes z fits e

pub value_code : IsCode IsValue value_bytes value_at
value_code = record { again = value_again; takes = value_takes }

-- ---- writes

abbrev write_byte : WriteTag → ℕ
write_byte written.PutBool = 0
write_byte written.PutCounter = 1
write_byte written.AddCounter = 2
write_byte written.PutText = 3
write_byte written.SetAdd = 4
write_byte written.SetRemove = 5
write_byte written.SetClear = 6
write_byte written.HashPut = 7
write_byte written.HashRemove = 8
write_byte written.HashClear = 9
write_byte written.ListPush = 10
write_byte written.ListRemove = 11
write_byte written.ListClear = 12
write_byte written.Raise = 13

op_again : (x : WriteOp) (rest : List ℕ) → IsWrite x → op_at (op_bytes x ++ rest) ≡ Some (x, rest)
unfolding op_at op_of tag_at
op_again (op.PutBool true) rest h = refl
op_again (op.PutBool false) rest h = refl
op_again (op.PutCounter n) rest h = rw (int_code.again n rest h) refl
op_again (op.AddCounter n) rest h = rw (int_code.again n rest h) refl
op_again (op.PutText text) rest h = rw (short_code.again text rest h) refl
op_again (op.SetAdd x) rest h = rw (short_code.again x rest h) refl
op_again (op.SetRemove x) rest h = rw (short_code.again x rest h) refl
op_again op.SetClear rest h = refl
op_again (op.HashPut f text) rest h = rw ((pair_code short_code short_code).again (f, text) rest h) refl
op_again (op.HashRemove f) rest h = rw (short_code.again f rest h) refl
op_again op.HashClear rest h = refl
op_again (op.ListPush x) rest h = rw (short_code.again x rest h) refl
op_again (op.ListRemove x) rest h = rw (short_code.again x rest h) refl
op_again op.ListClear rest h = refl
op_again (op.Raise n) rest h = rw (int_code.again n rest h) refl

op_of_takes : (tag : WriteTag) (rest : List ℕ) (z : WriteOp × List ℕ) → IsBytes rest → op_of tag rest ≡ Some z
    → IsWrite z.0 × ((write_byte tag ∷ []) ++ rest ≡ op_bytes z.0 ++ z.1)
unfolding op_of
op_of_takes written.PutBool rest z fits e = variant truth_code IsWrite op_bytes (0 ∷ []) op.PutBool (λ x. refl)
    (λ x h. tt) rest z fits e
op_of_takes written.PutCounter rest z fits e = variant int_code IsWrite op_bytes (1 ∷ []) op.PutCounter (λ x. refl)
    (λ x h. h) rest z fits e
op_of_takes written.AddCounter rest z fits e = variant int_code IsWrite op_bytes (2 ∷ []) op.AddCounter (λ x. refl)
    (λ x h. h) rest z fits e
op_of_takes written.PutText rest z fits e = variant short_code IsWrite op_bytes (3 ∷ []) op.PutText (λ x. refl)
    (λ x h. h) rest z fits e
op_of_takes written.SetAdd rest z fits e = variant short_code IsWrite op_bytes (4 ∷ []) op.SetAdd (λ x. refl)
    (λ x h. h) rest z fits e
op_of_takes written.SetRemove rest z fits e = variant short_code IsWrite op_bytes (5 ∷ []) op.SetRemove (λ x. refl)
    (λ x h. h) rest z fits e
op_of_takes written.SetClear rest z fits e = bare IsWrite op_bytes (6 ∷ []) op.SetClear rest z tt refl e
op_of_takes written.HashPut rest z fits e =
    variant (pair_code short_code short_code) IsWrite op_bytes (7 ∷ []) put_of (λ x. refl) (λ x h. h) rest z fits e
op_of_takes written.HashRemove rest z fits e = variant short_code IsWrite op_bytes (8 ∷ []) op.HashRemove (λ x. refl)
    (λ x h. h) rest z fits e
op_of_takes written.HashClear rest z fits e = bare IsWrite op_bytes (9 ∷ []) op.HashClear rest z tt refl e
op_of_takes written.ListPush rest z fits e = variant short_code IsWrite op_bytes (10 ∷ []) op.ListPush (λ x. refl)
    (λ x h. h) rest z fits e
op_of_takes written.ListRemove rest z fits e = variant short_code IsWrite op_bytes (11 ∷ []) op.ListRemove (λ x. refl)
    (λ x h. h) rest z fits e
op_of_takes written.ListClear rest z fits e = bare IsWrite op_bytes (12 ∷ []) op.ListClear rest z tt refl e
op_of_takes written.Raise rest z fits e = variant int_code IsWrite op_bytes (13 ∷ []) op.Raise (λ x. refl)
    (λ x h. h) rest z fits e

op_takes : (bytes : List ℕ) (z : WriteOp × List ℕ) → IsBytes bytes → op_at bytes ≡ Some z → IsWrite z.0
    × (bytes ≡ op_bytes z.0 ++ z.1)
unfolding op_at
op_takes bytes z fits e = tagged write_byte WRITE_TAGS refl IsWrite op_bytes op_of op_of_takes bytes z fits e

pub op_code : IsCode IsWrite op_bytes op_at
op_code = record { again = op_again; takes = op_takes }

-- ---- witnesses

pub witness_code : IsCode IsWitness witness_bytes witness_at
unfolding witness_at
witness_code =
    made_code (pair_code place_code (pair_code obs_code (pair_code long_code (pair_code op_code long_code)))) IsWitness
    witness_bytes witness_of (λ w. (w.address, (w.obs, (w.base, (w.part, w.number))))) (λ w. refl) (λ x. refl)
    (λ x h. record { key = h.0; observed = h.1.0; base = h.1.1.0; part = h.1.1.1.0; number = h.1.1.1.1 })
    (λ w h. (h.key, (h.observed, (h.base, (h.part, h.number)))))
