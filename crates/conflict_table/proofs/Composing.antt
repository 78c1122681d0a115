-- Own operations and the one delta that they compose to: the same reads are decided, and the others observe the same.
use Rattle.std.proofs.Common.{◌≡◌, Bool, true, false, not, cond, ◌||◌, [], ◌∷◌, List, nat_eq, is_some, Option, Some, None, ℤ, refl}
use Rattle.std.proofs.Common.{sym, ap, ◌∙◌}
use Rattle.std.proofs.lemmas.Bool.{or_parts}
use Rattle.std.specs.List.{list_any, AllByRecursion}
use Rattle.std.specs.Ordering.{eq_by_cmp}
use Rattle.std.specs.Cmp.Lexicographic.{nat_list_cmp_total}
use Rattle.std.specs.FinMap as map
use Rattle.plain_data.specs.Texts.{Bytes, text_cmp}
use Rattle.plain_data.proofs.Overlays.{len-one}
use Rattle.rdt_types.specs.declared.address.Kind.{Kind}
use Rattle.rdt_types.specs.declared.value.Value.{Value}
use Rattle.rdt_types.specs.declared.operation.WriteOp.{WriteOp}
use Rattle.rdt_types.specs.declared.operation.WriteOp.TheVariants as op
use Rattle.rdt_types.specs.declared.delta.Delta.{Delta}
use Rattle.rdt_types.specs.Values.{kind_written}
use Rattle.rdt_types.specs.Marks.{added, put_by}
use Rattle.rdt_types.specs.declared.mark.Mark.TheVariants as mark
use Rattle.rdt_types.specs.Deltas.{kind_changed, delta_of, compose, apply}
use Rattle.rdt_types.proofs.OneKind.{OfOneKind, of_one_kind, kind-delta_of, kind-compose, bools, puts, put_then_add, add_then_put, adds}
use Rattle.rdt_types.proofs.OneKind.{texts, sets, hashes, lists, raises}
use Rattle.rdt_types.proofs.Laws.{deltas_write, compositions_apply_in_turn}
use Rattle.conflict_table.specs.declared.observation.Obs.TheVariants as obs
use Rattle.conflict_table.specs.declared.read.ReadOp.{ReadOp}
use Rattle.conflict_table.specs.declared.read.ReadOp.TheVariants as read
use Rattle.conflict_table.specs.Clashes.{clash, clears, names, removes, raises_above}
use Rattle.conflict_table.specs.Reads as reads
use Rattle.conflict_table.specs.Reads.{replay, is_put, is_clear, is_list_remove, is_negative, is_decided, observed, observed_where}
use Rattle.conflict_table.specs.Composed as composed
use Rattle.conflict_table.specs.Composed.{composed_after, composed_of, left_by, if_any, is_decided_by, observed_by}
use Rattle.conflict_table.specs.Laws.{ReadsGoByCompositions}
use Rattle.conflict_table.proofs.Keys.{or_none, has_some-empty}
use Rattle.conflict_table.proofs.Rows.{compositions_clash_by_parts, clears_alone-composed}
use Rattle.conflict_table.proofs.Items.{clears-composed}

-- ---- a test that a composition passes where one of the two deltas does

-- of three tests it is one which two are joined first
or_assoc : (a b c : Bool) → ((a || b) || c) ≡ (a || (b || c))
or_assoc true b c = refl
or_assoc false b c = refl

module _ (k : Kind) (test : Delta → Bool) (by_parts : (first second : Delta) → kind_changed first ≡ kind_changed second
    → test (compose first second) ≡ (test first || test second)) where
  -- operation by operation: each is composed with what came before, and that passes where one of the two does
  after_one : (d : Delta) (own : List WriteOp) → kind_changed d ≡ k → AllByRecursion (λ o. kind_written o ≡ k) own
      → if_any test (composed_after (Some d) own) ≡ (test d || list_any (λ o. test (delta_of o)) own)
  after_one d [] is all = sym (or_none (test d))
  after_one d (o ∷ own) is all =
      let same = is ∙ sym (kind-delta_of o ∙ all.0) in
      after_one (compose d (delta_of o)) own (kind-compose d (delta_of o) ∙ kind-delta_of o ∙ all.0) all.1
      ∙ ap (λ b. b || list_any (λ o. test (delta_of o)) own) (by_parts d (delta_of o) same)
      ∙ or_assoc (test d) (test (delta_of o)) (list_any (λ o. test (delta_of o)) own)

  -- the composition of operations passes it where the delta of one of them does
  pub any-composed : (own : List WriteOp) → AllByRecursion (λ o. kind_written o ≡ k) own
      → if_any test (composed_of own) ≡ list_any (λ o. test (delta_of o)) own
  any-composed [] all = refl
  any-composed (o ∷ own) all = after_one (delta_of o) own (kind-delta_of o ∙ all.0) all.1

  -- so where a test of operations holds
  pub any-operation : (p : WriteOp → Bool) → ((o : WriteOp) → test (delta_of o) ≡ p o) → (own : List WriteOp)
      → AllByRecursion (λ o. kind_written o ≡ k) own
      → if_any test (composed_of own) ≡ list_any p own
  any-operation p is own all = any-composed own all ∙ alike own
    where
      alike : (own : List WriteOp) → list_any (λ o. test (delta_of o)) own ≡ list_any p own
      alike [] = refl
      alike (o ∷ own) = λ i. is o i || alike own i

-- two tests at once
list_any-or : (p q : WriteOp → Bool) (own : List WriteOp) → list_any (λ o. p o || q o) own ≡ (list_any p own || list_any q own)
list_any-or p q [] = refl
list_any-or p q (o ∷ own) = ap (λ b. (p o || q o) || b) (list_any-or p q own) ∙ turned (p o) (q o) (list_any p own) (list_any q own)
  where
    turned : (a b c d : Bool) → ((a || b) || (c || d)) ≡ ((a || c) || (b || d))
    turned true b c d = refl
    turned false true true d = refl
    turned false true false d = refl
    turned false false true d = refl
    turned false false false d = refl

-- ---- each test of deltas, and of operations

-- pair by pair: a put stays one under an addition, and covers what was before it
one_kind-puts : (first second : Delta) → OfOneKind first second
    → composed.puts (compose first second) ≡ (composed.puts first || composed.puts second)
one_kind-puts first second (bools b c) = refl
one_kind-puts first second (puts m n) = refl
one_kind-puts first second (put_then_add m n) = refl
one_kind-puts first second (add_then_put m n) = refl
one_kind-puts first second (adds m n) = refl
one_kind-puts first second (texts x y) = refl
one_kind-puts first second (sets d e) = refl
one_kind-puts first second (hashes d e) = refl
one_kind-puts first second (lists d e) = refl
one_kind-puts first second (raises m n) = refl

-- operation by operation: just the puts of a bool, a counter or a text have a delta that puts
puts-delta_of : (o : WriteOp) → composed.puts (delta_of o) ≡ is_put o
puts-delta_of (op.PutBool b) = refl
puts-delta_of (op.PutCounter n) = refl
puts-delta_of (op.AddCounter n) = refl
puts-delta_of (op.PutText t) = refl
puts-delta_of (op.SetAdd x) = refl
puts-delta_of (op.SetRemove x) = refl
puts-delta_of op.SetClear = refl
puts-delta_of (op.HashPut f t) = refl
puts-delta_of (op.HashRemove f) = refl
puts-delta_of op.HashClear = refl
puts-delta_of (op.ListPush x) = refl
puts-delta_of (op.ListRemove x) = refl
puts-delta_of op.ListClear = refl
puts-delta_of (op.Raise n) = refl

-- no test besides
alone : (a b c : Bool) → (a || false) ≡ ((b || false) || (c || false)) → a ≡ (b || c)
alone a b c is = sym (or_none a) ∙ is ∙ (λ i. or_none b i || or_none c i)

-- pair by pair: a clear of the second stays, and so does one of the first where the second has none
one_kind-clears : (first second : Delta) → OfOneKind first second → clears (compose first second) ≡ (clears first || clears second)
one_kind-clears first second (bools b c) = refl
one_kind-clears first second (puts m n) = refl
one_kind-clears first second (put_then_add m n) = refl
one_kind-clears first second (add_then_put m n) = refl
one_kind-clears first second (adds m n) = refl
one_kind-clears first second (texts x y) = refl
one_kind-clears first second (sets d e) = alone _ _ _ (clears_alone-composed added d e)
one_kind-clears first second (hashes d e) = alone _ _ _ (clears_alone-composed put_by d e)
one_kind-clears first second (lists d e) = clears-composed d e
one_kind-clears first second (raises m n) = refl

-- operation by operation: just the clears have a delta that clears
clears-delta_of : (o : WriteOp) → clears (delta_of o) ≡ is_clear o
clears-delta_of (op.PutBool b) = refl
clears-delta_of (op.PutCounter n) = refl
clears-delta_of (op.AddCounter n) = refl
clears-delta_of (op.PutText t) = refl
clears-delta_of (op.SetAdd x) = refl
clears-delta_of (op.SetRemove x) = refl
clears-delta_of op.SetClear = refl
clears-delta_of (op.HashPut f t) = refl
clears-delta_of (op.HashRemove f) = refl
clears-delta_of op.HashClear = refl
clears-delta_of (op.ListPush x) = refl
clears-delta_of (op.ListRemove x) = refl
clears-delta_of op.ListClear = refl
clears-delta_of (op.Raise n) = refl

-- one mark is at its key and nowhere else
one_mark : {M : Type 0} (x y : Bytes) (mark : M) → map.contains_key (map.insert {R = text_cmp} map.empty y mark) x ≡ eq_by_cmp text_cmp x y
one_mark {M} x y mark =
    ap is_some (map.get-insert nat_list_cmp_total map.empty y mark x ∙ ap (cond (eq_by_cmp text_cmp x y) (Some mark)) (map.get-empty text_cmp x))
    ∙ by (eq_by_cmp text_cmp x y)
  where
    by : (b : Bool) → is_some (cond {A = Option M} b (Some mark) None) ≡ b
    by true = refl
    by false = refl

-- operation by operation: the delta of a clear clears, and the one mark of another stands at the text that it names
names-delta_of : (x : Bytes) (o : WriteOp) → (clears (delta_of o) || names x (delta_of o)) ≡ (is_clear o || reads.names x o)
names-delta_of x (op.PutBool b) = refl
names-delta_of x (op.PutCounter n) = refl
names-delta_of x (op.AddCounter n) = refl
names-delta_of x (op.PutText t) = refl
names-delta_of x (op.SetAdd y) = one_mark x y true
names-delta_of x (op.SetRemove y) = one_mark x y false
names-delta_of x op.SetClear = refl
names-delta_of x (op.HashPut f t) = one_mark x f (mark.Put t)
names-delta_of x (op.HashRemove f) = one_mark x f mark.Removed
names-delta_of x op.HashClear = refl
names-delta_of x (op.ListPush y) = refl
names-delta_of x (op.ListRemove y) = refl
names-delta_of x op.ListClear = refl
names-delta_of x (op.Raise n) = refl

-- operation by operation: the delta of a clear clears, and just that of a removal from a list takes items out
removes-delta_of : (o : WriteOp) → (clears (delta_of o) || removes (delta_of o)) ≡ (is_clear o || is_list_remove o)
removes-delta_of (op.PutBool b) = refl
removes-delta_of (op.PutCounter n) = refl
removes-delta_of (op.AddCounter n) = refl
removes-delta_of (op.PutText t) = refl
removes-delta_of (op.SetAdd x) = refl
removes-delta_of (op.SetRemove x) = refl
removes-delta_of op.SetClear = refl
removes-delta_of (op.HashPut f t) = refl
removes-delta_of (op.HashRemove f) = refl
removes-delta_of op.HashClear = refl
removes-delta_of (op.ListPush x) = has_some-empty map.empty refl
removes-delta_of (op.ListRemove x) = ap (λ n. not (nat_eq n 0)) (len-one x tt)
removes-delta_of op.ListClear = refl
removes-delta_of (op.Raise n) = refl

-- operation by operation: just that of a raise above a number raises above it
raises-delta_of : (n : ℤ) (o : WriteOp) → raises_above n (delta_of o) ≡ reads.raises_above n o
raises-delta_of n (op.PutBool b) = refl
raises-delta_of n (op.PutCounter m) = refl
raises-delta_of n (op.AddCounter m) = refl
raises-delta_of n (op.PutText t) = refl
raises-delta_of n (op.SetAdd x) = refl
raises-delta_of n (op.SetRemove x) = refl
raises-delta_of n op.SetClear = refl
raises-delta_of n (op.HashPut f t) = refl
raises-delta_of n (op.HashRemove f) = refl
raises-delta_of n op.HashClear = refl
raises-delta_of n (op.ListPush x) = refl
raises-delta_of n (op.ListRemove x) = refl
raises-delta_of n op.ListClear = refl
raises-delta_of n (op.Raise m) = refl

-- ---- the law

module _ (k : Kind) (own : List WriteOp) (all : AllByRecursion (λ o. kind_written o ≡ k) own) where
  -- the composition puts where one of the operations does
  puts_alike : if_any composed.puts (composed_of own) ≡ list_any is_put own
  puts_alike = any-operation k composed.puts (λ d e same. one_kind-puts d e (of_one_kind d e same)) is_put puts-delta_of own all

  -- it clears where one of them does
  clears_alike : if_any clears (composed_of own) ≡ list_any is_clear own
  clears_alike = any-operation k clears (λ d e same. one_kind-clears d e (of_one_kind d e same)) is_clear clears-delta_of own all

  -- it clears or marks a text where one of them clears or names it: this is the clash of an element, which goes by parts
  names_alike : (x : Bytes)
      → if_any (λ d. clears d || names x d) (composed_of own) ≡ (list_any is_clear own || list_any (reads.names x) own)
  names_alike x =
      any-operation k (clash (obs.SetHas x)) (compositions_clash_by_parts (obs.SetHas x)) (λ o. is_clear o || reads.names x o) (names-delta_of x) own all
      ∙ list_any-or is_clear (reads.names x) own

  -- it clears or takes items out where one of them does: this is the clash of a place, which goes by parts
  takes_alike : if_any (λ d. clears d || removes d) (composed_of own) ≡ (list_any is_clear own || list_any is_list_remove own)
  takes_alike =
      any-operation k (clash (obs.ListAt 0)) (compositions_clash_by_parts (obs.ListAt 0)) (λ o. is_clear o || is_list_remove o) removes-delta_of own all
      ∙ list_any-or is_clear is_list_remove own

  -- it raises above a number where one of them does: this is the clash of a peak of that height, which goes by parts
  raises_alike : (n : ℤ) → if_any (raises_above n) (composed_of own) ≡ list_any (reads.raises_above n) own
  raises_alike n =
      any-operation k (clash (obs.PeakIs n)) (compositions_clash_by_parts (obs.PeakIs n)) (reads.raises_above n) (raises-delta_of n) own all

  -- read by read, by the test that decides it
  pub decided_alike : (r : ReadOp) → is_decided_by r (composed_of own) ≡ is_decided r own
  decided_alike read.Get = puts_alike
  decided_alike (read.SetHas x) = names_alike x
  decided_alike read.SetAll = clears_alike
  decided_alike (read.HashHas f) = names_alike f
  decided_alike (read.HashGet f) = names_alike f
  decided_alike read.HashFields = clears_alike
  decided_alike (read.ListAt i) = ap (λ b. is_negative i || b) clears_alike
  decided_alike read.ListAll = clears_alike
  decided_alike (read.PeakOver n) = raises_alike n

  -- a delta, if there is one, passes one of two tests where it passes the first or the second
  either_if_any : (d : Option Delta) → if_any (λ d. clears d || removes d) d ≡ (if_any clears d || if_any removes d)
  either_if_any None = refl
  either_if_any (Some d) = refl

  -- without a clear, items are taken out by both or by none
  removes_alike : list_any is_clear own ≡ false → if_any removes (composed_of own) ≡ list_any is_list_remove own
  removes_alike none =
      sym (ap (λ b. b || if_any removes (composed_of own)) (clears_alike ∙ none))
      ∙ sym (either_if_any (composed_of own))
      ∙ takes_alike
      ∙ ap (λ b. b || list_any is_list_remove own) none

  -- what is observed goes by removals at a place of a list alone, and there is no clear where that isn't decided
  pub observed_alike : (r : ReadOp) (v : Value) → is_decided r own ≡ false → observed_by r (composed_of own) v ≡ observed r own v
  observed_alike (read.ListAt i) v none =
      ap (λ b. observed_where (read.ListAt i) b v) (removes_alike (or_parts (is_negative i) (list_any is_clear own) none).1)
  observed_alike r v none = refl

-- a composition leaves what the operations leave
module _ (k : Kind) where
  -- operation by operation: a composition, applied, is one delta after the other, and the delta of an operation is what it writes
  left_after : (d : Delta) (own : List WriteOp) (v : Value) → kind_changed d ≡ k → AllByRecursion (λ o. kind_written o ≡ k) own
      → left_by (composed_after (Some d) own) v ≡ replay own (apply d v)
  left_after d [] v is all = refl
  left_after d (o ∷ own) v is all =
      let same = is ∙ sym (kind-delta_of o ∙ all.0) in
      left_after (compose d (delta_of o)) own v (kind-compose d (delta_of o) ∙ kind-delta_of o ∙ all.0) all.1
      ∙ ap (replay own) (compositions_apply_in_turn d (delta_of o) v same ∙ deltas_write o (apply d v))

  -- so the composition of all operations leaves what they leave, and no operations leave the value itself
  pub left_alike : (own : List WriteOp) (v : Value) → AllByRecursion (λ o. kind_written o ≡ k) own
      → left_by (composed_of own) v ≡ replay own v
  left_alike [] v all = refl
  left_alike (o ∷ own) v all = left_after (delta_of o) own v (kind-delta_of o ∙ all.0) all.1 ∙ ap (replay own) (deltas_write o v)

-- the three parts of the law: what is decided, what is observed, and what is left
pub reads_go_by_compositions : ReadsGoByCompositions
reads_go_by_compositions r k own v all = (decided_alike k own all r, observed_alike k own all r v, left_alike k own v all)
