-- The words of operations: each is printed as the table of its kind spells it.
use Rattle.std.proofs.Common.{◌≡◌, ℕ, Bool, true, false, cond, ◌&&◌, List, [], ◌∷◌, map, find, Some, refl, subst}
use Rattle.std.specs.Option.{option_map}
use Rattle.std.specs.Str.{bytes_eq}
use denote.Enum.Bare.{same_true}
use Rattle.plain_data.specs.Texts.{Bytes}
use Rattle.rdt_types.specs.declared.address.Kind.{Kind}
use Rattle.rdt_types.specs.contracts.address.Kind.{the_type}
use Rattle.txn_trees.specs.declared.word.ReadWord.{ReadWord}
use Rattle.txn_trees.specs.declared.word.WriteWord.{WriteWord}
use Rattle.txn_grammar.specs.declared.operation.Operation.{Operation}
use Rattle.txn_grammar.specs.declared.operation.TheConstants.{WRITES, READS}
use Rattle.txn_grammar.specs.Tokens.{same_kind, operation, operation_in, read_named, write_named}
use Rattle.txn_print.specs.Canonical.{read_name, write_name}
use Rattle.txn_print.proofs.Back.{Each}

-- a row of a table of operations: the kind, the spelling, the word, and the number of arguments
abbrev Row : Type 0 → Type 0
Row W = Kind × Bytes × W × ℕ

-- where two things hold, the first does
both_true : (a b : Bool) → a && b ≡ true → a ≡ true
both_true true b e = refl
both_true false b e = absurd (cc)

-- the test on kinds says true of no two different ones
same_is : (a b : Kind) → same_kind a b ≡ true → a ≡ b
unfolding same_kind
same_is a b e = same_true the_type tt a b e

-- What a table gives for a kind and some spelling it gives for the kind and the spelling that is printed, if it does so
-- in each row.
module _ {W : Type 0} (name : W → Bytes) (all : List (Row W)) where
  -- the table gives a row's word and arguments for its kind and the spelling that is printed of its word
  abbrev Again : Row W → Type 0
  Again row = operation_in all row.0 (name row.2) ≡ Some (operation row.2 row.3)

  -- by whether the first row is the one
  again_by : (row : Row W) (rows : List (Row W)) (k : Kind) (n : Bytes) (op : Operation W) → Again row
      → (operation_in rows k n ≡ Some op → operation_in all k (name op.word) ≡ Some op)
      → (b : Bool) → same_kind row.0 k && bytes_eq row.1 n ≡ b
      → option_map (λ (r : Row W). operation r.2 r.3) (cond b (Some row) (find (λ (r : Row W). same_kind r.0 k && bytes_eq r.1 n) rows)) ≡ Some op
      → operation_in all k (name op.word) ≡ Some op
  again_by row rows k n op h others true t f =
      let is : operation row.2 row.3 ≡ op = cc in
      let kind : row.0 ≡ k = same_is row.0 k (both_true _ _ t) in
      subst (λ (o : Operation W). operation_in all k (name o.word) ≡ Some o) is
      (subst (λ (x : Kind). operation_in all x (name row.2) ≡ Some (operation row.2 row.3)) kind h)
  again_by row rows k n op h others false t f = others f

  -- row by row, up to the one that gave it
  again_in : (rows : List (Row W)) (k : Kind) (n : Bytes) (op : Operation W) → Each Again rows → operation_in rows k n ≡ Some op
      → operation_in all k (name op.word) ≡ Some op
  again_in [] k n op h e = absurd (cc)
  again_in (row ∷ rows) k n op h e =
      again_by row rows k n op h.0 (λ f. again_in rows k n op h.1 f) (same_kind row.0 k && bytes_eq row.1 n) refl e

-- a read's word
pub read_again : (k : Kind) (n : Bytes) (op : Operation ReadWord) → read_named k n ≡ Some op → read_named k (read_name op.word) ≡ Some op
unfolding read_named same_kind
read_again k n op e =
    let rows : List (Row ReadWord) = map (λ row. (row.0, row.1.now, row.2, row.3)) READS in
    again_in read_name rows rows k n op (refl, (refl, (refl, (refl, (refl, (refl, (refl, (refl, (refl, (refl, (refl, (refl, tt)))))))))))) e

-- a write's word
pub write_again : (k : Kind) (n : Bytes) (op : Operation WriteWord) → write_named k n ≡ Some op
    → write_named k (write_name op.word) ≡ Some op
unfolding write_named same_kind
write_again k n op e =
    let rows : List (Row WriteWord) = map (λ row. (row.0, row.1.now, row.2, row.3)) WRITES in
    again_in write_name rows rows k n op (refl, (refl, (refl, (refl, (refl, (refl, (refl, (refl, (refl, (refl, (refl, (refl, (refl, (refl, tt)))))))))))))) e
