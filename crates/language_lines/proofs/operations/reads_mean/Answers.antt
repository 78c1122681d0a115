use Rattle.std.proofs.Common.{Bool, true, false, ◌||◌, is_some, Option, [], ◌∷◌, codes, ap}
use Rattle.rdt_types.specs.declared.mark.Mark.TheVariants as mark
use Rattle.txn_grammar.specs.Tokens.{same_kind}
use Rattle.language_lines.proofs.Maps.{get-one, some-one, some-none}
use Rattle.language_lines.proofs.operations.reads_mean.Goals as goal

-- whether something is found
there : {V : Type 0} → Option V → Bool
there found = is_some found

pub returns-clause-clashes : goal.returns-clause-clashes
unfolding same_kind there
returns-clause-clashes c =
    λ i. (true ∷ [])
    ∷ (true ∷ true ∷ [])
    ∷ (true ∷ [])
    ∷ (ap there (get-one (codes "a") true (codes "a")) i ∷ ap there (get-one (codes "a") false (codes "a")) i ∷ true ∷ [])
    ∷ (ap there (get-one (codes "a") true (codes "b")) i ∷ ap there (get-one (codes "a") false (codes "b")) i ∷ true ∷ [])
    ∷ (some-one (codes "a") true i ∷ some-one (codes "a") false i ∷ true ∷ [])
    ∷ (ap there (get-one (codes "f") (mark.Put (codes "a")) (codes "f")) i ∷ ap there (get-one (codes "f") mark.Removed (codes "f")) i ∷ true ∷ [])
    ∷ (ap there (get-one (codes "f") (mark.Put (codes "a")) (codes "g")) i ∷ ap there (get-one (codes "f") mark.Removed (codes "g")) i ∷ true ∷ [])
    ∷ (ap there (get-one (codes "f") (mark.Put (codes "a")) (codes "f")) i ∷ ap there (get-one (codes "f") mark.Removed (codes "f")) i ∷ true ∷ [])
    ∷ (ap there (get-one (codes "f") (mark.Put (codes "a")) (codes "g")) i ∷ ap there (get-one (codes "f") mark.Removed (codes "g")) i ∷ true ∷ [])
    ∷ (some-one (codes "f") (mark.Put (codes "a")) i ∷ some-one (codes "f") mark.Removed i ∷ true ∷ [])
    ∷ (some-none (Unit {0}) i ∷ some-one (codes "a") tt i ∷ true ∷ [])
    ∷ (ap (λ b. b || true) (some-none (Unit {0})) i ∷ ap (λ b. b || false) (some-one (codes "a") tt) i ∷ true ∷ [])
    ∷ (ap (λ b. b || true) (some-none (Unit {0})) i ∷ ap (λ b. b || false) (some-one (codes "a") tt) i ∷ true ∷ [])
    ∷ (true ∷ [])
    ∷ (false ∷ [])
    ∷ (false ∷ [])
    ∷ (true ∷ [])
    ∷ (false ∷ [])
    ∷ []
