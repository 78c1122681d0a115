-- Lists that are begun already. The lemma `turns_begin` of proofs/Levels ties them to the turns of a loop.
use Rattle.std.specs.Prelude.{List, ◌++◌}
use Rattle.predictive_parsing.specs.Reading.{Reader, ◌>>=◌, pure}
use Rattle.txn_grammar.specs.declared.token.Spot.{Spot}

-- what was found before, and what is read behind it
abbrev pub and_more : {A : Type 0} → List A → Reader Spot (List A) → Reader Spot (List A)
and_more found reader = do
  more ← reader
  pure (found ++ more)
