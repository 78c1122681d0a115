-- The limits of a body's text.
use Rattle.std.specs.Prelude.{◌≡◌, refl}
use Rattle.txn_grammar.specs.declared.limit.TheConstants.{DEEPEST, LONGEST_NAME}

DEEPEST-is : DEEPEST ≡ 32
DEEPEST-is = refl

LONGEST_NAME-is : LONGEST_NAME ≡ 32
LONGEST_NAME-is = refl
