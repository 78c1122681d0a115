-- The printed form of values, outcomes and write parts. That of texts and addresses stands beside addresses, since it
-- says in which shard a value is kept.
use Rattle.std.specs.Prelude.{◌≡◌, Bool, true, false, List, [], ◌∷◌, ◌++◌, length, take, negsuc, codes, refl}
use Rattle.std.specs.List.{flat_map}
use Rattle.std.specs.Fmt.{signed_decimal, digits}
use Rattle.plain_data.specs.Texts.{Bytes}
use Rattle.rdt_types.specs.declared.outcome.Item.{Item}
use Rattle.rdt_types.specs.declared.outcome.Item.TheVariants as item
use Rattle.rdt_types.specs.declared.outcome.Outcome.{Outcome}
use Rattle.rdt_types.specs.declared.outcome.Outcome.TheVariants as outcome
use Rattle.rdt_types.specs.declared.operation.WriteOp.{WriteOp}
use Rattle.rdt_types.specs.declared.operation.WriteOp.TheVariants as op
use Rattle.rdt_types.specs.Printed.{printed_text}

-- what stood in a text stands, whatever a printer answers: behind it are some more bytes, or none
abbrev pub Grows : Bytes → Bytes → Type 0
Grows old new = take (length old) new ≡ old

-- a truth value, by its word
abbrev pub printed_bool : Bool → Bytes
printed_bool true = codes "true"
printed_bool false = codes "false"

-- a text behind a comma
abbrev pub after_comma : Bytes → Bytes
after_comma text = 44 ∷ printed_text text

-- texts with a comma between each two
abbrev pub separated : List Bytes → Bytes
separated [] = []
separated (first ∷ rest) = printed_text first ++ flat_map after_comma rest

-- texts, in brackets
abbrev pub printed_texts : List Bytes → Bytes
printed_texts texts = 91 ∷ (separated texts ++ 93 ∷ [])

-- a value that a body emits; an int in decimal, with `-` before a negative one and no zero in front
abbrev pub printed_item : Item → Bytes
printed_item (item.Int n) = signed_decimal n
printed_item (item.Bool b) = printed_bool b
printed_item (item.Text text) = printed_text text
printed_item (item.Texts texts) = printed_texts texts

-- a value behind a space
abbrev pub after_space : Item → Bytes
after_space value = 32 ∷ printed_item value

-- how a body ended
abbrev pub printed_outcome : Outcome → Bytes
printed_outcome (outcome.Ok items) = codes "ok" ++ flat_map after_space items
printed_outcome (outcome.Fail reason) = codes "fail " ++ printed_text reason
printed_outcome outcome.Spent = codes "spent"
printed_outcome outcome.Big = codes "big"

-- one write, without its kind: a row for each
abbrev pub printed_part : WriteOp → Bytes
printed_part (op.PutBool b) = codes "put " ++ printed_bool b
printed_part (op.PutCounter n) = codes "put " ++ signed_decimal n
printed_part (op.AddCounter n) = codes "add " ++ signed_decimal n
printed_part (op.PutText text) = codes "put " ++ printed_text text
printed_part (op.SetAdd element) = codes "add " ++ printed_text element
printed_part (op.SetRemove element) = codes "remove " ++ printed_text element
printed_part op.SetClear = codes "clear"
printed_part (op.HashPut field text) = codes "put " ++ (printed_text field ++ 32 ∷ printed_text text)
printed_part (op.HashRemove field) = codes "remove " ++ printed_text field
printed_part op.HashClear = codes "clear"
printed_part (op.ListPush element) = codes "push " ++ printed_text element
printed_part (op.ListRemove element) = codes "remove " ++ printed_text element
printed_part op.ListClear = codes "clear"
printed_part (op.Raise n) = codes "raise " ++ signed_decimal n

-- ---- worked rows

-- a text behind which one more byte stands
one-more : Grows (codes "ok ") (codes "ok 1")
one-more = refl

-- two values
two-values : printed_outcome (outcome.Ok (item.Bool true ∷ item.Texts (codes "a" ∷ codes "" ∷ []) ∷ [])) ≡ codes "ok true [\"a\",\"\"]"
two-values = refl

-- no texts
no-texts : printed_item (item.Texts []) ≡ codes "[]"
no-texts = refl

-- a field and a text
field-put : printed_part (op.HashPut (codes "f") (codes "v")) ≡ codes "put \"f\" \"v\""
field-put = refl

-- a raise to a number below 0
peak-raised : printed_part (op.Raise (negsuc 49)) ≡ codes "raise -50"
unfolding digits
peak-raised = refl

-- a list's removal
element-taken-out : printed_part (op.ListRemove (codes "x")) ≡ codes "remove \"x\""
element-taken-out = refl
