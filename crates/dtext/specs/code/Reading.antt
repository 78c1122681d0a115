-- The readers of spellings, as functions: they look one byte ahead, form by form as the rules have them, and the code is
-- proved equal to them. Judge by the rules of specs/Spellings: the law `readers_are_rules` ties each reader to its rule.
-- Marks stand by their bytes, as in the rules; of the first letters of words 97 is `a`, 98 `b`, 99 `c`, 102 `f`,
-- 104 `h`, 111 `o`, 112 `p`, 114 `r`, 115 `s`, and 116 `t`.
use Rattle.std.specs.Prelude.{ℕ, ◌-◌, Bool, false, not, ◌&&◌, ◌||◌, nat_eq, nat_le, if◌then◌else◌, List, [], ◌∷◌, ℤ}
use Rattle.std.specs.Prelude.{pos, neg_ℤ, codes, Option, Some, None, Ok}
use Rattle.plain_data.specs.Texts.{Bytes}
use Rattle.predictive_parsing.specs.Reading.{Reader, ◌>>=◌, pure, ahead, one, either, many, list, optional, of, guided}
use Rattle.predictive_parsing.specs.Bytes.{byte, sees, word, behind}
use Rattle.predictive_parsing.specs.Digits.{with_digit}
use Rattle.rdt_types.specs.declared.address.Kind.{Kind}
use Rattle.rdt_types.specs.declared.address.Kind.TheVariants as kinds
use Rattle.rdt_types.specs.declared.address.Address.{Address}
use Rattle.rdt_types.specs.declared.outcome.Item.{Item}
use Rattle.rdt_types.specs.declared.outcome.Item.TheVariants as items
use Rattle.rdt_types.specs.declared.outcome.Outcome.{Outcome}
use Rattle.rdt_types.specs.declared.outcome.Outcome.TheVariants as outcomes
use Rattle.rdt_types.specs.declared.operation.WriteOp.{WriteOp}
use Rattle.rdt_types.specs.declared.operation.WriteOp.TheVariants as op
use Rattle.rdt_types.specs.Printed.{word_of}
use Rattle.dtext.specs.declared.number.TheConstants.{MOST, LEAST}
use Rattle.dtext.specs.Characters.{is_digit}
use Rattle.dtext.specs.Printing.{printed_bool}
use Rattle.dtext.specs.Spellings.{plain, short, hex_value, hex_byte, first_and}

-- ---- texts

-- `x` and two digits
unfoldable pub hexadecimal : Reader ℕ ℕ
hexadecimal = do
  _ ← byte 120
  high ← one hex_value
  low ← one hex_value
  pure (hex_byte high low)

-- a backslash, and what it makes of the bytes behind it
unfoldable pub escape : Reader ℕ ℕ
escape = do
  _ ← byte 92
  either (sees 120) hexadecimal (one short)

-- one byte of a text
unfoldable pub piece : Reader ℕ ℕ
piece = either (sees 92) escape (one plain)

-- the bytes of a text go on where there is a byte and no quote
abbrev pub inside : Option ℕ → Bool
inside = ahead (λ byte. not (nat_eq byte 34))

-- all of them, up to the closing quote
unfoldable pub pieces : Reader ℕ Bytes
pieces = many inside piece

-- a text in quotes
unfoldable pub text : Reader ℕ Bytes
text = do
  _ ← byte 34
  found ← pieces
  _ ← byte 34
  pure found

-- ---- numbers and truth values

-- a digit of 1 to 9, with which a number other than 0 begins
abbrev pub leading : ℕ → Option ℕ
leading byte = if nat_le 49 byte && nat_le byte 57 then Some (byte - 48) else None

-- the value with one byte more, where that is a digit and keeps the number within the limit
abbrev pub more : ℕ → ℕ → ℕ → Option ℕ
more limit value byte = if is_digit byte && nat_le (with_digit value byte) limit then Some (with_digit value byte) else None

-- as many digits as keep the number within the limit, behind those that make this value
unfoldable pub digits : ℕ → ℕ → Reader ℕ ℕ
digits limit value [] = Ok (value, [])
digits limit value (byte ∷ bytes) =
    if is_digit byte && nat_le (with_digit value byte) limit then digits limit (with_digit value byte) bytes
    else Ok (value, byte ∷ bytes)

-- a number from 1 to the limit
unfoldable pub positive : ℕ → Reader ℕ ℕ
positive limit = do
  first ← one leading
  digits limit first

-- the digit 0
abbrev pub zero_read : Reader ℕ ℕ
zero_read = do
  _ ← byte 48
  pure 0

-- a number from 0 to the limit
unfoldable pub natural : ℕ → Reader ℕ ℕ
natural limit = either (sees 48) zero_read (positive limit)

-- `-` and a number above 0
unfoldable pub negative : Reader ℕ ℤ
negative = do
  _ ← byte 45
  n ← positive LEAST
  pure (neg_ℤ (pos n))

-- a number of 64 bits
unfoldable pub number : Reader ℕ ℤ
number = either (sees 45) negative (of pos (natural MOST))

-- whether a number begins with what is ahead
abbrev pub begins_number : Option ℕ → Bool
begins_number = ahead (λ byte. is_digit byte || nat_eq byte 45)

-- a truth value: `t` tells which
unfoldable pub bool : Reader ℕ Bool
bool = guided (sees 116) (λ b. of (λ _. b) (word (printed_bool b)))

-- ---- texts in brackets

-- a text behind a comma
unfoldable pub after_comma : Reader ℕ Bytes
after_comma = do
  _ ← byte 44
  text

-- as many of them as there are
unfoldable pub more_texts : Reader ℕ (List Bytes)
more_texts = many (sees 44) after_comma

-- a text and others behind commas
unfoldable pub some_texts : Reader ℕ (List Bytes)
some_texts = of first_and (list text (sees 44) after_comma)

-- some texts, or none
abbrev pub elements : Reader ℕ (List Bytes)
elements = either (sees 34) some_texts (pure [])

-- texts in brackets
unfoldable pub texts : Reader ℕ (List Bytes)
texts = do
  _ ← byte 91
  found ← elements
  _ ← byte 93
  pure found

-- ---- what is read as a whole

-- whether a word begins with the byte
abbrev pub begins : ℕ → Bytes → Bool
begins byte [] = false
begins byte (first ∷ word) = nat_eq byte first

-- the first of these kinds whose word begins with the byte; where none does, a list, which is then refused
abbrev pub kind_among : List Kind → ℕ → Kind
kind_among [] byte = kinds.List
kind_among (kind ∷ kinds) byte = if begins byte (word_of kind) then kind else kind_among kinds byte

-- the kind whose word begins with the byte
abbrev pub kind_by : ℕ → Kind
kind_by = kind_among (kinds.Bool ∷ kinds.Counter ∷ kinds.Text ∷ kinds.Set ∷ kinds.Hash ∷ kinds.Peak ∷ [])

-- the same of what is ahead
abbrev pub kind_ahead : Option ℕ → Kind
kind_ahead None = kinds.List
kind_ahead (Some byte) = kind_by byte

-- a kind, by its word
unfoldable pub kind : Reader ℕ Kind
kind = guided kind_ahead (λ kind. of (λ _. kind) (word (word_of kind)))

-- a kind, and a key in parentheses
unfoldable pub address : Reader ℕ Address
address = do
  kind ← kind
  _ ← byte 40
  key ← text
  _ ← byte 41
  pure (record { kind = kind; key = key })

-- a value: the byte ahead tells its type
unfoldable pub item : Reader ℕ Item
item =
    either begins_number (of items.Int number)
    (either (sees 34) (of items.Text text) (either (sees 91) (of items.Texts texts) (of items.Bool bool)))

-- a value behind a space
unfoldable pub after_space : Reader ℕ Item
after_space = do
  _ ← byte 32
  item

-- as many of them as there are
unfoldable pub emitted : Reader ℕ (List Item)
emitted = many (sees 32) after_space

-- `ok` and the values
unfoldable pub ran : Reader ℕ Outcome
ran = behind (codes "ok") (of outcomes.Ok emitted)

-- `fail` and the reason
unfoldable pub failed : Reader ℕ Outcome
failed = behind (codes "fail ") (of outcomes.Fail text)

-- the word alone
abbrev pub spent : Reader ℕ Outcome
spent = of (λ _. outcomes.Spent) (word (codes "spent"))

-- the word alone
abbrev pub big : Reader ℕ Outcome
big = of (λ _. outcomes.Big) (word (codes "big"))

-- how a body ended: the byte ahead tells
unfoldable pub outcome : Reader ℕ Outcome
outcome = either (sees 111) ran (either (sees 102) failed (either (sees 115) spent big))

-- a text behind a space
unfoldable pub text_behind : Reader ℕ Bytes
text_behind = do
  _ ← byte 32
  text

-- a text alone is a text's, and two are a field and a text of a hash
abbrev pub put_of : Bytes → Option Bytes → WriteOp
put_of text None = op.PutText text
put_of field (Some text) = op.HashPut field text

-- a text, and one more where a space is ahead
unfoldable pub text_or_field : Reader ℕ WriteOp
text_or_field = do
  first ← text
  second ← optional (sees 32) text_behind
  pure (put_of first second)

-- what is put, which tells the kind
unfoldable pub put_value : Reader ℕ WriteOp
put_value = either begins_number (of op.PutCounter number) (either (sees 34) text_or_field (of op.PutBool bool))

-- the rest of `put`
abbrev pub put : Reader ℕ WriteOp
put = behind (codes "t ") put_value

-- the rest of `push`
abbrev pub push : Reader ℕ WriteOp
push = behind (codes "sh ") (of op.ListPush text)

-- `put` and `push` begin alike
unfoldable pub put_or_push : Reader ℕ WriteOp
put_or_push = behind (codes "pu") (either (sees 116) put push)

-- what is added, which tells the kind
abbrev pub added : Reader ℕ WriteOp
added = either begins_number (of op.AddCounter number) (of op.SetAdd text)

-- `add` and what is added
unfoldable pub addition : Reader ℕ WriteOp
addition = behind (codes "add ") added

-- what a removal is of a kind: of those that have none, it isn't asked for
abbrev pub removed : Kind → Bytes → WriteOp
removed kinds.Hash = op.HashRemove
removed kinds.List = op.ListRemove
removed other = op.SetRemove

-- what a clear is of a kind: of those that have none, it isn't asked for
abbrev pub cleared : Kind → WriteOp
cleared kinds.Hash = op.HashClear
cleared kinds.List = op.ListClear
cleared other = op.SetClear

-- `remove` and a text
unfoldable pub removal : Kind → Reader ℕ WriteOp
removal kind = behind (codes "remove ") (of (removed kind) text)

-- the word alone
unfoldable pub clearing : Kind → Reader ℕ WriteOp
clearing kind = of (λ _. cleared kind) (word (codes "clear"))

-- the one or the other
unfoldable pub remove_or_clear : Kind → Reader ℕ WriteOp
remove_or_clear kind = either (sees 114) (removal kind) (clearing kind)

-- the rest of `raise`
abbrev pub raise : Reader ℕ WriteOp
raise = behind (codes "aise ") (of op.Raise number)

-- the rest of `remove`, which is a set's where no kind is known
abbrev pub remove : Reader ℕ WriteOp
remove = behind (codes "emove ") (of op.SetRemove text)

-- `raise` and `remove` begin alike
unfoldable pub raise_or_remove : Reader ℕ WriteOp
raise_or_remove = behind (codes "r") (either (sees 97) raise remove)

-- one write alone: the byte ahead tells its word
unfoldable pub part : Reader ℕ WriteOp
part = either (sees 112) put_or_push (either (sees 97) addition (either (sees 114) raise_or_remove (clearing kinds.Set)))

-- ---- one write beside an address

-- the word and a truth value
unfoldable pub bool_part : Reader ℕ WriteOp
bool_part = behind (codes "put ") (of op.PutBool bool)

-- `put` or `add`, and a number
unfoldable pub counter_part : Reader ℕ WriteOp
counter_part = either (sees 112) (behind (codes "put ") (of op.PutCounter number)) (behind (codes "add ") (of op.AddCounter number))

-- the word and a text
unfoldable pub text_part : Reader ℕ WriteOp
text_part = behind (codes "put ") (of op.PutText text)

-- a text that is added, or what all collections have
unfoldable pub set_part : Reader ℕ WriteOp
set_part = either (sees 97) (behind (codes "add ") (of op.SetAdd text)) (remove_or_clear kinds.Set)

-- a field and a text
unfoldable pub field : Reader ℕ WriteOp
field = do
  first ← text
  _ ← byte 32
  of (op.HashPut first) text

-- a field that is put, or what all collections have
unfoldable pub hash_part : Reader ℕ WriteOp
hash_part = either (sees 112) (behind (codes "put ") field) (remove_or_clear kinds.Hash)

-- a text that is pushed, or what all collections have
unfoldable pub list_part : Reader ℕ WriteOp
list_part = either (sees 112) (behind (codes "push ") (of op.ListPush text)) (remove_or_clear kinds.List)

-- `raise` and a number
unfoldable pub peak_part : Reader ℕ WriteOp
peak_part = behind (codes "raise ") (of op.Raise number)

-- the kind of the address decides
abbrev pub part_of : Kind → Reader ℕ WriteOp
part_of kinds.Bool = bool_part
part_of kinds.Counter = counter_part
part_of kinds.Text = text_part
part_of kinds.Set = set_part
part_of kinds.Hash = hash_part
part_of kinds.List = list_part
part_of kinds.Peak = peak_part
