-- The spellings of texts, addresses, values, outcomes and write parts, as rules: `P bytes value rest` says that the
-- bytes are a spelling of the value, and then the rest. Nothing here chooses, looks ahead or counts.
--
-- Marks stand by their bytes: 32 is the space, 34 `"`, 40 `(`, 41 `)`, 44 `,`, 45 `-`, 91 `[`, 92 `\`, 93 `]`, 110 `n`,
-- and 120 `x`.
use Rattle.std.specs.Prelude.{◌≡◌, ℕ, ◌+◌, ◌-◌, ◌*◌, ◌^◌, ◌<◌, ◌≤◌, Bool, not, ◌&&◌, ◌||◌, nat_eq, nat_le}
use Rattle.std.specs.Prelude.{if◌then◌else◌, List, [], ◌∷◌, ◌++◌, ℤ, pos, negsuc, codes, Option, Some, None}
use Rattle.std.specs.Fmt.{decimal, signed_decimal}
use Rattle.plain_data.specs.Texts.{Bytes}
use Rattle.predictive_parsing.specs.Rules.{Rule, One, Pure, Or, Many, ListOf, Word, SpelledBy, Of, Behind, Whole, ◌>>=◌}
use Rattle.predictive_parsing.specs.Bytes.{Byte}
use Rattle.rdt_types.specs.declared.address.Kind.{Kind}
use Rattle.rdt_types.specs.declared.address.Kind.TheVariants as kinds
use Rattle.rdt_types.specs.declared.address.Address.{Address}
use Rattle.rdt_types.specs.declared.outcome.Item.{Item}
use Rattle.rdt_types.specs.declared.outcome.Item.TheVariants as item
use Rattle.rdt_types.specs.declared.outcome.Outcome.{Outcome}
use Rattle.rdt_types.specs.declared.outcome.Outcome.TheVariants as outcome
use Rattle.rdt_types.specs.declared.operation.WriteOp.{WriteOp}
use Rattle.rdt_types.specs.declared.operation.WriteOp.TheVariants as op
use Rattle.rdt_types.specs.Printed.{word_of}
use Rattle.rdt_types.specs.declared.printed.TheConstants.{DELETE}
use Rattle.dtext.specs.Characters.{is_digit}
use Rattle.dtext.specs.Printing.{printed_bool}

-- ---- texts

-- What stands for itself between quotes: all bytes but those below 32, `DELETE`, `"` and `\`.
abbrev pub is_plain : ℕ → Bool
is_plain byte = nat_le 32 byte && not (nat_eq byte DELETE) && not (nat_eq byte 34) && not (nat_eq byte 92)

-- a byte that stands for itself
abbrev pub plain : ℕ → Option ℕ
plain byte = if is_plain byte then Some byte else None

-- the byte that one byte behind a backslash stands for: `"`, `\` or, for `n`, a newline
abbrev pub short : ℕ → Option ℕ
short byte = if nat_eq byte 34 || nat_eq byte 92 then Some byte else (if nat_eq byte 110 then Some 10 else None)

-- the value of a hexadecimal digit, `0` to `9` or `a` to `f`
abbrev pub hex_value : ℕ → Option ℕ
hex_value byte = if is_digit byte then Some (byte - 48) else (if nat_le 97 byte && nat_le byte 102 then Some (byte - 87) else None)

-- the byte whose two digits these are
abbrev pub hex_byte : ℕ → ℕ → ℕ
hex_byte high low = 16 * high + low

-- `x` and two hexadecimal digits
abbrev pub Hexadecimal : Rule ℕ ℕ
Hexadecimal = do
  _ ← Byte 120
  high ← One hex_value
  low ← One hex_value
  Pure (hex_byte high low)

-- a backslash, and what it makes of the bytes behind it
abbrev pub Escape : Rule ℕ ℕ
Escape = do
  _ ← Byte 92
  Or Hexadecimal (One short)

-- one byte of a text
abbrev pub Piece : Rule ℕ ℕ
Piece = Or Escape (One plain)

-- a quote, the bytes of the text, and a quote
abbrev pub TextRule : Rule ℕ Bytes
TextRule = do
  _ ← Byte 34
  text ← Many Piece
  _ ← Byte 34
  Pure text

-- ---- numbers and truth values

-- The decimal form of a number from 0 to a limit: no sign, and no zero in front of other digits.
pub record NaturalRule (limit : ℕ) (bytes : Bytes) (n : ℕ) (rest : Bytes) : Type 0 where
  pub spelled : bytes ≡ decimal n ++ rest
  pub within : n ≤ limit

-- the same of a number from 1 to a limit
pub record PositiveRule (limit : ℕ) (bytes : Bytes) (n : ℕ) (rest : Bytes) : Type 0 where
  pub spelled : bytes ≡ decimal n ++ rest
  pub some : 0 < n
  pub within : n ≤ limit

-- what 64 bits hold
abbrev pub Fits64 : ℤ → Type 0
Fits64 (pos n) = n < 2 ^ 63
Fits64 (negsuc n) = n < 2 ^ 63

-- the decimal form of a number, and no other
pub record NumberRule (bytes : Bytes) (n : ℤ) (rest : Bytes) : Type 0 where
  pub spelled : bytes ≡ signed_decimal n ++ rest
  pub fits : Fits64 n

-- a truth value, by its word
abbrev pub BoolRule : Rule ℕ Bool
BoolRule = SpelledBy printed_bool

-- ---- texts in brackets

-- a text behind a comma
abbrev pub AfterComma : Rule ℕ Bytes
AfterComma = do
  _ ← Byte 44
  TextRule

-- one and the others, as a list
abbrev pub first_and : {A : Type 0} → A × List A → List A
first_and (first, rest) = first ∷ rest

-- none, or one and any number of others behind commas
abbrev pub Separated : Rule ℕ (List Bytes)
Separated = Or (Of first_and (ListOf TextRule AfterComma)) (Pure [])

-- texts in brackets
abbrev pub TextsRule : Rule ℕ (List Bytes)
TextsRule = do
  _ ← Byte 91
  texts ← Separated
  _ ← Byte 93
  Pure texts

-- ---- what is read as a whole

-- the word of a kind, and a key in parentheses
abbrev pub AddressRule : Rule ℕ Address
AddressRule = do
  kind ← SpelledBy word_of
  _ ← Byte 40
  key ← TextRule
  _ ← Byte 41
  Pure (record { kind = kind; key = key })

-- a value that a body emits
abbrev pub ItemRule : Rule ℕ Item
ItemRule = Or (Of item.Int NumberRule) (Or (Of item.Text TextRule) (Or (Of item.Texts TextsRule) (Of item.Bool BoolRule)))

-- a value behind a space
abbrev pub AfterSpace : Rule ℕ Item
AfterSpace = do
  _ ← Byte 32
  ItemRule

-- how a body ended
abbrev pub OutcomeRule : Rule ℕ Outcome
OutcomeRule =
    Or (Behind (codes "ok") (Of outcome.Ok (Many AfterSpace)))
    (Or (Behind (codes "fail ") (Of outcome.Fail TextRule))
    (Or (Of (λ _. outcome.Spent) (Word (codes "spent")))
    (Of (λ _. outcome.Big) (Word (codes "big")))))

-- a field, a space and a text
abbrev pub FieldRule : Rule ℕ WriteOp
FieldRule = do
  field ← TextRule
  _ ← Byte 32
  text ← TextRule
  Pure (op.HashPut field text)

-- a removal or a clear
abbrev pub RemoveOrClear : (Bytes → WriteOp) → WriteOp → Rule ℕ WriteOp
RemoveOrClear removed cleared = Or (Behind (codes "remove ") (Of removed TextRule)) (Of (λ _. cleared) (Word (codes "clear")))

-- one write beside an address, whose kind decides: a row a kind
abbrev pub PartOf : Kind → Rule ℕ WriteOp
PartOf kinds.Bool = Behind (codes "put ") (Of op.PutBool BoolRule)
PartOf kinds.Counter = Or (Behind (codes "put ") (Of op.PutCounter NumberRule)) (Behind (codes "add ") (Of op.AddCounter NumberRule))
PartOf kinds.Text = Behind (codes "put ") (Of op.PutText TextRule)
PartOf kinds.Set = Or (Behind (codes "add ") (Of op.SetAdd TextRule)) (RemoveOrClear op.SetRemove op.SetClear)
PartOf kinds.Hash = Or (Behind (codes "put ") FieldRule) (RemoveOrClear op.HashRemove op.HashClear)
PartOf kinds.List = Or (Behind (codes "push ") (Of op.ListPush TextRule)) (RemoveOrClear op.ListRemove op.ListClear)
PartOf kinds.Peak = Behind (codes "raise ") (Of op.Raise NumberRule)

-- One write without its kind: the form decides, and what sets, hashes and lists share is a set's.
abbrev pub PartRule : Rule ℕ WriteOp
PartRule =
    Or (Behind (codes "put ") (Of op.PutBool BoolRule))
    (Or (Behind (codes "put ") (Of op.PutCounter NumberRule))
    (Or (Behind (codes "put ") (Of op.PutText TextRule))
    (Or (Behind (codes "put ") FieldRule)
    (Or (Behind (codes "add ") (Of op.AddCounter NumberRule))
    (Or (Behind (codes "add ") (Of op.SetAdd TextRule))
    (Or (Behind (codes "push ") (Of op.ListPush TextRule))
    (Or (Behind (codes "raise ") (Of op.Raise NumberRule))
    (RemoveOrClear op.SetRemove op.SetClear))))))))

-- ---- spellings, all of the bytes

-- all of the bytes are the text
abbrev pub IsText : Bytes → Bytes → Type 0
IsText = Whole TextRule

-- all of them are the address
abbrev pub IsAddress : Bytes → Address → Type 0
IsAddress = Whole AddressRule

-- all of them are the value
abbrev pub IsItem : Bytes → Item → Type 0
IsItem = Whole ItemRule

-- all of them are the outcome
abbrev pub IsOutcome : Bytes → Outcome → Type 0
IsOutcome = Whole OutcomeRule

-- all of them are the part
abbrev pub IsPart : Bytes → WriteOp → Type 0
IsPart = Whole PartRule
