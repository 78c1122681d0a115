-- The printed form of texts and addresses.
use Rattle.std.specs.Prelude.{◌≡◌, ℕ, ◌+◌, ◌/◌, ◌%◌, ◌||◌, if◌then◌else◌, nat_eq, nat_lt, [], ◌∷◌, ◌++◌, codes, refl}
use Rattle.std.specs.List.{flat_map}
use Rattle.plain_data.specs.Texts.{Bytes}
use Rattle.rdt_types.specs.declared.address.Kind.{Kind}
use Rattle.rdt_types.specs.declared.address.Kind.TheVariants as kind
use Rattle.rdt_types.specs.declared.address.Address.{Address}
use Rattle.rdt_types.specs.declared.printed.Spelling.{Spelling}
use Rattle.rdt_types.specs.declared.printed.TheConstants.{DELETE}
use Rattle.rdt_types.specs.declared.printed.Spelling.TheVariants as spelling

-- the word of a kind
abbrev pub word_of : Kind → Bytes
word_of kind.Bool = codes "bool"
word_of kind.Counter = codes "counter"
word_of kind.Text = codes "text"
word_of kind.Set = codes "set"
word_of kind.Hash = codes "hash"
word_of kind.List = codes "list"
word_of kind.Peak = codes "peak"

-- a hexadecimal digit, in lower case
abbrev pub hex_digit : ℕ → ℕ
hex_digit n = if nat_lt n 10 then 48 + n else 87 + n

-- How a byte of a text stands between the quotes: a quote and a backslash behind a backslash, a newline as `\n`, every
-- other byte below 32, the space, and `DELETE` by two hexadecimal digits, and all others as themselves.
abbrev pub spelling_of : ℕ → Spelling
spelling_of byte =
    if nat_eq byte 34 || nat_eq byte 92 then spelling.Escaped byte
    else if nat_eq byte 10 then spelling.Escaped 110
    else if nat_lt byte 32 || nat_eq byte DELETE then spelling.Hexadecimal (hex_digit (byte / 16)) (hex_digit (byte % 16))
    else spelling.Plain byte

-- the bytes of a spelling
abbrev pub spelled : Spelling → Bytes
spelled (spelling.Plain byte) = byte ∷ []
spelled (spelling.Escaped byte) = 92 ∷ byte ∷ []
spelled (spelling.Hexadecimal high low) = 92 ∷ 120 ∷ high ∷ low ∷ []

-- a text: its bytes as they are spelled, in quotes
abbrev pub printed_text : Bytes → Bytes
printed_text text = 34 ∷ (flat_map (λ byte. spelled (spelling_of byte)) text ++ 34 ∷ [])

-- an address: the word of its kind, and its key in parentheses
abbrev pub printed_address : Address → Bytes
printed_address address = word_of address.kind ++ 40 ∷ (printed_text address.key ++ 41 ∷ [])

-- an unprintable byte, a newline, a quote and a letter
text-with-escapes : printed_text (7 ∷ 10 ∷ 34 ∷ 97 ∷ []) ≡ codes "\"\\x07\\n\\\"a\""
text-with-escapes = refl

counter-x : printed_address (record { kind = kind.Counter; key = codes "x" }) ≡ codes "counter(\"x\")"
counter-x = refl
