-- How values are printed. The parts of deltas stand in `Writes`.
use Rattle.std.specs.Prelude.{[], ◌∷◌, codes, pos, negsuc, true, false}
use Rattle.rdt_types.specs.declared.address.Kind.{Kind}
use Rattle.rdt_types.specs.declared.address.Kind.TheVariants as kind
use Rattle.rdt_types.specs.declared.address.Address.{Address}
use Rattle.rdt_types.specs.declared.outcome.Item.TheVariants as item
use Rattle.rdt_types.specs.declared.outcome.Outcome.TheVariants as outcome
use Rattle.rdt_types.specs.Printed.{printed_text, printed_address}
use Rattle.dtext.specs.Printing.{printed_item, printed_outcome}
use Rattle.language_lines.specs.Tables.{Holds}

-- Texts stand in quotes. A quote and a backslash stand behind a backslash, a newline is `\n`, every other byte below 32
-- and the byte 127 is `\xHH`, and all others are themselves: the last row has the two bytes of an e with an accent.
abbrev pub TextsArePrinted : Type 0
TextsArePrinted =
    Holds printed_text
    (([], codes "\"\"")
    ∷ (codes "ab 9", codes "\"ab 9\"")
    ∷ (34 ∷ [], codes "\"\\\"\"")
    ∷ (92 ∷ [], codes "\"\\\\\"")
    ∷ (10 ∷ [], codes "\"\\n\"")
    ∷ (0 ∷ [], codes "\"\\x00\"")
    ∷ (9 ∷ [], codes "\"\\x09\"")
    ∷ (13 ∷ [], codes "\"\\x0d\"")
    ∷ (31 ∷ [], codes "\"\\x1f\"")
    ∷ (32 ∷ [], codes "\" \"")
    ∷ (126 ∷ [], codes "\"~\"")
    ∷ (127 ∷ [], codes "\"\\x7f\"")
    ∷ (195 ∷ 169 ∷ [], 34 ∷ 195 ∷ 169 ∷ 34 ∷ [])
    ∷ [])

-- the address of a kind with the key `x`
abbrev x_of : Kind → Address
x_of kind = record { kind = kind; key = codes "x" }

-- addresses
abbrev pub AddressesArePrinted : Type 0
AddressesArePrinted =
    Holds printed_address
    ((x_of kind.Bool, codes "bool(\"x\")")
    ∷ (x_of kind.Counter, codes "counter(\"x\")")
    ∷ (x_of kind.Text, codes "text(\"x\")")
    ∷ (x_of kind.Set, codes "set(\"x\")")
    ∷ (x_of kind.Hash, codes "hash(\"x\")")
    ∷ (x_of kind.List, codes "list(\"x\")")
    ∷ (x_of kind.Peak, codes "peak(\"x\")")
    ∷ (record { kind = kind.Text; key = 34 ∷ [] }, codes "text(\"\\\"\")")
    ∷ [])

-- values that a body emits; the least and the greatest number among them
abbrev pub ItemsArePrinted : Type 0
ItemsArePrinted =
    Holds printed_item
    ((item.Int (pos 0), codes "0")
    ∷ (item.Int (pos 7), codes "7")
    ∷ (item.Int (negsuc 4), codes "-5")
    ∷ (item.Int (pos 9223372036854775807), codes "9223372036854775807")
    ∷ (item.Int (negsuc 9223372036854775807), codes "-9223372036854775808")
    ∷ (item.Bool true, codes "true")
    ∷ (item.Bool false, codes "false")
    ∷ (item.Text (codes "a"), codes "\"a\"")
    ∷ (item.Texts [], codes "[]")
    ∷ (item.Texts (codes "a" ∷ []), codes "[\"a\"]")
    ∷ (item.Texts (codes "a" ∷ [] ∷ codes "b" ∷ []), codes "[\"a\",\"\",\"b\"]")
    ∷ [])

-- how a body ends
abbrev pub OutcomesArePrinted : Type 0
OutcomesArePrinted =
    Holds printed_outcome
    ((outcome.Ok [], codes "ok")
    ∷ (outcome.Ok (item.Int (pos 5) ∷ item.Bool true ∷ item.Texts [] ∷ []), codes "ok 5 true []")
    ∷ (outcome.Fail (codes "no stock"), codes "fail \"no stock\"")
    ∷ (outcome.Spent, codes "spent")
    ∷ (outcome.Big, codes "big")
    ∷ [])
