-- What an auditor reads: a line of the verdict, and behind that of a legal journal, where it is asked for, the state after some
-- of its commits, a line an address.
use Rattle.std.specs.Prelude.{◌≡◌, ℕ, true, nat_lt, if◌then◌else◌, List, [], ◌∷◌, ◌++◌, length, map, take, Option, Some, None, codes, pos, refl}
use Rattle.std.specs.List.{flat_map}
use Rattle.std.specs.Fmt.{decimal, digits}
use Rattle.std.specs.FinMap as fin_map
use Rattle.plain_data.specs.Texts.{Bytes}
use Rattle.rdt_types.specs.declared.address.Kind.TheVariants as kind
use Rattle.rdt_types.specs.declared.address.Address.{Address}
use Rattle.rdt_types.specs.declared.outcome.Item.{Item}
use Rattle.rdt_types.specs.declared.outcome.Item.TheVariants as item
use Rattle.rdt_types.specs.declared.value.Value.{Value}
use Rattle.rdt_types.specs.declared.value.Value.TheVariants as value
use Rattle.rdt_types.specs.Printed.{printed_address}
use Rattle.dtext.specs.Printing.{printed_item}
use Rattle.txn_lang.specs.States.{Journal, put_and_add, x_at}
use Rattle.audit_core.specs.declared.verdict.Flaw.{Flaw}
use Rattle.audit_core.specs.declared.verdict.Flaw.TheVariants as flaw
use Rattle.audit_core.specs.declared.verdict.Verdict.{Verdict}
use Rattle.audit_core.specs.declared.verdict.Verdict.TheVariants as verdict
use Rattle.audit_core.specs.Dumps.{dump_of}
use Rattle.audit_core.specs.Verdicts.{IsVerdict}

-- a line ends with a newline
abbrev pub line : Bytes → Bytes
line text = text ++ 10 ∷ []

-- ---- the verdict

-- what doesn't hold of a commit, in one word
abbrev pub flaw_word : Flaw → Bytes
flaw_word flaw.Number = codes "number"
flaw_word flaw.Seq = codes "seq"
flaw_word flaw.Body = codes "body"
flaw_word flaw.Outcome = codes "outcome"
flaw_word flaw.Deltas = codes "deltas"

-- how many commits are legal, or at which place the first stands that isn't, and what doesn't hold of it
abbrev pub verdict_line : Verdict → Bytes
verdict_line (verdict.Legal n) = line (codes "legal " ++ decimal n)
verdict_line (verdict.Broken place f) = line (codes "broken " ++ decimal place ++ 32 ∷ flaw_word f)

verdict_line-example : verdict_line (verdict.Broken 3 flaw.Outcome) ≡ line (codes "broken " ++ decimal 3 ++ codes " outcome")
verdict_line-example = refl

-- ---- the state

-- a field, and its text
abbrev pub field_texts : Bytes × Bytes → List Bytes
field_texts field = field.0 ∷ field.1 ∷ []

-- A value is printed as one that a body emits: a set, a hash or a list as texts, and each field of a hash is followed by its text.
abbrev pub item_of : Value → Item
item_of (value.Bool b) = item.Bool b
item_of (value.Counter n) = item.Int n
item_of (value.Text t) = item.Text t
item_of (value.Set s) = item.Texts (map (λ e. e.0) (fin_map.entries s))
item_of (value.Hash h) = item.Texts (flat_map field_texts (fin_map.entries h))
item_of (value.List items) = item.Texts items
item_of (value.Peak n) = item.Int n

-- so printed
abbrev pub printed_value : Value → Bytes
printed_value v = printed_item (item_of v)

-- an address and its value
abbrev pub value_line : Address × Value → Bytes
value_line pair = line (printed_address pair.0 ++ 32 ∷ printed_value pair.1)

value_line-bool : value_line (record { kind = kind.Bool; key = codes "open" }, value.Bool true) ≡ codes "bool(\"open\") true\n"
value_line-bool = refl

value_line-list : value_line (record { kind = kind.List; key = codes "bids" }, value.List (codes "ann" ∷ codes "bob" ∷ [])) ≡ codes "list(\"bids\") [\"ann\",\"bob\"]\n"
value_line-list = refl

value_line-peak : value_line (record { kind = kind.Peak; key = codes "p" }, value.Peak (pos 4)) ≡ codes "peak(\"p\") 4\n"
unfolding digits
value_line-peak = refl

-- a state is asked for that lies ahead of all commits, and there are so many
abbrev pub ahead_line : ℕ → ℕ → Bytes
ahead_line asked count = line (codes "ahead " ++ decimal asked ++ 32 ∷ decimal count)

-- the state after so many commits; or that there are fewer
abbrev pub state_lines : Journal → ℕ → Bytes
state_lines journal n =
    if nat_lt (length journal) n then ahead_line n (length journal) else flat_map value_line (dump_of (take n journal))

-- of two commits the first leaves 3, and both leave 7
state_lines-first : state_lines put_and_add 1 ≡ flat_map value_line ((x_at, value.Counter (pos 3)) ∷ [])
state_lines-first = refl

state_lines-both : state_lines put_and_add 2 ≡ flat_map value_line ((x_at, value.Counter (pos 7)) ∷ [])
state_lines-both = refl

-- before them nothing was written
state_lines-none : state_lines put_and_add 0 ≡ []
state_lines-none = refl

-- there is no third
state_lines-ahead : state_lines put_and_add 3 ≡ ahead_line 3 2
state_lines-ahead = refl

-- what is asked for behind a verdict
abbrev pub asked_lines : Journal → Option ℕ → Bytes
asked_lines journal None = []
asked_lines journal (Some n) = state_lines journal n

-- THE REPORT of an audit.
abbrev pub report_of : Journal → Verdict → Option ℕ → Bytes
report_of journal (verdict.Legal n) at = verdict_line (verdict.Legal n) ++ asked_lines journal at
report_of journal (verdict.Broken place f) at = verdict_line (verdict.Broken place f)

-- a text is the report of these commits
pub record IsReport (journal : Journal) (at : Option ℕ) (text : Bytes) : Type 0 where
  pub verdict : Verdict
  pub holds : IsVerdict journal verdict
  pub text_is : text ≡ report_of journal verdict at

-- ---- a law

-- each list has one report at most
abbrev pub OneReport : Type 0
OneReport = (journal : Journal) (at : Option ℕ) (t u : Bytes) → IsReport journal at t → IsReport journal at u → t ≡ u
