-- How the fields of a payload are read, each in its form.
use Rattle.std.specs.Prelude.{ℕ, Bool, true, false, ◌&&◌, not, is_some, List, [], ◌∷◌, length, nat_lt, Option, Some}
use Rattle.std.specs.Prelude.{None}
use Rattle.std.specs.Prelude.{if◌then◌else◌}
use Rattle.std.specs.Int.{w32, w64}
use Rattle.std.specs.List.{list_all}
use Rattle.std.specs.FinMap as map
use Rattle.std.specs.FinMap.Entries.{is_sorted}
use Rattle.plain_data.specs.Texts.{MapOf, text_cmp}
use Rattle.rdt_types.specs.declared.address.Kind.{Kind}
use Rattle.rdt_types.specs.declared.address.Address.{Address}
use Rattle.rdt_types.specs.declared.delta.Delta.{Delta}
use Rattle.rdt_types.specs.declared.delta.Delta.TheVariants as delta
use Rattle.rdt_types.specs.declared.mark.Mark.{Mark}
use Rattle.rdt_types.specs.declared.mark.Mark.TheVariants as mark
use Rattle.rdt_types.specs.declared.outcome.Item.{Item}
use Rattle.rdt_types.specs.declared.outcome.Item.TheVariants as item
use Rattle.rdt_types.specs.declared.outcome.Outcome.{Outcome}
use Rattle.rdt_types.specs.declared.outcome.Outcome.TheVariants as outcome
use Rattle.rdt_types.specs.contracts.address.KindPartialEq.TheImpl as kinds
use Rattle.rdt_types.specs.Addresses.{address_cmp}
use Rattle.rdt_types.specs.Deltas.{kind_changed}
use Rattle.rdt_types.specs.DeltaMaps.{Deltas}
use Rattle.rdt_types.specs.Keyed as keyed
use Rattle.rdt_types.specs.Keyed.{Keyed}
use Rattle.rdt_types.specs.Listed as listed
use Rattle.rdt_types.specs.Listed.{Listed}
use Rattle.rdt_types.specs.Marks.{added, put_by}
use Rattle.txn_grammar.specs.declared.token.Token.{Token}
use Rattle.txn_grammar.specs.declared.token.Spot.{Spot}
use Rattle.txn_grammar.specs.Tokens.{of_symbol, kind_of}
use Rattle.txn_grammar.specs.Lexer.{lex}
use Rattle.txn_lang.specs.declared.limits.TheConstants.{TEXT_LIMIT}
use Rattle.txn_lang.specs.Tree.{tree}
use Rattle.journal_core.specs.declared.limits.TheConstants.{LONGEST_BODY, FIRST_UNTOLD_CLIENT}
use Rattle.journal_core.specs.Bodies.{ends_in_blank}
use Rattle.commit_file.specs.declared.version.Version.{Version}
use Rattle.commit_file.specs.declared.version.Version.TheVariants as version
use Rattle.record_code.specs.declared.tags.ItemTag.{ItemTag}
use Rattle.record_code.specs.declared.tags.ItemTag.TheVariants as items
use Rattle.record_code.specs.declared.tags.DeltaTag.{DeltaTag}
use Rattle.record_code.specs.declared.tags.DeltaTag.TheVariants as deltas
use Rattle.record_code.specs.declared.tags.OutcomeTag.{OutcomeTag}
use Rattle.record_code.specs.declared.tags.OutcomeTag.TheVariants as outcomes
use Rattle.record_code.specs.declared.tags.TheConstants.{KINDS_ONE, KINDS_TWO, ITEM_TAGS, DELTA_TAGS, OUTCOME_TAGS}
use Rattle.record_code.specs.Spelling.{kind_byte}
use Rattle.record_code.specs.Fields.{Reader, ◌>>=◌, when, number_at, int_at, text_at, tag_at, truth_at, nothing_at}
use Rattle.record_code.specs.Fields.{pair_at, list_at}

-- ---- the kinds of a version

-- the kinds that a version has, each at the place of its byte
abbrev pub kinds_of : Version → List Kind
kinds_of version.One = KINDS_ONE
kinds_of version.Two = KINDS_TWO

-- whether a version has a kind: there is a place for its byte
abbrev pub has_kind : Version → Kind → Bool
has_kind version kind = nat_lt (kind_byte kind) (length (kinds_of version))

-- whether it has a kind that may be told
abbrev pub has_told : Version → Option Kind → Bool
has_told version None = true
has_told version (Some kind) = has_kind version kind

-- whether it has the kind whose word a token is, if it is one
abbrev pub suits_token : Version → Token → Bool
suits_token version token = has_told version (of_symbol kind_of token)

-- the same of a token with its column
abbrev pub suits_spot : Version → Spot → Bool
suits_spot version spot = suits_token version spot.token

-- Whether a version has the kinds of a body. The word of a kind is reserved: wherever it stands in a body it is the kind.
abbrev pub has_kinds : Version → List ℕ → Bool
has_kinds version text = list_all (suits_spot version) (lex text)

-- ---- numbers and the body

-- a number from 1
abbrev pub positive_at : Reader ℕ
positive_at = when (λ n. nat_lt 0 n) (number_at w64)

-- a client that is told of
abbrev pub client_at : Reader ℕ
client_at = when (λ client. nat_lt client FIRST_UNTOLD_CLIENT) (number_at w32)

-- whether a text is that of a body, as it is kept, and the version has its kinds
abbrev pub is_body : Version → List ℕ → Bool
is_body version text = not (ends_in_blank text) && has_kinds version text && is_some (tree text)

-- the text of a body: any that may run, also one that writes
abbrev pub body_at : Version → Reader (List ℕ)
body_at version = when (is_body version) (text_at LONGEST_BODY)

-- ---- addresses

-- a text, which is no longer than texts may be
abbrev pub short_at : Reader (List ℕ)
short_at = text_at TEXT_LIMIT

-- an address: a kind and a key
unfoldable pub address_at : Version → Reader Address
address_at version bytes = do
  kind ← tag_at (kinds_of version) bytes
  key ← short_at kind.1
  Some (record { kind = kind.0; key = key.0 }, key.1)

-- ---- deltas

-- a mark at a field, by whether a text is put
unfoldable pub mark_of : Bool → Reader Mark
mark_of false bytes = Some (mark.Removed, bytes)
mark_of true bytes = do
  text ← short_at bytes
  Some (mark.Put text.0, text.1)

unfoldable pub mark_at : Reader Mark
mark_at bytes = do
  put ← truth_at bytes
  mark_of put.0 put.1

-- texts that rise strictly, each with its mark
abbrev pub map_of : {M : Type 0} → List (List ℕ × M) → Option (MapOf M)
map_of pairs = if is_sorted text_cmp pairs then Some (map.from_sorted pairs) else None

unfoldable pub map_at : {M : Type 0} → Reader M → Reader (MapOf M)
map_at mark bytes = do
  pairs ← list_at (pair_at short_at mark) bytes
  marks ← map_of pairs.0
  Some (marks, pairs.1)

-- a change of a set or a hash, whose parts have the form of one
abbrev pub keyed_of : {M V : Type 0} → (M → Option V) → Bool → MapOf M → Option (Keyed M)
keyed_of left cleared marks =
    if keyed.has_form left (keyed.of_parts cleared marks) then Some (keyed.of_parts cleared marks) else None

unfoldable pub keyed_at : {M V : Type 0} → (M → Option V) → Reader M → Reader (Keyed M)
keyed_at left mark bytes = do
  cleared ← truth_at bytes
  marks ← map_at mark cleared.1
  d ← keyed_of left cleared.0 marks.0
  Some (d, marks.1)

-- a change of a list, whose parts have the form of one
abbrev pub listed_of : Bool → MapOf (Unit {0}) → List (List ℕ) → Option Listed
listed_of cleared removed pushed =
    if listed.has_form (listed.of_parts cleared removed pushed) then Some (listed.of_parts cleared removed pushed)
    else None

unfoldable pub listed_at : Reader Listed
listed_at bytes = do
  cleared ← truth_at bytes
  removed ← map_at nothing_at cleared.1
  pushed ← list_at short_at removed.1
  d ← listed_of cleared.0 removed.0 pushed.0
  Some (d, pushed.1)

-- a delta, by the byte of its form
unfoldable pub delta_of : DeltaTag → Reader Delta
delta_of deltas.PutBool bytes = do
  b ← truth_at bytes
  Some (delta.PutBool b.0, b.1)
delta_of deltas.PutCounter bytes = do
  n ← int_at bytes
  Some (delta.PutCounter n.0, n.1)
delta_of deltas.AddCounter bytes = do
  n ← int_at bytes
  Some (delta.AddCounter n.0, n.1)
delta_of deltas.PutText bytes = do
  text ← short_at bytes
  Some (delta.PutText text.0, text.1)
delta_of deltas.Set bytes = do
  d ← keyed_at added truth_at bytes
  Some (delta.Set d.0, d.1)
delta_of deltas.Hash bytes = do
  d ← keyed_at put_by mark_at bytes
  Some (delta.Hash d.0, d.1)
delta_of deltas.List bytes = do
  d ← listed_at bytes
  Some (delta.List d.0, d.1)
delta_of deltas.Raise bytes = do
  n ← int_at bytes
  Some (delta.Raise n.0, n.1)

unfoldable pub delta_at : Reader Delta
delta_at bytes = do
  tag ← tag_at DELTA_TAGS bytes
  delta_of tag.0 tag.1

-- ---- outcomes

-- an emitted value, by the byte of its type
unfoldable pub item_of : ItemTag → Reader Item
item_of items.Int bytes = do
  n ← int_at bytes
  Some (item.Int n.0, n.1)
item_of items.Bool bytes = do
  b ← truth_at bytes
  Some (item.Bool b.0, b.1)
item_of items.Text bytes = do
  text ← short_at bytes
  Some (item.Text text.0, text.1)
item_of items.Texts bytes = do
  texts ← list_at short_at bytes
  Some (item.Texts texts.0, texts.1)

unfoldable pub item_at : Reader Item
item_at bytes = do
  tag ← tag_at ITEM_TAGS bytes
  item_of tag.0 tag.1

-- an outcome, by the byte of how the body ended
unfoldable pub outcome_of : OutcomeTag → Reader Outcome
outcome_of outcomes.Ok bytes = do
  emitted ← list_at item_at bytes
  Some (outcome.Ok emitted.0, emitted.1)
outcome_of outcomes.Fail bytes = do
  reason ← short_at bytes
  Some (outcome.Fail reason.0, reason.1)
outcome_of outcomes.Spent bytes = Some (outcome.Spent, bytes)
outcome_of outcomes.Big bytes = Some (outcome.Big, bytes)

unfoldable pub outcome_at : Reader Outcome
outcome_at bytes = do
  tag ← tag_at OUTCOME_TAGS bytes
  outcome_of tag.0 tag.1

-- ---- the deltas of a commit

-- whether a delta is one of its address' kind
abbrev pub suits : Address × Delta → Bool
suits pair = kinds.ghosts.eq (kind_changed pair.1) pair.0.kind

-- whether there may be deltas
abbrev pub may_write : Outcome → Deltas → Bool
may_write (outcome.Ok emitted) pairs = true
may_write _ [] = true
may_write _ (pair ∷ pairs) = false

-- whether these may be the deltas of a commit with this outcome: by rising addresses, each of its address' kind
abbrev pub are_deltas : Outcome → Deltas → Bool
are_deltas how pairs = is_sorted address_cmp pairs && list_all suits pairs && may_write how pairs

abbrev pub deltas_at : Version → Outcome → Reader Deltas
deltas_at version how = when (are_deltas how) (list_at (pair_at (address_at version) delta_at))
