-- The spellings of replies, as rules, a row a reply. Texts in them are read as leniently as texts are; observations and
-- parts are of the kind of the address beside them.
use Rattle.std.specs.Prelude.{ℕ, false, codes}
use Rattle.plain_data.specs.Texts.{Bytes}
use Rattle.predictive_parsing.specs.Rules.{Rule, ◌>>=◌, Pure, Or, Of, Word, Behind, SpelledBy, Whole}
use Rattle.rdt_types.specs.declared.address.Kind.{Kind}
use Rattle.rdt_types.specs.declared.address.Kind.TheVariants as kinds
use Rattle.rdt_types.specs.declared.outcome.Outcome.{Outcome}
use Rattle.conflict_table.specs.declared.observation.Obs.{Obs}
use Rattle.conflict_table.specs.declared.observation.Obs.TheVariants as obs
use Rattle.abort_witness.specs.declared.witness.Witness.{Witness}
use Rattle.dtext.specs.Spellings.{TextRule, NumberRule, NaturalRule, AddressRule, OutcomeRule, PartOf}
use Rattle.session_text.specs.declared.limits.TheConstants.{LARGEST, LARGEST_SHARD, LARGEST_COLUMN, LARGEST_CLIENT}
use Rattle.session_text.specs.declared.reply.Reply.{Reply}
use Rattle.session_text.specs.declared.reply.Reply.TheVariants as reply
use Rattle.session_text.specs.declared.reply.Why.{Why}
use Rattle.session_text.specs.declared.reply.Why.TheVariants as why
use Rattle.session_text.specs.declared.words.ReplyWord.{ReplyWord}
use Rattle.session_text.specs.declared.words.ReplyWord.TheVariants as word
use Rattle.session_text.specs.declared.words.WhyWord.{WhyWord}
use Rattle.session_text.specs.declared.words.WhyWord.TheVariants as reason
use Rattle.session_text.specs.Lines.{NameRule}
use Rattle.session_text.specs.Printing.{word_of, why_of}

-- a number behind a word
abbrev pub Numbered : Bytes → Rule ℕ ℕ
Numbered word = Behind word (NaturalRule LARGEST)

-- An observation beside an address, whose kind decides. Of a peak an `over` was false: nothing clashes with one that was true.
abbrev pub ObsOf : Kind → Rule ℕ Obs
ObsOf kinds.Bool = Of (λ _. obs.BoolIs) (Word (codes "whole"))
ObsOf kinds.Counter = Of (λ _. obs.CounterIs) (Word (codes "whole"))
ObsOf kinds.Text = Of (λ _. obs.TextIs) (Word (codes "whole"))
ObsOf kinds.Set = Or (Behind (codes "has ") (Of obs.SetHas TextRule)) (Of (λ _. obs.SetAll) (Word (codes "all")))
ObsOf kinds.Hash = Or (Behind (codes "at ") (Of obs.HashAt TextRule)) (Of (λ _. obs.HashAll) (Word (codes "all")))
ObsOf kinds.List = Or (Of obs.ListAt (Numbered (codes "at "))) (Of (λ _. obs.ListAll) (Word (codes "all")))
ObsOf kinds.Peak = Or (Behind (codes "is ") (Of obs.PeakIs NumberRule)) (Behind (codes "over ") (Of (λ n. obs.PeakOver n false) NumberRule))

-- a column behind a space
abbrev pub Column : Rule ℕ ℕ
Column = Behind (codes " ") (NaturalRule LARGEST_COLUMN)

-- what stands behind the word for why a line is refused
abbrev pub WhyForm : WhyWord → Rule ℕ Why
WhyForm reason.Long = Pure why.Long
WhyForm reason.Client = Pure why.Client
WhyForm reason.Verb = Pure why.Verb
WhyForm reason.Syntax = Of why.Syntax Column
WhyForm reason.BadType = Of why.BadType Column
WhyForm reason.Writes = Of why.Writes Column
WhyForm reason.Name = Pure why.Name
WhyForm reason.Busy = Pure why.Busy
WhyForm reason.NoAttempt = Pure why.NoAttempt

-- why a line is refused
abbrev pub WhyRule : Rule ℕ Why
WhyRule = do
  reason ← SpelledBy why_of
  WhyForm reason

-- an outcome behind a space
abbrev pub Ending : {A : Type 0} → (Outcome → A) → Rule ℕ A
Ending f = Of f (Behind (codes " ") OutcomeRule)

-- what was observed, and which commit changed it
abbrev pub WitnessRule : Rule ℕ Witness
WitnessRule = do
  address ← Behind (codes " ") AddressRule
  obs ← Behind (codes " ") (ObsOf address.kind)
  base ← Numbered (codes " base ")
  part ← Behind (codes " clash ") (PartOf address.kind)
  number ← Numbered (codes " commit ")
  Pure (record { address = address; obs = obs; base = base; part = part; number = number })

-- a shard and its front
abbrev pub Fronted : (ℕ → ℕ → Reply) → Rule ℕ Reply
Fronted f = do
  shard ← Behind (codes " ") (NaturalRule LARGEST_SHARD)
  Of (f shard) (Numbered (codes " front "))

-- two numbers
abbrev pub Twice : (ℕ → ℕ → Reply) → Rule ℕ Reply
Twice f = do
  first ← Numbered (codes " ")
  Of (f first) (Numbered (codes " "))

-- what stands behind the first word
abbrev pub Form : ReplyWord → Rule ℕ Reply
Form word.Commit = do
  number ← Numbered (codes " ")
  Ending (reply.Commit number)
Form word.Abort = Of reply.Abort WitnessRule
Form word.Read = do
  address ← Behind (codes " ") AddressRule
  Of (reply.Read address) (Numbered (codes " base "))
Form word.Prepare = Fronted reply.Prepared
Form word.Follow = Fronted reply.Followed
Form word.At = do
  number ← Numbered (codes " ")
  Ending (reply.At number)
Form word.Run = do
  name ← Behind (codes " ") NameRule
  number ← Numbered (codes " ")
  Ending (reply.Ran name number)
Form word.Current = Of reply.Current (Numbered (codes " "))
Form word.Idle = Pure reply.Idle
Form word.Seen = Of reply.Seen (Numbered (codes " "))
Form word.Late = Twice reply.Late
Form word.Ahead = Twice reply.Ahead
Form word.Held = do
  client ← Behind (codes " ") (NaturalRule LARGEST_CLIENT)
  Of (reply.Held client) (Numbered (codes " commit "))
Form word.Full = Of reply.Full Column
Form word.Disk = Pure reply.Disk
Form word.Dropped = Pure reply.Dropped
Form word.Refused = Of reply.Refused (Behind (codes " ") WhyRule)

-- a reply
abbrev pub ReplyRule : Rule ℕ Reply
ReplyRule = do
  word ← SpelledBy word_of
  Form word

-- all of the bytes are a spelling of the reply
abbrev pub IsReply : Bytes → Reply → Type 0
IsReply = Whole ReplyRule
