-- The readers of replies, as functions: the code is proved equal to them. Judge by the rules of specs/Replies: the law
-- `readers_are_rules` ties the reader of replies to its rule.
use Rattle.std.specs.Prelude.{ℕ, false, pos, codes}
use Rattle.plain_data.specs.Texts.{Bytes}
use Rattle.predictive_parsing.specs.Reading.{Reader, ◌>>=◌, pure, either, of}
use Rattle.predictive_parsing.specs.Bytes.{sees, word, behind}
use Rattle.predictive_parsing.specs.Choices.{one_of}
use Rattle.rdt_types.specs.declared.address.Kind.{Kind}
use Rattle.rdt_types.specs.declared.address.Kind.TheVariants as kinds
use Rattle.rdt_types.specs.declared.address.Address.{Address}
use Rattle.rdt_types.specs.declared.outcome.Outcome.{Outcome}
use Rattle.conflict_table.specs.declared.observation.Obs.{Obs}
use Rattle.conflict_table.specs.declared.observation.Obs.TheVariants as obs
use Rattle.abort_witness.specs.declared.witness.Witness.{Witness}
use Rattle.dtext.specs.code.Reading.{text, number, natural, address, outcome, part_of}
use Rattle.session_text.specs.declared.limits.TheConstants.{LARGEST, LARGEST_SHARD, LARGEST_COLUMN, LARGEST_CLIENT}
use Rattle.session_text.specs.declared.reply.Reply.{Reply}
use Rattle.session_text.specs.declared.reply.Reply.TheVariants as reply
use Rattle.session_text.specs.declared.reply.Why.{Why}
use Rattle.session_text.specs.declared.reply.Why.TheVariants as why
use Rattle.session_text.specs.declared.words.ReplyWord.{ReplyWord}
use Rattle.session_text.specs.declared.words.ReplyWord.TheVariants as first
use Rattle.session_text.specs.declared.words.TheConstants.{OTHER_REPLIES, OTHER_REASONS}
use Rattle.session_text.specs.declared.words.WhyWord.{WhyWord}
use Rattle.session_text.specs.declared.words.WhyWord.TheVariants as reason
use Rattle.session_text.specs.Printing.{word_of, why_of}
use Rattle.session_text.specs.code.Lines.{name}

-- a number behind a word
unfoldable pub numbered : Bytes → Reader ℕ ℕ
numbered w = behind w (natural LARGEST)

-- what all of a kind's value is observed by; of a peak, whose observation has the value in it, it isn't asked for
abbrev pub whole_of : Kind → Obs
whole_of kinds.Bool = obs.BoolIs
whole_of kinds.Counter = obs.CounterIs
whole_of kinds.Text = obs.TextIs
whole_of kinds.Set = obs.SetAll
whole_of kinds.Hash = obs.HashAll
whole_of kinds.List = obs.ListAll
whole_of kinds.Peak = obs.PeakIs (pos 0)

-- the word for a whole value
unfoldable pub whole : Kind → Reader ℕ Obs
whole kind = of (λ _. whole_of kind) (word (codes "whole"))

-- the word for a whole collection
unfoldable pub all : Kind → Reader ℕ Obs
all kind = of (λ _. whole_of kind) (word (codes "all"))

-- of a set
unfoldable pub set_obs : Reader ℕ Obs
set_obs = either (sees 104) (behind (codes "has ") (of obs.SetHas text)) (all kinds.Set)

-- the first two letters of `at` and `all` are told apart behind the first
unfoldable pub hash_obs : Reader ℕ Obs
hash_obs = behind (codes "a") (either (sees 116) (behind (codes "t ") (of obs.HashAt text)) (of (λ _. obs.HashAll) (word (codes "ll"))))

-- of a list
unfoldable pub list_obs : Reader ℕ Obs
list_obs = behind (codes "a") (either (sees 116) (of obs.ListAt (numbered (codes "t "))) (of (λ _. obs.ListAll) (word (codes "ll"))))

-- of a peak, whose `over` was false
unfoldable pub peak_obs : Reader ℕ Obs
peak_obs = either (sees 105) (behind (codes "is ") (of obs.PeakIs number)) (behind (codes "over ") (of (λ n. obs.PeakOver n false) number))

-- beside an address
unfoldable pub obs_of : Kind → Reader ℕ Obs
obs_of kinds.Bool = whole kinds.Bool
obs_of kinds.Counter = whole kinds.Counter
obs_of kinds.Text = whole kinds.Text
obs_of kinds.Set = set_obs
obs_of kinds.Hash = hash_obs
obs_of kinds.List = list_obs
obs_of kinds.Peak = peak_obs

-- a column behind a space
unfoldable pub column : Reader ℕ ℕ
column = behind (codes " ") (natural LARGEST_COLUMN)

-- what stands behind the word for why a line is refused
unfoldable pub why_form : WhyWord → Reader ℕ Why
why_form reason.Long = pure why.Long
why_form reason.Client = pure why.Client
why_form reason.Verb = pure why.Verb
why_form reason.Syntax = of why.Syntax column
why_form reason.BadType = of why.BadType column
why_form reason.Writes = of why.Writes column
why_form reason.Name = pure why.Name
why_form reason.Busy = pure why.Busy
why_form reason.NoAttempt = pure why.NoAttempt

-- why a line is refused
unfoldable pub why_read : Reader ℕ Why
why_read = do
  reason ← one_of why_of reason.Long OTHER_REASONS
  why_form reason

-- an address behind a space
unfoldable pub spaced_address : Reader ℕ Address
spaced_address = behind (codes " ") address

-- an outcome behind a space
unfoldable pub ending : Reader ℕ Outcome
ending = behind (codes " ") outcome

-- a name behind a space
unfoldable pub spaced_name : Reader ℕ Bytes
spaced_name = behind (codes " ") name

-- what was observed, and which commit changed it
unfoldable pub witness : Reader ℕ Witness
witness = do
  address ← spaced_address
  obs ← behind (codes " ") (obs_of address.kind)
  base ← numbered (codes " base ")
  part ← behind (codes " clash ") (part_of address.kind)
  number ← numbered (codes " commit ")
  pure (record { address = address; obs = obs; base = base; part = part; number = number })

-- a shard
unfoldable pub shard : Reader ℕ ℕ
shard = behind (codes " ") (natural LARGEST_SHARD)

-- a client
unfoldable pub client : Reader ℕ ℕ
client = behind (codes " ") (natural LARGEST_CLIENT)

-- the first word tells the form, each a reader of its own
unfoldable pub commit : Reader ℕ Reply
commit = do
  number ← numbered (codes " ")
  of (reply.Commit number) ending

unfoldable pub read : Reader ℕ Reply
read = do
  address ← spaced_address
  of (reply.Read address) (numbered (codes " base "))

unfoldable pub prepared : Reader ℕ Reply
prepared = do
  shard ← shard
  of (reply.Prepared shard) (numbered (codes " front "))

unfoldable pub followed : Reader ℕ Reply
followed = do
  shard ← shard
  of (reply.Followed shard) (numbered (codes " front "))

unfoldable pub at : Reader ℕ Reply
at = do
  number ← numbered (codes " ")
  of (reply.At number) ending

unfoldable pub ran : Reader ℕ Reply
ran = do
  watch ← spaced_name
  number ← numbered (codes " ")
  of (reply.Ran watch number) ending

unfoldable pub late : Reader ℕ Reply
late = do
  number ← numbered (codes " ")
  of (reply.Late number) (numbered (codes " "))

unfoldable pub ahead_of : Reader ℕ Reply
ahead_of = do
  number ← numbered (codes " ")
  of (reply.Ahead number) (numbered (codes " "))

unfoldable pub held : Reader ℕ Reply
held = do
  client ← client
  of (reply.Held client) (numbered (codes " commit "))

-- why, behind a space
unfoldable pub refused : Reader ℕ Reply
refused = of reply.Refused (behind (codes " ") why_read)

-- what stands behind the first word
unfoldable pub form : ReplyWord → Reader ℕ Reply
form first.Commit = commit
form first.Abort = of reply.Abort witness
form first.Read = read
form first.Prepare = prepared
form first.Follow = followed
form first.At = at
form first.Run = ran
form first.Current = of reply.Current (numbered (codes " "))
form first.Idle = pure reply.Idle
form first.Seen = of reply.Seen (numbered (codes " "))
form first.Late = late
form first.Ahead = ahead_of
form first.Held = held
form first.Full = of reply.Full column
form first.Disk = pure reply.Disk
form first.Dropped = pure reply.Dropped
form first.Refused = refused

-- a reply
unfoldable pub reply_read : Reader ℕ Reply
reply_read = do
  w ← one_of word_of first.Commit OTHER_REPLIES
  form w
