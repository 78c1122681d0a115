-- The printed form of replies, a row a reply: words and numbers with one space between each two. Texts, addresses, outcomes
-- and parts are printed as data is.
use Rattle.std.specs.Prelude.{◌≡◌, ℕ, true, false, [], ◌∷◌, ◌++◌, codes, pos, refl}
use Rattle.std.specs.Fmt.{decimal, signed_decimal, digits}
use Rattle.plain_data.specs.Texts.{Bytes}
use Rattle.rdt_types.specs.declared.address.Kind.TheVariants as kind
use Rattle.rdt_types.specs.declared.operation.WriteOp.TheVariants as op
use Rattle.rdt_types.specs.declared.outcome.Item.TheVariants as item
use Rattle.rdt_types.specs.declared.outcome.Outcome.TheVariants as outcome
use Rattle.rdt_types.specs.Printed.{printed_text, printed_address}
use Rattle.conflict_table.specs.declared.observation.Obs.{Obs}
use Rattle.conflict_table.specs.declared.observation.Obs.TheVariants as obs
use Rattle.abort_witness.specs.declared.witness.Witness.{Witness}
use Rattle.dtext.specs.Printing.{printed_outcome, printed_part}
use Rattle.session_text.specs.declared.reply.Reply.{Reply}
use Rattle.session_text.specs.declared.reply.Reply.TheVariants as reply
use Rattle.session_text.specs.declared.reply.Why.{Why}
use Rattle.session_text.specs.declared.reply.Why.TheVariants as why
use Rattle.session_text.specs.declared.words.ReplyWord.{ReplyWord}
use Rattle.session_text.specs.declared.words.ReplyWord.TheVariants as word
use Rattle.session_text.specs.declared.words.WhyWord.{WhyWord}
use Rattle.session_text.specs.declared.words.WhyWord.TheVariants as reason

-- the first word of a reply
abbrev pub word_of : ReplyWord → Bytes
word_of word.Commit = codes "commit"
word_of word.Abort = codes "abort"
word_of word.Read = codes "read"
word_of word.Prepare = codes "prepare"
word_of word.Follow = codes "follow"
word_of word.At = codes "at"
word_of word.Run = codes "run"
word_of word.Current = codes "current"
word_of word.Idle = codes "idle"
word_of word.Seen = codes "seen"
word_of word.Late = codes "late"
word_of word.Ahead = codes "ahead"
word_of word.Held = codes "held"
word_of word.Full = codes "full"
word_of word.Disk = codes "disk"
word_of word.Dropped = codes "dropped"
word_of word.Refused = codes "refused"

-- the word for why a line is refused
abbrev pub why_of : WhyWord → Bytes
why_of reason.Long = codes "long"
why_of reason.Client = codes "client"
why_of reason.Verb = codes "verb"
why_of reason.Syntax = codes "syntax"
why_of reason.BadType = codes "type"
why_of reason.Writes = codes "writes"
why_of reason.Name = codes "name"
why_of reason.Busy = codes "busy"
why_of reason.NoAttempt = codes "none"

-- a number behind a word
abbrev pub counted : Bytes → ℕ → Bytes
counted word n = word ++ decimal n

-- an observation: of which kind it is, the address beside it says
abbrev pub printed_obs : Obs → Bytes
printed_obs obs.BoolIs = codes "whole"
printed_obs obs.CounterIs = codes "whole"
printed_obs obs.TextIs = codes "whole"
printed_obs (obs.SetHas element) = codes "has " ++ printed_text element
printed_obs obs.SetAll = codes "all"
printed_obs (obs.HashAt field) = codes "at " ++ printed_text field
printed_obs obs.HashAll = codes "all"
printed_obs (obs.ListAt place) = codes "at " ++ decimal place
printed_obs obs.ListAll = codes "all"
printed_obs (obs.PeakIs value) = codes "is " ++ signed_decimal value
printed_obs (obs.PeakOver limit was_over) = codes "over " ++ signed_decimal limit

-- why a line is refused, with the column where there is one
abbrev pub printed_why : Why → Bytes
printed_why why.Long = why_of reason.Long
printed_why why.Client = why_of reason.Client
printed_why why.Verb = why_of reason.Verb
printed_why (why.Syntax column) = why_of reason.Syntax ++ counted (codes " ") column
printed_why (why.BadType column) = why_of reason.BadType ++ counted (codes " ") column
printed_why (why.Writes column) = why_of reason.Writes ++ counted (codes " ") column
printed_why why.Name = why_of reason.Name
printed_why why.Busy = why_of reason.Busy
printed_why why.NoAttempt = why_of reason.NoAttempt

-- what was observed, where, and at which base
abbrev pub printed_observed : Witness → Bytes
printed_observed w = printed_address w.address ++ (codes " " ++ (printed_obs w.obs ++ (codes " base " ++ decimal w.base)))

-- what was observed, and which commit changed it
abbrev pub printed_witness : Witness → Bytes
printed_witness w =
    printed_address w.address ++ (codes " " ++ (printed_obs w.obs ++ (codes " base " ++ (decimal w.base
    ++ (codes " clash " ++ (printed_part w.part ++ (codes " commit " ++ decimal w.number)))))))

-- what stands behind a reply's first word and a space
abbrev pub worded : ReplyWord → Bytes → Bytes
worded w rest = word_of w ++ (codes " " ++ rest)

-- the printed form of a reply
abbrev pub printed_reply : Reply → Bytes
printed_reply (reply.Commit n outcome) = worded word.Commit (decimal n ++ (codes " " ++ printed_outcome outcome))
printed_reply (reply.Abort witness) = worded word.Abort (printed_witness witness)
printed_reply (reply.Read address base) = worded word.Read (printed_address address ++ (codes " base " ++ decimal base))
printed_reply (reply.Prepared shard front) = worded word.Prepare (decimal shard ++ (codes " front " ++ decimal front))
printed_reply (reply.Followed shard front) = worded word.Follow (decimal shard ++ (codes " front " ++ decimal front))
printed_reply (reply.At n outcome) = worded word.At (decimal n ++ (codes " " ++ printed_outcome outcome))
printed_reply (reply.Ran name n outcome) = worded word.Run (name ++ (codes " " ++ (decimal n ++ (codes " " ++ printed_outcome outcome))))
printed_reply (reply.Current n) = worded word.Current (decimal n)
printed_reply reply.Idle = word_of word.Idle
printed_reply (reply.Seen n) = worded word.Seen (decimal n)
printed_reply (reply.Late n horizon) = worded word.Late (decimal n ++ (codes " " ++ decimal horizon))
printed_reply (reply.Ahead n seen) = worded word.Ahead (decimal n ++ (codes " " ++ decimal seen))
printed_reply (reply.Held client number) = worded word.Held (decimal client ++ (codes " commit " ++ decimal number))
printed_reply (reply.Full limit) = worded word.Full (decimal limit)
printed_reply reply.Disk = word_of word.Disk
printed_reply reply.Dropped = word_of word.Dropped
printed_reply (reply.Refused reason) = worded word.Refused (printed_why reason)

-- ---- worked rows

-- a commit of a body that emitted two values
commit-row : printed_reply (reply.Commit 12 (outcome.Ok (item.Int (pos 1) ∷ item.Bool true ∷ []))) ≡ codes "commit 12 ok 1 true"
unfolding digits
commit-row = refl

-- an element that was observed at commit 3, and which commit 5 took out
abort-row :
    printed_reply (reply.Abort (record {
      address = record { kind = kind.Set; key = codes "s" };
      obs = obs.SetHas (codes "a");
      base = 3;
      part = op.SetRemove (codes "a");
      number = 5;
    })) ≡ codes "abort set(\"s\") has \"a\" base 3 clash remove \"a\" commit 5"
unfolding digits
abort-row = refl

-- a peak that wasn't above 60 at commit 4, and which commit 5 raised
over-row :
    printed_reply (reply.Abort (record {
      address = record { kind = kind.Peak; key = codes "bid" };
      obs = obs.PeakOver (pos 60) false;
      base = 4;
      part = op.Raise (pos 61);
      number = 5;
    })) ≡ codes "abort peak(\"bid\") over 60 base 4 clash raise 61 commit 5"
unfolding digits
over-row = refl

-- the client whose hold bars, and the hold's commit
held-row : printed_reply (reply.Held 0 2) ≡ codes "held 0 commit 2"
unfolding digits
held-row = refl

-- a shard and its front
prepared-row : printed_reply (reply.Prepared 3 12) ≡ codes "prepare 3 front 12"
unfolding digits
prepared-row = refl

-- a run of a watch that had no ticks left
ran-row : printed_reply (reply.Ran (codes "free") 10 outcome.Spent) ≡ codes "run free 10 spent"
unfolding digits
ran-row = refl

-- nothing was seen yet
seen-row : printed_reply (reply.Seen 0) ≡ codes "seen 0"
unfolding digits
seen-row = refl

-- a word alone
idle-row : printed_reply reply.Idle ≡ codes "idle"
idle-row = refl

-- a refusal, with the column of its body
refused-row : printed_reply (reply.Refused (why.Syntax 7)) ≡ codes "refused syntax 7"
unfolding digits
refused-row = refl
