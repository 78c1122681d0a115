-- What is printed reads back.
use Rattle.std.specs.Prelude.{◌≤◌}
use Rattle.plain_data.specs.Texts.{Bytes}
use Rattle.predictive_parsing.specs.Rules.{Whole}
use Rattle.abort_witness.specs.declared.witness.Witness.{Witness}
use Rattle.abort_witness.specs.Kinds.{IsOfOneKind}
use Rattle.abort_witness.specs.Naming.{IsPrintable}
use Rattle.conflict_table.specs.declared.observation.Obs.{Obs}
use Rattle.conflict_table.specs.declared.observation.Obs.TheVariants as obs
use Rattle.dtext.specs.Spellings.{Fits64}
use Rattle.dtext.specs.ReadBack.{FitsOutcome, FitsPart}
use Rattle.session_text.specs.declared.limits.TheConstants.{LARGEST, LARGEST_SHARD, LARGEST_COLUMN, LARGEST_CLIENT}
use Rattle.session_text.specs.declared.reply.Reply.{Reply}
use Rattle.session_text.specs.declared.reply.Reply.TheVariants as reply
use Rattle.session_text.specs.declared.reply.Why.{Why}
use Rattle.session_text.specs.declared.reply.Why.TheVariants as why
use Rattle.session_text.specs.Lines.{NameRule}
use Rattle.session_text.specs.Printing.{printed_reply}
use Rattle.session_text.specs.Replies.{IsReply}

-- a name
abbrev pub IsName : Bytes → Type 0
IsName name = Whole NameRule name name

-- the place or the number of an observation is of 64 bits
abbrev pub FitsObs : Obs → Type 0
FitsObs (obs.ListAt place) = place ≤ LARGEST
FitsObs (obs.PeakIs value) = Fits64 value
FitsObs (obs.PeakOver limit was_over) = Fits64 limit
FitsObs other = Unit {0}

-- A witness of one kind, whose numbers are of 64 bits. An `over` in it was false, as each is that a witness names: nothing
-- clashes with one that was true.
pub record FitsWitness (w : Witness) : Type 0 where
  pub kind : IsOfOneKind w
  pub printable : IsPrintable w.obs
  pub obs : FitsObs w.obs
  pub base : w.base ≤ LARGEST
  pub part : FitsPart w.part
  pub number : w.number ≤ LARGEST

-- the column is of 32 bits
abbrev pub FitsWhy : Why → Type 0
FitsWhy (why.Syntax column) = column ≤ LARGEST_COLUMN
FitsWhy (why.BadType column) = column ≤ LARGEST_COLUMN
FitsWhy (why.Writes column) = column ≤ LARGEST_COLUMN
FitsWhy other = Unit {0}

-- What is asked of a reply: the name of a watch is a name, a witness is of one kind, and an `over` that it names was false,
-- as that of every abort is. All else says that numbers are as large as those of every reply that a program holds.
abbrev pub Fits : Reply → Type 0
Fits (reply.Commit n outcome) = (n ≤ LARGEST) × FitsOutcome outcome
Fits (reply.Abort witness) = FitsWitness witness
Fits (reply.Read address base) = base ≤ LARGEST
Fits (reply.Prepared shard front) = (shard ≤ LARGEST_SHARD) × (front ≤ LARGEST)
Fits (reply.Followed shard front) = (shard ≤ LARGEST_SHARD) × (front ≤ LARGEST)
Fits (reply.At n outcome) = (n ≤ LARGEST) × FitsOutcome outcome
Fits (reply.Ran name n outcome) = IsName name × (n ≤ LARGEST) × FitsOutcome outcome
Fits (reply.Current n) = n ≤ LARGEST
Fits reply.Idle = Unit {0}
Fits (reply.Seen n) = n ≤ LARGEST
Fits (reply.Late n horizon) = (n ≤ LARGEST) × (horizon ≤ LARGEST)
Fits (reply.Ahead n seen) = (n ≤ LARGEST) × (seen ≤ LARGEST)
Fits (reply.Held client number) = (client ≤ LARGEST_CLIENT) × (number ≤ LARGEST)
Fits (reply.Full limit) = limit ≤ LARGEST_COLUMN
Fits reply.Disk = Unit {0}
Fits reply.Dropped = Unit {0}
Fits (reply.Refused reason) = FitsWhy reason

-- each reply's printed form is a spelling of it
abbrev pub RepliesReadBack : Type 0
RepliesReadBack = (reply : Reply) → Fits reply → IsReply (printed_reply reply) reply
