use Rattle.std.proofs.Common.{refl}
use Rattle.predictive_parsing.specs.Bytes.{IsByte}
use Rattle.predictive_parsing.proofs.Wholes.{whole_unique}
use Rattle.dtext.specs.Follows.{no_more}
use Rattle.session_text.specs.Follows.{at_end}
use Rattle.session_text.specs.Lines.{VerbRule}
use Rattle.session_text.specs.Replies.{ReplyRule}
use Rattle.session_text.specs.code.Lines.{line}
use Rattle.session_text.specs.code.Replies.{reply_read}
use Rattle.session_text.proofs.LineFits.{line_fits}
use Rattle.session_text.proofs.ReplyFits.{reply_fits}
use Rattle.session_text.proofs.laws.texts_have_one_value.Goals as goal

pub returns : goal.returns
returns c =
    record {
      lines = whole_unique IsByte line VerbRule at_end line_fits refl;
      replies = whole_unique IsByte reply_read ReplyRule no_more reply_fits refl;
    }
