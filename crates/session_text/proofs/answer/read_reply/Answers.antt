use Rattle.std.proofs.Common.{refl}
use Rattle.dtext.specs.Follows.{no_more}
use Rattle.dtext.proofs.Wholes.{promised}
use Rattle.session_text.specs.Replies.{ReplyRule}
use Rattle.session_text.specs.code.Replies as spec
use Rattle.session_text.proofs.ReplyFits.{reply_fits}
use Rattle.session_text.proofs.answer.read_reply.Goals as goal

pub returns : goal.returns
returns c =
    let k = promised spec.reply_read ReplyRule no_more reply_fits refl c.args.bytes.now c.new-cursor.result c.finish.result c.new-cursor.ensures
    (λ n. c.finish.ensures.answer (spec.reply_read c.new-cursor.result) c.reply-found.ensures (λ e. n (c.finish.ensures.memory e)))
    in
    record { read = k.read; spellings = k.spellings; refused = k.refused }
