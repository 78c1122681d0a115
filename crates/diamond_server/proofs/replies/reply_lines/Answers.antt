use Rattle.std.proofs.Common.{◌++◌, [], ◌∷◌, take, sym, ap, ◌∙◌, arith}
use Rattle.std.proofs.lemmas.List.{take_more}
use Rattle.diamond_server.specs.Talking.{reply_line, reply_lines}
use Rattle.diamond_server.proofs.Lines.{lines-push}
use Rattle.diamond_server.proofs.replies.reply_lines.Goals as goal

-- one reply more adds its line
pub loop-reply-preserved : goal.loop-reply-preserved
loop-reply-preserved c =
    let items = c.args.replies.now in
    let i = c.loop-reply.reply-index in
    let item = c.reply-item.result in
    let longer = take_more items i item (omega arith) ∙ ap (λ r. take i items ++ r ∷ []) (sym c.reply-item.is) in
    c.in_ok-push_line.ensures
    ∙ (ap (λ lines. lines ++ reply_line item) c.loop-reply.invariant
    ∙ (sym (lines-push (take i items) item) ∙ ap reply_lines (sym longer)))
