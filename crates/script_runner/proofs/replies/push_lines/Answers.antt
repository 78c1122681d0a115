use Rattle.std.proofs.Common.{◌++◌, [], ◌∷◌, Some, take, sym, ap, ◌∙◌, arith, append_assoc}
use Rattle.std.proofs.lemmas.List.{take_more}
use Rattle.session_text.specs.Printing.{printed_reply}
use Rattle.script_runner.specs.Play.{reply_line, reply_lines}
use Rattle.script_runner.proofs.Spoken.{lines-push}
use Rattle.script_runner.proofs.replies.push_lines.Goals as goal

-- one reply more adds its line
pub loop-reply-preserved : goal.loop-reply-preserved
loop-reply-preserved c =
    let client = Some c.args.client in
    let items = c.args.replies.now in
    let i = c.loop-reply.reply-index in
    let item = c.reply-item.result in
    let before = c.args.lines.now in
    let longer = take_more items i item (omega arith) ∙ ap (λ r. take i items ++ r ∷ []) (sym c.reply-item.is) in
    c.in_ok-push_line.ensures
    ∙ (ap (λ lines. lines ++ reply_line client (printed_reply item)) c.loop-reply.invariant
    ∙ (append_assoc before (reply_lines client (take i items)) (reply_line client (printed_reply item))
    ∙ ap (λ lines. before ++ lines) (sym (lines-push client (take i items) item) ∙ ap (reply_lines client) (sym longer))))
