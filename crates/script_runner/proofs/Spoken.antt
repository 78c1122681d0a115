-- Reply lines, one after another.
use Rattle.std.proofs.Common.{◌≡◌, ℕ, List, [], ◌∷◌, ◌++◌, Option, sym, ap, ◌∙◌, append_assoc}
use Rattle.std.proofs.lemmas.List.{append-nil}
use Rattle.session_text.specs.declared.reply.Reply.{Reply}
use Rattle.session_text.specs.Printing.{printed_reply}
use Rattle.script_runner.specs.Play.{reply_line, reply_lines}

-- one reply more adds its line
pub lines-push : (client : Option ℕ) (rs : List Reply) (r : Reply)
    → reply_lines client (rs ++ r ∷ []) ≡ reply_lines client rs ++ reply_line client (printed_reply r)
lines-push client [] r = append-nil (reply_line client (printed_reply r))
lines-push client (x ∷ rs) r =
    ap (λ rest. reply_line client (printed_reply x) ++ rest) (lines-push client rs r)
    ∙ sym (append_assoc (reply_line client (printed_reply x)) (reply_lines client rs) (reply_line client (printed_reply r)))
