use Rattle.std.proofs.Common.{◌≡◌, ◌++◌, Some, take}
use Rattle.script_runner.specs.Play.{reply_lines}
use Rattle.script_runner.proofs.replies.push_lines.Given as goal

-- the lines of so many replies are added
abbrev pub invariant-loop-reply : goal.invariant-loop-reply
invariant-loop-reply l = l.lines ≡ l.fn.lines ++ reply_lines (Some l.fn.client) (take l.reply-index l.replies)
