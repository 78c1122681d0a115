use Rattle.std.proofs.Common.{◌≡◌, take}
use Rattle.diamond_server.specs.Talking.{reply_lines}
use Rattle.diamond_server.proofs.replies.reply_lines.Given as goal

-- the lines of so many replies are there
abbrev pub invariant-loop-reply : goal.invariant-loop-reply
invariant-loop-reply l = l.lines ≡ reply_lines (take l.reply-index l.replies)
