use Rattle.std.proofs.Common.{◌≡◌, ◌<◌, length, ap, sym, ◌∙◌, subst, arith}
use Rattle.std.proofs.lemmas.Grind.{common_steps}
use Rattle.link_buffer.specs.Ahead.{left_of}
use Rattle.link_buffer.proofs.Ahead.{gives-left, left-filled}
use Rattle.link_buffer.proofs.link.BufferedLinkSource.read.Goals as goal
use Rattle.link_buffer.proofs.link.BufferedLinkSource.read.Goals.{then-is_empty+in-Bytes, else-is_empty}

pub returns-clause-gives : goal.returns-clause-gives
returns-clause-gives g c =
    let left = g.K.Source.left in
    let now = c.args.self.now in
    let mid = c.if-is_empty.self in
    let some : 0 < length mid.held = elim c.if-is_empty.branch [
      | then-is_empty+in-Bytes w ↦ subst (λ l. 0 < length l.held) (sym w.self-is) w.in-Bytes.ensures.fills.0
      | else-is_empty w ↦ grind (arith, common_steps)
    ] in
    let same : left_of left now ≡ left_of left mid = elim c.if-is_empty.branch [
      | then-is_empty+in-Bytes w ↦ left-filled left now w.fill.new.self (grind (arith, common_steps)) w.in-Bytes.ensures.fills.1
          ∙ ap (left_of left) (sym w.self-is)
      | else-is_empty w ↦ ap (left_of left) (sym w.self-is)
    ] in
    let gave = gives-left left c.give.result c.args.buf.now c.give.new.buf mid c.give.new.self some c.requires c.give.ensures in
    (gave.0, gave.1, same ∙ gave.2)
