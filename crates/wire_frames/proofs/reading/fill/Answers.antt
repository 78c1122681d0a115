use Rattle.std.proofs.Common.{◌-◌, length, ◌∙◌}
use borrow.Rule.Slice.PartMut.{same_len_mid}
use Rattle.wire_frames.proofs.Pieced.{fronts-more}
use Rattle.wire_frames.proofs.reading.fill.Goals as goal

-- more bytes are read into the rest of the buffer
pub loop-count-preserved : goal.loop-count-preserved
loop-count-preserved g c =
    let left = g.R.Source.left in
    let before = c.loop-count in
    let given = c.in-Bytes.ensures.gives in record {
      fronts = fronts-more before.count c.in-Bytes.more before.buf c.read.new.buf (left c.args.source.now) (left before.source)
          (left c.read.new.self) before.invariant.fronts given.1 c.read.auto.buf given.2;
      size =
          same_len_mid before.count (length before.buf - before.count) before.buf c.read.new.buf c.read.auto.buf ∙ before.invariant.size;
      written = c.in-Bytes.ensures.written ∙ before.invariant.written;
      counted = c.in-Bytes.ensures.counted ∙ before.invariant.counted;
    }
