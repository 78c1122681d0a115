use Rattle.std.proofs.Common.{◌≡◌, ap, ◌∙◌, arith}
use Rattle.std.specs.declared.alloc.AllocError.{AllocError}
use Rattle.std.proofs.lemmas.Grind.{common_steps}
use Rattle.dio_core.specs.Disks.{loosened, write_start}
use Rattle.dio_core.proofs.Disks.{Writes-done}
use Rattle.stream_tests.proofs.told_disk.ToldDisk.write.Goals as goal

pub returns-clause-writes : goal.returns-clause-writes
returns-clause-writes c =
    let disk = c.args.self.now in
    let start : c.args.at ≡ write_start disk.file c.args.at = omega arith in
    Writes-done (Unit {0}) AllocError tt c.args.at c.args.bytes.now _ _ c.requires.some (grind (arith, common_steps))
    (c.in_ok-loosen.ensures.ok ∙ ap (λ from. loosened from c.args.end disk.now) start
    ∙ ap (λ to. loosened (write_start disk.file c.args.at) to disk.now) c.requires.end)
