use Rattle.std.proofs.Common.{◌≡◌, ◌≤◌, length, take, drop, arith}
use Rattle.std.proofs.lemmas.Grind.{common_steps}
use Rattle.dio_core.proofs.Sources.{drop-filled}
use Rattle.stream_tests.proofs.told_disk.ToldDiskDisk.read.Goals as goal

pub returns-clause-shows : goal.returns-clause-shows
returns-clause-shows c =
    let file = c.args.self.now.file in
    let n = c.min-count.result in
    let within : n ≤ length (drop c.args.at file) = grind (arith, common_steps) in
    let copied : c.copy_from_slice.new.self ≡ take n (drop c.args.at file) = grind (arith, common_steps) in
    (grind (arith, common_steps), drop-filled n c.args.at file c.copy_from_slice.new.self _ copied within)
