use Rattle.std.proofs.Common.{length}
use Rattle.diamond_store.proofs.Sound.{lawful-sound}
use Rattle.diamond_store.proofs.opening.open.Goals as goal

pub new-requires-clause-numbered : goal.new-requires-clause-numbered
new-requires-clause-numbered g c = (lawful-sound (length c.args.kept) c.args.kept c.requires.lawful).orderly.numbered

pub new-requires-clause-kinds : goal.new-requires-clause-kinds
new-requires-clause-kinds g c = (lawful-sound (length c.args.kept) c.args.kept c.requires.lawful).orderly.kinds
