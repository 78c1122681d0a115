use Rattle.docc_prepare.proofs.Readable.{sound-reads}
use Rattle.local_world.specs.Stored.{store_of}
use Rattle.local_world.proofs.view.ViewBackend.seen.Goals as goal

pub returns-clause-readable : goal.returns-clause-readable
returns-clause-readable c = sound-reads (store_of c.args.self.now.world.now) c.args.self.now.client c.seen.ensures.sound
