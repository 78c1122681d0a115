use Rattle.diamond_store.proofs.Readable.{pass-reads}
use Rattle.diamond_store.proofs.served.ServedBackend.seen.Goals as goal

pub returns-clause-readable : goal.returns-clause-readable
returns-clause-readable g c = pass-reads c.args.self.now.pass c.seen.ensures.within c.seen.ensures.kept c.seen.ensures.lawful
