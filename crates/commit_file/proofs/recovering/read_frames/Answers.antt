use Rattle.commit_file.proofs.Scanned.{found_frames}
use Rattle.commit_file.proofs.recovering.read_frames.Goals as goal

pub returns-clause-found : goal.returns-clause-found
returns-clause-found g c =
    found_frames g.C.Chain.follows c.args.frames.now c.in_ok-behind.behind.now (g.C.Chain.payloads c.args.chain.now)
    (g.C.Chain.payloads c.scan.new.chain) c.place.result c.requires.empty c.in_ok-behind.ensures.scanned c.place.ensures
