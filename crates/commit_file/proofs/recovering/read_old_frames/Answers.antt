use Rattle.std.proofs.Common.{◌++◌}
use Rattle.std.proofs.lemmas.Result.{err_from_is_err_and}
use Rattle.commit_file.specs.declared.version.Version.TheVariants.{One, Two}
use Rattle.commit_file.specs.Files.{header}
use Rattle.commit_file.specs.Kept.{kept, checked, payloads}
use Rattle.commit_file.specs.Kept.Reading.{NotJournal}
use Rattle.commit_file.proofs.Scanned.{found_unmarked, found_marked, refused_marked, refused-same}
use Rattle.commit_file.proofs.recovering.read_old_frames.Goals as goal

pub returns-in_default-clause-found : goal.returns-in_default-clause-found
returns-in_default-clause-found g c = λ long.
    found_unmarked g.C.Chain.follows c.args.frames.now c.in_ok-behind.behind.now (g.C.Chain.payloads c.args.chain.now)
    (g.C.Chain.payloads c.scan.new.chain) c.requires.empty c.in_ok-behind.ensures.scanned long c.place.result
    c.in_default.ensures c.place.ensures

pub returns-in_err-last-clause-refused : goal.returns-in_err-last-clause-refused
returns-in_err-last-clause-refused g c =
    let p = err_from_is_err_and c.from_residual-in_err-last.result c.from_residual-in_err-last.ensures.1 in
    rw (p.1, p.2) (λ long.
    refused-same (checked g.C.Chain.follows Two (g.C.Chain.payloads c.scan.new.chain) c.place-2.result (payloads c.in-Some.marked.now))
    (kept g.C.Chain.follows (header One ++ c.args.frames.now)) c.in_err-last.field-0.0
    (λ stop is. refused_marked g.C.Chain.follows c.args.frames.now c.in_ok-behind.behind.now (g.C.Chain.payloads c.args.chain.now)
    (g.C.Chain.payloads c.scan.new.chain) c.requires.empty c.in_ok-behind.ensures.scanned long c.in-Some.marked.now c.in-Some.ensures
    c.place-2.result (NotJournal stop) c.place-2.ensures is) c.in_err-last.ensures.refused)

pub returns-clause-found : goal.returns-clause-found
returns-clause-found g c = λ long.
    found_marked g.C.Chain.follows c.args.frames.now c.in_ok-behind.behind.now (g.C.Chain.payloads c.args.chain.now)
    (g.C.Chain.payloads c.scan.new.chain) c.requires.empty c.in_ok-behind.ensures.scanned long c.in-Some.marked.now
    c.in-Some.ensures c.in_ok-last.last.now (g.C.Chain.payloads c.scan-2.new.chain) c.place-3.result
    c.in_ok-last.ensures.scanned c.place-3.ensures
