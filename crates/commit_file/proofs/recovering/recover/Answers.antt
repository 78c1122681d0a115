use Rattle.std.proofs.Common.{ap, sym, ◌∙◌}
use Rattle.commit_file.specs.Kept.{kept}
use Rattle.commit_file.proofs.Settled.{alike_read, alike_settled, stands-at_rest}
use Rattle.commit_file.proofs.recovering.recover.Goals as goal

pub returns-in_err-text-clause-any_moment : goal.returns-in_err-text-clause-any_moment
returns-in_err-text-clause-any_moment g c =
    alike_read g.C.Chain.follows (g.D.Disk.state c.args.disk.now) (g.D.Disk.state c.read_file.new.disk)
    (g.D.Disk.past c.args.disk.now) (g.D.Disk.past c.read_file.new.disk)
    c.read_file.ensures.same c.read_file.ensures.past c.requires.pending

pub returns-in_err-found-clause-any_moment : goal.returns-in_err-found-clause-any_moment
returns-in_err-found-clause-any_moment g c =
    alike_read g.C.Chain.follows (g.D.Disk.state c.args.disk.now) (g.D.Disk.state c.read_file.new.disk)
    (g.D.Disk.past c.args.disk.now) (g.D.Disk.past c.read_file.new.disk)
    c.read_file.ensures.same c.read_file.ensures.past c.requires.pending

pub returns-in_err-end-clause-any_moment : goal.returns-in_err-end-clause-any_moment
returns-in_err-end-clause-any_moment g c =
    alike_settled g.C.Chain.follows (g.C.Chain.payloads c.read_bytes.new.chain) c.in_ok-text.text
    (g.D.Disk.state c.args.disk.now) (g.D.Disk.state c.read_file.new.disk) (g.D.Disk.state c.settle.new.disk)
    (g.D.Disk.past c.args.disk.now) (g.D.Disk.past c.read_file.new.disk) (g.D.Disk.past c.settle.new.disk)
    c.read_file.ensures.same c.read_file.ensures.past c.in_ok-text.ensures.reads
    (ap (kept g.C.Chain.follows) (sym c.as_slice-bytes.ensures) ∙ c.in_ok-found.ensures.found.kept_as)
    (c.settle.ensures.any_moment g.C.Chain.follows (g.C.Chain.payloads c.read_bytes.new.chain) c.in_ok-found.ensures.found)

pub returns-clause-any_moment : goal.returns-clause-any_moment
returns-clause-any_moment g c =
    alike_settled g.C.Chain.follows (g.C.Chain.payloads c.read_bytes.new.chain) c.in_ok-text.text
    (g.D.Disk.state c.args.disk.now) (g.D.Disk.state c.read_file.new.disk) (g.D.Disk.state c.settle.new.disk)
    (g.D.Disk.past c.args.disk.now) (g.D.Disk.past c.read_file.new.disk) (g.D.Disk.past c.settle.new.disk)
    c.read_file.ensures.same c.read_file.ensures.past c.in_ok-text.ensures.reads
    (ap (kept g.C.Chain.follows) (sym c.as_slice-bytes.ensures) ∙ c.in_ok-found.ensures.found.kept_as)
    (c.settle.ensures.any_moment g.C.Chain.follows (g.C.Chain.payloads c.read_bytes.new.chain) c.in_ok-found.ensures.found)

pub returns-clause-stands : goal.returns-clause-stands
returns-clause-stands g c =
    stands-at_rest g.C.Chain.follows (g.C.Chain.payloads c.read_bytes.new.chain) c.in_ok-end.end (g.D.Disk.state c.settle.new.disk)
    (c.in_ok-end.ensures.at_rest g.C.Chain.follows (g.C.Chain.payloads c.read_bytes.new.chain) c.in_ok-found.ensures.found)
