use Rattle.commit_file.proofs.Settled.{rests_empty}
use Rattle.commit_file.proofs.settling.settle.Goals as goal

pub returns-then-bytes-le-SHORTEST-clause-at_rest : goal.returns-then-bytes-le-SHORTEST-clause-at_rest
returns-then-bytes-le-SHORTEST-clause-at_rest g c = λ m ps found.
    rests_empty m ps (g.D.Disk.state c.make_anew.new.disk) (found.empty c.if-bytes-le-SHORTEST.true).0 c.in_ok-make_anew.ensures.at_rest
