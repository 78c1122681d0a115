use Rattle.std.proofs.Common.{◌++◌, ◌∷◌, [], take, subst}
use Rattle.commit_file.specs.Kept.{KeptAs}
use Rattle.commit_file.specs.Recovering.{HasForm}
use Rattle.commit_file.proofs.Settled.{runs-then, rests_written, rests_marked}
use Rattle.commit_file.proofs.settling.settle_long.Goals as goal

pub returns-in_err-put_mark-clause-any_moment : goal.returns-in_err-put_mark-clause-any_moment
returns-in_err-put_mark-clause-any_moment g c = λ m ps found.
    runs-then (KeptAs m ps) (take c.args.found.end c.args.bytes.now ++ 0 ∷ []) (g.D.Disk.state c.args.disk.now) (g.D.Disk.state c.mend_end.new.disk)
    (g.D.Disk.state c.put_mark.new.disk) (g.D.Disk.past c.args.disk.now) (g.D.Disk.past c.mend_end.new.disk) (g.D.Disk.past c.put_mark.new.disk)
    c.in_ok-mend_end.ensures.at_rest
    (c.mend_end.ensures.any_moment m ps c.args.found.unmarked (found.form c.requires.long) (found.none c.requires.long))
    (c.put_mark.ensures.any_moment m ps
    (subst (λ b. HasForm m b (take c.args.found.end c.args.bytes.now) ps) c.if-found.true (found.form c.requires.long)))

pub returns-then-found-clause-at_rest : goal.returns-then-found-clause-at_rest
returns-then-found-clause-at_rest g c = λ m ps found.
    rests_marked m c.args.bytes.now ps c.args.found.end (g.D.Disk.state c.mend_end.new.disk) (g.D.Disk.state c.put_mark.new.disk) c.requires.within
    (subst (λ b. HasForm m b (take c.args.found.end c.args.bytes.now) ps) c.if-found.true (found.form c.requires.long))
    c.in_ok-put_mark.ensures.at_rest

pub returns-then-found-clause-any_moment : goal.returns-then-found-clause-any_moment
returns-then-found-clause-any_moment g c = λ m ps found.
    runs-then (KeptAs m ps) (take c.args.found.end c.args.bytes.now ++ 0 ∷ []) (g.D.Disk.state c.args.disk.now) (g.D.Disk.state c.mend_end.new.disk)
    (g.D.Disk.state c.put_mark.new.disk) (g.D.Disk.past c.args.disk.now) (g.D.Disk.past c.mend_end.new.disk) (g.D.Disk.past c.put_mark.new.disk)
    c.in_ok-mend_end.ensures.at_rest
    (c.mend_end.ensures.any_moment m ps c.args.found.unmarked (found.form c.requires.long) (found.none c.requires.long))
    (c.put_mark.ensures.any_moment m ps
    (subst (λ b. HasForm m b (take c.args.found.end c.args.bytes.now) ps) c.if-found.true (found.form c.requires.long)))

pub returns-clause-at_rest : goal.returns-clause-at_rest
returns-clause-at_rest g c = λ m ps found.
    rests_written m c.args.bytes.now ps c.args.found.end (g.D.Disk.state c.args.disk.now) (g.D.Disk.state c.mend_end.new.disk) c.requires.within
    (subst (λ b. HasForm m b (take c.args.found.end c.args.bytes.now) ps) c.if-found.false (found.form c.requires.long))
    c.in_ok-mend_end.ensures.at_rest
