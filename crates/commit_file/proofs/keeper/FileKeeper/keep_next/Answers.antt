use Rattle.std.proofs.Common.{◌≡◌, ℕ, ◌+◌, true, false, List, length, IfSome, ap, sym, ◌∙◌, subst, arith}
use Rattle.dio_core.specs.Disks.{DiskState}
use Rattle.dio_core.specs.Moments.{AtAnyMoment}
use Rattle.commit_file.specs.declared.gate.Outcome.TheVariants.{Done, Behind, AtGate}
use Rattle.commit_file.specs.Kept.{Meaning}
use Rattle.commit_file.specs.Keepers.{Keeper, Stands, IsSpelled, MayFollow, MayHoldNext, grown, held_of, is_doubtful, kept_by}
use Rattle.commit_file.proofs.Told.{keep-throughout, keep-stands, KeptTold}
use Rattle.commit_file.proofs.keeper.FileKeeper.keep_next.Given as given
use Rattle.commit_file.proofs.keeper.FileKeeper.keep_next.Goals.{After-set_gate}
use Rattle.commit_file.proofs.keeper.FileKeeper.keep_next.Goals as goal

-- the gate is closed
shut : (g : given.Over) (c : After-set_gate g) → is_doubtful c.self.inside.trouble ≡ false
shut g c = ap (λ (k : Keeper). k.doubtful) c.self.view_is ∙ c.requires.sound.0

stands : (g : given.Over) (c : After-set_gate g) → IfSome (g.D.Disk.state c.self.inside.disk.now) (Stands false c.self.inside.end)
stands g c = subst (λ b. IfSome (g.D.Disk.state c.self.inside.disk.now) (Stands b c.self.inside.end)) (shut g c) c.self.invariant.0

-- how the file stands, by how far the payload came
after : (g : given.Over) (c : After-set_gate g) (p : List ℕ) → IsSpelled c.args.bytes.now p
    → KeptTold c.set_gate.result c.self.inside.end c.args.bytes.now p (g.D.Disk.state c.self.inside.disk.now) (g.D.Disk.state c.set_gate.new.disk)
after g c p is = keep-stands c.set_gate.result c.self.inside.end c.args.bytes.now p (g.D.Disk.state c.self.inside.disk.now) (g.D.Disk.state c.set_gate.new.disk)
    (stands g c) is c.set_gate.ensures.sets

-- each moment of it
throughout : (g : given.Over) (c : After-set_gate g) (m : Meaning) (p : List ℕ) → IsSpelled c.args.bytes.now p
    → IfSome c.args.self.now.state (λ s. MayFollow m c.args.self.now p s → AtAnyMoment (MayHoldNext m c.args.self.now p s) c.args.self.now.past (g.D.Disk.past c.set_gate.new.disk) (g.D.Disk.state c.set_gate.new.disk))
throughout g c m p is =
    subst (λ (k : Keeper). IfSome k.state (λ s. MayFollow m k p s → AtAnyMoment (MayHoldNext m k p s) k.past (g.D.Disk.past c.set_gate.new.disk) (g.D.Disk.state c.set_gate.new.disk))) c.self.view_is
    (keep-throughout m c.self.inside.end (g.D.Disk.state c.self.inside.disk.now) (g.D.Disk.state c.set_gate.new.disk) (g.D.Disk.past c.self.inside.disk.now) (g.D.Disk.past c.set_gate.new.disk)
    c.args.bytes.now p (stands g c) c.set_gate.ensures.moments is)

pub invariant_of-self : goal.invariant_of-self
invariant_of-self g c =
    let a = (goal.at.invariant_of-self g c).After-set_gate in
    let told = rw c.in-Done.is at (after g a c.requires.next.0 c.requires.next.1) in (
      subst (λ b. IfSome (g.D.Disk.state c.set_gate.new.disk) (Stands b (c.self.inside.end + length c.args.bytes.now))) (sym (shut g a)) told.0,
      omega (arith, c.set_gate.ensures.fits c.in-Done.is),
    )

pub invariant_of-self-in-Behind : goal.invariant_of-self-in-Behind
invariant_of-self-in-Behind g c =
    let told = rw c.in-Behind.is at (after g (goal.at.invariant_of-self-in-Behind g c).After-set_gate c.requires.next.0 c.requires.next.1) in
    (told.0, c.self.invariant.1)

pub invariant_of-self-in-AtGate : goal.invariant_of-self-in-AtGate
invariant_of-self-in-AtGate g c =
    let told = rw c.in-AtGate.is at (after g (goal.at.invariant_of-self-in-AtGate g c).After-set_gate c.requires.next.0 c.requires.next.1) in
    (told.0, c.self.invariant.1)

pub returns-in-Done-clause-ok : goal.returns-in-Done-clause-ok
returns-in-Done-clause-ok g c =
    let a = (goal.at.returns-in-Done-clause-ok g c).After-set_gate in (
      shut g a,
      λ p is.
          let told = rw c.in-Done.is at (after g a p is) in
          told.1 ∙ ap (λ (k : Keeper). grown (held_of k) p) c.self.view_is,
    )

pub returns-in-Behind-clause-err : goal.returns-in-Behind-clause-err
returns-in-Behind-clause-err g c =
    let told = rw c.in-Behind.is at (after g (goal.at.returns-in-Behind-clause-err g c).After-set_gate c.requires.next.0 c.requires.next.1) in
    told.1 ∙ ap (λ (k : Keeper). held_of k) c.self.view_is

pub returns-in-AtGate-clause-err : goal.returns-in-AtGate-clause-err
returns-in-AtGate-clause-err g c =
    let told = rw c.in-AtGate.is at (after g (goal.at.returns-in-AtGate-clause-err g c).After-set_gate c.requires.next.0 c.requires.next.1) in
    told.1 ∙ ap (λ (k : Keeper). held_of k) c.self.view_is

pub returns-in-Done-clause-any_moment : goal.returns-in-Done-clause-any_moment
returns-in-Done-clause-any_moment g c = throughout g (goal.at.returns-in-Done-clause-any_moment g c).After-set_gate

pub returns-in-Behind-clause-any_moment : goal.returns-in-Behind-clause-any_moment
returns-in-Behind-clause-any_moment g c = throughout g (goal.at.returns-in-Behind-clause-any_moment g c).After-set_gate

pub returns-in-AtGate-clause-any_moment : goal.returns-in-AtGate-clause-any_moment
returns-in-AtGate-clause-any_moment g c = throughout g (goal.at.returns-in-AtGate-clause-any_moment g c).After-set_gate

pub returns-in-Behind-clause-doubt : goal.returns-in-Behind-clause-doubt
returns-in-Behind-clause-doubt g c = λ p is no. absurd (cc no)

pub returns-in-AtGate-clause-doubt : goal.returns-in-AtGate-clause-doubt
returns-in-AtGate-clause-doubt g c = λ p is yes.
    let told = rw c.in-AtGate.is at (after g (goal.at.returns-in-AtGate-clause-doubt g c).After-set_gate p is) in told.2
