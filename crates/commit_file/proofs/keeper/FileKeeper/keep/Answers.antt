use Rattle.std.proofs.Common.{List, ℕ, inl, inr, Result, Ok, Err, OnErr}
use Rattle.std.proofs.lemmas.Result.{on_err_weaker}
use Rattle.dio_core.specs.Disks.{DiskState}
use Rattle.commit_file.specs.Keepers.{IsJournal, MayFollow, MayHold, MayHoldNext, RunsInTurn}
use Rattle.commit_file.proofs.Told.{stopped, turns}
use Rattle.commit_file.proofs.keeper.FileKeeper.keep.Goals as goal

always : {T E P : Type 0} (r : Result T E) → P → OnErr r P
always (Ok t) holds = tt
always (Err e) holds = holds

pub returns-in_err-mend-clause-any_moment : goal.returns-in_err-mend-clause-any_moment
returns-in_err-mend-clause-any_moment g c = λ m p next.
    let old = c.args.self.now in
    let new = c.mend.new.self in
    stopped (IsJournal m old) (MayHold m old) (λ s. RunsInTurn (MayHold m old s) (MayHoldNext m old p s) old.past new.past new.state) old.state new.state old.past new.past
    (c.mend.ensures.any_moment m) (λ s. IsJournal m old s × MayFollow m old p s) (λ s both. both.0)

pub returns-clause-any_moment : goal.returns-clause-any_moment
returns-clause-any_moment g c = λ m p next.
    let old = c.args.self.now in
    let mid = c.mend.new.self in
    let new = c.keep_next.new.self in
    turns m old.doubtful old.end mid.end p old.state mid.state new.state old.past mid.past new.past c.mend.ensures.kept (c.mend.ensures.any_moment m)
    (c.keep_next.ensures.any_moment m p next)

pub returns-in_err-mend-clause-doubt : goal.returns-in_err-mend-clause-doubt
returns-in_err-mend-clause-doubt g c = always c.from_residual.result (λ p is yes. inl c.in_err-mend.ensures.err.2)

pub returns-clause-doubt : goal.returns-clause-doubt
returns-clause-doubt g c = on_err_weaker c.keep_next.result (λ told p is yes. inr (told p is yes)) c.keep_next.ensures.doubt
