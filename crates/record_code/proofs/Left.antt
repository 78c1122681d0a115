-- What a run leaves has the forms of a payload: what was written and emitted on the way is short, and deltas keep that.
use Rattle.std.proofs.Common.{[], refl, subst}
use Rattle.std.specs.List.Sorted.{IsStrictlySortedBy}
use Rattle.rdt_types.specs.declared.outcome.Outcome.{Outcome}
use Rattle.rdt_types.specs.declared.outcome.Outcome.TheVariants as outcome
use Rattle.rdt_types.specs.Addresses.{address_cmp}
use Rattle.txn_lang.specs.declared.progress.Stop.TheVariants as stop
use Rattle.txn_lang.specs.Steps.{Step, stopped, gives}
use Rattle.txn_lang.specs.Items.{Names}
use Rattle.txn_lang.specs.Execution.{Ran, need, done, Own, ended, own_run, exec, begun, nothing_yet}
use Rattle.txn_lang.proofs.Each.{each-more}
use Rattle.txn_lang.proofs.Sizes.{IsSmall, AreSmall}
use Rattle.record_code.specs.Forms.{IsShortOutcome, HasShortTexts, OnlyWhereOk, AreForms}
use Rattle.record_code.specs.Laws.{RunsLeaveForms}
use Rattle.record_code.proofs.LeftDeltas.{filed-deltas, rising-deltas}
use Rattle.record_code.proofs.LeftWords.{small_emitted}
use Rattle.record_code.proofs.LeftSteps.{Left, body_leaves}

-- what a run leaves, if it is done
abbrev Told : Ran → Type 0
Told (need a) = Unit {0}
Told (done r) = AreForms r.outcome r.deltas

-- no addresses rise
none_rise : IsStrictlySortedBy address_cmp []
unfolding IsStrictlySortedBy
none_rise = tt

-- an outcome of short texts, without deltas
bare : (how : Outcome) → IsShortOutcome how → OnlyWhereOk how [] → AreForms how []
bare how short only = record { outcome = short; rising = none_rise; each = tt; only = only }

-- a run that gives leaves what it emitted and the deltas of what it wrote, and any other its reason at most
told_by : (u : Step Own Names) → Left AreSmall u → Told (ended u)
told_by (gives names p) is = record {
  outcome = each-more IsSmall HasShortTexts p.emitted small_emitted is.1.emitted;
  rising = rising-deltas p.memory.operations [] none_rise;
  each = filed-deltas p.memory.operations [] is.1.written tt;
  only = tt;
}
told_by (stopped (stop.Need a) p) is = tt
told_by (stopped (stop.Fail t) p) is = bare (outcome.Fail t) is refl
told_by (stopped stop.Spent p) is = bare outcome.Spent tt refl
told_by (stopped stop.Big p) is = bare outcome.Big tt refl
told_by (stopped stop.NoMemory p) is = bare outcome.Big tt refl

-- a run that is done has gone on so from its beginning, where nothing is written or emitted yet
pub runs_leave_forms : RunsLeaveForms
unfolding exec
runs_leave_forms b s r e =
    subst Told e (told_by (own_run b s) ((body_leaves s b).left (begun nothing_yet)
    (record { written = tt; emitted = tt })))
