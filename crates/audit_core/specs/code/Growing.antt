-- What an audit that grows keeps between two commits, and what it tells of it.
use Rattle.std.specs.Prelude.{◌≡◌, ℕ, Bool, false, nat_lt, if◌then◌else◌, [], ◌++◌, take, Option, Some, None}
use Rattle.std.specs.List.{flat_map}
use Rattle.plain_data.specs.Texts.{Bytes}
use Rattle.rdt_types.specs.DeltaMaps.{Deltas}
use Rattle.txn_lang.specs.States.{Journal}
use Rattle.audit_core.specs.declared.auditing.Auditor.{Auditor}
use Rattle.audit_core.specs.declared.verdict.Verdict.{Verdict}
use Rattle.audit_core.specs.declared.verdict.Verdict.TheVariants as verdict
use Rattle.audit_core.specs.Dumps.{Values, dump_of, with_deltas}
use Rattle.audit_core.specs.Reports.{verdict_line, ahead_line, value_line}
use Rattle.audit_core.specs.Verdicts.{IsVerdict}
use Rattle.audit_core.specs.code.Running.{HasTaken}

-- ---- what was found

-- what is kept behind commits of which this was found: all of them, while they are legal
abbrev pub Keeps : Journal → Verdict → Auditor → Type 0
Keeps journal (verdict.Legal n) auditor = HasTaken journal auditor
Keeps journal (verdict.Broken place f) auditor = Unit {0}

-- This was found of the commits, and what is kept of them.
pub record HasFound (journal : Journal) (v : Verdict) (auditor : Auditor) : Type 0 where
  pub holds : IsVerdict journal v
  pub kept : Keeps journal v auditor

-- ---- the state that is asked for

-- whether the state behind one commit more is asked for, or behind a later one
abbrev pub is_asked : Option ℕ → Verdict → Bool
is_asked None v = false
is_asked (Some n) (verdict.Legal count) = nat_lt count n
is_asked (Some n) (verdict.Broken place f) = false

-- the values of the state that is asked for, as far as these commits go
abbrev pub asked_of : Option ℕ → Journal → Values
asked_of None journal = []
asked_of (Some n) journal = dump_of (take n journal)

-- they are kept while the commits are legal
abbrev pub KeepsAsked : Option ℕ → Journal → Verdict → Values → Type 0
KeepsAsked at journal (verdict.Legal n) values = values ≡ asked_of at journal
KeepsAsked at journal (verdict.Broken place f) values = Unit {0}

-- that state, once a commit stands behind those of which this was found
abbrev pub asked_after : Option ℕ → Verdict → Values → Deltas → Values
asked_after at v values deltas = if is_asked at v then with_deltas values deltas else values

-- This was found of the commits, what is kept of them, and the state that is asked for.
pub record HasGrown (at : Option ℕ) (journal : Journal) (v : Verdict) (auditor : Auditor) (values : Values) : Type 0 where
  pub found : HasFound journal v auditor
  pub asked : KeepsAsked at journal v values

-- ---- what is told

-- the state that was asked for behind a legal journal of so many commits
abbrev pub asked_text : ℕ → Option ℕ → Values → Bytes
asked_text count None values = []
asked_text count (Some n) values = if nat_lt count n then ahead_line n count else flat_map value_line values

-- a verdict, and that state
abbrev pub told_text : Verdict → Option ℕ → Values → Bytes
told_text (verdict.Legal n) at values = verdict_line (verdict.Legal n) ++ asked_text n at values
told_text (verdict.Broken place f) at values = verdict_line (verdict.Broken place f)
