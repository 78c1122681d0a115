-- The commits and what is kept beside them, so that no call goes through the journal. The clause of `in_shard` of `Log` in
-- src/log.rt ties it to `of_shard` of specs/Changes; that of `least_past` in src/deciding.rt, by `least-is-first` of
-- proofs/Ordering, to `least_pair` of specs/Pairs. `keeps-more` of proofs/ByShard says that it stays so with one commit more.
use Rattle.std.specs.Prelude.{ℕ, ◌-◌, ◌≤◌, List, length, refl}
use Rattle.std.specs.Global.{Vec}
use Rattle.std.specs.Vec.{vec_capacity}
use Rattle.std.specs.Coded.{Coded, code_by, coded×, coded_list, coded_ℕ}
use Rattle.rdt_types.specs.declared.limits.TheConstants.{LEAST_SHARDS, MOST_SHARDS}
use Rattle.change_feed.specs.declared.change.Change.{Change}
use Rattle.abort_witness.specs.declared.witness.Based.{Based}
use Rattle.abort_witness.specs.Pairs.{count_met}
use Rattle.txn_lang.specs.declared.commit.Commit.{Commit}
use Rattle.txn_lang.specs.States.{Journal}
use Rattle.journal_core.specs.declared.ready.PreparedFront.{PreparedFront}
use Rattle.journal_core.specs.Changes.{changes}
use Rattle.journal_core.specs.Kinds.{HasKinds}
use Rattle.journal_core.specs.Pairs.{AreNumbered, most_steps, past_front, past_fronts}
use Rattle.journal_core.specs.code.ByShard.{AreByShard, HasRoom}

-- the commits, by how many shards their changes are kept, and for how many changes of a commit there is memory
pub record Log : Type 0 where
  pub commits : Journal
  pub shards : ℕ
  pub room : ℕ

-- it is stored as the tuple of its fields
abbrev pub log_code : Coded Commit → Coded Log
log_code commit =
    code_by (Journal × (ℕ × ℕ)) (coded× (coded_list commit) (coded× coded_ℕ coded_ℕ))
    (λ l. (l.commits, (l.shards, l.room))) (λ p. record { commits = p.0; shards = p.1.0; room = p.1.1 }) (λ _. refl)

-- for how many more commits there is memory
abbrev pub room_for_more : Vec Commit → ℕ
room_for_more commits = vec_capacity commits - length commits.items

-- The commits have their places as numbers, and deltas of the kinds of their addresses. The lists beside them have their
-- changes by shard, and there is memory for one commit and, in each list, as many changes as are named.
pub record Keeps (commits : Journal) (shards : ℕ) (lists : List (List Change × ℕ)) (room_for_commits room : ℕ) : Type 0 where
  pub numbered : AreNumbered commits
  pub kinds : HasKinds commits
  pub few : (LEAST_SHARDS ≤ shards) × (shards ≤ MOST_SHARDS)
  pub theirs : AreByShard shards (changes commits) lists
  pub one_more : room ≤ room_for_commits
  pub some_more : HasRoom room lists

-- ---- past what was prepared

-- all changes
abbrev pub changes_in : Log → List Change
changes_in log = changes log.commits

-- an observation, as good as one made at the front at which its shard was prepared
abbrev pub past_in : Log → List PreparedFront → Based → Based
past_in log fronts based = past_front log.shards fronts based

-- the same of each
abbrev pub all_past : Log → List PreparedFront → List Based → List Based
all_past log fronts based = past_fronts log.shards fronts based

-- how many changes it meets past its front
abbrev pub met_past : Log → List PreparedFront → Based → ℕ
met_past log fronts based = count_met (past_in log fronts based) (changes_in log)

-- and how many all of them meet: more steps no decision makes
abbrev pub most_past : Log → List PreparedFront → List Based → ℕ
most_past log fronts based = most_steps (all_past log fronts based) (changes_in log)
