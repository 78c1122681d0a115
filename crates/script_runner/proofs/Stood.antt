-- A line that is played over a sound store leaves a sound one, and every session goes on.
use Rattle.std.proofs.Common.{◌≡◌, ◌≢◌, ℕ, ◌<◌, Option, Some, refl, ap, ◌∙◌}
use Rattle.docc_prepare.specs.Calls.{Known, Call, Answer}
use Rattle.docc_prepare.specs.Backends.{IsAnswered, IsSameClient, IsLater}
use Rattle.docc_prepare.specs.declared.limits.TheConstants.{CLIENTS}
use Rattle.docc_prepare.specs.Stores.{Store, Does, seen_by, IsSound, known_by}
use Rattle.docc_prepare.proofs.Answered.{steps_are_answered}
use Rattle.docc_prepare.proofs.Elsewhere.{steps_leave_others}
use Rattle.call_programs.specs.Programs.{Program, Leads}
use Rattle.call_programs.specs.Played.{DoesFor}
use Rattle.call_programs.specs.Safe.{MayAsk, IsSafe}
use Rattle.call_programs.proofs.Played.{programs_are_played, plays_out}
use Rattle.call_programs.proofs.Safe.{can_call}
use Rattle.session_core.specs.declared.line.Line.{Line}
use Rattle.session_core.specs.declared.session.Session.{Session}
use Rattle.session_core.specs.Explained.{Setting}
use Rattle.session_core.specs.Holding.{Attends, BodyIsReady}
use Rattle.session_core.specs.LinePrograms.{line_over}
use Rattle.session_core.specs.Lines.{line_of}
use Rattle.session_core.specs.Verbs.{LineEnd}
use Rattle.session_core.proofs.GoingOn.{sessions_go_on}
use Rattle.session_core.proofs.LinesSafe.{lines_are_safe}
use Rattle.session_core.proofs.Ready.{line-ready}
use Rattle.session_core.proofs.Safe.{AttendsEnd}
use Rattle.script_runner.specs.Laws.{LinesAreOver}
use Rattle.script_runner.specs.Play.{play_line}

-- ---- calls of a client

-- the settings of a store, as far as answers go by them
abbrev pub setting_in : Store → Setting
setting_in s = record { trusted = 0; shards = s.shards; window = s.window; limit = s.limit }

-- the same settings, field by field
same-setting-in : (s t : Store) (client : ℕ) → IsSameClient (known_by s client) (known_by t client) → setting_in t ≡ setting_in s
same-setting-in s t client same = ap (λ (n : ℕ). record { trusted = 0; shards = n; window = t.window; limit = t.limit }) same.shards
    ∙ (ap (λ (n : ℕ). record { trusted = 0; shards = s.shards; window = n; limit = t.limit }) same.window
    ∙ ap (λ (n : ℕ). record { trusted = 0; shards = s.shards; window = s.window; limit = n }) same.limit)

-- What calls of a client leave: a sound store of the same settings; and every other client's session goes on, and has seen no more.
pub record CallsLeave (s : Store) (client : ℕ) (t : Store) : Type 0 where
  pub sound : IsSound t
  pub setting : setting_in t ≡ setting_in s
  pub others : (other : ℕ) → other ≢ client → (theirs : Session) → Attends (known_by s other) theirs → Attends (known_by t other) theirs
  pub seen_others : (other : ℕ) → other ≢ client → seen_by t other ≡ seen_by s other

-- one call, which may be made, and then others
call-leaves : (s m t : Store) (client : ℕ) (call : Call) (answer : Answer) → IsSound s → MayAsk (known_by s client) call → Does s client call answer m
    → IsSameClient (known_by s client) (known_by m client) → CallsLeave m client t → CallsLeave s client t
call-leaves s m t client call answer sound may does same rest = record {
  sound = rest.sound;
  setting = rest.setting ∙ same-setting-in s m client same;
  others = λ other apart theirs is.
      rest.others other apart theirs (sessions_go_on.others (known_by s other) (known_by m other) theirs is (later other apart));
  seen_others = λ other apart. rest.seen_others other apart ∙ (later other apart).seen;
}
  where
    later : (other : ℕ) → other ≢ client → IsLater (known_by s other) (known_by m other)
    later other apart = steps_leave_others s m client other call answer sound apart (can_call (known_by s client) call may) does

-- What so many calls of a safe program come to: each is answered within the clause of every call.
record AreMade {A : Type 0} (client : ℕ) (s : Store) (p : Program A) (t : Store) (q : Program A) : Type 0 where
  leave : CallsLeave s client t
  answered : Leads IsAnswered (known_by s client) p (known_by t client) q

module _ {A : Type 0} (holds : Known → A → Type 0) (client : ℕ) (mine : client < CLIENTS) where
  -- call by call
  calls-made : {s t : Store} {p q : Program A} → IsSound s → IsSafe (known_by s client) p holds → Leads (DoesFor client) s p t q → AreMade client s p t q
  calls-made sound safe Leads.stays = record {
    leave = record { sound = sound; setting = refl; others = λ other apart theirs is. is; seen_others = λ other apart. refl };
    answered = Leads.stays;
  }
  calls-made {t} sound safe (Leads.by_call {s} {m} {call} answer does ok rest) =
      let step = steps_are_answered s m client call answer sound mine (can_call (known_by s client) call safe.0) does in
      let made = calls-made step.1 (safe.1 answer (known_by m client) step.0 ok) rest in record {
        leave = call-leaves s m t client call answer sound safe.0 does step.0.client made.leave;
        answered = Leads.by_call answer step.0 ok made.answered;
      }

-- ---- a line

-- What a line is played to: its program's end, with a session that may have its next line.
pub record IsPlayedTo (s : Store) (client : ℕ) (session : Session) (line : Line) (x : Option LineEnd × Store) : Type 0 where
  pub end : LineEnd
  pub store : Store
  pub is : x ≡ (Some end, store)
  pub attends : Attends (known_by store client) end.0
  pub leave : CallsLeave s client store
  pub answered : Leads IsAnswered (known_by s client) (line_over (known_by s client) session line) (known_by store client) (Program.ends end)

-- each line is, since its program is safe
pub line-played : (s : Store) (client : ℕ) (session : Session) (line : Line) → client < CLIENTS → IsSound s → Attends (known_by s client) session
    → BodyIsReady line → IsPlayedTo s client session line (play_line client s session line)
line-played s client session line mine sound is ready =
    let p = line_over (known_by s client) session line in
    let safe = lines_are_safe (known_by s client) session line is ready in
    let out = plays_out AttendsEnd client s p mine sound safe in
    let made = calls-made AttendsEnd client mine sound safe (programs_are_played.leads client s out.store p out.end out.played) in record {
      end = out.end;
      store = out.store;
      is = out.played;
      attends = out.so;
      leave = made.leave;
      answered = made.answered;
    }

-- Every line is over.
pub lines_are_over : LinesAreOver
lines_are_over s client session text sound mine is short =
    plays_out AttendsEnd client s (line_over (known_by s client) session (line_of text)) mine sound
    (lines_are_safe (known_by s client) session (line_of text) is (line-ready text short))
