-- A session's line over a client's view comes to what its program is played to.
use Rattle.std.proofs.Common.{◌≡◌, ℕ, length, Some, refl, ap, ◌∙◌, subst}
use Rattle.docc_prepare.specs.Calls.{Known, Call, Answer}
use Rattle.docc_prepare.specs.Backends.{Goes}
use Rattle.docc_prepare.specs.Stores.{Store, Does, IsSound, known_by}
use Rattle.local_world.specs.Stored.{store_of}
use Rattle.local_world.specs.declared.view.View.{View}
use Rattle.call_programs.specs.Programs.{Program, Leads}
use Rattle.call_programs.specs.Played.{DoesFor}
use Rattle.call_programs.proofs.Played.{played}
use Rattle.session_core.specs.declared.line.Line.{Line}
use Rattle.session_core.specs.declared.session.Session.{Session}
use Rattle.session_core.specs.declared.turn.Turn.{Turn}
use Rattle.session_core.specs.LinePrograms.{line_over}
use Rattle.script_runner.specs.Play.{play_line}

-- what a view stands for
abbrev pub known : View → Known
known v = known_by (store_of v.world.now) v.client

-- how its calls go
abbrev pub goes : View → Call → Answer → View → Type 0
goes v c a w = (w.client ≡ v.client) × Does (store_of v.world.now) v.client c a (store_of w.world.now) × IsSound (store_of v.world.now)

-- each call of a view is a step of its store, and the view stays its client's
led-by-steps : {A : Type 0} {b c : View} {p q : Program A} (client : ℕ) → b.client ≡ client → Leads (Goes known goes) b p c q
    → Leads (DoesFor client) (store_of b.world.now) p (store_of c.world.now) q
led-by-steps client mine Leads.stays = Leads.stays
led-by-steps {b} client mine (Leads.by_call {m} {call} answer step ok rest) =
    Leads.by_call answer (subst (λ (n : ℕ). Does (store_of b.world.now) n call answer (store_of m.world.now)) mine step.step.1) ok
    (led-by-steps client (step.step.0 ∙ mine) rest)

-- so what the line has performed is what is played
pub view-played : (b c : View) (session next : Session) (line : Line) (turn : Turn)
    → Leads (Goes known goes) b (line_over (known b) session line) c (Program.ends (next, turn))
    → play_line b.client (store_of b.world.now) session line ≡ (Some (next, turn), store_of c.world.now)
view-played b c session next line turn led = played b.client (led-by-steps b.client refl led)

-- and who learns the journal's length by a call of a view is told that of its store
pub refreshed : (b c : View) (n : ℕ) → Goes known goes b Call.refresh (Answer.number n) c → n ≡ length (store_of b.world.now).journal
refreshed b c n learnt =
    let told : Answer.number n ≡ Answer.number (length (store_of b.world.now).journal) = ap (λ (p : Store × Answer). p.1) learnt.step.1 in cc
