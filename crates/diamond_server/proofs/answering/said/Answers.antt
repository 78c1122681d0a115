use Rattle.std.proofs.Common.{refl}
use Rattle.diamond_server.specs.Talking.{Answers}
use Rattle.diamond_server.proofs.Held.{holds-same}
use Rattle.diamond_server.proofs.Talked.{came-attends, to-wait, answers-woken}
use Rattle.diamond_server.proofs.Stopping.{stops-line, stops-waiting}
use Rattle.diamond_server.proofs.answering.said.Goals as goal

-- the session goes on where it is to wait
pub passed_on_and_woken-requires : goal.passed_on_and_woken-requires
passed_on_and_woken-requires g c = record {
  attends = came-attends g.B.Backend.known g.B.Backend.goes c.args.backend.now c.args.ongoing.now.session c.args.text.now c.in-Ok.turn c.line_by.new.backend
      c.line_by.new.self c.requires.attends c.requires.short (c.in-Ok.ensures.plays c.requires.attends.on);
}

-- it was to wait, and was woken
pub returns-in-WaitWanted-clause-answers : goal.returns-in-WaitWanted-clause-answers
returns-in-WaitWanted-clause-answers g c =
    answers-woken g.B.Backend.known g.B.Backend.goes c.args.backend.now c.args.ongoing.now.session c.args.text.now c.line_by.new.backend c.line_by.new.self
    c.passed_on_and_woken.result c.passed_on_and_woken.new.backend c.passed_on_and_woken.new.ongoing.session
    (to-wait g.B.Backend.known g.B.Backend.goes c.args.backend.now c.args.ongoing.now.session c.args.text.now c.in-Ok.turn c.line_by.new.backend c.line_by.new.self
    c.in-WaitWanted.is (c.in-Ok.ensures.plays c.requires.attends.on)) c.passed_on_and_woken.ensures.woken

-- it was answered at once
pub returns-in_default : goal.returns-in_default
returns-in_default g c = record {
  answers = Answers.at_once c.in_default.not-WaitWanted (c.in-Ok.ensures.plays c.requires.attends.on);
  holds = holds-same _ _;
  stops = tt;
  incoming = refl;
  attends = came-attends g.B.Backend.known g.B.Backend.goes c.args.backend.now c.args.ongoing.now.session c.args.text.now c.in-Ok.turn c.line_by.new.backend
      c.line_by.new.self c.requires.attends c.requires.short (c.in-Ok.ensures.plays c.requires.attends.on);
  home = c.in-Ok.ensures.home;
}

-- the session stopped
pub returns-in-Err-clause-stops : goal.returns-in-Err-clause-stops
returns-in-Err-clause-stops g c =
    stops-line g.B.Backend.known g.B.Backend.goes c.args.backend.now c.args.ongoing.now.session c.args.text.now c.line_by.new.backend c.in-Err.error c.stop_of.result _ _
    c.stop_of.ensures (c.in-Err.ensures.plays c.requires.attends.on) (c.in-Err.ensures.told c.requires.attends.on)

-- or behind the answer that it is to wait
pub returns-in-WaitWanted-clause-stops : goal.returns-in-WaitWanted-clause-stops
returns-in-WaitWanted-clause-stops g c =
    stops-waiting g.B.Backend.known g.B.Backend.goes c.args.backend.now c.args.ongoing.now.session c.args.text.now c.line_by.new.backend c.line_by.new.self
    c.passed_on_and_woken.result c.passed_on_and_woken.new.backend _ _ _ _
    (to-wait g.B.Backend.known g.B.Backend.goes c.args.backend.now c.args.ongoing.now.session c.args.text.now c.in-Ok.turn c.line_by.new.backend c.line_by.new.self
    c.in-WaitWanted.is (c.in-Ok.ensures.plays c.requires.attends.on)) c.passed_on_and_woken.ensures.stops
