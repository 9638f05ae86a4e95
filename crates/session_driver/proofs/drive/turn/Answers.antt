use Rattle.std.proofs.Common.{ap, map}
use Rattle.proof_frames.specs.Frames.{frame_value}
use Rattle.frame_link.proofs.LineLemmas.{fails_at}
use Rattle.session_driver.specs.Runs.{moves_of}
use Rattle.session_driver.specs.declared.drive.Outcome.TheVariants.{Cut}
use Rattle.session_driver.proofs.Going.{turn_goes, turn_unsent}
use Rattle.session_driver.proofs.drive.turn.Goals as goal

pub returns-in_err-send_all-in-Ok-clause-stops : goal.returns-in_err-send_all-in-Ok-clause-stops
returns-in_err-send_all-in-Ok-clause-stops g c =
    fails_at _ c.from_residual-in_err-send_all-in-Ok.result (Cut c.in_err-send_all-in-Ok.field-0.0) c.from_residual-in_err-send_all-in-Ok.ensures.1
    (turn_unsent (moves_of g.P.Party.expects g.P.Party.lack_code g.P.Party.answers g.P.Party.refuses) (c.args.party.now, c.args.asked.now) (c.step.new.self, c.step.new.asked)
    c.args.place (frame_value c.in_ok-frame.frame) c.take.new.line.room c.args.line.now c.take.new.line c.send_all.new.line c.requires.expected c.in_ok-frame.ensures.arrives
    (map frame_value c.in-Ok.answer.items) _ c.lack_code-lack.result c.in_err-send_all-in-Ok.field-0.0 c.in-Ok.ensures.answered (ap (map frame_value) c.deref.ensures.value)
    c.lack_code-lack.ensures c.in_err-send_all-in-Ok.ensures.fails)

pub returns-in_ok-send_all-in-Ok-clause-goes : goal.returns-in_ok-send_all-in-Ok-clause-goes
returns-in_ok-send_all-in-Ok-clause-goes g c =
    turn_goes (moves_of g.P.Party.expects g.P.Party.lack_code g.P.Party.answers g.P.Party.refuses) (c.args.party.now, c.args.asked.now) (c.step.new.self, c.step.new.asked)
    c.args.place (frame_value c.in_ok-frame.frame) c.take.new.line.room c.args.line.now c.take.new.line c.send_all.new.line c.requires.expected c.in_ok-frame.ensures.arrives
    (map frame_value c.in-Ok.answer.items) _ c.requires.short c.in-Ok.ensures.answered (ap (map frame_value) c.deref.ensures.value) c.in_ok-send_all-in-Ok.ensures.sends
