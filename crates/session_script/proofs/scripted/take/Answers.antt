use Rattle.std.proofs.Common.{◌<◌, ◌≤◌, sym, subst}
use Rattle.proof_frames.specs.Frames.{frame_value}
use Rattle.frame_link.proofs.LineLemmas.{fails_at}
use Rattle.session_script.specs.declared.fault.EndFault.TheVariants.{NoMemory}
use Rattle.session_script.specs.Scripts.{TurnsDown, stage_of, weight, weight_after}
use Rattle.session_script.proofs.Scripting.{rest_short, reached_at, down_behind, allowed_next, fewer}
use Rattle.session_script.proofs.scripted.take.Goals as goal

pub go_on-requires-clause-short : goal.go_on-requires-clause-short
go_on-requires-clause-short g c = rest_short c.args.left.now.items c.pop_front.new.self.items c.in-Some.place c.in-Some.ensures.items c.requires.short

pub returns-in-Err-clause-short : goal.returns-in-Err-clause-short
returns-in-Err-clause-short g c = rest_short c.args.left.now.items c.pop_front.new.self.items c.in-Some.place c.in-Some.ensures.items c.requires.short

pub hear-requires-clause-reached : goal.hear-requires-clause-reached
hear-requires-clause-reached g c =
    reached_at (g.V.Voice.rules (g.V.Voice.task c.args.voice.now)) (g.V.Voice.known c.args.voice.now c.args.asked.now)
    c.args.left.now.items c.pop_front.new.self.items c.in-Some.place c.in-Some.ensures.items c.requires.reached

pub returns-in_err-go_on-clause-fails : goal.returns-in_err-go_on-clause-fails
returns-in_err-go_on-clause-fails g c =
    let rules = g.V.Voice.rules (g.V.Voice.task c.args.voice.now) in
    let old = stage_of (g.V.Voice.known c.args.voice.now c.args.asked.now) c.args.left.now.items in
    fails_at (λ fault. TurnsDown g.V.Voice.side rules old (frame_value c.args.frame) fault (g.V.Voice.known c.hear.new.self c.hear.new.asked))
    c.from_residual.result NoMemory c.from_residual.ensures.1
    (down_behind g.V.Voice.side rules old (frame_value c.args.frame) (g.V.Voice.known c.hear.new.self c.hear.new.asked) c.in-Some.place c.pop_front.new.self.items
    c.in-Some.ensures.items (allowed_next c.args.left.now.items c.in-Some.place c.pop_front.new.self.items (frame_value c.args.frame) c.in-Some.ensures.items c.requires.expected)
    c.in_default-hear.ensures.passes)

pub returns-clause-fewer : goal.returns-clause-fewer
returns-clause-fewer g c =
    let at = c.in-Some.ensures.items in
    subst (λ l. weight c.go_on.new.left.items < weight l) (sym at)
    (fewer c.in-Some.place c.pop_front.new.self.items c.go_on.new.left.items (frame_value c.args.frame)
    (allowed_next c.args.left.now.items c.in-Some.place c.pop_front.new.self.items (frame_value c.args.frame) at c.requires.expected)
    (subst (λ a. weight c.go_on.new.left.items ≤ weight_after a (weight c.pop_front.new.self.items)) c.after_of-after.ensures c.in_ok-go_on.ensures.few))
