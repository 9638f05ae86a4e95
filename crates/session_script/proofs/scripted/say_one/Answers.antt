use Rattle.std.proofs.Common.{drop, [], refl}
use Rattle.std.specs.Prelude.{List}
use Rattle.zk_model.specs.Frames.{Frame}
use Rattle.proof_frames.specs.Frames.{frame_value}
use Rattle.frame_link.proofs.LineLemmas.{fails_at}
use Rattle.session_script.specs.declared.fault.EndFault.TheVariants.{NoMemory}
use Rattle.session_script.specs.Scripts.{Says, AnswerFails, stage_of}
use Rattle.session_script.proofs.Scripting.{own_front, head_short, drop_short, short_frame, reached_at, lacks_said}
use Rattle.session_script.proofs.scripted.say_one.Goals as goal

pub returns-in_ok-go_on-in-Ok-clause-frame_short : goal.returns-in_ok-go_on-in-Ok-clause-frame_short
returns-in_ok-go_on-in-Ok-clause-frame_short g c =
    let front = own_front g.V.Voice.side c.args.left.now.items c.args.place c.requires.own in
    short_frame c.args.place (frame_value c.in-Ok.frame) (head_short c.args.left.now.items c.args.place front.0 c.requires.short) c.in-Ok.ensures.allowed

pub say-requires-clause-reached : goal.say-requires-clause-reached
say-requires-clause-reached g c =
    reached_at (g.V.Voice.rules (g.V.Voice.task c.args.voice.now)) (g.V.Voice.known c.args.voice.now c.args.asked.now)
    c.args.left.now.items (drop 1 c.args.left.now.items) c.args.place (own_front g.V.Voice.side c.args.left.now.items c.args.place c.requires.own).0 c.requires.reached

pub returns-in_err-go_on-in-Ok-clause-fails : goal.returns-in_err-go_on-in-Ok-clause-fails
returns-in_err-go_on-in-Ok-clause-fails g c =
    let rules = g.V.Voice.rules (g.V.Voice.task c.args.voice.now) in
    let old = stage_of (g.V.Voice.known c.args.voice.now c.args.asked.now) c.args.left.now.items in
    let now = g.V.Voice.known c.say.new.self c.say.new.asked in
    fails_at (λ fault. (said : List Frame) × Says g.V.Voice.side said × AnswerFails g.V.Voice.side rules old said fault now)
    c.from_residual.result NoMemory c.from_residual.ensures.1
    (lacks_said g.V.Voice.side rules old (frame_value c.in-Ok.frame) now c.args.place c.requires.own c.in-Ok.ensures.allowed c.in-Ok.ensures.passes)

pub returns-in-Err-clause-fails : goal.returns-in-Err-clause-fails
returns-in-Err-clause-fails g c = (
  [],
  tt,
  record {
    stage = stage_of (g.V.Voice.known c.args.voice.now c.args.asked.now) c.args.left.now.items;
    passes = refl;
    fails = (c.args.place, c.requires.own, c.in-Err.ensures.declines);
  },
)

pub returns-in-Err-clause-short : goal.returns-in-Err-clause-short
returns-in-Err-clause-short g c = drop_short c.args.left.now.items c.pop_front.new.self.items c.pop_front.ensures.rest c.requires.short
