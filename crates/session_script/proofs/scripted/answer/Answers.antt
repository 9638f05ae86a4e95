use Rattle.std.proofs.Common.{◌∙◌, sym, subst, arith, map, List}
use Rattle.zk_model.specs.Frames.{Frame}
use Rattle.frame_link.proofs.LineLemmas.{fails_at}
use Rattle.session_script.specs.declared.fault.EndFault.TheVariants.{NoMemory}
use Rattle.proof_frames.specs.Frames.{frame_value}
use Rattle.session_script.specs.Scripts.{Fits, Reached, Says, AnswerFails, stage_of}
use Rattle.session_script.proofs.Scripting.{answer_more, own_more, all_more, reached_on, stopped_behind, lost_behind}
use Rattle.session_script.proofs.scripted.answer.Goals as goal

pub says-preserved : goal.says-preserved
says-preserved g c =
    let inv = c.says.invariant in
    let now = c.keep.new.frames.items in
    let is = c.in_ok-keep.ensures in
    record {
      passed = answer_more now c.says.frames.items c.in_ok-frame.frame is (g.V.Voice.rules (g.V.Voice.task c.args.voice.now))
          (stage_of (g.V.Voice.known c.args.voice.now c.args.asked.now) c.args.left.now.items) (stage_of (g.V.Voice.known c.says.voice c.says.asked) c.says.left.items)
          (stage_of (g.V.Voice.known c.say_one.new.voice c.say_one.new.asked) c.say_one.new.left.items) inv.passed
          (subst (λ t. Fits (g.V.Voice.rules t) (stage_of (g.V.Voice.known c.says.voice c.says.asked) c.says.left.items) (frame_value c.in_ok-frame.frame)
          (stage_of (g.V.Voice.known c.say_one.new.voice c.say_one.new.asked) c.say_one.new.left.items)) inv.task c.in_ok-frame.ensures.fits);
      own = own_more now c.says.frames.items c.in_ok-frame.frame is g.V.Voice.side inv.own c.in_ok-frame.ensures.side;
      shorts = all_more now c.says.frames.items c.in_ok-frame.frame is inv.shorts c.in_ok-frame.ensures.frame_short;
      task = c.say_one.ensures.task ∙ inv.task;
      short = c.say_one.ensures.short;
      few = omega (arith, c.in_ok-frame.ensures.fewer, inv.few);
      side = inv.side;
    }

pub say_one-requires-clause-reached : goal.say_one-requires-clause-reached
say_one-requires-clause-reached g c κs within =
    subst (λ t. Reached (g.V.Voice.rules t) (stage_of (g.V.Voice.known c.says.voice c.says.asked) c.says.left.items)) (sym c.says.invariant.task)
    (reached_on (g.V.Voice.rules (g.V.Voice.task c.args.voice.now))
    (stage_of (g.V.Voice.known c.args.voice.now c.args.asked.now) c.args.left.now.items) (stage_of (g.V.Voice.known c.says.voice c.says.asked) c.says.left.items)
    (map frame_value c.says.frames.items) c.requires.reached c.says.invariant.passed)

pub returns-in_err-frame-clause-fails : goal.returns-in_err-frame-clause-fails
returns-in_err-frame-clause-fails g c =
    let inv = c.says.invariant in
    let side = g.V.Voice.side in
    let rules = g.V.Voice.rules (g.V.Voice.task c.args.voice.now) in
    let old = stage_of (g.V.Voice.known c.args.voice.now c.args.asked.now) c.args.left.now.items in
    let mid = stage_of (g.V.Voice.known c.says.voice c.says.asked) c.says.left.items in
    let now = g.V.Voice.known c.say_one.new.voice c.say_one.new.asked in
    fails_at (λ fault. (said : List Frame) × Says side said × AnswerFails side rules old said fault now)
    c.from_residual.result c.in_err-frame.field-0.0 c.from_residual.ensures.1
    (stopped_behind side rules old mid (map frame_value c.says.frames.items) c.in_err-frame.field-0.0 now inv.passed inv.own
    (subst (λ t. (said : List Frame) × Says side said × AnswerFails side (g.V.Voice.rules t) mid said c.in_err-frame.field-0.0 now) inv.task c.in_err-frame.ensures.fails))

pub returns-in_err-keep-clause-fails : goal.returns-in_err-keep-clause-fails
returns-in_err-keep-clause-fails g c =
    let inv = c.says.invariant in
    let side = g.V.Voice.side in
    let rules = g.V.Voice.rules (g.V.Voice.task c.args.voice.now) in
    let old = stage_of (g.V.Voice.known c.args.voice.now c.args.asked.now) c.args.left.now.items in
    let mid = stage_of (g.V.Voice.known c.says.voice c.says.asked) c.says.left.items in
    let new = stage_of (g.V.Voice.known c.say_one.new.voice c.say_one.new.asked) c.say_one.new.left.items in
    fails_at (λ fault. (said : List Frame) × Says side said × AnswerFails side rules old said fault new.known)
    c.from_residual-in_err-keep.result NoMemory c.from_residual-in_err-keep.ensures.1
    (lost_behind side rules old mid new (map frame_value c.says.frames.items) (frame_value c.in_ok-frame.frame) inv.passed inv.own
    c.in_ok-frame.ensures.side
    (subst (λ t. Fits (g.V.Voice.rules t) mid (frame_value c.in_ok-frame.frame) new) inv.task c.in_ok-frame.ensures.fits))
