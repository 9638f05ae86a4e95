use Rattle.std.proofs.Common.{◌∙◌, [], ◌∷◌, List, inr, sym, refl, subst, map}
use Rattle.zk_model.specs.Frames.{Frame}
use Rattle.frame_link.proofs.LineLemmas.{fails_at}
use Rattle.proof_frames.specs.Frames.{frame_value}
use Rattle.session_script.specs.Scripts.{Passes, Reached, Says, AnswerFails, TurnsDown, stage_of}
use Rattle.session_script.proofs.Scripting.{reached_on, fails_on}
use Rattle.session_script.proofs.scripted.turn.Given.{Over}
use Rattle.session_script.proofs.scripted.turn.Goals.{In_ok-frames}
use Rattle.session_script.proofs.scripted.turn.Goals as goal

-- a frame of the peer's and all that was said
passes : (g : Over) (c : In_ok-frames g) → Passes (g.V.Voice.rules (g.V.Voice.task c.args.voice.now)) (stage_of (g.V.Voice.known c.args.voice.now c.args.asked.now) c.args.left.now.items)
    (frame_value c.args.frame ∷ map frame_value c.in_ok-frames.frames.items) (stage_of (g.V.Voice.known c.answer.new.voice c.answer.new.asked) c.answer.new.left.items)
passes g c = (
  stage_of (g.V.Voice.known c.take.new.voice c.take.new.asked) c.take.new.left.items,
  c.in_ok-take.ensures.fits,
  subst (λ t. Passes (g.V.Voice.rules t) (stage_of (g.V.Voice.known c.take.new.voice c.take.new.asked) c.take.new.left.items) (map frame_value c.in_ok-frames.frames.items)
      (stage_of (g.V.Voice.known c.answer.new.voice c.answer.new.asked) c.answer.new.left.items)) c.take.ensures.task c.in_ok-frames.ensures.passes,
)

pub returns-clause-answered : goal.returns-clause-answered
returns-clause-answered g c = record { passes = passes g c; own = c.in_ok-frames.ensures.own; waits = c.in_ok-frames.ensures.waits }

pub answer-requires-clause-reached : goal.answer-requires-clause-reached
answer-requires-clause-reached g c κs within =
    let mid = stage_of (g.V.Voice.known c.take.new.voice c.take.new.asked) c.take.new.left.items in
    subst (λ t. Reached (g.V.Voice.rules t) mid) (sym c.take.ensures.task)
    (reached_on (g.V.Voice.rules (g.V.Voice.task c.args.voice.now))
    (stage_of (g.V.Voice.known c.args.voice.now c.args.asked.now) c.args.left.now.items) mid (frame_value c.args.frame ∷ []) c.requires.reached (mid, c.in_ok-take.ensures.fits, refl))

pub returns-clause-reached : goal.returns-clause-reached
returns-clause-reached g c =
    let new = stage_of (g.V.Voice.known c.answer.new.voice c.answer.new.asked) c.answer.new.left.items in
    subst (λ t. Reached (g.V.Voice.rules t) new) (sym (c.answer.ensures.task ∙ c.take.ensures.task))
    (reached_on (g.V.Voice.rules (g.V.Voice.task c.args.voice.now))
    (stage_of (g.V.Voice.known c.args.voice.now c.args.asked.now) c.args.left.now.items) new (frame_value c.args.frame ∷ map frame_value c.in_ok-frames.frames.items)
    c.requires.reached (passes g c))

pub returns-in_err-frames-clause-fails : goal.returns-in_err-frames-clause-fails
returns-in_err-frames-clause-fails g c =
    let side = g.V.Voice.side in
    let rules = g.V.Voice.rules (g.V.Voice.task c.args.voice.now) in
    let old = stage_of (g.V.Voice.known c.args.voice.now c.args.asked.now) c.args.left.now.items in
    let mid = stage_of (g.V.Voice.known c.take.new.voice c.take.new.asked) c.take.new.left.items in
    let now = g.V.Voice.known c.answer.new.voice c.answer.new.asked in
    let frame = frame_value c.args.frame in
    let fails = subst (λ t. (said : List Frame) × Says side said × AnswerFails side (g.V.Voice.rules t) mid said c.in_err-frames.field-0.0 now) c.take.ensures.task
    c.in_err-frames.ensures.fails in
    fails_at (λ fault. TurnsDown side rules old frame fault now) c.from_residual-in_err-frames.result c.in_err-frames.field-0.0 c.from_residual-in_err-frames.ensures.1
    (inr (fails.0, fails.1, fails_on side rules old mid (frame ∷ []) fails.0 c.in_err-frames.field-0.0 now (mid, c.in_ok-take.ensures.fits, refl) fails.2))
