use Rattle.std.proofs.Common.{◌≡◌, ap, ◌∙◌, refl, subst, Some, None}
use Rattle.proof_frames.specs.Readings.{Reading, wanted}
use Rattle.frame_link.specs.Lines.{LineState, line_state, Fails}
use Rattle.frame_link.specs.declared.fault.LineFault.TheVariants as fault
use Rattle.frame_link.proofs.LineLemmas.{came_none, none_fails, fails_at, fails_since, is_done}
use Rattle.frame_link.proofs.line.Line.take.Goals as goal

pub returns-in_err-expect-clause-fails : goal.returns-in_err-expect-clause-fails
returns-in_err-expect-clause-fails g c =
    let inside = c.self.inside in
    let earlier = line_state inside.side inside.log.entries inside.decoder inside.log.room (g.L.Link.state inside.link) in
    let later : LineState = record earlier { reading = c.expect.new.self } in
    fails_at _ c.from_residual.result fault.NoMemory c.from_residual.ensures.1
    (subst (λ (s : LineState). Fails c.args.place fault.NoMemory s later) c.self.view_is
    (none_fails c.args.place earlier later (came_none earlier later refl refl refl refl refl refl refl refl) refl refl))

pub returns-in_err-take_pieces-clause-fails : goal.returns-in_err-take_pieces-clause-fails
returns-in_err-take_pieces-clause-fails g c =
    let inside = c.self.inside in
    let earlier = line_state inside.side inside.log.entries inside.decoder inside.log.room (g.L.Link.state inside.link) in
    let broke = c.in_err-take_pieces.field-0.0 in
    let later = c.take_pieces.new.self in
    fails_at _ c.from_residual-in_err-take_pieces.result broke c.from_residual-in_err-take_pieces.ensures.1
    (subst (λ (s : LineState). Fails c.args.place broke s later) c.self.view_is
    (fails_since c.args.place earlier c.expect.new.self later broke (ap (λ (r : Reading). r.received) c.in_ok-expect.ensures.expects)
    c.in_err-take_pieces.ensures.fails))

pub unreachable-requires : goal.unreachable-requires
unreachable-requires g c =
    let come = c.in_ok-take_pieces.ensures.whole in
    let view = c.self-2.view_is in
    let whole = ap (λ (s : LineState). wanted s.reading) view ∙ come.whole in
    let kept = ap (λ (s : LineState). s.reading) view ∙ come.begin.read in
    let expected : c.self-2.inside.decoder.expected ≡ Some c.args.place = ap (λ (r : Reading). r.expected) kept ∙ ap (λ (r : Reading). r.expected) c.in_ok-expect.ensures.expects in
    let fine : c.self-2.inside.decoder.bad ≡ None = ap (λ (r : Reading). r.bad) kept ∙ ap (λ (r : Reading). r.bad) c.in_ok-expect.ensures.expects
    ∙ (c.wants-wants.ensures.sound.idle (ap (λ (s : LineState). s.reading.expected) c.self.view_is ∙ c.requires.idle)).1 in
    is_done c.self-2.inside.decoder c.args.place fine expected whole c.in-None.ensures.wanting
