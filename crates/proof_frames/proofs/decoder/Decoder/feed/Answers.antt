use Rattle.std.proofs.Common.{◌≡◌, ◌+◌, ◌-◌, inr, min, length, take, refl, ap, ◌∙◌, arith, length-take-le}
use Rattle.zk_model.specs.Frames.{frame_length}
use Rattle.proof_frames.specs.Holding.{bytes_of}
use Rattle.proof_frames.specs.declared.decoder.BadFrame.{BadFrame}
use Rattle.proof_frames.proofs.Decoding.{fits_frame, under_way, taken_within, takes, turns_bad}
use Rattle.proof_frames.proofs.decoder.Decoder.feed.Goals as goal

pub overflow_sub-frame_length : goal.overflow_sub-frame_length
overflow_sub-frame_length c =
    let d = c.self.inside in
    let within = taken_within d.expected d.bad c.in-Some-expected.place d.received d.taken d.held c.in-Some-expected.is c.self.invariant.0 in
    rw c.frame_length.ensures within

pub take-requires-clause-within : goal.take-requires-clause-within
take-requires-clause-within c =
    let d = c.self.inside in
    let place = c.in-Some-expected.place in
    let under = under_way d.expected place d.received d.bad d.taken d.held c.in-Some-expected.is c.self.invariant.0 in
    let all : d.taken ≡ length (bytes_of d.held) = under.all c.in_default.is in
    let count = c.min-count.result in
    let counted : count ≡ min (length c.args.piece.now) (frame_length place (bytes_of d.held) - d.taken) =
    c.min-count.ensures ∙ ap (λ n. min (length c.args.piece.now) (n - d.taken)) c.frame_length.ensures in
    fits_frame place (bytes_of d.held) (take count c.args.piece.now) under.holds.begun.within
    (omega (arith, all, counted, length-take-le count c.args.piece.now (omega (arith, counted))))

pub returns-in-None-clause-takes : goal.returns-in-None-clause-takes
returns-in-None-clause-takes c =
    let d = c.self.inside in
    takes d.expected d.bad c.in-Some-expected.place d.received d.taken d.held c.args.self.now c.in-Some-expected.is c.in_default.is c.self.invariant.0 c.self.view_is
    c.min-count.result c.take.new.self c.args.piece.now (c.min-count.ensures ∙ ap (λ n. min (length c.args.piece.now) (n - d.taken)) c.frame_length.ensures)
    c.in-None.ensures.0 c.in-None.ensures.1

pub returns-in-Some-take-clause-bad : goal.returns-in-Some-take-clause-bad
returns-in-Some-take-clause-bad c =
    let d = c.self.inside in
    let bad : BadFrame = record { place = d.received + (d.taken + c.in-Some-take.n); kind = c.kind.result } in
    inr (turns_bad d.expected d.bad c.in-Some-expected.place d.received d.taken d.held c.args.self.now c.in-Some-expected.is c.in_default.is c.self.invariant.0
    c.self.view_is c.min-count.result c.in-Some-take.n c.take.new.self c.args.piece.now bad
    (c.min-count.ensures ∙ ap (λ n. min (length c.args.piece.now) (n - d.taken)) c.frame_length.ensures) c.in-Some-take.ensures refl c.kind.ensures)
