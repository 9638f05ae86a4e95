use Rattle.std.proofs.Common.{◌≡◌, ◌+◌, ◌^◌, ◌<◌, length, sym, ◌∙◌, arith}
use Rattle.std.specs.Prelude.{None}
use Rattle.proof_frames.specs.Frames.{frame_value}
use Rattle.proof_frames.specs.Holding.{bytes_of}
use Rattle.proof_frames.proofs.Decoding.{none_is, received_fits, under_way, not_whole, gives}
use Rattle.proof_frames.proofs.decoder.Decoder.next.Goals as goal

pub returns-clause-gives : goal.returns-clause-gives
returns-clause-gives c =
    let d = c.self.inside in
    let fine : d.bad ≡ None = none_is d.bad (sym c.is_some.ensures ∙ c.if-is_some.false) in
    gives d.expected d.bad c.in-Some.place d.received d.taken d.held c.args.self.now c.in-Some.is fine c.self.invariant.0 c.self.view_is
    c.whole_frame-frame.new.held (frame_value c.whole_frame-frame.result) c.whole_frame-frame.ensures

pub whole_frame-frame-requires-clause-whole : goal.whole_frame-frame-requires-clause-whole
whole_frame-frame-requires-clause-whole c =
    let d = c.self.inside in
    let fine : d.bad ≡ None = none_is d.bad (sym c.is_some.ensures ∙ c.if-is_some.false) in
    let under = under_way d.expected c.in-Some.place d.received d.bad d.taken d.held c.in-Some.is c.self.invariant.0 in
    let all : d.taken ≡ length (bytes_of d.held) = under.all fine in
    let within = under.holds.begun.within in
    omega (arith, all, within, c.frame_length.ensures)

pub overflow_add-self : goal.overflow_add-self
overflow_add-self c =
    let d = c.self.inside in
    let fits : d.received + d.taken < 2 ^ 64 = received_fits d.expected d.received d.bad d.taken d.held c.self.invariant.0 (omega arith) in
    omega (arith, fits)

pub returns-then-self-frame_length-clause-not_whole : goal.returns-then-self-frame_length-clause-not_whole
returns-then-self-frame_length-clause-not_whole c =
    let d = c.self.inside in
    let fine : d.bad ≡ None = none_is d.bad (sym c.is_some.ensures ∙ c.if-is_some.false) in
    not_whole d.expected d.bad c.in-Some.place d.received d.taken d.held c.args.self.now c.in-Some.is fine c.self.invariant.0 c.self.view_is
    (rw (sym c.frame_length.ensures) c.if-self-frame_length.true)
