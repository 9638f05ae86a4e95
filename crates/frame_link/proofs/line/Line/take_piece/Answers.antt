use Rattle.std.proofs.Common.{◌≡◌, ◌+◌, ◌<◌, ℕ, List, take, length, ap, sym, ◌∙◌, subst, Some, None, Err, arith, ◌++◌, ◌≤◌}
use Rattle.std.proofs.lemmas.List.{length-take}
use Rattle.zk_model.specs.Transcript.{bytes_from}
use Rattle.zk_port.specs.Links.{LinkState}
use Rattle.frame_link.specs.Runs.{WrittenLog}
use Rattle.frame_link.specs.Sides.{peer_of}
use Rattle.zk_model.specs.Frames.{bytes_wanted, frame_length}
use Rattle.proof_frames.specs.Readings.{wanted}
use Rattle.frame_link.specs.Lines.{LineState, line_state, Came, PieceComes, PieceFails, port_fault}
use Rattle.frame_link.specs.declared.fault.LineFault.{LineFault}
use Rattle.frame_link.specs.declared.fault.LineFault.TheVariants as fault
use Rattle.frame_link.proofs.LineLemmas.{comes_by, done_as, done_not, unreceived, fails_at, fails_as, fails_not, wanted_is, fed_badly, came_by, ended_by, untaken_by, counted_receive}
use Rattle.frame_link.proofs.line.Line.take_piece.Given.{Over}
use Rattle.frame_link.proofs.line.Line.take_piece.Goals.{in-Ok, in-Err}
use Rattle.frame_link.proofs.line.Line.take_piece.Goals as goal

pub returns-in_err-count-clause-fails : goal.returns-in_err-count-clause-fails
returns-in_err-count-clause-fails g c =
    let place = c.args._place in
    let sound = c.wants.ensures.sound in
    let causes = c.in_err-count.ensures.cause in
    let expected : c.self.inside.decoder.expected ≡ Some place = ap (λ (s : LineState). s.reading.expected) c.self.view_is ∙ c.requires.expected in
    let fine : c.self.inside.decoder.bad ≡ None = ap (λ (s : LineState). s.reading.bad) c.self.view_is ∙ c.requires.fine in
    let wanting : 0 < bytes_wanted place c.self.inside.decoder.taken =
    subst (λ n. 0 < n) (ap (λ (s : LineState). wanted s.reading) (sym c.self.view_is) ∙ wanted_is c.self.inside.decoder place fine expected) c.requires.wanting in
    let inside = c.self.inside in
    let old = g.L.Link.state inside.link in
    let new = g.L.Link.state c.receive.new.link in
    let earlier = line_state inside.side inside.log.entries inside.decoder inside.log.room old in
    let later = line_state inside.side inside.log.entries inside.decoder inside.log.room new in
    let refused = c.in_err-count.ensures.refused in
    fails_at _ c.from_residual.result (port_fault c.in_err-count.field-0.0) c.from_residual.ensures.1
    (subst (λ (w : WrittenLog). PieceFails place (port_fault c.in_err-count.field-0.0) c.args.self.now (line_state inside.side w.entries inside.decoder w.room new)) (sym c.in_err-count.ensures.unnoted)
    (subst (λ (s : LineState). PieceFails place (port_fault c.in_err-count.field-0.0) s later) c.self.view_is
    (unreceived place earlier later c.in_err-count.field-0.0 (untaken_by inside.side inside.log.entries inside.decoder inside.log.room old new refused)
    (sound.goes_on place expected) (omega (arith, wanting)) refused.receives causes.later (λ is. causes.failed (ap Err is)) (λ is. causes.unserved (ap Err is)))))

-- the peer has ended
pub returns-then-count-eq0-clause-fails : goal.returns-then-count-eq0-clause-fails
returns-then-count-eq0-clause-fails g c =
    let place = c.args._place in
    let inside = c.self.inside in
    let sound = c.wants.ensures.sound in
    let ok = c.in_ok-count.ensures in
    let old = g.L.Link.state inside.link in
    let new = g.L.Link.state c.receive.new.link in
    let piece = take c.in_ok-count.count c.receive.new.buffer in
    let expected : inside.decoder.expected ≡ Some place = ap (λ (s : LineState). s.reading.expected) c.self.view_is ∙ c.requires.expected in
    let fine : inside.decoder.bad ≡ None = ap (λ (s : LineState). s.reading.bad) c.self.view_is ∙ c.requires.fine in
    let wanting : 0 < wanted inside.decoder =
    subst (λ n. 0 < n) (ap (λ (s : LineState). wanted s.reading) (sym c.self.view_is)) c.requires.wanting in
    let missing : length inside.decoder.taken < frame_length place inside.decoder.taken =
    omega (arith, wanting, wanted_is inside.decoder place fine expected) in
    let ended : LineFault = fault.PeerEnded c.received-at.result in
    subst (λ (w : WrittenLog). PieceFails place ended c.args.self.now (line_state inside.side w.entries inside.decoder w.room new))
    (sym (ok.noted ∙ (λ i. record { entries = inside.log.entries ++ bytes_from (c.peer.ensures i) piece; room = inside.log.room })))
    (subst (λ (s : LineState). PieceFails place ended s
    (line_state inside.side (inside.log.entries ++ bytes_from (peer_of inside.side) piece) inside.decoder inside.log.room new)) c.self.view_is
    (ended_by place inside.side inside.log.entries inside.decoder inside.log.room _ c.in_ok-count.count c.received-at.result piece old new ok.taken
    c.if-count-eq0.true (omega (arith, c.min-most.ensures, c.wants.ensures.count, wanting, c.requires.room)) (ap (λ n. take n c.receive.new.buffer) c.if-count-eq0.true)
    (sound.goes_on place expected) missing c.received-at.ensures.count ok.cause.done))

-- the line before the piece came, the piece, the log behind it, and the line once the piece is fed
abbrev earlier_of : (g : Over) (c : goal.Joined-feed g) → LineState
earlier_of g c = line_state c.self.inside.side c.self.inside.log.entries c.self.inside.decoder c.self.inside.log.room (g.L.Link.state c.self.inside.link)

abbrev piece_of : (g : Over) (c : goal.Joined-feed g) → List ℕ
piece_of g c = take c.in_ok-count.count c.receive.new.buffer

abbrev log_of : (g : Over) (c : goal.Joined-feed g) → WrittenLog
log_of g c = record { entries = c.self.inside.log.entries ++ bytes_from (peer_of c.self.inside.side) (piece_of g c); room = c.self.inside.log.room }

abbrev line_with : (g : Over) (c : goal.Joined-feed g) → WrittenLog → LineState
line_with g c log = line_state c.self.inside.side log.entries c.feed.new.self log.room (g.L.Link.state c.receive.new.link)

abbrev later_of : (g : Over) (c : goal.Joined-feed g) → LineState
later_of g c = line_with g c (log_of g c)

-- what is known of them
record IsFed (g : Over) (c : goal.Joined-feed g) : Type 0 where
  expected : (earlier_of g c).reading.expected ≡ Some c.args._place
  fine : (earlier_of g c).reading.bad ≡ None
  came : Came (piece_of g c) (earlier_of g c) (later_of g c)
  noted : c.receive.new.self ≡ log_of g c
  few : length (piece_of g c) ≤ bytes_wanted c.args._place (earlier_of g c).reading.taken
  received : (later_of g c).receives ≤ (earlier_of g c).receives + 1

is_fed : (g : Over) (c : goal.Joined-feed g) → IsFed g c
is_fed g c =
    let inside = c.self.inside in
    let old = g.L.Link.state inside.link in
    let new = g.L.Link.state c.receive.new.link in
    let ok = c.in_ok-count.ensures in
    let expected : (earlier_of g c).reading.expected ≡ Some c.args._place = ap (λ (s : LineState). s.reading.expected) c.self.view_is ∙ c.requires.expected in
    let fine : (earlier_of g c).reading.bad ≡ None = ap (λ (s : LineState). s.reading.bad) c.self.view_is ∙ c.requires.fine in
    record {
      expected = expected;
      fine = fine;
      came = came_by inside.side inside.log.entries inside.decoder c.feed.new.self inside.log.room _ c.in_ok-count.count (piece_of g c) old new ok.taken;
      noted = ok.noted ∙ (λ i. record { entries = inside.log.entries ++ bytes_from (c.peer.ensures i) (piece_of g c); room = inside.log.room });
      few = omega (arith, length-take c.in_ok-count.count c.receive.new.buffer, ok.within, c.min-most.ensures, c.wants.ensures.count, wanted_is (earlier_of g c).reading c.args._place fine expected);
      received = counted_receive old.receives new.receives (ap (λ (l : LinkState). l.receives) ok.taken.taken);
    }

pub returns-clause-fails : goal.returns-clause-fails
returns-clause-fails g c =
    let place = c.args._place in
    let fed = is_fed g c in
    elim c.match-feed.branch [
      | in-Ok w ↦ fails_not _ c.match-feed.result _ w.result-is
      | in-Err w ↦ fails_as _ c.match-feed.result _ w.result-is
          (subst (λ (l : WrittenLog). PieceFails place (fault.BadFrame w.in-Err.bad.place) c.args.self.now (line_with g c l)) (sym fed.noted)
          (subst (λ (s : LineState). PieceFails place (fault.BadFrame w.in-Err.bad.place) s (later_of g c)) c.self.view_is
          (fed_badly place (earlier_of g c) (later_of g c) (piece_of g c) w.in-Err.bad fed.came fed.fine fed.expected fed.few (c.wants.ensures.sound.within place fed.expected) (c.wants.ensures.sound.goes_on place fed.expected) w.in-Err.ensures.bad
          fed.received c.in_ok-count.ensures.cause.done)))
    ]

pub returns-clause-comes : goal.returns-clause-comes
returns-clause-comes g c =
    let place = c.args._place in
    let fed = is_fed g c in
    let ok = c.in_ok-count.ensures in
    let some : 1 ≤ length (piece_of g c) = omega (arith, length-take c.in_ok-count.count c.receive.new.buffer, ok.within, ok.length, c.if-count-eq0.false, c.min-most.ensures) in
    elim c.match-feed.branch [
      | in-Ok w ↦ done_as _ c.match-feed.result _ w.result-is
          (subst (λ (l : WrittenLog). PieceComes place c.args.self.now (line_with g c l)) (sym fed.noted)
          (subst (λ (s : LineState). PieceComes place s (later_of g c)) c.self.view_is
          (comes_by place (earlier_of g c) (later_of g c) (piece_of g c) _ fed.came some fed.expected
          (omega (arith, fed.few, wanted_is (earlier_of g c).reading place fed.fine fed.expected)) w.in-Ok.ensures.takes fed.received ok.cause.done)))
      | in-Err w ↦ done_not _ c.match-feed.result _ w.result-is
    ]
