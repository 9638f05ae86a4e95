use Rattle.std.proofs.Common.{◌++◌, Err, sym, subst, ap}
use Rattle.zk_model.specs.Transcript.{bytes_from}
use Rattle.frame_link.specs.Runs.{WrittenLog}
use Rattle.frame_link.specs.Lines.{LineState, line_state, Sends, IsSendRefused, port_fault}
use Rattle.frame_link.proofs.LineLemmas.{fails_at, sends_by, unsent_by}
use Rattle.frame_link.proofs.line.Line.send_prepared.Goals as goal

pub returns-in_err-send-clause-fails : goal.returns-in_err-send-clause-fails
returns-in_err-send-clause-fails g c =
    let inside = c.self.inside in
    let bytes = c.args.bytes.now in
    let fault = port_fault c.in_err-send.field-0.0 in
    let link = g.L.Link.state c.send.new.link in
    let causes = c.in_err-send.ensures.cause in
    fails_at _ c.from_residual.result fault c.from_residual.ensures.1
    (subst (λ (w : WrittenLog). IsSendRefused bytes fault c.args.self.now (line_state inside.side w.entries inside.decoder w.room link)) (sym c.in_err-send.ensures.unnoted)
    (subst (λ (s : LineState). IsSendRefused bytes fault s (line_state inside.side inside.log.entries inside.decoder inside.log.room link)) c.self.view_is
    (unsent_by inside.side inside.log.entries inside.decoder inside.log.room bytes c.in_err-send.field-0.0 (g.L.Link.state inside.link) link c.in_err-send.ensures.refused
    causes.later (λ is. causes.failed (ap Err is)) (λ is. causes.unserved (ap Err is)))))

pub returns-clause-sends : goal.returns-clause-sends
returns-clause-sends g c =
    let inside = c.self.inside in
    let bytes = c.args.bytes.now in
    let link = g.L.Link.state c.send.new.link in
    subst (λ (w : WrittenLog). Sends bytes c.args.self.now (line_state inside.side w.entries inside.decoder w.room link)) (sym c.in_ok-send.ensures.noted)
    (subst (λ (s : LineState). Sends bytes s (line_state inside.side (inside.log.entries ++ bytes_from inside.side bytes) inside.decoder 0 link)) c.self.view_is
    (sends_by inside.side inside.log.entries inside.decoder inside.log.room 0 bytes (g.L.Link.state inside.link) link c.in_ok-send.ensures.sent))
