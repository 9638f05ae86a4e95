use Rattle.std.proofs.Common.{◌≡◌, ◌≤◌, ◌∙◌, ℕ, List, ap, refl, sym, subst, inl, inr}
use Rattle.zk_model.specs.declared.limits.TheConstants.{MAX_UNITS}
use Rattle.zk_port.specs.Changes.{change}
use Rattle.poly_session.specs.PolyClaims.{poly_claim}
use Rattle.session_service.specs.ServiceRuns.{Place, place}
use Rattle.command_words.specs.Commands.{named_options, serve_poly_of}
use Rattle.file_commands.specs.Journals.{disk_change}
use Rattle.file_commands.proofs.Journals.{untouched}
use Rattle.serve_poly.specs.PolyServices.{PolyService, TakesTooMany, place_asked}
use Rattle.serve_poly.proofs.Led.{err_then, led_so, ok_then, unled_so}
use Rattle.serve_poly.proofs.serving.serve_files.Goals as goal

pub returns-in-Err-fit_units-clause-stop : goal.returns-in-Err-fit_units-clause-stop
returns-in-Err-fit_units-clause-stop g c = inr (
  record { constraints = c.in-Ok.files.constraints.polys; digest = c.in-Ok.files.constraints.digest; file = c.in-Ok.files.file },
  record { constraints = c.in-Ok.ensures.constraints; file = c.in-Ok.ensures.file },
  inl (
    subst (λ claim. TakesTooMany claim c.in-Ok.files.file c.args.ask.now.options.section c.in-Err-fit_units.refusal)
        (λ i. poly_claim (c.new-claim.ensures.constraints i) (c.new-claim.ensures.digest i)) c.in-Err-fit_units.ensures.stop,
    untouched (g.B.Disk.state c.args.journal),
    refl,
  ),
)

pub returns-clause-leads : goal.returns-clause-leads
returns-clause-leads g c =
    let ask = serve_poly_of c.args.ask.now in
    let served : PolyService = record { constraints = c.in-Ok.files.constraints.polys; digest = c.in-Ok.files.constraints.digest; file = c.in-Ok.files.file } in
    let s = c.new-sessions.result in
    let other : PolyService = record { constraints = s.claim.now.polys.now; digest = s.claim.now.digest; file = s.file.now } in
    let claim = c.new-sessions.ensures.claim in
    let same : other ≡ served = (λ i. record {
      constraints = (ap (λ q. q.polys.now) claim ∙ c.new-claim.ensures.constraints) i;
      digest = (ap (λ q. q.digest) claim ∙ c.new-claim.ensures.digest) i;
      file = c.new-sessions.ensures.file i;
    }) in
    let at : Place = place c.deref.result.now c.deref-2.result.now (named_options c.args.ask.now.options) in
    let there : at ≡ place_asked ask = (λ i. place (c.deref.ensures i) (c.deref-2.ensures i) (named_options c.args.ask.now.options)) in
    ok_then _ _ c.serve_sessions.result (λ led leads. led_so g.D.Link.Link.state ask (g.F.Shelf.state c.args.shelf.now).told served other s.section at
    (record { constraints = c.in-Ok.ensures.constraints; file = c.in-Ok.ensures.file }) same c.new-sessions.ensures.section there s.few
    led.served.notes.items led.served.door_failed led.served.memory_failed
    (disk_change (g.B.Disk.state c.args.journal) (g.B.Disk.state led.served.disk)) (change (g.D.Door.state c.args.door) (g.D.Door.state led.served.door)) leads)
    c.serve_sessions.ensures.leads

pub returns-clause-stop : goal.returns-clause-stop
returns-clause-stop g c =
    let ask = serve_poly_of c.args.ask.now in
    let served : PolyService = record { constraints = c.in-Ok.files.constraints.polys; digest = c.in-Ok.files.constraints.digest; file = c.in-Ok.files.file } in
    let s = c.new-sessions.result in
    let other : PolyService = record { constraints = s.claim.now.polys.now; digest = s.claim.now.digest; file = s.file.now } in
    let claim = c.new-sessions.ensures.claim in
    let same : other ≡ served = (λ i. record {
      constraints = (ap (λ q. q.polys.now) claim ∙ c.new-claim.ensures.constraints) i;
      digest = (ap (λ q. q.digest) claim ∙ c.new-claim.ensures.digest) i;
      file = c.new-sessions.ensures.file i;
    }) in
    let at : Place = place c.deref.result.now c.deref-2.result.now (named_options c.args.ask.now.options) in
    let there : at ≡ place_asked ask = (λ i. place (c.deref.ensures i) (c.deref-2.ensures i) (named_options c.args.ask.now.options)) in
    let file = c.new-sessions.ensures.file in
    err_then _ _ c.serve_sessions.result (λ unled stops. inr (
      served,
      record { constraints = c.in-Ok.ensures.constraints; file = c.in-Ok.ensures.file },
      unled_so ask served other s.section at same c.new-sessions.ensures.section there s.few
          (disk_change (g.B.Disk.state c.args.journal) (g.B.Disk.state unled.journal)) (change (g.D.Door.state c.args.door) (g.D.Door.state unled.door)) unled.refusal
          (subst (λ f. Rattle.session_service.specs.ServiceRuns.StopsListening at f.id f.params.total
          (disk_change (g.B.Disk.state c.args.journal) (g.B.Disk.state unled.journal)) (change (g.D.Door.state c.args.door) (g.D.Door.state unled.door)) unled.refusal)
          (sym file) stops),
    )) c.serve_sessions.ensures.stop
