use Rattle.std.proofs.Common.{ℕ, List, string_bytes, ap, subst, inl, inr, refl, ◌∙◌}
use Rattle.zk_port.specs.Changes.{change}
use Rattle.session_verifier.specs.NoteLines.{served_status}
use Rattle.file_commands.specs.Stops.{Prints}
use Rattle.session_verifier.proofs.service_said.say_service.Goals as goal

pub returns-in_default : goal.returns-in_default
returns-in_default g c = λ first tried. record {
  faults = c.settle_logs-kept.result;
  logs = c.settle_logs-kept.ensures first tried;
  lines = inr (refl, refl);
}

pub returns : goal.returns
returns g c = λ first tried. record {
  faults = c.settle_logs-kept.result;
  logs = c.settle_logs-kept.ensures first tried;
  lines =
      let status = c.served_status.ensures ∙ ap (served_status c.args.notes.now) c.failures_of-failed.ensures in
      inl (
        string_bytes c.in-Ok.text,
        c.in-Ok.ensures,
        subst (λ (said : ℕ × List ℕ). Prints said.0 said.1 c.say.result
            (change (g.O.Sink.state c.args.out.now) (g.O.Sink.state c.say.new.out))) (λ i. (status i, c.as_bytes.ensures.value i)) c.say.ensures,
      );
}
