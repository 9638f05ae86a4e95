use Rattle.std.proofs.Common.{◌≡◌, length, ap, refl, sym, ◌∙◌, subst, arith}
use Rattle.zk_model.specs.Program.{Program}
use Rattle.zk_model.specs.Mac.{corrected_keys}
use Rattle.zk_model.specs.Files.{IsVerifierFile}
use Rattle.zk_model.specs.Check.{AreKeysFor}
use Rattle.wire_auth.specs.Walks.{VerifierWalking}
use Rattle.session_core.specs.Jobs.{VerifierJob, units_of_job}
use Rattle.session_core.proofs.Enough.{enough_units}
use Rattle.session_core.proofs.verifier_job.VerifierJob.walk.Goals as goal

-- there are keys for all given values
pub new-requires-clause-keys : goal.new-requires-clause-keys
new-requires-clause-keys c =
    let job : VerifierJob = c.args.self.now in
    let view = c.self.view_is in
    let program : c.program-program.result.now ≡ job.task.statement.program = c.program-program.ensures.program ∙ ap (λ (j : VerifierJob). j.task.statement.program) view in
    let givens = ap (λ (p : Program). p.givens) program in
    let file : IsVerifierFile job.task.file = subst (λ (j : VerifierJob). IsVerifierFile j.task.file) view c.total-total.ensures.file in
    let enough = enough_units job.task.file.params job.task.statement.program job.section_length (units_of_job job) (length c.args.keys.now)
    file.params refl c.requires.keys in
    omega (arith, enough, givens)

pub returns-clause-side : goal.returns-clause-side
returns-clause-side c =
    let job : VerifierJob = c.args.self.now in
    let view = c.self.view_is in
    let program : c.program-program.result.now ≡ job.task.statement.program = c.program-program.ensures.program ∙ ap (λ (j : VerifierJob). j.task.statement.program) view in
    let key : c.key-key.result ≡ job.task.file.key = c.key-key.ensures.key ∙ ap (λ (j : VerifierJob). j.task.file.key) view in
    let public : c.public-public.result.now ≡ job.task.statement.public = c.public-public.ensures.public ∙ ap (λ (j : VerifierJob). j.task.statement.public) view in
    record {
      program = ap (λ (w : VerifierWalking). w.side.program) c.in_ok-walk.ensures.walk ∙ program;
      given = ap (λ (w : VerifierWalking). w.side.keys.given) c.in_ok-walk.ensures.walk ∙ ap (λ k. corrected_keys k c.args.keys.now c.args.corrections.now) key;
      carried = subst (λ (T : Type 0). T) (λ i. AreKeysFor (key i) (program i) (public i) (sym (ap (λ (w : VerifierWalking). w.side.keys) c.in_ok-walk.ensures.walk) i)) c.in_ok-walk.ensures.carried;
    }
