use Rattle.std.proofs.Common.{◌∙◌, ap, sym, subst}
use Rattle.zk_model.specs.Program.{Program}
use Rattle.field_program.specs.Programs.{IsSmallProgram}
use Rattle.session_core.specs.Ends.{IsFixed}
use Rattle.session_core.specs.Jobs.{ProverJob}
use Rattle.session_core.specs.Fixing.{pairs_fixed}
use Rattle.session_core.proofs.Proving.{job_fixed}
use Rattle.session_core.proofs.prover_job.ProverJob.commit_walked.Goals as goal

pub walk_corrections-requires-clause-inputs : goal.walk_corrections-requires-clause-inputs
walk_corrections-requires-clause-inputs c = c.self.invariant.1 ∙ sym (ap (λ (p : Program). p.inputs) c.program-program.ensures.program)

pub returns-clause-fixed : goal.returns-clause-fixed
returns-clause-fixed c =
    subst (λ (job : ProverJob). IsFixed job.statement job.given c.args.pairs.now c.in_ok-corrections.corrections.items (pairs_fixed job c.args.pairs.now)) c.self.view_is
    (job_fixed c.self.inside.statement.now c.self.inside.inputs.now c.self.inside.file.now c.program-program.result.now c.public-public.result.now c.args.pairs.now
    c.in_ok-corrections.corrections.items c.program-program.ensures.stated
    (subst IsSmallProgram c.program-program.ensures.program c.givens-givens.ensures.held) c.self.invariant.1
    c.program-program.ensures.program c.public-public.ensures.public
    c.in_ok-corrections.ensures.corrections c.in_ok-corrections.ensures.given c.in_ok-corrections.ensures.carried)
