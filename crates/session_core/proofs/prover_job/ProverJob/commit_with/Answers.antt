use Rattle.std.proofs.Common.{◌∙◌, length, ap, sym, subst}
use Rattle.zk_model.specs.Program.{Program}
use Rattle.field_program.specs.Programs.{IsSmallProgram}
use Rattle.session_core.specs.Ends.{IsFixed}
use Rattle.session_core.specs.Jobs.{AreWitnessValues, IsProverJob, ProverJob, given_by}
use Rattle.session_core.specs.Fixing.{AreEnough, pairs_fixed}
use Rattle.session_core.proofs.Proving.{known_fixed}
use Rattle.session_core.proofs.prover_job.ProverJob.commit_with.Goals as goal

pub returns-clause-fixed : goal.returns-clause-fixed
returns-clause-fixed c =
    subst (λ (job : ProverJob). IsFixed job.statement job.given c.args.pairs.now c.in_ok-corrections.corrections.items (pairs_fixed job c.args.pairs.now)) c.self.view_is
    (known_fixed c.self.inside.statement.now c.self.inside.inputs.now c.self.inside.file.now c.program-program.result.now c.args.grant.section_length c.args.pairs.now
    c.in_ok-corrections.corrections.items c.args.wires c.program-program.ensures.stated
    (subst IsSmallProgram c.program-program.ensures.program c.givens-givens.ensures.held) c.self.invariant.1 c.program-program.ensures.program
    (subst (λ (job : ProverJob). AreEnough job c.args.grant.section_length c.args.pairs.now) (sym c.self.view_is) c.requires.enough)
    (subst (λ (job : ProverJob). AreWitnessValues job.given job.statement.program c.args.wires) (sym c.self.view_is) c.requires.wires)
    c.in_ok-corrections.ensures.elements c.in_ok-corrections.ensures.corrections)

pub returns-clause-one_each : goal.returns-clause-one_each
returns-clause-one_each c =
    c.in_ok-corrections.ensures.one_each
    ∙ ap (λ (p : Program). length (given_by p c.args.wires)) (c.program-program.ensures.program ∙ ap (λ (job : ProverJob). job.statement.program) c.self.view_is)
    ∙ ap length (sym c.requires.wires.made) ∙ (subst IsProverJob c.self.view_is c.self.invariant.0).counted
