use Rattle.std.proofs.Common.{subst}
use Rattle.field_program.specs.Programs.{IsSmallProgram}
use Rattle.wire_auth.specs.Values.{wires_made}
use Rattle.session_core.proofs.Proving.{job_made}
use Rattle.session_core.proofs.prover_job.ProverJob.with_wires.Goals as goal

pub invariant_of-result : goal.invariant_of-result
invariant_of-result c = (
  record { counted = (job_made c.args.statement.now c.args.inputs.now c.program.ensures.stated (subst IsSmallProgram c.program.ensures.program c.givens-givens.ensures.held) c.requires.inputs).count },
  c.requires.inputs,
  c.requires.wires,
)

pub returns-clause-made : goal.returns-clause-made
returns-clause-made c = (
  wires_made c.args.statement.now.program c.args.statement.now.public c.args.inputs.now,
  job_made c.args.statement.now c.args.inputs.now c.program.ensures.stated (subst IsSmallProgram c.program.ensures.program c.givens-givens.ensures.held) c.requires.inputs,
)
