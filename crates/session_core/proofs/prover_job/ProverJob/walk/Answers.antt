use Rattle.std.proofs.Common.{◌∙◌, ap, subst}
use Rattle.field_program.specs.Programs.{IsSmallProgram}
use Rattle.wire_auth.specs.Walks.{ProverWalking, side_made}
use Rattle.session_core.specs.Jobs.{ProverJob}
use Rattle.session_core.specs.Fixing.{pairs_fixed}
use Rattle.session_core.proofs.Proving.{inputs_walked}
use Rattle.session_core.proofs.prover_job.ProverJob.walk.Goals as goal

pub returns : goal.returns
returns c = record {
  walk = (
    ap (λ (w : ProverWalking). w.side.program) c.in_ok-walk.ensures ∙ c.program-program.ensures.program ∙ ap (λ (j : ProverJob). j.statement.program) c.self.view_is,
    ap (λ (w : ProverWalking). w.side.pairs) c.in_ok-walk.ensures
        ∙ (λ i. (side_made (c.program-program.ensures.program i) (c.public-public.ensures.public i) c.self.inside.inputs.now c.args.pairs.now).pairs)
        ∙ inputs_walked c.self.inside.statement.now c.self.inside.inputs.now c.self.inside.file.now c.args.pairs.now c.program-program.ensures.stated
        (subst IsSmallProgram c.program-program.ensures.program c.givens-givens.ensures.held) c.self.invariant.1
        ∙ ap (λ (j : ProverJob). pairs_fixed j c.args.pairs.now) c.self.view_is,
    ap (λ (w : ProverWalking). w.met) c.in_ok-walk.ensures,
  );
}
