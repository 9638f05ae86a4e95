use Rattle.std.proofs.Common.{List, ap, subst, sym}
use Rattle.zk_model.specs.Mac.{Pair}
use Rattle.session_core.specs.Cores.{ProverState}
use Rattle.session_core.specs.Fixing.{AreEnough}
use Rattle.wire_auth.specs.Held.{items_in}
use Rattle.session_core.proofs.Enough.{enough_granted}
use Rattle.session_core.proofs.prover_core.ProverCore.commit.Goals as goal

pub commit-requires-clause-enough : goal.commit-requires-clause-enough
commit-requires-clause-enough c =
    subst (λ (l : List Pair). AreEnough c.self.inside.job.now c.args.grant.section_length l) (sym c.as_slice.ensures)
    (enough_granted c.self.inside.job.now c.args.self.now.job c.args.grant (items_in c.args.pairs) (ap (λ (s : ProverState). s.job) c.self.view_is)
    (search Rattle.std.proofs.Common.rules) c.requires.granted c.requires.count)

pub invariant_of-self : goal.invariant_of-self
invariant_of-self c = record {
  some = c.requires.granted.section_some;
  enough = enough_granted c.self.inside.job.now c.args.self.now.job c.args.grant (items_in c.args.pairs) (ap (λ (s : ProverState). s.job) c.self.view_is)
      (search Rattle.std.proofs.Common.rules) c.requires.granted c.requires.count;
}
