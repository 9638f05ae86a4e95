use Rattle.zk_model.specs.Check.{product_triple}
use Rattle.mult_check.proofs.Streaming.{given_next}
use Rattle.mult_check.proofs.streams.ProverWalkWalkTriple.give.Goals as goal

pub returns-clause-item : goal.returns-clause-item
returns-clause-item c item below =
    given_next (product_triple c.args.self.now.side.pairs) c.args.self.now.side.program.products c.args.self.now.met item c.next.result below c.next.ensures.some
