use Rattle.zk_model.specs.Check.{key_triple}
use Rattle.mult_check.proofs.Streaming.{given_next}
use Rattle.mult_check.proofs.streams.VerifierWalkWalkKeyTriple.give.Goals as goal

pub returns-clause-item : goal.returns-clause-item
returns-clause-item c item below =
    given_next (key_triple c.args.self.now.side.keys) c.args.self.now.side.program.products c.args.self.now.met item c.next.result below c.next.ensures.some
