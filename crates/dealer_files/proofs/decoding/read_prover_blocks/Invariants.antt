use Rattle.zk_model.specs.declared.Side.TheVariants.{Prover}
use Rattle.dealer_files.specs.Reading.{a_pair, a_transfer, AreBlocks}
use Rattle.dealer_files.proofs.decoding.read_prover_blocks.Given as goal

abbrev pub invariant-loop-unit : goal.invariant-loop-unit
invariant-loop-unit l = AreBlocks a_pair a_transfer Prover l.params l.bytes l.unit l.pairs.items l.transfers.items
