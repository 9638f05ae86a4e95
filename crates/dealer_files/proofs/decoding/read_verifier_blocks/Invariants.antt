use Rattle.zk_model.specs.declared.Side.TheVariants.{Verifier}
use Rattle.dealer_files.specs.Reading.{an_element, both_pads, AreBlocks}
use Rattle.dealer_files.proofs.decoding.read_verifier_blocks.Given as goal

abbrev pub invariant-loop-unit : goal.invariant-loop-unit
invariant-loop-unit l = AreBlocks an_element both_pads Verifier l.params l.bytes l.unit l.keys.items l.pads.items
