use Rattle.std.proofs.Common.{◌≡◌, ◌+◌, ◌*◌, refl, rules, arith, ap, subst, ℕ}
use Rattle.zk_model.specs.declared.Side.TheVariants.{Prover}
use Rattle.dealer_files.specs.Reading.{a_pair, a_transfer, AreBlocks}
use Rattle.dealer_files.proofs.ReadBlocks.{StandsAt, parts_within, one_block, prover_unit_read, prover_element_first, prover_bit_first}
use Rattle.dealer_files.proofs.decoding.read_prover_blocks.Goals.{In-loop-unit}
use Rattle.dealer_files.proofs.decoding.read_prover_blocks.Goals as goal

-- where the unit's block stands
stands : (c : In-loop-unit) → StandsAt a_pair a_transfer Prover c.args.params.now c.loop-unit.unit (128 + c.block_length-length.result * c.loop-unit.unit)
    (128 + c.block_length-length.result * c.loop-unit.unit + 16 * c.dealt_per_unit-dealt.result) c.dealt_per_unit-dealt.result c.transfers_per_unit-each.result
stands c = record {
  start_is = ap (λ n. 128 + n * c.loop-unit.unit) c.block_length-length.ensures.count;
  behind_is = refl;
  dealt_is = c.dealt_per_unit-dealt.ensures.count;
  each_is = c.transfers_per_unit-each.ensures.count;
  whole = λ i. 16 * c.dealt_per_unit-dealt.ensures.count i + 17 * c.transfers_per_unit-each.ensures.count i;
}

pub read_pairs-requires : goal.read_pairs-requires
read_pairs-requires c = (parts_within a_pair a_transfer Prover c.args.bytes.now c.args.params.now c.loop-unit.unit _ _ _ _ c.requires.params c.requires.body c.loop-unit-test.true (stands (goal.at.read_pairs-requires c).In-loop-unit)).0

pub read_transfers-requires : goal.read_transfers-requires
read_transfers-requires c = (parts_within a_pair a_transfer Prover c.args.bytes.now c.args.params.now c.loop-unit.unit _ _ _ _ c.requires.params c.requires.body c.loop-unit-test.true (stands (goal.at.read_transfers-requires c).In-loop-unit)).1

pub returns-in_err-read_pairs-clause-fault : goal.returns-in_err-read_pairs-clause-fault
returns-in_err-read_pairs-clause-fault c =
    let is = prover_element_first c.args.bytes.now c.args.params.now c.loop-unit.unit _ _ _ c.requires.params c.requires.body c.loop-unit-test.true
    (stands (goal.at.returns-in_err-read_pairs-clause-fault c).In-loop-unit).start_is (ap (λ n. 2 * n) c.dealt_per_unit-dealt.ensures.count) c.loop-unit.invariant.in_range c.in_err-read_pairs.ensures.fault in
    search (rules, is)

pub returns-in_err-read_transfers-clause-fault : goal.returns-in_err-read_transfers-clause-fault
returns-in_err-read_transfers-clause-fault c =
    let is = prover_bit_first c.args.bytes.now c.args.params.now c.loop-unit.unit _ _ _ c.dealt_per_unit-dealt.result _ c.requires.params c.requires.body c.loop-unit-test.true
    (stands (goal.at.returns-in_err-read_transfers-clause-fault c).In-loop-unit).start_is refl c.dealt_per_unit-dealt.ensures.count c.transfers_per_unit-each.ensures.count
    c.loop-unit.invariant.in_range c.in_ok-read_pairs.ensures.good c.in_err-read_transfers.ensures.fault in
    search (rules, is)

pub loop-unit-preserved : goal.loop-unit-preserved
loop-unit-preserved c =
    one_block a_pair a_transfer Prover c.args.params.now c.args.bytes.now c.loop-unit.unit _ _ _ _ c.loop-unit.pairs.items _ c.loop-unit.transfers.items _
    (stands (goal.at.loop-unit-preserved c).In-loop-unit) c.in_ok-read_pairs.ensures.read c.in_ok-read_transfers.ensures.read
    (prover_unit_read c.args.params.now c.args.bytes.now c.loop-unit.unit _ _ _ (stands (goal.at.loop-unit-preserved c).In-loop-unit) c.in_ok-read_pairs.ensures.good c.in_ok-read_transfers.ensures.good)
    c.loop-unit.invariant

pub returns-clause-blocks : goal.returns-clause-blocks
returns-clause-blocks c =
    let end : c.loop-unit.unit ≡ c.args.params.now.total = omega arith in
    subst (λ (n : ℕ). AreBlocks a_pair a_transfer Prover c.args.params.now c.args.bytes.now n c.loop-unit.pairs.items c.loop-unit.transfers.items) end c.loop-unit.invariant
