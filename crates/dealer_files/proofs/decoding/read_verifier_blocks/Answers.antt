use Rattle.std.proofs.Common.{◌≡◌, ◌+◌, ◌*◌, ℕ, refl, rules, arith, ap, subst}
use Rattle.zk_model.specs.declared.Side.TheVariants.{Verifier}
use Rattle.dealer_files.specs.Reading.{an_element, both_pads, AreBlocks}
use Rattle.dealer_files.proofs.ReadBlocks.{StandsAt, parts_within, one_block, verifier_unit_read, verifier_element_first}
use Rattle.dealer_files.proofs.decoding.read_verifier_blocks.Goals.{In-loop-unit}
use Rattle.dealer_files.proofs.decoding.read_verifier_blocks.Goals as goal

-- where the unit's block stands
stands : (c : In-loop-unit) → StandsAt an_element both_pads Verifier c.args.params.now c.loop-unit.unit (136 + c.block_length-length.result * c.loop-unit.unit)
    (136 + c.block_length-length.result * c.loop-unit.unit + 8 * c.dealt_per_unit-dealt.result) c.dealt_per_unit-dealt.result c.transfers_per_unit-each.result
stands c = record {
  start_is = ap (λ n. 136 + n * c.loop-unit.unit) c.block_length-length.ensures.count;
  behind_is = refl;
  dealt_is = c.dealt_per_unit-dealt.ensures.count;
  each_is = c.transfers_per_unit-each.ensures.count;
  whole = λ i. 8 * c.dealt_per_unit-dealt.ensures.count i + 32 * c.transfers_per_unit-each.ensures.count i;
}

pub read_elements-requires : goal.read_elements-requires
read_elements-requires c = (parts_within an_element both_pads Verifier c.args.bytes.now c.args.params.now c.loop-unit.unit _ _ _ _ c.requires.params c.requires.body c.loop-unit-test.true (stands (goal.at.read_elements-requires c).In-loop-unit)).0

pub read_pads-requires : goal.read_pads-requires
read_pads-requires c = (parts_within an_element both_pads Verifier c.args.bytes.now c.args.params.now c.loop-unit.unit _ _ _ _ c.requires.params c.requires.body c.loop-unit-test.true (stands (goal.at.read_pads-requires c).In-loop-unit)).1

pub returns-in_err-read_elements-clause-fault : goal.returns-in_err-read_elements-clause-fault
returns-in_err-read_elements-clause-fault c =
    let is = verifier_element_first c.args.bytes.now c.args.params.now c.loop-unit.unit _ _ _ c.requires.params c.requires.body c.requires.key c.loop-unit-test.true
    (stands (goal.at.returns-in_err-read_elements-clause-fault c).In-loop-unit).start_is c.dealt_per_unit-dealt.ensures.count c.loop-unit.invariant.in_range c.in_err-read_elements.ensures.fault in
    search (rules, is)

pub loop-unit-preserved : goal.loop-unit-preserved
loop-unit-preserved c =
    one_block an_element both_pads Verifier c.args.params.now c.args.bytes.now c.loop-unit.unit _ _ _ _ c.loop-unit.keys.items _ c.loop-unit.pads.items _
    (stands (goal.at.loop-unit-preserved c).In-loop-unit) c.in_ok-read_elements.ensures.read c.in_ok-read_pads.ensures
    (verifier_unit_read c.args.params.now c.args.bytes.now c.loop-unit.unit _ _ (stands (goal.at.loop-unit-preserved c).In-loop-unit).start_is c.dealt_per_unit-dealt.ensures.count c.in_ok-read_elements.ensures.good)
    c.loop-unit.invariant

pub returns-clause-blocks : goal.returns-clause-blocks
returns-clause-blocks c =
    let end : c.loop-unit.unit ≡ c.args.params.now.total = omega arith in
    subst (λ (n : ℕ). AreBlocks an_element both_pads Verifier c.args.params.now c.args.bytes.now n c.loop-unit.keys.items c.loop-unit.pads.items) end c.loop-unit.invariant
