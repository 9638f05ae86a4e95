use Rattle.std.proofs.Common.{◌≡◌, ◌+◌, ◌++◌, take, drop, arith, subst, sym, ap, length, ◌∙◌}
use Rattle.std.proofs.Math.Seq.{take-append_seam}
use Rattle.field_program.specs.Slotting.{AreOperandsWithin, AreLastReads}
use Rattle.field_program.proofs.Counts.{few_steps}
use Rattle.field_program.proofs.Ends.{one_read}
use Rattle.field_program.proofs.Followed.{operands_within}
use Rattle.field_program.proofs.slots.last_reads.Goals as goal

pub overflow_cast-k : goal.overflow_cast-k
overflow_cast-k c =
    let few = few_steps c.args.program.now c.step-step.ensures.held.formed in
    omega (arith, few, c.loop-k-test.true, c.steps-k-end.ensures.count, c.step-step.ensures.held.wires)

pub overflow_add-k : goal.overflow_add-k
overflow_add-k c =
    let few = few_steps c.args.program.now c.step-step.ensures.held.formed in
    omega (arith, few, c.loop-k-test.true, c.steps-k-end.ensures.count, c.step-step.ensures.held.wires)

pub note_operands-requires : goal.note_operands-requires
note_operands-requires c =
    subst (λ wires. AreOperandsWithin wires c.operands_of.result) (sym (ap length c.deref_mut.ensures.value ∙ c.loop-k.invariant.whole))
    (operands_within c.args.program.now c.loop-k.k c.step-step.result c.operands_of.result c.step-step.ensures.held c.step-step.ensures.step
    c.step-step.ensures.factors c.operands_of.ensures)

pub loop-k-preserved : goal.loop-k-preserved
loop-k-preserved c =
    subst (AreLastReads c.args.program.now (c.loop-k.k + 1)) (sym written)
    (one_read c.args.program.now c.loop-k.k c.step-step.result c.operands_of.result c.deref_mut.result.now c.note_operands.new.last c.step-step.ensures.held
    c.step-step.ensures.step c.step-step.ensures.factors c.operands_of.ensures c.note_operands.ensures
    (subst (AreLastReads c.args.program.now c.loop-k.k) (sym c.deref_mut.ensures.value) c.loop-k.invariant))
  where
    written : take c.loop-k.last.len (c.note_operands.new.last ++ drop (length c.note_operands.new.last) c.loop-k.last.items) ≡ c.note_operands.new.last
    written = ap (λ n. take n (c.note_operands.new.last ++ drop (length c.note_operands.new.last) c.loop-k.last.items))
        (let same = c.note_operands.ensures.whole in omega (arith, c.deref_mut.ensures.len, same))
        ∙ take-append_seam c.note_operands.new.last (drop (length c.note_operands.new.last) c.loop-k.last.items)
