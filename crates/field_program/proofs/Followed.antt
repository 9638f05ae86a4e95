-- One step is followed.
use Rattle.std.proofs.Common.{◌≡◌, ◌≢◌, ℕ, ◌+◌, ◌<◌, ⊎_elim, inl, inr, List, refl, sym, ◌∙◌, ap, subst}
use Rattle.std.specs.Prelude.{Some, slice_get, slice_index}
use Rattle.zk_model.specs.Program.{Program, IsSet}
use Rattle.zk_model.proofs.SetWires.{set_below}
use Rattle.field_program.specs.Rules.{HasFactors}
use Rattle.field_program.specs.Programs.{IsSmallProgram}
use Rattle.field_program.specs.Steps.{step_equation}
use Rattle.field_program.specs.declared.step.Step.{Step}
use Rattle.zk_model.specs.Slots.{IsLive}
use Rattle.field_program.specs.Slotting.{IsOperand, operands_of, AreOperandsWithin, AreEnds, IsHeldBeyond, IsHolding, TakesSlot, EndsWire, EndsOperands, AreSlotsAt, AreSlotsUpTo}
use Rattle.field_program.specs.declared.slots.Slots.{Slots}
use Rattle.field_program.specs.declared.slots.Operands.{Operands}
use Rattle.field_program.specs.declared.slots.Operands.TheVariants.{None, One, Two}
use Rattle.field_program.proofs.Held.{end_holding}
use Rattle.field_program.proofs.Live.{out_live}
use Rattle.field_program.proofs.Next.{taken_next, slots_next, remains_held, read_live}
use Rattle.field_program.proofs.Operands.{reads_operands, operands_read, read_set}

-- operands of a step are wires
pub operands_within : (program : Program) (k : ℕ) (s : Step) (operands : Operands) → IsSmallProgram program → slice_get program.steps k ≡ Some (step_equation s)
    → HasFactors program s → operands ≡ operands_of s → AreOperandsWithin program.wires operands
operands_within program k s operands held stands has are = by operands (λ wire is. set_below program k wire held.formed
    (read_set program k wire (step_equation s) held stands (operands_read program s wire has (subst (λ o. IsOperand o wire) are is))))
  where
    by : (operands : Operands) → ((wire : ℕ) → IsOperand operands wire → wire < program.wires) → AreOperandsWithin program.wires operands
    by None below = tt
    by (One a) below = below a refl
    by (Two a b) below = (below a (inl refl), below b (inr refl))

-- what is known where a step has been taken
record Following (program : Program) (ends : List ℕ) (k : ℕ) (s : Step) (operands : Operands) (at : Slots) : Type 0 where
  are : AreEnds program ends
  stands : slice_get program.steps k ≡ Some (step_equation s)
  reads : (wire : ℕ) → IsOperand operands wire → IsLive program (k + 1) wire × (wire ≢ (step_equation s).out)
  read : (wire : ℕ) → IsLive program (k + 1) wire → (wire ≡ (step_equation s).out → k + 1 < slice_index ends wire)
      → (IsOperand operands wire → k + 1 < slice_index ends wire) → IsHeldBeyond program ends (k + 1) wire
  slots : AreSlotsAt program (k + 1) at

-- a wire that is the same is needed as far
same_end : (ends : List ℕ) (n wire other : ℕ) → wire ≡ other → n < slice_index ends other → n < slice_index ends wire
same_end ends n wire other same = subst (λ w. n < slice_index ends w) (sym same)

-- the wires that remain after those of operands have given back theirs
operands_ended : (program : Program) (ends : List ℕ) (k out : ℕ) (s : Step) (operands : Operands) (at mid after : Slots) → out ≡ (step_equation s).out
    → Following program ends k s operands at → EndsWire (k + 1) out ends at mid → EndsOperands (k + 1) operands ends mid after
    → IsHolding (λ other. IsLive program (k + 1) other × (other ≡ out → k + 1 < slice_index ends out)) mid → AreSlotsUpTo program ends (k + 1) after
operands_ended program ends k out s None at mid after is f first same holding =
    slots_next program ends (k + 1) (λ other. IsLive program (k + 1) other × (other ≡ out → k + 1 < slice_index ends out)) at after
    (ap (λ (x : Slots). x.places) same ∙ first.places) (ap (λ (x : Slots). x.count) same ∙ first.count)
    (λ wire remains. f.read wire remains.0 (λ sets. same_end ends (k + 1) wire out (sets ∙ sym is) (remains.1 (sets ∙ sym is))) (λ never. absurd never))
    (λ wire beyond. (beyond.0, λ sets. same_end ends (k + 1) out wire (sym sets) beyond.1))
    (subst (IsHolding (λ other. IsLive program (k + 1) other × (other ≡ out → k + 1 < slice_index ends out))) (sym same) holding) f.slots
operands_ended program ends k out s (One a) at mid after is f first ended holding =
    slots_next program ends (k + 1) (λ other. (IsLive program (k + 1) other × (other ≡ out → k + 1 < slice_index ends out)) × (other ≡ a → k + 1 < slice_index ends a)) at after
    (ended.places ∙ first.places) (ended.count ∙ first.count)
    (λ wire remains. f.read wire remains.0.0 (λ sets. same_end ends (k + 1) wire out (sets ∙ sym is) (remains.0.1 (sets ∙ sym is)))
    (λ same. same_end ends (k + 1) wire a (sym same) (remains.1 (sym same))))
    (λ wire beyond. ((beyond.0, λ sets. same_end ends (k + 1) out wire (sym sets) beyond.1), λ same. same_end ends (k + 1) a wire (sym same) beyond.1))
    (end_holding (λ other. IsLive program (k + 1) other × (other ≡ out → k + 1 < slice_index ends out)) (k + 1) a ends mid after
    ((f.reads a refl).0, λ same. absurd ((f.reads a refl).1 (same ∙ is))) ended holding) f.slots
operands_ended program ends k out s (Two a b) at mid after is f first (next, left, inl right) holding =
    slots_next program ends (k + 1) (λ other. (IsLive program (k + 1) other × (other ≡ out → k + 1 < slice_index ends out)) × (other ≡ a → k + 1 < slice_index ends a)) at after
    (ap (λ (x : Slots). x.places) right.1 ∙ left.places ∙ first.places) (ap (λ (x : Slots). x.count) right.1 ∙ left.count ∙ first.count)
    (λ wire remains. f.read wire remains.0.0 (λ sets. same_end ends (k + 1) wire out (sets ∙ sym is) (remains.0.1 (sets ∙ sym is)))
    (λ either. let same : wire ≡ a = ⊎_elim sym (λ same. sym (right.0 ∙ same)) either in same_end ends (k + 1) wire a same (remains.1 same)))
    (λ wire beyond. ((beyond.0, λ sets. same_end ends (k + 1) out wire (sym sets) beyond.1), λ same. same_end ends (k + 1) a wire (sym same) beyond.1))
    (subst (IsHolding (λ other. (IsLive program (k + 1) other × (other ≡ out → k + 1 < slice_index ends out)) × (other ≡ a → k + 1 < slice_index ends a))) (sym right.1)
    (end_holding (λ other. IsLive program (k + 1) other × (other ≡ out → k + 1 < slice_index ends out)) (k + 1) a ends mid next
    ((f.reads a (inl refl)).0, λ same. absurd ((f.reads a (inl refl)).1 (same ∙ is))) left holding)) f.slots
operands_ended program ends k out s (Two a b) at mid after is f first (next, left, inr right) holding =
    slots_next program ends (k + 1)
    (λ other. ((IsLive program (k + 1) other × (other ≡ out → k + 1 < slice_index ends out)) × (other ≡ a → k + 1 < slice_index ends a)) × (other ≡ b → k + 1 < slice_index ends b))
    at after
    (right.1.places ∙ left.places ∙ first.places) (right.1.count ∙ left.count ∙ first.count)
    (λ wire remains. f.read wire remains.0.0.0 (λ sets. same_end ends (k + 1) wire out (sets ∙ sym is) (remains.0.0.1 (sets ∙ sym is)))
    (λ either. ⊎_elim (λ same. same_end ends (k + 1) wire a (sym same) (remains.0.1 (sym same))) (λ same. same_end ends (k + 1) wire b (sym same) (remains.1 (sym same))) either))
    (λ wire beyond. (
      ((beyond.0, λ sets. same_end ends (k + 1) out wire (sym sets) beyond.1), λ same. same_end ends (k + 1) a wire (sym same) beyond.1),
      λ same. same_end ends (k + 1) b wire (sym same) beyond.1,
    ))
    (end_holding (λ other. (IsLive program (k + 1) other × (other ≡ out → k + 1 < slice_index ends out)) × (other ≡ a → k + 1 < slice_index ends a)) (k + 1) b ends next after
    (((f.reads b (inr refl)).0, λ same. absurd ((f.reads b (inr refl)).1 (same ∙ is))), λ same. absurd (right.0 (sym same))) right.1
    (end_holding (λ other. IsLive program (k + 1) other × (other ≡ out → k + 1 < slice_index ends out)) (k + 1) a ends mid next
    ((f.reads a (inl refl)).0, λ same. absurd ((f.reads a (inl refl)).1 (same ∙ is))) left holding)) f.slots

pub step_followed : (program : Program) (ends : List ℕ) (k out : ℕ) (s : Step) (operands : Operands) (before at mid after : Slots) → IsSmallProgram program
    → AreEnds program ends → slice_get program.steps k ≡ Some (step_equation s) → HasFactors program s → operands ≡ operands_of s
    → out ≡ (step_equation s).out → AreSlotsUpTo program ends k before → TakesSlot out before at → EndsWire (k + 1) out ends at mid
    → EndsOperands (k + 1) operands ends mid after → AreSlotsUpTo program ends (k + 1) after
step_followed program ends k out s operands before at mid after held are stands has operands_are is far takes first ended =
    operands_ended program ends k out s operands at mid after is following first ended
    (end_holding (IsLive program (k + 1)) (k + 1) out ends at mid (subst (IsLive program (k + 1)) (sym is) (out_live program k (step_equation s) stands)) first following.slots.holding)
  where
    reads : (wire : ℕ) → IsOperand operands wire → IsSet program k wire
    reads wire operand = read_set program k wire (step_equation s) held stands (operands_read program s wire has (subst (λ o. IsOperand o wire) operands_are operand))

    following : Following program ends k s operands at
    following = record {
      are = are;
      stands = stands;
      reads = λ wire operand. (
        read_live program k wire (step_equation s) stands
            (operands_read program s wire has (subst (λ o. IsOperand o wire) operands_are operand)) (reads wire operand),
        λ same. (held.formed.steps k (step_equation s) stands).once (subst (IsSet program k) same (reads wire operand)),
      );
      read = λ wire live out_end operand_end. remains_held program ends k wire (step_equation s) operands are stands
          (λ read. subst (λ o. IsOperand o wire) (sym operands_are) (reads_operands program s wire held has read)) live out_end operand_end;
      slots = taken_next program ends k out (step_equation s) before at held.formed are stands is far takes;
    }
