-- Slots from one step to the next.
use Rattle.std.proofs.Common.{◌≡◌, ◌≢◌, ℕ, ◌+◌, ◌<◌, ◌≤◌, ◌⊎◌, ⊎_elim, inl, inr, List, [], map, length, get_or, refl, sym, ◌∙◌, ap, subst, arith, length-set, get_or-set_other}
use Rattle.std.specs.Prelude.{Some, slice_get, slice_index}
use Rattle.std.specs.List.{range_with_len}
use Rattle.std.proofs.lemmas.Bool.{cases_eq}
use Rattle.std.proofs.Math.Nat.{eq-or-lt_of_le}
use Rattle.std.proofs.lemmas.List.FromFn.{get_or-map-range_with_len, length-map-range_with_len}
use Rattle.std.proofs.lemmas.Option.{slice_get_within}
use Rattle.zk_model.specs.Program.{Step, Program, IsProgram, IsSet}
use Rattle.zk_model.specs.Slots.{Reads, IsLive, AreLive}
use Rattle.field_program.specs.Slotting.{IsOperand, AreEnds, IsHeldBeyond, IsHolding, TakesSlot, KeepsSlots, AreSlotsUpTo, AreSlotsAt}
use Rattle.field_program.specs.declared.slots.Slots.{Slots}
use Rattle.field_program.specs.declared.slots.Operands.{Operands}
use Rattle.field_program.specs.declared.slots.Operands.TheVariants.{None, One, Two}
use Rattle.field_program.proofs.Held.{none_there, holding_same, take_holding}
use Rattle.field_program.proofs.Live.{first_live, not_set_yet, live_next, out_live, held_live, held_on}

-- all slots are held, so there are as many wires that are live at once
pub reached_now : (program : Program) (n : ℕ) (slots : Slots) → n ≤ length program.steps → slots.free.items ≡ [] → IsHolding (IsLive program n) slots
    → (k : ℕ) × (wires : List ℕ) × AreLive program k wires × (length wires ≡ slots.count)
reached_now program n slots within none holding = (
  n,
  owners,
  record {
    within = within;
    distinct = λ i j d before below same. absurd (differ i j before (subst (λ m. j < m) counted below)
        (sym (at i d (less i j before below)) ∙ same ∙ at j d (subst (λ m. j < m) counted below)));
    live = λ i d below. subst (IsLive program n) (sym (at i d (subst (λ m. i < m) counted below)))
        (holding.owns i (subst (λ m. i < m) counted below) (none_there slots.free.items i none)).0;
  },
  counted,
)
  where
    owners : List ℕ
    owners = map holding.owner (range_with_len 0 slots.count)

    counted : length owners ≡ slots.count
    counted = length-map-range_with_len holding.owner 0 slots.count

    at : (i d : ℕ) → i < slots.count → get_or owners i d ≡ holding.owner i
    at i d below = get_or-map-range_with_len holding.owner 0 slots.count i i d below (omega arith)

    less : (i j : ℕ) → i < j → j < length owners → i < slots.count
    less i j before below = omega (arith, before, below, counted)

    differ : (i j : ℕ) → i < j → j < slots.count → holding.owner i ≢ holding.owner j
    differ i j before below same =
        let first = (holding.owns i (omega (arith, before, below)) (none_there slots.free.items i none)).1 in
        let second = (holding.owns j below (none_there slots.free.items j none)).1 in
        let equal : i ≡ j = sym first ∙ ap (slice_index slots.places.items) same ∙ second in
        absurd (omega (arith, before, equal))

-- a wire that is set takes a slot, and the wires that were live keep theirs
pub step_keeps : (program : Program) (k out : ℕ) (step : Step) (before at after : Slots) → IsProgram program → slice_get program.steps k ≡ Some step
    → out ≡ step.out → TakesSlot out before at → after.places ≡ at.places → after.count ≡ at.count → KeepsSlots program k before after
step_keeps program k out step before at after formed stands is takes places count = record {
  grows = ⊎_elim (λ old. omega (arith, old.1, count)) (λ new. omega (arith, new.3, count)) takes.from;
  kept = λ n wire upto live. ap (λ p. slice_index p.items wire) places ∙ ap (λ l. slice_index l wire) takes.places
      ∙ get_or-set_other before.places.items out wire takes.slot 0 (λ same. not_set_yet program n k wire step formed upto stands live (same ∙ is));
}

-- the wire that a step sets takes a slot
pub taken_next : (program : Program) (ends : List ℕ) (k out : ℕ) (step : Step) (before after : Slots) → IsProgram program → AreEnds program ends
    → slice_get program.steps k ≡ Some step → out ≡ step.out → AreSlotsUpTo program ends k before → TakesSlot out before after
    → AreSlotsAt program (k + 1) after
taken_next program ends k out step before after formed are stands is far takes = record {
  whole = ap length takes.places ∙ length-set before.places.items out takes.slot ∙ far.whole;
  holding = holding;
  within = λ j wire upto live. ⊎_elim
      (λ same. (holding.placed wire (subst (λ n. IsLive program n wire) same live)).0)
      (λ less. let grows = keeps.grows in let old = far.within j wire (omega (arith, less)) live in
      subst (λ n. n < after.count) (sym (keeps.kept j wire (omega (arith, less)) live)) (omega (arith, grows, old)))
      (eq-or-lt_of_le upto);
  apart = λ j one other upto live lives same. ⊎_elim
      (λ now. holding.apart one other (subst (λ n. IsLive program n one) now live) (subst (λ n. IsLive program n other) now lives) same)
      (λ less. far.apart j one other (omega (arith, less)) live lives
      (sym (keeps.kept j one (omega (arith, less)) live) ∙ same ∙ keeps.kept j other (omega (arith, less)) lives))
      (eq-or-lt_of_le upto);
  first = λ wire below. keeps.kept 0 wire (omega arith) (first_live program wire below) ∙ far.first wire below;
  reached = ⊎_elim
      (λ old. subst (λ count. (j : ℕ) × (wires : List ℕ) × AreLive program j wires × (length wires ≡ count)) (sym old.1) far.reached)
      (λ new. reached_now program (k + 1) after (omega (arith, slice_get_within program.steps k step stands)) new.1 holding)
      takes.from;
}
  where
    sets : (wire : ℕ) → wire ≡ step.out → wire ≡ out
    sets wire same = same ∙ sym is

    fresh : (other : ℕ) → IsHeldBeyond program ends k other → other ≢ out
    fresh other held same = not_set_yet program k k other step formed (omega arith) stands held.0 (same ∙ is)

    within : out < length before.places.items
    within = let inside = (formed.steps k step stands).within in omega (arith, far.whole, is, inside)

    holding : IsHolding (IsLive program (k + 1)) after
    holding = holding_same (λ other. (other ≡ out) ⊎ IsHeldBeyond program ends k other) (IsLive program (k + 1)) after
        (λ wire held. ⊎_elim
        (λ same. subst (IsLive program (k + 1)) (sym (same ∙ is)) (out_live program k step stands))
        (held_live program ends k wire are) held)
        (λ wire live. ⊎_elim (λ same. inl (sets wire same)) (λ held. inr held) (live_next program ends k wire step are stands live))
        (take_holding (IsHeldBeyond program ends k) out before after within fresh takes far.holding)

    keeps : KeepsSlots program k before after
    keeps = step_keeps program k out step before after after formed stands is takes refl refl

-- those that are held in the end are held beyond the step
pub slots_next : (program : Program) (ends : List ℕ) (n : ℕ) (Remains : ℕ → Type 0) (at after : Slots)
    → after.places ≡ at.places → after.count ≡ at.count → ((wire : ℕ) → Remains wire → IsHeldBeyond program ends n wire)
    → ((wire : ℕ) → IsHeldBeyond program ends n wire → Remains wire) → IsHolding Remains after → AreSlotsAt program n at → AreSlotsUpTo program ends n after
slots_next program ends n Remains at after places count there back holding far = record {
  whole = ap (λ p. length p.items) places ∙ far.whole;
  holding = holding_same Remains (IsHeldBeyond program ends n) after there back holding;
  within = λ k wire upto live. subst (λ p. slice_index p.items wire < after.count) (sym places)
      (subst (λ m. slice_index at.places.items wire < m) (sym count) (far.within k wire upto live));
  apart = λ k one other upto live lives same. far.apart k one other upto live lives
      (ap (λ p. slice_index p.items one) (sym places) ∙ same ∙ ap (λ p. slice_index p.items other) places);
  first = λ wire below. ap (λ p. slice_index p.items wire) places ∙ far.first wire below;
  reached = subst (λ m. (k : ℕ) × (wires : List ℕ) × AreLive program k wires × (length wires ≡ m)) (sym count) far.reached;
}

-- a wire is among the operands or not
pub operand_or_not : (operands : Operands) (wire : ℕ) → IsOperand operands wire ⊎ ¬ IsOperand operands wire
operand_or_not None wire = inr (λ never. never)
operand_or_not (One a) wire = ⊎_elim (λ same. inl same) (λ away. inr away) (cases_eq a wire)
operand_or_not (Two a b) wire = ⊎_elim (λ same. inl (inl same))
    (λ away. ⊎_elim (λ same. inl (inr same)) (λ far. inr (λ either. ⊎_elim away far either)) (cases_eq b wire)) (cases_eq a wire)

-- a wire that is live at a step is held beyond it, if that is known of the wire that it sets and of those that it reads
pub remains_held : (program : Program) (ends : List ℕ) (k wire : ℕ) (step : Step) (operands : Operands) → AreEnds program ends
    → slice_get program.steps k ≡ Some step → (Reads program step wire → IsOperand operands wire) → IsLive program (k + 1) wire
    → (wire ≡ step.out → k + 1 < slice_index ends wire) → (IsOperand operands wire → k + 1 < slice_index ends wire)
    → IsHeldBeyond program ends (k + 1) wire
remains_held program ends k wire step operands are stands reads live out read = (
  live,
  ⊎_elim out
      (λ held. ⊎_elim read (λ unread. held_on program ends k wire step are stands held (λ is. unread (reads is))) (operand_or_not operands wire))
      (live_next program ends k wire step are stands live),
)

-- a wire that a step reads is live there
pub read_live : (program : Program) (k wire : ℕ) (step : Step) → slice_get program.steps k ≡ Some step → Reads program step wire → IsSet program k wire
    → IsLive program (k + 1) wire
read_live program k wire step stands reads (inl first) = record {
  from = 0;
  set = inl (refl, first);
  behind = omega arith;
  needed = inr (inl (k + 1, omega arith, (k, step, refl, stands, reads)));
}
read_live program k wire step stands reads (inr (j, other, before, is, sets)) = record {
  from = j + 1;
  set = inr (j, other, refl, is, sets);
  behind = omega (arith, before);
  needed = inr (inl (k + 1, omega arith, (k, step, refl, stands, reads)));
}
