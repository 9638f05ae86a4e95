-- Which wires are live at one step, and which at the next.
use Rattle.std.proofs.Common.{◌≡◌, ◌≢◌, ℕ, ◌+◌, ◌<◌, ◌≤◌, ◌⊎◌, ⊎_elim, inl, inr, List, length, refl, sym, ◌∙◌, ap, subst, arith}
use Rattle.std.specs.Prelude.{Option, Some, slice_get, slice_index}
use Rattle.std.proofs.Math.Nat.{eq-or-lt_of_le}
use Rattle.std.proofs.lemmas.Option.{slice_get_within}
use Rattle.zk_model.proofs.SetWires.{set_below}
use Rattle.zk_model.specs.Program.{Step, Program, IsProgram, IsSet}
use Rattle.zk_model.specs.Slots.{IsSetAt, Reads, IsReadAt, IsNeededAt, IsLive}
use Rattle.field_program.specs.Slotting.{AreEnds, IsHeldBeyond}

-- ---- steps and their numbers

-- a wire that is set by a number is set before the steps behind it
pub set_by : (program : Program) (from n wire : ℕ) → from ≤ n → IsSetAt program from wire → IsSet program n wire
set_by program from n wire behind (inl at) = inl at.1
set_by program from n wire behind (inr (k, step, is, stands, sets)) = inr (k, step, omega (arith, is, behind), stands, sets)

-- a wire that is live at a number is not set by a later step
pub not_set_yet : (program : Program) (k n wire : ℕ) (step : Step) → IsProgram program → k ≤ n → slice_get program.steps n ≡ Some step
    → IsLive program k wire → wire ≢ step.out
not_set_yet program k n wire step formed before stands live same =
    let behind = live.behind in
    (formed.steps n step stands).once (subst (IsSet program n) same (set_by program live.from n wire (omega (arith, behind, before)) live.set))

-- wires that are live are there
pub live_within : (program : Program) (n wire : ℕ) → IsProgram program → IsLive program n wire → wire < program.wires
live_within program n wire formed live =
    let behind = live.behind in set_below program n wire formed (set_by program live.from n wire behind live.set)

pub some_same : {X : Type 0} (a b : X) (o : Option X) → o ≡ Some a → o ≡ Some b → a ≡ b
some_same a b o is same = ap (λ q. some_of a q) (sym is ∙ same)
  where
    some_of : {X : Type 0} → X → Option X → X
    some_of other (Some x) = x
    some_of other _ = other

-- ---- from one number to the next

-- what is needed at a number is needed at an earlier one
pub needed_before : (program : Program) (n later wire : ℕ) → n ≤ later → IsNeededAt program later wire → IsNeededAt program n wire
needed_before program n later wire before (inl (at, behind, reads)) = inl (at, omega (arith, before, behind), reads)
needed_before program n later wire before (inr opened) = inr opened

-- a wire that is live at the next number is the one that is set there, or is held beyond this one
pub live_next : (program : Program) (ends : List ℕ) (k wire : ℕ) (step : Step) → AreEnds program ends → slice_get program.steps k ≡ Some step
    → IsLive program (k + 1) wire → (wire ≡ step.out) ⊎ IsHeldBeyond program ends k wire
live_next program ends k wire step are stands live = ⊎_elim here before (eq-or-lt_of_le live.behind)
  where
    within : k < length program.steps
    within = slice_get_within program.steps k step stands

    here : live.from ≡ k + 1 → (wire ≡ step.out) ⊎ IsHeldBeyond program ends k wire
    here is = set_here (subst (λ n. IsSetAt program n wire) is live.set)
      where
        set_here : IsSetAt program (k + 1) wire → (wire ≡ step.out) ⊎ IsHeldBeyond program ends k wire
        set_here (inl at) = let none = at.0 in absurd (omega (arith, none))
        set_here (inr (j, other, at, is_other, sets)) =
            let same : j ≡ k = omega (arith, at) in
            inl (sym sets ∙ ap (λ (s : Step). s.out) (some_same other step (slice_get program.steps k) (ap (slice_get program.steps) (sym same) ∙ is_other) stands))

    before : live.from < k + 1 → (wire ≡ step.out) ⊎ IsHeldBeyond program ends k wire
    before less = ⊎_elim (λ same. absurd (omega (arith, less, same)))
        (λ needed. let beyond = are.needed (k + 1) wire (omega (arith, within)) needed in
        inr (
          record {
            from = live.from;
            set = live.set;
            behind = omega (arith, less);
            needed = inr (needed_before program k (k + 1) wire (omega arith) needed);
          },
          omega (arith, beyond),
        ))
        live.needed

-- and both are live there
pub out_live : (program : Program) (k : ℕ) (step : Step) → slice_get program.steps k ≡ Some step → IsLive program (k + 1) step.out
out_live program k step stands = record {
  from = k + 1;
  set = inr (k, step, refl, stands, refl);
  behind = omega arith;
  needed = inl refl;
}

pub held_live : (program : Program) (ends : List ℕ) (k wire : ℕ) → AreEnds program ends → IsHeldBeyond program ends k wire → IsLive program (k + 1) wire
held_live program ends k wire are held =
    let behind = held.0.behind in
    let beyond = held.1 in
    record {
      from = held.0.from;
      set = held.0.set;
      behind = omega (arith, behind);
      needed = inr (are.caused (k + 1) wire (λ none. absurd (omega (arith, none))) (omega (arith, beyond)));
    }

-- a wire that is held up to a step that does not read it is held beyond the step
pub held_on : (program : Program) (ends : List ℕ) (k wire : ℕ) (step : Step) → AreEnds program ends → slice_get program.steps k ≡ Some step
    → IsHeldBeyond program ends k wire → ¬ Reads program step wire → k + 1 < slice_index ends wire
held_on program ends k wire step are stands held unread = ⊎_elim at_end (λ less. less) (eq-or-lt_of_le beyond)
  where
    within : k < length program.steps
    within = slice_get_within program.steps k step stands

    beyond : k + 1 ≤ slice_index ends wire
    beyond = let more = held.1 in omega (arith, more)

    at_end : k + 1 ≡ slice_index ends wire → k + 1 < slice_index ends wire
    at_end is = by (are.caused (k + 1) wire (λ none. absurd (omega (arith, none))) beyond)
      where
        by : IsNeededAt program (k + 1) wire → k + 1 < slice_index ends wire
        by (inr opened) = let end = are.opened wire opened in omega (arith, end, within)
        by (inl (later, behind, read)) = absurd (unread (reads later behind read))
          where
            reads : (later : ℕ) → k + 1 ≤ later → IsReadAt program later wire → Reads program step wire
            reads later behind (j, other, at, stands_other, reads_other) =
                let inside = slice_get_within program.steps j other stands_other in
                let last = are.needed later wire (omega (arith, at, inside)) (inl (later, omega arith, (j, other, at, stands_other, reads_other))) in
                let same : j ≡ k = omega (arith, at, behind, last, is) in
                subst (λ s. Reads program s wire)
                (some_same other step (slice_get program.steps k) (ap (slice_get program.steps) (sym same) ∙ stands_other) stands) reads_other

-- ---- before all steps

-- the first wires are live before all steps, and no others
pub first_live : (program : Program) (wire : ℕ) → wire < program.public + program.inputs → IsLive program 0 wire
first_live program wire below = record { from = 0; set = inl (refl, below); behind = omega arith; needed = inl refl }

pub live_first : (program : Program) (wire : ℕ) → IsLive program 0 wire → wire < program.public + program.inputs
live_first program wire live = by (subst (λ n. IsSetAt program n wire) none live.set)
  where
    none : live.from ≡ 0
    none = let behind = live.behind in omega (arith, behind)

    by : IsSetAt program 0 wire → wire < program.public + program.inputs
    by (inl at) = at.1
    by (inr (k, step, is, stands, sets)) = absurd (omega (arith, is))
