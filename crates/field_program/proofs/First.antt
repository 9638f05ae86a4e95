-- Slots before all steps.
use Rattle.std.proofs.Common.{◌≡◌, ℕ, ◌+◌, ◌<◌, ◌≤◌, ⊎_elim, List, [], length, refl, sym, ◌∙◌, ap, subst, arith}
use Rattle.std.specs.Prelude.{slice_index}
use Rattle.std.specs.List.{range_with_len}
use Rattle.std.proofs.Math.Nat.{eq-or-lt_of_le}
use Rattle.std.proofs.lemmas.List.FromFn.{get_or-range_with_len, length-range_with_len}
use Rattle.zk_model.specs.Program.{Program, IsProgram}
use Rattle.zk_model.specs.Slots.{IsLive}
use Rattle.field_program.specs.Slotting.{IsHolding, EndsWire, AreSlotsAt, AreSlotsUpTo}
use Rattle.field_program.specs.declared.slots.Slots.{Slots}
use Rattle.field_program.proofs.Held.{none_there, holding_same, end_holding}
use Rattle.field_program.proofs.Live.{first_live, live_first}
use Rattle.field_program.proofs.Next.{reached_now, slots_next}

-- each has the slot of its number
pub slots_first : (program : Program) (slots : Slots) → IsProgram program → slots.places.items ≡ range_with_len 0 program.wires → slots.free.items ≡ []
    → slots.count ≡ program.public + program.inputs → AreSlotsAt program 0 slots
slots_first program slots formed places free count = record {
  whole = ap length places ∙ length-range_with_len 0 program.wires;
  holding = holding;
  within = λ k wire upto live. (holding.placed wire (at_first k wire upto live)).0;
  apart = λ k one other upto live lives same. holding.apart one other (at_first k one upto live) (at_first k other upto lives) same;
  first = at;
  reached = reached_now program 0 slots (omega arith) free holding;
}
  where
    at : (wire : ℕ) → wire < program.public + program.inputs → slice_index slots.places.items wire ≡ wire
    at wire below = ap (λ l. slice_index l wire) places ∙ get_or-range_with_len 0 program.wires wire 0 (omega (arith, below, formed.first)) ∙ omega arith

    at_first : (k wire : ℕ) → k ≤ 0 → IsLive program k wire → IsLive program 0 wire
    at_first k wire upto live = let none : k ≡ 0 = omega (arith, upto) in subst (λ n. IsLive program n wire) none live

    holding : IsHolding (IsLive program 0) slots
    holding = record {
      owner = λ slot. slot;
      owns = λ slot below not. let inside : slot < program.public + program.inputs = omega (arith, below, count) in (first_live program slot inside, at slot inside);
      placed = λ wire live. (
        subst (λ n. n < slots.count) (sym (at wire (live_first program wire live))) (let below = live_first program wire live in omega (arith, below, count)),
        none_there slots.free.items (slice_index slots.places.items wire) free,
      );
      apart = λ one other live lives same. sym (at one (live_first program one live)) ∙ same ∙ at other (live_first program other lives);
      free_once = λ i j d before within. let empty : length slots.free.items ≡ 0 = ap length free in absurd (omega (arith, within, empty));
      free_within = λ k d within. let empty : length slots.free.items ≡ 0 = ap length free in absurd (omega (arith, within, empty));
    }

-- ---- some have given back theirs

-- those of the first wires below this one that nothing needs have given back their slots
pub record AreEnding (program : Program) (ends : List ℕ) (n : ℕ) (first now : Slots) : Type 0 where
  pub places : now.places ≡ first.places
  pub count : now.count ≡ first.count
  pub holding : IsHolding (λ wire. IsLive program 0 wire × (wire < n → 0 < slice_index ends wire)) now

pub none_ended : (program : Program) (ends : List ℕ) (first : Slots) → AreSlotsAt program 0 first → AreEnding program ends 0 first first
none_ended program ends first is = record {
  places = refl;
  count = refl;
  holding = holding_same (IsLive program 0) (λ wire. IsLive program 0 wire × (wire < 0 → 0 < slice_index ends wire)) first
      (λ wire live. (live, λ below. absurd (omega (arith, below)))) (λ wire both. both.0) is.holding;
}

pub one_ended : (program : Program) (ends : List ℕ) (n : ℕ) (first before now : Slots) → n < program.public + program.inputs → EndsWire 0 n ends before now
    → AreEnding program ends n first before → AreEnding program ends (n + 1) first now
one_ended program ends n first before now below ended far = record {
  places = ended.places ∙ far.places;
  count = ended.count ∙ far.count;
  holding = holding_same (λ wire. (IsLive program 0 wire × (wire < n → 0 < slice_index ends wire)) × (wire ≡ n → 0 < slice_index ends n))
      (λ wire. IsLive program 0 wire × (wire < n + 1 → 0 < slice_index ends wire)) now
      (λ wire both. (
        both.0.0,
        λ less. let upto : wire ≤ n = omega (arith, less) in
            ⊎_elim (λ same. subst (λ w. 0 < slice_index ends w) (sym same) (both.1 same)) (both.0.1) (eq-or-lt_of_le upto),
      ))
      (λ wire both. ((both.0, λ less. both.1 (omega (arith, less))), λ same. subst (λ w. 0 < slice_index ends w) same (both.1 (omega (arith, same)))))
      (end_holding (λ wire. IsLive program 0 wire × (wire < n → 0 < slice_index ends wire)) 0 n ends before now
      (first_live program n below, λ less. absurd (omega (arith, less))) ended far.holding);
}

pub all_ended : (program : Program) (ends : List ℕ) (n : ℕ) (first now : Slots) → program.public + program.inputs ≤ n → AreSlotsAt program 0 first
    → AreEnding program ends n first now → AreSlotsUpTo program ends 0 now
all_ended program ends n first now all is far =
    slots_next program ends 0 (λ wire. IsLive program 0 wire × (wire < n → 0 < slice_index ends wire)) first now far.places far.count
    (λ wire both. (both.0, both.1 (let below = live_first program wire both.0 in omega (arith, below, all)))) (λ wire held. (held.0, λ less. held.1)) far.holding is
