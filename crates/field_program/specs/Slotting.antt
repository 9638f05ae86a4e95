-- Slots while they are given to wires and given back.
use Rattle.std.specs.Prelude.{◌≡◌, ◌≢◌, ℕ, ◌+◌, ◌<◌, ◌≤◌, ◌⊎◌, List, [], ◌∷◌, ◌++◌, length, slice_get, slice_index, slice_set, Some, Contains, All, AllPairs}
use Rattle.zk_model.specs.Program as model
use Rattle.zk_model.specs.Program.{Program}
use Rattle.field_program.specs.declared.step.Step.{Step}
use Rattle.field_program.specs.declared.step.Step.TheVariants as step
use Rattle.zk_model.specs.Slots.{IsReadAt, IsLive, IsNeededAt, AreLive, AreSlotsOf}
use Rattle.field_program.specs.Plans.{named}
use Rattle.field_program.specs.declared.plan.StepSlots.{StepSlots}
use Rattle.field_program.specs.declared.slots.Followed.{Followed}
use Rattle.field_program.specs.declared.slots.Slots.{Slots}
use Rattle.field_program.specs.declared.slots.Operands.{Operands}
use Rattle.field_program.specs.declared.slots.Operands.TheVariants.{None, One, Two}

-- the wires that a step reads
abbrev pub operands_of : Step → Operands
operands_of (step.Const out value) = None
operands_of (step.Copy out a) = One a
operands_of (step.Not out a) = One a
operands_of (step.Add out a b) = Two a b
operands_of (step.Mul out a b product) = Two a b
operands_of (step.XorFrom out a b product) = Two a b

-- a wire is one of them
abbrev pub IsOperand : Operands → ℕ → Type 0
IsOperand None wire = ⊥
IsOperand (One a) wire = a ≡ wire
IsOperand (Two a b) wire = (a ≡ wire) ⊎ (b ≡ wire)

-- ---- where wires end

-- up to step n: for each wire the last step that reads it, and 0 where none does
pub record AreLastReads (program : Program) (n : ℕ) (last : List ℕ) : Type 0 where
  pub whole : length last ≡ program.wires
  pub bounded : (wire : ℕ) → slice_index last wire ≤ n
  pub reads : (k wire : ℕ) → k ≤ n → IsReadAt program k wire → k ≤ slice_index last wire
  pub caused : (wire : ℕ) → slice_index last wire ≢ 0 → IsReadAt program (slice_index last wire) wire

-- operands have this number, and other wires what they had
pub record NotesOperands (n : ℕ) (operands : Operands) (before after : List ℕ) : Type 0 where
  pub whole : length after ≡ length before
  pub noted : (wire : ℕ) → IsOperand operands wire → slice_index after wire ≡ n
  pub kept : (wire : ℕ) → ¬ IsOperand operands wire → slice_index after wire ≡ slice_index before wire

-- for each wire the last number at which it is needed: for those that are opened one behind all steps
pub record AreEnds (program : Program) (ends : List ℕ) : Type 0 where
  pub whole : length ends ≡ program.wires
  pub needed : (n wire : ℕ) → n ≤ length program.steps → IsNeededAt program n wire → n ≤ slice_index ends wire
  pub opened : (wire : ℕ) → Contains program.opened wire → slice_index ends wire ≡ length program.steps + 1
  pub caused : (n wire : ℕ) → n ≢ 0 → n ≤ slice_index ends wire → IsNeededAt program n wire

-- ---- slots that are held

-- Each wire that is held has a slot, no two the same one; the slots that no wire holds are free, once each.
pub record IsHolding (Held : ℕ → Type 0) (slots : Slots) : Type 0 where
  pub owner : ℕ → ℕ
  pub owns : (slot : ℕ) → slot < slots.count → ¬ Contains slots.free.items slot
      → Held (owner slot) × (slice_index slots.places.items (owner slot) ≡ slot)
  pub placed : (wire : ℕ) → Held wire
      → (slice_index slots.places.items wire < slots.count) × ¬ Contains slots.free.items (slice_index slots.places.items wire)
  pub apart : (one other : ℕ) → Held one → Held other
      → slice_index slots.places.items one ≡ slice_index slots.places.items other → one ≡ other
  pub free_once : AllPairs (λ one other. one ≢ other) slots.free.items
  pub free_within : All (λ slot. slot < slots.count) slots.free.items

-- a wire takes a slot: one that was free, or else a new one
pub record TakesSlot (wire : ℕ) (before after : Slots) : Type 0 where
  pub slot : ℕ
  pub places : after.places.items ≡ slice_set before.places.items wire slot
  pub from : ((before.free.items ≡ after.free.items ++ slot ∷ []) × (after.count ≡ before.count))
      ⊎ ((before.free.items ≡ []) × (after.free.items ≡ []) × (slot ≡ before.count) × (after.count ≡ before.count + 1))

-- a wire gives its slot back where it is not needed beyond a number
pub record EndsWire (n wire : ℕ) (ends : List ℕ) (before after : Slots) : Type 0 where
  pub places : after.places ≡ before.places
  pub count : after.count ≡ before.count
  pub ended : slice_index ends wire ≤ n → after.free.items ≡ before.free.items ++ slice_index before.places.items wire ∷ []
  pub kept : n < slice_index ends wire → after.free ≡ before.free

-- the wires of operands are there
abbrev pub AreOperandsWithin : ℕ → Operands → Type 0
AreOperandsWithin wires None = Unit {0}
AreOperandsWithin wires (One a) = a < wires
AreOperandsWithin wires (Two a b) = (a < wires) × (b < wires)

-- each wire of operands gives its slot back where it is not needed beyond a number
abbrev pub EndsOperands : ℕ → Operands → List ℕ → Slots → Slots → Type 0
EndsOperands n None ends before after = after ≡ before
EndsOperands n (One a) ends before after = EndsWire n a ends before after
EndsOperands n (Two a b) ends before after =
    (mid : Slots) × EndsWire n a ends before mid × (((a ≡ b) × (after ≡ mid)) ⊎ ((a ≢ b) × EndsWire n b ends mid after))

-- ---- slots up to step n

-- a wire that is live at a number is held beyond it
abbrev pub IsHeldBeyond : Program → List ℕ → ℕ → ℕ → Type 0
IsHeldBeyond program ends n wire = IsLive program n wire × (n < slice_index ends wire)

pub record AreSlotsUpTo (program : Program) (ends : List ℕ) (n : ℕ) (slots : Slots) : Type 0 where
  pub whole : length slots.places.items ≡ program.wires
  pub holding : IsHolding (IsHeldBeyond program ends n) slots
  pub within : (k wire : ℕ) → k ≤ n → IsLive program k wire → slice_index slots.places.items wire < slots.count
  pub apart : (k one other : ℕ) → k ≤ n → IsLive program k one → IsLive program k other
      → slice_index slots.places.items one ≡ slice_index slots.places.items other → one ≡ other
  pub first : (wire : ℕ) → wire < program.public + program.inputs → slice_index slots.places.items wire ≡ wire
  pub reached : (k : ℕ) × (wires : List ℕ) × AreLive program k wires × (length wires ≡ slots.count)

-- while step n is taken: a slot for each wire that is live there
pub record AreSlotsAt (program : Program) (n : ℕ) (slots : Slots) : Type 0 where
  pub whole : length slots.places.items ≡ program.wires
  pub holding : IsHolding (IsLive program n) slots
  pub within : (k wire : ℕ) → k ≤ n → IsLive program k wire → slice_index slots.places.items wire < slots.count
  pub apart : (k one other : ℕ) → k ≤ n → IsLive program k one → IsLive program k other
      → slice_index slots.places.items one ≡ slice_index slots.places.items other → one ≡ other
  pub first : (wire : ℕ) → wire < program.public + program.inputs → slice_index slots.places.items wire ≡ wire
  pub reached : (k : ℕ) × (wires : List ℕ) × AreLive program k wires × (length wires ≡ slots.count)

-- ---- the slots of steps

-- the slots of a step that sets this wire, where wires have these places: what it does not read has the slot of the wire that it sets
abbrev pub slots_with : List ℕ → ℕ → Operands → StepSlots
slots_with places out None = record { out = slice_index places out; a = slice_index places out; b = slice_index places out }
slots_with places out (One a) = record { out = slice_index places out; a = slice_index places a; b = slice_index places out }
slots_with places out (Two a b) = record { out = slice_index places out; a = slice_index places a; b = slice_index places b }

-- while step k is taken: there are no fewer slots, and the wires that were live keep theirs
pub record KeepsSlots (program : Program) (k : ℕ) (before after : Slots) : Type 0 where
  pub grows : before.count ≤ after.count
  pub kept : (n wire : ℕ) → n ≤ k → IsLive program n wire → slice_index after.places.items wire ≡ slice_index before.places.items wire

-- step k has these slots
pub record IsNoted (program : Program) (k : ℕ) (slots : Slots) (noted : StepSlots) : Type 0 where
  pub are : (step : model.Step) → slice_get program.steps k ≡ Some step → AreSlotsOf program slots.places.items step (named noted)
  pub within : (noted.out < slots.count) × (noted.a < slots.count) × (noted.b < slots.count)

-- the first n steps have these
pub record AreNoted (program : Program) (n : ℕ) (slots : Slots) (noted : List StepSlots) : Type 0 where
  pub one_each : length noted ≡ n
  pub each : (k : ℕ) (step : StepSlots) → slice_get noted k ≡ Some step → IsNoted program k slots step

-- all steps have been followed
pub record IsFollowed (program : Program) (ends : List ℕ) (followed : Followed) : Type 0 where
  pub slots : AreSlotsUpTo program ends (length program.steps) followed.slots
  pub noted : AreNoted program (length program.steps) followed.slots followed.steps.items
