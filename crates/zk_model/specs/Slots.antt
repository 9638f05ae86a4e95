-- Which wires a walk along a program's steps has to hold at each step.
use Rattle.std.specs.Prelude.{◌≡◌, ℕ, ◌+◌, ◌<◌, ◌≤◌, ◌≢◌, ◌⊎◌, List, [], ◌∷◌, length, map, slice_index, slice_get, Some, All, AllPairs, Contains}
use Rattle.zk_model.specs.Program.{Term, Step, Program}
use Rattle.zk_model.specs.declared.Product.{Product}

-- ---- from where to where a wire is held: steps are numbered from 1

-- the public wires and the inputs are set at 0, and others at the step that sets them
abbrev pub IsSetAt : Program → ℕ → ℕ → Type 0
IsSetAt program n wire =
    ((n ≡ 0) × (wire < program.public + program.inputs))
    ⊎ ((k : ℕ) × (step : Step) × (n ≡ k + 1) × (slice_get program.steps k ≡ Some step) × (step.out ≡ wire))

-- a step reads the wires of its terms, and both factors of a product whose value it takes
abbrev pub Reads : Program → Step → ℕ → Type 0
Reads program step wire =
    ((term : Term) × Contains step.wires term × (term.place ≡ wire))
    ⊎ ((term : Term) × (product : Product) × Contains step.given term × Contains program.products product
    × (product.c ≡ term.place) × ((product.a ≡ wire) ⊎ (product.b ≡ wire)))

-- the step of this number reads the wire
abbrev pub IsReadAt : Program → ℕ → ℕ → Type 0
IsReadAt program n wire =
    (k : ℕ) × (step : Step) × (n ≡ k + 1) × (slice_get program.steps k ≡ Some step) × Reads program step wire

-- a wire is needed at a number where a step of this number or a later one reads it, and up to the end where it is opened
abbrev pub IsNeededAt : Program → ℕ → ℕ → Type 0
IsNeededAt program n wire = ((later : ℕ) × (n ≤ later) × IsReadAt program later wire) ⊎ Contains program.opened wire

-- A wire is live from the number at which it is set up to the last at which it is needed. One that nothing needs is live only where
-- it is set.
pub record IsLive (program : Program) (n wire : ℕ) : Type 0 where
  pub from : ℕ
  pub set : IsSetAt program from wire
  pub behind : from ≤ n
  pub needed : (from ≡ n) ⊎ IsNeededAt program n wire

-- these are wires, none of them twice, that are live at one number
pub record AreLive (program : Program) (n : ℕ) (wires : List ℕ) : Type 0 where
  pub within : n ≤ length program.steps
  pub distinct : AllPairs (λ one other. one ≢ other) wires
  pub live : All (IsLive program n) wires

-- the greatest number of wires that are live at one number
pub record IsSlotCount (program : Program) (count : ℕ) : Type 0 where
  pub most : (n : ℕ) (wires : List ℕ) → AreLive program n wires → length wires ≤ count
  pub reached : (n : ℕ) × (wires : List ℕ) × AreLive program n wires × (length wires ≡ count)

-- ---- plans

-- the slots of a step: of the wire that it sets, and of those that it reads
pub record StepSlots : Type 0 where
  pub out : ℕ
  pub a : ℕ
  pub b : ℕ

-- how many slots there are, those of the steps, and those of the opened wires
pub record Plan : Type 0 where
  pub slots : ℕ
  pub steps : List StepSlots
  pub opened : List ℕ

-- Where each wire has a place, a step has those of the wire that it sets, and of the one wire or both wires of its equation, or of both
-- factors of the product whose value it takes.
pub record AreSlotsOf (program : Program) (places : List ℕ) (step : Step) (slots : StepSlots) : Type 0 where
  pub out : slots.out ≡ slice_index places step.out
  pub one : (term : Term) → step.wires ≡ term ∷ [] → slots.a ≡ slice_index places term.place
  pub both : (left right : Term) → step.wires ≡ left ∷ right ∷ []
      → (slots.a ≡ slice_index places left.place) × (slots.b ≡ slice_index places right.place)
  pub factors : (term : Term) (product : Product) → Contains step.given term → Contains program.products product → product.c ≡ term.place
      → (slots.a ≡ slice_index places product.a) × (slots.b ≡ slice_index places product.b)

-- Of a program: there is a place for each wire, its slot while it is live, such that wires that are live at one number have slots of
-- their own. The first wires have the slots of their own numbers; steps and opened wires have those that the plan says.
pub record IsPlanOf (program : Program) (plan : Plan) : Type 0 where
  pub places : List ℕ
  pub whole : length places ≡ program.wires
  pub within : (n wire : ℕ) → n ≤ length program.steps → IsLive program n wire → slice_index places wire < plan.slots
  pub apart : (n one other : ℕ) → n ≤ length program.steps → IsLive program n one → IsLive program n other
      → slice_index places one ≡ slice_index places other → one ≡ other
  pub first : (wire : ℕ) → wire < program.public + program.inputs → slice_index places wire ≡ wire
  pub one_each : length plan.steps ≡ length program.steps
  pub steps : (k : ℕ) (step : Step) (slots : StepSlots) → slice_get program.steps k ≡ Some step → slice_get plan.steps k ≡ Some slots
      → AreSlotsOf program places step slots
  pub inside : All (λ slots. (slots.out < plan.slots) × (slots.a < plan.slots) × (slots.b < plan.slots)) plan.steps
  pub opened : plan.opened ≡ map (slice_index places) program.opened
