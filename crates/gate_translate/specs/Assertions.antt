-- Rules of arithmetic gates: those of steps, and assertions.
use Rattle.std.specs.Prelude.{◌≡◌, ℕ, ◌+◌, List, [], ◌∷◌, flat_map, length}
use Rattle.packed_gates.specs.declared.packed.PackedStep.{PackedStep}
use Rattle.packed_gates.specs.declared.packed.PackedStep.TheVariants.{Bit, Copy, Not, Mul, XorFrom, Sum, Const, Assert}
use Rattle.packed_gates.specs.declared.packed.Tables.{Tables}

-- a rule, if it is one of a step
abbrev pub step_rule : PackedStep → List PackedStep
step_rule (Bit out value) = Bit out value ∷ []
step_rule (Copy out a) = Copy out a ∷ []
step_rule (Not out a) = Not out a ∷ []
step_rule (Mul out product) = Mul out product ∷ []
step_rule (XorFrom out product) = XorFrom out product ∷ []
step_rule (Sum out sum) = Sum out sum ∷ []
step_rule (Const out constant) = Const out constant ∷ []
step_rule (Assert a) = []

-- the wire that a rule asserts to be 0, if it asserts one
abbrev pub rule_asserted : PackedStep → List ℕ
rule_asserted (Bit out value) = []
rule_asserted (Copy out a) = []
rule_asserted (Not out a) = []
rule_asserted (Mul out product) = []
rule_asserted (XorFrom out product) = []
rule_asserted (Sum out sum) = []
rule_asserted (Const out constant) = []
rule_asserted (Assert a) = a ∷ []

-- the rules of steps among these
abbrev pub steps_among : List PackedStep → List PackedStep
steps_among rules = flat_map step_rule rules

-- the wires that these assert, in order
abbrev pub asserted_among : List PackedStep → List ℕ
asserted_among rules = flat_map rule_asserted rules

-- the rule of each step has an entry of its own in the tables, and an assertion has none
abbrev pub AreTabled : List PackedStep → Tables → Type 0
AreTabled rules tables =
    length (steps_among rules) ≡ length tables.factors.items + length tables.sums.items + length tables.constants.items
