-- Rows of arithmetic gates as the rules that they are.
use Rattle.std.specs.Prelude.{◌≡◌, ℕ, ◌+◌, ◌<◌, List, [], ◌∷◌, ◌++◌, flat_map, length, map, slice_index}
use Rattle.zk_model.specs.Field.{IsElement}
use Rattle.zk_model.specs.declared.ArithRow.{ArithRow}
use Rattle.zk_model.specs.declared.ArithRow.TheVariants.{Add, Mul, Const, Assert}
use Rattle.packed_gates.specs.declared.packed.Factors.{Factors}
use Rattle.packed_gates.specs.declared.packed.PackedStep.{PackedStep}
use Rattle.packed_gates.specs.declared.packed.PackedStep.TheVariants as rule
use Rattle.packed_gates.specs.declared.packed.Tables.{Tables}
use Rattle.packed_gates.specs.PackedSteps.{factors_of}

-- ---- what a row adds to the tables

-- the factors of a MUL
abbrev pub row_factors : ArithRow → List Factors
row_factors (Add a b out) = []
row_factors (Mul a b out) = record { a = a; b = b } ∷ []
row_factors (Const value out) = []
row_factors (Assert a) = []

-- the wires that an ADD adds
abbrev pub row_sums : ArithRow → List Factors
row_sums (Add a b out) = record { a = a; b = b } ∷ []
row_sums (Mul a b out) = []
row_sums (Const value out) = []
row_sums (Assert a) = []

-- the constant of a CONST
abbrev pub row_constants : ArithRow → List ℕ
row_constants (Add a b out) = []
row_constants (Mul a b out) = []
row_constants (Const value out) = value ∷ []
row_constants (Assert a) = []

-- ---- rules

-- how many products, sums and constants come before a row
pub record Before : Type 0 where
  pub products : ℕ
  pub sums : ℕ
  pub constants : ℕ

-- and before the row after it
abbrev pub with_row : Before → ArithRow → Before
with_row before row = record {
  products = before.products + length (row_factors row);
  sums = before.sums + length (row_sums row);
  constants = before.constants + length (row_constants row);
}

-- the rule of a row
abbrev pub row_rule : Before → ArithRow → PackedStep
row_rule before (Add a b out) = rule.Sum out before.sums
row_rule before (Mul a b out) = rule.Mul out before.products
row_rule before (Const value out) = rule.Const out before.constants
row_rule before (Assert a) = rule.Assert a

-- the rules of rows
abbrev pub row_rules : Before → List ArithRow → List PackedStep
row_rules before [] = []
row_rules before (row ∷ rows) = row_rule before row ∷ row_rules (with_row before row) rows

-- the rules of rows, and the tables that they name
pub record AreRowsPacked (rows : List ArithRow) (rules : List PackedStep) (tables : Tables) : Type 0 where
  pub rules_are : rules ≡ row_rules (record { products = 0; sums = 0; constants = 0 }) rows
  pub factors_are : tables.factors.items ≡ flat_map row_factors rows
  pub sums_are : tables.sums.items ≡ flat_map row_sums rows
  pub constants_are : tables.constants.items ≡ flat_map row_constants rows

-- ---- read back

-- the lists of tables
pub record Lists : Type 0 where
  pub factors : List Factors
  pub sums : List Factors
  pub constants : List ℕ

abbrev pub lists_of : Tables → Lists
lists_of tables = record { factors = tables.factors.items; sums = tables.sums.items; constants = tables.constants.items }

-- how long they are: what comes before the next row
abbrev pub before_next : Lists → Before
before_next lists = record { products = length lists.factors; sums = length lists.sums; constants = length lists.constants }

-- the lists with what a row adds
abbrev pub lists_with : Lists → ArithRow → Lists
lists_with lists row = record {
  factors = lists.factors ++ row_factors row;
  sums = lists.sums ++ row_sums row;
  constants = lists.constants ++ row_constants row;
}

-- a constant is an element
abbrev pub HasElement : ArithRow → Type 0
HasElement (Add a b out) = Unit {0}
HasElement (Mul a b out) = Unit {0}
HasElement (Const value out) = IsElement value
HasElement (Assert a) = Unit {0}

-- a rule is one of a row, and what it names is in the lists
abbrev pub IsRowRule : Lists → PackedStep → Type 0
IsRowRule lists (rule.Bit out value) = ⊥
IsRowRule lists (rule.Copy out a) = ⊥
IsRowRule lists (rule.Not out a) = ⊥
IsRowRule lists (rule.Mul out product) = product < length lists.factors
IsRowRule lists (rule.XorFrom out product) = ⊥
IsRowRule lists (rule.Sum out sum) = sum < length lists.sums
IsRowRule lists (rule.Const out constant) = constant < length lists.constants
IsRowRule lists (rule.Assert a) = Unit {0}

-- the row that a rule says; a rule that is of no row says one that nothing reads
abbrev pub row_of : Lists → PackedStep → ArithRow
row_of lists (rule.Bit out value) = Assert out
row_of lists (rule.Copy out a) = Assert out
row_of lists (rule.Not out a) = Assert out
row_of lists (rule.Mul out product) = Mul (factors_of lists.factors product).a (factors_of lists.factors product).b out
row_of lists (rule.XorFrom out product) = Assert out
row_of lists (rule.Sum out sum) = Add (factors_of lists.sums sum).a (factors_of lists.sums sum).b out
row_of lists (rule.Const out constant) = Const (slice_index lists.constants constant) out
row_of lists (rule.Assert a) = Assert a

abbrev pub rows_of : Lists → List PackedStep → List ArithRow
rows_of lists rules = map (row_of lists) rules
