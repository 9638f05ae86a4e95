-- Rows that are packed, and read back.
use Rattle.std.proofs.Common.{◌≡◌, ℕ, ◌<◌, ◌≤◌, List, [], ◌∷◌, ◌++◌, length, flat_map, get_or, refl, sym, ap, ◌∙◌, subst, arith, append_assoc, append-nil, length-append}
use Rattle.std.specs.Prelude.{All, Some, slice_get, slice_index}
use Rattle.std.proofs.Math.Seq.{get_or-append_seam}
use Rattle.std.proofs.lemmas.List.{length-map, get_or-map}
use Rattle.std.proofs.lemmas.List.Concat.{flat_map-append}
use Rattle.std.proofs.lemmas.List.Elements.{All-nil, All-cons}
use Rattle.std.proofs.lemmas.Option.{slice_get-get_or}
use Rattle.zk_model.specs.declared.ArithRow.{ArithRow}
use Rattle.zk_model.specs.declared.ArithRow.TheVariants.{Add, Mul, Const, Assert}
use Rattle.packed_gates.specs.PackedRows.{AreRowsPacked, IsRowRule, Lists, before_next, lists_of, lists_with, row_constants, row_factors, row_of, row_rule, row_rules, row_sums, rows_of, with_row}
use Rattle.packed_gates.specs.declared.packed.PackedStep.{PackedStep}
use Rattle.packed_gates.specs.declared.packed.Tables.{Tables}
use Rattle.packed_gates.proofs.Packing.{factors_behind}

-- ---- the lists of rows

-- with what these rows add
abbrev pub lists_after : Lists → List ArithRow → Lists
lists_after lists rows = record {
  factors = lists.factors ++ flat_map row_factors rows;
  sums = lists.sums ++ flat_map row_sums rows;
  constants = lists.constants ++ flat_map row_constants rows;
}

abbrev pub no_lists : Lists
no_lists = record { factors = []; sums = []; constants = [] }

-- what a row adds moves from the front of the others to the end of those before
pub one_over : (lists : Lists) (row : ArithRow) (rows : List ArithRow) → lists_after (lists_with lists row) rows ≡ lists_after lists (row ∷ rows)
one_over lists row rows = λ i. record {
  factors = append_assoc lists.factors (row_factors row) (flat_map row_factors rows) i;
  sums = append_assoc lists.sums (row_sums row) (flat_map row_sums rows) i;
  constants = append_assoc lists.constants (row_constants row) (flat_map row_constants rows) i;
}

-- what comes before the row after it
pub before_more : (lists : Lists) (row : ArithRow) → before_next (lists_with lists row) ≡ with_row (before_next lists) row
before_more lists row = λ i. record {
  products = length-append lists.factors (row_factors row) i;
  sums = length-append lists.sums (row_sums row) i;
  constants = length-append lists.constants (row_constants row) i;
}

-- one row more
pub after_push : (lists : Lists) (rows : List ArithRow) (row : ArithRow) → lists_with (lists_after lists rows) row ≡ lists_after lists (rows ++ row ∷ [])
after_push lists rows row = λ i. record {
  factors = pushed row_factors lists.factors i;
  sums = pushed row_sums lists.sums i;
  constants = pushed row_constants lists.constants i;
}
  where
    pushed : {A : Type 0} (of : ArithRow → List A) (before : List A) → before ++ flat_map of rows ++ of row ≡ before ++ flat_map of (rows ++ row ∷ [])
    pushed of before =
        append_assoc before (flat_map of rows) (of row)
        ∙ ap (λ l. before ++ l) (ap (λ l. flat_map of rows ++ l) (sym (append-nil (of row))) ∙ sym (flat_map-append of rows (row ∷ [])))

-- ---- read back

-- the constant behind others
constant_behind : (before : List ℕ) (next : ℕ) (others : List ℕ) → slice_index (before ++ next ∷ others) (length before) ≡ next
constant_behind before next others = get_or-append_seam before next others 0

-- the first of the rows
first_of : (lists : Lists) (row : ArithRow) (rows : List ArithRow) → row_of (lists_after lists (row ∷ rows)) (row_rule (before_next lists) row) ≡ row
first_of lists (Add a b out) rows =
    let at = factors_behind lists.sums (record { a = a; b = b }) (flat_map row_sums rows) in λ i. Add (at i).a (at i).b out
first_of lists (Mul a b out) rows =
    let at = factors_behind lists.factors (record { a = a; b = b }) (flat_map row_factors rows) in λ i. Mul (at i).a (at i).b out
first_of lists (Const value out) rows = λ i. Const (constant_behind lists.constants value (flat_map row_constants rows) i) out
first_of lists (Assert a) rows = refl

-- the rows that packed rows say are these
pub rows_unpacked : (lists : Lists) (rows : List ArithRow) → rows_of (lists_after lists rows) (row_rules (before_next lists) rows) ≡ rows
rows_unpacked lists [] = refl
rows_unpacked lists (row ∷ rows) =
    λ i. first_of lists row rows i
    ∷ (sym (λ j. rows_of (one_over lists row rows j) (row_rules (before_more lists row j) rows)) ∙ rows_unpacked (lists_with lists row) rows) i

-- ---- rules within

longer : {A : Type 0} (before : List A) (next : A) (others : List A) → length before < length (before ++ next ∷ others)
longer before next others = omega (arith, length-append before (next ∷ others))

first_within : (lists : Lists) (row : ArithRow) (rows : List ArithRow) → IsRowRule (lists_after lists (row ∷ rows)) (row_rule (before_next lists) row)
first_within lists (Add a b out) rows = longer lists.sums (record { a = a; b = b }) (flat_map row_sums rows)
first_within lists (Mul a b out) rows = longer lists.factors (record { a = a; b = b }) (flat_map row_factors rows)
first_within lists (Const value out) rows = longer lists.constants value (flat_map row_constants rows)
first_within lists (Assert a) rows = tt

rules_within : (lists : Lists) (rows : List ArithRow) → All (IsRowRule (lists_after lists rows)) (row_rules (before_next lists) rows)
rules_within lists [] = All-nil (IsRowRule (lists_after lists []))
rules_within lists (row ∷ rows) =
    All-cons (IsRowRule (lists_after lists (row ∷ rows))) (row_rule (before_next lists) row) (row_rules (with_row (before_next lists) row) rows) (first_within lists row rows)
    (subst (λ b. All (IsRowRule (lists_after lists (row ∷ rows))) (row_rules b rows)) (before_more lists row)
    (subst (λ l. All (IsRowRule l) (row_rules (before_next (lists_with lists row)) rows)) (one_over lists row rows) (rules_within (lists_with lists row) rows)))

-- ---- packed rows

lists_are : (rows : List ArithRow) (rules : List PackedStep) (tables : Tables) → AreRowsPacked rows rules tables → lists_of tables ≡ lists_after no_lists rows
lists_are rows rules tables are = λ i. record { factors = are.factors_are i; sums = are.sums_are i; constants = are.constants_are i }

-- what packed rows name is in the tables
pub rows_within : (rows : List ArithRow) (rules : List PackedStep) (tables : Tables) → AreRowsPacked rows rules tables → All (IsRowRule (lists_of tables)) rules
rows_within rows rules tables are =
    subst (λ r. All (IsRowRule (lists_of tables)) r) (sym are.rules_are)
    (subst (λ l. All (IsRowRule l) (row_rules (before_next no_lists) rows)) (sym (lists_are rows rules tables are)) (rules_within no_lists rows))

-- what packed rows say
pub rows_say : (rows : List ArithRow) (rules : List PackedStep) (tables : Tables) → AreRowsPacked rows rules tables → rows_of (lists_of tables) rules ≡ rows
rows_say rows rules tables are = (λ i. rows_of (lists_are rows rules tables are i) (are.rules_are i)) ∙ rows_unpacked no_lists rows

-- the rows that these say are packed so
rows_again : (rows : List ArithRow) (rules : List PackedStep) (tables : Tables) → AreRowsPacked rows rules tables → AreRowsPacked (rows_of (lists_of tables) rules) rules tables
rows_again rows rules tables are = subst (λ l. AreRowsPacked l rules tables) (sym (rows_say rows rules tables are)) are

pub no_rows : (rules : List PackedStep) (tables : Tables) → rules ≡ [] → lists_of tables ≡ no_lists → AreRowsPacked (rows_of (lists_of tables) rules) rules tables
no_rows rules tables none empty =
    rows_again [] rules tables (record { rules_are = none; factors_are = λ i. (empty i).factors; sums_are = λ i. (empty i).sums; constants_are = λ i. (empty i).constants })

-- row i
pub row_at : (lists : Lists) (rules : List PackedStep) (i : ℕ) (r : PackedStep) → i < length rules → slice_get (rows_of lists rules) i ≡ Some (row_of lists (get_or rules i r))
row_at lists rules i r below =
    let within : i < length (rows_of lists rules) = omega (arith, below, length-map rules (row_of lists)) in
    slice_get-get_or (rows_of lists rules) i (row_of lists r) within
    ∙ ap (λ (row : ArithRow). Some row) (get_or-map (row_of lists) rules i r (row_of lists r) below)

-- ---- one row more

row_rules-push : (lists : Lists) (rows : List ArithRow) (row : ArithRow)
    → row_rules (before_next lists) (rows ++ row ∷ []) ≡ row_rules (before_next lists) rows ++ row_rule (before_next (lists_after lists rows)) row ∷ []
row_rules-push lists [] row = ap (λ l. row_rule (before_next l) row ∷ []) (λ i. record {
  factors = sym (append-nil lists.factors) i;
  sums = sym (append-nil lists.sums) i;
  constants = sym (append-nil lists.constants) i;
})
row_rules-push lists (first ∷ rows) row =
    ap (λ l. row_rule (before_next lists) first ∷ l)
    (ap (λ b. row_rules b (rows ++ row ∷ [])) (sym (before_more lists first)) ∙ row_rules-push (lists_with lists first) rows row
    ∙ (λ i. row_rules (before_more lists first i) rows ++ row_rule (before_next (one_over lists first rows i)) row ∷ []))

rows_more : (rows : List ArithRow) (rules more_rules : List PackedStep) (tables more_tables : Tables) (row : ArithRow) → AreRowsPacked rows rules tables
    → more_rules ≡ rules ++ row_rule (before_next (lists_of tables)) row ∷ [] → lists_of more_tables ≡ lists_with (lists_of tables) row
    → AreRowsPacked (rows ++ row ∷ []) more_rules more_tables
rows_more rows rules more_rules tables more_tables row are pushed added = record {
  rules_are = pushed ∙ (λ i. are.rules_are i ++ row_rule (before_next (lists_are rows rules tables are i)) row ∷ []) ∙ sym (row_rules-push no_lists rows row);
  factors_are = λ i. (all i).factors;
  sums_are = λ i. (all i).sums;
  constants_are = λ i. (all i).constants;
}
  where
    all : lists_of more_tables ≡ lists_after no_lists (rows ++ row ∷ [])
    all = added ∙ ap (λ l. lists_with l row) (lists_are rows rules tables are) ∙ after_push no_lists rows row

-- the rows that packed rows say, after one more
pub rows_push : (rules more_rules : List PackedStep) (tables more_tables : Tables) (row : ArithRow) → AreRowsPacked (rows_of (lists_of tables) rules) rules tables
    → more_rules ≡ rules ++ row_rule (before_next (lists_of tables)) row ∷ [] → lists_of more_tables ≡ lists_with (lists_of tables) row
    → AreRowsPacked (rows_of (lists_of more_tables) more_rules) more_rules more_tables × (rows_of (lists_of more_tables) more_rules ≡ rows_of (lists_of tables) rules ++ row ∷ [])
rows_push rules more_rules tables more_tables row are pushed added =
    let more = rows_more (rows_of (lists_of tables) rules) rules more_rules tables more_tables row are pushed added in (
      rows_again (rows_of (lists_of tables) rules ++ row ∷ []) more_rules more_tables more,
      rows_say (rows_of (lists_of tables) rules ++ row ∷ []) more_rules more_tables more,
    )

-- ---- no list is longer than the rows

few_of : {A : Type 0} (of : ArithRow → List A) → ((row : ArithRow) → length (of row) ≤ 1) → (rows : List ArithRow) → length (flat_map of rows) ≤ length rows
few_of of one [] = omega arith
few_of of one (row ∷ rows) = omega (arith, one row, few_of of one rows, length-append (of row) (flat_map of rows))

one_factors : (row : ArithRow) → length (row_factors row) ≤ 1
one_factors (Add a b out) = omega arith
one_factors (Mul a b out) = omega arith
one_factors (Const value out) = omega arith
one_factors (Assert a) = omega arith

one_sums : (row : ArithRow) → length (row_sums row) ≤ 1
one_sums (Add a b out) = omega arith
one_sums (Mul a b out) = omega arith
one_sums (Const value out) = omega arith
one_sums (Assert a) = omega arith

one_constants : (row : ArithRow) → length (row_constants row) ≤ 1
one_constants (Add a b out) = omega arith
one_constants (Mul a b out) = omega arith
one_constants (Const value out) = omega arith
one_constants (Assert a) = omega arith

pub record AreFew (lists : Lists) (most : ℕ) : Type 0 where
  pub factors : length lists.factors ≤ most
  pub sums : length lists.sums ≤ most
  pub constants : length lists.constants ≤ most

pub few_lists : (rows : List ArithRow) (rules : List PackedStep) (tables : Tables) → AreRowsPacked rows rules tables → AreFew (lists_of tables) (length rows)
few_lists rows rules tables are = record {
  factors = omega (arith, few_of row_factors one_factors rows, ap length are.factors_are);
  sums = omega (arith, few_of row_sums one_sums rows, ap length are.sums_are);
  constants = omega (arith, few_of row_constants one_constants rows, ap length are.constants_are);
}
