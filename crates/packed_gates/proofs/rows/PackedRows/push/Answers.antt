use Rattle.std.proofs.Common.{◌≡◌, ◌++◌, ◌∷◌, [], ◌∙◌, arith, length, ap}
use Rattle.packed_gates.specs.PackedRows.{before_next, lists_of, row_rule}
use Rattle.packed_gates.proofs.RowPacking.{few_lists, rows_push}
use Rattle.packed_gates.proofs.rows.PackedRows.push.Goals as goal

pub tabled-requires-clause-products : goal.tabled-requires-clause-products
tabled-requires-clause-products c =
    omega (arith, (few_lists _ c.self.inside.rules.items c.self.inside.tables c.self.invariant).factors, ap length c.self.view_is, c.requires.few)

pub tabled-requires-clause-sums : goal.tabled-requires-clause-sums
tabled-requires-clause-sums c =
    omega (arith, (few_lists _ c.self.inside.rules.items c.self.inside.tables c.self.invariant).sums, ap length c.self.view_is, c.requires.few)

pub tabled-requires-clause-constants : goal.tabled-requires-clause-constants
tabled-requires-clause-constants c =
    omega (arith, (few_lists _ c.self.inside.rules.items c.self.inside.tables c.self.invariant).constants, ap length c.self.view_is, c.requires.few)

-- the rules with that of the row
pushed : (c : goal.After-push_reserved)
    → c.push_reserved.new.self.items ≡ c.self.inside.rules.items ++ row_rule (before_next (lists_of c.self.inside.tables)) c.args.row ∷ []
pushed c = c.push_reserved.ensures.items ∙ (λ i. c.reserve.ensures.items i ++ c.in_ok-rule.ensures.rule i ∷ [])

pub invariant_of-self-2 : goal.invariant_of-self-2
invariant_of-self-2 c =
    (rows_push c.self.inside.rules.items c.push_reserved.new.self.items c.self.inside.tables c.tabled.new.tables c.args.row c.self.invariant (pushed c) c.in_ok-rule.ensures.lists).0

pub returns-clause-pushed : goal.returns-clause-pushed
returns-clause-pushed c =
    (rows_push c.self.inside.rules.items c.push_reserved.new.self.items c.self.inside.tables c.tabled.new.tables c.args.row c.self.invariant (pushed c) c.in_ok-rule.ensures.lists).1
    ∙ ap (λ l. l ++ c.args.row ∷ []) c.self.view_is
