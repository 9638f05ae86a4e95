use Rattle.std.proofs.Common.{◌∙◌, ◌≡◌, ◌<◌, ◌*◌, ◌+◌, ◌-◌, ap, arith, sym, subst, List, ℕ, take, drop}
use Rattle.std.specs.Prelude.{All}
use Rattle.zk_model.specs.Extension.{code_column}
use Rattle.linear_code.proofs.Cuts.{column_cut, column_inside}
use Rattle.linear_code.proofs.code.Columns.column.Goals as goal

pub returns-clause-places : goal.returns-clause-places
returns-clause-places c =
    let same_count : c.self.inside.count ≡ c.args.self.now.count = λ i. (c.self.view_is i).count in
    ap (λ l. take (10 * c.args.j + 10 - 10 * c.args.j) (drop (10 * c.args.j) l)) c.deref.ensures.value
    ∙ column_cut c.self.inside.code_seed c.self.inside.base c.self.inside.count c.args.j c.self.inside.places.items
    (omega (arith, c.requires, same_count)) c.self.invariant.chosen
    ∙ (λ i. code_column (c.self.view_is i).seed (c.self.view_is i).base c.args.j)

pub returns-clause-inside : goal.returns-clause-inside
returns-clause-inside c =
    let same_base : c.self.inside.base ≡ c.args.self.now.base = λ i. (c.self.view_is i).base in
    subst (λ (l : List ℕ). All (λ place. place < c.args.self.now.base) l) (sym (returns-clause-places c))
    (column_inside c.args.self.now.seed c.args.self.now.base c.args.j (omega (arith, c.self.invariant.least, same_base)))
