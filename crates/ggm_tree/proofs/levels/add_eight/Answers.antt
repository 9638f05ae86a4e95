use Rattle.std.proofs.Common.{[], get_or, ◌∙◌, ap}
use Rattle.ggm_tree.proofs.Below.{with_pair, rows_added}
use Rattle.ggm_tree.proofs.levels.add_eight.Goals as goal

pub returns : goal.returns
returns c = λ nodes eight are.
    let first = c.args.first.now in
    let last = c.args.last.now in
    c.add_children-8.ensures
    ∙ ap (λ sums. with_pair sums (get_or last 6 []) (get_or last 7 [])) (c.add_children-7.ensures
    ∙ ap (λ sums. with_pair sums (get_or last 4 []) (get_or last 5 [])) (c.add_children-6.ensures
    ∙ ap (λ sums. with_pair sums (get_or last 2 []) (get_or last 3 [])) (c.add_children-5.ensures
    ∙ ap (λ sums. with_pair sums (get_or last 0 []) (get_or last 1 [])) (c.add_children-4.ensures
    ∙ ap (λ sums. with_pair sums (get_or first 6 []) (get_or first 7 [])) (c.add_children-3.ensures
    ∙ ap (λ sums. with_pair sums (get_or first 4 []) (get_or first 5 [])) (c.add_children-2.ensures
    ∙ ap (λ sums. with_pair sums (get_or first 2 []) (get_or first 3 [])) c.add_children.ensures))))))
    ∙ rows_added nodes first last c.args.sums.now eight c.told-first are
