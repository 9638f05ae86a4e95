use Rattle.std.proofs.Common.{arith, get_or, ◌+◌, ◌≤◌, max, ap, sym, ◌∙◌, subst}
use Rattle.lease_core.specs.Machine.{ceiling_for}
use Rattle.lease_words.specs.Views.{units_drawn}
use Rattle.lease_words.specs.Calls.{AreGathered, all_entries, base_of}
use Rattle.lease_words.specs.declared.view.View.{View}
use Rattle.lease_words.proofs.Asked.{most_asked}
use Rattle.lease_words.proofs.OneFault.{one_met}
use Rattle.lease_words.proofs.Whole.{gathered}
use Rattle.lease_words.proofs.table.Words.gather.Goals as goal

pub returns-clause-gathered : goal.returns-clause-gathered
returns-clause-gathered g c =
    let t = c.take_in.ensures.view in
    let j = c.args.journal.is_journal in
    let f = c.close_with.ensures.values.2 in
    let P : View → Type 0 = λ v. AreGathered (base_of c.args.self) v.ceiling v.own_mark c.args.passes.items in
    subst P t (gathered _ _ _ _ _ _ _ c.args.passes.items f.1.0.0.0.0.1 f.1.1 (ap (λ v. v.journal) t ∙ j.journal) (ap (λ v. v.reports) t) (ap (λ v. v.entries) t) (ap (λ v. v.made) t ∙ sym c.requires.all))

pub returns-clause-most : goal.returns-clause-most
returns-clause-most g c =
    let t = c.take_in.ensures.view in
    let j = c.args.journal.is_journal in
    let f = c.close_with.ensures.values.2 in
    let P : View → Type 0 = λ v. v.ceiling ≤ max (base_of c.args.self) (ceiling_for v.total (base_of c.args.self + units_drawn (all_entries c.args.passes.items))) in
    subst P t (most_asked _ _ _ _ _ _ _ c.args.passes.items f.1.0.0.0.0.1 f.1.1 (ap (λ v. v.journal) t ∙ j.journal) (ap (λ v. v.reports) t) (ap (λ v. v.entries) t) (ap (λ v. v.made) t ∙ sym c.requires.all) f.1.0.0.2)

pub returns-clause-met : goal.returns-clause-met
returns-clause-met g c =
    let t = c.take_in.ensures.view in
    let f = c.close_with.ensures.values.2 in
    let all = ap (λ v. v.met) t in
    let one = one_met (get_or f.0.words 2 0) f.0.views _ _ f.1.1 f.1.0.1 in
    omega (arith, all, one)
