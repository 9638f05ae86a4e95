use Rattle.std.proofs.Common.{◌≡◌, ◌+◌, ℕ, List, ap, get_or, refl, sym, ◌∙◌}
use Rattle.std.specs.Prelude.{Some, slice_get, slice_index}
use Rattle.std.proofs.lemmas.Option.{slice_get-get_or}
use Rattle.zk_model.specs.Program.{Program}
use Rattle.zk_model.specs.declared.Product as zk
use Rattle.field_program.specs.Counts.{unchecked}
use Rattle.wire_auth.specs.Values.{given_from, given_value}
use Rattle.wire_auth.specs.Walks.{Value, Follows}
use Rattle.wire_auth.proofs.Making.{given_at}
use Rattle.wire_auth.proofs.corrections.meet_value.Goals as goal

-- the value is the given one of the product that is met
value_is : (c : goal.After-meet) (values : List ℕ) → Follows (λ n. n) c.args.walk.now values (given_from c.args.walk.now.program values)
    → c.known-value.result ≡ slice_index (given_from c.args.walk.now.program values) (unchecked c.args.walk.now.program + c.args.walk.now.met)
value_is c values follows =
    c.known-value.ensures.unchanged
    ∙ c.given_number.ensures c.args.walk.now.met product values (ap (λ (p : Program). slice_get p.products c.args.walk.now.met) c.program-program.ensures ∙ stands)
    (number ∙ sym c.next_given-next.ensures.number) factors.0 factors.1
    ∙ ap (λ (p : Program). given_value p values product) c.program-program.ensures
    ∙ sym (given_at c.args.walk.now.program values c.args.walk.now.met (unchecked c.args.walk.now.program + c.args.walk.now.met) product stands refl)
  where
    product : zk.Product
    product = get_or c.args.walk.now.program.products c.args.walk.now.met (record { a = 0; b = 0; c = 0 })

    stands : slice_get c.args.walk.now.program.products c.args.walk.now.met ≡ Some product
    stands = slice_get-get_or c.args.walk.now.program.products c.args.walk.now.met (record { a = 0; b = 0; c = 0 }) c.requires.more

    number : product.c ≡ unchecked c.args.walk.now.program + c.args.walk.now.met
    number = c.next_given-next.ensures.held.numbered c.args.walk.now.met product stands

    factors : (c.in-Some.factors.0 ≡ slice_index values product.a) × (c.in-Some.factors.1 ≡ slice_index values product.b)
    factors = c.in-Some.ensures.some Value values (given_from c.args.walk.now.program values) product follows stands

pub returns-clause-value : goal.returns-clause-value
returns-clause-value c values follows = value_is c values follows

pub returns-clause-follows : goal.returns-clause-follows
returns-clause-follows c values follows =
    c.meet.ensures.follows Value values (given_from c.args.walk.now.program values) (value_is c values follows) follows
