use Rattle.std.proofs.Common.{◌≡◌, ◌+◌, ◌<◌, ℕ, List, min, length, take, get_or, arith, ap, refl, subst, sym, ⊎_elim, ◌∙◌}
use Rattle.std.specs.Prelude.{Some, slice_get, slice_index}
use Rattle.std.proofs.lemmas.Bool.{cases_lt, false≢true}
use Rattle.std.proofs.lemmas.Option.{slice_get-get_or}
use Rattle.zk_model.specs.Program.{Program}
use Rattle.zk_model.specs.Mac.{Pair, macs_of}
use Rattle.zk_model.specs.Check.{Triple, product_triple}
use Rattle.zk_model.specs.declared.Product as zk
use Rattle.field_program.specs.Counts.{unchecked}
use Rattle.field_program.specs.Programs.{IsSmallProgram}
use Rattle.wire_auth.specs.Values.{wires_made, given_from, given_value, numbers_carried}
use Rattle.wire_auth.specs.Walks.{Value, Mac, ProverWalking, IsProverWalk}
use Rattle.wire_auth.proofs.Making.{given_at}
use Rattle.wire_auth.proofs.BothWalks.{walked_triple, mac_at, none_more}
use Rattle.wire_auth.proofs.prover_walk.ProverWalk.next.Goals as goal

pub returns-in_err-a-clause-met : goal.returns-in_err-a-clause-met
returns-in_err-a-clause-met c =
    subst (λ (w : ProverWalking). w.met ≡ min (w.met + 1) (length w.side.program.products)) c.self.view_is
    (none_more c.self.inside.pairs.met (length c.self.inside.pairs.program.products) c.next_given-next.ensures.within (c.in_err-a.ensures.none.0 refl))

abbrev values : goal.After-meet → List ℕ
values c = wires_made c.self.inside.pairs.program c.self.inside.public.now c.self.inside.inputs.now

abbrev macs : goal.After-meet → List ℕ
macs c = numbers_carried 0 c.self.inside.pairs.program c.self.inside.public.now (take c.self.inside.pairs.program.givens (macs_of c.self.inside.dealt.now))

small : (c : goal.After-meet) → IsSmallProgram c.self.inside.pairs.program
small c = subst IsSmallProgram c.program-program.ensures c.products-products.ensures.held

-- both factors' values
factors_are : (c : goal.After-meet) (product : zk.Product) → slice_get c.self.inside.pairs.program.products c.self.inside.pairs.met ≡ Some product
    → (c.in_ok-a.a.x ≡ slice_index (values c) product.a) × (c.in_ok-a.b.x ≡ slice_index (values c) product.b)
factors_are c product stands =
    c.in_ok-a.ensures.some Value (values c) (given_from c.self.inside.pairs.program (values c)) product c.self.invariant.of_values stands

-- the value is that of the product that is met
value_is : (c : goal.After-meet) (product : zk.Product) → slice_get c.self.inside.pairs.program.products c.self.inside.pairs.met ≡ Some product
    → c.given_number.result ≡ given_value c.self.inside.pairs.program (values c) product
value_is c product stands =
    c.given_number.ensures c.self.inside.pairs.met product (values c)
    (ap (λ (p : Program). slice_get p.products c.self.inside.pairs.met) c.program-program.ensures ∙ stands)
    ((small c).numbered c.self.inside.pairs.met product stands ∙ sym c.next_given-next.ensures.number)
    (ap (λ (p : Pair). p.x) c.a.view_is ∙ (factors_are c product stands).0) (ap (λ (p : Pair). p.x) c.b.view_is ∙ (factors_are c product stands).1)
    ∙ ap (λ (p : Program). given_value p (values c) product) c.program-program.ensures

-- there is one
more : (c : goal.After-meet) → c.self.inside.pairs.met < length c.self.inside.pairs.program.products
more c = ⊎_elim (λ below. below) (λ none. absurd (false≢true (sym (c.in_ok-a.ensures.none.1 none))))
    (cases_lt c.self.inside.pairs.met (length c.self.inside.pairs.program.products))

-- the MAC is that of the dealt pair
mac_is : (c : goal.After-meet) → c.dealt_mac.result ≡ slice_index (macs_of c.self.inside.dealt.now) (unchecked c.self.inside.pairs.program + c.self.inside.pairs.met)
mac_is c = c.dealt_mac.ensures ∙ ap (slice_index (macs_of c.self.inside.dealt.now)) c.next_given-next.ensures.number

pub invariant_of-self : goal.invariant_of-self
invariant_of-self c =
    subst (λ (p : Program). IsProverWalk p c.self.inside.public.now c.self.inside.inputs.now c.self.inside.dealt.now c.meet.new.self) (sym c.meet.ensures.program)
    (record {
      along = c.meet.ensures.program;
      public_count = c.self.invariant.public_count;
      input_count = c.self.invariant.input_count;
      enough = c.self.invariant.enough;
      of_values = c.meet.ensures.follows Value (values c) (given_from c.self.inside.pairs.program (values c))
          (value_is c product stands ∙ sym (given_at c.self.inside.pairs.program (values c) c.self.inside.pairs.met (unchecked c.self.inside.pairs.program + c.self.inside.pairs.met) product stands refl)) c.self.invariant.of_values;
      of_macs = c.meet.ensures.follows Mac (macs c) (take c.self.inside.pairs.program.givens (macs_of c.self.inside.dealt.now))
          (mac_at c.self.inside.pairs.program c.self.inside.dealt.now (unchecked c.self.inside.pairs.program + c.self.inside.pairs.met) c.dealt_mac.result (let below = more c in omega (arith, below, (small c).counted))
          (mac_is c)) c.self.invariant.of_macs;
    })
  where
    product : zk.Product
    product = get_or c.self.inside.pairs.program.products c.self.inside.pairs.met (record { a = 0; b = 0; c = 0 })

    stands : slice_get c.self.inside.pairs.program.products c.self.inside.pairs.met ≡ Some product
    stands = slice_get-get_or c.self.inside.pairs.program.products c.self.inside.pairs.met (record { a = 0; b = 0; c = 0 }) (more c)

pub returns-clause-some : goal.returns-clause-some
returns-clause-some c product stands =
    ap (λ (t : Triple). Some t)
    (walked_triple c.self.inside.pairs.program c.self.inside.public.now c.self.inside.inputs.now c.self.inside.dealt.now c.self.inside.pairs.met
    c.in_ok-a.a.x c.in_ok-a.b.x c.in_ok-a.a.m c.in_ok-a.b.m c.given_number.result c.dealt_mac.result product
    (small c) c.self.invariant.public_count c.self.invariant.input_count c.self.invariant.enough here (factors_are c product here)
    (c.in_ok-a.ensures.some Mac (macs c) (take c.self.inside.pairs.program.givens (macs_of c.self.inside.dealt.now)) product c.self.invariant.of_macs here)
    (value_is c product here)
    (mac_is c ∙ ap (slice_index (macs_of c.self.inside.dealt.now)) (sym ((small c).numbered c.self.inside.pairs.met product here)))
    ∙ ap (λ (w : ProverWalking). product_triple w.side.pairs product) c.self.view_is)
  where
    here : slice_get c.self.inside.pairs.program.products c.self.inside.pairs.met ≡ Some product
    here = ap (λ (w : ProverWalking). slice_get w.side.program.products w.met) c.self.view_is ∙ stands
