use Rattle.std.proofs.Common.{◌≡◌, ◌+◌, ◌<◌, ℕ, List, min, length, get_or, arith, ap, refl, subst, sym, ⊎_elim, ◌∙◌}
use Rattle.std.specs.Prelude.{Some, slice_get, slice_index}
use Rattle.std.proofs.lemmas.Bool.{cases_lt, false≢true}
use Rattle.std.proofs.lemmas.List.{get_or_default}
use Rattle.zk_model.specs.Field.{◌+ₚ◌, ◌*ₚ◌}
use Rattle.zk_model.specs.Program.{Program}
use Rattle.zk_model.specs.Mac.{corrected_keys}
use Rattle.zk_model.specs.Check.{KeyTriple, key_triple}
use Rattle.field_program.specs.Counts.{unchecked}
use Rattle.field_program.specs.Programs.{IsSmallProgram}
use Rattle.wire_auth.specs.Values.{numbers_carried}
use Rattle.wire_auth.specs.Walks.{Value, VerifierWalking, IsVerifierWalk}
use Rattle.wire_auth.proofs.BothWalks.{key_at, none_more}
use Rattle.wire_auth.proofs.verifier_walk.VerifierWalk.next.Goals as goal

pub returns-in_err-a-clause-met : goal.returns-in_err-a-clause-met
returns-in_err-a-clause-met c =
    subst (λ (w : VerifierWalking). w.met ≡ min (w.met + 1) (length w.side.program.products)) c.self.view_is
    (none_more c.self.inside.walk.met (length c.self.inside.walk.program.products) c.next_given-next.ensures.within (c.in_err-a.ensures.none.0 refl))

abbrev given : goal.After-meet → List ℕ
given c = corrected_keys c.self.inside.key c.self.inside.keys.now c.self.inside.corrections.now

small : (c : goal.After-meet) → IsSmallProgram c.self.inside.walk.program
small c = subst IsSmallProgram c.program.ensures c.products-products.ensures.held

more : (c : goal.After-meet) → c.self.inside.walk.met < length c.self.inside.walk.program.products
more c = ⊎_elim (λ below. below) (λ none. absurd (false≢true (sym (c.in_ok-a.ensures.none.1 none))))
    (cases_lt c.self.inside.walk.met (length c.self.inside.walk.program.products))

-- the number of the product's value
abbrev number : goal.After-meet → ℕ
number c = unchecked c.self.inside.walk.program + c.self.inside.walk.met

-- and its key
key_is : (c : goal.After-meet) → c.add-c.result ≡ slice_index (given c) (number c)
key_is c =
    c.add-c.ensures
    ∙ (λ i. dealt i +ₚ (c.mul.ensures ∙ ap (λ n. n *ₚ c.self.inside.key) correction) i)
    ∙ sym (key_at c.self.inside.key c.self.inside.keys.now c.self.inside.corrections.now (number c) (omega (arith, below, c.self.invariant.enough)) (omega (arith, below, c.self.invariant.one_each)))
  where
    below : number c < c.self.inside.walk.program.givens
    below = let less = more c in omega (arith, less, (small c).counted)

    dealt : get_or c.self.inside.keys.now c.next_given-next.result c.index-self-next.result ≡ slice_index c.self.inside.keys.now (number c)
    dealt = ap (λ n. get_or c.self.inside.keys.now n c.index-self-next.result) c.next_given-next.ensures.number
        ∙ get_or_default c.self.inside.keys.now (number c) c.index-self-next.result 0 (omega (arith, below, c.self.invariant.enough))

    correction : get_or c.self.inside.corrections.now c.next_given-next.result c.index-self-next-2.result ≡ slice_index c.self.inside.corrections.now (number c)
    correction = ap (λ n. get_or c.self.inside.corrections.now n c.index-self-next-2.result) c.next_given-next.ensures.number
        ∙ get_or_default c.self.inside.corrections.now (number c) c.index-self-next-2.result 0 (omega (arith, below, c.self.invariant.one_each))

pub invariant_of-self : goal.invariant_of-self
invariant_of-self c =
    subst (λ (p : Program). IsVerifierWalk p c.self.inside.key c.self.inside.public.now c.self.inside.keys.now c.self.inside.corrections.now c.meet.new.self) (sym c.meet.ensures.program)
    (record {
      along = c.meet.ensures.program;
      public_count = c.self.invariant.public_count;
      enough = c.self.invariant.enough;
      one_each = c.self.invariant.one_each;
      of_keys = c.meet.ensures.follows Value (numbers_carried c.self.inside.key c.self.inside.walk.program c.self.inside.public.now (given c)) (given c) (key_is c) c.self.invariant.of_keys;
    })

pub returns-clause-some : goal.returns-clause-some
returns-clause-some c product stands =
    ap (λ (t : KeyTriple). Some t)
    ((λ i. record {
      a = factors.0 i;
      b = factors.1 i;
      c = (key_is c ∙ ap (slice_index (given c)) (sym ((small c).numbered c.self.inside.walk.met product here))) i;
    })
    ∙ ap (λ (w : VerifierWalking). key_triple w.side.keys product) c.self.view_is)
  where
    here : slice_get c.self.inside.walk.program.products c.self.inside.walk.met ≡ Some product
    here = ap (λ (w : VerifierWalking). slice_get w.side.program.products w.met) c.self.view_is ∙ stands

    keys : List ℕ
    keys = numbers_carried c.self.inside.key c.self.inside.walk.program c.self.inside.public.now (given c)

    factors : (c.in_ok-a.a ≡ slice_index keys product.a) × (c.in_ok-a.b ≡ slice_index keys product.b)
    factors = c.in_ok-a.ensures.some Value keys (given c) product c.self.invariant.of_keys here
