use Rattle.std.proofs.Common.{◌≡◌, List, ◌<◌, ◌∙◌, ◌+◌, ◌-◌, ◌*◌, min, length, arith, ap, subst, sym, refl, eqb, not}
use Rattle.std.proofs.lemmas.Bool.{eq-eqb, eqb-true, false≢true, not-false}
use Rattle.zk_model.specs.Check.{Triple, error_polynomial}
use Rattle.zk_model.specs.Polynomial.{IsZero}
use Rattle.proof_audit.proofs.Errors.{errors_more, errors_fail, errors_whole}
use Rattle.proof_audit.proofs.Wires.{products_of}
use Rattle.proof_audit.proofs.seen.SeenWires.is_right.Goals as goal

pub returns-then-ne : goal.returns-then-ne
returns-then-ne c = (
  λ t. absurd (false≢true t),
  λ zeros. absurd (errors_fail c.args.self.now.program c.args.self.now.pairs (c.args.s * c.args.g) c.loop-i.i c.args.g c.error.result
      c.loop-i.auto.i below inside c.error.ensures wrong zeros),
)
  where
    count : c.products-products.result ≡ length c.args.self.now.program.products
    count = products_of c.products-products.ensures.count c.program.ensures c.self.view_is

    below : c.loop-i.i < length c.args.self.now.program.products
    below = let m = c.min-count.ensures in let t = c.loop-i-test.true in omega (arith, t, m, count)

    inside : c.loop-i.i < c.args.s * c.args.g + c.args.g
    inside = let m = c.min-count.ensures in let t = c.loop-i-test.true in omega (arith, t, m, count)

    wrong : ¬ (c.error.result ≡ 0)
    wrong e = false≢true (sym (ap not (eq-eqb c.error.result 0 e)) ∙ sym c.ne.ensures ∙ c.if-ne.true)

pub loop-i-preserved : goal.loop-i-preserved
loop-i-preserved c = errors_more c.args.self.now.program c.args.self.now.pairs (c.args.s * c.args.g) c.loop-i.i c.error.result
    c.loop-i.auto.i below c.error.ensures right c.loop-i.invariant
  where
    count : c.products-products.result ≡ length c.args.self.now.program.products
    count = products_of c.products-products.ensures.count c.program.ensures c.self.view_is

    below : c.loop-i.i < length c.args.self.now.program.products
    below = let m = c.min-count.ensures in let t = c.loop-i-test.true in omega (arith, t, m, count)

    right : c.error.result ≡ 0
    right = eqb-true c.error.result 0 (not-false (eqb c.error.result 0) (sym c.ne.ensures ∙ c.if-ne.false))

pub returns : goal.returns
returns c = (
  λ t. subst (λ (ts : List Triple). IsZero (error_polynomial ts)) (errors_whole c.args.self.now.program c.args.self.now.pairs (c.args.s * c.args.g)
      (c.loop-i.i - c.args.s * c.args.g) c.args.g seen) c.loop-i.invariant,
  λ zeros. refl,
)
  where
    count : c.products-products.result ≡ length c.args.self.now.program.products
    count = products_of c.products-products.ensures.count c.program.ensures c.self.view_is

    seen : c.loop-i.i - c.args.s * c.args.g ≡ min c.args.g (length c.args.self.now.program.products - c.args.s * c.args.g)
    seen = let m = c.min-count.ensures in let t = c.loop-i-test.false in let a = c.loop-i.auto in omega (arith, t, m, count, a.i, a.i-end)
