use Rattle.std.proofs.Common.{◌≡◌, ◌∙◌, ℕ, ◌+◌, ◌<◌, List, [], ◌∷◌, ◌++◌, length, map, get_or, ap, arith}
use Rattle.std.proofs.lemmas.List.{map-append, length-map}
use Rattle.zk_model.specs.Mac.{Pair, values_of, macs_of}
use Rattle.linear_code.specs.Codes.{output_at}
use Rattle.linear_code.proofs.Terms.{pair_term}
use Rattle.linear_code.proofs.Outputs.{AreOutputs, outputs_more, outputs_all}
use Rattle.linear_code.proofs.code.Columns.apply_pairs.Goals as goal

-- one output more of the values, or of the MACs
part_more : (part : Pair → ℕ) (seed : List ℕ) (base noise outputs next : List Pair) (j : ℕ) (at made : Pair) → j < length noise
    → at ≡ get_or noise j at → part made ≡ output_at seed (map part base) j (part at) → next ≡ outputs ++ made ∷ []
    → AreOutputs (output_at seed (map part base)) (map part noise) (map part outputs) j
    → AreOutputs (output_at seed (map part base)) (map part noise) (map part next) (j + 1)
part_more part seed base noise outputs next j at made below is given pushed =
    outputs_more (output_at seed (map part base)) (map part noise) (map part outputs) (map part next) j (part made)
    (given ∙ ap (output_at seed (map part base) j) (pair_term part noise j at below is))
    (ap (map part) pushed ∙ map-append part outputs (made ∷ []))

pub loop-j-preserved : goal.loop-j-preserved
loop-j-preserved c = (
  part_more (λ pair. pair.x) c.args.self.now.seed c.args.base.now c.args.noise.now c.loop-j.outputs.items c.push.new.self.items c.loop-j.j
      c.index-noise-j.result c.output_pair.result c.loop-j-test.true c.index-noise-j.is c.output_pair.ensures.value c.in_ok-push.ensures.items c.loop-j.invariant.0,
  part_more (λ pair. pair.m) c.args.self.now.seed c.args.base.now c.args.noise.now c.loop-j.outputs.items c.push.new.self.items c.loop-j.j
      c.index-noise-j.result c.output_pair.result c.loop-j-test.true c.index-noise-j.is c.output_pair.ensures.mac c.in_ok-push.ensures.items c.loop-j.invariant.1,
)

pub returns-clause-values : goal.returns-clause-values
returns-clause-values c =
    outputs_all (output_at c.args.self.now.seed (values_of c.args.base.now)) (values_of c.args.noise.now) (values_of c.loop-j.outputs.items) c.loop-j.j
    (omega (arith, c.loop-j-test.false, c.loop-j.auto.j-end, length-map c.args.noise.now (λ (pair : Pair). pair.x))) c.loop-j.invariant.0

pub returns-clause-macs : goal.returns-clause-macs
returns-clause-macs c =
    outputs_all (output_at c.args.self.now.seed (macs_of c.args.base.now)) (macs_of c.args.noise.now) (macs_of c.loop-j.outputs.items) c.loop-j.j
    (omega (arith, c.loop-j-test.false, c.loop-j.auto.j-end, length-map c.args.noise.now (λ (pair : Pair). pair.m))) c.loop-j.invariant.1
