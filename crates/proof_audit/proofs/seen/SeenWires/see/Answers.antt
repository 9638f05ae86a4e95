use Rattle.std.proofs.Common.{◌≡◌, length, sym, ◌∙◌, ap, subst}
use Rattle.std.proofs.lemmas.List.{length-map}
use Rattle.zk_model.specs.Mac.{Pair, values_of, macs_of, corrected_keys}
use Rattle.zk_model.specs.Check.{ArePairsOf}
use Rattle.wire_auth.specs.Sides.{joined}
use Rattle.proof_audit.specs.SeenWires.{joined_pairs}
use Rattle.proof_audit.proofs.Wires.{corrected_joined, corrected_length, seen_pairs_carry}
use Rattle.proof_audit.proofs.seen.SeenWires.see.Goals as goal

pub returns-clause-given : goal.returns-clause-given
returns-clause-given c =
    (λ i. joined (values i) (macs i))
    ∙ corrected_joined c.args.pairs.now c.args.corrections.now c.requires.elements
  where
    values : c.in_ok-values.values.keys.given ≡ corrected_keys 1 (values_of c.args.pairs.now) c.args.corrections.now
    values = c.in_ok-values.ensures.given ∙ ap (λ keys. corrected_keys 1 keys c.args.corrections.now) (c.deref.ensures.value ∙ c.in_ok-xs.ensures)

    macs : c.in_ok-macs.macs.keys.given ≡ corrected_keys 0 (macs_of c.args.pairs.now) c.args.corrections.now
    macs = c.in_ok-macs.ensures.given ∙ ap (λ keys. corrected_keys 0 keys c.args.corrections.now) (c.deref-2.ensures.value ∙ c.in_ok-ms.ensures)

pub returns-clause-carried : goal.returns-clause-carried
returns-clause-carried c =
    subst (λ (T : Type 0). T)
    (λ i. ArePairsOf (program i) (public i) (joined_pairs c.in_ok-values.values.keys c.in_ok-macs.macs.keys))
    (seen_pairs_carry c.program-program.result.now c.public-public.result.now c.in_ok-values.values.keys c.in_ok-macs.macs.keys
    given (c.in_ok-values.ensures.carried.whole ∙ sym c.in_ok-macs.ensures.carried.whole)
    c.in_ok-values.ensures.carried c.in_ok-macs.ensures.carried)
  where
    program : c.program-program.result.now ≡ c.args.statement.now.program
    program = c.program-program.ensures.program

    public : c.public-public.result.now ≡ c.args.statement.now.public
    public = c.public-public.ensures.public

    given : length c.in_ok-values.values.keys.given ≡ length c.in_ok-macs.macs.keys.given
    given = ap length c.in_ok-values.ensures.given
        ∙ corrected_length 1 0 c.deref.result.now c.deref-2.result.now c.args.corrections.now
        (ap length (c.deref.ensures.value ∙ c.in_ok-xs.ensures) ∙ length-map c.args.pairs.now (λ (pair : Pair). pair.x)
        ∙ sym (ap length (c.deref-2.ensures.value ∙ c.in_ok-ms.ensures) ∙ length-map c.args.pairs.now (λ (pair : Pair). pair.m)))
        ∙ sym (ap length c.in_ok-macs.ensures.given)
