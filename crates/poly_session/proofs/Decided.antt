-- A hello that differs is not for constraints, and their check has one verdict.
use Rattle.std.proofs.Common.{◌≡◌, ℕ, None, Option, List, [], ◌∷◌, refl, sym, ◌∙◌, ap, subst}
use Rattle.sha2.specs.Sha256.{sha256}
use Rattle.zk_model.specs.Frames.{poly_sums}
use Rattle.zk_model.specs.Mac.{corrected_keys}
use Rattle.zk_model.specs.Transcript.{Hello, digest_said}
use Rattle.poly_model.specs.Constraints.{Constraints}
use Rattle.poly_model.specs.ConstraintCheck.{Holds, left_side, right_side}
use Rattle.session_core.specs.Cores.{digests_said}
use Rattle.session_core.specs.Judgements.{verdict_in}
use Rattle.session_core.specs.declared.fault.Digests.{Digests}
use Rattle.session_core.specs.declared.fault.HelloDiffers.{HelloDiffers}
use Rattle.session_core.specs.declared.fault.HelloDiffers.TheVariants as differs
use Rattle.session_core.specs.declared.judgement.Judgement.{Judgement}
use Rattle.session_core.specs.declared.judgement.Judgement.TheVariants.{Accepted, RejectedSum, RejectedOpening}
use Rattle.zk_model.specs.declared.Verdict.TheVariants as verdict
use Rattle.session_claim.specs.Claims.{Exchange, IsDecided}
use Rattle.poly_session.specs.PolyClaims.{AnswersBy, IsPolyHello, PolyDiffersFirst, PolyJudges, masks_of, poly_claim, poly_digests}

-- the digests that are said are those of the text
said_are : (id digest : List ℕ) (said : Hello) → IsPolyHello id digest said → poly_digests digest ≡ digests_said said
said_are id digest said is = λ i. record {
  circuit = sym is.circuit i;
  outputs = sym is.outputs i;
  public = none (sym is.form i);
}
  where
    none : Option (List ℕ) → List ℕ
    none form = digest_said (record said { public = form })

poly_hellos : (id digest : List ℕ) (said : Hello) (difference : HelloDiffers) → PolyDiffersFirst id digest said difference → ¬ IsPolyHello id digest said
poly_hellos id digest said (differs.Id want got) first is = first.2 (first.0 ∙ sym is.id_is ∙ sym first.1)
poly_hellos id digest said (differs.Version want got) first is = first.3 (first.1 ∙ sym is.version ∙ sym first.2)
poly_hellos id digest said (differs.Statement want got) first is = first.4 (first.2 ∙ said_are id digest said is ∙ sym first.3)

-- of sums that were sent
poly_verdicts : (constraints : Constraints) (key : ℕ) (keys corrections : List ℕ) (challenge : ℕ) (sums : List ℕ) (one other : Judgement)
    → PolyJudges constraints key keys corrections challenge sums one → PolyJudges constraints key keys corrections challenge sums other
    → verdict_in one ≡ verdict_in other
poly_verdicts constraints key keys corrections challenge sums Accepted Accepted is also = refl
poly_verdicts constraints key keys corrections challenge sums Accepted (RejectedSum s left right) is also =
    absurd (also.3 (also.1 ∙ is ∙ sym also.2))
poly_verdicts constraints key keys corrections challenge sums Accepted (RejectedOpening o left right) is also = absurd also
poly_verdicts constraints key keys corrections challenge sums (RejectedSum s left right) Accepted is also =
    absurd (is.3 (is.1 ∙ also ∙ sym is.2))
poly_verdicts constraints key keys corrections challenge sums (RejectedSum s left right) (RejectedSum r a b) is also =
    ap verdict.RejectedSum (is.0 ∙ sym also.0)
poly_verdicts constraints key keys corrections challenge sums (RejectedSum s left right) (RejectedOpening o a b) is also = absurd also
poly_verdicts constraints key keys corrections challenge sums (RejectedOpening o left right) other is also = absurd is

pub poly_is_decided : (constraints : Constraints) (digest : List ℕ) → IsDecided (poly_claim constraints digest)
poly_is_decided constraints digest = record {
  hellos = λ id said difference. poly_hellos id digest said difference;
  verdicts = λ key keys exchange one other judged also.
      let same : poly_sums also.0 ∷ [] ≡ poly_sums judged.0 ∷ [] = sym also.1 ∙ judged.1 in
      let sums : also.0 ≡ judged.0 = cc in
      poly_verdicts constraints key keys exchange.corrections exchange.challenge judged.0 one other judged.2
      (subst (λ l. PolyJudges constraints key keys exchange.corrections exchange.challenge l other) sums also.2);
}
