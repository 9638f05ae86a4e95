-- What the checks say of the answers of a prover.
use Rattle.std.proofs.Common.{◌≡◌, ℕ, List, [], ◌∷◌, drop, take, refl, ◌∙◌, subst, ◌≤◌}
use Rattle.zk_model.specs.Check.{ProductCheck, OpeningCheck}
use Rattle.zk_model.specs.Frames.{sums, openings}
use Rattle.zk_model.specs.Program.{Program, section_count}
use Rattle.zk_model.specs.Statement.{Statement}
use Rattle.zk_model.specs.View.{IsVerdictOf}
use Rattle.wire_auth.specs.Sides.{VerifierSide}
use Rattle.mult_check.specs.Checks.{product_check, opening_check}
use Rattle.session_core.specs.Judgements.{HasSides, Judges, verdict_in}
use Rattle.session_core.specs.declared.judgement.Judgement.{Judgement}
use Rattle.session_core.specs.declared.judgement.Judgement.TheVariants.{Accepted, RejectedSum, RejectedOpening}
use Rattle.session_core.proofs.Masks.{verdict_of_few, left_of_few}
use Rattle.session_claim.specs.Claims.{Exchange}
use Rattle.circuit_session.specs.Statements.{AreWireKeys, IsJudgedBy, exchange_products, exchange_openings}

-- the sides are the same where there are more masks
sides_of_few : (check : ProductCheck) (opened : OpeningCheck) (masks : List ℕ) (judgement : Judgement)
    → check.masks ≡ take (section_count check.program check.section_length) masks
    → IsVerdictOf check opened (verdict_in judgement)
    → HasSides check opened judgement → HasSides (record check { masks = masks }) opened judgement
sides_of_few check opened masks Accepted few is sides = sides
sides_of_few check opened masks (RejectedSum section left right) few is sides =
    (sides.0 ∙ left_of_few check masks section few is.below, sides.1)
sides_of_few check opened masks (RejectedOpening output left right) few is sides = sides

-- the check of products over as many masks as there are sections
abbrev few_products : Statement → ℕ → List ℕ → Exchange → List (ℕ × ℕ) → VerifierSide → ProductCheck
few_products statement key keys exchange both side =
    record (exchange_products statement key keys exchange both side.keys) {
      masks = take (section_count statement.program exchange.section_length) (drop statement.program.givens keys);
    }

-- what the checks say over a side of the statement's program is what they say of the exchange
pub judged_by : (statement : Statement) (key : ℕ) (keys : List ℕ) (exchange : Exchange) (side : VerifierSide)
    (masks : List ℕ) (both : List (ℕ × ℕ)) (macs claims : List ℕ) (judgement : Judgement)
    → 1 ≤ exchange.section_length → exchange.answers ≡ sums both ∷ openings macs ∷ [] → side.program ≡ statement.program
    → masks ≡ take (section_count statement.program exchange.section_length) (drop statement.program.givens keys)
    → claims ≡ statement.claims → AreWireKeys statement key keys exchange.corrections side.keys
    → Judges (product_check side exchange.section_length exchange.challenge masks key both) (opening_check side key macs claims) judgement
    → IsJudgedBy statement key keys exchange judgement
judged_by statement key keys exchange side masks both macs claims judgement some answers program masked claimed carried judged = record {
  some = some;
  both = both;
  macs = macs;
  answers = answers;
  wires = side.keys;
  carried = carried;
  judged = (
    verdict_of_few few opened (drop statement.program.givens keys) (verdict_in judgement) refl here.0,
    sides_of_few few opened (drop statement.program.givens keys) judgement refl here.0 here.1,
  );
}
  where
    few : ProductCheck
    few = few_products statement key keys exchange both side

    opened : OpeningCheck
    opened = exchange_openings statement key macs side.keys

    checks : Program → List ℕ → List ℕ → ProductCheck × OpeningCheck
    checks p ms cs = (
      product_check (record { program = p; keys = side.keys }) exchange.section_length exchange.challenge ms key both,
      opening_check (record { program = p; keys = side.keys }) key macs cs,
    )

    same : checks side.program masks claims
        ≡ checks statement.program (take (section_count statement.program exchange.section_length) (drop statement.program.givens keys)) statement.claims
    same i = checks (program i) (masked i) (claimed i)

    here : Judges few opened judgement
    here = subst (λ (q : ProductCheck × OpeningCheck). Judges q.0 q.1 judgement) same judged
