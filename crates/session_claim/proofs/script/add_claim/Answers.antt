use Rattle.std.proofs.Common.{◌≤◌, ◌^◌, subst}
use Rattle.session_script.specs.Scripts.{weight}
use Rattle.session_claim.proofs.Places.{claim_few}
use Rattle.session_claim.proofs.script.add_claim.Goals as goal

pub returns-clause-few : goal.returns-clause-few
returns-clause-few g c =
    claim_few (g.C.Claim.claim c.args.claim.now) c.args.section c.has_places.ensures.verdict
    (subst (λ l. weight l ≤ 2 ^ 20) c.in_ok-answers.ensures.places c.in_ok-answers.ensures.few)
