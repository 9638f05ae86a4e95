use Rattle.std.proofs.Common.{◌≡◌, ◌∙◌, ◌++◌, ◌≤◌, ◌^◌, ◌+◌, ℕ, sym, ap, subst}
use Rattle.std.specs.Prelude.{All}
use Rattle.zk_model.specs.Transcript.{Grant}
use Rattle.proof_frames.specs.Readings.{IsShortPlace}
use Rattle.session_script.specs.Scripts.{weight}
use Rattle.session_claim.specs.Script.{claim_places, rounds_places, claim_behind}
use Rattle.session_claim.proofs.Places.{behind_few, behind_short, ask_short, reply_short}
use Rattle.session_claim.proofs.script.claim_behind.Given.{Over}
use Rattle.session_claim.proofs.script.claim_behind.Goals.{In_ok-add_claim}
use Rattle.session_claim.proofs.script.claim_behind.Goals as goal

section : (g : Over) (c : In_ok-add_claim g) → c.grant.inside.section ≡ c.args.grant.section_length
section g c = ap (λ (q : Grant). q.section_length) c.grant.view_is

items : (g : Over) (c : In_ok-add_claim g) → c.add_claim.new.places.items ≡ claim_behind c.args.params.now (g.C.Claim.claim c.args.claim.now) c.args.grant
items g c =
    c.in_ok-add_claim.ensures.places
    ∙ (λ i. (c.in_ok-add_rounds.ensures ∙ ap (λ l. l ++ rounds_places c.args.params.now c.args.grant) c.new-places.ensures.items) i
    ++ claim_places (g.C.Claim.claim c.args.claim.now) (section g c i))

pub returns-clause-short : goal.returns-clause-short
returns-clause-short g c =
    subst (All IsShortPlace) (sym (items g c))
    (behind_short c.args.params.now (g.C.Claim.claim c.args.claim.now) c.args.grant
    (ask_short c.args.params.now 0 c.requires.params) (reply_short c.args.params.now 0 c.requires.params)
    (subst (λ (n : ℕ). All IsShortPlace (claim_places (g.C.Claim.claim c.args.claim.now) n)) (section g c) c.in_ok-add_claim.ensures.short))

pub returns-clause-few : goal.returns-clause-few
returns-clause-few g c =
    subst (λ l. weight l ≤ 2 ^ 24) (sym (items g c))
    (behind_few c.args.params.now (g.C.Claim.claim c.args.claim.now) c.args.grant c.requires.few
    (subst (λ (n : ℕ). weight (claim_places (g.C.Claim.claim c.args.claim.now) n) ≤ 2 ^ 20 + 3) (section g c) c.in_ok-add_claim.ensures.few))
