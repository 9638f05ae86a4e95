use Rattle.std.proofs.Common.{◌≡◌, ℕ, List, ◌≤◌, length, refl, sym, ◌∙◌, ap, subst}
use Rattle.std.specs.Prelude.{IsSome}
use Rattle.zk_model.specs.Mac.{Pair}
use Rattle.zk_model.specs.Transcript.{Grant}
use Rattle.session_prover.specs.Stages.{ClaimantTells, claimant_tells}
use Rattle.session_claim.specs.Claims.{claim_needs}
use Rattle.claim_prover.specs.Telling.{Knowledge, knowledge_of}
use Rattle.claim_prover.proofs.AtPlaces.{knows_at, grant_at, challenge_at, some_same, hears_one}
use Rattle.claim_prover.proofs.proving.ProvingVoice.hear.Given.{Over}
use Rattle.claim_prover.proofs.proving.ProvingVoice.hear.Goals as goal

abbrev claims : (g : Over) → ClaimantTells g.row.O.Denot
claims g = claimant_tells g.O.Claimant.asked g.O.Claimant.answer g.O.Claimant.total g.O.Claimant.moves

abbrev knows : (g : Over) → g.row.W.Denot → Knowledge
knows g w = knowledge_of (g.W.Claim.claim w) (g.W.Witness.said w) (g.W.Witness.given w) (g.W.Witness.replying w)

pub take_grant-requires-clause-once : goal.take_grant-requires-clause-once
take_grant-requires-clause-once g c = (grant_at (claims g) (knows g c.args.self.now.witness.now) c.args.self.now.file.now
    c.has_places.ensures c.total-total.ensures.file c.asks_are_in_range.ensures _ c.args.place c.requires.reached.0 c.requires.reached.1 c.in-Grant.is).unasked

pub take_grant-requires-clause-total : goal.take_grant-requires-clause-total
take_grant-requires-clause-total g c = (grant_at (claims g) (knows g c.args.self.now.witness.now) c.args.self.now.file.now
    c.has_places.ensures c.total-total.ensures.file c.asks_are_in_range.ensures _ c.args.place c.requires.reached.0 c.requires.reached.1 c.in-Grant.is).total

pub the_grant-given-requires : goal.the_grant-given-requires
the_grant-given-requires g c =
    let at = challenge_at (claims g) (knows g c.args.self.now.witness.now) c.args.self.now.file.now
    c.has_places.ensures c.total-total.ensures.file c.asks_are_in_range.ensures _ c.args.place c.requires.reached.0 c.requires.reached.1 c.in-Challenge.is in
    subst IsSome (sym at.has.granted) refl

pub answer-requires-clause-some : goal.answer-requires-clause-some
answer-requires-clause-some g c =
    let at = challenge_at (claims g) (knows g c.args.self.now.witness.now) c.args.self.now.file.now
    c.has_places.ensures c.total-total.ensures.file c.asks_are_in_range.ensures _ c.args.place c.requires.reached.0 c.requires.reached.1 c.in-Challenge.is in
    let same : at.given ≡ c.the_grant-given.result = some_same at.given c.the_grant-given.result (sym at.has.granted ∙ c.the_grant-given.ensures) in
    let section : at.given.section_length ≡ c.given.inside.section = ap (λ (q : Grant). q.section_length) (same ∙ sym c.given.view_is) in
    subst (λ (n : ℕ). 1 ≤ n) section at.has.suits.section_some

pub answer-requires-clause-enough : goal.answer-requires-clause-enough
answer-requires-clause-enough g c =
    let at = challenge_at (claims g) (knows g c.args.self.now.witness.now) c.args.self.now.file.now
    c.has_places.ensures c.total-total.ensures.file c.asks_are_in_range.ensures _ c.args.place c.requires.reached.0 c.requires.reached.1 c.in-Challenge.is in
    let same : at.given ≡ c.the_grant-given.result = some_same at.given c.the_grant-given.result (sym at.has.granted ∙ c.the_grant-given.ensures) in
    let section : at.given.section_length ≡ c.given.inside.section = ap (λ (q : Grant). q.section_length) (same ∙ sym c.given.view_is) in
    subst (λ (q : ℕ × List Pair). claim_needs (g.W.Claim.claim c.args.self.now.witness.now) q.0 ≤ length q.1) (λ i. (section i, sym c.as_slice-pairs.ensures i)) at.enough

pub unreachable-requires : goal.unreachable-requires
unreachable-requires g c = hears_one (claims g) (knows g c.args.self.now.witness.now) c.args.self.now.file.now _ c.args.place
    (knows_at (claims g) (knows g c.args.self.now.witness.now) c.args.self.now.file.now
    c.has_places.ensures c.total-total.ensures.file c.asks_are_in_range.ensures _ c.args.place c.requires.reached.0 c.requires.reached.1)
    c.requires.peers c.in_default.not-Grant c.in_default.not-Reply c.in_default.not-Challenge c.in_default.not-Verdict c.in_default.not-PolyVerdict
