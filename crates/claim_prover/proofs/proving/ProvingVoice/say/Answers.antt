use Rattle.std.proofs.Common.{◌≡◌, List, ◌+◌, ◌≤◌, length, refl, sym, ◌∙◌, ap, subst}
use Rattle.std.proofs.Common.{Vec, Global}
use Rattle.std.proofs.lemmas.List.{length-map}
use Rattle.std.specs.Prelude.{IsSome, All}
use Rattle.zk_model.specs.Frames.{AreReplies}
use Rattle.tree_messages.specs.declared.TreeReply.{TreeReply}
use Rattle.zk_model.specs.Frames.{Allows}
use Rattle.zk_model.specs.Transcript.{Grant}
use Rattle.round_fan.specs.Fans.{lists_of}
use Rattle.zk_model.specs.Frames.{AreElements, corrections}
use Rattle.zk_model.specs.declared.Expect.TheVariants as expect
use Rattle.session_prover.specs.Stages.{ClaimantTells, claimant_tells}
use Rattle.claim_prover.specs.Telling.{Knowledge, SuitsClaim, knowledge_of}
use Rattle.claim_prover.proofs.AtPlaces.{knows_at, asks_at, corrections_at, sums_at, openings_at, asks_allowed, answer_allowed, sums_pass, openings_pass, poly_sums_at, poly_sums_pass, some_same, says_one}
use Rattle.claim_prover.proofs.proving.ProvingVoice.say.Given.{Over}
use Rattle.claim_prover.proofs.proving.ProvingVoice.say.Goals as goal

abbrev claims : (g : Over) → ClaimantTells g.row.O.Denot
claims g = claimant_tells g.O.Claimant.asked g.O.Claimant.answer g.O.Claimant.total g.O.Claimant.moves

abbrev knows : (g : Over) → g.row.W.Denot → Knowledge
knows g w = knowledge_of (g.W.Claim.claim w) (g.W.Witness.said w) (g.W.Witness.given w) (g.W.Witness.replying w)

pub next_asks-requires : goal.next_asks-requires
next_asks-requires g c =
    let at = asks_at (claims g) (knows g c.args.self.now.witness.now) c.args.self.now.file.now
    c.has_places.ensures c.total-total.ensures.file c.asks_are_in_range.ensures _ c.args.place c.requires.reached.0 c.requires.reached.1 c.in-Ask.height c.in-Ask.trees c.in-Ask.units_left c.in-Ask.is in
    (at.said, at.due, at.asks)

pub the_grant-given-requires : goal.the_grant-given-requires
the_grant-given-requires g c =
    let at = corrections_at (claims g) (knows g c.args.self.now.witness.now) c.args.self.now.file.now
    c.has_places.ensures c.total-total.ensures.file c.asks_are_in_range.ensures _ c.args.place c.requires.reached.0 c.requires.reached.1 c.in-Corrections.count c.in-Corrections.is in
    subst IsSome (sym at.has.granted) refl

pub commit-requires-clause-suits : goal.commit-requires-clause-suits
commit-requires-clause-suits g c κs within =
    let at = corrections_at (claims g) (knows g c.args.self.now.witness.now) c.args.self.now.file.now
    c.has_places.ensures c.total-total.ensures.file c.asks_are_in_range.ensures _ c.args.place c.requires.reached.0 c.requires.reached.1 c.in-Corrections.count c.in-Corrections.is in
    let same : at.given ≡ c.the_grant-given.result = some_same at.given c.the_grant-given.result (sym at.has.granted ∙ c.the_grant-given.ensures) in
    subst (λ (q : Grant). SuitsClaim (g.W.Claim.claim c.args.self.now.witness.now) c.args.self.now.file.now.params q) same at.has.suits

pub commit-requires-clause-within : goal.commit-requires-clause-within
commit-requires-clause-within g c κs within =
    let at = corrections_at (claims g) (knows g c.args.self.now.witness.now) c.args.self.now.file.now
    c.has_places.ensures c.total-total.ensures.file c.asks_are_in_range.ensures _ c.args.place c.requires.reached.0 c.requires.reached.1 c.in-Corrections.count c.in-Corrections.is in
    let same : at.given ≡ c.the_grant-given.result = some_same at.given c.the_grant-given.result (sym at.has.granted ∙ c.the_grant-given.ensures) in
    subst (λ (q : Grant). q.start + q.count ≤ c.args.self.now.file.now.params.total) same at.has.within

pub commit-requires-clause-whole : goal.commit-requires-clause-whole
commit-requires-clause-whole g c κs within =
    let at = corrections_at (claims g) (knows g c.args.self.now.witness.now) c.args.self.now.file.now
    c.has_places.ensures c.total-total.ensures.file c.asks_are_in_range.ensures _ c.args.place c.requires.reached.0 c.requires.reached.1 c.in-Corrections.count c.in-Corrections.is in
    let same : at.given ≡ c.the_grant-given.result = some_same at.given c.the_grant-given.result (sym at.has.granted ∙ c.the_grant-given.ensures) in
    λ extended. ap length c.deref.ensures.value
    ∙ sym (length-map c.args.self.now.replies.items (λ (v : Vec TreeReply Global). v.items)) ∙ at.replied.whole extended ∙ ap (λ (q : Grant). q.count) same

pub commit-requires-clause-each : goal.commit-requires-clause-each
commit-requires-clause-each g c κs within =
    let at = corrections_at (claims g) (knows g c.args.self.now.witness.now) c.args.self.now.file.now
    c.has_places.ensures c.total-total.ensures.file c.asks_are_in_range.ensures _ c.args.place c.requires.reached.0 c.requires.reached.1 c.in-Corrections.count c.in-Corrections.is in
    subst (λ (l : List (Vec TreeReply Global)). All (AreReplies c.args.self.now.file.now.params.height c.args.self.now.file.now.params.trees) (lists_of l)) (sym c.deref.ensures.value) at.replied.each

pub next_answer-requires : goal.next_answer-requires
next_answer-requires g c =
    let at = sums_at (claims g) (knows g c.args.self.now.witness.now) c.args.self.now.file.now
    c.has_places.ensures c.total-total.ensures.file c.asks_are_in_range.ensures _ c.args.place c.requires.reached.0 c.requires.reached.1 c.in-Sums.sections c.in-Sums.is in
    (at.said, at.due, at.answers)

pub next_answer-requires-in-Openings : goal.next_answer-requires-in-Openings
next_answer-requires-in-Openings g c =
    let at = openings_at (claims g) (knows g c.args.self.now.witness.now) c.args.self.now.file.now
    c.has_places.ensures c.total-total.ensures.file c.asks_are_in_range.ensures _ c.args.place c.requires.reached.0 c.requires.reached.1 c.in-Openings.count c.in-Openings.is in
    (at.said, at.due, at.answers)

pub returns-in-Ask-clause-allowed : goal.returns-in-Ask-clause-allowed
returns-in-Ask-clause-allowed g c =
    let at = asks_at (claims g) (knows g c.args.self.now.witness.now) c.args.self.now.file.now
    c.has_places.ensures c.total-total.ensures.file c.asks_are_in_range.ensures _ c.args.place c.requires.reached.0 c.requires.reached.1 c.in-Ask.height c.in-Ask.trees c.in-Ask.units_left c.in-Ask.is in
    asks_allowed (claims g) (knows g c.args.self.now.witness.now) c.args.self.now.file.now c.args.place c.in-Ask.height c.in-Ask.trees c.in-Ask.units_left _ c.in-Ask.is at _ _ c.next_asks.ensures

pub returns-in_ok-pairs-in-Corrections-clause-allowed : goal.returns-in_ok-pairs-in-Corrections-clause-allowed
returns-in_ok-pairs-in-Corrections-clause-allowed g c =
    let at = corrections_at (claims g) (knows g c.args.self.now.witness.now) c.args.self.now.file.now
    c.has_places.ensures c.total-total.ensures.file c.asks_are_in_range.ensures _ c.args.place c.requires.reached.0 c.requires.reached.1 c.in-Corrections.count c.in-Corrections.is in
    subst (λ p. Allows p (corrections c.in_ok-pairs-in-Corrections.elements.items)) (sym c.in-Corrections.is)
    (c.in_ok-pairs-in-Corrections.elements.items, refl, subst (λ n. AreElements n c.in_ok-pairs-in-Corrections.elements.items) (sym at.count_is) c.in_ok-pairs-in-Corrections.ensures.fit)

pub returns-in-Sums-clause-allowed : goal.returns-in-Sums-clause-allowed
returns-in-Sums-clause-allowed g c =
    let at = sums_at (claims g) (knows g c.args.self.now.witness.now) c.args.self.now.file.now
    c.has_places.ensures c.total-total.ensures.file c.asks_are_in_range.ensures _ c.args.place c.requires.reached.0 c.requires.reached.1 c.in-Sums.sections c.in-Sums.is in
    answer_allowed (claims g) (knows g c.args.self.now.witness.now) c.args.self.now.file.now c.args.place (expect.Sums c.in-Sums.sections) _ c.in-Sums.is at _ _ c.next_answer.ensures

pub returns-in-Sums-clause-passes : goal.returns-in-Sums-clause-passes
returns-in-Sums-clause-passes g c =
    let at = sums_at (claims g) (knows g c.args.self.now.witness.now) c.args.self.now.file.now
    c.has_places.ensures c.total-total.ensures.file c.asks_are_in_range.ensures _ c.args.place c.requires.reached.0 c.requires.reached.1 c.in-Sums.sections c.in-Sums.is in
    sums_pass (claims g) (knows g c.args.self.now.witness.now) c.args.self.now.file.now c.in-Sums.sections _ _ at _ _ c.next_answer.ensures

pub returns-in-Openings-clause-allowed : goal.returns-in-Openings-clause-allowed
returns-in-Openings-clause-allowed g c =
    let at = openings_at (claims g) (knows g c.args.self.now.witness.now) c.args.self.now.file.now
    c.has_places.ensures c.total-total.ensures.file c.asks_are_in_range.ensures _ c.args.place c.requires.reached.0 c.requires.reached.1 c.in-Openings.count c.in-Openings.is in
    answer_allowed (claims g) (knows g c.args.self.now.witness.now) c.args.self.now.file.now c.args.place (expect.Openings c.in-Openings.count) _ c.in-Openings.is at _ _ c.next_answer-in-Openings.ensures

pub returns-in-Openings-clause-passes : goal.returns-in-Openings-clause-passes
returns-in-Openings-clause-passes g c =
    let at = openings_at (claims g) (knows g c.args.self.now.witness.now) c.args.self.now.file.now
    c.has_places.ensures c.total-total.ensures.file c.asks_are_in_range.ensures _ c.args.place c.requires.reached.0 c.requires.reached.1 c.in-Openings.count c.in-Openings.is in
    openings_pass (claims g) (knows g c.args.self.now.witness.now) c.args.self.now.file.now c.in-Openings.count _ _ at _ _ c.next_answer-in-Openings.ensures

pub next_answer-requires-in-PolySums : goal.next_answer-requires-in-PolySums
next_answer-requires-in-PolySums g c =
    let at = poly_sums_at (claims g) (knows g c.args.self.now.witness.now) c.args.self.now.file.now
    c.has_places.ensures c.total-total.ensures.file c.asks_are_in_range.ensures _ c.args.place c.requires.reached.0 c.requires.reached.1 c.in-PolySums.count c.in-PolySums.is in
    (at.said, at.due, at.answers)

pub returns-in-PolySums-clause-allowed : goal.returns-in-PolySums-clause-allowed
returns-in-PolySums-clause-allowed g c =
    let at = poly_sums_at (claims g) (knows g c.args.self.now.witness.now) c.args.self.now.file.now
    c.has_places.ensures c.total-total.ensures.file c.asks_are_in_range.ensures _ c.args.place c.requires.reached.0 c.requires.reached.1 c.in-PolySums.count c.in-PolySums.is in
    answer_allowed (claims g) (knows g c.args.self.now.witness.now) c.args.self.now.file.now c.args.place (expect.PolySums c.in-PolySums.count) _ c.in-PolySums.is at _ _ c.next_answer-in-PolySums.ensures

pub returns-in-PolySums-clause-passes : goal.returns-in-PolySums-clause-passes
returns-in-PolySums-clause-passes g c =
    let at = poly_sums_at (claims g) (knows g c.args.self.now.witness.now) c.args.self.now.file.now
    c.has_places.ensures c.total-total.ensures.file c.asks_are_in_range.ensures _ c.args.place c.requires.reached.0 c.requires.reached.1 c.in-PolySums.count c.in-PolySums.is in
    poly_sums_pass (claims g) (knows g c.args.self.now.witness.now) c.args.self.now.file.now c.in-PolySums.count _ _ at _ _ c.next_answer-in-PolySums.ensures

pub unreachable-requires : goal.unreachable-requires
unreachable-requires g c =
    says_one (claims g) (knows g c.args.self.now.witness.now) c.args.self.now.file.now _ c.args.place (knows_at (claims g) (knows g c.args.self.now.witness.now) c.args.self.now.file.now
    c.has_places.ensures c.total-total.ensures.file c.asks_are_in_range.ensures _ c.args.place c.requires.reached.0 c.requires.reached.1)
    c.requires.own c.in_default.not-Ask c.in_default.not-Corrections c.in_default.not-Sums c.in_default.not-Openings c.in_default.not-PolySums
