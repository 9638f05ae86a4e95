use Rattle.std.proofs.Common.{◌≡◌, ◌∙◌, ◌≤◌, ℕ, Some, refl, sym, ap, subst}
use Rattle.std.specs.Prelude.{IfSome, IsSome, IsSomeAnd, List, map}
use Rattle.proof_frames.specs.Frames.{frame_value}
use Rattle.proof_frames.specs.declared.frame.Frame.{Frame}
use Rattle.zk_model.specs.ServedVerifier.{challenge_coin}
use Rattle.zk_model.specs.Frames.{Allows}
use Rattle.zk_model.specs.Transcript.{Grant}
use Rattle.zk_model.specs.declared.limits.TheConstants.{MAX_DEALT_UNITS}
use Rattle.session_verifier.specs.Serving.{Grants, grants_of}
use Rattle.claim_verifier.specs.Hearing.{Heard}
use Rattle.claim_verifier.specs.Rounds.{AreKeysFor, IsToJudge, round_stage}
use Rattle.claim_verifier.proofs.AtPlaces.{grant_at, reply_at, challenge_at, verdict_at, said_is, within_dealt, within_total, unkeyed, same_reply, some_same, due_as, verdict_there, verdict_allowed}
use Rattle.claim_verifier.proofs.verifying.VerifyingVoice.say.Given.{Over}
use Rattle.claim_verifier.proofs.verifying.VerifyingVoice.say.Goals as goal

abbrev grants : (g : Over) → Grants g.row.O.Denot
grants g = grants_of g.O.Grantor.answer g.O.Grantor.asked g.O.Grantor.total g.O.Grantor.may g.O.Grantor.moves

pub grant_units-requires-clause-few : goal.grant_units-requires-clause-few
grant_units-requires-clause-few g c = (grant_at (grants g) (g.C.Claim.claim c.args.self.now.claim.now) c.args.self.now.file.now c.args.self.now.section
    c.has_places.ensures c.total-total.ensures.file c.replies_are_in_range.ensures _ c.args.place c.requires.reached.0 c.requires.reached.1 c.in-Grant.is).few

pub grant_units-requires-clause-once : goal.grant_units-requires-clause-once
grant_units-requires-clause-once g c = (grant_at (grants g) (g.C.Claim.claim c.args.self.now.claim.now) c.args.self.now.file.now c.args.self.now.section
    c.has_places.ensures c.total-total.ensures.file c.replies_are_in_range.ensures _ c.args.place c.requires.reached.0 c.requires.reached.1 c.in-Grant.is).unasked

pub grant_units-requires-clause-may : goal.grant_units-requires-clause-may
grant_units-requires-clause-may g c = (grant_at (grants g) (g.C.Claim.claim c.args.self.now.claim.now) c.args.self.now.file.now c.args.self.now.section
    c.has_places.ensures c.total-total.ensures.file c.replies_are_in_range.ensures _ c.args.place c.requires.reached.0 c.requires.reached.1 c.in-Grant.is).may

pub invariant_of-self : goal.invariant_of-self
invariant_of-self g c =
    let at = grant_at (grants g) (g.C.Claim.claim c.args.self.now.claim.now) c.args.self.now.file.now c.args.self.now.section
    c.has_places.ensures c.total-total.ensures.file c.replies_are_in_range.ensures _ c.args.place c.requires.reached.0 c.requires.reached.1 c.in-Grant.is in
    record {
      some = c.args.self.now.some;
      keyed = subst (λ o. IfSome o (λ keys. IsSomeAnd (Some c.in_ok-grant-in-Grant.grant) (λ given. AreKeysFor c.args.self.now.file.now given keys)))
          (sym (unkeyed c.args.self.now.rounds _ (ap (λ (h : Heard). h.round) at.heard))) tt;
    }

pub returns-in_ok-grant-in-Grant-clause-passes : goal.returns-in_ok-grant-in-Grant-clause-passes
returns-in_ok-grant-in-Grant-clause-passes g c =
    let at = grant_at (grants g) (g.C.Claim.claim c.args.self.now.claim.now) c.args.self.now.file.now c.args.self.now.section
    c.has_places.ensures c.total-total.ensures.file c.replies_are_in_range.ensures _ c.args.place c.requires.reached.0 c.requires.reached.1 c.in-Grant.is in
    let leased = c.in_ok-grant-in-Grant.ensures.granted in
    record {
      span = leased.0;
      leased = leased.1;
      counted = leased.2;
      within = within_total _ _ _ leased.3 at.total;
      few = at.few;
      given_is = leased.4;
      heard = refl;
    }

pub next_reply-requires : goal.next_reply-requires
next_reply-requires g c =
    let at = reply_at (grants g) (g.C.Claim.claim c.args.self.now.claim.now) c.args.self.now.file.now c.args.self.now.section
    c.has_places.ensures c.total-total.ensures.file c.replies_are_in_range.ensures _ c.args.place c.requires.reached.0 c.requires.reached.1 c.in-Reply.height c.in-Reply.trees c.in-Reply.units_left c.in-Reply.is in
    (at.0, at.1, at.2)

pub returns-in-Reply-clause-allowed : goal.returns-in-Reply-clause-allowed
returns-in-Reply-clause-allowed g c =
    let at = reply_at (grants g) (g.C.Claim.claim c.args.self.now.claim.now) c.args.self.now.file.now c.args.self.now.section
    c.has_places.ensures c.total-total.ensures.file c.replies_are_in_range.ensures _ c.args.place c.requires.reached.0 c.requires.reached.1 c.in-Reply.height c.in-Reply.trees c.in-Reply.units_left c.in-Reply.is in
    same_reply c.args.place (round_stage c.args.self.now.rounds) at.0 c.next_reply.result.items at.1 c.next_reply.ensures.next.0 at.2 c.next_reply.ensures.next.1 at.3

pub the_grant-given-requires : goal.the_grant-given-requires
the_grant-given-requires g c =
    let at = challenge_at (grants g) (g.C.Claim.claim c.args.self.now.claim.now) c.args.self.now.file.now c.args.self.now.section
    c.has_places.ensures c.total-total.ensures.file c.replies_are_in_range.ensures _ c.args.place c.requires.reached.0 c.requires.reached.1 c.in-Challenge.is in
    subst IsSome (sym at.1.granted) refl

pub challenge-requires : goal.challenge-requires
challenge-requires g c =
    let at = challenge_at (grants g) (g.C.Claim.claim c.args.self.now.claim.now) c.args.self.now.file.now c.args.self.now.section
    c.has_places.ensures c.total-total.ensures.file c.replies_are_in_range.ensures _ c.args.place c.requires.reached.0 c.requires.reached.1 c.in-Challenge.is in
    let same : at.0 ≡ c.the_grant-given.result = some_same _ _ (sym at.1.granted ∙ c.the_grant-given.ensures) in
    let start : at.0.start ≡ c.given.inside.start = ap (λ (q : Grant). q.start) (same ∙ sym c.given.view_is) in
    subst (λ (n : ℕ). n ≤ MAX_DEALT_UNITS) start (within_dealt c.args.self.now.file.now at.0 c.total-total.ensures.file at.1.within)

pub the_grant-given-requires-in-Verdict : goal.the_grant-given-requires-in-Verdict
the_grant-given-requires-in-Verdict g c =
    let at = verdict_at (grants g) (g.C.Claim.claim c.args.self.now.claim.now) c.args.self.now.file.now c.args.self.now.section
    c.has_places.ensures c.total-total.ensures.file c.replies_are_in_range.ensures _ c.args.place c.requires.reached.0 c.requires.reached.1 (verdict_there c.args.place c.in-Verdict.is) in
    subst IsSome (sym at.1) refl

pub judge-requires-clause-some : goal.judge-requires-clause-some
judge-requires-clause-some g c κs inside =
    let at = verdict_at (grants g) (g.C.Claim.claim c.args.self.now.claim.now) c.args.self.now.file.now c.args.self.now.section
    c.has_places.ensures c.total-total.ensures.file c.replies_are_in_range.ensures _ c.args.place c.requires.reached.0 c.requires.reached.1 (verdict_there c.args.place c.in-Verdict.is) in
    let same : at.0 ≡ c.the_grant-given-in-Verdict.result = some_same _ _ (sym at.1 ∙ c.the_grant-given-in-Verdict.ensures) in
    subst (λ (q : Grant). 1 ≤ q.section_length) same (subst (λ (n : ℕ). 1 ≤ n) (sym at.2.section) c.args.self.now.some)

pub judge-requires-clause-due : goal.judge-requires-clause-due
judge-requires-clause-due g c κs inside =
    let at = verdict_at (grants g) (g.C.Claim.claim c.args.self.now.claim.now) c.args.self.now.file.now c.args.self.now.section
    c.has_places.ensures c.total-total.ensures.file c.replies_are_in_range.ensures _ c.args.place c.requires.reached.0 c.requires.reached.1 (verdict_there c.args.place c.in-Verdict.is) in
    let claim = g.C.Claim.claim c.args.self.now.claim.now in
    let same : at.0 ≡ c.the_grant-given-in-Verdict.result = some_same _ _ (sym at.1 ∙ c.the_grant-given-in-Verdict.ensures) in
    subst (λ (q : List ℕ × List Frame). IsToJudge claim c.args.self.now.file.now c.the_grant-given-in-Verdict.result.section_length
    c.the_grant-given-in-Verdict.result (round_stage c.args.self.now.rounds) (record {
      section_length = c.the_grant-given-in-Verdict.result.section_length;
      corrections = q.0;
      challenge = challenge_coin c.args.self.now.file.now c.the_grant-given-in-Verdict.result.start;
      answers = map frame_value q.1;
    })) (λ i. (sym c.deref.ensures.value i, sym c.deref-in-Verdict.ensures.value i))
    (due_as claim c.args.self.now.file.now c.args.self.now.section at.0 c.the_grant-given-in-Verdict.result (record {
      given = c.args.self.now.given;
      round = round_stage c.args.self.now.rounds;
      corrections = c.args.self.now.corrections.items;
      answers = map frame_value c.args.self.now.answers.items;
      judged = c.args.self.now.judged;
    }) same at.2)

pub returns-in_ok-judgement-in-Verdict-clause-allowed : goal.returns-in_ok-judgement-in-Verdict-clause-allowed
returns-in_ok-judgement-in-Verdict-clause-allowed g c =
    let at = verdict_at (grants g) (g.C.Claim.claim c.args.self.now.claim.now) c.args.self.now.file.now c.args.self.now.section
    c.has_places.ensures c.total-total.ensures.file c.replies_are_in_range.ensures _ c.args.place c.requires.reached.0 c.requires.reached.1 (verdict_there c.args.place c.in-Verdict.is) in
    verdict_allowed (g.C.Claim.claim c.args.self.now.claim.now) c.args.place _ at.3
    (subst (Allows (g.C.Claim.claim c.args.self.now.claim.now).verdict) (sym c.verdict_frame.ensures) c.in_ok-judgement-in-Verdict.ensures.placed)

pub unreachable-requires : goal.unreachable-requires
unreachable-requires g c =
    said_is (grants g) (g.C.Claim.claim c.args.self.now.claim.now) c.args.self.now.file.now c.args.self.now.section
    c.has_places.ensures c.total-total.ensures.file c.replies_are_in_range.ensures _ c.args.place c.requires.reached.0 c.requires.reached.1 c.requires.own
    c.in_default.not-Grant c.in_default.not-Reply c.in_default.not-Challenge c.in_default.not-Verdict c.in_default.not-PolyVerdict
