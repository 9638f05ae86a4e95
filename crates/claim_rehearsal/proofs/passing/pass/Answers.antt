use Rattle.std.proofs.Common.{◌≡◌, ◌∙◌, ◌*◌, ◌≤◌, ◌++◌, List, ℕ, length, map, sym, ap, subst}
use Rattle.std.specs.Prelude.{All}
use Rattle.std.proofs.lemmas.List.Elements.{All-append}
use Rattle.zk_model.specs.Correlations.{span_keys}
use Rattle.zk_model.specs.Files.{correlations_per_unit}
use Rattle.zk_model.specs.Frames.{Frame}
use Rattle.zk_model.specs.Frames as model
use Rattle.zk_model.specs.Mac.{Pair}
use Rattle.zk_model.specs.Transcript.{Grant}
use Rattle.zk_model.specs.View.{span_of}
use Rattle.zk_model.specs.declared.Expect.{Expect}
use Rattle.zk_model.specs.declared.Expect.TheVariants as expect
use Rattle.zk_model.specs.declared.Params.{Params}
use Rattle.proof_frames.specs.Frames.{frame_value, IsShort}
use Rattle.proof_frames.specs.Readings.{IsShortPlace}
use Rattle.wire_auth.specs.Held.{items_in}
use Rattle.session_claim.specs.Claims.{claim_needs}
use Rattle.claim_prover.specs.Telling.{Knowledge, SuitsClaim, knowledge_of}
use Rattle.claim_rehearsal.specs.Passed.{ArePassedRounds, IsAnswered}
use Rattle.claim_rehearsal.proofs.SessionPassed.{Knows, enough, passed_short, session_passed}
use Rattle.claim_rehearsal.proofs.passing.pass.Given.{Over}
use Rattle.claim_rehearsal.proofs.passing.pass.Goals as goal

abbrev knows : (g : Over) (w : g.row.W.Denot) → Knowledge
knows g w = knowledge_of (g.W.Claim.claim w) (g.W.Witness.said w) (g.W.Witness.given w) (g.W.Witness.replying w)

pub answer-requires-clause-pairs : goal.answer-requires-clause-pairs
answer-requires-clause-pairs g c κs within =
    enough (g.W.Claim.claim c.args.witness.now) c.args.verifier.now.params c.args.grant _ c.total-verifier.ensures.file.params c.requires.suits
    (ap (λ (l : List Pair). length l) c.as_slice.ensures ∙ c.in_ok-asked.ensures.pairs
    ∙ ap (λ (p : Params). c.args.grant.count * correlations_per_unit p) c.requires.dealt.params)

pub answer-requires-clause-keys : goal.answer-requires-clause-keys
answer-requires-clause-keys g c κs within =
    enough (g.W.Claim.claim c.args.witness.now) c.args.verifier.now.params c.args.grant _ c.total-verifier.ensures.file.params c.requires.suits
    (ap (λ (l : List ℕ). length l) c.as_slice-2.ensures ∙ c.in_ok-asked.ensures.key_count)

pub returns-clause-passed : goal.returns-clause-passed
returns-clause-passed g c =
    session_passed (knows g c.args.witness.now) c.args.prover.now c.args.verifier.now c.args.grant c.hello-hello.result c.as_slice.result.now c.as_slice-2.result.now
    _ _ c.in_ok-said.said c.keys_fit.ensures
    (record {
      prover_file = c.total-prover.ensures.file;
      verifier_file = c.total-verifier.ensures.file;
      dealt = c.requires.dealt;
      suits = c.requires.suits;
      within = c.requires.within;
      said = c.hello-hello.ensures.said ∙ ap (g.W.Witness.said c.args.witness.now) c.id.ensures.id;
      greets = subst (λ id. (g.W.Claim.claim c.args.witness.now).greets id c.hello-hello.result) c.id.ensures.id c.hello-hello.ensures.greets;
      passed = subst (λ (l : List Pair). ArePassedRounds c.args.prover.now c.args.verifier.now c.args.grant l
          (map frame_value c.in_ok-asked.field-0.asked.items ++ map frame_value c.in_ok-asked.field-0.replied.items)) (sym c.as_slice.ensures) c.in_ok-asked.ensures.passed;
      count = ap (λ (l : List ℕ). length l) (sym c.in_ok-asked.ensures.keys) ∙ c.in_ok-asked.ensures.key_count;
    })
    (c.as_slice-2.ensures ∙ c.in_ok-asked.ensures.keys)
    c.in_ok-said.ensures.answered c.in_ok-frames.ensures

pub returns-clause-short : goal.returns-clause-short
returns-clause-short g c =
    let claim = g.W.Claim.claim c.args.witness.now in
    let section : c.grant.inside.section ≡ c.args.grant.section_length = ap (λ (q : Grant). q.section_length) c.grant.view_is in
    subst (All IsShort) (sym c.in_ok-frames.ensures)
    (passed_short (knows g c.args.witness.now) c.args.verifier.now c.args.grant c.as_slice.result.now c.as_slice-2.result.now c.hello-hello.result _ c.in_ok-said.said
    c.in_ok-said.ensures.answered
    (subst IsShortPlace c.hello_place-greeting.ensures.place c.hello_place-greeting.ensures.short)
    c.hello-hello.ensures.allowed
    (All-append IsShort (map frame_value c.in_ok-asked.field-0.asked.items) (map frame_value c.in_ok-asked.field-0.replied.items)
    c.in_ok-asked.ensures.short.asks c.in_ok-asked.ensures.short.replies)
    (subst (λ n. IsShortPlace (expect.Corrections n)) c.givens-givens.ensures.count c.givens-givens.ensures.short)
    (subst (All IsShortPlace) (c.in_ok-_places.ensures.places ∙ ap claim.answers section) c.in_ok-_places.ensures.short)
    (subst IsShortPlace c.verdict_place-verdict.ensures.place c.verdict_place-verdict.ensures.short))
