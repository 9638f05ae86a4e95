use Rattle.std.proofs.Common.{◌≡◌, ◌∙◌, [], None, Some, map, inr, refl, sym, ap, subst}
use Rattle.zk_model.specs.declared.Side.TheVariants.{Verifier}
use Rattle.proof_frames.specs.Frames.{frame_value}
use Rattle.round_fan.specs.Fans.{lists_of}
use Rattle.session_driver.specs.declared.drive.Outcome.TheVariants.{Done}
use Rattle.frame_link.specs.Lines.{snapshot_of}
use Rattle.session_script.specs.Scripts.{EndsAccepted, Stage, stage_of, ScriptLeaves}
use Rattle.session_verifier.specs.Serving.{Grants, grants_of}
use Rattle.session_claim.specs.Script.{first_places, claim_behind}
use Rattle.claim_verifier.specs.Hearing.{Heard, Known, known_of, nothing_heard, asking, IsUnheard, verifier_rules}
use Rattle.claim_verifier.specs.Rounds.{round_stage}
use Rattle.claim_verifier.specs.declared.verify.SessionEnd.TheVariants.{Judged}
use Rattle.session_core.specs.declared.judgement.Judgement.{Judgement}
use Rattle.claim_verifier.proofs.Verified.{none_accepted, judged, shown}
use Rattle.claim_verifier.proofs.Whole.{heard_whole}
use Rattle.claim_verifier.proofs.verify.lead_claim.Given.{Over}
use Rattle.claim_verifier.proofs.verify.lead_claim.Goals as goal

abbrev grants : (g : Over) → Grants g.row.G.Denot
grants g = grants_of g.G.Grantor.answer g.G.Grantor.asked g.G.Grantor.total g.G.Grantor.may g.G.Grantor.moves

judgement_is : {one other : Judgement} → Judged one ≡ Judged other → one ≡ other
judgement_is same = cc

pub lead-requires-clause-reached : goal.lead-requires-clause-reached
lead-requires-clause-reached g c κs inside = record {
  start = known_of (record {
    given = None;
    round = asking (lists_of c.new.result.items);
    corrections = c.new-2.result.items;
    answers = map frame_value c.new-3.result.items;
    judged = None;
  }) c.args.grantor.now;
  begins = record {
    heard = (λ i. record {
      given = None;
      round = asking (lists_of (c.new.ensures.items i));
      corrections = c.new-2.ensures.items i;
      answers = map frame_value (c.new-3.ensures.items i);
      judged = None;
    });
    unasked = c.requires.once;
    total = c.requires.total;
    few = c.requires.few;
    may = c.requires.may;
  };
  frames = [];
  passed = (λ i. stage_of (known_of (record {
    given = None;
    round = asking (lists_of c.new.result.items);
    corrections = c.new-2.result.items;
    answers = map frame_value c.new-3.result.items;
    judged = None;
  }) c.args.grantor.now) (c.in-Ok.ensures.places i));
}

pub returns-in_default-clause-exact : goal.returns-in_default-clause-exact
returns-in_default-clause-exact g c ends = absurd (none_accepted (claim_behind c.args.file.now.params (g.C.Claim.claim c.args.claim.now))
    (first_places (g.C.Claim.claim c.args.claim.now))
    (subst (λ l. EndsAccepted (claim_behind c.args.file.now.params (g.C.Claim.claim c.args.claim.now)) (first_places (g.C.Claim.claim c.args.claim.now)) l)
    c.requires.fresh.log ends))

pub returns-in-Some-clause-leaves : goal.returns-in-Some-clause-leaves
returns-in-Some-clause-leaves g c =
    let claim = g.C.Claim.claim c.args.claim.now in
    let rules = verifier_rules (grants g) claim c.args.file.now c.args.section in
    let start : (record {
      given = None;
      round = asking (lists_of c.new.result.items);
      corrections = c.new-2.result.items;
      answers = map frame_value c.new-3.result.items;
      judged = None;
    }) ≡ nothing_heard = (λ i. record {
      given = None;
      round = asking (lists_of (c.new.ensures.items i));
      corrections = c.new-2.ensures.items i;
      answers = map frame_value (c.new-3.ensures.items i);
      judged = None;
    }) in
    let heard : Heard = (record {
      given = c.lead.new.end.voice.given;
      round = round_stage c.lead.new.end.voice.rounds;
      corrections = c.lead.new.end.voice.corrections.items;
      answers = map frame_value c.lead.new.end.voice.answers.items;
      judged = c.lead.new.end.voice.judged;
    }) in
    let leaves = subst (λ (s : Stage (Known g.row.G.Denot)). ScriptLeaves rules Verifier [] s (known_of heard c.lead.new.asked) Done
    (snapshot_of c.args.line.now) (snapshot_of c.lead.new.line))
    (λ i. stage_of (known_of (start i) c.args.grantor.now) (c.in-Ok.ensures.places i)) c.in-Done.ensures.leaves in
    let unheard : IsUnheard (grants g) claim c.args.file.now c.args.section (known_of nothing_heard c.args.grantor.now) =
    record { heard = refl; unasked = c.requires.once; total = c.requires.total; few = c.requires.few; may = c.requires.may } in
    inr (record {
      heard = heard;
      outcome = Done;
      leaves = leaves;
      ends = (refl, c.in-Some.is);
      shown = λ accepted. shown (grants g) claim c.args.file.now c.args.section c.has_places.ensures c.total-total.ensures.file c.replies_are_in_range.ensures
          c.is_sound.ensures c.args.grantor.now c.lead.new.asked heard (snapshot_of c.args.line.now) (snapshot_of c.lead.new.line) unheard leaves (c.in-Some.is ∙ ap Some (judgement_is accepted));
      whole = λ judgement is. heard_whole (grants g) claim c.args.file.now c.args.section c.has_places.ensures c.total-total.ensures.file
          c.replies_are_in_range.ensures c.is_sound.ensures c.keys_fit.ensures c.pairs_exist.ensures c.args.grantor.now c.lead.new.asked heard
          (snapshot_of c.args.line.now) (snapshot_of c.lead.new.line) leaves judgement (c.in-Some.is ∙ ap Some (judgement_is is));
    })

pub unreachable-requires : goal.unreachable-requires
unreachable-requires g c =
    let claim = g.C.Claim.claim c.args.claim.now in
    let rules = verifier_rules (grants g) claim c.args.file.now c.args.section in
    let start : (record {
      given = None;
      round = asking (lists_of c.new.result.items);
      corrections = c.new-2.result.items;
      answers = map frame_value c.new-3.result.items;
      judged = None;
    }) ≡ nothing_heard = (λ i. record {
      given = None;
      round = asking (lists_of (c.new.ensures.items i));
      corrections = c.new-2.ensures.items i;
      answers = map frame_value (c.new-3.ensures.items i);
      judged = None;
    }) in
    let heard : Heard = (record {
      given = c.lead.new.end.voice.given;
      round = round_stage c.lead.new.end.voice.rounds;
      corrections = c.lead.new.end.voice.corrections.items;
      answers = map frame_value c.lead.new.end.voice.answers.items;
      judged = c.lead.new.end.voice.judged;
    }) in
    let leaves = subst (λ (s : Stage (Known g.row.G.Denot)). ScriptLeaves rules Verifier [] s (known_of heard c.lead.new.asked) Done
    (snapshot_of c.args.line.now) (snapshot_of c.lead.new.line))
    (λ i. stage_of (known_of (start i) c.args.grantor.now) (c.in-Ok.ensures.places i)) c.in-Done.ensures.leaves in
    let unheard : IsUnheard (grants g) claim c.args.file.now c.args.section (known_of nothing_heard c.args.grantor.now) =
    record { heard = refl; unasked = c.requires.once; total = c.requires.total; few = c.requires.few; may = c.requires.may } in
    let found = judged (grants g) claim c.args.file.now c.args.section c.has_places.ensures c.total-total.ensures.file c.replies_are_in_range.ensures
    c.is_sound.ensures c.args.grantor.now c.lead.new.asked heard (snapshot_of c.args.line.now) (snapshot_of c.lead.new.line) unheard leaves in
    let none : None ≡ Some found.0 = sym c.in-None.is ∙ found.1 in cc
