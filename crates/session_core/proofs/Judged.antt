-- What the checks say of what the verifier took is what they say of the whole session.
use Rattle.std.proofs.Common.{◌≡◌, ℕ, List, [], drop, take, length, ap, refl, sym, ◌∙◌, subst}
use Rattle.std.proofs.lemmas.List.{length-map}
use Rattle.std.proofs.lemmas.List.FromFn.{length-map-range_with_len}
use Rattle.zk_model.specs.Program.{Program, section_count}
use Rattle.zk_model.specs.Mac.{corrected_keys}
use Rattle.zk_model.specs.Correlations.{span_keys}
use Rattle.zk_model.specs.Transcript.{Hello, Round}
use Rattle.zk_model.specs.Check.{ProductCheck, OpeningCheck, WireKeys, AreKeysFor, left_of_section}
use Rattle.zk_model.specs.View.{IsVerdictOf, span_of, session_keys, session_products, session_openings}
use Rattle.zk_model.specs.ServedVerifier.{challenge_coin}
use Rattle.wire_auth.specs.Sides.{VerifierSide}
use Rattle.std.specs.Prelude.{Result, Ok, Err, IfOk, slice_index}
use Rattle.std.specs.declared.alloc.AllocError.{AllocError}
use Rattle.mult_check.specs.Checks.{product_check, opening_check, SectionDiffersFirst}
use Rattle.mult_check.specs.declared.sections.Differs.{Differs}
use Rattle.mult_check.specs.declared.fault.StreamFault.{StreamFault}
use Rattle.mult_check.specs.declared.fault.StreamFault.TheVariants as stream
use Rattle.session_core.specs.Ends.{masks_in}
use Rattle.session_core.specs.Jobs.{VerifierJob, granted_from}
use Rattle.session_core.specs.Judgements.{AreLeftSides, HasSides, IsJudgement, IsRejectedFor, Judges, session_transcript, verdict_in}
use Rattle.session_core.specs.declared.left_sides.LeftSides.{LeftSides}
use Rattle.session_core.specs.declared.judgement.Judgement.{Judgement}
use Rattle.session_core.specs.declared.judgement.Judgement.TheVariants.{Accepted, RejectedSum, RejectedOpening}
use Rattle.session_core.proofs.Masks.{verdict_of_few, left_of_few}

-- the sides are the same where there are more masks
sides_of_few : (check : ProductCheck) (openings : OpeningCheck) (masks : List ℕ) (judgement : Judgement)
    → check.masks ≡ take (section_count check.program check.section_length) masks
    → IsVerdictOf check openings (verdict_in judgement)
    → HasSides check openings judgement → HasSides (record check { masks = masks }) openings judgement
sides_of_few check openings masks Accepted few is sides = sides
sides_of_few check openings masks (RejectedSum section left right) few is sides =
    (sides.0 ∙ left_of_few check masks section few is.below, sides.1)
sides_of_few check openings masks (RejectedOpening output left right) few is sides = sides

-- sums that are refused for the first section whose sides differ
pub section_refused : (check : ProductCheck) (openings : OpeningCheck) (differs : Differs) (judgement : Judgement) → SectionDiffersFirst check differs
    → judgement ≡ RejectedSum differs.section differs.left differs.right → Judges check openings judgement
section_refused check openings differs judgement first is = subst (Judges check openings) (sym is) (first.first, (first.left, first.right))

-- the same as a check along a walk says it
pub rejected : (check : ProductCheck) (openings : OpeningCheck) (fault : StreamFault) (result : Result Judgement AllocError)
    → ((differs : Differs) → fault ≡ stream.Differs differs → SectionDiffersFirst check differs) → IfOk result (IsRejectedFor fault)
    → IfOk result (Judges check openings)
rejected check openings fault (Ok judgement) first (differs, is, same) =
    section_refused check openings differs judgement (first differs is) same
rejected check openings fault (Err error) first none = tt

-- the check of products over the dealt keys of a grant's units, and as many masks as there are sections
abbrev pub few_products : VerifierJob → Hello → ℕ → List Round → List ℕ → List (ℕ × ℕ) → List ℕ → WireKeys → ProductCheck
few_products job greeting start rounds corrections sums openings keys =
    record (session_products job.task.file job.task.statement (session_transcript job greeting start rounds corrections sums openings (verdict_in Accepted)) keys) {
      masks = masks_in job.task.statement.program job.section_length (span_keys job.task.file (span_of (granted_from job start)));
    }

pub judged_whole : (job : VerifierJob) (greeting : Hello) (start : ℕ) (rounds : List Round) (corrections : List ℕ) (sums : List (ℕ × ℕ)) (openings : List ℕ) (keys : WireKeys) (judgement : Judgement)
    → keys.given ≡ corrected_keys job.task.file.key (span_keys job.task.file (span_of (granted_from job start))) corrections
    → AreKeysFor job.task.file.key job.task.statement.program job.task.statement.public keys
    → IsVerdictOf (few_products job greeting start rounds corrections sums openings keys)
    (session_openings job.task.file job.task.statement (session_transcript job greeting start rounds corrections sums openings (verdict_in judgement)) keys) (verdict_in judgement)
    → HasSides (few_products job greeting start rounds corrections sums openings keys)
    (session_openings job.task.file job.task.statement (session_transcript job greeting start rounds corrections sums openings (verdict_in judgement)) keys) judgement
    → IsJudgement job.task (session_transcript job greeting start rounds corrections sums openings (verdict_in judgement)) judgement
judged_whole job greeting start rounds corrections sums openings keys judgement given carried judged sides =
    let program : Program = job.task.statement.program in
    let products = few_products job greeting start rounds corrections sums openings keys in
    let t = session_transcript job greeting start rounds corrections sums openings (verdict_in judgement) in
    let opened = session_openings job.task.file job.task.statement t keys in
    let masks = drop program.givens (session_keys job.task.file t.commitment) in
    record {
      keys = keys;
      carried = record {
        given = given;
        carried = carried;
      };
      judged = verdict_of_few products opened masks (verdict_in judgement) refl judged;
      sides = sides_of_few products opened masks judgement refl judged sides;
    }

-- the same from the checks as they were made
pub judged_taken : (job : VerifierJob) (greeting : Hello) (start : ℕ) (rounds : List Round) (corrections : List ℕ) (sums : List (ℕ × ℕ)) (openings : List ℕ) (side : VerifierSide)
    (section challenge key : ℕ) (masks claims : List ℕ) (judgement : Judgement)
    → side.program ≡ job.task.statement.program → section ≡ job.section_length → challenge ≡ challenge_coin job.task.file start
    → key ≡ job.task.file.key → masks ≡ masks_in job.task.statement.program job.section_length (span_keys job.task.file (span_of (granted_from job start)))
    → claims ≡ job.task.statement.claims
    → side.keys.given ≡ corrected_keys job.task.file.key (span_keys job.task.file (span_of (granted_from job start))) corrections
    → AreKeysFor job.task.file.key job.task.statement.program job.task.statement.public side.keys
    → IsVerdictOf (product_check side section challenge masks key sums) (opening_check side key openings claims) (verdict_in judgement)
    → HasSides (product_check side section challenge masks key sums) (opening_check side key openings claims) judgement
    → IsJudgement job.task (session_transcript job greeting start rounds corrections sums openings (verdict_in judgement)) judgement
judged_taken job greeting start rounds corrections sums openings side section challenge key masks claims judgement program sections coin one masked claimed given carried judged sides =
    judged_whole job greeting start rounds corrections sums openings side.keys judgement given carried
    (subst (λ (q : ProductCheck × OpeningCheck). IsVerdictOf q.0 q.1 (verdict_in judgement)) same judged)
    (subst (λ (q : ProductCheck × OpeningCheck). HasSides q.0 q.1 judgement) same sides)
  where
    checks : ℕ → ℕ → ℕ → List ℕ → List ℕ → Program → ProductCheck × OpeningCheck
    checks length coin key masks claims program = (
      product_check (record { program = program; keys = side.keys }) length coin masks key sums,
      opening_check (record { program = program; keys = side.keys }) key openings claims,
    )

    same : checks section challenge key masks claims side.program
        ≡ checks job.section_length (challenge_coin job.task.file start) job.task.file.key
        (masks_in job.task.statement.program job.section_length (span_keys job.task.file (span_of (granted_from job start))))
        job.task.statement.claims job.task.statement.program
    same i = checks (sections i) (coin i) (one i) (masked i) (claimed i) (program i)

-- ---- left sides

-- as many as sections
pub sections_counted : (job : VerifierJob) (start : ℕ) (corrections : List ℕ) (left_sides : LeftSides) → AreLeftSides job start corrections left_sides
    → length left_sides.sections.items ≡ section_count job.task.statement.program job.section_length
sections_counted job start corrections left_sides are =
    ap length are.sections
    ∙ length-map-range_with_len (λ s. left_of_section check s) 0 (section_count are.side.program job.section_length)
    ∙ ap (λ (p : Program). section_count p job.section_length) are.keys.program
  where
    check : ProductCheck
    check = product_check are.side job.section_length (challenge_coin job.task.file start)
        (masks_in job.task.statement.program job.section_length (span_keys job.task.file (span_of (granted_from job start)))) job.task.file.key []

-- as many as opened wires
pub opened_counted : (job : VerifierJob) (start : ℕ) (corrections : List ℕ) (left_sides : LeftSides) → AreLeftSides job start corrections left_sides
    → length left_sides.opened.items ≡ length job.task.statement.program.opened
opened_counted job start corrections left_sides are =
    ap length are.opened ∙ length-map are.side.program.opened (slice_index are.side.keys.wires)
    ∙ ap (λ (p : Program). length p.opened) are.keys.program
