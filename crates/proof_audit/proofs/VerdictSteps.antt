-- What a verdict leaves.
use Rattle.std.proofs.Common.{◌≡◌, ◌≢◌, ℕ, List, [], ◌∷◌, ◌++◌, length, drop, flat_map, refl, sym, ◌∙◌, ap, subst, arith, lit<, append_assoc, length-append}
use Rattle.std.proofs.Math.Seq.{drop-append_seam}
use Rattle.zk_model.specs.Statement.{IsStatement}
use Rattle.zk_model.specs.Transcript.{Hello, Grant, Round, Transcript, IsTranscript}
use Rattle.zk_model.specs.Frames.{Frame, corrections, challenge, sums, openings, verdict, FitsVerdict}
use Rattle.zk_model.specs.Check.{WireKeys}
use Rattle.zk_model.specs.View.{AreSessionKeys, session_products, session_openings, IsVerdictOf, IsVerdict, verdict_code, verdict_number}
use Rattle.zk_model.specs.ServedVerifier.{VerifierTask}
use Rattle.zk_model.specs.Audit.{round_frames, setup_frames, session_frames, place_after, IsVerdictAfter}
use Rattle.zk_model.specs.declared.Verdict.{Verdict}
use Rattle.zk_model.specs.declared.Verdict.TheVariants.{Accepted, RejectedSum, RejectedOpening}
use Rattle.session_core.specs.Extending.{asks_of, replies_of}
use Rattle.session_core.specs.Jobs.{verifier_of, granted_from}
use Rattle.session_core.specs.Judgements.{Finds, IsJudgement, session_transcript, verdict_in}
use Rattle.session_core.specs.declared.judgement.Judgement.{Judgement}
use Rattle.proof_audit.specs.declared.session.Session.{Session}
use Rattle.proof_audit.specs.declared.session.Stage.TheVariants as at
use Rattle.proof_audit.specs.Stages.{IsOpened, Describes, StageTakes, Wrongs, rounds_read, setup_read, commitment_read, transcript_read}
use Rattle.proof_audit.proofs.OneVerdict.{one_judged}
use Rattle.proof_audit.proofs.Places.{none_behind}

-- ---- frames

-- lists that end alike
pub same_tail : {A : Type 0} (xs ys us vs : List A) → length us ≡ length vs → xs ++ us ≡ ys ++ vs → us ≡ vs
same_tail xs ys us vs sized same =
    sym (drop-append_seam xs us) ∙ (λ i. drop (fronts i) (same i)) ∙ drop-append_seam ys vs
  where
    fronts : length xs ≡ length ys
    fronts = omega (arith, sized, length-append xs us, length-append ys vs, ap length same)

-- the frames of a session with its verdict
verdict_frames : (task : VerifierTask) (s : Session) (greeting : Hello) (frames : List Frame) (code number : ℕ)
    → frames ≡ setup_frames (setup_read task greeting s)
    ++ corrections s.corrections.items ∷ challenge s.challenge ∷ sums s.sums.items ∷ openings s.openings.items ∷ []
    → frames ++ verdict code number ∷ [] ≡ session_frames (transcript_read task greeting s code number)
verdict_frames task s greeting frames code number are =
    ap (λ (fs : List Frame). fs ++ verdict code number ∷ []) are
    ∙ append_assoc (setup_frames (setup_read task greeting s))
    (corrections s.corrections.items ∷ challenge s.challenge ∷ sums s.sums.items ∷ openings s.openings.items ∷ []) (verdict code number ∷ [])

-- ---- what the checks say

-- keys of all wires, and the verdict of the checks over them
record IsChecked (task : VerifierTask) (t : Transcript) (said : Verdict) : Type 0 where
  keys : WireKeys
  carried : AreSessionKeys task.file task.statement t.commitment keys
  judged : IsVerdictOf (session_products task.file task.statement t keys) (session_openings task.file task.statement t keys) said

-- a transcript of these parts
with_parts : Hello → List Round → Grant × (List ℕ × (ℕ × (List (ℕ × ℕ) × List ℕ))) → ℕ → ℕ → Transcript
with_parts greeting rounds parts code number = record {
  commitment = record { setup = record { hello = greeting; grant = parts.0; rounds = rounds }; corrections = parts.1.0 };
  challenge = parts.1.1.0;
  sums = parts.1.1.1.0;
  openings = parts.1.1.1.1;
  code = code;
  number = number;
}

-- what was judged of the session that was read
checked : (task : VerifierTask) (s : Session) (greeting : Hello) (judgement : Judgement) (code number : ℕ)
    → IsOpened task (commitment_read task greeting s) s.keys.items s.challenge s.sums.items s.openings.items
    → Finds (verifier_of task.statement task.file s.grant.section_length) s.grant.start s.corrections.items s.sums.items s.openings.items judgement
    → IsChecked task (transcript_read task greeting s code number) (verdict_in judgement)
unfolding with_parts
checked task s greeting judgement code number opened finds =
    subst (λ (q : Grant × ℕ). IsChecked task (with_parts greeting rounds (q.0, (s.corrections.items, (q.1, (s.sums.items, s.openings.items)))) code number) (verdict_in judgement))
    (λ i. (sym granted i, sym opened.summed.challenged.coin i))
    (record { keys = found.keys; carried = found.carried; judged = found.judged })
  where
    rounds : List Round
    rounds = rounds_read task.file.params.kind (asks_of s.asked.items) (replies_of s.replied.items)

    found : IsJudgement task (session_transcript (verifier_of task.statement task.file s.grant.section_length) greeting s.grant.start rounds
        s.corrections.items s.sums.items s.openings.items (verdict_in judgement)) judgement
    found = finds greeting rounds

    granted : s.grant ≡ granted_from (verifier_of task.statement task.file s.grant.section_length) s.grant.start
    granted = λ i. record {
      start = s.grant.start;
      count = opened.summed.challenged.committed.set.whole.grant.count i;
      section_length = s.grant.section_length;
    }

-- the verdict is given
given_verdict : (task : VerifierTask) (s : Session) (frames : List Frame) (code number : ℕ) (judgement : Judgement) → Describes task frames (at.Verdict s)
    → Finds (verifier_of task.statement task.file s.grant.section_length) s.grant.start s.corrections.items s.sums.items s.openings.items judgement
    → code ≡ verdict_code (verdict_in judgement) → number ≡ verdict_number (verdict_in judgement) → IsVerdictAfter task frames code number
given_verdict task s frames code number judgement described finds said_code said_number =
    let right = checked task s described.0 judgement code number described.2 finds in
    record {
      t = transcript_read task described.0 s code number;
      frames = sym (verdict_frames task s described.0 frames code number described.1);
      verdict = verdict_in judgement;
      judged = record { keys = right.keys; carried = right.carried; judged = right.judged; said = record { code = said_code; number = said_number } };
    }

-- ---- others are not

-- what the frames of a session with a verdict leave open
same_parts : (one other : Transcript) → session_frames one ≡ session_frames other
    → with_parts other.commitment.setup.hello other.commitment.setup.rounds
    (one.commitment.setup.grant, (one.commitment.corrections, (one.challenge, (one.sums, one.openings)))) one.code one.number ≡ other
unfolding with_parts
same_parts one other same = λ i. record {
  commitment = record {
    setup = record { hello = other.commitment.setup.hello; grant = granted i; rounds = other.commitment.setup.rounds };
    corrections = corrected i;
  };
  challenge = challenged i;
  sums = summed i;
  openings = opened i;
  code = coded i;
  number = numbered i;
}
  where
    last : Transcript → List Frame
    last t = corrections t.commitment.corrections ∷ challenge t.challenge ∷ sums t.sums ∷ openings t.openings ∷ verdict t.code t.number ∷ []

    granted : one.commitment.setup.grant ≡ other.commitment.setup.grant
    granted = let e : session_frames one ≡ session_frames other = same in cc

    behind : flat_map round_frames one.commitment.setup.rounds ++ last one ≡ flat_map round_frames other.commitment.setup.rounds ++ last other
    behind = ap (drop 2) same

    ends : last one ≡ last other
    ends = same_tail (flat_map round_frames one.commitment.setup.rounds) (flat_map round_frames other.commitment.setup.rounds) (last one) (last other) refl behind

    corrected : one.commitment.corrections ≡ other.commitment.corrections
    corrected = let e : last one ≡ last other = ends in cc

    challenged : one.challenge ≡ other.challenge
    challenged = let e : last one ≡ last other = ends in cc

    summed : one.sums ≡ other.sums
    summed = let e : last one ≡ last other = ends in cc

    opened : one.openings ≡ other.openings
    opened = let e : last one ≡ last other = ends in cc

    coded : one.code ≡ other.code
    coded = let e : last one ≡ last other = ends in cc

    numbered : one.number ≡ other.number
    numbered = let e : last one ≡ last other = ends in cc

-- the verdict of a session is that of any with the same frames
moved : (task : VerifierTask) (one other : Transcript) (said : Verdict) → session_frames one ≡ session_frames other → IsVerdict task.file task.statement one said
    → IsVerdict task.file task.statement other said
unfolding with_parts
moved task one other said same judged =
    subst (λ (t : Transcript). IsVerdict task.file task.statement t said) (same_parts one other same)
    (record {
      keys = judged.keys;
      carried = record { given = judged.carried.given; carried = judged.carried.carried };
      judged = judged.judged;
      said = record { code = judged.said.code; number = judged.said.number };
    })

-- a code or a number that is not of the checks is not given
pub verdict_wrong : (task : VerifierTask) (s : Session) (frame : Frame) (code number : ℕ) (judgement : Judgement) → frame ≡ verdict code number
    → IsStatement task.statement
    → Finds (verifier_of task.statement task.file s.grant.section_length) s.grant.start s.corrections.items s.sums.items s.openings.items judgement
    → ¬ ((code ≡ verdict_code (verdict_in judgement)) × (number ≡ verdict_number (verdict_in judgement)))
    → Wrongs task (at.Verdict s) frame
verdict_wrong task s frame code number judgement is stated finds differ =
    subst (λ (f : Frame). Wrongs task (at.Verdict s) f) (sym is)
    (λ frames described given.
    let t = transcript_read task described.0 s code number in
    let right = checked task s described.0 judgement code number described.2 finds in
    let theirs = moved task given.t t given.verdict (given.frames ∙ verdict_frames task s described.0 frames code number described.1) given.judged in
    let same = one_judged task.file task.statement t right.keys theirs.keys (verdict_in judgement) given.verdict stated right.carried theirs.carried right.judged theirs.judged in
    differ (theirs.said.code ∙ ap verdict_code (sym same), theirs.said.number ∙ ap verdict_number (sym same)))

-- ---- the end of a session

-- a code of 0 accepts, with the number 0
accepts : (said : Verdict) (code number : ℕ) → code ≡ 0 → code ≡ verdict_code said → number ≡ verdict_number said → (said ≡ Accepted) × (number ≡ 0)
accepts Accepted code number none coded numbered = (refl, numbered)
accepts (RejectedSum s) code number none coded numbered = absurd (omega (arith, none, coded))
accepts (RejectedOpening o) code number none coded numbered = absurd (omega (arith, none, coded))

-- the transcript is whole
whole_transcript : (task : VerifierTask) (s : Session) (greeting : Hello) (code number : ℕ)
    → IsOpened task (commitment_read task greeting s) s.keys.items s.challenge s.sums.items s.openings.items → FitsVerdict code number
    → IsTranscript task.file.params task.statement.program (transcript_read task greeting s code number)
whole_transcript task s greeting code number opened fits = record {
  code = fits.said;
  number = fits.numbered;
  sum_count = opened.summed.sums.counted;
  commitment = record {
    setup = opened.summed.challenged.committed.set.whole;
    count = opened.summed.challenged.committed.corrections.counted;
    elements = opened.summed.challenged.committed.corrections.ranged;
  };
  challenge = opened.summed.challenged.ranged;
  sums = opened.summed.sums.ranged;
  opening_count = opened.openings.counted;
  openings = opened.openings.ranged;
}

-- a verdict of the checks that accepts
pub verdict_accepts : (task : VerifierTask) (s : Session) (frame : Frame) (code number : ℕ) (judgement : Judgement) → frame ≡ verdict code number
    → IsStatement task.statement
    → Finds (verifier_of task.statement task.file s.grant.section_length) s.grant.start s.corrections.items s.sums.items s.openings.items judgement
    → code ≡ verdict_code (verdict_in judgement) → number ≡ verdict_number (verdict_in judgement) → code ≡ 0
    → StageTakes task (at.Verdict s) frame (at.Accepted s)
verdict_accepts task s frame code number judgement is stated finds coded numbered none =
    subst (λ (f : Frame). StageTakes task (at.Verdict s) f (at.Accepted s)) (sym is)
    (λ frames described.
    let right = checked task s described.0 judgement 0 0 described.2 finds in
    record {
      given = given_verdict task s frames code number judgement described finds coded numbered;
      described = (
        described.0,
        verdict_frames task s described.0 frames code number described.1
            ∙ (λ i. session_frames (transcript_read task described.0 s (none i) (all.1 i))),
        record {
          in_order = record {
            stated = stated;
            hello = described.2.summed.challenged.committed.set.fits;
            transcript = whole_transcript task s described.0 0 0 described.2 (record { said = omega arith; numbered = lit< tt });
            bytes = refl;
          };
          replies = described.2.summed.challenged.committed.set.replies;
          challenge = described.2.summed.challenged.coin;
          judged = record {
            keys = right.keys;
            carried = right.carried;
            judged = subst (IsVerdictOf (session_products task.file task.statement (transcript_read task described.0 s 0 0) right.keys)
                (session_openings task.file task.statement (transcript_read task described.0 s 0 0) right.keys)) all.0 right.judged;
            said = record { code = refl; number = refl };
          };
        },
        described.2.summed.challenged.committed.set.kept,
      );
    })
  where
    all : (verdict_in judgement ≡ Accepted) × (number ≡ 0)
    all = accepts (verdict_in judgement) code number none coded numbered

-- and one that rejects
pub verdict_declines : (task : VerifierTask) (s : Session) (frame : Frame) (code number : ℕ) (judgement : Judgement) → frame ≡ verdict code number
    → Finds (verifier_of task.statement task.file s.grant.section_length) s.grant.start s.corrections.items s.sums.items s.openings.items judgement
    → code ≡ verdict_code (verdict_in judgement) → number ≡ verdict_number (verdict_in judgement) → code ≢ 0
    → StageTakes task (at.Verdict s) frame at.Declined
verdict_declines task s frame code number judgement is finds coded numbered some =
    subst (λ (f : Frame). StageTakes task (at.Verdict s) f at.Declined) (sym is)
    (λ frames described. record {
      given = given_verdict task s frames code number judgement described finds coded numbered;
      described = (
        frames,
        verdict code number,
        refl,
        some,
        ap (place_after task.file.params task.statement) (verdict_frames task s described.0 frames code number described.1)
            ∙ none_behind task.file.params task.statement (setup_read task described.0 s) _
            described.2.summed.challenged.committed.set.whole refl,
      );
    })
