-- What a prover has sent and heard where it waits, and what an honest prover sends there.
use Rattle.std.proofs.Common.{◌≡◌, ℕ, List, ◌++◌, ap, ◌∙◌, append-nil, ◌+◌, ◌≤◌, [], ◌∷◌, flat_map, length, refl, sym, length-append, arith, append_assoc, zero, suc, ◌*◌, ◌<◌, subst, inl, ◌^◌, take, inr, drop, zip, Some}
use Rattle.std.proofs.lemmas.List.{length-map, take-append-drop}
use Rattle.frame_laws.proofs.SentBytes.{sent_by-append, own_bytes, none_of_prover, sent_by-verifier, sent_by-prover}
use Rattle.zk_model.specs.Transcript.{bytes_from, sent_by, Grant, TreeReply, reply_frame, Round, IsGrant, IsRound, Transcript, IsTranscript, session_turns, grant_frame, corrections_frame, challenge_frame, sums_frame, openings_frame, verdict_frame, IsInOrder, IsSetup, IsCommitment, ask_frame, turn_bytes}
use Rattle.zk_model.specs.declared.Side.{Side}
use Rattle.zk_model.specs.declared.Side.TheVariants.{Prover, Verifier}
use Rattle.zk_model.specs.Frames.{Frame, frame_spelling, AreReplies, grant, replies, challenge, verdict, Allows, FitsGrant}
use Rattle.session_prover.specs.Stages.{asked_log, replied_log, AreAskedRounds, Fixes, setup_for, greeting, sums_for, openings_for, Claim, IsProverLogAt, all_asks, greeted_log, granted_log, rounds_log, fixed_log, challenged_log, opened_log, IsSoundJob}
use Rattle.std.proofs.lemmas.Grind.{flat_map-append}
use Rattle.session_core.specs.Jobs.{ProverJob}
use Rattle.std.specs.Prelude.{All}
use Rattle.std.specs.List.{AllByRecursion, range_with_len}
use Rattle.std.proofs.lemmas.List.Elements.{recursion_from_All, All-map}
use Rattle.std.proofs.lemmas.List.FromFn.{length-map-range_with_len}
use Rattle.frame_laws.proofs.Codes.{same_front}
use Rattle.zk_laws.proofs.FoundPairs.{pairs_exist}
use Rattle.session_laws.proofs.Turns.{answered, fewer_answered, said}
use Rattle.zk_model.specs.Mac.{Pair, pair_at, corrected_pairs}
use Rattle.zk_model.specs.Files.{IsProverFile, rounds_of}
use Rattle.zk_model.specs.Correlations.{IsProverView}
use Rattle.zk_model.specs.HonestProver.{ProverTask, SentAfter, AreHonestBytes, IsWitness, IsHonest, honest_corrections}
use Rattle.zk_model.specs.declared.Kind.TheVariants.{Extended}
use Rattle.zk_model.specs.declared.Params.{Params}
use Rattle.session_core.specs.Rounds.{round_turns}
use Rattle.std.proofs.lemmas.Bool.{cases_lt}
use Rattle.frame_laws.proofs.FrameCodes.{grant_code}
use Rattle.session_laws.proofs.Followed.{last_two}
use Rattle.session_laws.proofs.Sizes.{count_is}
use Rattle.zk_model.specs.Program.{Program}
use Rattle.zk_model.specs.declared.Expect.{Expect}
use Rattle.frame_link.specs.Lines.{IsUnfinished}
use Rattle.frame_link.proofs.LineLemmas.{longest, frame_most}
use Rattle.proof_frames.proofs.Unique.{one_frame}
use Rattle.frame_laws.proofs.OneTranscript.{one_transcript}
use Rattle.session_prover.specs.declared.note.ProverOutcome.{ProverOutcome}
use Rattle.session_prover.specs.Outcomes.{verdict_outcome}
use Rattle.session_prover.specs.Notes.{task_of, ReadsVerdict, AnswersVerdict}
use Rattle.frame_link.proofs.FramesLemmas.{reply_length}
use Rattle.std.proofs.lemmas.Slice.Zip.{length-zip}
use Rattle.mersenne_field.proofs.FieldLaws.{reduced}
use Rattle.zk_laws.proofs.OnePairs.{one_pairs}
use Rattle.zk_laws.proofs.Views.{enough_pairs, rounds_are, view_exists}
use Rattle.session_laws.proofs.Honest.{opened_macs}
use Rattle.frame_laws.proofs.Hellos.{wanted_is_hello}
use Rattle.zk_model.specs.Field.{IsElement, ◌-ₚ◌}
use Rattle.zk_model.specs.Check.{WirePairs, honest_sums, section_triples}
use Rattle.zk_model.specs.View.{View, IsView}
use Rattle.zk_model.specs.Peers.{IsFromHonestProver, HasEndedHonestly}
use Rattle.session_core.specs.Cores.{ProverStage, awaits_grant, awaits_replies, awaits_challenge, awaits_verdict, has_ended, prover_expects}
use Rattle.std.proofs.lemmas.Option.{same_Some}
use Rattle.session_driver.proofs.Rows.{row_three, row_four}
use Rattle.zk_model.specs.declared.Expect.TheVariants as expect
use Rattle.session_driver.proofs.Going.{came_more, came_same}
use Rattle.session_prover.proofs.AskedRounds.{each_replied, unit_size, rounds_length, next_part, some_rounds, turns_to, turns_all, turns_before, round_count}

-- ---- what was heard

-- bytes begin with the answers of the first turns of a session, up to this one
pub record Hears (task : ProverTask) (received : List ℕ) (k : ℕ) : Type 0 where
  pub u : Transcript
  pub is : IsTranscript task.file.params task.statement.program u
  pub more : List ℕ
  pub begun : received ≡ answered (take (suc k) (session_turns u)) ++ more

-- what was heard up to a turn was heard up to each earlier one
hears : (task : ProverTask) (received sent : List ℕ) (k n : ℕ) → SentAfter task received (suc n) sent → k ≤ n → Hears task received k
hears task received sent k n (u, is, honest, within, (more, begun), says) few =
    let front = fewer_answered (suc k) (suc n) (session_turns u) (omega (arith, few)) in record {
      u = u;
      is = is;
      more = front.0 ++ more;
      begun = begun ∙ ap (λ l. l ++ more) front.1 ∙ append_assoc (answered (take (suc k) (session_turns u))) front.0 more;
    }

-- what was sent after some turns is what an honest prover sends, where the next was not heard
pub honest_bytes : (task : ProverTask) (received sent : List ℕ) (turns : ℕ) → SentAfter task received turns sent
    → (Hears task received turns → ⊥) → AreHonestBytes task received sent
honest_bytes task received sent turns answer unheard = record { turns = turns; answer = answer; most = most }
  where
    most : (more : ℕ) (other : List ℕ) → SentAfter task received more other → more ≤ turns
    most zero other after = omega arith
    most (suc n) other after = elim (cases_lt n turns) [
      | inl less ↦ less
      | inr more ↦ absurd (unheard (hears task received other turns n after more))
    ]

-- a session has three turns and its rounds
pub fewer : (task : ProverTask) (received sent : List ℕ) (n : ℕ) → SentAfter task received (suc n) sent → suc n ≤ rounds_of task.file.params.kind + 3
fewer task received sent n (u, is, honest, within, begun, says) = omega (arith, within, count_is task.file.params task.statement.program u is)

-- ---- the next frame

-- bytes begin with a frame of the place, as long as the longest
pub record IsNextFrame (awaited : Expect) (bytes : List ℕ) : Type 0 where
  pub frame : Frame
  pub allowed : Allows awaited frame
  pub long : length (frame_spelling frame) ≡ longest awaited
  pub tail : List ℕ
  pub begun : bytes ≡ frame_spelling frame ++ tail

-- what is granted in a session fits a frame
pub grant_fits : (params : Params) (program : Program) (given : Grant) → params.total ≤ 2 ^ 40 → IsGrant params program given → FitsGrant given
grant_fits params program given total is = record {
  start = omega (arith, is.within, total);
  count = omega (arith, is.count_most);
  section_length = omega (arith, is.section_most);
}

pub next_grant : (params : Params) (program : Program) (u : Transcript) (bytes more : List ℕ) → params.total ≤ 2 ^ 40
    → IsTranscript params program u → bytes ≡ answered (take 1 (session_turns u)) ++ more → IsNextFrame expect.Grant bytes
next_grant params program u bytes more total is begun = record {
  frame = grant u.commitment.setup.grant;
  allowed = inl (u.commitment.setup.grant, refl, grant_fits params program u.commitment.setup.grant total is.commitment.setup.grant);
  long = omega arith;
  tail = more;
  begun = begun ∙ ap (λ l. l ++ more) (append-nil (grant_frame u.commitment.setup.grant));
}

-- what stands after a grant
record IsBehind (given : Grant) (u : Transcript) (bytes later : List ℕ) : Type 0 where
  same : given ≡ u.commitment.setup.grant
  rest : bytes ≡ later

behind : (task : ProverTask) (given : Grant) (u : Transcript) (bytes later more : List ℕ) → IsProverFile task.file
    → IsGrant task.file.params task.statement.program given → IsTranscript task.file.params task.statement.program u
    → grant_frame given ++ bytes ≡ (grant_frame u.commitment.setup.grant ++ later) ++ more → IsBehind given u bytes (later ++ more)
behind task given u bytes later more file granted is begun =
    let both = grant_code task.file.params task.statement.program file.params given u.commitment.setup.grant bytes (later ++ more) granted is.commitment.setup.grant
    (begun ∙ append_assoc (grant_frame u.commitment.setup.grant) later more) in
    record { same = both.0; rest = both.1 }

-- of replies
pub next_replies : (task : ProverTask) (given : Grant) (came : List (List TreeReply)) (left : ℕ) (u : Transcript) (bytes more : List ℕ) → IsProverFile task.file
    → task.file.params.kind ≡ Extended → IsGrant task.file.params task.statement.program given → length came < given.count
    → All (AreReplies task.file.params.height task.file.params.trees) came → IsTranscript task.file.params task.statement.program u
    → (grant_frame given ++ flat_map reply_frame came) ++ bytes ≡ answered (take 2 (session_turns u)) ++ more
    → IsNextFrame (expect.Reply task.file.params.height task.file.params.trees left) bytes
next_replies task given came left u bytes more file extended granted fewer all is begun =
    by_rounds u.commitment.setup.rounds (is.commitment.setup.round_count ∙ ap rounds_of extended)
    (recursion_from_All (IsRound task.file.params u.commitment.setup.grant) u.commitment.setup.rounds is.commitment.setup.rounds) there.rest
  where
    there : IsBehind given u (flat_map reply_frame came ++ bytes) (answered (take 1 (round_turns u.commitment.setup.rounds ++ last_two u)) ++ more)
    there = behind task given u (flat_map reply_frame came ++ bytes) (answered (take 1 (round_turns u.commitment.setup.rounds ++ last_two u))) more file granted is
        (sym (append_assoc (grant_frame given) (flat_map reply_frame came) bytes) ∙ begun)

    by_rounds : (rounds : List Round) → length rounds ≡ 1 → AllByRecursion (IsRound task.file.params u.commitment.setup.grant) rounds
        → flat_map reply_frame came ++ bytes ≡ answered (take 1 (round_turns rounds ++ last_two u)) ++ more
        → IsNextFrame (expect.Reply task.file.params.height task.file.params.trees left) bytes
    by_rounds [] count ranged same = absurd (omega (arith, count))
    by_rounds (round ∷ rounds) count ranged same =
        let next = next_part reply_frame (AreReplies task.file.params.height task.file.params.trees) (unit_size task.file.params) (reply_length task.file.params.height task.file.params.trees)
        came round.replies bytes more
        (recursion_from_All (AreReplies task.file.params.height task.file.params.trees) came all)
        (recursion_from_All (AreReplies task.file.params.height task.file.params.trees) round.replies
        (each_replied task.file.params u.commitment.setup.grant round.replies ranged.0.replies))
        (omega (arith, fewer, ranged.0.replies.0, ap (λ (g : Grant). g.count) there.same))
        (same ∙ ap (λ l. l ++ more) (append-nil (flat_map reply_frame round.replies))) in record {
          frame = replies next.0;
          allowed = (next.0, refl, next.1);
          long = reply_length task.file.params.height task.file.params.trees next.0 next.1;
          tail = next.2;
          begun = next.3;
        }

-- the replies of whole rounds are as long in all sessions with one grant
rounds_alike : (task : ProverTask) (given : Grant) (rounds : List Round) (u : Transcript) → length rounds ≡ rounds_of task.file.params.kind
    → All (IsRound task.file.params given) rounds → IsTranscript task.file.params task.statement.program u → given ≡ u.commitment.setup.grant
    → length (answered (round_turns rounds)) ≡ length (answered (round_turns u.commitment.setup.rounds))
rounds_alike task given rounds u count ranged is same =
    rounds_length task.file.params given rounds (recursion_from_All (IsRound task.file.params given) rounds ranged)
    ∙ (λ i. (count ∙ sym is.commitment.setup.round_count) i * ((same i).count * unit_size task.file.params))
    ∙ sym (rounds_length task.file.params u.commitment.setup.grant u.commitment.setup.rounds
    (recursion_from_All (IsRound task.file.params u.commitment.setup.grant) u.commitment.setup.rounds is.commitment.setup.rounds))

-- as many turns in the rounds of a session as its kind has
turn_count : (task : ProverTask) (u : Transcript) → IsTranscript task.file.params task.statement.program u
    → rounds_of task.file.params.kind ≡ length (round_turns u.commitment.setup.rounds)
turn_count task u is = sym is.commitment.setup.round_count ∙ sym (round_count u.commitment.setup.rounds)

-- of a challenge
pub next_challenge : (task : ProverTask) (given : Grant) (rounds : List Round) (u : Transcript) (bytes more : List ℕ) → IsProverFile task.file
    → IsGrant task.file.params task.statement.program given → length rounds ≡ rounds_of task.file.params.kind
    → All (IsRound task.file.params given) rounds → IsTranscript task.file.params task.statement.program u
    → (grant_frame given ++ answered (round_turns rounds)) ++ bytes ≡ answered (take (suc (suc (rounds_of task.file.params.kind))) (session_turns u)) ++ more
    → IsNextFrame expect.Challenge bytes
next_challenge task given rounds u bytes more file granted count ranged is begun =
    let us : List (List ℕ × List ℕ) = round_turns u.commitment.setup.rounds in
    let c : List ℕ = challenge_frame u.challenge in
    let k : ℕ = suc (rounds_of task.file.params.kind) in
    let shape : answered (take k (us ++ last_two u)) ≡ answered us ++ c = ap (λ n. answered (take (suc n) (us ++ last_two u))) (turn_count task u is)
    ∙ turns_to (λ (turn : List ℕ × List ℕ). turn.1) us (corrections_frame u.commitment.corrections, c)
    ((sums_frame u.sums ++ openings_frame u.openings, verdict_frame u.code u.number) ∷ []) in
    let there = behind task given u (answered (round_turns rounds) ++ bytes) (answered (take k (us ++ last_two u))) more file granted is
    (sym (append_assoc (grant_frame given) (answered (round_turns rounds)) bytes) ∙ begun) in
    record {
      frame = challenge u.challenge;
      allowed = (u.challenge, refl, is.challenge);
      long = omega arith;
      tail = more;
      begun = (same_front (answered (round_turns rounds)) (answered us) bytes (c ++ more) (rounds_alike task given rounds u count ranged is there.same)
          (there.rest ∙ ap (λ l. l ++ more) shape ∙ append_assoc (answered us) c more)).1;
    }

-- and of a verdict
pub next_verdict : (task : ProverTask) (given : Grant) (rounds : List Round) (element : ℕ) (u : Transcript) (bytes more : List ℕ) → IsProverFile task.file
    → IsGrant task.file.params task.statement.program given → length rounds ≡ rounds_of task.file.params.kind
    → All (IsRound task.file.params given) rounds → IsTranscript task.file.params task.statement.program u
    → ((grant_frame given ++ answered (round_turns rounds)) ++ challenge_frame element) ++ bytes
    ≡ answered (take (suc (suc (suc (rounds_of task.file.params.kind)))) (session_turns u)) ++ more
    → IsNextFrame expect.Verdict bytes
next_verdict task given rounds element u bytes more file granted count ranged is begun =
    let us : List (List ℕ × List ℕ) = round_turns u.commitment.setup.rounds in
    let c : List ℕ = challenge_frame u.challenge in
    let v : List ℕ = verdict_frame u.code u.number in
    let k : ℕ = suc (suc (rounds_of task.file.params.kind)) in
    let shape : answered (take k (us ++ last_two u)) ≡ answered us ++ (c ++ v) =
    ap (λ n. answered (take (suc (suc n)) (us ++ last_two u))) (turn_count task u is)
    ∙ turns_all (λ (turn : List ℕ × List ℕ). turn.1) us (corrections_frame u.commitment.corrections, c)
    (sums_frame u.sums ++ openings_frame u.openings, v) in
    let there = behind task given u (answered (round_turns rounds) ++ (challenge_frame element ++ bytes)) (answered (take k (us ++ last_two u)))
    more file granted is
    (sym (append_assoc (grant_frame given) (answered (round_turns rounds)) (challenge_frame element ++ bytes))
    ∙ sym (append_assoc (grant_frame given ++ answered (round_turns rounds)) (challenge_frame element) bytes) ∙ begun) in
    record {
      frame = verdict u.code u.number;
      allowed = (u.code, u.number, refl, record { said = is.code; numbered = is.number });
      long = omega arith;
      tail = more;
      begun = (same_front (challenge_frame element) c bytes (v ++ more) (omega arith)
          ((same_front (answered (round_turns rounds)) (answered us) (challenge_frame element ++ bytes) (c ++ (v ++ more)) (rounds_alike task given rounds u count ranged is there.same)
          (there.rest ∙ ap (λ l. l ++ more) shape ∙ append_assoc (answered us) (c ++ v) more ∙ ap (λ l. answered us ++ l) (append_assoc c v more))).1)).1;
    }

-- ---- bytes that are no whole frame are none that an honest prover answers

nothing_more : (a b : List ℕ) → length (a ++ b) ≤ length a → a ++ b ≡ a
nothing_more [] [] few = refl
nothing_more [] (y ∷ b) few = absurd (omega (arith, few))
nothing_more (x ∷ a) b few = ap (λ l. x ∷ l) (nothing_more a b (omega (arith, few)))

-- bytes that are no whole frame don't begin with the longest frame of the place
pub unstarted : (stage : Expect) (rest : List ℕ) (frame : Frame) (more : List ℕ) → Allows stage frame
    → length (frame_spelling frame) ≡ longest stage → length rest ≤ longest stage → IsUnfinished stage rest
    → rest ≡ frame_spelling frame ++ more → ⊥
unstarted stage rest frame more allowed long few (inl wanting) is =
    absurd (omega (arith, ap length is, length-append (frame_spelling frame) more, long, frame_most stage rest, wanting))
unstarted stage rest frame more allowed long few (inr (n, bad)) is =
    bad.ends (record { frame = frame; allowed = allowed; begun = (drop (n + 1) rest, sym same ∙ sym (take-append-drop (n + 1) rest)) })
  where
    same : rest ≡ frame_spelling frame
    same = is ∙ nothing_more (frame_spelling frame) more (subst (λ (l : List ℕ). length l ≤ length (frame_spelling frame)) is (omega (arith, few, long)))

-- bytes that begin with a grant's frame, and that are the frame of a grant that fits
pub same_bytes_grant : (params : Params) (program : Program) (given other : Grant) (more tail : List ℕ) → params.total ≤ 2 ^ 40 → FitsGrant given
    → IsGrant params program other → grant_frame given ++ more ≡ grant_frame other ++ tail → IsGrant params program given
same_bytes_grant params program given other more tail total fits is begins = subst (λ (g : Grant). IsGrant params program g) same is
  where
    frames : grant given ≡ grant other
    frames = one_frame expect.Grant (grant_frame given) (grant given) (grant other)
        (record { allowed = inl (given, refl, fits); spelled = refl })
        (record { allowed = inl (other, refl, grant_fits params program other total is); spelled = (same_front (grant_frame given) (grant_frame other) more tail (omega arith) begins).0 })

    grant_or : Grant → Frame → Grant
    grant_or instead (grant said) = said
    grant_or instead frame = instead

    same : other ≡ given
    same = sym (ap (grant_or given) frames)

-- no grant but that which is there
pub one_grant : (task : ProverTask) (given : Grant) → task.file.params.total ≤ 2 ^ 40 → FitsGrant given
    → Hears task (grant_frame given) 0 → IsGrant task.file.params task.statement.program given
one_grant task given total fits heard =
    same_bytes_grant task.file.params task.statement.program given heard.u.commitment.setup.grant [] ([] ++ heard.more) total fits heard.is.commitment.setup.grant
    (append-nil (grant_frame given) ∙ heard.begun ∙ append_assoc (grant_frame heard.u.commitment.setup.grant) [] heard.more)

-- ---- where no whole session was heard, no verdict was

-- in a whole session in order all turns are heard
in_order_heard : (job : ProverJob) (t : Transcript) (log : List (Side × ℕ)) (k : ℕ) → IsInOrder job.file.params job.file.id job.statement t log
    → Hears (task_of job []) (sent_by Verifier log) k
in_order_heard job t log k is = record {
  u = t;
  is = is.transcript;
  more = answered (drop (suc k) (session_turns t));
  begun = ap (sent_by Verifier) is.bytes ∙ sent_by-verifier (session_turns t)
      ∙ ap answered (sym (take-append-drop (suc k) (session_turns t)))
      ∙ flat_map-append (λ turn. turn.1) (take (suc k) (session_turns t)) (drop (suc k) (session_turns t));
}

-- a turn that was not heard
pub record IsUnheard (job : ProverJob) (log : List (Side × ℕ)) : Type 0 where
  pub turn : ℕ
  pub unheard : Hears (task_of job []) (sent_by Verifier log) turn → ⊥

pub unread : (job : ProverJob) (outcome : ProverOutcome) (log : List (Side × ℕ)) → IsUnheard job log → AnswersVerdict job outcome log
unread job outcome log unheard t is = absurd (unheard.unheard (in_order_heard job t log unheard.turn is))

-- a verdict that was read
pub read_so : (job : ProverJob) (outcome : ProverOutcome) (log : List (Side × ℕ)) (code number : ℕ) → IsSoundJob job → ReadsVerdict job log code number
    → outcome ≡ verdict_outcome code number → AnswersVerdict job outcome log
read_so job outcome log code number sound reads is t in_order =
    let same : reads.t ≡ t =
    one_transcript job.file.params job.statement.program reads.t t sound.file.params reads.in_order.transcript in_order.transcript
    (sym reads.in_order.bytes ∙ in_order.bytes) in
    is ∙ (λ i. verdict_outcome (sym reads.code_is i) (sym reads.number_is i)) ∙ ap (λ (u : Transcript). verdict_outcome u.code u.number) same

-- What an honest prover sends where it waits.

-- ---- what a prover's answers make of a session: that of an honest prover

-- a session in which the prover answers so
abbrev pub made : ProverJob → Grant → List Round → List Pair → List ℕ → WirePairs → ℕ → ℕ → ℕ → Transcript
made job given rounds pairs d wires element code number = record {
  commitment = record { setup = setup_for job given rounds; corrections = d };
  challenge = element;
  sums = sums_for job given pairs wires element;
  openings = openings_for job wires;
  code = code;
  number = number;
}

pub setup_is : (job : ProverJob) (given : Grant) (rounds : List Round) → IsSoundJob job → IsGrant job.file.params job.statement.program given
    → AreAskedRounds job given rounds → IsSetup job.file.params job.statement.program (setup_for job given rounds)
setup_is job given rounds sound granted asked = record {
  hello = wanted_is_hello job.file.id job.statement sound.file.id sound.stated;
  grant = granted;
  round_count = asked.count;
  rounds = asked.ranged;
}

-- honest corrections are as many elements as there are given values
pub committed : (job : ProverJob) (given : Grant) (rounds : List Round) (pairs : List Pair) (d : List ℕ) → IsSoundJob job
    → IsSetup job.file.params job.statement.program (setup_for job given rounds) → IsProverView job.file (setup_for job given rounds) pairs
    → d ≡ honest_corrections job.given pairs
    → IsCommitment job.file.params job.statement.program (record { setup = setup_for job given rounds; corrections = d })
committed job given rounds pairs d sound set seen same =
    let counted : length (honest_corrections job.given pairs) ≡ job.statement.program.givens =
    length-map _ _ ∙ omega (arith, length-zip job.given pairs, sound.is.counted, enough_pairs job.file job.statement.program (setup_for job given rounds) pairs sound.file set seen) in
    let elements : All IsElement (honest_corrections job.given pairs) =
    All-map IsElement (λ q. q.0 -ₚ q.1.x) (zip job.given pairs) (λ n e below. reduced _) in
    subst (λ (l : List ℕ). IsCommitment job.file.params job.statement.program (record { setup = setup_for job given rounds; corrections = l })) (sym same)
    (record { setup = set; count = counted; elements = elements })

abbrev view_of : List Pair → WirePairs → View
view_of pairs wires = record { pairs = pairs; carried = wires }

viewed : (job : ProverJob) (given : Grant) (rounds : List Round) (pairs : List Pair) (d : List ℕ) (wires : WirePairs) → Fixes job given rounds pairs d wires
    → IsView job.file job.statement (record { setup = setup_for job given rounds; corrections = d }) (view_of pairs wires)
viewed job given rounds pairs d wires fixes = record { pairs = fixes.seen; given = fixes.fixed.given_are; carried = fixes.fixed.carried }

pub fixed_commitment : (job : ProverJob) (given : Grant) (rounds : List Round) (pairs : List Pair) (d : List ℕ) (wires : WirePairs) → IsSoundJob job
    → Fixes job given rounds pairs d wires
    → IsCommitment job.file.params job.statement.program (record { setup = setup_for job given rounds; corrections = d })
fixed_commitment job given rounds pairs d wires sound fixes =
    committed job given rounds pairs d sound (setup_is job given rounds sound fixes.granted fixes.asked) fixes.seen fixes.fixed.corrections_are

-- it is in range
pub made_is : (job : ProverJob) (given : Grant) (rounds : List Round) (pairs : List Pair) (d : List ℕ) (wires : WirePairs) (element code number : ℕ) → IsSoundJob job
    → Fixes job given rounds pairs d wires → IsElement element → code ≤ 2 → number < 2 ^ 32
    → IsTranscript job.file.params job.statement.program (made job given rounds pairs d wires element code number)
made_is job given rounds pairs d wires element code number sound fixes is said numbered = record {
  commitment = whole;
  challenge = is;
  sum_count = length-map-range_with_len _ 0 _;
  sums = All-map (λ (both : ℕ × ℕ). IsElement both.0 × IsElement both.1)
      (λ s. honest_sums element (section_triples job.statement.program given.section_length wires s)
      (pair_at (drop job.statement.program.givens pairs) s))
      (range_with_len 0 _) (λ n e below. (reduced _, reduced _));
  opening_count = length-map _ _ ∙ length-map _ _;
  openings = opened_macs job.file job.statement (record { setup = setup_for job given rounds; corrections = d }) (view_of pairs wires) sound.file sound.stated whole
      (viewed job given rounds pairs d wires fixes);
  code = said;
  number = numbered;
}
  where
    whole : IsCommitment job.file.params job.statement.program (record { setup = setup_for job given rounds; corrections = d })
    whole = fixed_commitment job given rounds pairs d wires sound fixes

-- and an honest prover's
pub made_honest : (job : ProverJob) (given : Grant) (rounds : List Round) (pairs : List Pair) (d : List ℕ) (wires : WirePairs) (element code number : ℕ) (inputs values : List ℕ)
    → Fixes job given rounds pairs d wires → IsWitness job.statement inputs values job.given
    → IsHonest (task_of job inputs) (made job given rounds pairs d wires element code number)
made_honest job given rounds pairs d wires element code number inputs values fixes witness = record {
  hello = refl;
  asks = fixes.asked.asks;
  wires = values;
  given = job.given;
  witness = witness;
  view = view_of pairs wires;
  seen = viewed job given rounds pairs d wires fixes;
  corrections = fixes.fixed.corrections_are;
  sums = refl;
  openings = refl;
}

-- ---- whatever was replied

-- the pairs that the prover sees fix its corrections and the pairs of all wires
pub fixed_by : (job : ProverJob) (given : Grant) (rounds : List Round) (pairs : List Pair) → IsSoundJob job → IsGrant job.file.params job.statement.program given
    → AreAskedRounds job given rounds → IsProverView job.file (setup_for job given rounds) pairs
    → (d : List ℕ) × (wires : WirePairs) × Fixes job given rounds pairs d wires
fixed_by job given rounds pairs sound granted asked seen =
    let d : List ℕ = honest_corrections job.given pairs in
    let view : (view : View) × IsView job.file job.statement
    (record { setup = setup_for job given rounds; corrections = honest_corrections job.given pairs }) view =
    view_exists job.file job.statement
    (record { setup = setup_for job given rounds; corrections = honest_corrections job.given pairs }) sound.file sound.stated
    (committed job given rounds pairs (honest_corrections job.given pairs) sound (setup_is job given rounds sound granted asked) seen refl) in
    let given_are : view.0.carried.given ≡ corrected_pairs pairs (honest_corrections job.given pairs) =
    view.1.given ∙ ap (λ l. corrected_pairs l (honest_corrections job.given pairs))
    (one_pairs job.file (setup_for job given rounds) view.0.pairs pairs view.1.pairs seen) in (
      d,
      view.0.carried,
      record { granted = granted; asked = asked; seen = seen; fixed = record { corrections_are = refl; given_are = given_are; carried = view.1.carried } },
    )

-- what is fixed under a grant and rounds, whatever was replied
pub record IsFixable (job : ProverJob) (given : Grant) (rounds : List Round) : Type 0 where
  pub pairs : List Pair
  pub d : List ℕ
  pub wires : WirePairs
  pub fixes : Fixes job given rounds pairs d wires

pub fixable : (job : ProverJob) (given : Grant) (rounds : List Round) → IsSoundJob job → IsGrant job.file.params job.statement.program given
    → AreAskedRounds job given rounds → IsFixable job given rounds
fixable job given rounds sound granted asked =
    let found : (pairs : List Pair) × IsProverView job.file (setup_for job given rounds) pairs =
    pairs_exist job.file (setup_for job given rounds) sound.file
    (rounds_are job.file.params job.statement.program (setup_for job given rounds) (setup_is job given rounds sound granted asked)) in
    let fixed : (d : List ℕ) × (wires : WirePairs) × Fixes job given rounds found.0 d wires =
    fixed_by job given rounds found.0 sound granted asked found.1 in
    record { pairs = found.0; d = fixed.0; wires = fixed.1; fixes = fixed.2 }

-- ---- what an honest prover sends after so many turns

-- the turns of a session of these frames
abbrev turns_of : ProverJob → Grant → List Round → List Pair → List ℕ → WirePairs → ℕ → ℕ → ℕ → List (List ℕ × List ℕ)
turns_of job given rounds pairs d wires element code number = session_turns (made job given rounds pairs d wires element code number)

-- as many turns as the rounds have, by the kind
kind_turns : (job : ProverJob) (given : Grant) (rounds : List Round) → AreAskedRounds job given rounds
    → rounds_of job.file.params.kind ≡ length (round_turns rounds)
kind_turns job given rounds asked = sym asked.count ∙ sym (round_count rounds)

turns_within : (turns : List (List ℕ × List ℕ)) (a c e : List ℕ × List ℕ) (k n : ℕ) → k ≡ length turns → n ≤ k + 2 → n < length (a ∷ (turns ++ c ∷ e ∷ []))
turns_within turns a c e k n same few = omega (arith, length-append turns (c ∷ e ∷ []), same, few)

-- the asks of all units, or the corrections where there is no round, once the grant has come
pub asks_after : (job : ProverJob) (given : Grant) (round : Round) (inputs values rest : List ℕ) → IsSoundJob job
    → IsFixable job given (round ∷ []) → IsWitness job.statement inputs values job.given
    → SentAfter (task_of job inputs) (grant_frame given ++ rest) 1 (greeting job ++ flat_map ask_frame round.asks)
asks_after job given round inputs values rest sound can witness = (
  made job given (round ∷ []) can.pairs can.d can.wires 0 0 0,
  made_is job given (round ∷ []) can.pairs can.d can.wires 0 0 0 sound can.fixes (omega arith) (omega arith) (omega arith),
  made_honest job given (round ∷ []) can.pairs can.d can.wires 0 0 0 inputs values can.fixes witness,
  omega arith,
  (rest, ap (λ l. l ++ rest) (sym (append-nil (grant_frame given)))),
  ap (λ l. greeting job ++ l) (sym (append-nil (flat_map ask_frame round.asks))),
)

-- corrections, once all rounds are whole
pub corrections_after : (job : ProverJob) (given : Grant) (rounds : List Round) (pairs : List Pair) (d : List ℕ) (wires : WirePairs) (inputs values rest : List ℕ) → IsSoundJob job
    → Fixes job given rounds pairs d wires → IsWitness job.statement inputs values job.given
    → SentAfter (task_of job inputs) ((grant_frame given ++ answered (round_turns rounds)) ++ rest) (suc (rounds_of job.file.params.kind))
    ((greeting job ++ said (round_turns rounds)) ++ corrections_frame d)
corrections_after job given rounds pairs d wires inputs values rest sound fixes witness =
    let turns : List (List ℕ × List ℕ) = round_turns rounds in
    let c : List ℕ × List ℕ = (corrections_frame d, challenge_frame 0) in
    let e : List ℕ × List ℕ = (sums_frame (sums_for job given pairs wires 0) ++ openings_frame (openings_for job wires), verdict_frame 0 0) in
    let same : rounds_of job.file.params.kind ≡ length (round_turns rounds) = kind_turns job given rounds fixes.asked in (
      made job given rounds pairs d wires 0 0 0,
      made_is job given rounds pairs d wires 0 0 0 sound fixes (omega arith) (omega arith) (omega arith),
      made_honest job given rounds pairs d wires 0 0 0 inputs values fixes witness,
      turns_within turns (greeting job, grant_frame given) c e (rounds_of job.file.params.kind) (rounds_of job.file.params.kind) same (omega arith),
      (
        rest,
        ap (λ l. (grant_frame given ++ l) ++ rest)
            (sym (turns_before (λ (turn : List ℕ × List ℕ). turn.1) turns (c ∷ e ∷ [])) ∙ ap (λ n. answered (take n (turns ++ c ∷ e ∷ []))) (sym same)),
      ),
      append_assoc (greeting job) (said turns) (corrections_frame d)
          ∙ ap (λ l. greeting job ++ l)
          (sym (turns_to (λ (turn : List ℕ × List ℕ). turn.0) turns c (e ∷ [])) ∙ ap (λ n. said (take (suc n) (turns ++ c ∷ e ∷ []))) (sym same)),
    )

-- all that a prover sends
abbrev pub all_sent : ProverJob → Grant → List Round → List Pair → List ℕ → WirePairs → ℕ → List ℕ
all_sent job given rounds pairs d wires element =
    ((greeting job ++ said (round_turns rounds)) ++ corrections_frame d) ++ sums_frame (sums_for job given pairs wires element) ++ openings_frame (openings_for job wires)

-- sums and openings too, once the challenge has come
pub openings_after : (job : ProverJob) (given : Grant) (rounds : List Round) (pairs : List Pair) (d : List ℕ) (wires : WirePairs) (element : ℕ) (inputs values rest : List ℕ) → IsSoundJob job
    → Fixes job given rounds pairs d wires → IsElement element → IsWitness job.statement inputs values job.given
    → SentAfter (task_of job inputs) (((grant_frame given ++ answered (round_turns rounds)) ++ challenge_frame element) ++ rest) (suc (suc (rounds_of job.file.params.kind)))
    (all_sent job given rounds pairs d wires element)
openings_after job given rounds pairs d wires element inputs values rest sound fixes is witness =
    let turns : List (List ℕ × List ℕ) = round_turns rounds in
    let c : List ℕ × List ℕ = (corrections_frame d, challenge_frame element) in
    let e : List ℕ × List ℕ = (sums_frame (sums_for job given pairs wires element) ++ openings_frame (openings_for job wires), verdict_frame 0 0) in
    let same : rounds_of job.file.params.kind ≡ length (round_turns rounds) = kind_turns job given rounds fixes.asked in (
      made job given rounds pairs d wires element 0 0,
      made_is job given rounds pairs d wires element 0 0 sound fixes is (omega arith) (omega arith),
      made_honest job given rounds pairs d wires element 0 0 inputs values fixes witness,
      turns_within turns (greeting job, grant_frame given) c e (rounds_of job.file.params.kind) (suc (rounds_of job.file.params.kind)) same (omega arith),
      (
        rest,
        ap (λ l. l ++ rest) (append_assoc (grant_frame given) (answered turns) (challenge_frame element)
            ∙ ap (λ l. grant_frame given ++ l)
            (sym (turns_to (λ (turn : List ℕ × List ℕ). turn.1) turns c (e ∷ [])) ∙ ap (λ n. answered (take (suc n) (turns ++ c ∷ e ∷ []))) (sym same))),
      ),
      row_four (greeting job) (said turns) (corrections_frame d) (sums_frame (sums_for job given pairs wires element)) (openings_frame (openings_for job wires))
          ∙ ap (λ l. greeting job ++ l)
          (sym (turns_all (λ (turn : List ℕ × List ℕ). turn.0) turns c e) ∙ ap (λ n. said (take (suc (suc n)) (turns ++ c ∷ e ∷ []))) (sym same)),
    )

-- all turns are a beginning of one more
past_last : (turns : List (List ℕ × List ℕ)) (c e : List ℕ × List ℕ) → said (take (suc (suc (suc (length turns)))) (turns ++ c ∷ e ∷ [])) ≡ said turns ++ (c.0 ++ e.0)
past_last [] c e = ap (λ l. c.0 ++ l) (append-nil e.0)
past_last (turn ∷ turns) c e =
    ap (λ l. turn.0 ++ l) (past_last turns c e) ∙ sym (append_assoc turn.0 (said turns) (c.0 ++ e.0))

-- and nothing more once the verdict has come
pub finishes : (job : ProverJob) (given : Grant) (rounds : List Round) (pairs : List Pair) (d : List ℕ) (wires : WirePairs) (element code number : ℕ) (inputs values : List ℕ) → IsSoundJob job
    → Fixes job given rounds pairs d wires → IsElement element → code ≤ 2 → number < 2 ^ 32 → IsWitness job.statement inputs values job.given
    → AreHonestBytes (task_of job inputs) (((grant_frame given ++ answered (round_turns rounds)) ++ challenge_frame element) ++ verdict_frame code number)
    (all_sent job given rounds pairs d wires element)
finishes job given rounds pairs d wires element code number inputs values sound fixes is allowed numbered witness = record {
  turns = suc (suc (suc (rounds_of job.file.params.kind)));
  answer = (
    made job given rounds pairs d wires element code number,
    made_is job given rounds pairs d wires element code number sound fixes is allowed numbered,
    made_honest job given rounds pairs d wires element code number inputs values fixes witness,
    turns_within turns (greeting job, grant_frame given) c e (rounds_of job.file.params.kind) (suc (suc (rounds_of job.file.params.kind))) same (omega arith),
    (
      [],
      row_three (grant_frame given) (answered turns) (challenge_frame element) (verdict_frame code number)
          ∙ ap (λ l. grant_frame given ++ l)
          (sym (turns_all (λ (turn : List ℕ × List ℕ). turn.1) turns c e) ∙ ap (λ n. answered (take (suc (suc n)) (turns ++ c ∷ e ∷ []))) (sym same))
          ∙ sym (append-nil (grant_frame given ++ answered (take (suc (suc (rounds_of job.file.params.kind))) (turns ++ c ∷ e ∷ [])))),
    ),
    row_four (greeting job) (said turns) (corrections_frame d) (sums_frame (sums_for job given pairs wires element)) (openings_frame (openings_for job wires))
        ∙ ap (λ l. greeting job ++ l)
        (sym (past_last turns c e) ∙ ap (λ n. said (take (suc (suc (suc n))) (turns ++ c ∷ e ∷ []))) (sym same)),
  );
  most = most;
}
  where
    c : List ℕ × List ℕ
    c = (corrections_frame d, challenge_frame element)

    turns : List (List ℕ × List ℕ)
    turns = round_turns rounds

    e : List ℕ × List ℕ
    e = (sums_frame (sums_for job given pairs wires element) ++ openings_frame (openings_for job wires), verdict_frame code number)

    same : rounds_of job.file.params.kind ≡ length (round_turns rounds)
    same = kind_turns job given rounds fixes.asked

    most : (more : ℕ) (other : List ℕ) → SentAfter (task_of job inputs) (((grant_frame given ++ answered (round_turns rounds)) ++ challenge_frame element) ++ verdict_frame code number) more other
        → more ≤ suc (suc (suc (rounds_of job.file.params.kind)))
    most zero other after = omega arith
    most (suc n) other after =
        omega (arith, fewer (task_of job inputs) (((grant_frame given ++ answered (round_turns rounds)) ++ challenge_frame element) ++ verdict_frame code number) other n after)

pub same_stage : (some other : Expect) → Some some ≡ Some other → other ≡ some
same_stage some other same = same_Some other some (sym same)

-- ---- side by side

pub greeted_sent : (job : ProverJob) → sent_by Prover (greeted_log job) ≡ greeting job
greeted_sent job = own_bytes Prover (greeting job)

pub greeted_heard : (job : ProverJob) → sent_by Verifier (greeted_log job) ≡ []
greeted_heard job = none_of_prover (greeting job)

pub granted_sent : (job : ProverJob) (given : Grant) → sent_by Prover (granted_log job given) ≡ greeting job
granted_sent job given = came_same Verifier (greeted_log job) (grant_frame given) ∙ greeted_sent job

pub granted_heard : (job : ProverJob) (given : Grant) → sent_by Verifier (granted_log job given) ≡ grant_frame given
granted_heard job given = came_more Prover (greeted_log job) (grant_frame given) ∙ ap (λ l. l ++ grant_frame given) (greeted_heard job)

pub replied_sent : (job : ProverJob) (given : Grant) (came : List (List TreeReply)) → sent_by Prover (replied_log job given came) ≡ greeting job ++ all_asks job given
replied_sent job given came =
    came_same Verifier (asked_log job given) (flat_map reply_frame came)
    ∙ came_more Verifier (granted_log job given) (all_asks job given) ∙ ap (λ l. l ++ all_asks job given) (granted_sent job given)

pub replied_heard : (job : ProverJob) (given : Grant) (came : List (List TreeReply))
    → sent_by Verifier (replied_log job given came) ≡ grant_frame given ++ flat_map reply_frame came
replied_heard job given came =
    came_more Prover (asked_log job given) (flat_map reply_frame came)
    ∙ ap (λ l. l ++ flat_map reply_frame came) (came_same Prover (granted_log job given) (all_asks job given) ∙ granted_heard job given)

rounds_sent : (job : ProverJob) (given : Grant) (rounds : List Round) → sent_by Prover (rounds_log job given rounds) ≡ greeting job ++ said (round_turns rounds)
rounds_sent job given rounds =
    sent_by-append Prover (granted_log job given) (turn_bytes (round_turns rounds))
    ∙ (λ i. granted_sent job given i ++ sent_by-prover (round_turns rounds) i)

rounds_heard : (job : ProverJob) (given : Grant) (rounds : List Round)
    → sent_by Verifier (rounds_log job given rounds) ≡ grant_frame given ++ answered (round_turns rounds)
rounds_heard job given rounds =
    sent_by-append Verifier (granted_log job given) (turn_bytes (round_turns rounds))
    ∙ (λ i. granted_heard job given i ++ sent_by-verifier (round_turns rounds) i)

pub fixed_sent : (job : ProverJob) (given : Grant) (rounds : List Round) (d : List ℕ)
    → sent_by Prover (fixed_log job given rounds d) ≡ (greeting job ++ said (round_turns rounds)) ++ corrections_frame d
fixed_sent job given rounds d = came_more Verifier (rounds_log job given rounds) (corrections_frame d) ∙ ap (λ l. l ++ corrections_frame d) (rounds_sent job given rounds)

pub fixed_heard : (job : ProverJob) (given : Grant) (rounds : List Round) (d : List ℕ)
    → sent_by Verifier (fixed_log job given rounds d) ≡ grant_frame given ++ answered (round_turns rounds)
fixed_heard job given rounds d = came_same Prover (rounds_log job given rounds) (corrections_frame d) ∙ rounds_heard job given rounds

challenged_sent : (job : ProverJob) (given : Grant) (rounds : List Round) (d : List ℕ) (element : ℕ)
    → sent_by Prover (challenged_log job given rounds d element) ≡ (greeting job ++ said (round_turns rounds)) ++ corrections_frame d
challenged_sent job given rounds d element = came_same Verifier (fixed_log job given rounds d) (challenge_frame element) ∙ fixed_sent job given rounds d

challenged_heard : (job : ProverJob) (given : Grant) (rounds : List Round) (d : List ℕ) (element : ℕ)
    → sent_by Verifier (challenged_log job given rounds d element) ≡ (grant_frame given ++ answered (round_turns rounds)) ++ challenge_frame element
challenged_heard job given rounds d element =
    came_more Prover (fixed_log job given rounds d) (challenge_frame element) ∙ ap (λ l. l ++ challenge_frame element) (fixed_heard job given rounds d)

pub opened_sent : (job : ProverJob) (given : Grant) (rounds : List Round) (pairs : List Pair) (d : List ℕ) (wires : WirePairs) (element : ℕ)
    → sent_by Prover (opened_log job given rounds pairs d wires element) ≡ all_sent job given rounds pairs d wires element
opened_sent job given rounds pairs d wires element =
    let u : List ℕ = sums_frame (sums_for job given pairs wires element) in
    let o : List ℕ = openings_frame (openings_for job wires) in
    came_more Verifier (challenged_log job given rounds d element ++ bytes_from Prover u) o
    ∙ ap (λ l. l ++ o) (came_more Verifier (challenged_log job given rounds d element) u ∙ ap (λ l. l ++ u) (challenged_sent job given rounds d element))

pub opened_heard : (job : ProverJob) (given : Grant) (rounds : List Round) (pairs : List Pair) (d : List ℕ) (wires : WirePairs) (element : ℕ)
    → sent_by Verifier (opened_log job given rounds pairs d wires element) ≡ (grant_frame given ++ answered (round_turns rounds)) ++ challenge_frame element
opened_heard job given rounds pairs d wires element =
    let u : List ℕ = sums_frame (sums_for job given pairs wires element) in
    let o : List ℕ = openings_frame (openings_for job wires) in
    came_same Prover (challenged_log job given rounds d element ++ bytes_from Prover u) o
    ∙ came_same Prover (challenged_log job given rounds d element) u ∙ challenged_heard job given rounds d element

-- ---- what comes next, and what was sent

-- the turns that have come where a prover waits
abbrev pub turns_at : ProverJob → ProverStage → ℕ
turns_at job (awaits_replies given came) = 1
turns_at job (awaits_challenge given pairs wires) = suc (rounds_of job.file.params.kind)
turns_at job awaits_verdict = suc (suc (rounds_of job.file.params.kind))
turns_at job other = 0

-- where what came goes on as the turns of some session do, it goes on with a frame of the place
pub next_frame : (job : ProverJob) (claim : Claim) (stage : ProverStage) (awaited : Expect) (before : List (Side × ℕ)) (bytes inputs : List ℕ) → IsSoundJob job
    → IsProverLogAt job claim stage before → prover_expects job stage ≡ Some awaited
    → Hears (task_of job inputs) (sent_by Verifier before ++ bytes) (turns_at job stage) → IsNextFrame awaited bytes
next_frame job claim awaits_grant awaited before bytes inputs sound at is heard =
    subst (λ e. IsNextFrame e bytes) (sym (same_stage expect.Grant awaited is))
    (next_grant job.file.params job.statement.program heard.u bytes heard.more sound.file.params.total heard.is
    (ap (λ l. l ++ bytes) (sym (ap (sent_by Verifier) at.1 ∙ greeted_heard job)) ∙ heard.begun))
next_frame job claim (awaits_replies given came) awaited before bytes inputs sound (claimed, some, at) is heard =
    subst (λ e. IsNextFrame e bytes) (sym (same_stage _ awaited is))
    (next_replies (task_of job inputs) given came _ heard.u bytes heard.more sound.file some.extended some.granted
    (omega (arith, some.more)) some.each heard.is
    (ap (λ l. l ++ bytes) (sym (ap (sent_by Verifier) at ∙ replied_heard job given came)) ∙ heard.begun))
next_frame job claim (awaits_challenge given pairs wires) awaited before bytes inputs sound (rounds, d, claimed, fixes, at) is heard =
    subst (λ e. IsNextFrame e bytes) (sym (same_stage expect.Challenge awaited is))
    (next_challenge (task_of job inputs) given rounds heard.u bytes heard.more sound.file fixes.granted fixes.asked.count fixes.asked.ranged heard.is
    (ap (λ l. l ++ bytes) (sym (ap (sent_by Verifier) at ∙ fixed_heard job given rounds d)) ∙ heard.begun))
next_frame job claim awaits_verdict awaited before bytes inputs sound opened is heard =
    subst (λ e. IsNextFrame e bytes) (sym (same_stage expect.Verdict awaited is))
    (next_verdict (task_of job inputs) opened.given opened.rounds opened.element heard.u bytes heard.more sound.file opened.fixes.granted
    opened.fixes.asked.count opened.fixes.asked.ranged heard.is
    (ap (λ l. l ++ bytes) (sym (ap (sent_by Verifier) opened.logged
    ∙ opened_heard job opened.given opened.rounds opened.pairs opened.d opened.wires opened.element)) ∙ heard.begun))
next_frame job claim has_ended awaited before bytes inputs sound at is heard = absurd at

-- what was sent where a prover waits is what an honest prover sends after as many turns
sent_after : (job : ProverJob) (claim : Claim) (stage : ProverStage) (before : List (Side × ℕ)) (rest inputs values : List ℕ) → IsSoundJob job
    → IsProverLogAt job claim stage before → IsWitness job.statement inputs values job.given
    → SentAfter (task_of job inputs) (sent_by Verifier before ++ rest) (turns_at job stage) (sent_by Prover before)
sent_after job claim awaits_grant before rest inputs values sound at witness = ap (sent_by Prover) at.1 ∙ greeted_sent job
sent_after job claim (awaits_replies given came) before rest inputs values sound (claimed, some, at) witness =
    subst (λ (q : List ℕ × List ℕ). SentAfter (task_of job inputs) (q.0 ++ rest) 1 q.1)
    (λ i. (sym (ap (sent_by Verifier) at ∙ replied_heard job given came) i, sym (ap (sent_by Prover) at ∙ replied_sent job given came) i))
    (subst (λ l. SentAfter (task_of job inputs) l 1 (greeting job ++ all_asks job given)) (sym (append_assoc (grant_frame given) (flat_map reply_frame came) rest))
    (of_rounds (some_rounds job given sound.file some.granted)))
  where
    of_rounds : (rounds : List Round) × AreAskedRounds job given rounds
        → SentAfter (task_of job inputs) (grant_frame given ++ (flat_map reply_frame came ++ rest)) 1 (greeting job ++ all_asks job given)
    of_rounds ([], asked) = absurd (omega (arith, asked.count, ap rounds_of some.extended))
    of_rounds (round ∷ next ∷ rounds, asked) = absurd (omega (arith, asked.count, ap rounds_of some.extended))
    of_rounds (round ∷ [], asked) =
        subst (λ l. SentAfter (task_of job inputs) (grant_frame given ++ (flat_map reply_frame came ++ rest)) 1 (greeting job ++ l))
        (ap (flat_map ask_frame) (asked.asks 0 round (omega arith)))
        (asks_after job given round inputs values (flat_map reply_frame came ++ rest) sound (fixable job given (round ∷ []) sound some.granted asked) witness)
sent_after job claim (awaits_challenge given pairs wires) before rest inputs values sound (rounds, d, claimed, fixes, at) witness =
    subst (λ (q : List ℕ × List ℕ). SentAfter (task_of job inputs) (q.0 ++ rest) (suc (rounds_of job.file.params.kind)) q.1)
    (λ i. (sym (ap (sent_by Verifier) at ∙ fixed_heard job given rounds d) i, sym (ap (sent_by Prover) at ∙ fixed_sent job given rounds d) i))
    (corrections_after job given rounds pairs d wires inputs values rest sound fixes witness)
sent_after job claim awaits_verdict before rest inputs values sound opened witness =
    subst (λ (q : List ℕ × List ℕ). SentAfter (task_of job inputs) (q.0 ++ rest) (suc (suc (rounds_of job.file.params.kind))) q.1)
    (λ i. (
      sym (ap (sent_by Verifier) opened.logged ∙ opened_heard job opened.given opened.rounds opened.pairs opened.d opened.wires opened.element) i,
      sym (ap (sent_by Prover) opened.logged ∙ opened_sent job opened.given opened.rounds opened.pairs opened.d opened.wires opened.element) i,
    ))
    (openings_after job opened.given opened.rounds opened.pairs opened.d opened.wires opened.element inputs values rest sound opened.fixes opened.is witness)
sent_after job claim has_ended before rest inputs values sound at witness = absurd at

-- Where a prover waits, and what came since is no whole frame, the next turn was not heard.
pub not_heard : (job : ProverJob) (claim : Claim) (stage : ProverStage) (awaited : Expect) (before : List (Side × ℕ)) (rest : List ℕ) (inputs : List ℕ)
    → IsSoundJob job → IsProverLogAt job claim stage before → prover_expects job stage ≡ Some awaited
    → length rest ≤ longest awaited → IsUnfinished awaited rest
    → Hears (task_of job inputs) (sent_by Verifier before ++ rest) (turns_at job stage) → ⊥
not_heard job claim stage awaited before rest inputs sound at is few unfinished heard =
    let next = next_frame job claim stage awaited before rest inputs sound at is heard in
    unstarted awaited rest next.frame next.tail next.allowed next.long few unfinished next.begun

-- Where a prover waits, and what came since is no whole frame, it has sent all that an honest prover sends.
pub has_answered : (job : ProverJob) (claim : Claim) (stage : ProverStage) (awaited : Expect) (before : List (Side × ℕ)) (rest : List ℕ) (inputs values : List ℕ)
    → IsSoundJob job → IsProverLogAt job claim stage before → prover_expects job stage ≡ Some awaited
    → length rest ≤ longest awaited → IsUnfinished awaited rest → IsWitness job.statement inputs values job.given
    → HasEndedHonestly (task_of job inputs) (before ++ bytes_from Verifier rest)
has_answered job claim stage awaited before rest inputs values sound at is few unfinished witness =
    subst (λ (q : List ℕ × List ℕ). AreHonestBytes (task_of job inputs) q.0 q.1) (λ i. (sym (came_more Prover before rest) i, sym (came_same Verifier before rest) i))
    (honest_bytes (task_of job inputs) (sent_by Verifier before ++ rest) (sent_by Prover before) (turns_at job stage)
    (sent_after job claim stage before rest inputs values sound at witness)
    (not_heard job claim stage awaited before rest inputs sound at is few unfinished))

-- where it ended so, it sent a beginning of it
pub from_ended : (job : ProverJob) (inputs : List ℕ) (log : List (Side × ℕ)) → HasEndedHonestly (task_of job inputs) log
    → IsFromHonestProver (task_of job inputs) log
from_ended job inputs log ended = (sent_by Prover log, ended, ([], sym (append-nil (sent_by Prover log))))
