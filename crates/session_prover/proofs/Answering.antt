-- What a prover's answers make of a session.
use Rattle.std.proofs.Common.{◌≡◌, ℕ, zero, suc, List, [], ◌∷◌, ◌++◌, flat_map, take, length, refl, ap, sym, ◌∙◌, subst, append_assoc, append-nil, length-append, arith, inl, inr, ◌⊎◌, ◌+◌, ◌-◌, ◌≤◌, map, Some, ◌*◌, ◌^◌}
use Rattle.std.specs.Prelude.{All}
use Rattle.std.proofs.lemmas.List.Elements.{All-nil, All-cons, All-push, All-map, All-weaker}
use Rattle.frame_laws.proofs.SentBytes.{sent_by-append}
use Rattle.session_laws.proofs.Turns.{said, answered}
use Rattle.frame_laws.proofs.Hellos.{wanted_is_hello}
use Rattle.session_laws.proofs.Followed.{last_two}
use Rattle.zk_model.specs.Program.{Program, section_count}
use Rattle.zk_model.specs.Statement.{Statement}
use Rattle.zk_model.specs.Files.{VerifierFile, rounds_of, span_pairs, AreWithinLimits, ProverFile, IsProverFile}
use Rattle.zk_model.specs.Transcript.{Grant, TreeReply, Round, Transcript, IsGrant, IsRound, IsTreeAsk, IsTranscript, sent_by, session_turns, hello_frame, grant_frame, ask_frame, reply_frame, corrections_frame, bytes_from, challenge_frame, sums_frame, openings_frame, TreeAsk}
use Rattle.zk_model.specs.ServedVerifier.{VerifierTask, RepliesAre, round_replies}
use Rattle.zk_model.specs.Peers.{IsFromHonestVerifier}
use Rattle.zk_model.specs.declared.Kind.{Kind}
use Rattle.zk_model.specs.declared.Kind.TheVariants.{Direct, Extended}
use Rattle.zk_model.specs.declared.Params.{Params}
use Rattle.zk_model.specs.declared.Side.{Side}
use Rattle.zk_model.specs.declared.Side.TheVariants.{Prover, Verifier}
use Rattle.session_core.specs.Jobs.{ProverJob, Suits}
use Rattle.session_prover.specs.Stages.{AreAskedRounds, greeting, fixed_log, setup_for, Claim, Fixes, IsProverLogAt, all_asks, granted_log, replied_log, sums_for, openings_for, ClaimedFor, AreSomeReplies, IsLogTaken, asked_log, rounds_log, challenged_log, IsSoundJob, IsBehindGrant}
use Rattle.session_prover.proofs.Heard.{fixed_sent, fixed_heard, greeted_sent, replied_sent, setup_is, fixed_by, committed, has_answered}
use Rattle.session_prover.proofs.AskedRounds.{all_pairs, asked_none, asked_round}
use Rattle.zk_laws.proofs.KeysFit.{keys_fit}
use Rattle.zk_laws.proofs.Views.{rounds_are}
use Rattle.zk_model.specs.Mac.{Pair}
use Rattle.zk_model.specs.Check.{WirePairs}
use Rattle.session_core.specs.Cores.{ProverStage, awaits_grant, awaits_replies, awaits_challenge, awaits_verdict, has_ended, prover_expects, Commits, AnswersGrant, GoesOn, ProverAnswers}
use Rattle.session_prover.specs.Notes.{IsGrantRead, IsRelated, task_of}
use Rattle.frame_link.proofs.FramesLemmas.{some_replies, ask_length}
use Rattle.session_driver.proofs.Rows.{row_three, row_four, nested}
use Rattle.std.proofs.lemmas.Bool.{cases_lt}
use Rattle.zk_model.specs.Correlations.{IsProverView}
use Rattle.zk_model.specs.Frames.{Frame, asks, corrections, sums, openings, AreReplies, frame_spelling, AreAsks}
use Rattle.zk_model.specs.HonestProver.{IsWitness, AreHonestBytes, round_asks}
use Rattle.zk_model.specs.View.{span_of}
use Rattle.zk_model.specs.declared.Expect.{Expect}
use Rattle.frame_link.specs.Lines.{IsUnfinished}
use Rattle.session_core.specs.Ends.{IsFixed}
use Rattle.session_core.specs.Fixing.{AreFirstPairs}
use Rattle.session_core.proofs.DirectViews.{pairs_seen}
use Rattle.session_core.proofs.Rounds.{whole_view}
use Rattle.std.proofs.lemmas.Nat.{mul-le}
use Rattle.std.proofs.lemmas.List.{length-map}
use Rattle.std.proofs.lemmas.List.FromFn.{length-map-range_with_len}
use Rattle.session_laws.proofs.Shapes.{round_asks_shaped}
use Rattle.proof_frames.specs.Frames.{IsShort}
use Rattle.session_core.proofs.Enough.{parts_within}
use Rattle.proof_frames.proofs.FrameLemmas.{length-elements, length-sums}
use Rattle.zk_model.specs.declared.Expect.TheVariants as expect
use Rattle.session_driver.proofs.Rounds.{BeginAlike, first_of, round_of, same_rounds, only, turns_of}
use Rattle.session_driver.proofs.Going.{came_more, came_same, bytes_more}

-- The corrections that are sent, and the keys that fit their pairs.

-- ---- the replies that came, where an honest verifier sent its part

-- what came and what was sent, where a round was whole
record HasRound (job : ProverJob) (given : Grant) (round : Round) (log : List (Side × ℕ)) : Type 0 where
  came : List ℕ
  heard : sent_by Verifier log ≡ grant_frame given ++ (flat_map reply_frame round.replies ++ came)
  later : List ℕ
  sent : sent_by Prover log ≡ greeting job ++ (flat_map ask_frame round.asks ++ later)

has_round : (job : ProverJob) (given : Grant) (round : Round) (d : List ℕ) (log more : List (Side × ℕ)) → log ≡ fixed_log job given (round ∷ []) d ++ more
    → HasRound job given round log
has_round job given round d log more is = record {
  came = sent_by Verifier more;
  heard = ap (sent_by Verifier) is ∙ sent_by-append Verifier (fixed_log job given (round ∷ []) d) more
      ∙ ap (λ l. l ++ sent_by Verifier more) (fixed_heard job given (round ∷ []) d)
      ∙ nested (grant_frame given) (flat_map reply_frame round.replies) [] (sent_by Verifier more);
  later = corrections_frame d ++ sent_by Prover more;
  sent = ap (sent_by Prover) is ∙ sent_by-append Prover (fixed_log job given (round ∷ []) d) more
      ∙ ap (λ l. l ++ sent_by Prover more) (fixed_sent job given (round ∷ []) d)
      ∙ append_assoc (greeting job ++ (flat_map ask_frame round.asks ++ [])) (corrections_frame d) (sent_by Prover more)
      ∙ nested (greeting job) (flat_map ask_frame round.asks) [] (corrections_frame d ++ sent_by Prover more);
}

-- the replies of a round that is whole are an honest verifier's, where it sent its part
one_replied : (job : ProverJob) (given : Grant) (round : Round) (file : VerifierFile) (t : Transcript) (log : List (Side × ℕ)) (turns : ℕ) → IsSoundJob job
    → IsGrant job.file.params job.statement.program given → IsRound job.file.params given round → job.file.params.kind ≡ Extended
    → IsTranscript job.file.params job.statement.program t → RepliesAre file t.commitment.setup → HasRound job given round log
    → (z : List ℕ) → answered (take turns (session_turns t)) ≡ sent_by Verifier log ++ z
    → (w : List ℕ) → sent_by Prover log ≡ said (take turns (session_turns t)) ++ w
    → round.replies ≡ round_replies file given round.asks
one_replied job given round file t log zero sound granted is extended transcript served has z begun w heard =
    absurd (omega (arith, ap length (begun ∙ ap (λ l. l ++ z) has.heard)))
one_replied job given round file t log (suc zero) sound granted is extended transcript served has z begun w heard =
    absurd (omega (
      arith,
      ap length (begun ∙ ap (λ l. l ++ z) has.heard),
      some_replies round.replies (omega (arith, is.replies.0, granted.count)),
      length-append (flat_map reply_frame round.replies) has.came,
      length-append (grant_frame given ++ (flat_map reply_frame round.replies ++ has.came)) z,
    ))
one_replied job given round file t log (suc (suc m)) sound granted is extended transcript served has z begun w heard =
    let found = only t.commitment.setup.rounds (transcript.commitment.setup.round_count ∙ ap rounds_of extended) in
    let other : Round = found.0 in
    let grant : Grant = t.commitment.setup.grant in
    let turns = turns_of t other found.1 in
    let alike : BeginAlike (first_of (setup_for job given []).hello given) (round_of round) (first_of t.commitment.setup.hello grant) (round_of other) = record {
      said_here = has.later;
      said_there = said (take m (last_two t)) ++ w;
      same_said = sym has.sent ∙ heard ∙ ap (λ (l : List (List ℕ × List ℕ)). said (take (suc (suc m)) l) ++ w) turns
          ∙ nested (hello_frame t.commitment.setup.hello) (flat_map ask_frame other.asks) (said (take m (last_two t))) w;
      answered_here = has.came ++ z;
      answered_there = answered (take m (last_two t));
      same_answered = sym (nested (grant_frame given) (flat_map reply_frame round.replies) has.came z) ∙ ap (λ l. l ++ z) (sym has.heard) ∙ sym begun
          ∙ ap (λ (l : List (List ℕ × List ℕ)). answered (take (suc (suc m)) l)) turns;
    } in
    let same = same_rounds job.file.params job.statement.program (setup_for job given []).hello t.commitment.setup.hello given grant round other sound.file.params
    (wanted_is_hello job.file.id job.statement sound.file.id sound.stated) transcript.commitment.setup.hello granted transcript.commitment.setup.grant is
    (subst (All (IsRound job.file.params grant)) found.1 transcript.commitment.setup.rounds 0 other (omega arith)) alike in
    same.replies ∙ subst (All (λ (q : Round). q.replies ≡ round_replies file grant q.asks)) found.1 served 0 other (omega arith)
    ∙ (λ i. round_replies file (sym same.grants i) (sym same.asks i))

-- all together
pub honest_replies : (job : ProverJob) (given : Grant) (rounds : List Round) (d : List ℕ) (log more : List (Side × ℕ)) (verifier : VerifierTask) → IsSoundJob job
    → IsGrant job.file.params job.statement.program given → AreAskedRounds job given rounds → log ≡ fixed_log job given rounds d ++ more
    → job.file.params ≡ verifier.file.params → job.statement ≡ verifier.statement → IsFromHonestVerifier verifier log
    → RepliesAre verifier.file (setup_for job given rounds)
honest_replies job given [] d log more verifier sound granted asked is params stated honest = All-nil (λ q. q.replies ≡ round_replies verifier.file given q.asks)
honest_replies job given (round ∷ next ∷ rounds) d log more verifier sound granted asked is params stated honest =
    absurd (too_many job.file.params.kind asked.count)
  where
    too_many : (kind : Kind) → length (round ∷ next ∷ rounds) ≡ rounds_of kind → ⊥
    too_many Direct count = absurd (omega (arith, count))
    too_many Extended count = absurd (omega (arith, count))
honest_replies job given (round ∷ []) d log more verifier sound granted asked is params stated honest =
    All-cons (λ q. q.replies ≡ round_replies verifier.file given q.asks) round []
    (one_replied job given round verifier.file honest.t log honest.turns sound granted (asked.ranged 0 round (omega arith)) (is_extended job.file.params.kind asked.count)
    (subst (λ (q : Params × Program). IsTranscript q.0 q.1 honest.t) (λ i. (sym params i, sym (ap (λ (s : Statement). s.program) stated) i))
    honest.served.in_order.transcript)
    honest.served.replies (has_round job given round d log more is) honest.begun.0 honest.begun.1 honest.heard.0 honest.heard.1)
    (All-nil (λ q. q.replies ≡ round_replies verifier.file given q.asks))
  where
    is_extended : (kind : Kind) → length (round ∷ []) ≡ rounds_of kind → kind ≡ Extended
    is_extended Direct count = absurd (omega (arith, count))
    is_extended Extended count = refl

-- ---- the grant that was read

-- a grant that fits suits
pub suits_is : (params : Params) (program : Program) (given : Grant) → IsGrant params program given → Suits params program given
suits_is params program given is =
    record { section_some = is.section_some; section_most = is.section_most; count = is.count; count_most = is.count_most }

-- a log that goes on after a grant
pub read_is : (job : ProverJob) (given : Grant) (log more : List (Side × ℕ)) → IsGrant job.file.params job.statement.program given
    → log ≡ granted_log job given ++ more → IsGrantRead job log given
read_is job given log more granted is = record { suits = suits_is job.file.params job.statement.program given granted; begun = (more, is) }

-- the grant that a log stands on
pub record IsUnder (job : ProverJob) (claim : Claim) (log : List (Side × ℕ)) : Type 0 where
  pub given : Grant
  pub claimed : ClaimedFor claim given
  pub granted : IsGrant job.file.params job.statement.program given
  pub more : List (Side × ℕ)
  pub logged : log ≡ granted_log job given ++ more

pub read_under : (job : ProverJob) (claim : Claim) (log : List (Side × ℕ)) → (u : IsUnder job claim log) → IsGrantRead job log u.given
read_under job claim log u = read_is job u.given log u.more u.granted u.logged

-- ---- what was sent

-- where the greeting alone was sent
pub related_greeting : (job : ProverJob) (log : List (Side × ℕ)) → sent_by Prover log ≡ greeting job → IsRelated job log
related_greeting job log sent = inl (inl ([], sym (append-nil (sent_by Prover log) ∙ sent)))

-- or a beginning of it
pub related_part : (job : ProverJob) (done rest : List ℕ) → greeting job ≡ done ++ rest → IsRelated job (bytes_from Prover done)
related_part job done rest is = inl (inl (rest, is ∙ ap (λ l. l ++ rest) (sym (came_more Verifier [] done))))

-- where the greeting and a beginning of the asks were
pub related_asks : (job : ProverJob) (given : Grant) (log more : List (Side × ℕ)) (part rest : List ℕ) → job.file.params.kind ≡ Extended
    → IsGrant job.file.params job.statement.program given → log ≡ granted_log job given ++ more
    → sent_by Prover log ≡ greeting job ++ part → all_asks job given ≡ part ++ rest → IsRelated job log
related_asks job given log more part rest extended granted is sent begun = inl (inr (
  given,
  read_is job given log more granted is,
  extended,
  (rest, ap (λ l. greeting job ++ l) begun ∙ sym (append_assoc (greeting job) part rest) ∙ ap (λ l. l ++ rest) (sym sent)),
))

-- where the corrections were
pub related_fixed : (job : ProverJob) (given : Grant) (rounds : List Round) (pairs : List Pair) (d : List ℕ) (wires : WirePairs) (log more : List (Side × ℕ)) → IsSoundJob job
    → Fixes job given rounds pairs d wires → log ≡ fixed_log job given rounds d ++ more → IsRelated job log
related_fixed job given rounds pairs d wires log more sound fixes is = inr (record {
  given = given;
  rounds = rounds;
  pairs = pairs;
  d = d;
  begun = (more, is);
  asked = fixes.asked;
  seen = fixes.seen;
  corrections = fixes.fixed.corrections_are;
  keys = λ verifier file dealt replied. keys_fit job.file verifier _ pairs sound.file file dealt
      (rounds_are job.file.params job.statement.program _ (setup_is job given rounds sound fixes.granted fixes.asked)) replied fixes.seen;
  replied = λ verifier dealt stated honest. honest_replies job given rounds d log more verifier sound fixes.granted fixes.asked is dealt.params stated honest;
})

-- where the replies for some units have come
pub related_replied : (job : ProverJob) (given : Grant) (came : List (List TreeReply)) (log : List (Side × ℕ)) (more : List ℕ) → job.file.params.kind ≡ Extended
    → IsGrant job.file.params job.statement.program given → log ≡ replied_log job given came ++ bytes_from Verifier more → IsRelated job log
related_replied job given came log more extended granted is =
    related_asks job given log (bytes_from Prover (all_asks job given) ++ (bytes_from Verifier (flat_map reply_frame came) ++ bytes_from Verifier more)) (all_asks job given) []
    extended granted
    (is ∙ row_three (granted_log job given) (bytes_from Prover (all_asks job given)) (bytes_from Verifier (flat_map reply_frame came)) (bytes_from Verifier more))
    (ap (sent_by Prover) is ∙ came_same Verifier (replied_log job given came) more ∙ replied_sent job given came)
    (sym (append-nil (all_asks job given)))

-- where a prover waits, and bytes have come since
pub related_at : (job : ProverJob) (claim : Claim) (stage : ProverStage) (before : List (Side × ℕ)) (rest : List ℕ) → IsSoundJob job
    → IsProverLogAt job claim stage before → IsRelated job (before ++ bytes_from Verifier rest)
related_at job claim awaits_grant before rest sound at =
    related_greeting job (before ++ bytes_from Verifier rest) (came_same Verifier before rest ∙ ap (sent_by Prover) at.1 ∙ greeted_sent job)
related_at job claim (awaits_replies given came) before rest sound (claimed, some, at) =
    related_replied job given came (before ++ bytes_from Verifier rest) rest some.extended some.granted (ap (λ l. l ++ bytes_from Verifier rest) at)
related_at job claim (awaits_challenge given pairs wires) before rest sound (rounds, d, claimed, fixes, at) =
    related_fixed job given rounds pairs d wires (before ++ bytes_from Verifier rest) (bytes_from Verifier rest) sound fixes (ap (λ l. l ++ bytes_from Verifier rest) at)
related_at job claim awaits_verdict before rest sound opened =
    let challenged = bytes_from Verifier (challenge_frame opened.element) in
    let summed = bytes_from Prover (sums_frame (sums_for job opened.given opened.pairs opened.wires opened.element)) in
    let opening = bytes_from Prover (openings_frame (openings_for job opened.wires)) in
    related_fixed job opened.given opened.rounds opened.pairs opened.d opened.wires (before ++ bytes_from Verifier rest)
    (challenged ++ (summed ++ (opening ++ bytes_from Verifier rest))) sound opened.fixes
    (ap (λ l. l ++ bytes_from Verifier rest) opened.logged
    ∙ row_four (fixed_log job opened.given opened.rounds opened.d) challenged summed opening (bytes_from Verifier rest))
related_at job claim has_ended before rest sound at = absurd at

-- What a prover's answers make of a session, and where they stop.

-- ---- the answer to a grant, by the kind

-- a job over a file of another kind
abbrev of_kind : ProverJob → Kind → ProverJob
of_kind job kind = record job { file = record job.file { params = record job.file.params { kind = kind } } }

-- corrections of the dealt pairs in kind direct, and the asks of all units in kind extended
abbrev pub IsGrantAnswer : ProverJob → Grant → List Frame → ProverStage → Type 0
IsGrantAnswer job given answer now =
    ((job.file.params.kind ≡ Direct) × Commits job given (span_pairs job.file (span_of given)) answer now)
    ⊎ ((job.file.params.kind ≡ Extended) × (answer ≡ map asks (round_asks job.file given)) × (now ≡ awaits_replies given []))

by_kind : (job : ProverJob) (kind : Kind) (given : Grant) (answer : List Frame) (now : ProverStage) → AnswersGrant (of_kind job kind) given answer now
    → IsGrantAnswer (of_kind job kind) given answer now
by_kind job Direct given answer now answers = inl (refl, answers)
by_kind job Extended given answer now answers = inr (refl, answers.0, answers.1)

pub grant_answer : (job : ProverJob) (given : Grant) (answer : List Frame) (now : ProverStage) → AnswersGrant job given answer now
    → IsGrantAnswer job given answer now
grant_answer job given answer now answers = by_kind job job.file.params.kind given answer now answers

-- corrections and the pairs of all wires that pairs fix
record CanCommit (job : ProverJob) (given : Grant) (pairs : List Pair) : Type 0 where
  d : List ℕ
  wires : WirePairs
  fixed : IsFixed job.statement job.given pairs d wires

answer_of_kind : (job : ProverJob) (kind : Kind) (given : Grant)
    → (kind ≡ Direct → CanCommit (of_kind job kind) given (span_pairs (of_kind job kind).file (span_of given)))
    → (answer : List Frame) × (now : ProverStage) × AnswersGrant (of_kind job kind) given answer now
answer_of_kind job Direct given can =
    let c = can refl in
    (corrections c.d ∷ [], awaits_challenge given (span_pairs (of_kind job Direct).file (span_of given)) c.wires, (c.d, c.wires, c.fixed, refl, refl))
answer_of_kind job Extended given can =
    (map asks (round_asks (of_kind job Extended).file given), awaits_replies given [], (refl, refl))

commits_to : (job : ProverJob) (given : Grant) (rounds : List Round) (pairs : List Pair) → IsSoundJob job → IsGrant job.file.params job.statement.program given
    → AreAskedRounds job given rounds → IsProverView job.file (setup_for job given rounds) pairs → CanCommit job given pairs
commits_to job given rounds pairs sound granted asked seen =
    let found = fixed_by job given rounds pairs sound granted asked seen in
    record { d = found.0; wires = found.1; fixed = found.2.fixed }

-- ---- the answer

-- a prover that is where it waits, after its corrections
commits_at : (job : ProverJob) (claim : Claim) (given : Grant) (rounds : List Round) (pairs : List Pair) (answer : List Frame) (now : ProverStage) (log : List (Side × ℕ))
    → ClaimedFor claim given → IsGrant job.file.params job.statement.program given → AreAskedRounds job given rounds
    → IsProverView job.file (setup_for job given rounds) pairs → log ≡ rounds_log job given rounds → Commits job given pairs answer now
    → IsProverLogAt job claim now (log ++ bytes_from Prover (flat_map frame_spelling answer))
commits_at job claim given rounds pairs answer now log claimed granted asked seen at (d, wires, fixed, said, next) =
    subst (λ p. IsProverLogAt job claim p (log ++ bytes_from Prover (flat_map frame_spelling answer))) (sym next) (
      rounds,
      d,
      claimed,
      record { granted = granted; asked = asked; seen = seen; fixed = fixed },
      (λ i. at i ++ bytes_from Prover (flat_map frame_spelling (said i)))
          ∙ ap (λ l. rounds_log job given rounds ++ bytes_from Prover l) (append-nil (corrections_frame d)),
    )

-- after its asks
pub spelled_asks : (trees : List (List TreeAsk)) → flat_map frame_spelling (map asks trees) ≡ flat_map ask_frame trees
spelled_asks [] = refl
spelled_asks (first ∷ trees) = ap (λ l. ask_frame first ++ l) (spelled_asks trees)

asks_at : (job : ProverJob) (claim : Claim) (given : Grant) (answer : List Frame) (now : ProverStage) (log : List (Side × ℕ))
    → ClaimedFor claim given → IsGrant job.file.params job.statement.program given → job.file.params.kind ≡ Extended
    → log ≡ granted_log job given → answer ≡ map asks (round_asks job.file given) → now ≡ awaits_replies given []
    → IsProverLogAt job claim now (log ++ bytes_from Prover (flat_map frame_spelling answer))
asks_at job claim given answer now log claimed granted extended at said next =
    subst (λ p. IsProverLogAt job claim p (log ++ bytes_from Prover (flat_map frame_spelling answer))) (sym next) (
      claimed,
      record {
        granted = granted;
        extended = extended;
        more = omega (arith, granted.count);
        each = All-nil (AreReplies job.file.params.height job.file.params.trees);
      },
      (λ i. at i ++ bytes_from Prover (flat_map frame_spelling (said i)))
          ∙ ap (λ l. granted_log job given ++ bytes_from Prover l) (spelled_asks (round_asks job.file given))
          ∙ sym (append-nil (asked_log job given)),
    )

-- the replies that came, one unit more
pub replied_more : (job : ProverJob) (given : Grant) (came : List (List TreeReply)) (trees : List TreeReply) → AreSomeReplies job given came
    → AreReplies job.file.params.height job.file.params.trees trees → All (AreReplies job.file.params.height job.file.params.trees) (came ++ trees ∷ [])
replied_more job given came trees some are = All-push (AreReplies job.file.params.height job.file.params.trees) came trees some.each are

-- a whole round
abbrev pub round_with : ProverJob → Grant → List (List TreeReply) → List Round
round_with job given came = record { asks = round_asks job.file given; replies = came } ∷ []

pub whole_log : (job : ProverJob) (given : Grant) (came : List (List TreeReply)) → replied_log job given came ≡ rounds_log job given (round_with job given came)
whole_log job given came =
    append_assoc (granted_log job given) (bytes_from Prover (all_asks job given)) (bytes_from Verifier (flat_map reply_frame came))
    ∙ ap (λ l. granted_log job given ++ l) (sym (append-nil (bytes_from Prover (all_asks job given) ++ bytes_from Verifier (flat_map reply_frame came))))

-- after the replies of one unit more
replies_at : (job : ProverJob) (claim : Claim) (given : Grant) (came : List (List TreeReply)) (trees : List TreeReply) (answer : List Frame) (now : ProverStage) (log : List (Side × ℕ))
    → IsSoundJob job → ClaimedFor claim given → AreSomeReplies job given came → AreReplies job.file.params.height job.file.params.trees trees
    → log ≡ replied_log job given (came ++ trees ∷ []) → GoesOn job given (came ++ trees ∷ []) answer now
    → IsProverLogAt job claim now (log ++ bytes_from Prover (flat_map frame_spelling answer))
replies_at job claim given came trees answer now log sound claimed some are at (inl (less, said, next)) =
    subst (λ p. IsProverLogAt job claim p (log ++ bytes_from Prover (flat_map frame_spelling answer))) (sym next) (
      claimed,
      record {
        granted = some.granted;
        extended = some.extended;
        more = less;
        each = replied_more job given came trees some are;
      },
      (λ i. at i ++ bytes_from Prover (flat_map frame_spelling (said i))) ∙ append-nil (replied_log job given (came ++ trees ∷ [])),
    )
replies_at job claim given came trees answer now log sound claimed some are at (inr (all, pairs, made, commits)) =
    commits_at job claim given (round_with job given (came ++ trees ∷ [])) pairs answer now log claimed some.granted
    (asked_round job given (came ++ trees ∷ []) sound.file some.granted some.extended all (replied_more job given came trees some are))
    (whole_view job.file (setup_for job given []).hello given (came ++ trees ∷ []) pairs all made)
    (at ∙ whole_log job given (came ++ trees ∷ [])) commits

-- a prover that is where it waits, after its answer
pub answer_leads : (job : ProverJob) (claim : Claim) (stage : ProverStage) (frame : Frame) (answer : List Frame) (now : ProverStage) (log : List (Side × ℕ)) → IsSoundJob job
    → IsLogTaken job claim stage frame log → ProverAnswers job stage frame answer now
    → IsProverLogAt job claim now (log ++ bytes_from Prover (flat_map frame_spelling answer))
answer_leads job claim awaits_grant frame answer now log sound (given, is, claimed, granted, at) (other, is_too, fits, answers) =
    of_kind_of (grant_answer job given answer now (subst (λ g. AnswersGrant job g answer now) (sym same) answers))
  where
    same : given ≡ other
    same = cc

    of_kind_of : IsGrantAnswer job given answer now → IsProverLogAt job claim now (log ++ bytes_from Prover (flat_map frame_spelling answer))
    of_kind_of (inl (direct, commits)) =
        commits_at job claim given [] (span_pairs job.file (span_of given)) answer now log claimed granted (asked_none job given direct)
        (pairs_seen job.file (setup_for job given [])) (at ∙ sym (append-nil (granted_log job given))) commits
    of_kind_of (inr (extended, said, next)) = asks_at job claim given answer now log claimed granted extended at said next
answer_leads job claim (awaits_replies given came) frame answer now log sound (trees, is, are, claimed, some, at) (other, is_too, goes) =
    replies_at job claim given came trees answer now log sound claimed some are at
    (let same : other ≡ trees = cc in subst (λ t. GoesOn job given (came ++ t ∷ []) answer now) same goes)
answer_leads job claim (awaits_challenge given pairs wires) frame answer now log sound (element, rounds, d, is, ranged, claimed, fixes, at) (other, is_too, said, next) =
    let same : element ≡ other = cc in
    let u : List ℕ = sums_frame (sums_for job given pairs wires element) in
    let o : List ℕ = openings_frame (openings_for job wires) in
    subst (λ p. IsProverLogAt job claim p (log ++ bytes_from Prover (flat_map frame_spelling answer))) (sym next) (record {
      given = given;
      claimed = claimed;
      rounds = rounds;
      pairs = pairs;
      d = d;
      wires = wires;
      fixes = fixes;
      element = element;
      is = ranged;
      logged = (λ i. at i ++ bytes_from Prover (flat_map frame_spelling (said i)))
          ∙ ap (λ n. challenged_log job given rounds d element ++ bytes_from Prover (sums_frame (sums_for job given pairs wires n) ++ (o ++ []))) (sym same)
          ∙ ap (λ l. challenged_log job given rounds d element ++ bytes_from Prover (u ++ l)) (append-nil o)
          ∙ ap (λ l. challenged_log job given rounds d element ++ l) (bytes_more Prover u o)
          ∙ sym (append_assoc (challenged_log job given rounds d element) (bytes_from Prover u) (bytes_from Prover o));
    })
answer_leads job claim other frame answer now log sound taken answers = absurd taken

-- where a prover waits after its answer it expects a frame, of which no byte came yet
pub record IsNext (job : ProverJob) (now : ProverStage) : Type 0 where
  pub awaited : Expect
  pub expected : prover_expects job now ≡ Some awaited
  pub none_yet : IsUnfinished awaited []

next_at : (job : ProverJob) (now stage : ProverStage) → now ≡ stage → IsBehindGrant stage → IsNext job now
next_at job now (awaits_replies given came) is behind = record {
  awaited = expect.Reply job.file.params.height job.file.params.trees (given.count - length came);
  expected = ap (prover_expects job) is;
  none_yet = inl (omega arith);
}
next_at job now (awaits_challenge given pairs wires) is behind =
    record { awaited = expect.Challenge; expected = ap (prover_expects job) is; none_yet = inl (omega arith) }
next_at job now awaits_verdict is behind =
    record { awaited = expect.Verdict; expected = ap (prover_expects job) is; none_yet = inl (omega arith) }
next_at job now other is behind = absurd behind

pub next_of : (job : ProverJob) (claim : Claim) (stage : ProverStage) (frame : Frame) (answer : List Frame) (now : ProverStage) (log : List (Side × ℕ))
    → IsLogTaken job claim stage frame log → ProverAnswers job stage frame answer now → IsNext job now
next_of job claim awaits_grant frame answer now log taken (other, is_too, fits, answers) = elim (grant_answer job other answer now answers) [
  | inl (direct, (d, wires, fixed, said, next)) ↦ next_at job now _ next tt
  | inr (extended, said, next) ↦ next_at job now _ next tt
]
next_of job claim (awaits_replies given came) frame answer now log taken (trees, is, inl (less, said, next)) = next_at job now _ next tt
next_of job claim (awaits_replies given came) frame answer now log taken (trees, is, inr (all, pairs, made, (d, wires, fixed, said, next))) =
    next_at job now _ next tt
next_of job claim (awaits_challenge given pairs wires) frame answer now log taken (other, is_too, said, next) = next_at job now _ next tt
next_of job claim other frame answer now log taken answers = absurd taken

-- the replies for all units have an answer
rounds_end : (job : ProverJob) (given : Grant) (came : List (List TreeReply)) → IsSoundJob job → IsGrant job.file.params job.statement.program given
    → job.file.params.kind ≡ Extended → length came ≡ given.count → All (AreReplies job.file.params.height job.file.params.trees) came
    → (answer : List Frame) × (now : ProverStage) × GoesOn job given came answer now
rounds_end job given came sound granted extended all each =
    (corrections c.d ∷ [], awaits_challenge given found.0 c.wires, inr (all, found.0, found.1, (c.d, c.wires, c.fixed, refl, refl)))
  where
    found : (pairs : List Pair) × AreFirstPairs job.file given came pairs
    found = all_pairs job.file given came sound.file extended granted.within all each

    c : CanCommit job given found.0
    c = commits_to job given (round_with job given came) found.0 sound granted (asked_round job given came sound.file granted extended all each)
        (whole_view job.file (setup_for job given []).hello given came found.0 all found.1)

-- a frame that has come has an answer
pub answer_exists : (job : ProverJob) (claim : Claim) (stage : ProverStage) (frame : Frame) (log : List (Side × ℕ)) → IsSoundJob job
    → IsLogTaken job claim stage frame log → (answer : List Frame) × (now : ProverStage) × ProverAnswers job stage frame answer now
answer_exists job claim awaits_grant frame log sound (given, is, claimed, granted, at) =
    let found = answer_of_kind job job.file.params.kind given (λ direct. commits_to job given [] (span_pairs job.file (span_of given)) sound granted
    (asked_none job given direct) (pairs_seen job.file (setup_for job given []))) in
    (found.0, found.1, (given, is, granted, found.2))
answer_exists job claim (awaits_replies given came) frame log sound (trees, is, are, claimed, some, at) =
    elim (cases_lt (length (came ++ trees ∷ [])) given.count) [
      | inl less ↦ ([], awaits_replies given (came ++ trees ∷ []), (trees, is, inl (less, refl, refl)))
      | inr few ↦
          let all : length (came ++ trees ∷ []) ≡ given.count = omega (arith, few, some.more, length-append came (trees ∷ [])) in
          let end = rounds_end job given (came ++ trees ∷ []) sound some.granted some.extended all (replied_more job given came trees some are) in
          (end.0, end.1, (trees, is, end.2))
    ]
answer_exists job claim (awaits_challenge given pairs wires) frame log sound (element, rounds, d, is, ranged, claimed, fixes, at) =
    (sums (sums_for job given pairs wires element) ∷ openings (openings_for job wires) ∷ [], awaits_verdict, (element, is, refl, refl))
answer_exists job claim other frame log sound taken = absurd taken

-- the answer is what an honest prover sends next
pub answer_is_honest : (job : ProverJob) (claim : Claim) (stage : ProverStage) (frame : Frame) (answer : List Frame) (now : ProverStage) (log : List (Side × ℕ)) (inputs values : List ℕ)
    → IsSoundJob job → IsLogTaken job claim stage frame log → ProverAnswers job stage frame answer now → IsWitness job.statement inputs values job.given
    → AreHonestBytes (task_of job inputs) (sent_by Verifier log) (sent_by Prover log ++ flat_map frame_spelling answer)
answer_is_honest job claim stage frame answer now log inputs values sound taken answers witness =
    let bytes : List ℕ = flat_map frame_spelling answer in
    let said : List (Side × ℕ) = bytes_from Prover bytes in
    let next : IsNext job now = next_of job claim stage frame answer now log taken answers in
    subst (λ (q : List ℕ × List ℕ). AreHonestBytes (task_of job inputs) q.0 q.1)
    (λ i. ((ap (sent_by Verifier) (append-nil (log ++ said)) ∙ came_same Prover log bytes) i, (ap (sent_by Prover) (append-nil (log ++ said)) ∙ came_more Verifier log bytes) i))
    (has_answered job claim now next.awaited (log ++ said) [] inputs values sound (answer_leads job claim stage frame answer now log sound taken answers) next.expected
    (omega arith) next.none_yet witness)

-- ---- a prover's frames are short

-- ---- the asks of a unit

few_asks : (params : Params) (kind : Kind) → AreWithinLimits kind params → params.trees * (params.height + 8) ≤ 2 ^ 20
few_asks params Direct limits = omega (arith, ap (λ n. n * (params.height + 8)) limits.1)
few_asks params Extended limits = omega (arith, mul-le params.trees (params.height + 8) 1024 24 limits.3 (omega (arith, limits.1)))

asks_short : (params : Params) (trees : List TreeAsk) → AreWithinLimits params.kind params → AreAsks params.height params.trees trees → IsShort (asks trees)
asks_short params trees limits are =
    omega (arith, ask_length params.height params.trees trees are, few_asks params params.kind limits)

all_asks_short : (file : ProverFile) (given : Grant) → IsProverFile file → given.start + given.count ≤ file.params.total
    → All IsShort (map asks (round_asks file given))
all_asks_short file given is within =
    All-map IsShort asks (round_asks file given)
    (All-weaker (λ trees. (length trees ≡ file.params.trees) × All (IsTreeAsk file.params.height) trees) (λ trees. IsShort (asks trees))
    (λ trees each. asks_short file.params trees is.params.limits (record { counted = each.0; each = each.1 }))
    (round_asks file given) (round_asks_shaped file given is within).1)

-- ---- corrections

commits_short : (job : ProverJob) (given : Grant) (rounds : List Round) (pairs : List Pair) (answer : List Frame) (now : ProverStage) → IsSoundJob job
    → IsGrant job.file.params job.statement.program given → AreAskedRounds job given rounds → IsProverView job.file (setup_for job given rounds) pairs
    → Commits job given pairs answer now → All IsShort answer
commits_short job given rounds pairs answer now sound granted asked seen (d, wires, fixed, said, next) =
    let count = (committed job given rounds pairs d sound (setup_is job given rounds sound granted asked) seen fixed.corrections_are).count in
    subst (All IsShort) (sym said)
    (All-cons IsShort (corrections d) [] (omega (arith, length-elements d, count, sound.givens)) (All-nil IsShort))

pub answer_short : (job : ProverJob) (claim : Claim) (stage : ProverStage) (frame : Frame) (answer : List Frame) (now : ProverStage) (log : List (Side × ℕ))
    → IsSoundJob job → IsLogTaken job claim stage frame log → ProverAnswers job stage frame answer now → All IsShort answer
answer_short job claim awaits_grant frame answer now log sound taken (given, is, granted, answers) =
    elim (grant_answer job given answer now answers) [
      | inl (direct, commits) ↦
          commits_short job given [] (span_pairs job.file (span_of given)) answer now sound granted (asked_none job given direct)
          (pairs_seen job.file (setup_for job given [])) commits
      | inr (extended, said, next) ↦ subst (All IsShort) (sym said) (all_asks_short job.file given sound.file granted.within)
    ]
answer_short job claim (awaits_replies given came) frame answer now log sound taken (trees, is, inl (less, said, next)) =
    subst (All IsShort) (sym said) (All-nil IsShort)
answer_short job claim (awaits_replies given came) frame answer now log sound (trees, is, are, claimed, some, at) (other, is_too, inr (all, pairs, made, commits)) =
    let same : trees ≡ other = cc in
    let whole : length (came ++ trees ∷ []) ≡ given.count = length-append came (trees ∷ []) ∙ sym (length-append came (other ∷ [])) ∙ all in
    let asked = asked_round job given (came ++ trees ∷ []) sound.file some.granted some.extended whole (replied_more job given came trees some are) in
    commits_short job given (round_with job given (came ++ trees ∷ [])) pairs answer now sound some.granted asked
    (whole_view job.file (setup_for job given []).hello given (came ++ trees ∷ []) pairs whole
    (subst (λ t. AreFirstPairs job.file given (came ++ t ∷ []) pairs) (sym same) made)) commits
answer_short job claim (awaits_challenge given pairs wires) frame answer now log sound (element, rounds, d, is, ranged, claimed, fixes, at) (other, is_too, said, next) =
    let u : List (ℕ × ℕ) = sums_for job given pairs wires other in
    let o : List ℕ = openings_for job wires in
    let few = parts_within (length job.statement.program.products) given.section_length fixes.granted.section_some in
    let count : length u ≡ section_count job.statement.program given.section_length = length-map-range_with_len _ 0 _ in
    let opened : length o ≡ length job.statement.program.opened = length-map _ _ ∙ length-map _ _ in
    subst (All IsShort) (sym said) (All-cons IsShort (sums u) (openings o ∷ []) (omega (arith, length-sums u, few, count, sound.products))
    (All-cons IsShort (openings o) [] (omega (arith, length-elements o, opened, sound.opened)) (All-nil IsShort)))
answer_short job claim other frame answer now log sound taken answers = absurd taken
