-- Where a verifier waits, and where it stops.
use Rattle.std.proofs.Common.{◌≡◌, ◌⊎◌, inl, inr, ℕ, ◌+◌, ◌*◌, ◌≤◌, Bool, false, List, [], ◌∷◌, ◌++◌, map, flat_map, length, replicate, refl, ap, sym, ◌∙◌, subst, arith, append_assoc, length-append, ◌-◌, ◌<◌, Option, Some, None, append-nil}
use Rattle.std.specs.Prelude.{All, IsSomeAnd}
use Rattle.std.proofs.Math.Nat.{mul-le-mul}
use Rattle.std.proofs.lemmas.List.{length-replicate, flat_map_more}
use Rattle.std.proofs.lemmas.List.Elements.{All-nil, All-map, All-replicate, All-push, All-cons}
use Rattle.std.proofs.lemmas.List.Folds.{flat_map-map}
use Rattle.std.proofs.lemmas.Grind.{flat_map-append}
use Rattle.zk_model.specs.Files.{AreWithinLimits, rounds_of}
use Rattle.zk_model.specs.Transcript.{Grant, TreeAsk, TreeReply, Round, IsRound, IsTreeAsk, ForEachTree, ask_frame, reply_frame, bytes_from, turn_bytes, hello_frame, grant_frame, corrections_frame, challenge_frame, sums_frame, openings_frame, verdict_frame, Hello}
use Rattle.zk_model.specs.Frames.{asks, replies, frame_spelling, AreAsks, AreReplies, Frame, corrections, challenge, sums, openings, verdict, Allows, AreElements, AreSums, hello}
use Rattle.zk_model.specs.ServedVerifier.{round_replies, challenge_coin}
use Rattle.zk_model.specs.declared.Kind.{Kind}
use Rattle.zk_model.specs.declared.Kind.TheVariants.{Direct, Extended}
use Rattle.zk_model.specs.declared.Params.{Params}
use Rattle.zk_model.specs.declared.Side.{Side}
use Rattle.zk_model.specs.declared.Side.TheVariants.{Prover, Verifier}
use Rattle.session_laws.specs.Rounds.{RepliesAreInRange}
use Rattle.proof_frames.specs.Frames.{IsShort}
use Rattle.session_core.specs.Rounds.{AreServedRounds, round_turns}
use Rattle.session_core.specs.Jobs.{VerifierJob, units_of_job, granted_from}
use Rattle.session_core.specs.Cores.{awaits_asks, awaits_corrections, behind_grant, VerifierStage, AnswersAsks, IsVerifierStage, awaits_hello, owes_grant, awaits_sums, awaits_openings, has_judged, has_refused, verifier_expects, VerifierAnswers}
use Rattle.session_verifier.specs.Stages.{IsBehind, IsHeldJob, IsVerifierLogAt, IsStopped, first_turn, second_turn, ComesThere, IsTurnsLog, IsFixedLog, last_turn}
use Rattle.std.proofs.lemmas.Option.{same_Some}
use Rattle.zk_model.specs.Program.{section_count}
use Rattle.zk_model.specs.View.{verdict_code, verdict_number}
use Rattle.zk_model.specs.declared.Expect.{Expect}
use Rattle.frame_link.specs.Lines.{LinkSnapshot, IsWithinFrame}
use Rattle.frame_link.proofs.LineLemmas.{none_is_some, longest, within_longest, whole_within}
use Rattle.session_core.specs.Judgements.{verdict_in}
use Rattle.session_core.specs.declared.judgement.Judgement.{Judgement}
use Rattle.session_core.specs.Extending.{asks_in}
use Rattle.session_driver.specs.Runs.{Moves}
use Rattle.session_verifier.specs.Serving.{verifier_frames_left}
use Rattle.frame_link.proofs.FramesLemmas.{reply_length}
use Rattle.zk_port.specs.Counts.{counted}
use Rattle.frame_link.specs.declared.fault.LineFault.{LineFault}
use Rattle.zk_model.specs.declared.Expect.TheVariants as places
use Rattle.frame_link.specs.declared.fault.LineFault.TheVariants as fault
use Rattle.session_driver.proofs.Going.{bytes_more}
use Rattle.session_driver.specs.Leaving.{GoesWell, IsLostBy, Misses, StopsShort}

-- From where a verifier waits to where it waits next: what is logged, of the asks and the replies of all units too, how many answers
-- were sent, and how long these are.

-- ---- kinds

-- a kind is one of two
pub either_kind : (kind : Kind) → (kind ≡ Direct) ⊎ (kind ≡ Extended)
either_kind Direct = inl refl
either_kind Extended = inr refl

pub behind_direct : (job : VerifierJob) (start : ℕ) → job.task.file.params.kind ≡ Direct → behind_grant job start ≡ awaits_corrections start
behind_direct job start is =
    λ i. behind_grant (record job { task = record job.task { file = record job.task.file { params = record job.task.file.params { kind = is i } } } }) start

pub behind_extended : (job : VerifierJob) (start : ℕ) → job.task.file.params.kind ≡ Extended → behind_grant job start ≡ awaits_asks start []
behind_extended job start is =
    λ i. behind_grant (record job { task = record job.task { file = record job.task.file { params = record job.task.file.params { kind = is i } } } }) start

-- ---- logs as lists of turns

pub turns_append : (first more : List (List ℕ × List ℕ)) → turn_bytes (first ++ more) ≡ turn_bytes first ++ turn_bytes more
turns_append first more = flat_map-append (λ turn. bytes_from Prover turn.0 ++ bytes_from Verifier turn.1) first more

-- the replies of all units in frames
pub replies_spelled : (all : List (List TreeReply)) → flat_map frame_spelling (map replies all) ≡ flat_map reply_frame all
replies_spelled all = flat_map-map frame_spelling replies all

-- ---- asks and replies in range

pub asks_for_each : (params : Params) (grant : Grant) (said : List (List TreeAsk)) → length said ≡ grant.count
    → All (AreAsks params.height params.trees) said → ForEachTree params grant (IsTreeAsk params.height) said
asks_for_each params grant said counted each = (counted, λ k d below. let are = each k d below in (are.counted, are.each))

-- asks of all units, and the file's replies, are one round of kind extended
pub served_round : (job : VerifierJob) (start : ℕ) (said : List (List TreeAsk)) → RepliesAreInRange → IsHeldJob job
    → start + units_of_job job ≤ job.task.file.params.total → job.task.file.params.kind ≡ Extended → length said ≡ units_of_job job
    → All (AreAsks job.task.file.params.height job.task.file.params.trees) said
    → AreServedRounds job.task.file (granted_from job start)
    (record { asks = said; replies = round_replies job.task.file (granted_from job start) said } ∷ [])
served_round job start said law held within extended counted each =
    let grant = granted_from job start in
    let asked = asks_for_each job.task.file.params grant said counted each in
    let round : Round = record { asks = said; replies = round_replies job.task.file grant said } in
    let is : IsRound job.task.file.params grant round = record { asks = asked; replies = law job.task.file grant said held.file within asked } in
    record {
      count = sym (ap rounds_of extended);
      ranged = All-cons (IsRound job.task.file.params grant) round [] is (All-nil (IsRound job.task.file.params grant));
      replies = All-cons (λ (r : Round). r.replies ≡ round_replies job.task.file grant r.asks) round [] refl
          (All-nil (λ (r : Round). r.replies ≡ round_replies job.task.file grant r.asks));
    }

-- no round is one of kind direct
pub served_none : (job : VerifierJob) (start : ℕ) → job.task.file.params.kind ≡ Direct
    → AreServedRounds job.task.file (granted_from job start) []
served_none job start direct = record {
  count = sym (ap rounds_of direct);
  ranged = All-nil (IsRound job.task.file.params (granted_from job start));
  replies = All-nil (λ round. round.replies ≡ round_replies job.task.file (granted_from job start) round.asks);
}

-- ---- some rounds

abbrev zero_ask : ℕ → TreeAsk
zero_ask height = record { flips = replicate height false; base_correction = 0 }

zero_asks : (height trees : ℕ) → AreAsks height trees (replicate trees (zero_ask height))
zero_asks height trees = record {
  counted = length-replicate {A = TreeAsk} trees (zero_ask height);
  each = All-replicate (IsTreeAsk height) trees (zero_ask height)
      (record { flips = length-replicate {A = Bool} height false; base_correction = omega arith });
}

-- whatever the kind, there are rounds that the verifier serves
pub some_rounds : (job : VerifierJob) (start : ℕ) → RepliesAreInRange → IsHeldJob job → start + units_of_job job ≤ job.task.file.params.total
    → (rounds : List Round) × AreServedRounds job.task.file (granted_from job start) rounds
some_rounds job start law held within =
    let trees : List TreeAsk = replicate job.task.file.params.trees (zero_ask job.task.file.params.height) in
    let said : List (List TreeAsk) = replicate (units_of_job job) trees in
    elim (either_kind job.task.file.params.kind) [
      | inl direct ↦ ([], served_none job start direct)
      | inr extended ↦ (
        record { asks = said; replies = round_replies job.task.file (granted_from job start) said } ∷ [],
        served_round job start said law held within extended (length-replicate {A = List TreeAsk} (units_of_job job) trees)
            (All-replicate (AreAsks job.task.file.params.height job.task.file.params.trees) (units_of_job job) trees
            (zero_asks job.task.file.params.height job.task.file.params.trees)),
      )
    ]

-- ---- how long frames are

-- replies for a unit are a short frame
short_reply : (height trees : ℕ) (said : List TreeReply) → height ≤ 16 → trees ≤ 1024 → AreReplies height trees said → IsShort (replies said)
short_reply height trees said low few are =
    let most : trees * (32 * height + 8) ≤ 1024 * 520 =
    mul-le-mul {n₁ = trees} {m₁ = 32 * height + 8} {n₂ = 1024} {m₂ = 520} few (omega (arith, low)) in
    omega (arith, reply_length height trees said are, most)

pub short_replies : (job : VerifierJob) (start : ℕ) (said : List (List TreeAsk)) → RepliesAreInRange → IsHeldJob job
    → start + units_of_job job ≤ job.task.file.params.total → job.task.file.params.kind ≡ Extended → length said ≡ units_of_job job
    → All (AreAsks job.task.file.params.height job.task.file.params.trees) said
    → All IsShort (map replies (round_replies job.task.file (granted_from job start) said))
short_replies job start said law held within extended counted each =
    let params = job.task.file.params in
    let grant = granted_from job start in
    let ranged = law job.task.file grant said held.file within (asks_for_each params grant said counted each) in
    let limits = subst (λ k. AreWithinLimits k params) extended held.file.params.limits in
    All-map IsShort replies (round_replies job.task.file grant said)
    (λ k d below. let is = ranged.1 k d below in
    short_reply params.height params.trees _ limits.1 limits.3 (record { counted = is.0; each = is.1 }))

-- ---- what a frame holds

abbrev corrections_in : Frame → List ℕ
corrections_in (corrections d) = d
corrections_in (openings macs) = macs
corrections_in frame = []

abbrev sums_in : Frame → List (ℕ × ℕ)
sums_in (sums both) = both
sums_in frame = []

-- what comes at a place that is expected is what the place allows
pub allowed_at : (wanted expect : Expect) (frame : Frame) → Some wanted ≡ Some expect → Allows expect frame → Allows wanted frame
allowed_at wanted expect frame same allowed = subst (λ p. Allows p frame) (sym (same_Some wanted expect same)) allowed

-- ---- logs by their turns

-- the prover says more
pub said_more : (job : VerifierJob) (start : ℕ) (turns : List (List ℕ × List ℕ)) (said : List ℕ) (log : List (Side × ℕ)) (bytes : List ℕ)
    → IsTurnsLog job start turns said log → IsTurnsLog job start turns (said ++ bytes) (log ++ bytes_from Prover bytes)
said_more job start turns said log bytes at =
    let front = turn_bytes (first_turn job at.greeting start ∷ turns) in
    record {
      within = at.within;
      greeting = at.greeting;
      spelled = ap (λ l. l ++ bytes_from Prover bytes) at.spelled ∙ append_assoc front (bytes_from Prover said) (bytes_from Prover bytes)
          ∙ ap (λ l. front ++ l) (sym (bytes_more Prover said bytes));
    }

-- and is answered
turn_done : (job : VerifierJob) (start : ℕ) (turns : List (List ℕ × List ℕ)) (said : List ℕ) (log : List (Side × ℕ)) (answer : List ℕ)
    → IsTurnsLog job start turns said log → IsTurnsLog job start (turns ++ (said, answer) ∷ []) [] (log ++ bytes_from Verifier answer)
turn_done job start turns said log answer at =
    let front = first_turn job at.greeting start ∷ turns in
    let last : List ℕ × List ℕ = (said, answer) in
    record {
      within = at.within;
      greeting = at.greeting;
      spelled = ap (λ l. l ++ bytes_from Verifier answer) at.spelled
          ∙ append_assoc (turn_bytes front) (bytes_from Prover said) (bytes_from Verifier answer)
          ∙ ap (λ l. turn_bytes front ++ l) (sym (append-nil (bytes_from Prover said ++ bytes_from Verifier answer)))
          ∙ sym (turns_append front (last ∷ [])) ∙ sym (append-nil (turn_bytes (front ++ last ∷ [])));
    }

-- both where the correlations are fixed
fixed_more : (job : VerifierJob) (start : ℕ) (turns : List (List ℕ × List ℕ)) (said : List ℕ) (log : List (Side × ℕ)) (bytes : List ℕ)
    → IsFixedLog job start turns said log → IsFixedLog job start turns (said ++ bytes) (log ++ bytes_from Prover bytes)
fixed_more job start turns said log bytes at =
    record { rounds = at.rounds; served = at.served; turned = said_more job start (round_turns at.rounds ++ turns) said log bytes at.turned }

fixed_done : (job : VerifierJob) (start : ℕ) (turns : List (List ℕ × List ℕ)) (said : List ℕ) (log : List (Side × ℕ)) (answer : List ℕ)
    → IsFixedLog job start turns said log → IsFixedLog job start (turns ++ (said, answer) ∷ []) [] (log ++ bytes_from Verifier answer)
fixed_done job start turns said log answer at = record {
  rounds = at.rounds;
  served = at.served;
  turned = subst (λ l. IsTurnsLog job start l [] (log ++ bytes_from Verifier answer)) (append_assoc (round_turns at.rounds) turns ((said, answer) ∷ []))
      (turn_done job start (round_turns at.rounds ++ turns) said log answer at.turned);
}

-- the log after a frame of the prover's and an answer
abbrev pub log_behind : List (Side × ℕ) → Frame → List Frame → List (Side × ℕ)
log_behind log frame answer = (log ++ bytes_from Prover (frame_spelling frame)) ++ bytes_from Verifier (flat_map frame_spelling answer)

-- one frame in an answer
pub one_answer : (frame : Frame) → bytes_from Verifier (flat_map frame_spelling (frame ∷ [])) ≡ bytes_from Verifier (frame_spelling frame)
one_answer frame = ap (bytes_from Verifier) (append-nil (frame_spelling frame))

-- asks of one unit more, with their answer
asks_on : (job : VerifierJob) (start : ℕ) (asked : List (List TreeAsk)) (trees : List TreeAsk) (now : VerifierStage) (log : List (Side × ℕ)) (frame : Frame)
    (answer : List Frame) → RepliesAreInRange → IsHeldJob job → IsVerifierLogAt job (awaits_asks start asked) log
    → AreAsks job.task.file.params.height job.task.file.params.trees trees → frame ≡ asks trees
    → AnswersAsks job start (asked ++ trees ∷ []) answer now → IsVerifierLogAt job now (log_behind log frame answer)
asks_on job start asked trees now log frame answer law held at are is answers =
    let all_asked = asked ++ trees ∷ [] in
    let heard = log ++ bytes_from Prover (ask_frame trees) in
    let each = All-push (AreAsks job.task.file.params.height job.task.file.params.trees) asked trees at.0.each are in
    let turned = subst (λ l. IsTurnsLog job start [] l heard) (flat_map_more ask_frame [] asked trees)
    (said_more job start [] (flat_map ask_frame asked) log (ask_frame trees) at.1) in
    elim answers [
      | inl more ↦ subst (λ n. IsVerifierLogAt job n (log_behind log frame answer)) (sym more.2) (
        record { extended = at.0.extended; more = more.0; each = each },
        subst (IsTurnsLog job start [] (flat_map ask_frame all_asked)) (sym (append-nil heard) ∙ (λ i. log_behind log (sym is i) (sym more.1 i))) turned,
      )
      | inr all ↦
          let replied = round_replies job.task.file (granted_from job start) all_asked in
          subst (λ n. IsVerifierLogAt job n (log_behind log frame answer)) (sym all.2) (record {
            rounds = record { asks = all_asked; replies = replied } ∷ [];
            served = served_round job start all_asked law held at.1.within at.0.extended all.0 each;
            turned = subst (IsTurnsLog job start ((flat_map ask_frame all_asked, flat_map reply_frame replied) ∷ []) [])
                (ap (λ l. heard ++ bytes_from Verifier l) (sym (replies_spelled replied)) ∙ (λ i. log_behind log (sym is i) (sym all.1 i)))
                (turn_done job start [] (flat_map ask_frame all_asked) heard (flat_map reply_frame replied) turned);
          })
    ]

pub logs_on : (job : VerifierJob) (stage now : VerifierStage) (log : List (Side × ℕ)) (expect : Expect) (frame : Frame) (answer : List Frame)
    → RepliesAreInRange → IsHeldJob job
    → verifier_expects job stage ≡ Some expect → Allows expect frame → IsVerifierLogAt job stage log → VerifierAnswers job stage frame answer now
    → IsVerifierLogAt job now (log_behind log frame answer)
logs_on job awaits_hello now log expect frame answer law held expects allowed at answers =
    subst (λ n. IsVerifierLogAt job n (log_behind log frame answer)) (sym answers.4) (record {
      greeting = record { hello = answers.0; fits = answers.2 };
      bytes = (λ i. log_behind (at i) (answers.1 i) (answers.3 i)) ∙ append-nil (bytes_from Prover (hello_frame answers.0));
    })
logs_on job (awaits_asks start asked) now log expect frame answer law held expects allowed at answers =
    let given = allowed_at (places.Ask job.task.file.params.height job.task.file.params.trees (units_of_job job - length asked)) expect frame expects allowed in
    let same : given.0 ≡ answers.0 = ap asks_in (sym given.1 ∙ answers.1) in
    asks_on job start asked answers.0 now log frame answer law held at
    (subst (AreAsks job.task.file.params.height job.task.file.params.trees) same given.2) answers.1 answers.2
logs_on job (awaits_corrections start) now log expect frame answer law held expects allowed at answers =
    let d = answers.0 in
    let coin = challenge_coin job.task.file start in
    let given = allowed_at (places.Corrections job.task.statement.program.givens) expect frame expects allowed in
    let same : given.0 ≡ d = ap corrections_in (sym given.1 ∙ answers.1) in
    subst (λ n. IsVerifierLogAt job n (log_behind log frame answer)) (sym answers.3) (
      subst (AreElements job.task.statement.program.givens) same given.2,
      subst (IsFixedLog job start (second_turn job start d ∷ []) [])
          (ap (λ l. (log ++ bytes_from Prover (corrections_frame d)) ++ l) (sym (one_answer (challenge coin))) ∙ (λ i. log_behind log (sym answers.1 i) (sym answers.2 i)))
          (fixed_done job start [] (corrections_frame d) (log ++ bytes_from Prover (corrections_frame d)) (challenge_frame coin)
          (fixed_more job start [] [] log (corrections_frame d) at)),
    )
logs_on job (awaits_sums start d) now log expect frame answer law held expects allowed at answers =
    let both = answers.0 in
    let given = allowed_at (places.Sums (section_count job.task.statement.program job.section_length)) expect frame expects allowed in
    let same : given.0 ≡ both = ap sums_in (sym given.1 ∙ answers.1) in
    subst (λ n. IsVerifierLogAt job n (log_behind log frame answer)) (sym answers.3) (
      at.0,
      subst (AreSums (section_count job.task.statement.program job.section_length)) same given.2,
      subst (IsFixedLog job start (second_turn job start d ∷ []) (sums_frame both))
          (sym (append-nil (log ++ bytes_from Prover (sums_frame both))) ∙ (λ i. log_behind log (sym answers.1 i) (sym answers.2 i)))
          (fixed_more job start (second_turn job start d ∷ []) [] log (sums_frame both) at.1),
    )
logs_on job (awaits_openings start d both) now log expect frame answer law held expects allowed at answers =
    let macs = answers.0 in
    let code = verdict_code (verdict_in answers.1) in
    let number = verdict_number (verdict_in answers.1) in
    let given = allowed_at (places.Openings (length job.task.statement.program.opened)) expect frame expects allowed in
    let same : given.0 ≡ macs = ap corrections_in (sym given.1 ∙ answers.2) in
    let second = second_turn job start d ∷ [] in
    let fixed = subst (IsFixedLog job start (second_turn job start d ∷ last_turn both macs code number ∷ []) [])
    (ap (λ l. (log ++ bytes_from Prover (openings_frame macs)) ++ l) (sym (one_answer (verdict code number)))
    ∙ (λ i. log_behind log (sym answers.2 i) (sym answers.4 i)))
    (fixed_done job start second (sums_frame both ++ openings_frame macs) (log ++ bytes_from Prover (openings_frame macs)) (verdict_frame code number)
    (fixed_more job start second (sums_frame both) log (openings_frame macs) at.2)) in
    subst (λ n. IsVerifierLogAt job n (log_behind log frame answer)) (sym answers.5) (record {
      corrections = d;
      elements = at.0;
      sums = both;
      pairs = at.1;
      openings = macs;
      macs = subst (AreElements (length job.task.statement.program.opened)) same given.2;
      fixed = fixed;
      judged = answers.3 fixed.greeting.hello fixed.rounds;
    })
logs_on job other now log expect frame answer law held expects allowed at answers = absurd answers

-- ---- a session whose grant begins here

pub grant_begins : (job : VerifierJob) (start : ℕ) → IsBehind start (behind_grant job start)
grant_begins job start = elim (either_kind job.task.file.params.kind) [
  | inl direct ↦ subst (IsBehind start) (sym (behind_direct job start direct)) refl
  | inr extended ↦ subst (IsBehind start) (sym (behind_extended job start extended)) refl
]

-- it stays one, and a frame fewer comes yet
pub stays_behind : (job : VerifierJob) (start : ℕ) (stage now : VerifierStage) (frame : Frame) (answer : List Frame) → IsBehind start stage
    → VerifierAnswers job stage frame answer now → IsBehind start now × (verifier_frames_left job now < verifier_frames_left job stage)
stays_behind job start awaits_hello now frame answer behind answers = absurd behind
stays_behind job start (awaits_asks begun asked) now frame answer behind answers = elim answers.2 [
  | inl more ↦ (subst (IsBehind start) (sym more.2) behind, omega (arith, ap (verifier_frames_left job) more.2, more.0, length-append asked (answers.0 ∷ [])))
  | inr all ↦ (subst (IsBehind start) (sym all.2) behind, omega (arith, ap (verifier_frames_left job) all.2, all.0, length-append asked (answers.0 ∷ [])))
]
stays_behind job start (awaits_corrections begun) now frame answer behind answers =
    (subst (IsBehind start) (sym answers.3) behind, omega (arith, ap (verifier_frames_left job) answers.3))
stays_behind job start (awaits_sums begun d) now frame answer behind answers =
    (subst (IsBehind start) (sym answers.3) behind, omega (arith, ap (verifier_frames_left job) answers.3))
stays_behind job start (awaits_openings begun d both) now frame answer behind answers =
    (subst (IsBehind start) (sym answers.5) behind, omega (arith, ap (verifier_frames_left job) answers.5))
stays_behind job start other now frame answer behind answers = absurd answers

-- where none is expected it has judged
pub judged_of : (job : VerifierJob) (start : ℕ) (stage : VerifierStage) → IsBehind start stage → verifier_expects job stage ≡ None
    → (judgement : Judgement) × (stage ≡ has_judged start judgement)
judged_of job start awaits_hello behind none = absurd behind
judged_of job start owes_grant behind none = absurd behind
judged_of job start has_refused behind none = absurd behind
judged_of job start (has_judged begun judgement) behind none = (judgement, ap (λ (n : ℕ). has_judged n judgement) behind)
judged_of job start other behind none = absurd (none_is_some (sym none))

-- ---- answers are short

-- one frame that is short
one_short : (frame : Frame) → IsShort frame → All IsShort (frame ∷ [])
one_short frame short = All-cons IsShort frame [] short (All-nil IsShort)

-- an answer has short frames
pub short_answers : (job : VerifierJob) (stage now : VerifierStage) (expect : Expect) (frame : Frame) (answer : List Frame)
    → RepliesAreInRange → IsHeldJob job → verifier_expects job stage ≡ Some expect → Allows expect frame → IsVerifierStage job stage
    → VerifierAnswers job stage frame answer now → All IsShort answer
short_answers job awaits_hello now expect frame answer law held expects allowed at answers = subst (All IsShort) (sym answers.3) (All-nil IsShort)
short_answers job owes_grant now expect frame answer law held expects allowed at answers = absurd answers
short_answers job (awaits_asks start asked) now expect frame answer law held expects allowed at answers =
    let given = allowed_at (places.Ask job.task.file.params.height job.task.file.params.trees (units_of_job job - length asked)) expect frame expects allowed in
    let are = subst (AreAsks job.task.file.params.height job.task.file.params.trees) (ap asks_in (sym given.1 ∙ answers.1)) given.2 in
    elim answers.2 [
      | inl more ↦ subst (All IsShort) (sym more.1) (All-nil IsShort)
      | inr all ↦ subst (All IsShort) (sym all.1) (short_replies job start (asked ++ answers.0 ∷ []) law held at.0 at.1.extended all.0
          (All-push (AreAsks job.task.file.params.height job.task.file.params.trees) asked answers.0 at.1.each are))
    ]
short_answers job (awaits_corrections start) now expect frame answer law held expects allowed at answers =
    subst (All IsShort) (sym answers.2) (one_short (challenge (challenge_coin job.task.file start)) (omega arith))
short_answers job (awaits_sums start c) now expect frame answer law held expects allowed at answers =
    subst (All IsShort) (sym answers.2) (All-nil IsShort)
short_answers job (awaits_openings start c both) now expect frame answer law held expects allowed at answers =
    subst (All IsShort) (sym answers.4)
    (one_short (verdict (verdict_code (verdict_in answers.1)) (verdict_number (verdict_in answers.1))) (omega arith))
short_answers job other now expect frame answer law held expects allowed at answers = absurd answers

-- so it has at whatever place is expected
pub short_there : (job : VerifierJob) (stage now : VerifierStage) (frame : Frame) (answer : List Frame) → RepliesAreInRange → IsHeldJob job
    → IsSomeAnd (verifier_expects job stage) (λ place. Allows place frame) → IsVerifierStage job stage → VerifierAnswers job stage frame answer now → All IsShort answer
short_there job stage now frame answer law held expected at answers = by_place (verifier_expects job stage) refl expected
  where
    by_place : (place : Option Expect) → verifier_expects job stage ≡ place → IsSomeAnd place (λ p. Allows p frame) → All IsShort answer
    by_place None is allowed = absurd allowed
    by_place (Some place) is allowed = short_answers job stage now place frame answer law held is allowed at answers

-- ---- the grant

pub grant_behind : (job : VerifierJob) (start : ℕ) (log : List (Side × ℕ)) → start + units_of_job job ≤ job.task.file.params.total
    → IsVerifierLogAt job owes_grant log → IsVerifierLogAt job (behind_grant job start) (log ++ bytes_from Verifier (grant_frame (granted_from job start)))
grant_behind job start log within at =
    let now : List (Side × ℕ) = log ++ bytes_from Verifier (grant_frame (granted_from job start)) in
    let front : List (Side × ℕ) = bytes_from Prover (first_turn job at.greeting start).0 ++ bytes_from Verifier (first_turn job at.greeting start).1 in
    let spelled : log ++ bytes_from Verifier (grant_frame (granted_from job start)) ≡ turn_bytes (first_turn job at.greeting start ∷ []) ++ [] =
    ap (λ l. l ++ bytes_from Verifier (grant_frame (granted_from job start))) at.bytes
    ∙ sym (append-nil front) ∙ sym (append-nil (front ++ [])) in
    let turned : IsTurnsLog job start [] [] now = record { within = within; greeting = at.greeting; spelled = spelled } in
    elim (either_kind job.task.file.params.kind) [
      | inl direct ↦ subst (λ p. IsVerifierLogAt job p now) (sym (behind_direct job start direct))
          (record { rounds = []; served = served_none job start direct; turned = turned })
      | inr extended ↦ subst (λ p. IsVerifierLogAt job p now) (sym (behind_extended job start extended)) (
        record { extended = extended; more = omega arith; each = All-nil (AreAsks job.task.file.params.height job.task.file.params.trees) },
        turned,
      )
    ]

-- ---- the place of a stop

-- what is expected is one place
pub one_expected : (some other : Expect) (stage : Option Expect) → stage ≡ Some some → stage ≡ Some other → other ≡ some
one_expected some other stage is also = same_Some other some (sym also ∙ is)

-- no more came than a frame of it has
pub within_of : (job : VerifierJob) (stage : VerifierStage) (log : List (Side × ℕ)) → (comes : ComesThere job stage log) → (other : Expect)
    → verifier_expects job stage ≡ Some other → IsWithinFrame other comes.rest
within_of job stage log comes other also =
    subst (λ p. IsWithinFrame p comes.rest) (sym (one_expected comes.place other (verifier_expects job stage) comes.expected also)) comes.few

pub few_of : (job : VerifierJob) (stage : VerifierStage) (log : List (Side × ℕ)) → (comes : ComesThere job stage log) → (other : Expect)
    → verifier_expects job stage ≡ Some other → length comes.rest ≤ longest other
few_of job stage log comes other also = within_longest other comes.rest (within_of job stage log comes other also)

-- ---- from how a run of a verifier's end stopped to where its session stopped

-- no frame came
pub stops_without : {S F : Type 0} (moves : Moves S F) (job : VerifierJob) (stage : VerifierStage) (log : List (Side × ℕ)) (mid new : S) (broke : LineFault)
    (first now : LinkSnapshot) → moves.expects mid ≡ verifier_expects job stage → IsVerifierLogAt job stage log
    → Misses moves Verifier log mid new broke first now → IsStopped job stage broke first now
stops_without moves job stage log mid new broke first now same at misses = record {
  comes = record {
    before = log;
    waited = at;
    place = misses.place;
    expected = sym same ∙ misses.expected;
    rest = misses.rest;
    few = misses.short.part.few;
    logged = misses.short.logged;
  };
  why = inl (subst (λ l. StopsShort Verifier l misses.place misses.rest broke first now) (sym misses.short.logged) misses.short);
}

-- a frame came
abbrev comes_whole : (job : VerifierJob) (stage : VerifierStage) (place : Expect) (frame : Frame) (log now : List (Side × ℕ))
    → verifier_expects job stage ≡ Some place → Allows place frame → IsVerifierLogAt job stage log → now ≡ log ++ bytes_from Prover (frame_spelling frame)
    → ComesThere job stage now
comes_whole job stage place frame log now expects allowed at logged = record {
  before = log;
  waited = at;
  place = place;
  expected = expects;
  rest = frame_spelling frame;
  few = whole_within place (frame_spelling frame) frame (record { allowed = allowed; spelled = refl });
  logged = logged;
}

-- and memory was missing for its answer
pub stops_lacking : (job : VerifierJob) (start : ℕ) (stage : VerifierStage) (place : Expect) (frame : Frame) (log : List (Side × ℕ)) (first now : LinkSnapshot)
    → IsBehind start stage → verifier_expects job stage ≡ Some place → Allows place frame → IsVerifierLogAt job stage log
    → GoesWell Verifier (log ++ bytes_from Prover (frame_spelling frame)) first now → IsStopped job stage fault.NoMemory first now
stops_lacking job start stage place frame log first now behind expects allowed at well = record {
  comes = comes_whole job stage place frame log now.log expects allowed at well.logged;
  why = inr (inl (
    refl,
    (start, behind),
    (frame, record { allowed = allowed; spelled = refl }),
    subst (λ l. GoesWell Verifier l first now) (sym well.logged) well,
  ));
}

-- or the send of that was refused
pub stops_unsent : (job : VerifierJob) (stage next : VerifierStage) (place : Expect) (frame : Frame) (answer : List Frame) (broke : LineFault) (log : List (Side × ℕ))
    (first now : LinkSnapshot) → verifier_expects job stage ≡ Some place → Allows place frame → IsVerifierLogAt job stage log
    → VerifierAnswers job stage frame answer next → 1 ≤ length answer
    → IsLostBy broke Verifier (log ++ bytes_from Prover (frame_spelling frame)) (flat_map frame_spelling answer) first now
    → IsStopped job stage broke first now
stops_unsent job stage next place frame answer broke log first now expects allowed at answers some lost = record {
  comes = comes_whole job stage place frame log now.log expects allowed at lost.logged;
  why = inr (inr (
    flat_map frame_spelling answer,
    record {
      frame = frame;
      allowed = allowed;
      came = refl;
      frames = answer;
      at_least_one = some;
      next = next;
      answers = answers;
      answer_is = refl;
    },
    subst (λ l. IsLostBy broke Verifier l (flat_map frame_spelling answer) first now) (sym lost.logged) lost,
  ));
}

-- ---- the hello

abbrev pub hello_in : Hello → Frame → Hello
hello_in other (hello x) = x
hello_in other frame = other
