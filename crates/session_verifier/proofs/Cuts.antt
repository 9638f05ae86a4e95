-- The log of a session that may have ended early, as one that a verifier serves.
use Rattle.std.proofs.Common.{◌≡◌, ◌⊎◌, ℕ, ◌+◌, ◌^◌, ◌≤◌, ◌<◌, List, [], ◌∷◌, ◌++◌, flat_map, length, Some, None, refl, ap, sym, ◌∙◌, subst, arith, append-nil, append_assoc, ◌-◌, ◌*◌, take, replicate, slice_index_or, length-append}
use Rattle.zk_model.specs.Field.{IsElement}
use Rattle.zk_model.specs.Program.{section_count}
use Rattle.zk_model.specs.Statement.{IsStatement}
use Rattle.zk_model.specs.Files.{IsVerifierFile, rounds_of}
use Rattle.frame_laws.proofs.Hellos.{fitting_is_hello}
use Rattle.zk_model.specs.Transcript.{IsGrant, IsHello, BeginsWith, ask_frame, sums_frame, openings_frame, bytes_from, turn_bytes, spelling, TreeAsk, Round, Setup, Commitment, IsSetup, corrections_frame, session_turns}
use Rattle.zk_model.specs.Frames.{AreElements}
use Rattle.zk_model.specs.declared.Expect.{Expect}
use Rattle.frame_link.proofs.LineLemmas.{none_is_some, longest}
use Rattle.zk_model.specs.ServedVerifier.{challenge_coin, IsCutInTurn, ServesWith}
use Rattle.zk_model.specs.declared.Side.{Side}
use Rattle.zk_model.specs.declared.Side.TheVariants.{Prover}
use Rattle.zk_port.specs.Counts.{counted}
use Rattle.session_core.specs.Jobs.{VerifierJob, IsVerifierJob, units_of_job, granted_from}
use Rattle.session_core.specs.Rounds.{round_turns, AreServedRounds}
use Rattle.session_core.specs.Cores.{has_judged, VerifierStage, awaits_asks, awaits_corrections, awaits_sums, awaits_openings, AreAsksSoFar, verifier_expects}
use Rattle.frame_link.specs.Lines.{LinkSnapshot}
use Rattle.session_verifier.specs.Stages.{Greeting, IsBehind, IsVerifierLogAt, first_turn, second_turn, ComesThere, VerifierStopsBehind, IsTurnsLog, IsFixedLog, last_turn}
use Rattle.std.proofs.Math.Nat.{mul-le-mul_right}
use Rattle.std.proofs.lemmas.List.{get_or-replicate, length-replicate, length-map, take_at, get_or_at}
use Rattle.session_laws.specs.Serving.{ServedSessionExists, HasServedSession}
use Rattle.session_laws.specs.Rounds.{RepliesAreInRange}
use Rattle.proof_frames.proofs.FrameLemmas.{length-elements, length-sums}
use Rattle.session_verifier.proofs.StageLemmas.{some_rounds, few_of, said_more}
use Rattle.frame_link.proofs.FramesLemmas.{asks_length}
use Rattle.zk_model.specs.declared.Expect.TheVariants as expect
use Rattle.session_laws.proofs.Sizes as sizes
use Rattle.frame_link.specs.declared.fault.LineFault.{LineFault}

-- what is known of a job
pub record IsKnown (job : VerifierJob) : Type 0 where
  pub stated : IsStatement job.task.statement
  pub file : IsVerifierFile job.task.file
  pub is : IsVerifierJob job
  pub opened : length job.task.statement.program.opened ≤ 2 ^ 24 + 2 ^ 24
  pub products : length job.task.statement.program.products ≤ 2 ^ 24

pub grant_is : (job : VerifierJob) (start : ℕ) → IsVerifierJob job → start + units_of_job job ≤ job.task.file.params.total
    → IsGrant job.task.file.params job.task.statement.program (granted_from job start)
grant_is job start is within =
    record { section_some = is.section_some; section_most = is.section_most; count = refl; count_most = is.units_most; within = within }

-- a hello for the job's file and statement is one
pub greeting_is_hello : (job : VerifierJob) → IsKnown job → (greeting : Greeting job) → IsHello greeting.hello
greeting_is_hello job known greeting =
    fitting_is_hello job.task.file.id job.task.statement greeting.hello known.file.id known.stated greeting.fits

-- ---- a session that goes on

pub zeros : (count : ℕ) → AreElements count (replicate count 0)
zeros count = record {
  counted = length-replicate {A = ℕ} count 0;
  ranged = λ k d below. subst IsElement (sym (get_or-replicate count k 0 d (omega (arith, below, length-replicate {A = ℕ} count 0)))) (omega arith);
}

abbrev pub setup_of : (job : VerifierJob) → Greeting job → ℕ → List Round → Setup
setup_of job greeting start rounds = record { hello = greeting.hello; grant = granted_from job start; rounds = rounds }

pub setup_is : (job : VerifierJob) (greeting : Greeting job) (start : ℕ) (rounds : List Round) → IsKnown job → start + units_of_job job ≤ job.task.file.params.total
    → AreServedRounds job.task.file (granted_from job start) rounds
    → IsSetup job.task.file.params job.task.statement.program (setup_of job greeting start rounds)
setup_is job greeting start rounds known within served = record {
  hello = greeting_is_hello job known greeting;
  grant = grant_is job start known.is within;
  round_count = served.count;
  rounds = served.ranged;
}

pub goes_further : (job : VerifierJob) (greeting : Greeting job) (start : ℕ) (rounds : List Round) (d : List ℕ) → ServedSessionExists → IsKnown job
    → start + units_of_job job ≤ job.task.file.params.total → AreServedRounds job.task.file (granted_from job start) rounds
    → AreElements job.task.statement.program.givens d → HasServedSession job.task (setup_of job greeting start rounds) d
goes_further job greeting start rounds d law known within served elements =
    law job.task (setup_of job greeting start rounds) d known.file known.stated (setup_is job greeting start rounds known within served) greeting.fits served.replies elements

-- its turns
abbrev pub front_of : (job : VerifierJob) → Greeting job → ℕ → List Round → List (List ℕ × List ℕ)
front_of job greeting start rounds = first_turn job greeting start ∷ round_turns rounds

pub turns_are : (job : VerifierJob) (greeting : Greeting job) (start : ℕ) (rounds : List Round) (d : List ℕ) (s : HasServedSession job.task (setup_of job greeting start rounds) d)
    → session_turns s.t ≡ front_of job greeting start rounds ++ second_turn job start d ∷ last_turn s.t.sums s.t.openings s.t.code s.t.number ∷ []
turns_are job greeting start rounds d s =
    let coin : s.t.challenge ≡ challenge_coin job.task.file start =
    s.served.challenge ∙ ap (λ (c : Commitment). challenge_coin job.task.file c.setup.grant.start) s.commitment in
    λ i. session_turns (record s.t { commitment = s.commitment i; challenge = coin i })

pub serves_with : (job : VerifierJob) (greeting : Greeting job) (start : ℕ) (rounds : List Round) (d : List ℕ) (log : List (Side × ℕ)) (s : HasServedSession job.task (setup_of job greeting start rounds) d)
    → BeginsWith (spelling s.t) log ⊎ IsCutInTurn s.t log → ServesWith job.task (granted_from job start) log
serves_with job greeting start rounds d log s bytes = record {
  t = s.t;
  verdict = s.verdict;
  served = s.served;
  granted = ap (λ (c : Commitment). c.setup.grant) s.commitment;
  bytes = bytes;
}

-- ---- where a session is cut

-- a stop after the grant is a cut of a session that goes on: so many turns are whole, and then these bytes came
pub record IsCutOf (job : VerifierJob) (start whole : ℕ) (rest : List ℕ) (log : List (Side × ℕ)) : Type 0 where
  pub greeting : Greeting job
  pub rounds : List Round
  pub served : AreServedRounds job.task.file (granted_from job start) rounds
  pub d : List ℕ
  pub session : HasServedSession job.task (setup_of job greeting start rounds) d
  pub more : whole < length (session_turns session.t)
  pub most : length rest ≤ length (slice_index_or (session_turns session.t) whole ([], [])).0
  pub bytes : log ≡ turn_bytes (take whole (session_turns session.t)) ++ bytes_from Prover rest

pub cut_in_turn : (job : VerifierJob) (start whole : ℕ) (rest : List ℕ) (log : List (Side × ℕ)) (cut : IsCutOf job start whole rest log) → IsCutInTurn cut.session.t log
cut_in_turn job start whole rest log cut = record { whole = whole; more = cut.more; rest = rest; most = cut.most; bytes = cut.bytes }

-- after the turns of such a session, and no more than is said in the next
cut_after : (job : VerifierJob) (start whole : ℕ) (turns : List (List ℕ × List ℕ)) (said : List ℕ) (log : List (Side × ℕ)) (at : IsTurnsLog job start turns said log)
    (rounds : List Round) (d : List ℕ) → AreServedRounds job.task.file (granted_from job start) rounds
    → (s : HasServedSession job.task (setup_of job at.greeting start rounds) d) (next : List ℕ × List ℕ) (more : List (List ℕ × List ℕ))
    → (first_turn job at.greeting start ∷ turns) ++ next ∷ more ≡ session_turns s.t → 1 + length turns ≡ whole → length said ≤ length next.0
    → IsCutOf job start whole said log
cut_after job start whole turns said log at rounds d served s next more are counted most =
    let front = first_turn job at.greeting start ∷ turns in
    record {
      greeting = at.greeting;
      rounds = rounds;
      served = served;
      d = d;
      session = s;
      more = subst (λ (l : List (List ℕ × List ℕ)). whole < length l) are (omega (arith, counted, length-append front (next ∷ more)));
      most = subst (λ (l : List (List ℕ × List ℕ)). length said ≤ length (slice_index_or l whole ([], [])).0) are
          (subst (λ (turn : List ℕ × List ℕ). length said ≤ length turn.0) (sym (get_or_at front next more ([], []) whole (counted_so counted))) most);
      bytes = at.spelled ∙ ap (λ l. turn_bytes l ++ bytes_from Prover said)
          (sym (take_at front (next ∷ more) whole (counted_so counted)) ∙ ap (take whole) are);
    }
  where
    counted_so : 1 + length turns ≡ whole → length (first_turn job at.greeting start ∷ turns) ≡ whole
    counted_so is = omega (arith, is)

pub length_corrections : (d : List ℕ) → length (corrections_frame d) ≡ 5 + 8 * length d
length_corrections d = omega (arith, length-elements d)

pub length_sums : (both : List (ℕ × ℕ)) → length (sums_frame both) ≡ 5 + 16 * length both
length_sums both = omega (arith, length-sums both)

pub length_openings : (macs : List ℕ) → length (openings_frame macs) ≡ 5 + 8 * length macs
length_openings macs = omega (arith, length-elements macs)

-- how many turns are rounds
rounds_counted : (job : VerifierJob) (start : ℕ) (rounds : List Round) → AreServedRounds job.task.file (granted_from job start) rounds
    → length (round_turns rounds) ≡ rounds_of job.task.file.params.kind
rounds_counted job start rounds served =
    let mapped : length (round_turns rounds) ≡ length rounds = length-map rounds _ in
    mapped ∙ served.count

-- ---- where the verifier waited, and bytes of the frame that it expected

pub record IsCutAt (job : VerifierJob) (stage : VerifierStage) (rest : List ℕ) (log : List (Side × ℕ)) : Type 0 where
  pub before : List (Side × ℕ)
  pub waited : IsVerifierLogAt job stage before
  pub few : (other : Expect) → verifier_expects job stage ≡ Some other → length rest ≤ longest other
  pub logged : log ≡ before ++ bytes_from Prover rest

pub cut_of_stop : (job : VerifierJob) (stage : VerifierStage) (log : List (Side × ℕ)) → (comes : ComesThere job stage log) → IsCutAt job stage comes.rest log
cut_of_stop job stage log comes = record {
  before = comes.before;
  waited = comes.waited;
  few = few_of job stage log comes;
  logged = comes.logged;
}

pub cut_of_log : (job : VerifierJob) (stage : VerifierStage) (log : List (Side × ℕ)) → IsVerifierLogAt job stage log → IsCutAt job stage [] log
cut_of_log job stage log at = record { before = log; waited = at; few = λ other is. omega arith; logged = sym (append-nil log) }

-- what was said then
said_then : (job : VerifierJob) (start : ℕ) (turns : List (List ℕ × List ℕ)) (said : List ℕ) (before : List (Side × ℕ)) (rest : List ℕ) (log : List (Side × ℕ))
    → IsTurnsLog job start turns said before → log ≡ before ++ bytes_from Prover rest → IsTurnsLog job start turns (said ++ rest) log
said_then job start turns said before rest log at logged =
    subst (IsTurnsLog job start turns (said ++ rest)) (sym logged) (said_more job start turns said before rest at)

-- ---- among the asks

-- fewer items, and a part of one more
part_fits : (a u per r : ℕ) → a < u → r ≤ per → a * per + r ≤ u * per
part_fits a u per r less few =
    omega (arith, mul-le-mul_right {m = a + 1} {n = u} per (omega (arith, less)), few)

asks_fit : (job : VerifierJob) (start : ℕ) (asked : List (List TreeAsk)) (rest : List ℕ) (round : Round) (rounds : List Round)
    → AreServedRounds job.task.file (granted_from job start) (round ∷ rounds) → AreAsksSoFar job asked
    → length rest ≤ 5 + job.task.file.params.trees * (job.task.file.params.height + 8)
    → length (flat_map ask_frame asked ++ rest) ≤ length (flat_map ask_frame round.asks)
asks_fit job start asked rest round rounds served so few =
    let params = job.task.file.params in
    let per = 5 + params.trees * (params.height + 8) in
    let whole : length (flat_map ask_frame round.asks) ≡ units_of_job job * per =
    sizes.asks_length params (granted_from job start) round (served.ranged 0 round (omega arith)) in
    let part : length (flat_map ask_frame asked ++ rest) ≡ length asked * per + length rest =
    length-append (flat_map ask_frame asked) rest ∙ ap (λ n. n + length rest) (asks_length params.height params.trees asked so.each) in
    let fits = part_fits (length asked) (units_of_job job) per (length rest) so.more few in
    subst (λ n. n ≤ length (flat_map ask_frame round.asks)) (sym part) (subst (λ n. length asked * per + length rest ≤ n) (sym whole) fits)

cut_in_asks : (job : VerifierJob) (start : ℕ) (asked : List (List TreeAsk)) (rest : List ℕ) (log : List (Side × ℕ)) (rounds : List Round) → ServedSessionExists → IsKnown job
    → AreAsksSoFar job asked → length rest ≤ 5 + job.task.file.params.trees * (job.task.file.params.height + 8)
    → IsTurnsLog job start [] (flat_map ask_frame asked ++ rest) log → AreServedRounds job.task.file (granted_from job start) rounds
    → IsCutOf job start 1 (flat_map ask_frame asked ++ rest) log
cut_in_asks job start asked rest log [] law known so few at served = absurd (omega (arith, served.count, ap rounds_of so.extended))
cut_in_asks job start asked rest log (round ∷ rounds) law known so few at served =
    let givens = job.task.statement.program.givens in
    let s = goes_further job at.greeting start (round ∷ rounds) (replicate givens 0) law known at.within served (zeros givens) in
    cut_after job start 1 [] (flat_map ask_frame asked ++ rest) log at (round ∷ rounds) (replicate givens 0) served s _ _
    (sym (turns_are job at.greeting start (round ∷ rounds) (replicate givens 0) s)) refl (asks_fit job start asked rest round rounds served so few)

pub cut_asks : (job : VerifierJob) (start : ℕ) (asked : List (List TreeAsk)) (rest : List ℕ) (log : List (Side × ℕ)) → RepliesAreInRange → ServedSessionExists
    → IsKnown job → IsCutAt job (awaits_asks start asked) rest log → IsCutOf job start 1 (flat_map ask_frame asked ++ rest) log
cut_asks job start asked rest log ranges law known stopped =
    let at = stopped.waited in
    let some = some_rounds job start ranges (record { file = known.file; is = known.is }) at.1.within in
    cut_in_asks job start asked rest log some.0 law known at.0
    (stopped.few (expect.Ask job.task.file.params.height job.task.file.params.trees (units_of_job job - length asked)) refl)
    (said_then job start [] (flat_map ask_frame asked) stopped.before rest log at.1 stopped.logged) some.1

-- ---- after them

pub cut_corrections : (job : VerifierJob) (start : ℕ) (rest : List ℕ) (log : List (Side × ℕ)) → ServedSessionExists → IsKnown job
    → IsCutAt job (awaits_corrections start) rest log → IsCutOf job start (1 + rounds_of job.task.file.params.kind) rest log
cut_corrections job start rest log law known stopped =
    let fixed = stopped.waited in
    let givens = job.task.statement.program.givens in
    let at = said_then job start (round_turns fixed.rounds ++ []) [] stopped.before rest log fixed.turned stopped.logged in
    let s = goes_further job at.greeting start fixed.rounds (replicate givens 0) law known at.within fixed.served (zeros givens) in
    cut_after job start (1 + rounds_of job.task.file.params.kind) (round_turns fixed.rounds ++ []) rest log at fixed.rounds (replicate givens 0) fixed.served s
    (second_turn job start (replicate givens 0)) _
    (ap (λ l. (first_turn job at.greeting start ∷ l) ++ second_turn job start (replicate givens 0) ∷ last_turn s.t.sums s.t.openings s.t.code s.t.number ∷ [])
    (append-nil (round_turns fixed.rounds)) ∙ sym (turns_are job at.greeting start fixed.rounds (replicate givens 0) s))
    (omega (arith, length-append {A = List ℕ × List ℕ} (round_turns fixed.rounds) [], rounds_counted job start fixed.rounds fixed.served))
    (omega (arith, stopped.few (expect.Corrections givens) refl, length_corrections (replicate givens 0), length-replicate {A = ℕ} givens 0))

-- a log that ends in the last turn of the prover
cut_last : (job : VerifierJob) (start : ℕ) (d said : List ℕ) (before : List (Side × ℕ)) (rest : List ℕ) (log : List (Side × ℕ)) → ServedSessionExists → IsKnown job
    → AreElements job.task.statement.program.givens d → IsFixedLog job start (second_turn job start d ∷ []) said before → log ≡ before ++ bytes_from Prover rest
    → length (said ++ rest) ≤ 5 + 16 * section_count job.task.statement.program job.section_length + (5 + 8 * length job.task.statement.program.opened)
    → IsCutOf job start (2 + rounds_of job.task.file.params.kind) (said ++ rest) log
cut_last job start d said before rest log law known elements fixed logged most =
    let second = second_turn job start d in
    let at = said_then job start (round_turns fixed.rounds ++ second ∷ []) said before rest log fixed.turned logged in
    let s = goes_further job at.greeting start fixed.rounds d law known at.within fixed.served elements in
    let last = last_turn s.t.sums s.t.openings s.t.code s.t.number in
    let same = ap (λ (c : Commitment). section_count job.task.statement.program c.setup.grant.section_length) s.commitment in
    let sums_long = length_sums s.t.sums ∙ ap (λ n. 5 + 16 * n) (s.served.in_order.transcript.sum_count ∙ same) in
    let openings_long = length_openings s.t.openings ∙ ap (λ n. 5 + 8 * n) s.served.in_order.transcript.opening_count in
    cut_after job start (2 + rounds_of job.task.file.params.kind) (round_turns fixed.rounds ++ second ∷ []) (said ++ rest) log at fixed.rounds d fixed.served s last []
    (ap (λ l. first_turn job at.greeting start ∷ l) (append_assoc (round_turns fixed.rounds) (second ∷ []) (last ∷ []))
    ∙ sym (turns_are job at.greeting start fixed.rounds d s))
    (omega (arith, length-append (round_turns fixed.rounds) (second ∷ []), rounds_counted job start fixed.rounds fixed.served))
    (omega (arith, most, sums_long, openings_long, length-append (sums_frame s.t.sums) (openings_frame s.t.openings)))

pub cut_sums : (job : VerifierJob) (start : ℕ) (d rest : List ℕ) (log : List (Side × ℕ)) → ServedSessionExists → IsKnown job
    → IsCutAt job (awaits_sums start d) rest log → IsCutOf job start (2 + rounds_of job.task.file.params.kind) rest log
cut_sums job start d rest log law known stopped =
    cut_last job start d [] stopped.before rest log law known stopped.waited.0 stopped.waited.1 stopped.logged
    (omega (arith, stopped.few (expect.Sums (section_count job.task.statement.program job.section_length)) refl))

pub cut_openings : (job : VerifierJob) (start : ℕ) (d : List ℕ) (both : List (ℕ × ℕ)) (rest : List ℕ) (log : List (Side × ℕ)) → ServedSessionExists → IsKnown job
    → IsCutAt job (awaits_openings start d both) rest log
    → IsCutOf job start (2 + rounds_of job.task.file.params.kind) (sums_frame both ++ rest) log
cut_openings job start d both rest log law known stopped =
    cut_last job start d (sums_frame both) stopped.before rest log law known stopped.waited.0 stopped.waited.2 stopped.logged
    (omega (
      arith,
      stopped.few (expect.Openings (length job.task.statement.program.opened)) refl,
      length_sums both,
      stopped.waited.1.counted,
      length-append (sums_frame both) rest,
    ))

-- some turns are whole, and these bytes came of the next
pub record IsSomeCut (job : VerifierJob) (start : ℕ) (log : List (Side × ℕ)) : Type 0 where
  pub whole : ℕ
  pub rest : List ℕ
  pub cut : IsCutOf job start whole rest log

pub cut_behind : (job : VerifierJob) (start : ℕ) (stage : VerifierStage) (rest : List ℕ) (log : List (Side × ℕ)) → RepliesAreInRange → ServedSessionExists → IsKnown job
    → IsBehind start stage → ¬ (verifier_expects job stage ≡ None) → IsCutAt job stage rest log → IsSomeCut job start log
cut_behind job start (awaits_asks begun asked) rest log ranges law known starts waits stopped = subst (λ b. IsSomeCut job b log) starts
    (record { whole = 1; rest = _; cut = cut_asks job begun asked rest log ranges law known stopped })
cut_behind job start (awaits_corrections begun) rest log ranges law known starts waits stopped = subst (λ b. IsSomeCut job b log) starts
    (record { whole = _; rest = _; cut = cut_corrections job begun rest log law known stopped })
cut_behind job start (awaits_sums begun d) rest log ranges law known starts waits stopped = subst (λ b. IsSomeCut job b log) starts
    (record { whole = _; rest = _; cut = cut_sums job begun d rest log law known stopped })
cut_behind job start (awaits_openings begun d both) rest log ranges law known starts waits stopped = subst (λ b. IsSomeCut job b log) starts
    (record { whole = _; rest = _; cut = cut_openings job begun d both rest log law known stopped })
cut_behind job start (has_judged begun judgement) rest log ranges law known starts waits stopped = absurd (waits refl)
cut_behind job start other rest log ranges law known starts waits stopped = absurd starts

-- where a session stopped after the grant
pub cut_at_stop : (job : VerifierJob) (start : ℕ) (fault : LineFault) (first now : LinkSnapshot) → RepliesAreInRange → ServedSessionExists → IsKnown job
    → VerifierStopsBehind job start fault first now → IsSomeCut job start now.log
cut_at_stop job start fault first now ranges law known stops =
    let comes = stops.stopped.comes in
    cut_behind job start stops.stage comes.rest now.log ranges law known stops.behind (λ none. none_is_some (sym none ∙ comes.expected))
    (cut_of_stop job stops.stage now.log comes)
