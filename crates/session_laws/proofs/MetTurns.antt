-- Where an honest prover and a verifier that serves agree on some turns, there is an honest session with these turns, with
-- what the prover says in the next, and with what the verifier answers to it.
use Rattle.std.proofs.Common.{◌≡◌, ℕ, zero, suc, ◌+◌, ◌<◌, ◌≤◌, ⊎_elim, List, [], ◌∷◌, ◌++◌, flat_map, take, drop, length, get_or, slice_index_or, refl, sym, ◌∙◌, ap, subst, arith}
use Rattle.std.specs.Prelude.{All}
use Rattle.std.specs.List.{AllByRecursion}
use Rattle.std.proofs.lemmas.Bool.{cases_eq, cases_lt}
use Rattle.std.proofs.lemmas.List.{take_at, get_or_at}
use Rattle.std.proofs.lemmas.List.Elements.{recursion_from_All}
use Rattle.session_laws.specs.Peers.{said_in}
use Rattle.session_laws.proofs.Sizes.{round_turns, count_is}
use Rattle.session_laws.proofs.Followed.{last_two, same_asks, one_round}
use Rattle.session_laws.proofs.PeersHonest.{setup_count, same_challenge, turns_before, before_count, before_is, last_apart, last_is, same_but_verdict, honest_with}
use Rattle.session_laws.proofs.Completed.{AreBoth, IsCompleted, task_of, counterparts, completed, fresh_session}
use Rattle.frame_laws.proofs.FrameCodes.{round_code}
use Rattle.zk_laws.proofs.HonestIsAccepted.{honest_session_is_accepted}
use Rattle.zk_model.specs.Program.{Program}
use Rattle.zk_model.specs.Files.{VerifierFile, rounds_of}
use Rattle.zk_model.specs.Transcript.{Grant, TreeAsk, Round, Transcript, IsRound, IsTranscript, hello_frame, grant_frame, ask_frame, reply_frame, corrections_frame, challenge_frame, sums_frame, openings_frame, verdict_frame, setup_turns, session_turns, spelling}
use Rattle.zk_model.specs.View.{SaysVerdict}
use Rattle.zk_model.specs.HonestProver.{ProverTask, IsHonest, round_asks}
use Rattle.zk_model.specs.ServedVerifier.{RepliesAre, IsServed, round_replies, challenge_coin}
use Rattle.zk_model.specs.BothEnds.{IsHonestSession}
use Rattle.zk_model.specs.declared.Params.{Params}
use Rattle.zk_model.specs.declared.Side.{Side}
use Rattle.zk_model.specs.declared.Verdict.{Verdict}
use Rattle.zk_model.specs.declared.Verdict.TheVariants.{Accepted}

-- what the verifier answers in turn n
abbrev pub answered_in : Transcript → ℕ → List ℕ
answered_in t n = (slice_index_or (session_turns t) n ([], [])).1

-- an honest prover and a verifier that serves have the same first n turns
pub record Agree (prover : ProverTask) (file : VerifierFile) (u w : Transcript) (n : ℕ) : Type 0 where
  pub transcript : IsTranscript prover.file.params prover.statement.program u
  pub honest : IsHonest prover u
  pub verdict : Verdict
  pub served : IsServed (task_of prover file) w verdict (spelling w)
  pub grant : u.commitment.setup.grant ≡ w.commitment.setup.grant
  pub below : n < length (session_turns u)
  pub same : take n (session_turns u) ≡ take n (session_turns w)

-- an honest session with these turns and the next
pub record IsMet (prover : ProverTask) (file : VerifierFile) (u w : Transcript) (n : ℕ) : Type 0 where
  pub s : Transcript
  pub session : IsHonestSession prover (task_of prover file) w.commitment.setup.grant s Accepted (spelling s)
  pub same : take n (session_turns s) ≡ take n (session_turns u)
  pub says : said_in s n ≡ said_in u n
  pub answers : said_in u n ≡ said_in w n → answered_in s n ≡ answered_in w n

-- the verifier's transcript, by the prover's file
pub served_transcript_is : (prover : ProverTask) (file : VerifierFile) (w : Transcript) (verdict : Verdict) (log : List (Side × ℕ))
    → AreBoth prover file → IsServed (task_of prover file) w verdict log → IsTranscript prover.file.params prover.statement.program w
served_transcript_is prover file w verdict log both served =
    subst (λ (params : Params). IsTranscript params prover.statement.program w) (sym both.dealt.params) served.in_order.transcript

-- ---- rounds

-- one round of honest asks is said alike
round_said : (asks : List (List TreeAsk)) (ps qs : List Round) (xs ys : List (List ℕ × List ℕ)) → length ps ≡ 1 → length qs ≡ 1
    → AllByRecursion (λ round. round.asks ≡ asks) ps → AllByRecursion (λ round. round.asks ≡ asks) qs
    → (get_or (round_turns ps ++ xs) 0 ([], [])).0 ≡ (get_or (round_turns qs ++ ys) 0 ([], [])).0
round_said asks [] qs xs ys one other left right = absurd (omega (arith, one))
round_said asks (p ∷ ps) [] xs ys one other left right = absurd (omega (arith, other))
round_said asks (p ∷ ps) (q ∷ qs) xs ys one other left right = ap (flat_map ask_frame) (left.0 ∙ sym right.0)

-- and answered alike, where the verifier replied to the same asks
round_answered : (params : Params) (file : VerifierFile) (grant : Grant) (asks : List (List TreeAsk)) (ps qs rs : List Round)
    (xs ys zs : List (List ℕ × List ℕ)) → length ps ≡ 1 → length qs ≡ 1 → length rs ≡ 1
    → AllByRecursion (IsRound params grant) qs → AllByRecursion (IsRound params grant) rs
    → AllByRecursion (λ round. round.asks ≡ asks) ps → AllByRecursion (λ round. round.asks ≡ asks) qs
    → AllByRecursion (λ round. round.replies ≡ round_replies file grant round.asks) ps
    → AllByRecursion (λ round. round.replies ≡ round_replies file grant round.asks) rs
    → (get_or (round_turns qs ++ ys) 0 ([], [])).0 ≡ (get_or (round_turns rs ++ zs) 0 ([], [])).0
    → (get_or (round_turns ps ++ xs) 0 ([], [])).1 ≡ (get_or (round_turns rs ++ zs) 0 ([], [])).1
round_answered params file grant asks [] qs rs xs ys zs one two three qis ris pask qask prep rrep same = absurd (omega (arith, one))
round_answered params file grant asks (p ∷ ps) [] rs xs ys zs one two three qis ris pask qask prep rrep same = absurd (omega (arith, two))
round_answered params file grant asks (p ∷ ps) (q ∷ qs) [] xs ys zs one two three qis ris pask qask prep rrep same = absurd (omega (arith, three))
round_answered params file grant asks (p ∷ ps) (q ∷ qs) (r ∷ rs) xs ys zs one two three qis ris pask qask prep rrep same =
    ap (flat_map reply_frame) (prep.0
    ∙ ap (round_replies file grant) (pask.0 ∙ sym qask.0 ∙ same_asks params grant q r [] [] qis.0 ris.0 (ap (λ l. l ++ []) same))
    ∙ sym rrep.0)

-- the turns of a setup tell its rounds
rounds_told : (params : Params) (grant : Grant) (qs rs : List Round) (xs ys : List (List ℕ × List ℕ)) (k : ℕ) → length qs ≡ length rs
    → length rs ≤ 1 → length rs ≤ k → AllByRecursion (IsRound params grant) qs → AllByRecursion (IsRound params grant) rs
    → take k (round_turns qs ++ xs) ≡ take k (round_turns rs ++ ys) → qs ≡ rs
rounds_told params grant [] [] xs ys k many few within left right same = refl
rounds_told params grant [] (r ∷ rs) xs ys k many few within left right same = absurd (omega (arith, many))
rounds_told params grant (q ∷ qs) [] xs ys k many few within left right same = absurd (omega (arith, many))
rounds_told params grant (q ∷ qs) (r ∷ rs) xs ys zero many few within left right same = absurd (omega (arith, within))
rounds_told params grant (q ∷ p ∷ qs) (r ∷ rs) xs ys (suc k) many few within left right same = absurd (omega (arith, many, few))
rounds_told params grant (q ∷ []) (r ∷ s ∷ rs) xs ys (suc k) many few within left right same = absurd (omega (arith, few))
rounds_told params grant (q ∷ []) (r ∷ []) xs ys (suc k) many few within left right same =
    ap (λ round. round ∷ [])
    (round_code params grant q r [] [] left.0 right.0
    (λ i. ((get_or (same i) 0 ([], [])).0 ++ (get_or (same i) 0 ([], [])).1) ++ [])).0

-- ---- before the rounds are over

-- no turn yet
met_first : (prover : ProverTask) (file : VerifierFile) (u w : Transcript) → AreBoth prover file → Agree prover file u w 0
    → IsMet prover file u w 0
met_first prover file u w both agree = record {
  s = fresh.0;
  session = fresh.1;
  same = refl;
  says = ap hello_frame (fresh.1.honest.hello ∙ sym agree.honest.hello);
  answers = λ same. ap grant_frame fresh.1.granted;
}
  where
    fresh : (s : Transcript) × IsHonestSession prover (task_of prover file) w.commitment.setup.grant s Accepted (spelling s)
    fresh = fresh_session prover file w.commitment.setup.grant both
        (served_transcript_is prover file w agree.verdict (spelling w) both agree.served).commitment.setup.grant

-- the asks are those of an honest prover
asks_by : (prover : ProverTask) (grant : Grant) (u : Transcript) → IsHonest prover u → u.commitment.setup.grant ≡ grant
    → AllByRecursion (λ round. round.asks ≡ round_asks prover.file grant) u.commitment.setup.rounds
asks_by prover grant u honest same =
    recursion_from_All (λ round. round.asks ≡ round_asks prover.file grant) u.commitment.setup.rounds
    (subst (λ (grant : Grant). All (λ round. round.asks ≡ round_asks prover.file grant) u.commitment.setup.rounds) same honest.asks)

-- the replies are those of the verifier's file
replies_by : (file : VerifierFile) (grant : Grant) (w : Transcript) → RepliesAre file w.commitment.setup → w.commitment.setup.grant ≡ grant
    → AllByRecursion (λ round. round.replies ≡ round_replies file grant round.asks) w.commitment.setup.rounds
replies_by file grant w replies same =
    recursion_from_All (λ round. round.replies ≡ round_replies file grant round.asks) w.commitment.setup.rounds
    (subst (λ (grant : Grant). All (λ round. round.replies ≡ round_replies file grant round.asks) w.commitment.setup.rounds) same replies)

rounds_by : (params : Params) (program : Program) (grant : Grant) (t : Transcript) → IsTranscript params program t → t.commitment.setup.grant ≡ grant
    → AllByRecursion (IsRound params grant) t.commitment.setup.rounds
rounds_by params program grant t is same =
    recursion_from_All (IsRound params grant) t.commitment.setup.rounds
    (subst (λ (grant : Grant). All (IsRound params grant) t.commitment.setup.rounds) same is.commitment.setup.rounds)

-- one turn, and a round comes
met_second : (prover : ProverTask) (file : VerifierFile) (u w : Transcript) → rounds_of prover.file.params.kind ≡ 1
    → AreBoth prover file → Agree prover file u w 1 → IsMet prover file u w 1
met_second prover file u w one both agree = record {
  s = s;
  session = fresh.1;
  same = λ i. (hello_frame (hello i), grant_frame (grant i)) ∷ [];
  says = round_said (round_asks prover.file w.commitment.setup.grant) s.commitment.setup.rounds u.commitment.setup.rounds (last_two s) (last_two u)
      (count s mine) (count u agree.transcript) (asks_by prover w.commitment.setup.grant s fresh.1.honest fresh.1.granted)
      (asks_by prover w.commitment.setup.grant u agree.honest agree.grant);
  answers = λ same. round_answered prover.file.params file w.commitment.setup.grant (round_asks prover.file w.commitment.setup.grant)
      s.commitment.setup.rounds u.commitment.setup.rounds w.commitment.setup.rounds (last_two s) (last_two u) (last_two w)
      (count s mine) (count u agree.transcript) (count w theirs)
      (rounds_by prover.file.params prover.statement.program w.commitment.setup.grant u agree.transcript agree.grant)
      (rounds_by prover.file.params prover.statement.program w.commitment.setup.grant w theirs refl)
      (asks_by prover w.commitment.setup.grant s fresh.1.honest fresh.1.granted)
      (asks_by prover w.commitment.setup.grant u agree.honest agree.grant)
      (replies_by file w.commitment.setup.grant s fresh.1.served.replies fresh.1.granted)
      (replies_by file w.commitment.setup.grant w agree.served.replies refl) same;
}
  where
    theirs : IsTranscript prover.file.params prover.statement.program w
    theirs = served_transcript_is prover file w agree.verdict (spelling w) both agree.served

    fresh : (s : Transcript) × IsHonestSession prover (task_of prover file) w.commitment.setup.grant s Accepted (spelling s)
    fresh = fresh_session prover file w.commitment.setup.grant both theirs.commitment.setup.grant

    s : Transcript
    s = fresh.0

    mine : IsTranscript prover.file.params prover.statement.program fresh.0
    mine = served_transcript_is prover file fresh.0 Accepted (spelling fresh.0) both fresh.1.served

    count : (t : Transcript) → IsTranscript prover.file.params prover.statement.program t → length t.commitment.setup.rounds ≡ 1
    count t is = is.commitment.setup.round_count ∙ one

    hello : fresh.0.commitment.setup.hello ≡ u.commitment.setup.hello
    hello = fresh.1.honest.hello ∙ sym agree.honest.hello

    grant : fresh.0.commitment.setup.grant ≡ u.commitment.setup.grant
    grant = fresh.1.granted ∙ sym agree.grant

-- ---- once the setup is over

-- the turns of the setup
setup_is : (t : Transcript) (n : ℕ) → length (setup_turns t.commitment.setup) ≡ n → take n (session_turns t) ≡ setup_turns t.commitment.setup
setup_is t n long = take_at (setup_turns t.commitment.setup) (last_two t) n long

-- the turn after it
next_is : (t : Transcript) (n : ℕ) → length (setup_turns t.commitment.setup) ≡ n
    → get_or (session_turns t) n ([], []) ≡ (corrections_frame t.commitment.corrections, challenge_frame t.challenge)
next_is t n long = get_or_at (setup_turns t.commitment.setup) (corrections_frame t.commitment.corrections, challenge_frame t.challenge)
    ((sums_frame t.sums ++ openings_frame t.openings, verdict_frame t.code t.number) ∷ []) ([], []) n long

-- and the answer of the last
verdict_is : (params : Params) (program : Program) (t : Transcript) → IsTranscript params program t
    → answered_in t (suc (rounds_of params.kind + 1)) ≡ verdict_frame t.code t.number
verdict_is params program t is =
    ap (λ (turns : List (List ℕ × List ℕ)). (get_or turns (suc (rounds_of params.kind + 1)) ([], [])).1) (last_apart t)
    ∙ ap (λ turn. turn.1) (get_or_at (turns_before t) (sums_frame t.sums ++ openings_frame t.openings, verdict_frame t.code t.number) [] ([], [])
    (suc (rounds_of params.kind + 1)) (before_count params program t is))

-- the replies to an honest prover are those of the verifier's file, once they came
replied : (prover : ProverTask) (file : VerifierFile) (u w : Transcript) (n : ℕ) → rounds_of prover.file.params.kind ≤ n
    → AreBoth prover file → Agree prover file u w (suc n) → RepliesAre file u.commitment.setup
replied prover file u w n within both agree =
    subst (λ (grant : Grant). All (λ round. round.replies ≡ round_replies file grant round.asks) u.commitment.setup.rounds) (sym agree.grant)
    (subst (λ (rounds : List Round). All (λ round. round.replies ≡ round_replies file w.commitment.setup.grant round.asks) rounds) (sym rounds)
    agree.served.replies)
  where
    theirs : IsTranscript prover.file.params prover.statement.program w
    theirs = served_transcript_is prover file w agree.verdict (spelling w) both agree.served

    rounds : u.commitment.setup.rounds ≡ w.commitment.setup.rounds
    rounds = rounds_told prover.file.params w.commitment.setup.grant u.commitment.setup.rounds w.commitment.setup.rounds (last_two u) (last_two w) n
        (agree.transcript.commitment.setup.round_count ∙ sym theirs.commitment.setup.round_count)
        (let few = one_round prover.file.params.kind in let count = theirs.commitment.setup.round_count in omega (arith, few, count))
        (let count = theirs.commitment.setup.round_count in omega (arith, count, within))
        (rounds_by prover.file.params prover.statement.program w.commitment.setup.grant u agree.transcript agree.grant)
        (rounds_by prover.file.params prover.statement.program w.commitment.setup.grant w theirs refl)
        (ap (drop 1) agree.same)

-- the corrections come next
met_corrections : (prover : ProverTask) (file : VerifierFile) (u w : Transcript) → AreBoth prover file
    → Agree prover file u w (suc (rounds_of prover.file.params.kind)) → IsMet prover file u w (suc (rounds_of prover.file.params.kind))
met_corrections prover file u w both agree = record {
  s = done.0;
  session = subst (λ (grant : Grant). IsHonestSession prover (task_of prover file) grant done.0 Accepted (spelling done.0)) agree.grant done.1.session;
  same = setup_is done.0 n (mine ∙ long) ∙ ap (λ commitment. setup_turns commitment.setup) done.1.commitment ∙ sym (setup_is u n long);
  says = ap (λ turn. turn.0) (next_is done.0 n (mine ∙ long))
      ∙ ap (λ commitment. corrections_frame commitment.corrections) done.1.commitment
      ∙ sym (ap (λ turn. turn.0) (next_is u n long));
  answers = λ same. ap (λ turn. turn.1) (next_is done.0 n (mine ∙ long))
      ∙ ap challenge_frame (done.1.challenge ∙ ap (λ grant. challenge_coin file grant.start) agree.grant ∙ sym agree.served.challenge)
      ∙ sym (ap (λ turn. turn.1) (next_is w n other));
}
  where
    n : ℕ
    n = suc (rounds_of prover.file.params.kind)

    theirs : IsTranscript prover.file.params prover.statement.program w
    theirs = served_transcript_is prover file w agree.verdict (spelling w) both agree.served

    done : (s : Transcript) × IsCompleted prover file u s
    done = completed prover file u both agree.transcript agree.honest
        (replied prover file u w (rounds_of prover.file.params.kind) (omega arith) both agree)

    long : length (setup_turns u.commitment.setup) ≡ suc (rounds_of prover.file.params.kind)
    long = let count = setup_count prover.file.params prover.statement.program u agree.transcript in omega (arith, count)

    other : length (setup_turns w.commitment.setup) ≡ suc (rounds_of prover.file.params.kind)
    other = let count = setup_count prover.file.params prover.statement.program w theirs in omega (arith, count)

    mine : length (setup_turns done.0.commitment.setup) ≡ length (setup_turns u.commitment.setup)
    mine = ap (λ commitment. length (setup_turns commitment.setup)) done.1.commitment

-- the sums come last
met_last : (prover : ProverTask) (file : VerifierFile) (u w : Transcript) → AreBoth prover file
    → Agree prover file u w (suc (rounds_of prover.file.params.kind + 1)) → IsMet prover file u w (suc (rounds_of prover.file.params.kind + 1))
met_last prover file u w both agree = record {
  s = s;
  session = session;
  same = before_is prover.file.params prover.statement.program s mine ∙ before ∙ sym (before_is prover.file.params prover.statement.program u agree.transcript);
  says = last_is prover.file.params prover.statement.program s mine
      ∙ (λ i. sums_frame (sums i) ++ openings_frame (done.1.openings i))
      ∙ sym (last_is prover.file.params prover.statement.program u agree.transcript);
  answers = λ same. verdict_is prover.file.params prover.statement.program s mine
      ∙ (λ i. verdict_frame ((done.1.code ∙ sym (said same).code) i) ((done.1.number ∙ sym (said same).number) i))
      ∙ sym (verdict_is prover.file.params prover.statement.program w theirs);
}
  where
    theirs : IsTranscript prover.file.params prover.statement.program w
    theirs = served_transcript_is prover file w agree.verdict (spelling w) both agree.served

    done : (s : Transcript) × IsCompleted prover file u s
    done = completed prover file u both agree.transcript agree.honest
        (replied prover file u w (rounds_of prover.file.params.kind + 1) (omega arith) both agree)

    s : Transcript
    s = done.0

    session : IsHonestSession prover (task_of prover file) w.commitment.setup.grant done.0 Accepted (spelling done.0)
    session = subst (λ (grant : Grant). IsHonestSession prover (task_of prover file) grant done.0 Accepted (spelling done.0)) agree.grant done.1.session

    mine : IsTranscript prover.file.params prover.statement.program done.0
    mine = served_transcript_is prover file done.0 Accepted (spelling done.0) both done.1.session.served

    challenge : u.challenge ≡ challenge_coin file u.commitment.setup.grant.start
    challenge = same_challenge prover.file.params prover.statement.program w u (suc (rounds_of prover.file.params.kind + 1)) theirs agree.transcript agree.same
        (let count = setup_count prover.file.params prover.statement.program w theirs in omega (arith, count))
        ∙ agree.served.challenge ∙ sym (ap (λ grant. challenge_coin file grant.start) agree.grant)

    sums : done.0.sums ≡ u.sums
    sums = done.1.sums challenge

    before : turns_before done.0 ≡ turns_before u
    before = λ i. setup_turns (done.1.commitment i).setup
        ++ (corrections_frame (done.1.commitment i).corrections, challenge_frame ((done.1.challenge ∙ sym challenge) i)) ∷ []

    -- where what is said is the same, the verifier's session is the honest one
    said : said_in u (suc (rounds_of prover.file.params.kind + 1)) ≡ said_in w (suc (rounds_of prover.file.params.kind + 1)) → SaysVerdict w Accepted
    said same =
        let whole = same_but_verdict prover.file.params prover.statement.program u w agree.transcript theirs both.ends.prover_file.params
        (sym agree.same) (sym same) in
        let honest = subst (IsHonest prover) whole (honest_with prover u w.code w.number agree.honest) in
        let accepted = (honest_session_is_accepted prover (task_of prover file) w agree.verdict (spelling w) (counterparts prover file both)
        honest (both.claims honest.wires honest.given honest.witness) agree.served).0 in
        subst (SaysVerdict w) accepted agree.served.judged.said

-- ---- any turn

pub met : (prover : ProverTask) (file : VerifierFile) (u w : Transcript) (n : ℕ) → AreBoth prover file → Agree prover file u w n
    → IsMet prover file u w n
met prover file u w zero both agree = met_first prover file u w both agree
met prover file u w (suc n) both agree = ⊎_elim
    (λ early. met_early n early agree)
    (λ late. ⊎_elim
    (λ e. subst (λ (k : ℕ). Agree prover file u w (suc k) → IsMet prover file u w (suc k)) (sym e) (met_corrections prover file u w both) agree)
    (λ ne. subst (λ (k : ℕ). Agree prover file u w (suc k) → IsMet prover file u w (suc k)) (sym (last late ne)) (met_last prover file u w both) agree)
    (cases_eq n (rounds_of prover.file.params.kind)))
    (cases_lt n (rounds_of prover.file.params.kind))
  where
    last : rounds_of prover.file.params.kind ≤ n → (n ≡ rounds_of prover.file.params.kind → ⊥) → n ≡ rounds_of prover.file.params.kind + 1
    last late ne =
        let count = count_is prover.file.params prover.statement.program u agree.transcript in
        let below = agree.below in
        omega (arith, count, below, late, ne)

    met_early : (n : ℕ) → n < rounds_of prover.file.params.kind → Agree prover file u w (suc n) → IsMet prover file u w (suc n)
    met_early zero early agree = met_second prover file u w
        (let few = one_round prover.file.params.kind in omega (arith, few, early)) both agree
    met_early (suc n) early agree = let few = one_round prover.file.params.kind in absurd (omega (arith, few, early))
