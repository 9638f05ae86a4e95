-- How a session goes on, turn by turn, and how it ends.
use Rattle.std.proofs.Common.{◌≡◌, ◌⊎◌, inl, inr, ℕ, ◌+◌, ◌≤◌, List, [], ◌∷◌, ◌++◌, flat_map, length, true, ap, sym, ◌∙◌, arith, append_assoc, append-nil, ◌*◌, ◌^◌, ◌<◌, None, refl, subst, length-append, Option, Some}
use Rattle.std.proofs.lemmas.Grind.{flat_map-append}
use Rattle.zk_model.specs.Transcript.{bytes_from, sent_by}
use Rattle.zk_model.specs.Frames.{Frame, frame_spelling, IsWhole, hello}
use Rattle.zk_model.specs.declared.Side.{Side}
use Rattle.zk_model.specs.declared.Side.TheVariants.{Prover, Verifier}
use Rattle.frame_laws.proofs.SentBytes.{sent_by-append, own_bytes, none_of_verifier, none_of_prover}
use Rattle.zk_port.specs.Counts.{counted}
use Rattle.frame_link.specs.Sides.{peer_of}
use Rattle.frame_link.specs.Lines.{counted_times, LineState, Arrives, Fails}
use Rattle.frame_link.proofs.LineLemmas.{one_send_more, appended_none, appended_more, before_none, before_more, longest, frame_most, IsAnswered, is_answered, came_none, none_fails}
use Rattle.session_driver.specs.Runs.{Turn, said, turn_log, whole_log, Moves, IsTurn, Goes, IsFresh, HasPassed, SendsAll, TurnGoes, Runs, IsUnsent, TurnStops, answers_behind, answers_in, new_answer}
use Rattle.zk_model.specs.declared.Expect.{Expect}
use Rattle.zk_port.specs.Logs.{appended, put_before}
use Rattle.proof_frames.specs.Readings.{Reading, IsShortPlace}
use Rattle.proof_frames.proofs.Lengths.{whole_length}
use Rattle.frame_link.specs.declared.fault.LineFault.{LineFault}
use Rattle.frame_link.specs.declared.fault.LineFault.TheVariants.{NoMemory}
use Rattle.session_driver.specs.declared.drive.Outcome.TheVariants.{Cut}
use Rattle.zk_model.specs.declared.Expect.TheVariants as places
use Rattle.std.proofs.lemmas.List.{map-append, flat_map_more}

-- A session goes on by one turn.

-- ---- the bytes of a log side by side, and how many sends they took

-- none of one side's bytes are the other's
pub none_of_own : (side : Side) (bytes : List ℕ) → sent_by (peer_of side) (bytes_from side bytes) ≡ []
none_of_own Prover bytes = none_of_prover bytes
none_of_own Verifier bytes = none_of_verifier bytes

-- after bytes of the peer's, and after own ones
pub came_more : (side : Side) (log : List (Side × ℕ)) (bytes : List ℕ)
    → sent_by (peer_of side) (log ++ bytes_from (peer_of side) bytes) ≡ sent_by (peer_of side) log ++ bytes
came_more side log bytes =
    sent_by-append (peer_of side) log (bytes_from (peer_of side) bytes) ∙ ap (λ l. sent_by (peer_of side) log ++ l) (own_bytes (peer_of side) bytes)

pub came_same : (side : Side) (log : List (Side × ℕ)) (bytes : List ℕ)
    → sent_by (peer_of side) (log ++ bytes_from side bytes) ≡ sent_by (peer_of side) log
came_same side log bytes =
    sent_by-append (peer_of side) log (bytes_from side bytes)
    ∙ ap (λ l. sent_by (peer_of side) log ++ l) (none_of_own side bytes) ∙ append-nil (sent_by (peer_of side) log)

-- bytes after bytes, and those of one item more
pub bytes_more : (side : Side) (a b : List ℕ) → bytes_from side (a ++ b) ≡ bytes_from side a ++ bytes_from side b
bytes_more side a b = map-append (λ (byte : ℕ). (side, byte)) a b

pub one_more : {A : Type 0} (side : Side) (spell : A → List ℕ) (front : List (Side × ℕ)) (items : List A) (item : A)
    → (front ++ bytes_from side (flat_map spell items)) ++ bytes_from side (spell item) ≡ front ++ bytes_from side (flat_map spell (items ++ item ∷ []))
one_more side spell front items item =
    append_assoc front (bytes_from side (flat_map spell items)) (bytes_from side (spell item))
    ∙ ap (λ l. front ++ l) (sym (bytes_more side (flat_map spell items) (spell item)) ∙ ap (bytes_from side) (flat_map_more spell [] items item))

-- one turn more
pub whole_more : (side : Side) (greeting : List Frame) (turns : List Turn) (turn : Turn)
    → (whole_log side greeting turns ++ bytes_from (peer_of side) (frame_spelling turn.frame)) ++ said side turn.answer
    ≡ whole_log side greeting (turns ++ turn ∷ [])
whole_more side greeting turns turn =
    append_assoc (whole_log side greeting turns) (bytes_from (peer_of side) (frame_spelling turn.frame)) (said side turn.answer)
    ∙ append_assoc (said side greeting) (flat_map (turn_log side) turns) (turn_log side turn)
    ∙ ap (λ l. said side greeting ++ (flat_map (turn_log side) turns ++ l)) (sym (append-nil (turn_log side turn)))
    ∙ ap (λ l. said side greeting ++ l) (sym (flat_map-append (turn_log side) turns (turn ∷ [])))

-- ---- how many answers a log has

-- every frame has a byte
pub frame_is_some : (frame : Frame) → 1 ≤ length (frame_spelling frame)
frame_is_some (hello said) = omega arith
frame_is_some frame = omega arith

frames_are_some : (frames : List Frame) → 1 ≤ length frames → 1 ≤ length (flat_map frame_spelling frames)
frames_are_some [] some = absurd (omega (arith, some))
frames_are_some (frame ∷ frames) some =
    omega (arith, frame_is_some frame, length-append (frame_spelling frame) (flat_map frame_spelling frames))

peer_says : (side last : Side) → new_answer side last (peer_of side) ≡ 0
peer_says Prover Prover = refl
peer_says Prover Verifier = refl
peer_says Verifier Prover = refl
peer_says Verifier Verifier = refl

own_says : (side : Side) → new_answer side side side ≡ 0
own_says Prover = refl
own_says Verifier = refl

own_first : (side : Side) → new_answer side (peer_of side) side ≡ 1
own_first Prover = refl
own_first Verifier = refl

-- the peer's bytes are no answer
none_heard : (side last : Side) (bytes : List ℕ) → answers_behind side last (bytes_from (peer_of side) bytes) ≡ 0
none_heard side last [] = refl
none_heard side last (byte ∷ bytes) = omega (arith, none_heard side (peer_of side) bytes, peer_says side last)

heard_behind : (side last : Side) (log : List (Side × ℕ)) (bytes : List ℕ)
    → answers_behind side last (log ++ bytes_from (peer_of side) bytes) ≡ answers_behind side last log
heard_behind side last [] bytes = none_heard side last bytes
heard_behind side last (entry ∷ log) bytes = ap (λ n. new_answer side last entry.0 + n) (heard_behind side entry.0 log bytes)

pub answers_heard : (side : Side) (log : List (Side × ℕ)) (bytes : List ℕ) → answers_in side (log ++ bytes_from (peer_of side) bytes) ≡ answers_in side log
answers_heard side log bytes = heard_behind side (peer_of side) log bytes

-- more of one's own bytes are none
none_said : (side : Side) (bytes : List ℕ) → answers_behind side side (bytes_from side bytes) ≡ 0
none_said side [] = refl
none_said side (byte ∷ bytes) = omega (arith, none_said side bytes, own_says side)

-- what this side says behind this log is one answer more
abbrev pub AwaitsAnswer : Side → List (Side × ℕ) → Type 0
AwaitsAnswer side log = (said : List ℕ) → 1 ≤ length said → answers_in side (log ++ bytes_from side said) ≡ answers_in side log + 1

pub answers_first : (side : Side) → AwaitsAnswer side []
answers_first side [] some = absurd (omega (arith, some))
answers_first side (byte ∷ said) some = omega (arith, none_said side said, own_first side)

said_behind : (side last : Side) (heard said : List ℕ) → 1 ≤ length heard → 1 ≤ length said
    → answers_behind side last (bytes_from (peer_of side) heard ++ bytes_from side said) ≡ 1
said_behind side last [] said some more = absurd (omega (arith, some))
said_behind side last (byte ∷ []) said some more = omega (arith, answers_first side said more, peer_says side last)
said_behind side last (byte ∷ other ∷ heard) said some more =
    omega (arith, said_behind side (peer_of side) (other ∷ heard) said (omega arith) more, peer_says side last)

more_behind : (side last : Side) (log : List (Side × ℕ)) (heard said : List ℕ) → 1 ≤ length heard → 1 ≤ length said
    → answers_behind side last ((log ++ bytes_from (peer_of side) heard) ++ bytes_from side said) ≡ answers_behind side last log + 1
more_behind side last [] heard said some more = said_behind side last heard said some more
more_behind side last (entry ∷ log) heard said some more = omega (arith, more_behind side entry.0 log heard said some more)

-- so it is behind a frame of the peer's
pub awaits_answer : (side : Side) (log : List (Side × ℕ)) (frame : Frame) → AwaitsAnswer side (log ++ bytes_from (peer_of side) (frame_spelling frame))
awaits_answer side log frame said some =
    omega (arith, more_behind side (peer_of side) log (frame_spelling frame) said (frame_is_some frame) some, answers_heard side log (frame_spelling frame))

-- frames that are sent together are counted once
answers_sent : (side : Side) (log : List (Side × ℕ)) (frames : List Frame) (before old new : ℕ) → AwaitsAnswer side log
    → old ≡ counted_times (answers_in side log) before → ((frames ≡ []) × (new ≡ old)) ⊎ ((1 ≤ length frames) × (new ≡ counted true old))
    → new ≡ counted_times (answers_in side (log ++ said side frames)) before
answers_sent side log frames before old new awaits counts (inl none) =
    none.1 ∙ counts ∙ ap (λ l. counted_times (answers_in side l) before) (sym (append-nil log) ∙ (λ i. log ++ said side (sym none.0 i)))
answers_sent side log frames before old new awaits counts (inr some) =
    one_send_more (answers_in side log) before new (some.1 ∙ ap (counted true) counts)
    ∙ ap (λ (k : ℕ). counted_times k before) (sym (awaits (flat_map frame_spelling frames) (frames_are_some frames some.0)))

-- ---- turns in order

pub goes_more : {S F : Type 0} (moves : Moves S F) (old mid new : S) (turns : List Turn) (turn : Turn) → Goes moves old turns mid
    → IsTurn moves mid turn new → Goes moves old (turns ++ turn ∷ []) new
goes_more moves old mid new [] turn went is = (new, subst (λ s. IsTurn moves s turn new) went is, refl)
goes_more moves old mid new (first ∷ turns) turn went is = (went.0, went.1, goes_more moves went.0 mid new turns turn went.2 is)

-- ---- what has passed

-- nothing yet
pub none_passed : (first : LineState) → IsFresh first → HasPassed [] first first
none_passed first fresh = record {
  logged = fresh.log;
  reading = fresh.reading;
  told = appended_none first.told;
  came = before_none first.to_come;
  side = refl;
  is_open = fresh.is_open;
  sends = refl;
  refused_sends = refl;
  receives = omega arith;
  faults = refl;
}

-- a frame more that came, whatever the room in the log
pub passed_heard : (log : List (Side × ℕ)) (room : ℕ) (first was heard : LineState) (place : Expect) (frame : Frame)
    → HasPassed log first was → Arrives place frame (record was { room = room }) heard
    → HasPassed (log ++ bytes_from (peer_of first.side) (frame_spelling frame)) first heard
passed_heard log room first was heard place frame passed arrives =
    let bytes = arrives.bytes in
    let more = came_more first.side log bytes in
    let counted = ap length more ∙ length-append (sent_by (peer_of first.side) log) bytes in
    let received = ap (λ n. n + length bytes) (ap (λ (r : Reading). r.received) passed.reading) ∙ sym counted in
    subst (λ l. HasPassed (log ++ bytes_from (peer_of first.side) l) first heard) arrives.whole.spelled (record {
      logged = arrives.came.logged ∙ (λ i. passed.logged i ++ bytes_from (peer_of (passed.side i)) bytes);
      reading = arrives.read ∙ (λ i. record { received = received i; expected = None; taken = []; bad = None });
      told = arrives.came.told ∙ (λ i. appended (bytes_from (peer_of (passed.side i)) bytes) (passed.told i))
          ∙ appended_more log (bytes_from (peer_of first.side) bytes) first.told;
      came = passed.came ∙ ap (put_before (sent_by (peer_of first.side) log)) arrives.came.came
          ∙ before_more (sent_by (peer_of first.side) log) bytes heard.to_come
          ∙ ap (λ l. put_before l heard.to_come) (sym more);
      side = arrives.came.side ∙ passed.side;
      is_open = arrives.came.is_open ∙ passed.is_open;
      sends = arrives.came.sends ∙ passed.sends ∙ ap (λ (k : ℕ). counted_times k first.sends) (sym (answers_heard first.side log bytes));
      refused_sends = arrives.came.refused_sends ∙ passed.refused_sends;
      receives = omega (arith, arrives.receives, passed.receives, counted);
      faults = arrives.unfailed ∙ passed.faults;
    })

-- and frames that were sent
pub passed_sent : (log : List (Side × ℕ)) (first was now : LineState) (frames : List Frame) → AwaitsAnswer first.side log → HasPassed log first was
    → SendsAll frames was now → HasPassed (log ++ said first.side frames) first now
passed_sent log first was now frames awaits passed sent = answered (is_answered frames was now sent)
  where
    answered : IsAnswered frames was now → HasPassed (log ++ said first.side frames) first now
    answered by =
        let same = came_same first.side log (flat_map frame_spelling frames) in
        record {
          logged = by.logged ∙ (λ i. passed.logged i ++ said (passed.side i) frames);
          reading = by.others.reading ∙ passed.reading ∙ (λ i. record { received = length (sym same i); expected = None; taken = []; bad = None });
          told = by.told ∙ (λ i. appended (said (passed.side i) frames) (passed.told i)) ∙ appended_more log (said first.side frames) first.told;
          came = passed.came ∙ (λ i. put_before (sym same i) (sym by.others.to_come i));
          side = by.others.side ∙ passed.side;
          is_open = by.others.is_open ∙ passed.is_open;
          sends = answers_sent first.side log frames first.sends was.sends now.sends awaits passed.sends by.sends;
          refused_sends = by.refused_sends ∙ passed.refused_sends;
          receives = omega (arith, by.others.receives, passed.receives, ap length same);
          faults = by.unfailed ∙ passed.faults;
        }

-- ---- runs

-- the greeting is sent
pub runs_begin : {S F : Type 0} (moves : Moves S F) (greeting : List Frame) (old : S) (first now : LineState) → IsFresh first
    → SendsAll greeting first now → Runs moves greeting old old first now
runs_begin moves greeting old first now fresh sent = record {
  turns = [];
  went = refl;
  passed = subst (λ l. HasPassed l first now) (sym (append-nil (said first.side greeting)))
      (passed_sent [] first first now greeting (answers_first first.side) (none_passed first fresh) sent);
}

-- and a turn after others
pub runs_on : {S F : Type 0} (moves : Moves S F) (greeting : List Frame) (old mid new : S) (first was now : LineState)
    → Runs moves greeting old mid first was → TurnGoes moves mid new was now → Runs moves greeting old new first now
runs_on moves greeting old mid new first was now runs goes =
    let heard = passed_heard _ goes.room first was goes.heard goes.is.place goes.turn.frame runs.passed goes.arrives in
    record {
      turns = runs.turns ++ goes.turn ∷ [];
      went = goes_more moves old mid new runs.turns goes.turn runs.went goes.is;
      passed = subst (λ l. HasPassed l first now) (whole_more first.side greeting runs.turns goes.turn)
          (passed_sent _ first goes.heard now goes.turn.answer (awaits_answer first.side (whole_log first.side greeting runs.turns) goes.turn.frame) heard goes.sends);
    }

-- ---- how much came

-- a place that is short has no longer frames
longest_short : (place : Expect) → IsShortPlace place → longest place ≤ 2 ^ 28 + 5
longest_short places.Hello short = omega arith
longest_short places.Grant short = omega arith
longest_short places.Challenge short = omega arith
longest_short places.Verdict short = omega arith
longest_short places.Block short = omega arith
longest_short other short = short

frame_short : (place : Expect) (bytes : List ℕ) (frame : Frame) → IsShortPlace place → IsWhole place bytes frame → length bytes ≤ 2 ^ 28 + 5
frame_short place bytes frame short whole =
    omega (arith, whole_length place bytes frame whole, frame_most place bytes, longest_short place short)

-- a turn takes at most a frame's bytes
pub few_more : {S F : Type 0} (moves : Moves S F) (old new : S) (line now : LineState) (left fewer most : ℕ) → TurnGoes moves old new line now
    → fewer < left → line.reading.received + left * (2 ^ 28 + 5) ≤ most → now.reading.received + fewer * (2 ^ 28 + 5) ≤ most
few_more moves old new line now left fewer most goes less few =
    let answered = is_answered goes.turn.answer goes.heard now goes.sends in
    omega (
      arith,
      ap (λ (r : Reading). r.received) answered.others.reading,
      ap (λ (r : Reading). r.received) goes.arrives.read,
      frame_short goes.is.place goes.arrives.bytes goes.turn.frame goes.short goes.arrives.whole,
      less,
      few,
    )

-- none came before the greeting
pub few_first : (greeting : List Frame) (left : ℕ) (first now : LineState) → IsFresh first → SendsAll greeting first now
    → now.reading.received + left * (2 ^ 28 + 5) ≤ left * (2 ^ 28 + 5)
few_first greeting left first now fresh sent =
    let answered = is_answered greeting first now sent in
    omega (arith, ap (λ (r : Reading). r.received) answered.others.reading, ap (λ (r : Reading). r.received) fresh.reading)

-- ---- one turn over a line, from what its calls ensure

-- there was no room for a refusal, and nothing came
pub lacks_room : (place : Expect) (old new : LineState) → new ≡ old → Fails place NoMemory (record old { room = new.room }) new
lacks_room place old new same =
    let before = record old { room = new.room } in
    none_fails place before new
    (came_none before new (ap (λ (l : LineState). l.log) same) (ap (λ (l : LineState). l.told) same) (ap (λ (l : LineState). l.to_come) same)
    (ap (λ (l : LineState). l.side) same) (ap (λ (l : LineState). l.is_open) same) (ap (λ (l : LineState). l.sends) same)
    (ap (λ (l : LineState). l.refused_sends) same) refl)
    (ap (λ (l : LineState). l.receives) same) (ap (λ (l : LineState). l.faults) same)

module _ {S F : Type 0} (moves : Moves S F) (old new : S) (place : Expect) (frame : Frame) (room : ℕ) (line heard now : LineState)
    (expected : moves.expects old ≡ Some place) (arrives : Arrives place frame (record line { room = room }) heard) where
  pub turn_goes : (answer sent : List Frame) → IsShortPlace place → moves.answers old frame answer new → sent ≡ answer → SendsAll sent heard now
      → TurnGoes moves old new line now
  turn_goes answer sent short answered same sends = record {
    turn = record { frame = frame; answer = answer };
    is = record { place = place; expected = expected; allowed = arrives.whole.allowed; answered = answered };
    short = short;
    room = room;
    heard = heard;
    arrives = arrives;
    sends = subst (λ l. SendsAll l heard now) same sends;
  }

  pub turn_unsent : (answer sent : List Frame) (lack : Option ℕ) (fault : LineFault) → moves.answers old frame answer new → sent ≡ answer
      → lack ≡ moves.lack_code old → IsUnsent lack sent fault heard now → TurnStops moves old new (Cut fault) line now
  turn_unsent answer sent lack fault answered same code unsent = inl (record {
    turn = record { frame = frame; answer = answer };
    is = record { place = place; expected = expected; allowed = arrives.whole.allowed; answered = answered };
    room = room;
    heard = heard;
    arrives = arrives;
    unsent = subst (λ (q : Option ℕ × List Frame). IsUnsent q.0 q.1 fault heard now) (λ i. (code i, same i)) unsent;
  })

-- ---- what holds at first and is kept by each turn holds in the end

module _ {S F : Type 0} (moves : Moves S F) (P : S → List Turn → Type 0)
    (step : (s : S) (before : List Turn) (turn : Turn) (t : S) → P s before → IsTurn moves s turn t → P t (before ++ turn ∷ [])) where
  keeps_after : (old new : S) (before turns : List Turn) → P old before → Goes moves old turns new → P new (before ++ turns)
  keeps_after old new before [] holds went = subst (λ l. P new l) (sym (append-nil before)) (subst (λ s. P s before) (sym went) holds)
  keeps_after old new before (turn ∷ turns) holds went =
      subst (λ l. P new l) (append_assoc before (turn ∷ []) turns)
      (keeps_after went.0 new (before ++ turn ∷ []) turns (step old before turn went.0 holds went.1) went.2)

  pub goes_keeps : (old new : S) (turns : List Turn) → P old [] → Goes moves old turns new → P new turns
  goes_keeps old new turns holds went = keeps_after old new [] turns holds went
