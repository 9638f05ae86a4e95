-- From a run over a line to what it leaves.
use Rattle.std.proofs.Common.{◌≡◌, inl, inr, ℕ, ◌+◌, List, [], ◌∷◌, ◌++◌, flat_map, length, take, true, Option, Some, None, refl, ap, sym, ◌∙◌, subst, arith, append-nil, length-append, ◌≤◌}
use Rattle.std.proofs.lemmas.List.{take-map}
use Rattle.zk_model.specs.Transcript.{bytes_from, sent_by, refuse_frame}
use Rattle.zk_model.specs.Frames.{Frame, frame_spelling}
use Rattle.zk_model.specs.declared.Expect.{Expect}
use Rattle.zk_model.specs.declared.Side.{Side}
use Rattle.zk_port.specs.Counts.{counted, Rose}
use Rattle.zk_port.specs.Logs.{appended, put_before}
use Rattle.proof_frames.specs.Readings.{Reading}
use Rattle.frame_link.specs.Sides.{peer_of}
use Rattle.frame_link.specs.Lines.{LineState, LinkSnapshot, Fails, Breaks, OnlySends, Sends, IsSendRefused, IsSendCause, snapshot_of, counted_times}
use Rattle.frame_link.specs.declared.fault.LineFault.{LineFault}
use Rattle.frame_link.specs.declared.fault.LineFault.TheVariants.{PeerEnded, BadFrame, Link, NoMemory}
use Rattle.frame_link.proofs.LineLemmas.{appended_more, before_more, one_send_more}
use Rattle.session_driver.specs.Runs.{Turn, Moves, IsTurn, Goes, IsFresh, HasPassed, TriesRefusal, IsUnsent, Runs, RefusesFrame, LeavesUnsent, LacksFrame, TurnStops, seen_as, answers_in, whole_log}
use Rattle.session_driver.specs.Leaving.{GoesWell, IsLost, TriesCode, IsSendFault, IsLostBy, KeepsBack, IsShortBy, StopsShort, Halts, HasCome, PartyLeaves, IsRun}
use Rattle.session_driver.specs.declared.drive.Outcome.{Outcome}
use Rattle.session_driver.specs.declared.drive.Outcome.TheVariants.{Done, Refused, Cut}
use Rattle.session_driver.proofs.Going.{came_more, came_same, none_passed, passed_heard, AwaitsAnswer, answers_first, answers_heard, awaits_answer}

-- ---- what was sent

well : (log : List (Side × ℕ)) (first now : LineState) → HasPassed log first now → GoesWell first.side log (snapshot_of first) (snapshot_of now)
well log first now passed = record {
  sent = record { logged = passed.logged; told = passed.told; sends = passed.sends; refused_sends = passed.refused_sends };
  receives = passed.receives;
  faults = passed.faults;
}

-- bytes more
well_sent : (log : List (Side × ℕ)) (bytes : List ℕ) (first heard now : LineState) → AwaitsAnswer first.side log → 1 ≤ length bytes → HasPassed log first heard
    → Sends bytes heard now → GoesWell first.side (log ++ bytes_from first.side bytes) (snapshot_of first) (snapshot_of now)
well_sent log bytes first heard now awaits some passed sends = record {
  sent = record {
    logged = sends.logged ∙ (λ i. passed.logged i ++ bytes_from (passed.side i) bytes);
    told = sends.told ∙ (λ i. appended (bytes_from (passed.side i) bytes) (passed.told i)) ∙ appended_more log (bytes_from first.side bytes) first.told;
    sends = one_send_more (answers_in first.side log) first.sends now.sends (sends.sends ∙ ap (counted true) passed.sends)
        ∙ ap (λ (k : ℕ). counted_times k first.sends) (sym (awaits bytes some));
    refused_sends = sends.refused_sends ∙ passed.refused_sends;
  };
  receives = omega (arith, passed.receives, sends.others.receives, ap length (came_same first.side log bytes));
  faults = sends.unfailed ∙ passed.faults;
}

-- and bytes whose send was refused
lost : (log : List (Side × ℕ)) (bytes : List ℕ) (fault : LineFault) (first heard now : LineState) → HasPassed log first heard
    → IsSendRefused bytes fault heard now → IsLost first.side log bytes (snapshot_of first) (snapshot_of now)
lost log bytes fault first heard now passed refused =
    let part = bytes_from first.side (take refused.told.count bytes) in
    let of_side : take refused.told.count (bytes_from heard.side bytes) ≡ part =
    ap (λ s. take refused.told.count (bytes_from s bytes)) passed.side ∙ take-map (λ (byte : ℕ). (first.side, byte)) refused.told.count bytes in
    record {
      count = refused.told.count;
      logged = refused.logged ∙ passed.logged;
      told = refused.told.part ∙ (λ i. appended (of_side i) (passed.told i)) ∙ appended_more log part first.told;
      sends = one_send_more (answers_in first.side log) first.sends now.sends (refused.sends ∙ ap (counted true) passed.sends);
      refused_sends = refused.refused_sends ∙ ap (counted true) passed.refused_sends;
      receives = omega (arith, passed.receives, refused.others.receives);
      later = omega (arith, passed.faults, refused.count.later);
    }

fault_is : (fault : LineFault) (old now : LineState) → IsSendCause old now fault → IsSendFault fault
fault_is Link old now cause = tt
fault_is NoMemory old now cause = tt
fault_is other old now cause = absurd cause

lost_by : (log : List (Side × ℕ)) (bytes : List ℕ) (fault : LineFault) (first heard now : LineState) → HasPassed log first heard
    → IsSendRefused bytes fault heard now → IsLostBy fault first.side log bytes (snapshot_of first) (snapshot_of now)
lost_by log bytes fault first heard now passed refused = record {
  lost = lost log bytes fault first heard now passed refused;
  fault_is = fault_is fault heard now refused.cause;
  calls = record {
    later = omega (arith, passed.faults, refused.count.later);
    failed = λ is. subst (λ n. Rose n now.faults) passed.faults (subst (IsSendCause heard now) is refused.cause);
    unfailed = λ no. refused.count.unfailed no ∙ passed.faults;
  };
}

tries_code : (code : Option ℕ) (log : List (Side × ℕ)) (first heard now : LineState) → AwaitsAnswer first.side log → HasPassed log first heard
    → TriesRefusal code heard now → TriesCode first.side log code (snapshot_of first) (snapshot_of now)
tries_code None log first heard now awaits passed same = well log first now (subst (HasPassed log first) (sym same) passed)
tries_code (Some code) log first heard now awaits passed (inl sends) =
    inl (well_sent log (refuse_frame code) first heard now awaits (omega arith) passed sends)
tries_code (Some code) log first heard now awaits passed (inr fails) = inr (lost log (refuse_frame code) fails.0 first heard now passed fails.1)

keeps : (code : Option ℕ) (log : List (Side × ℕ)) (frames : List Frame) (fault : LineFault) (first heard now : LineState) → AwaitsAnswer first.side log
    → HasPassed log first heard → IsUnsent code frames fault heard now
    → KeepsBack code first.side log (flat_map frame_spelling frames) fault (snapshot_of first) (snapshot_of now)
keeps code log frames fault first heard now awaits passed unsent = elim unsent.unsent [
  | inl lacks ↦ inl (lacks.0, tries_code code log first heard now awaits passed lacks.1)
  | inr refused ↦ inr (lost_by log (flat_map frame_spelling frames) fault first heard now passed refused)
]

-- ---- what came

has_passed : (log : List (Side × ℕ)) (first now : LineState) → HasPassed log first now
    → HasCome (peer_of first.side) (snapshot_of first) (snapshot_of now)
has_passed log first now passed =
    let same = ap (sent_by (peer_of first.side)) passed.logged in
    record {
      came = passed.came ∙ ap (λ l. put_before l now.to_come) (sym same);
      receives = omega (arith, passed.receives, ap length same);
    }

-- after own bytes, and where nothing more was logged
has_sent : (first heard now : LineState) (bytes : List ℕ) → HasCome (peer_of first.side) (snapshot_of first) (snapshot_of heard)
    → heard.side ≡ first.side → OnlySends heard now → now.log ≡ heard.log ++ bytes_from heard.side bytes
    → HasCome (peer_of first.side) (snapshot_of first) (snapshot_of now)
has_sent first heard now bytes come side only logged =
    let own : sent_by (peer_of first.side) now.log ≡ sent_by (peer_of first.side) heard.log =
    ap (sent_by (peer_of first.side)) (logged ∙ ap (λ (s : Side). heard.log ++ bytes_from s bytes) side) ∙ came_same first.side heard.log bytes in
    record {
      came = come.came ∙ (λ i. put_before (sym own i) (sym only.to_come i));
      receives = omega (arith, come.receives, only.receives, ap length own);
    }

tried_come : (code : Option ℕ) (first heard now : LineState) → HasCome (peer_of first.side) (snapshot_of first) (snapshot_of heard)
    → heard.side ≡ first.side → TriesRefusal code heard now → HasCome (peer_of first.side) (snapshot_of first) (snapshot_of now)
tried_come None first heard now come side same =
    subst (λ (l : LineState). HasCome (peer_of first.side) (snapshot_of first) (snapshot_of l)) (sym same) come
tried_come (Some code) first heard now come side (inl sends) = has_sent first heard now (refuse_frame code) come side sends.others sends.logged
tried_come (Some code) first heard now come side (inr fails) =
    has_sent first heard now [] come side fails.1.others (fails.1.logged ∙ sym (append-nil heard.log))

kept_come : (code : Option ℕ) (frames : List Frame) (fault : LineFault) (first heard now : LineState)
    → HasCome (peer_of first.side) (snapshot_of first) (snapshot_of heard) → heard.side ≡ first.side → IsUnsent code frames fault heard now
    → HasCome (peer_of first.side) (snapshot_of first) (snapshot_of now)
kept_come code frames fault first heard now come side unsent = elim unsent.unsent [
  | inl lacks ↦ tried_come code first heard now come side lacks.1
  | inr refused ↦ has_sent first heard now [] come side refused.others (refused.logged ∙ sym (append-nil heard.log))
]

-- ---- where no frame came

short_by : (place : Expect) (fault : LineFault) (first was now : LineState) (log : List (Side × ℕ)) (bytes : List ℕ)
    → was.reading.received ≡ length (sent_by (peer_of first.side) log)
    → length (sent_by (peer_of first.side) now.log) ≡ length (sent_by (peer_of first.side) log) + length bytes
    → Breaks place bytes was now fault → IsShortBy (peer_of first.side) place bytes fault (snapshot_of now)
short_by place (PeerEnded at) first was now log bytes received all broken = (omega (arith, broken.0, received, all), broken.3, broken.4)
short_by place (BadFrame at) first was now log bytes received all broken = (broken.0, broken.1, omega (arith, broken.2, received, all))
short_by place Link first was now log bytes received all broken = tt
short_by place NoMemory first was now log bytes received all broken = tt

-- bytes of one came, whatever the room in the log
module _ (log : List (Side × ℕ)) (room : ℕ) (place : Expect) (fault : LineFault) (first was now : LineState) (passed : HasPassed log first was)
    (fails : Fails place fault (record was { room = room }) now) where
  logged : now.log ≡ log ++ bytes_from (peer_of first.side) fails.bytes
  logged = fails.came.logged ∙ (λ i. passed.logged i ++ bytes_from (peer_of (passed.side i)) fails.bytes)

  came : sent_by (peer_of first.side) now.log ≡ sent_by (peer_of first.side) log ++ fails.bytes
  came = ap (sent_by (peer_of first.side)) logged ∙ came_more first.side log fails.bytes

  counted_bytes : length (sent_by (peer_of first.side) now.log) ≡ length (sent_by (peer_of first.side) log) + length fails.bytes
  counted_bytes = ap length came ∙ length-append (sent_by (peer_of first.side) log) fails.bytes

  short : StopsShort first.side (log ++ bytes_from (peer_of first.side) fails.bytes) place fails.bytes fault (snapshot_of first) (snapshot_of now)
  short = record {
    part = fails.part;
    cause = short_by place fault first (record was { room = room }) now log fails.bytes (ap (λ (r : Reading). r.received) passed.reading) counted_bytes fails.broken;
    sent = record {
      logged = logged;
      told = fails.came.told ∙ (λ i. appended (bytes_from (peer_of (passed.side i)) fails.bytes) (passed.told i))
          ∙ appended_more log (bytes_from (peer_of first.side) fails.bytes) first.told;
      sends = fails.came.sends ∙ passed.sends ∙ ap (λ (k : ℕ). counted_times k first.sends) (sym (answers_heard first.side log fails.bytes));
      refused_sends = fails.came.refused_sends ∙ passed.refused_sends;
    };
    calls = record {
      later = omega (arith, fails.count.later, passed.faults);
      failed = λ is. subst (λ n. Rose n now.faults) passed.faults (subst (Breaks place fails.bytes (record was { room = room }) now) is fails.broken);
      unfailed = λ no. fails.count.unfailed no ∙ passed.faults;
    };
  }

  short_come : HasCome (peer_of first.side) (snapshot_of first) (snapshot_of now)
  short_come = record {
    came = passed.came ∙ ap (put_before (sent_by (peer_of first.side) log)) fails.came.came
        ∙ before_more (sent_by (peer_of first.side) log) fails.bytes now.to_come
        ∙ ap (λ l. put_before l now.to_come) (sym came);
    receives = omega (arith, fails.receives, passed.receives, counted_bytes);
  }

-- ---- the line stays open, and this side's

record StaysOpen (old new : LineState) : Type 0 where
  side : new.side ≡ old.side
  is_open : new.is_open ≡ old.is_open

tried_open : (code : Option ℕ) (old new : LineState) → TriesRefusal code old new → StaysOpen old new
tried_open None old new same = record { side = ap (λ (l : LineState). l.side) same; is_open = ap (λ (l : LineState). l.is_open) same }
tried_open (Some code) old new (inl sends) = record { side = sends.others.side; is_open = sends.others.is_open }
tried_open (Some code) old new (inr fails) = record { side = fails.1.others.side; is_open = fails.1.others.is_open }

unsent_open : (code : Option ℕ) (frames : List Frame) (fault : LineFault) (old new : LineState) → IsUnsent code frames fault old new
    → StaysOpen old new
unsent_open code frames fault old new fails = elim fails.unsent [
  | inl lacks ↦ tried_open code old new lacks.1
  | inr refused ↦ record { side = refused.others.side; is_open = refused.others.is_open }
]

-- ---- all together

module _ {S F : Type 0} (moves : Moves S F) (greeting : List Frame) (old : S) (first : LineState) where
  pub run_over : (new : S) (now : LineState) → Runs moves greeting old new first now → moves.expects new ≡ None
      → IsRun moves greeting old new Done first now
  run_over new now runs none = record {
    leaves = record {
      turns = runs.turns;
      mid = new;
      went = runs.went;
      halts = record { same = refl; expected = none; well = well _ first now runs.passed };
      come = has_passed _ first now runs.passed;
    };
    side = runs.passed.side;
    is_open = runs.passed.is_open;
  }

  pub run_ungreeted : (new : S) (fault : LineFault) (now : LineState) → IsFresh first → new ≡ old → IsUnsent None greeting fault first now
      → IsRun moves greeting old new (Cut fault) first now
  run_ungreeted new fault now fresh same unsent =
      let open_still = unsent_open None greeting fault first now unsent in
      let passed = none_passed first fresh in
      record {
        leaves = record {
          turns = [];
          mid = old;
          went = refl;
          halts = inr (inr (record { none = refl; same = same; some = unsent.at_least_one; kept = keeps None [] greeting fault first first now (answers_first first.side) passed unsent }));
          come = kept_come None greeting fault first first now (has_passed [] first first passed) refl unsent;
        };
        side = open_still.side;
        is_open = open_still.is_open ∙ fresh.is_open;
      }

  run_refused : (mid new : S) (fault : F) (was now : LineState) → Runs moves greeting old mid first was → RefusesFrame moves mid new fault was now
      → IsRun moves greeting old new (Refused fault) first now
  run_refused mid new fault was now runs refuses =
      let heard = passed_heard _ refuses.room first was refuses.heard refuses.place refuses.frame runs.passed refuses.arrives in
      let open_still = tried_open refuses.code refuses.heard now refuses.tried in
      record {
        leaves = record {
          turns = runs.turns;
          mid = mid;
          went = runs.went;
          halts = record {
            place = refuses.place;
            expected = refuses.expected;
            frame = refuses.frame;
            allowed = refuses.arrives.whole.allowed;
            code = refuses.code;
            refused = refuses.refused;
            tried = tries_code refuses.code _ first refuses.heard now (awaits_answer first.side (whole_log first.side greeting runs.turns) refuses.frame) heard refuses.tried;
          };
          come = tried_come refuses.code first refuses.heard now (has_passed _ first refuses.heard heard) heard.side refuses.tried;
        };
        side = open_still.side ∙ heard.side;
        is_open = open_still.is_open ∙ heard.is_open;
      }

  run_unsent : (mid new : S) (fault : LineFault) (was now : LineState) → Runs moves greeting old mid first was → LeavesUnsent moves mid new fault was now
      → IsRun moves greeting old new (Cut fault) first now
  run_unsent mid new fault was now runs leaves =
      let heard = passed_heard _ leaves.room first was leaves.heard leaves.is.place leaves.turn.frame runs.passed leaves.arrives in
      let open_still = unsent_open _ leaves.turn.answer fault leaves.heard now leaves.unsent in
      record {
        leaves = record {
          turns = runs.turns;
          mid = mid;
          went = runs.went;
          halts = inr (inl (record {
            turn = leaves.turn;
            is = leaves.is;
            some = leaves.unsent.at_least_one;
            kept = keeps (moves.lack_code mid) _ leaves.turn.answer fault first leaves.heard now
                (awaits_answer first.side (whole_log first.side greeting runs.turns) leaves.turn.frame) heard leaves.unsent;
          }));
          come = kept_come _ leaves.turn.answer fault first leaves.heard now (has_passed _ first leaves.heard heard) heard.side leaves.unsent;
        };
        side = open_still.side ∙ heard.side;
        is_open = open_still.is_open ∙ heard.is_open;
      }

  run_lacking : (mid new : S) (fault : LineFault) (was now : LineState) → Runs moves greeting old mid first was → LacksFrame moves mid new fault was now
      → IsRun moves greeting old new (Cut fault) first now
  run_lacking mid new fault was now runs lacking = record {
    leaves = record {
      turns = runs.turns;
      mid = mid;
      went = runs.went;
      halts = inl (record {
        same = lacking.same;
        place = lacking.place;
        expected = lacking.expected;
        rest = lacking.fails.bytes;
        short = short _ lacking.room lacking.place fault first was now runs.passed lacking.fails;
      });
      come = short_come _ lacking.room lacking.place fault first was now runs.passed lacking.fails;
    };
    side = lacking.fails.came.side ∙ runs.passed.side;
    is_open = lacking.fails.came.is_open ∙ runs.passed.is_open;
  }

  -- after turns that passed, one that stops
  pub run_stops : (mid new : S) (outcome : Outcome F) (was now : LineState) → Runs moves greeting old mid first was
      → TurnStops moves mid new outcome was now → IsRun moves greeting old new outcome first now
  run_stops mid new Done was now runs stops = absurd stops
  run_stops mid new (Refused fault) was now runs stops = run_refused mid new fault was now runs stops
  run_stops mid new (Cut fault) was now runs (inl leaves) = run_unsent mid new fault was now runs leaves
  run_stops mid new (Cut fault) was now runs (inr lacking) = run_lacking mid new fault was now runs lacking

-- ---- what a run of states leaves that are seen as others

module _ {S T F : Type 0} (view : S → T) (moves : Moves T F) where
  turn_seen : (old : S) (turn : Turn) (new : S) → IsTurn (seen_as view moves) old turn new → IsTurn moves (view old) turn (view new)
  turn_seen old turn new is = record { place = is.place; expected = is.expected; allowed = is.allowed; answered = is.answered }

  goes_seen : (old : S) (turns : List Turn) (new : S) → Goes (seen_as view moves) old turns new → Goes moves (view old) turns (view new)
  goes_seen old [] new went = ap view went
  goes_seen old (turn ∷ turns) new went = (view went.0, turn_seen old turn went.0 went.1, goes_seen went.0 turns new went.2)

  halts_seen : (greeting : List Frame) (side : Side) (turns : List Turn) (mid new : S) (outcome : Outcome F) (first now : LinkSnapshot)
      → Halts (seen_as view moves) greeting side turns mid new outcome first now → Halts moves greeting side turns (view mid) (view new) outcome first now
  halts_seen greeting side turns mid new Done first now stop = record { same = ap view stop.same; expected = stop.expected; well = stop.well }
  halts_seen greeting side turns mid new (Refused fault) first now stop = record {
    place = stop.place;
    expected = stop.expected;
    frame = stop.frame;
    allowed = stop.allowed;
    code = stop.code;
    refused = stop.refused;
    tried = stop.tried;
  }
  halts_seen greeting side turns mid new (Cut fault) first now (inl stop) =
      inl (record { same = ap view stop.same; place = stop.place; expected = stop.expected; rest = stop.rest; short = stop.short })
  halts_seen greeting side turns mid new (Cut fault) first now (inr (inl stop)) =
      inr (inl (record { turn = stop.turn; is = turn_seen mid stop.turn new stop.is; some = stop.some; kept = stop.kept }))
  halts_seen greeting side turns mid new (Cut fault) first now (inr (inr stop)) =
      inr (inr (record { none = stop.none; same = ap view stop.same; some = stop.some; kept = stop.kept }))

  pub run_leaves : (greeting : List Frame) (side : Side) (old new : S) (outcome : Outcome F) (first now : LineState) → first.side ≡ side
      → IsRun (seen_as view moves) greeting old new outcome first now
      → PartyLeaves moves greeting side (view old) (view new) outcome (snapshot_of first) (snapshot_of now)
  run_leaves greeting side old new outcome first now same run =
      let left = run.leaves in
      subst (λ s. PartyLeaves moves greeting s (view old) (view new) outcome (snapshot_of first) (snapshot_of now)) same (record {
        turns = left.turns;
        mid = view left.mid;
        went = goes_seen old left.turns left.mid left.went;
        halts = halts_seen greeting first.side left.turns left.mid new outcome (snapshot_of first) (snapshot_of now) left.halts;
        come = left.come;
      })
