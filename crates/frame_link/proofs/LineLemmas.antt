-- What a receive that brings nothing, or a bad byte, makes of a line.
use Rattle.std.proofs.Common.{◌≡◌, ◌⊎◌, ℕ, ◌+◌, ◌≤◌, ◌<◌, List, [], ◌∷◌, ◌++◌, length, take, Option, Some, None, Bool, true, refl, ap, sym, ◌∙◌, subst, arith, append-nil, append_assoc, Result, Ok, Err, IfErr, OnOk, inl, inr, false, if◌then◌else◌, nat_eq, length-append, flat_map, add-one, drop}
use Rattle.std.specs.Result.{IsErrAnd}
use Rattle.std.proofs.lemmas.List.{take_all, map-append, take-map, take-append-le, take-append-drop}
use Rattle.std.proofs.lemmas.Option.{none-some, same_Some}
use Rattle.zk_model.specs.Frames.{CanGoOn, IsFirstBad, IsWhole, frame_length, bytes_wanted, Frame, frame_spelling, Allows}
use Rattle.proof_frames.proofs.Begun.{begins_can, nothing_begins}
use Rattle.proof_frames.proofs.Lengths.{told_within, whole_length}
use Rattle.proof_frames.specs.Readings.{Reading, IsIdle, wanted, Refuses, Takes}
use Rattle.proof_frames.specs.declared.decoder.BadFrame.{BadFrame}
use Rattle.frame_link.specs.declared.fault.LineFault.{LineFault}
use Rattle.frame_link.specs.declared.fault.LineFault.TheVariants as fault
use Rattle.zk_model.specs.Transcript.{bytes_from}
use Rattle.zk_model.specs.declared.Expect.{Expect}
use Rattle.zk_model.specs.declared.Expect.TheVariants as expect
use Rattle.zk_model.specs.declared.limits.TheConstants.{LONG_HELLO_LENGTH}
use Rattle.zk_model.specs.declared.Side.{Side}
use Rattle.zk_port.specs.Counts.{Rose, counted}
use Rattle.zk_port.specs.Logs.{appended, put_before, bytes_of, ended_after}
use Rattle.zk_port.specs.declared.fault.PortFault.{PortFault}
use Rattle.zk_port.specs.declared.fault.PortFault.TheVariants as port
use Rattle.frame_link.specs.Sides.{peer_of, side_of, seen_by}
use Rattle.frame_link.specs.Lines.{LineState, Came, Breaks, PieceComes, PiecesBegin, Fails, PieceFails, CountsFault, IsPartOnly, port_fault, IsWithinFrame, Sends, OnlySends, counted_times, line_state, IsSendRefused, IsSendCause, RefusesReceive}
use Rattle.frame_link.specs.declared.fault.LineFault.TheVariants.{Link, NoMemory}
use Rattle.std.specs.Option.{option_map}
use Rattle.std.specs.Prelude.{◌↔◌, ◌||◌, ◌&&◌, ◌==◌, nat_lt, IfSome}
use Rattle.std.proofs.lemmas.Bool.{lt-ltb}
use Rattle.std.proofs.Math.Bool.{or-true}
use Rattle.zk_port.specs.Links.{LinkState, after_send, SendsPart, Receives}
use Rattle.zk_port.specs.declared.way.Way.{Way}
use Rattle.zk_port.specs.declared.way.Way.TheVariants.{Sent, Received}

pub appended_none : {T : Type 0} (told : Option (List T)) → told ≡ appended [] told
appended_none None = refl
appended_none (Some told) = ap Some (sym (append-nil told))

pub before_none : {T : Type 0} (told : Option (List T)) → told ≡ put_before [] told
before_none None = refl
before_none (Some told) = refl

-- nothing came
pub came_none : (old new : LineState) → new.log ≡ old.log → new.told ≡ old.told → new.to_come ≡ old.to_come → new.side ≡ old.side
    → new.is_open ≡ old.is_open → new.sends ≡ old.sends → new.refused_sends ≡ old.refused_sends → new.room ≡ old.room → Came [] old new
came_none old new log told to_come side is_open sends refused room = record {
  logged = log ∙ sym (append-nil old.log);
  told = told ∙ appended_none old.told;
  came = sym to_come ∙ before_none new.to_come;
  side = side;
  is_open = is_open;
  sends = sends;
  refused_sends = refused;
  room = room;
}

breaks_by : (place : Expect) (bytes : List ℕ) (old new : LineState) (fault : PortFault)
    → (fault ≡ port.Failed → Rose old.faults new.faults) → Breaks place bytes old new (port_fault fault)
breaks_by place bytes old new port.Failed rose = rose refl
breaks_by place bytes old new port.NoMemory rose = tt

pub counts_by : (old new : LineState) (fault : PortFault) → old.faults ≤ new.faults → (fault ≡ port.NoMemory → new.faults ≡ old.faults)
    → CountsFault (port_fault fault) old new
counts_by old new port.Failed later same = record { later = later; unfailed = λ no. absurd no }
counts_by old new port.NoMemory later same = record { later = later; unfailed = λ _. same refl }

-- ---- how much of a frame is taken

-- the length of the longest frame of a place
abbrev pub longest : Expect → ℕ
longest expect.Hello = LONG_HELLO_LENGTH
longest expect.Grant = 21
longest expect.Verdict = 10
longest expect.Block = 29
longest place = frame_length place []

-- no frame is longer than the longest
pub frame_most : (place : Expect) (bytes : List ℕ) → frame_length place bytes ≤ longest place
frame_most expect.Hello [] = omega arith
frame_most expect.Hello (first ∷ []) = omega arith
frame_most expect.Hello (first ∷ low ∷ bytes) = either (nat_eq low 129)
  where
    either : (b : Bool) → (if b then 134 else 102) ≤ 134
    either true = omega arith
    either false = omega arith
frame_most expect.Grant [] = omega arith
frame_most expect.Grant (first ∷ bytes) = either (nat_eq first 10)
  where
    either : (b : Bool) → (if b then 6 else 21) ≤ 21
    either true = omega arith
    either false = omega arith
frame_most expect.Block [] = omega arith
frame_most expect.Block (first ∷ bytes) = either (nat_eq first 13)
  where
    either : (b : Bool) → (if b then 25 else 29) ≤ 29
    either true = omega arith
    either false = omega arith
frame_most place bytes = omega arith

-- so no more than that is taken
pub within_longest : (place : Expect) (bytes : List ℕ) → IsWithinFrame place bytes → length bytes ≤ longest place
within_longest place bytes within = omega (arith, within.most, frame_most place (take within.count bytes))

-- bytes that begin a frame, as many as it has at most
pub begun_within : (place : Expect) (bytes : List ℕ) → CanGoOn place bytes → length bytes ≤ frame_length place bytes → IsWithinFrame place bytes
begun_within place bytes goes few =
    let all : take (length bytes) bytes ≡ bytes = take_all (length bytes) bytes (omega arith) in
    record {
      count = length bytes;
      goes_on = subst (CanGoOn place) (sym all) goes;
      most = subst (λ (l : List ℕ). length bytes ≤ frame_length place l) (sym all) few;
    }

-- a whole frame
pub whole_within : (place : Expect) (bytes : List ℕ) (frame : Frame) → IsWhole place bytes frame → IsWithinFrame place bytes
whole_within place bytes frame whole =
    begun_within place bytes (record { frame = frame; allowed = whole.allowed; begun = ([], sym whole.spelled ∙ sym (append-nil bytes)) })
    (omega (arith, whole_length place bytes frame whole))

-- and as many bytes more as are wanted
pub more_within : (place : Expect) (taken piece : List ℕ) → CanGoOn place taken → length piece ≤ bytes_wanted place taken
    → length taken ≤ frame_length place taken → IsWithinFrame place (taken ++ piece)
more_within place taken piece goes few within =
    let front : take (length taken) (taken ++ piece) ≡ taken =
    take-append-le (length taken) taken piece (omega arith) ∙ take_all (length taken) taken (omega arith) in
    record {
      count = length taken;
      goes_on = subst (CanGoOn place) (sym front) goes;
      most = subst (λ (l : List ℕ). length (taken ++ piece) ≤ frame_length place l) (sym front)
          (omega (arith, length-append taken piece, few, within));
    }

-- a receive was refused
pub unreceived : (place : Expect) (old new : LineState) (fault : PortFault) → Came [] old new → CanGoOn place old.reading.taken
    → length old.reading.taken < frame_length place old.reading.taken
    → new.receives ≤ old.receives + 1 → old.faults ≤ new.faults
    → (fault ≡ port.Failed → Rose old.faults new.faults) → (fault ≡ port.NoMemory → new.faults ≡ old.faults)
    → PieceFails place (port_fault fault) old new
unreceived place old new fault came goes wanting receives later rose same =
    let few = begun_within place old.reading.taken goes (omega arith) in
    let none : old.reading.taken ≡ old.reading.taken ++ [] = sym (append-nil old.reading.taken) in
    record {
      bytes = [];
      part = subst (IsPartOnly place (port_fault fault)) none
          (record { few = few; unfinished = inl wanting; cut = λ _. record { goes_on = goes; short = wanting } });
      came = came;
      broken = subst (λ (l : List ℕ). Breaks place l old new (port_fault fault)) none (breaks_by place old.reading.taken old new fault rose);
      receives = receives;
      count = counts_by old new fault later same;
    }

-- bytes with which a frame of the place begins are no reason to stop
pub front_goes_on : (place : Expect) (frame : Frame) (rest more tail : List ℕ) (n : ℕ) → Allows place frame
    → length rest ≤ length (frame_spelling frame) → rest ++ more ≡ frame_spelling frame ++ tail → n ≤ length rest → CanGoOn place (take n rest)
front_goes_on place frame rest more tail n allowed few is within =
    let front : take n (frame_spelling frame) ≡ take n rest =
    sym (take-append-le n (frame_spelling frame) tail (omega (arith, within, few))) ∙ ap (take n) (sym is) ∙ take-append-le n rest more within in
    record {
      frame = frame;
      allowed = allowed;
      begun = (drop n (frame_spelling frame), sym (take-append-drop n (frame_spelling frame)) ∙ ap (λ l. l ++ drop n (frame_spelling frame)) front);
    }

-- a fault that is known
pub fails_at : {T E : Type 0} (P : E → Type 0) (result : Result T E) (fault : E) → IsErrAnd result (λ e. e ≡ fault) → P fault → IfErr result P
fails_at P (Ok value) fault known holds = tt
fails_at P (Err e) fault known holds = subst P (sym known) holds

pub fails_as : {T E : Type 0} (P : E → Type 0) (result : Result T E) (fault : E) → result ≡ Err fault → P fault → IfErr result P
fails_as P result fault is holds = subst (λ r. IfErr r P) (sym is) holds

pub fails_not : {T E : Type 0} (P : E → Type 0) (result : Result T E) (value : T) → result ≡ Ok value → IfErr result P
fails_not P result value is = subst (λ r. IfErr r P) (sym is) tt

pub done_as : {T E : Type 0} (P : Type 0) (result : Result T E) (value : T) → result ≡ Ok value → P → OnOk result P
done_as P result value is holds = subst (λ r. OnOk r P) (sym is) holds

pub done_not : {T E : Type 0} (P : Type 0) (result : Result T E) (fault : E) → result ≡ Err fault → OnOk result P
done_not P result fault is = subst (λ r. OnOk r P) (sym is) tt

pub none_is_some : {T : Type 0} {value : T} → None ≡ Some value → ⊥
none_is_some same = none-some _ same

-- a byte was bad
pub fed_badly : (place : Expect) (old new : LineState) (piece : List ℕ) (bad : BadFrame) → Came piece old new
    → old.reading.bad ≡ None → old.reading.expected ≡ Some place
    → length piece ≤ bytes_wanted place old.reading.taken → length old.reading.taken ≤ frame_length place old.reading.taken
    → CanGoOn place old.reading.taken → Refuses old.reading piece bad new.reading
    → new.receives ≤ old.receives + 1 → new.faults ≡ old.faults
    → PieceFails place (fault.BadFrame bad.place) old new
fed_badly place old new piece bad came fine expected few within goes (inl again) receives unfailed = absurd (none_is_some (sym fine ∙ again.0))
fed_badly place old new piece bad came fine expected few within goes (inr turns) receives unfailed =
    let there : turns.place ≡ place = same_Some turns.place place (sym turns.expected ∙ expected) in
    let all : take (bytes_wanted turns.place old.reading.taken) piece ≡ piece =
    ap (λ p. take (bytes_wanted p old.reading.taken) piece) there ∙ take_all (bytes_wanted place old.reading.taken) piece few in
    let first : IsFirstBad place (old.reading.taken ++ piece) turns.n =
    subst (λ (q : Expect × List ℕ). IsFirstBad q.0 (old.reading.taken ++ q.1) turns.n) (λ i. (there i, all i)) turns.first in
    record {
      bytes = piece;
      part = record {
        few = more_within place old.reading.taken piece goes few within;
        unfinished = inr (turns.n, first);
        cut = λ bad. absurd bad;
      };
      came = came;
      broken = (turns.n, first, turns.at);
      receives = receives;
      count = record { later = omega (arith, unfailed); unfailed = λ _. unfailed };
    }

-- what a decoder wants that is fine and expects a frame
pub wanted_is : (reading : Reading) (place : Expect) → reading.bad ≡ None → reading.expected ≡ Some place → wanted reading ≡ bytes_wanted place reading.taken
wanted_is reading place fine expected i = wanted (record { received = reading.received; expected = expected i; taken = reading.taken; bad = fine i })

-- bytes of a frame came
pub comes_by : (place : Expect) (old new : LineState) (piece : List ℕ) (count : ℕ) → Came piece old new → 1 ≤ length piece
    → old.reading.expected ≡ Some place → length piece ≤ wanted old.reading → Takes old.reading piece count new.reading
    → new.receives ≤ old.receives + 1 → new.faults ≡ old.faults → PieceComes place old new
comes_by place old new piece count came some expected few takes receives unfailed = record {
  bytes = piece;
  some = some;
  came = came;
  read = takes.becomes ∙ ap (λ l. record old.reading { taken = old.reading.taken ++ l }) (take_all count piece (omega (arith, takes.counted)));
  goes_on = takes.goes_on place expected;
  receives = receives;
  unfailed = unfailed;
}

pub appended_more : {T : Type 0} (a b : List T) (told : Option (List T)) → appended b (appended a told) ≡ appended (a ++ b) told
appended_more a b None = refl
appended_more a b (Some told) = ap Some (append_assoc told a b)

pub before_more : (a b : List ℕ) (told : Option (List ℕ)) → put_before a (put_before b told) ≡ put_before (a ++ b) told
before_more a b None = refl
before_more a b (Some told) = ap Some (sym (append_assoc a b told))

-- bytes after bytes
pub came_more : (a b : List ℕ) (old mid new : LineState) → Came a old mid → Came b mid new → Came (a ++ b) old new
came_more a b old mid new first second =
    let side : Side → List ℕ → List (Side × ℕ) = λ s l. bytes_from (peer_of s) l in
    let both : side old.side a ++ side old.side b ≡ side old.side (a ++ b) = sym (map-append (λ (byte : ℕ). (peer_of old.side, byte)) a b) in
    record {
      logged = second.logged ∙ (λ i. first.logged i ++ side (first.side i) b) ∙ append_assoc old.log (side old.side a) (side old.side b) ∙ ap (λ l. old.log ++ l) both;
      told = second.told ∙ (λ i. appended (side (first.side i) b) (first.told i)) ∙ appended_more (side old.side a) (side old.side b) old.told ∙ ap (λ l. appended l old.told) both;
      came = first.came ∙ ap (put_before a) second.came ∙ before_more a b new.to_come;
      side = second.side ∙ first.side;
      is_open = second.is_open ∙ first.is_open;
      sends = second.sends ∙ first.sends;
      refused_sends = second.refused_sends ∙ first.refused_sends;
      room = second.room ∙ first.room;
    }

breaks_from : (place : Expect) (bytes : List ℕ) (old mid new : LineState) (f : LineFault) → mid.reading.received ≡ old.reading.received
    → mid.faults ≡ old.faults → Breaks place bytes mid new f → Breaks place bytes old new f
breaks_from place bytes old mid new (fault.PeerEnded at) received faults broken =
    (broken.0 ∙ ap (λ n. n + length bytes) received, broken.1, broken.2, broken.3, broken.4)
breaks_from place bytes old mid new (fault.BadFrame at) received faults broken =
    (broken.0, broken.1, broken.2 ∙ ap (λ n. n + broken.0) received)
breaks_from place bytes old mid new fault.Link received faults broken = subst (λ n. Rose n new.faults) faults broken
breaks_from place bytes old mid new fault.NoMemory received faults broken = tt

-- a piece fails after others
pub fails_more : (place : Expect) (old mid new : LineState) (f : LineFault) → PiecesBegin place old mid → PieceFails place f mid new → Fails place f old new
fails_more place old mid new f begun fails = record {
  bytes = mid.reading.taken ++ fails.bytes;
  part = fails.part;
  came = came_more mid.reading.taken fails.bytes old mid new begun.came fails.came;
  broken = breaks_from place (mid.reading.taken ++ fails.bytes) old mid new f (ap (λ (r : Reading). r.received) begun.read) begun.unfailed fails.broken;
  receives = omega (arith, begun.receives, fails.receives, length-append mid.reading.taken fails.bytes);
  count = record {
    later = omega (arith, begun.unfailed, fails.count.later);
    unfailed = λ no. fails.count.unfailed no ∙ begun.unfailed;
  };
}

-- a line on which a frame is expected fails as the line did before
pub fails_since : (place : Expect) (old : LineState) (reading : Reading) (new : LineState) (f : LineFault) → reading.received ≡ old.reading.received
    → Fails place f (record old { reading = reading }) new → Fails place f old new
fails_since place old reading new f received fails =
    let mid : LineState = record old { reading = reading } in
    record {
      bytes = fails.bytes;
      part = fails.part;
      came = came_more [] fails.bytes old mid new (came_none old mid refl refl refl refl refl refl refl refl) fails.came;
      broken = breaks_from place fails.bytes old mid new f received refl fails.broken;
      receives = fails.receives;
      count = record { later = fails.count.later; unfailed = fails.count.unfailed };
    }

-- nothing passed for want of memory
pub none_fails : (place : Expect) (old new : LineState) → Came [] old new → new.receives ≡ old.receives → new.faults ≡ old.faults
    → Fails place fault.NoMemory old new
none_fails place old new came receives faults = record {
  bytes = [];
  part = record {
    few = begun_within place [] (begins_can place [] (nothing_begins place)) (omega arith);
    unfinished = inl (omega (arith, told_within place []));
    cut = λ _. record { goes_on = begins_can place [] (nothing_begins place); short = omega (arith, told_within place []) };
  };
  came = came;
  broken = tt;
  receives = omega (arith, receives);
  count = record { later = omega (arith, faults); unfailed = λ _. faults };
}

-- where no byte is wanted of a frame that is expected, it is whole
pub is_done : (reading : Reading) (place : Expect) → reading.bad ≡ None → reading.expected ≡ Some place → wanted reading ≡ 0
    → IsIdle reading ⊎ (0 < wanted reading) → ⊥
is_done reading place fine expected none (inl (inl idle)) = none_is_some (sym idle ∙ expected)
is_done reading place fine expected none (inl (inr bad)) = bad fine
is_done reading place fine expected none (inr some) = absurd (omega (arith, none, some))

-- ---- what an answer makes of a line, and one send more

-- one send more
pub one_send_more : (n before now : ℕ) → now ≡ counted true (counted_times n before) → now ≡ counted_times (n + 1) before
one_send_more n before now is = is ∙ ap (λ (k : ℕ). counted_times k before) (sym (add-one n))

-- a line after an answer, whether it has frames or none
pub record IsAnswered (answer : List Frame) (old new : LineState) : Type 0 where
  pub logged : new.log ≡ old.log ++ bytes_from old.side (flat_map frame_spelling answer)
  pub told : new.told ≡ appended (bytes_from old.side (flat_map frame_spelling answer)) old.told
  pub sends : ((answer ≡ []) × (new.sends ≡ old.sends)) ⊎ ((1 ≤ length answer) × (new.sends ≡ counted true old.sends))
  pub refused_sends : new.refused_sends ≡ old.refused_sends
  pub others : OnlySends old new
  pub unfailed : new.faults ≡ old.faults

nothing_sent : (old new : LineState) → new ≡ old → IsAnswered [] old new
nothing_sent old new same = record {
  logged = ap (λ (l : LineState). l.log) same ∙ sym (append-nil old.log);
  told = ap (λ (l : LineState). l.told) same ∙ appended_none old.told;
  sends = inl (refl, ap (λ (l : LineState). l.sends) same);
  refused_sends = ap (λ (l : LineState). l.refused_sends) same;
  others = record {
    side = ap (λ (l : LineState). l.side) same;
    reading = ap (λ (l : LineState). l.reading) same;
    to_come = ap (λ (l : LineState). l.to_come) same;
    ended = ap (λ (l : LineState). l.ended) same;
    is_open = ap (λ (l : LineState). l.is_open) same;
    receives = ap (λ (l : LineState). l.receives) same;
  };
  unfailed = ap (λ (l : LineState). l.faults) same;
}

pub is_answered : (answer : List Frame) (old new : LineState)
    → ((answer ≡ []) × (new ≡ old)) ⊎ ((1 ≤ length answer) × Sends (flat_map frame_spelling answer) old new)
    → IsAnswered answer old new
is_answered answer old new (inl none) = subst (λ a. IsAnswered a old new) (sym none.0) (nothing_sent old new none.1)
is_answered answer old new (inr some) = record {
  logged = some.1.logged;
  told = some.1.told;
  sends = inr (some.0, some.1.sends);
  refused_sends = some.1.refused_sends;
  others = some.1.others;
  unfailed = some.1.unfailed;
}

-- ---- what a link tells, seen from one side

seen-bytes_of : (mine : Side) (way : Way) (bytes : List ℕ) → seen_by mine (bytes_of way bytes) ≡ bytes_from (side_of mine way) bytes
seen-bytes_of mine way [] = refl
seen-bytes_of mine way (b ∷ bytes) = ap (λ l. (side_of mine way, b) ∷ l) (seen-bytes_of mine way bytes)

-- bytes that went one way, after a log
pub seen-appended : (mine : Side) (way : Way) (bytes : List ℕ) (told : Option (List (Way × ℕ)))
    → option_map (seen_by mine) (appended (bytes_of way bytes) told) ≡ appended (bytes_from (side_of mine way) bytes) (option_map (seen_by mine) told)
seen-appended mine way bytes None = refl
seen-appended mine way bytes (Some before) =
    ap Some (map-append (λ (e : Way × ℕ). (side_of mine e.0, e.1)) before (bytes_of way bytes) ∙ ap (λ l. seen_by mine before ++ l) (seen-bytes_of mine way bytes))

-- a receive
pub came_by : (side : Side) (log : List (Side × ℕ)) (was reading : Reading) (room size n : ℕ) (piece : List ℕ) (old new : LinkState) → Receives size n piece old new
    → Came piece (line_state side log was room old) (line_state side (log ++ bytes_from (peer_of side) piece) reading room new)
came_by side log was reading room size n piece old new is = record {
  logged = refl;
  told = ap (λ (s : LinkState). option_map (seen_by side) s.log) is.taken ∙ seen-appended side Received piece old.log;
  came = is.next;
  side = refl;
  is_open = ap (λ (s : LinkState). s.is_open) is.taken;
  sends = ap (λ (s : LinkState). s.sends) is.taken;
  refused_sends = ap (λ (s : LinkState). s.refused_sends) is.taken;
  room = refl;
}

-- and counts once
pub counted_receive : (before now : ℕ) → now ≡ counted true before → now ≤ before + 1
counted_receive before now is = omega (arith, is)

-- a receive that brought nothing where some bytes would fit: the peer is seen to have ended
ended_seen : (size n : ℕ) (told : Option Bool) → 0 < size → n ≡ 0 → IfSome (option_map (ended_after size n) told) (λ ended. ended ≡ true)
ended_seen size n None some none = tt
ended_seen size n (Some before) some none =
    let all : (nat_lt 0 size && n == 0) ≡ true = λ i. lt-ltb 0 size some i && none i == 0 in
    ap (λ b. before || b) all ∙ or-true before

-- and has nothing more to send
nothing_comes : (n : ℕ) (piece : List ℕ) (old new : Option (List ℕ)) → old ≡ put_before piece new → piece ≡ [] → n ≡ 0
    → IfSome old (λ bytes. (n ≡ 0) ↔ (bytes ≡ [])) → IfSome new (λ rest. rest ≡ [])
nothing_comes n piece old new next empty none ends =
    let same : new ≡ old = before_none new ∙ ap (λ l. put_before l new) (sym empty) ∙ sym next in
    subst (λ (o : Option (List ℕ)). IfSome o (λ rest. rest ≡ [])) (sym same) (by old ends)
  where
    by : (o : Option (List ℕ)) → IfSome o (λ bytes. (n ≡ 0) ↔ (bytes ≡ [])) → IfSome o (λ rest. rest ≡ [])
    by None ends = tt
    by (Some bytes) ends = ends.0 none

pub ended_by : (place : Expect) (side : Side) (log : List (Side × ℕ)) (reading : Reading) (room size n at : ℕ) (piece : List ℕ) (old new : LinkState)
    → Receives size n piece old new → n ≡ 0 → 0 < size → piece ≡ [] → CanGoOn place reading.taken → length reading.taken < frame_length place reading.taken
    → at ≡ reading.received + length reading.taken → new.faults ≡ old.faults
    → PieceFails place (fault.PeerEnded at) (line_state side log reading room old) (line_state side (log ++ bytes_from (peer_of side) piece) reading room new)
ended_by place side log reading room size n at piece old new is none some empty goes wanting place_is faults =
    let taken = reading.taken in
    let earlier = line_state side log reading room old in
    let later = line_state side (log ++ bytes_from (peer_of side) piece) reading room new in
    let whole : taken ≡ taken ++ piece = sym (append-nil taken) ∙ ap (λ l. taken ++ l) (sym empty) in
    let ended : IfSome new.ended (λ ended. ended ≡ true) =
    subst (λ (e : Option Bool). IfSome e (λ ended. ended ≡ true)) (sym (ap (λ (s : LinkState). s.ended) is.taken)) (ended_seen size n old.ended some none) in
    record {
      bytes = piece;
      part = subst (IsPartOnly place (fault.PeerEnded at)) whole (record {
        few = begun_within place taken goes (omega (arith, wanting));
        unfinished = inl wanting;
        cut = λ _. record { goes_on = goes; short = wanting };
      });
      came = came_by side log reading reading room size n piece old new is;
      broken = subst (λ (l : List ℕ). Breaks place l earlier later (fault.PeerEnded at)) whole
          (place_is, goes, wanting, ended, nothing_comes n piece old.to_come new.to_come is.next empty none (is.none some));
      receives = counted_receive old.receives new.receives (ap (λ (l : LinkState). l.receives) is.taken);
      count = record { later = omega (arith, faults); unfailed = λ _. faults };
    }

-- a receive that was refused
pub untaken_by : (side : Side) (log : List (Side × ℕ)) (reading : Reading) (room : ℕ) (old new : LinkState) → RefusesReceive old new
    → Came [] (line_state side log reading room old) (line_state side log reading room new)
untaken_by side log reading room old new is =
    came_none (line_state side log reading room old) (line_state side log reading room new) refl
    (ap (λ (s : LinkState). option_map (seen_by side) s.log) is.untaken) (ap (λ (s : LinkState). s.to_come) is.untaken) refl
    (ap (λ (s : LinkState). s.is_open) is.untaken) (ap (λ (s : LinkState). s.sends) is.untaken)
    (ap (λ (s : LinkState). s.refused_sends) is.untaken) refl

-- a send
pub sends_by : (side : Side) (log : List (Side × ℕ)) (reading : Reading) (room left : ℕ) (bytes : List ℕ) (old new : LinkState) → new ≡ after_send bytes old
    → Sends bytes (line_state side log reading room old) (line_state side (log ++ bytes_from side bytes) reading left new)
sends_by side log reading room left bytes old new is = record {
  logged = refl;
  told = ap (λ (s : LinkState). option_map (seen_by side) s.log) is ∙ seen-appended side Sent bytes old.log;
  sends = ap (λ (s : LinkState). s.sends) is;
  refused_sends = ap (λ (s : LinkState). s.refused_sends) is;
  others = record {
    side = refl;
    reading = refl;
    to_come = ap (λ (s : LinkState). s.to_come) is;
    ended = ap (λ (s : LinkState). s.ended) is;
    is_open = ap (λ (s : LinkState). s.is_open) is;
    receives = ap (λ (s : LinkState). s.receives) is;
  };
  unfailed = ap (λ (s : LinkState). s.faults) is;
}

send_cause : (refused : PortFault) (old new : LineState) → (refused ≡ port.Failed → IsSendCause old new fault.Link) → IsSendCause old new (port_fault refused)
send_cause port.Failed old new rose = rose refl
send_cause port.NoMemory old new rose = tt

-- a send that was refused
pub unsent_by : (side : Side) (log : List (Side × ℕ)) (reading : Reading) (room : ℕ) (bytes : List ℕ) (refused : PortFault) (old new : LinkState) → SendsPart bytes old new
    → old.faults ≤ new.faults → (refused ≡ port.Failed → Rose old.faults new.faults) → (refused ≡ port.NoMemory → new.faults ≡ old.faults)
    → IsSendRefused bytes (port_fault refused) (line_state side log reading room old) (line_state side log reading room new)
unsent_by side log reading room bytes refused old new is later rose same =
    let before = line_state side log reading room old in
    let after = line_state side log reading room new in
    record {
      logged = refl;
      told = record {
        count = is.count;
        part = ap (λ (s : LinkState). option_map (seen_by side) s.log) is.part ∙ seen-appended side Sent (take is.count bytes) old.log
            ∙ ap (λ l. appended l (option_map (seen_by side) old.log)) (sym (take-map (λ (byte : ℕ). (side, byte)) is.count bytes));
      };
      sends = ap (λ (s : LinkState). s.sends) is.part;
      refused_sends = ap (λ (s : LinkState). s.refused_sends) is.part;
      others = record {
        side = refl;
        reading = refl;
        to_come = ap (λ (s : LinkState). s.to_come) is.part;
        ended = ap (λ (s : LinkState). s.ended) is.part;
        is_open = ap (λ (s : LinkState). s.is_open) is.part;
        receives = ap (λ (s : LinkState). s.receives) is.part;
      };
      cause = send_cause refused before after rose;
      count = counts_by before after refused later same;
    }
