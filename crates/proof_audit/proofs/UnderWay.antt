-- What has been read of a log, frame by frame.
use Rattle.std.proofs.Common.{zero, suc, false, nat_eq, ◌≡◌, ℕ, ◌+◌, ◌-◌, ◌<◌, inl, inr, List, [], ◌∷◌, ◌++◌, map, length, refl, sym, ◌∙◌, ap, subst, arith, append_assoc, append-nil, length-append}
use Rattle.std.specs.Prelude.{Option, Some, None, IfNone, IfSome}
use Rattle.std.proofs.lemmas.List.{length-map}
use Rattle.zk_model.specs.Frames.{Frame, hello, asks, frame_spelling, Allows}
use Rattle.zk_model.specs.ServedVerifier.{VerifierTask}
use Rattle.zk_model.specs.Audit.{place_after, frames_spelling, IsPlaced, IsBadAt, IsReadAs, HasFaultAt, EndsEarly, EndsDeclined, IsNotAccepted}
use Rattle.zk_model.specs.declared.Expect.{Expect}
use Rattle.session_core.specs.Extending.{asks_in, asks_of}
use Rattle.proof_frames.specs.Frames.{frame_value}
use Rattle.proof_frames.specs.declared.frame.Frame as coded
use Rattle.proof_audit.specs.Reading.{IsFreshReader, TakesFrame, StopsEarly, FindsBad, FindsFault}
use Rattle.proof_audit.specs.Stages.{Describes, expected_at, Continues, StageTakes, Wrongs, setup_read, transcript_read}
use Rattle.proof_audit.specs.Sessions.{IsLogUnderWay, IsReadWhole, IsReadSession, IsFaultOf}
use Rattle.proof_audit.specs.declared.fault.AuditFault.{AuditFault}
use Rattle.proof_audit.specs.declared.fault.AuditFault.TheVariants.{NotDealt, LogFault, NoMemory}
use Rattle.proof_audit.specs.declared.reading.LogReader.{LogReader}
use Rattle.proof_audit.specs.declared.session.Session.{Session}
use Rattle.proof_audit.specs.declared.session.Stage.{Stage}
use Rattle.proof_audit.specs.declared.session.Stage.TheVariants as at
use Rattle.proof_audit.proofs.Places.{frame_some, place_behind, none_behind, place_of_ask, place_of_reply}
use Rattle.proof_audit.proofs.Steps.{round_facts}
use Rattle.proof_audit.proofs.Faultless.{none_faultless, more_faultless, more_spelled, session_spelled}

-- ---- places

-- the place of the next frame is that of the stage
place_is : (task : VerifierTask) (frames : List Frame) (stage : Stage) (place : Expect) → Describes task frames stage → expected_at task stage ≡ Some place
    → place_after task.file.params task.statement frames ≡ expected_at task stage
place_is task frames at.Hello place described some = ap (place_after task.file.params task.statement) described
place_is task frames at.Grant place described some = ap (place_after task.file.params task.statement) described.1
place_is task frames (at.Asks s) place described some =
    ap (place_after task.file.params task.statement) described.1
    ∙ place_of_ask task.file.params task.statement s.grant (hello described.0) (map asks (asks_of s.asked.items)) (length s.asked.items) described.2.extended
    (length-map (asks_of s.asked.items) asks ∙ length-map s.asked.items (λ (f : coded.Frame). asks_in (frame_value f))) described.3
place_is task frames (at.Replies s done) place described some =
    ap (place_after task.file.params task.statement) described.1
    ∙ place_of_reply task.file.params task.statement s.grant (hello described.0) _ done described.3
    (round_facts task s done described.0 described.2 described.3 described.4) described.4
place_is task frames (at.Corrections s) place described some =
    ap (place_after task.file.params task.statement) (described.1 ∙ sym (append-nil _))
    ∙ place_behind task.file.params task.statement (setup_read task described.0 s) [] 0 _ described.2.whole refl (omega arith) refl
place_is task frames (at.Challenge s) place described some =
    ap (place_after task.file.params task.statement) described.1
    ∙ place_behind task.file.params task.statement (setup_read task described.0 s) _ 1 _ described.2.set.whole refl (omega arith) refl
place_is task frames (at.Sums s) place described some =
    ap (place_after task.file.params task.statement) described.1
    ∙ place_behind task.file.params task.statement (setup_read task described.0 s) _ 2 _ described.2.committed.set.whole refl (omega arith) refl
place_is task frames (at.Openings s) place described some =
    ap (place_after task.file.params task.statement) described.1
    ∙ place_behind task.file.params task.statement (setup_read task described.0 s) _ 3 _ described.2.challenged.committed.set.whole refl (omega arith) refl
place_is task frames (at.Verdict s) place described some =
    ap (place_after task.file.params task.statement) described.1
    ∙ place_behind task.file.params task.statement (setup_read task described.0 s) _ 4 _ described.2.summed.challenged.committed.set.whole refl (omega arith) refl
place_is task frames (at.Accepted s) place described some = cc
place_is task frames at.Declined place described some = cc

-- ---- steps

-- the frame of a place stands there
placed : (task : VerifierTask) (frames : List Frame) (stage : Stage) (place : Expect) (frame : Frame) → Describes task frames stage
    → expected_at task stage ≡ Some place → Allows place frame → IsPlaced task frames place frame
placed task frames stage place frame described some allowed =
    record { place_is = place_is task frames stage place described some ∙ some; allowed = allowed }

-- one frame more
pub goes_on : (task : VerifierTask) (log : List ℕ) (old new : LogReader) (stage next : Stage) (place : Expect) (frame : Frame)
    → expected_at task stage ≡ Some place → TakesFrame place frame old new → StageTakes task stage frame next
    → IsLogUnderWay task log old stage → IsLogUnderWay task log new next
goes_on task log old new stage next place frame some taken takes under =
    let continued : Continues task under.frames frame next = takes under.frames under.described in
    record {
      frames = under.frames ++ frame ∷ [];
      read = record {
        faultless = more_faultless task under.frames frame under.read.faultless (record {
          place = place;
          placed = placed task under.frames stage place frame under.described some taken.allowed;
          given = continued.given;
        });
        bytes = under.read.bytes ∙ ap (λ (l : List ℕ). frames_spelling under.frames ++ l) taken.bytes
            ∙ sym (append_assoc (frames_spelling under.frames) (frame_spelling frame) new.rest.now)
            ∙ ap (λ (l : List ℕ). l ++ new.rest.now) (sym (more_spelled under.frames frame));
      };
      described = continued.described;
      between = taken.between;
      received = taken.received ∙ ap (λ n. n + length (frame_spelling frame)) under.received
          ∙ sym (length-append (frames_spelling under.frames) (frame_spelling frame)) ∙ ap length (sym (more_spelled under.frames frame));
    }

-- the log ends before a frame is whole
pub ends_early : (task : VerifierTask) (log : List ℕ) (reader : LogReader) (stage : Stage) (place : Expect) → expected_at task stage ≡ Some place
    → StopsEarly place reader.rest.now → IsLogUnderWay task log reader stage → EndsEarly task log
ends_early task log reader stage place some early under = record {
  frames = under.frames;
  rest = reader.rest.now;
  read = under.read;
  place = place;
  place_is = place_is task under.frames stage place under.described some ∙ some;
  begun = early.begun;
  unfinished = early.unfinished;
}

-- a bad byte
pub bad_fault : (task : VerifierTask) (log : List ℕ) (reader : LogReader) (stage : Stage) (place : Expect) (found : ℕ) → expected_at task stage ≡ Some place
    → FindsBad place reader.rest.now reader.decoder found → IsLogUnderWay task log reader stage → HasFaultAt task log found
bad_fault task log reader stage place found some bad under = record {
  frames = under.frames;
  rest = reader.rest.now;
  read = under.read;
  n = bad.n;
  fault = inl (subst (λ (p : Option Expect). IsBadAt p reader.rest.now bad.n)
      (sym (place_is task under.frames stage place under.described some ∙ some)) bad.bad);
  at = bad.at_is ∙ ap (λ n. n + bad.n) under.received;
}

-- a wrong frame
pub wrong_fault : (task : VerifierTask) (log : List ℕ) (old new : LogReader) (stage : Stage) (place : Expect) (frame : Frame) (found : ℕ)
    → expected_at task stage ≡ Some place → TakesFrame place frame old new → Wrongs task stage frame → found ≡ new.decoder.received - 1
    → IsLogUnderWay task log old stage → HasFaultAt task log found
wrong_fault task log old new stage place frame found some taken wrongs last under = record {
  frames = under.frames;
  rest = old.rest.now;
  read = under.read;
  n = length (frame_spelling frame) - 1;
  fault = inr (record {
    place = place;
    frame = frame;
    placed = placed task under.frames stage place frame under.described some taken.allowed;
    wrong = wrongs under.frames under.described;
    spelled = (new.rest.now, taken.bytes);
    last = let some = frame_some frame in omega (arith, some);
  });
  at = let some = frame_some frame in let got = taken.received in let before = under.received in omega (arith, last, some, got, before);
}

-- where a stage has no place, there is none
none_left : (task : VerifierTask) (frames : List Frame) (stage : Stage) → Describes task frames stage → expected_at task stage ≡ None
    → place_after task.file.params task.statement frames ≡ None
none_left task frames at.Hello described none = cc
none_left task frames at.Grant described none = cc
none_left task frames (at.Asks s) described none = cc
none_left task frames (at.Replies s done) described none = cc
none_left task frames (at.Corrections s) described none = cc
none_left task frames (at.Challenge s) described none = cc
none_left task frames (at.Sums s) described none = cc
none_left task frames (at.Openings s) described none = cc
none_left task frames (at.Verdict s) described none = cc
none_left task frames (at.Accepted s) described none =
    ap (place_after task.file.params task.statement) described.1
    ∙ none_behind task.file.params task.statement (setup_read task described.0 s) _ described.2.in_order.transcript.commitment.setup refl
none_left task frames at.Declined described none = described.4

-- bytes behind the last frame
pub behind_fault : (task : VerifierTask) (log : List ℕ) (reader : LogReader) (stage : Stage) (found : ℕ) → expected_at task stage ≡ None
    → 0 < length reader.rest.now → found ≡ reader.decoder.received → IsLogUnderWay task log reader stage → HasFaultAt task log found
behind_fault task log reader stage found none some at under = record {
  frames = under.frames;
  rest = reader.rest.now;
  read = under.read;
  n = 0;
  fault = inl (subst (λ (p : Option Expect). IsBadAt p reader.rest.now 0) (sym (none_left task under.frames stage under.described none)) (refl, some));
  at = at ∙ under.received ∙ omega arith;
}

-- ---- the end

-- nothing has been read
pub begins : (task : VerifierTask) (log : List ℕ) (reader : LogReader) → IsFreshReader log reader → IsLogUnderWay task log reader at.Hello
begins task log reader fresh = record {
  frames = [];
  read = record { faultless = none_faultless task; bytes = sym fresh.rest };
  described = refl;
  between = fresh.between;
  received = fresh.received;
}

-- a session that is accepted
pub reads_session : (task : VerifierTask) (log : List ℕ) (reader : LogReader) (stage : Stage) (s : Session) → stage ≡ at.Accepted s
    → IsReadWhole task log reader stage → IsReadSession task log s
reads_session task log reader stage s is whole =
    let described : Describes task whole.under_way.frames (at.Accepted s) = subst (Describes task whole.under_way.frames) is whole.under_way.described in
    record {
      greeting = described.0;
      served = described.2;
      kept = described.3;
      bytes = whole.under_way.read.bytes
          ∙ (λ i. frames_spelling (described.1 i) ++ whole.ended i)
          ∙ append-nil _
          ∙ session_spelled (transcript_read task described.0 s 0 0);
    }

-- one that is not
pub reads_none : (task : VerifierTask) (log : List ℕ) (reader : LogReader) (stage : Stage) → ((s : Session) → ¬ (stage ≡ at.Accepted s))
    → IsReadWhole task log reader stage → IsNotAccepted task log
reads_none task log reader stage other whole = inr (by_stage stage other whole.last whole.under_way.described)
  where
    by_stage : (stage : Stage) → ((s : Session) → ¬ (stage ≡ at.Accepted s)) → expected_at task stage ≡ None → Describes task whole.under_way.frames stage
        → EndsDeclined task log
    by_stage at.Hello other none described = cc
    by_stage at.Grant other none described = cc
    by_stage (at.Asks s) other none described = cc
    by_stage (at.Replies s done) other none described = cc
    by_stage (at.Corrections s) other none described = cc
    by_stage (at.Challenge s) other none described = cc
    by_stage (at.Sums s) other none described = cc
    by_stage (at.Openings s) other none described = cc
    by_stage (at.Verdict s) other none described = cc
    by_stage (at.Accepted s) other none described = absurd (other s refl)
    by_stage at.Declined other none described = record {
      before = described.0;
      last = described.1;
      read = subst (λ (q : List Frame × List ℕ). IsReadAs task log q.0 q.1) (λ i. (described.2 i, whole.ended i)) whole.under_way.read;
      declined = described.3;
    }

-- ---- faults of a reader

pub reading_fault : (task : VerifierTask) (log : List ℕ) (reader : LogReader) (stage : Stage) (place : Expect) (fault : AuditFault)
    → expected_at task stage ≡ Some place → FindsFault place reader fault → IsLogUnderWay task log reader stage → IsFaultOf task log fault
reading_fault task log reader stage place (NotDealt unit) some found under = found
reading_fault task log reader stage place (LogFault found_at) some found under = bad_fault task log reader stage place found_at some found under
reading_fault task log reader stage place NoMemory some found under = tt

-- bytes are left
pub some_left : (n : ℕ) → nat_eq n 0 ≡ false → 0 < n
some_left zero e = cc
some_left (suc n) e = omega arith

-- where there is none, what follows from that
pub none_weaker : {A : Type 0} {P Q : Type 0} (o : Option A) → (P → Q) → IfNone o P → IfNone o Q
none_weaker None follows holds = follows holds
none_weaker (Some x) follows holds = tt

-- and of a value, where there is one
pub some_weaker : {A : Type 0} {P Q : A → Type 0} (o : Option A) → ((x : A) → P x → Q x) → IfSome o P → IfSome o Q
some_weaker None follows holds = tt
some_weaker (Some x) follows holds = follows x holds
