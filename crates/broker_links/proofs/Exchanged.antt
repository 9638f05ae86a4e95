-- Logs of exchanges, and frames that go on.
use Rattle.std.proofs.Common.{◌≡◌, inl, inr, ℕ, ◌+◌, ◌≤◌, List, [], ◌∷◌, ◌++◌, length, take, drop, refl, sym, ◌∙◌, ap, arith, append_assoc, append-nil, take-append-drop}
use Rattle.zk_model.specs.Frames.{Frame, Allows, IsFirstBad, frame_spelling}
use Rattle.zk_model.specs.Transcript.{BeginsWith, bytes_from, sent_by}
use Rattle.zk_model.specs.declared.Expect.{Expect}
use Rattle.zk_model.specs.declared.Side.{Side}
use Rattle.zk_port.specs.Logs.{appended}
use Rattle.proof_frames.proofs.Lengths.{whole_length}
use Rattle.frame_link.specs.Lines.{LinkSnapshot, IsCutShort, IsNoLink, counted_times}
use Rattle.frame_link.specs.Sides.{peer_of}
use Rattle.frame_link.specs.declared.fault.LineFault.{LineFault}
use Rattle.frame_link.specs.declared.fault.LineFault.TheVariants.{Link}
use Rattle.session_driver.specs.Leaving.{IsLost, IsSent, CountsCalls}
use Rattle.session_driver.specs.Runs.{answers_in, said}
use Rattle.session_driver.proofs.Going.{came_more, none_of_own, answers_first, answers_heard, awaits_answer}
use Rattle.broker_links.specs.Counts.{NeverSends, SendsOnce, LosesSend, TellsLog, CountsFailures}

-- ---- logs

-- one frame of a side
pub said_one : (side : Side) (frame : Frame) → said side (frame ∷ []) ≡ bytes_from side (frame_spelling frame)
said_one side frame = ap (bytes_from side) (append-nil (frame_spelling frame))

-- what comes after bytes of one side
pub heard_behind : (side : Side) (bytes rest : List ℕ) → sent_by (peer_of side) (bytes_from side bytes ++ bytes_from (peer_of side) rest) ≡ rest
heard_behind side bytes rest = came_more side (bytes_from side bytes) rest ∙ ap (λ l. l ++ rest) (none_of_own side bytes)

-- one side's bytes are one answer, whatever is heard after them
pub one_answer : (side : Side) (bytes rest : List ℕ) → 1 ≤ length bytes → answers_in side (bytes_from side bytes ++ bytes_from (peer_of side) rest) ≡ 1
one_answer side bytes rest some = answers_heard side (bytes_from side bytes) rest ∙ answers_first side bytes some

-- what is heard alone is none, and a frame that is answered is one
pub no_answer : (side : Side) (rest : List ℕ) → answers_in side (bytes_from (peer_of side) rest) ≡ 0
no_answer side rest = answers_heard side [] rest

pub one_behind : (side : Side) (frame : Frame) (bytes : List ℕ) → 1 ≤ length bytes
    → answers_in side (bytes_from (peer_of side) (frame_spelling frame) ++ bytes_from side bytes) ≡ 1
one_behind side frame bytes some = omega (arith, awaits_answer side [] frame bytes some, no_answer side (frame_spelling frame))

-- ---- sends

pub sends_once : (side : Side) (log : List (Side × ℕ)) (first now : LinkSnapshot) → IsSent side log first now → answers_in side log ≡ 1 → SendsOnce first now
sends_once side log first now sent one =
    record { sends = sent.sends ∙ ap (λ n. counted_times n first.sends) one; refused_sends = sent.refused_sends }

pub never_sends : (side : Side) (log : List (Side × ℕ)) (first now : LinkSnapshot) → IsSent side log first now → answers_in side log ≡ 0 → NeverSends first now
never_sends side log first now sent none =
    record { sends = sent.sends ∙ ap (λ n. counted_times n first.sends) none; refused_sends = sent.refused_sends }

pub loses_send : (side : Side) (log : List (Side × ℕ)) (bytes : List ℕ) (first now : LinkSnapshot) → IsLost side log bytes first now → answers_in side log ≡ 0 → LosesSend first now
loses_send side log bytes first now lost none =
    record { sends = lost.sends ∙ ap (λ n. counted_times (n + 1) first.sends) none; refused_sends = lost.refused_sends }

-- what the link tells where no send was refused, and where one was
pub tells_log : (side : Side) (may : Type 0) (bytes : List ℕ) (log : List (Side × ℕ)) (first now : LinkSnapshot) → IsSent side log first now → TellsLog side may bytes first now
tells_log side may bytes log first now sent = record {
  part = [];
  told = sent.told ∙ ap (λ l. appended l first.told) (sym (append-nil now.log ∙ sent.logged));
  begins = (bytes, refl);
  refused = inl (refl, sent.refused_sends);
}

pub tells_part : (side : Side) (may : Type 0) (bytes : List ℕ) (log : List (Side × ℕ)) (first now : LinkSnapshot) → may → IsLost side log bytes first now
    → TellsLog side may bytes first now
tells_part side may bytes log first now is lost = record {
  part = take lost.count bytes;
  told = lost.told ∙ ap (λ l. appended (l ++ bytes_from side (take lost.count bytes)) first.told) (sym lost.logged);
  begins = (drop lost.count bytes, sym (take-append-drop lost.count bytes));
  refused = inr (is, lost.refused_sends);
}

-- ---- failed calls

pub none_failed : (failed : Type 0) (before after : ℕ) → after ≡ before → CountsFailures failed before after
none_failed failed before after same = record { later = omega (arith, same); unfailed = λ _. same }

pub calls_failed : {A : Type 0} (outcome : LineFault → A) (link : A) (fault : LineFault) (first now : LinkSnapshot) → outcome Link ≡ link → CountsCalls fault first now
    → CountsFailures (outcome fault ≡ link) first.faults now.faults
calls_failed {A} outcome link fault first now is calls = record { later = calls.later; unfailed = by_fault fault calls.unfailed }
  where
    by_fault : (fault : LineFault) → (IsNoLink fault → now.faults ≡ first.faults) → ¬ (outcome fault ≡ link) → now.faults ≡ first.faults
    by_fault Link unfailed other = absurd (other is)
    by_fault fault unfailed other = unfailed tt

-- ---- a frame that begins with what came

module _ (place : Expect) (frame : Frame) (rest : List ℕ) (allowed : Allows place frame) where
  -- none of its bytes is bad
  pub none_bad : BeginsWith (frame_spelling frame) rest → (n : ℕ) → ¬ IsFirstBad place rest n
  none_bad begun n bad = bad.ends (record {
    frame = frame;
    allowed = allowed;
    begun = (
      drop (n + 1) rest ++ begun.0,
      begun.1 ∙ ap (λ l. l ++ begun.0) (sym (take-append-drop (n + 1) rest)) ∙ append_assoc (take (n + 1) rest) (drop (n + 1) rest) begun.0,
    );
  })

  -- and where it is all that came no more are missing
  pub not_cut : rest ≡ frame_spelling frame → ¬ IsCutShort place rest
  not_cut whole cut =
      let short = cut.short in
      absurd (omega (arith, short, whole_length place rest frame (record { allowed = allowed; spelled = whole })))
