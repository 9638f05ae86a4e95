-- The session of a log.
use Rattle.std.specs.Prelude.{◌≡◌, ℕ, None, List, [], length}
use Rattle.zk_model.specs.Frames.{Frame}
use Rattle.zk_model.specs.Transcript.{Hello, spelling}
use Rattle.zk_model.specs.ServedVerifier.{VerifierTask, IsServed}
use Rattle.zk_model.specs.Audit.{frames_spelling, bytes_in, IsReadAs, HasFaultAt}
use Rattle.zk_model.specs.declared.Verdict.TheVariants.{Accepted}
use Rattle.proof_audit.specs.Reading.{IsBetweenFrames}
use Rattle.proof_audit.specs.Stages.{Describes, HoldsRoundKeys, expected_at, transcript_read}
use Rattle.proof_audit.specs.declared.fault.AuditFault.{AuditFault}
use Rattle.proof_audit.specs.declared.fault.AuditFault.TheVariants.{NotDealt, LogFault, NoMemory}
use Rattle.proof_audit.specs.declared.reading.LogReader.{LogReader}
use Rattle.proof_audit.specs.declared.session.Session.{Session}
use Rattle.proof_audit.specs.declared.session.Stage.{Stage}

-- faultless frames have been read of a log, which leave this stage
pub record IsLogUnderWay (task : VerifierTask) (log : List ℕ) (reader : LogReader) (stage : Stage) : Type 0 where
  pub frames : List Frame
  pub read : IsReadAs task log frames reader.rest.now
  pub described : Describes task frames stage
  pub between : IsBetweenFrames reader
  pub received : reader.decoder.received ≡ length (frames_spelling frames)

-- all of it has been read, and no frame may follow
pub record IsReadWhole
    (task : VerifierTask)
    (log : List ℕ)
    (reader : LogReader)
    (stage : Stage) : Type 0 where
  pub under_way : IsLogUnderWay task log reader stage
  pub ended : reader.rest.now ≡ []
  pub last : expected_at task stage ≡ None

-- what has been read of a log is a whole session that the verifier leads and accepts, with the keys that its round makes
pub record IsReadSession (task : VerifierTask) (log : List ℕ) (s : Session) : Type 0 where
  pub greeting : Hello
  pub served : IsServed task (transcript_read task greeting s 0 0) Accepted
      (spelling (transcript_read task greeting s 0 0))
  pub kept : HoldsRoundKeys task.file.params.kind task.file s.grant s.keys.items
  pub bytes : log ≡ bytes_in (spelling (transcript_read task greeting s 0 0))

-- why a log is not read: it has a fault
abbrev pub IsFaultOf : VerifierTask → List ℕ → AuditFault → Type 0
IsFaultOf task log (NotDealt unit) = ⊥
IsFaultOf task log (LogFault place) = HasFaultAt task log place
IsFaultOf task log NoMemory = Unit {0}
