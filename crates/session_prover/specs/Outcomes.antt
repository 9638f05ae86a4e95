-- How a session ended for the prover, as faults and a verdict say it.
use Rattle.std.specs.Prelude.{ℕ, zero, suc}
use Rattle.claim_store.specs.declared.ClaimFault.{ClaimFault}
use Rattle.claim_store.specs.declared.ClaimFault.TheVariants as claim
use Rattle.frame_link.specs.declared.fault.LineFault.{LineFault}
use Rattle.frame_link.specs.declared.fault.LineFault.TheVariants as line
use Rattle.session_core.specs.declared.fault.ProverFault.{ProverFault}
use Rattle.session_core.specs.declared.fault.ProverFault.TheVariants as session
use Rattle.session_prover.specs.declared.note.ProverOutcome.{ProverOutcome}
use Rattle.session_prover.specs.declared.note.ProverOutcome.TheVariants.{Accepted, Rejected, PeerEnded, BadFrame, BadGrant, PeerRefused, Broken, OutOfRange, Overlap, Full, Device, Link, NoMemory}

-- of a claim that was refused
abbrev pub claim_outcome : ClaimFault → ProverOutcome
claim_outcome (claim.Broken first) = Broken first
claim_outcome (claim.OutOfRange total) = OutOfRange total
claim_outcome (claim.Overlap earlier) = Overlap earlier
claim_outcome (claim.Full slots) = Full slots
claim_outcome claim.Device = Device
claim_outcome claim.NoMemory = NoMemory

-- of a frame that did not pass
abbrev pub prover_line_outcome : LineFault → ProverOutcome
prover_line_outcome (line.PeerEnded at) = PeerEnded at
prover_line_outcome (line.BadFrame place) = BadFrame place
prover_line_outcome line.Link = Link
prover_line_outcome line.NoMemory = NoMemory

-- of a frame that the prover refused
abbrev pub prover_fault_outcome : ProverFault → ProverOutcome
prover_fault_outcome session.BadGrant = BadGrant
prover_fault_outcome (session.PeerRefused code) = PeerRefused code
prover_fault_outcome session.NoMemory = NoMemory

-- of a verdict that was read, by its code and its number
abbrev pub verdict_outcome : ℕ → ℕ → ProverOutcome
verdict_outcome zero number = Accepted
verdict_outcome (suc code) number = Rejected (suc code) number
