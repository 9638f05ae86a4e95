-- How a session ended for the verifier, as faults and judgements say it, and the codes of its refusals.
use Rattle.std.specs.Prelude.{◌≡◌, ℕ, Option, Some, None}
use Rattle.frame_link.specs.declared.fault.LineFault.{LineFault}
use Rattle.frame_link.specs.declared.fault.LineFault.TheVariants as line
use Rattle.lease_store.specs.declared.grantor.GrantFault.{GrantFault}
use Rattle.lease_store.specs.declared.LeaseFault.TheVariants as lease
use Rattle.lease_store.specs.declared.grantor.GrantFault.TheVariants as grant
use Rattle.session_core.specs.declared.fault.VerifierFault.{VerifierFault}
use Rattle.session_core.specs.declared.fault.VerifierFault.TheVariants as session
use Rattle.session_core.specs.declared.judgement.Judgement.{Judgement}
use Rattle.session_core.specs.declared.judgement.Judgement.TheVariants as judgement
use Rattle.session_verifier.specs.declared.note.VerifierOutcome.{VerifierOutcome}
use Rattle.session_verifier.specs.declared.note.VerifierOutcome.TheVariants.{Accepted, RejectedSum, RejectedOpening, PeerEnded, BadFrame, BadHello, Exhausted, Device, Broken, NoBlock, Broker, Link, NoMemory}

-- of units that were refused
abbrev pub grant_outcome : GrantFault → VerifierOutcome
grant_outcome (grant.Lease (lease.Exhausted at count total)) = Exhausted at count total
grant_outcome (grant.Lease lease.Device) = Device
grant_outcome (grant.Lease (lease.Broken first)) = Broken first
grant_outcome grant.NoMemory = NoMemory
grant_outcome (grant.NoBlock wants) = NoBlock wants
grant_outcome grant.Broker = Broker

-- why units were refused, where the outcome tells that the session ended by it
abbrev pub grant_fault : VerifierOutcome → Option GrantFault
grant_fault (Exhausted at count total) = Some (grant.Lease (lease.Exhausted at count total))
grant_fault Device = Some (grant.Lease lease.Device)
grant_fault (Broken first) = Some (grant.Lease (lease.Broken first))
grant_fault (NoBlock wants) = Some (grant.NoBlock wants)
grant_fault Broker = Some grant.Broker
grant_fault outcome = None

-- of a frame that did not pass
abbrev pub verifier_line_outcome : LineFault → VerifierOutcome
verifier_line_outcome (line.PeerEnded at) = PeerEnded at
verifier_line_outcome (line.BadFrame place) = BadFrame place
verifier_line_outcome line.Link = Link
verifier_line_outcome line.NoMemory = NoMemory

-- of a frame that the verifier refused
abbrev pub verifier_fault_outcome : VerifierFault → VerifierOutcome
verifier_fault_outcome (session.BadHello differs) = BadHello differs
verifier_fault_outcome session.NoMemory = NoMemory

-- of what it found
abbrev pub judgement_outcome : Judgement → VerifierOutcome
judgement_outcome judgement.Accepted = Accepted
judgement_outcome (judgement.RejectedSum section left right) = RejectedSum section left right
judgement_outcome (judgement.RejectedOpening output left right) = RejectedOpening output left right

-- the code of the refusal for a hello that is not met
abbrev pub hello_code : VerifierFault → ℕ
hello_code (session.BadHello differs) = 1
hello_code session.NoMemory = 4

-- and for units that are not granted
abbrev pub grant_code : GrantFault → ℕ
grant_code (grant.Lease (lease.Exhausted at count total)) = 2
grant_code (grant.Lease lease.Device) = 3
grant_code (grant.Lease (lease.Broken first)) = 3
grant_code grant.NoMemory = 4
grant_code (grant.NoBlock wants) = 3
grant_code grant.Broker = 3

-- the code of the refusal that an outcome has, if it has one
abbrev pub refusal_of : VerifierOutcome → Option ℕ
refusal_of (BadHello differs) = Some 1
refusal_of (Exhausted at count total) = Some 2
refusal_of Device = Some 3
refusal_of (Broken at) = Some 3
refusal_of (NoBlock wants) = Some 3
refusal_of Broker = Some 3
refusal_of NoMemory = Some 4
refusal_of outcome = None

-- it has one: the verifier refuses in a grant's place, which it may where memory is missing
abbrev pub HasRefusal : VerifierOutcome → Type 0
HasRefusal outcome = (code : ℕ) × (refusal_of outcome ≡ Some code)
