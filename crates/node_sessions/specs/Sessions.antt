-- The sessions of a node, one after another.
use Rattle.std.specs.Prelude.{◌≡◌, ◌⊎◌, ℕ, ◌+◌, ◌≤◌, zero, suc, List, [], ◌∷◌, ◌++◌, length, Bool, true, false, Option, Some, Result, Err, IfSome, MatchOption}
use Rattle.zk_model.specs.declared.Span.{Span}
use Rattle.zk_model.specs.declared.limits.TheConstants.{MAX_UNITS}
use Rattle.zk_port.specs.Counts.{Rose}
use Rattle.zk_port.specs.Doors.{DoorState, OnlyTakes, after_refused_next}
use Rattle.lease_store.specs.declared.grantor.GrantFault.{GrantFault}
use Rattle.claim_store.specs.Claims.{ClaimState}
use Rattle.session_core.specs.Jobs.{VerifierJobs, noted_job, units_of_job}
use Rattle.session_pool.specs.Notes.{granted_by}
use Rattle.session_verifier.specs.Outcomes.{grant_fault}
use Rattle.session_verifier.specs.Sessions.{IsAnsweredNote}
use Rattle.session_verifier.specs.declared.note.SessionNote.{SessionNote}
use Rattle.broker_node.specs.NodeStates.{NodeState}
use Rattle.node_grants.specs.Desks.{Desk, IsHeldWithin}
use Rattle.node_grants.specs.Grants.{IsGrantOf, Ports}

-- how many units a session takes, by its note
abbrev pub size_of : {L : Type 0} → VerifierJobs → SessionNote L → ℕ
size_of jobs note = units_of_job (noted_job jobs note.statement)

-- A session was led, and noted so, in which the node answered so, if it was asked: it granted that, by tries that are those of the note; where
-- it was not asked, all that it grants with is as it was.
pub record IsLed {B L : Type 0} (ports : Ports B L) (jobs : VerifierJobs) (old new : Desk B L) (note : SessionNote L) : Type 0 where
  pub answer : Option (Result Span GrantFault)
  pub is_note : IsAnsweredNote ports.tells jobs answer note
  pub granted : note.granted ≡ granted_by answer
  pub refused : IfSome (grant_fault note.outcome) (λ fault. answer ≡ Some (Err fault))
  pub moved : MatchOption answer (new ≡ old) (λ a. IsGrantOf ports (size_of jobs note) a old new)
  pub tries : note.tries.items ≡ new.tries
  pub least : 1 ≤ size_of jobs note
  pub most : size_of jobs note ≤ MAX_UNITS

-- The total stays, and the block that the node then holds, if any, ends within it.
pub record HoldsWithin {B : Type 0} (claims : ClaimState B) (now : NodeState) (new : ClaimState B) : Type 0 where
  pub total : new.total ≡ claims.total
  pub within : IsHeldWithin now new.total

-- The door gave a link, and a session was led over it, in which the node made no tries yet.
pub record LeadsNext {B L : Type 0} (ports : Ports B L) (jobs : VerifierJobs) (old new : Desk B L) (note : SessionNote L) : Type 0 where
  pub door : DoorState
  pub one : old.door.left ≡ door.left + 1
  pub taken : OnlyTakes old.door door
  pub led : IsLed ports jobs (record old { door = door; tries = [] }) new note

-- so many sessions were led, with these notes, in order
abbrev pub HaveLed : {B L : Type 0} → Ports B L → VerifierJobs → ℕ → Desk B L → Desk B L → List (SessionNote L) → Type 0
HaveLed ports jobs zero old new notes = (new ≡ old) × (notes ≡ [])
HaveLed {B} {L} ports jobs (suc n) old new notes =
    (mid : Desk B L) × (before : List (SessionNote L)) × (last : SessionNote L)
    × HaveLed ports jobs n old mid before × LeadsNext ports jobs mid new last × (notes ≡ before ++ last ∷ [])

-- Why no more are led: they are all that are wanted; the door has no more; it failed; or memory was missing, for a link, or for the notes of all
abbrev pub EndsServing : ℕ → ℕ → Bool → Bool → DoorState → DoorState → Type 0
EndsServing sessions led false false last now =
    ((led ≡ sessions) × (now ≡ last)) ⊎ ((last.left ≡ 0) × (now.left ≡ 0) × OnlyTakes last now)
EndsServing sessions led true false last now =
    Rose last.next_faults now.next_faults × (now ≡ after_refused_next now.next_faults last)
EndsServing sessions led false true last now =
    ((led ≡ 0) × (now ≡ last)) ⊎ (now ≡ after_refused_next last.next_faults last)
EndsServing sessions led true true last now = ⊥

-- The sessions that a node led: their notes, one for each link that left the door, as many as were wanted at most, and why there are no more.
-- What is left of its claims is that of the last.
pub record ServesAsNode {B L : Type 0} (ports : Ports B L) (jobs : VerifierJobs) (sessions : ℕ) (first : Desk B L) (door : DoorState)
    (claims : ClaimState B) (door_failed memory_failed : Bool) (notes : List (SessionNote L)) : Type 0 where
  pub last : Desk B L
  pub led : HaveLed ports jobs (length notes) first last notes
  pub most : length notes ≤ sessions
  pub ends : EndsServing sessions (length notes) door_failed memory_failed last.door door
  pub claims_are : claims ≡ last.claims
