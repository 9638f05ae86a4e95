-- Why a session of a node was refused units.
use Rattle.std.specs.Prelude.{◌≡◌, ◌≢◌, ◌⊎◌, ℕ, ◌<◌, ◌≤◌, List, [], ◌∷◌, ◌++◌, length, false, All, Ok, Err}
use Rattle.zk_port.specs.Counts.{Rose}
use Rattle.zk_port.specs.Disks.{DiskState}
use Rattle.zk_port.specs.Doors.{DoorState}
use Rattle.zk_port.specs.Links.{LinkState}
use Rattle.claim_store.specs.Causes.{IsClaimFaultOf}
use Rattle.claim_store.specs.Claims.{ClaimState}
use Rattle.claim_store.specs.declared.ClaimFault.{ClaimFault}
use Rattle.broker_links.specs.Tries.{asked_log}
use Rattle.broker_links.specs.declared.note.Try.{Try}
use Rattle.broker_links.specs.declared.note.TryOutcome.{TryOutcome}
use Rattle.broker_links.specs.declared.note.TryOutcome.TheVariants as outcome
use Rattle.broker_node.specs.NodeStates.{NodeState, takes_own}
use Rattle.session_core.specs.Jobs.{VerifierJobs}
use Rattle.session_verifier.specs.declared.note.SessionNote.{SessionNote}
use Rattle.session_verifier.specs.declared.note.VerifierOutcome.{VerifierOutcome}
use Rattle.session_verifier.specs.declared.note.VerifierOutcome.TheVariants.{Exhausted, Device, Broken, NoBlock, Broker}
use Rattle.node_grants.specs.Desks.{Desk}
use Rattle.node_grants.specs.Grants.{claim_end, want_of}
use Rattle.node_grants.specs.declared.seeking.TheConstants.{TRIES}
use Rattle.node_sessions.specs.Sessions.{size_of}
use Rattle.node_sessions.specs.Laws.{AfterServing, ClaimsStay}

-- Why so many units were not had by a try that ended so, made by this node over these claims: a Block came that it does not take, whose claim
-- these refuse, or which has fewer; none are left; or what came is no reply.
abbrev pub HadTooFew : {B : Type 0} → ℕ → NodeState → ClaimState B → TryOutcome → Type 0
HadTooFew count node claims (outcome.Block b) =
    (takes_own node b ≡ false)
    ⊎ ((fault : ClaimFault) × (claim_end (Err fault) ≡ Ok tt) × IsClaimFaultOf claims b.start b.count fault)
    ⊎ (b.count < count)
HadTooFew count node claims (outcome.Out o) = Unit {0}
HadTooFew count node claims (outcome.PeerEnded at) = Unit {0}
HadTooFew count node claims (outcome.BadFrame place) = Unit {0}
HadTooFew count node claims outcome.Link = ⊥
HadTooFew count node claims outcome.NoMemory = ⊥

-- A try was made by the node of this number, over claims between the first and the last: the want of so many units went out whole, and it did
-- not get them.
pub record IsSpent {B L : Type 0} (state : B → DiskState) (number count : ℕ) (first last : ClaimState B) (made : Try L) : Type 0 where
  pub node : NodeState
  pub claims : ClaimState B
  pub own : node.node ≡ number
  pub earlier : ClaimsStay state first claims
  pub later : ClaimsStay state claims last
  pub rest : List ℕ
  pub asked : made.log ≡ asked_log (want_of node count) rest
  pub had : HadTooFew count node claims made.outcome

-- the last of these tries ended because its link failed
pub record EndsByLink {L : Type 0} (tells : L → LinkState) (tries : List (Try L)) : Type 0 where
  pub before : List (Try L)
  pub made : Try L
  pub last : tries ≡ before ++ made ∷ []
  pub failed : made.outcome ≡ outcome.Link
  pub told : 1 ≤ (tells made.link).faults

-- Why a session ended so, where units were refused, among sessions that began with this and left such a door and such claims. No block: as many
-- tries as a grant makes at most, and no more, were spent. The broker: the door failed to call it, or the link of the last try failed. The
-- device: the journal was whole at first, and its disk failed. Broken: it failed before, as the claims still say.
abbrev pub IsRefusedAs : {B L : Type 0} → (L → LinkState) → (B → DiskState) → VerifierJobs → Desk B L → DoorState → ClaimState B → SessionNote L
    → VerifierOutcome → Type 0
IsRefusedAs tells state jobs first door last note (NoBlock wants) =
    (wants ≡ TRIES) × (length note.tries.items ≡ wants)
    × All (IsSpent state first.node.node (size_of jobs note) first.claims last) note.tries.items
IsRefusedAs tells state jobs first door last note Broker =
    Rose first.door.connect_faults door.connect_faults ⊎ EndsByLink tells note.tries.items
IsRefusedAs tells state jobs first door last note Device =
    (first.claims.fault ≡ 0) × (last.fault ≢ 0) × Rose (state first.claims.disk).faults (state last.disk).faults
IsRefusedAs tells state jobs first door last note (Broken at) = (last.fault ≡ at) × (at ≢ 0)
IsRefusedAs tells state jobs first door last note (Exhausted at count total) = ⊥
IsRefusedAs tells state jobs first door last note other = Unit {0}

abbrev pub HaveCauses : {B L : Type 0} → (L → LinkState) → (B → DiskState) → VerifierJobs → Desk B L → DoorState → ClaimState B
    → List (SessionNote L) → Type 0
HaveCauses tells state jobs first door last notes = All (λ note. IsRefusedAs tells state jobs first door last note note.outcome) notes

abbrev pub SessionsHaveCauses : {B L : Type 0} → (L → LinkState) → (B → DiskState) → Type 0
SessionsHaveCauses tells state = AfterServing tells state (λ ports. HaveCauses tells state)
