-- What stays true over each Block that is taken stays so through tries, and through what ends a grant.
use Rattle.std.proofs.Common.{◌≡◌, ℕ, Bool, zero, suc, sym, subst, inl, inr}
use Rattle.std.specs.Prelude.{List, [], Option, None, Some, Result, Ok, Err, MatchOption}
use Rattle.zk_model.specs.declared.Span.{Span}
use Rattle.zk_model.specs.declared.messages.Block.{Block}
use Rattle.zk_port.specs.Disks.{DiskState}
use Rattle.lease_store.specs.declared.grantor.GrantFault.{GrantFault}
use Rattle.lease_store.specs.declared.grantor.GrantFault.TheVariants as grant
use Rattle.claim_store.specs.Claims.{ClaimState}
use Rattle.claim_store.specs.declared.ClaimFault.{ClaimFault}
use Rattle.broker_links.specs.declared.note.TryOutcome.{TryOutcome}
use Rattle.broker_links.specs.declared.note.TryOutcome.TheVariants as outcome
use Rattle.broker_node.specs.NodeStates.{NodeState, keeping}
use Rattle.session_core.specs.Jobs.{VerifierJobs}
use Rattle.session_verifier.specs.declared.note.SessionNote.{SessionNote}
use Rattle.node_grants.specs.Desks.{Desk, Draws}
use Rattle.node_grants.specs.Grants.{ComesTo, IsGrantOf, IsTaken, IsTryResult, IsUngranted, Ports, Tried}
use Rattle.node_sessions.specs.Sessions.{HaveLed, IsLed, size_of}

-- it stays true over a Block that is taken
abbrev pub StaysOver : {B : Type 0} → (B → DiskState) → (NodeState → ClaimState B → Type 0) → Type 0
StaysOver {B} state P = (node : NodeState) (claims : ClaimState B) (b : Block) (answer : Result Bool ClaimFault) (now : NodeState) (new : ClaimState B)
    → IsTaken state node claims b answer now new → P node claims → P now new

same_keeps : {B : Type 0} (P : NodeState → ClaimState B → Type 0) (node now : NodeState) (claims new : ClaimState B) → now ≡ node → new ≡ claims
    → P node claims → P now new
same_keeps P node now claims new same still holds = subst (λ (q : NodeState × ClaimState _). P q.0 q.1) (λ i. (sym same i, sym still i)) holds

pub comes_keeps : {B : Type 0} (state : B → DiskState) (P : NodeState → ClaimState B → Type 0) → StaysOver state P → (of : TryOutcome)
    (node : NodeState) (claims : ClaimState B) (result : Result (Unit {0}) GrantFault) (now : NodeState) (new : ClaimState B)
    → ComesTo state of node claims result now new → P node claims → P now new
comes_keeps state P stays (outcome.Block b) node claims result now new comes holds = stays node claims b comes.0 now new comes.1 holds
comes_keeps state P stays (outcome.Out o) node claims result now new comes holds = same_keeps P node now claims new comes.0 comes.1 holds
comes_keeps state P stays (outcome.PeerEnded at) node claims result now new comes holds = same_keeps P node now claims new comes.0 comes.1 holds
comes_keeps state P stays (outcome.BadFrame place) node claims result now new comes holds = same_keeps P node now claims new comes.0 comes.1 holds
comes_keeps state P stays outcome.Link node claims result now new comes holds = same_keeps P node now claims new comes.0 comes.1 holds
comes_keeps state P stays outcome.NoMemory node claims result now new comes holds = same_keeps P node now claims new comes.0 comes.1 holds

pub tries_keep : {B L : Type 0} (ports : Ports B L) (P : NodeState → ClaimState B → Type 0) → StaysOver ports.state P → (count n : ℕ) (old new : Desk B L)
    → Tried ports count n old new → P old.node old.claims → P new.node new.claims
tries_keep ports P stays count zero old new tried holds = subst (λ (d : Desk _ _). P d.node d.claims) (sym tried) holds
tries_keep ports P stays count (suc n) old new tried holds =
    let try = tried.3 in
    comes_keeps ports.state P stays try.made.outcome tried.0.node tried.0.claims (Ok tt) new.node new.claims try.comes
    (tries_keep ports P stays count n old tried.0 tried.1 holds)

pub end_keeps : {B L : Type 0} (ports : Ports B L) (P : NodeState → ClaimState B → Type 0) → StaysOver ports.state P → (count : ℕ) (fault : GrantFault)
    (old new : Desk B L) → IsTryResult ports count (Err fault) old new → P old.node old.claims → P new.node new.claims
end_keeps ports P stays count fault old new (inl made) holds =
    comes_keeps ports.state P stays made.made.outcome old.node old.claims (Err fault) new.node new.claims made.comes holds
end_keeps ports P stays count fault old new (inr (inl lacks)) holds = subst (λ (d : Desk _ _). P d.node d.claims) (sym lacks.rest) holds
end_keeps ports P stays count fault old new (inr (inr none)) holds = subst (λ (d : Desk _ _). P d.node d.claims) (sym none.1) holds

ungranted_keeps : {B L : Type 0} (ports : Ports B L) (P : NodeState → ClaimState B → Type 0) → StaysOver ports.state P → (count : ℕ) (fault : GrantFault)
    (old new : Desk B L) → IsUngranted ports count fault old new → P old.node old.claims → P new.node new.claims
ungranted_keeps ports P stays count fault old new not holds =
    end_keeps ports P stays count fault not.mid new not.ends (tries_keep ports P stays count not.tries old not.mid not.tried holds)

-- Where units were granted it holds before they were drawn, and else at the end.
abbrev pub LeavesGrant : {B L : Type 0} → (NodeState → ClaimState B → Type 0) → ℕ → Result Span GrantFault → Desk B L → Type 0
LeavesGrant {B} {L} P count (Ok drawn) new = (mid : Desk B L) × P mid.node mid.claims × Draws count drawn mid new
LeavesGrant P count (Err fault) new = P new.node new.claims

pub grant_keeps : {B L : Type 0} (ports : Ports B L) (P : NodeState → ClaimState B → Type 0) → StaysOver ports.state P → (count : ℕ)
    (result : Result Span GrantFault) (old new : Desk B L) → IsGrantOf ports count result old new → P old.node old.claims → LeavesGrant P count result new
grant_keeps ports P stays count (Ok drawn) old new granted holds =
    (granted.mid, tries_keep ports P stays count granted.tries old granted.mid granted.tried holds, granted.draws)
grant_keeps ports P stays count (Err (grant.Lease fault)) old new not holds = ungranted_keeps ports P stays count (grant.Lease fault) old new not holds
grant_keeps ports P stays count (Err grant.NoMemory) old new not holds = ungranted_keeps ports P stays count grant.NoMemory old new not holds
grant_keeps ports P stays count (Err (grant.NoBlock wants)) old new not holds = tries_keep ports P stays count wants old new not.tried holds
grant_keeps ports P stays count (Err grant.Broker) old new not holds = ungranted_keeps ports P stays count grant.Broker old new not holds

-- ---- sessions

-- it stays true over what is drawn
abbrev pub StaysDrawn : {B : Type 0} → (NodeState → ClaimState B → Type 0) → Type 0
StaysDrawn {B} P = (node : NodeState) (claims : ClaimState B) (left : Option Span) → P node claims → P (keeping node left) claims

pub led_keeps : {B L : Type 0} (ports : Ports B L) (P : NodeState → ClaimState B → Type 0) → StaysOver ports.state P → StaysDrawn P
    → (jobs : VerifierJobs) (old new : Desk B L) (note : SessionNote L) → IsLed ports jobs old new note → P old.node old.claims → P new.node new.claims
led_keeps {B} {L} ports P stays drawn jobs old new note led holds = by led.answer led.moved where
  granted : (a : Result Span GrantFault) → LeavesGrant P (size_of jobs note) a new → P new.node new.claims
  granted (Ok s) left = subst (λ (d : Desk B L). P d.node d.claims) (sym left.2.rest) (drawn left.0.node left.0.claims _ left.1)
  granted (Err fault) left = left

  by : (answer : Option (Result Span GrantFault)) → MatchOption answer (new ≡ old) (λ a. IsGrantOf ports (size_of jobs note) a old new)
      → P new.node new.claims
  by None same = subst (λ (d : Desk B L). P d.node d.claims) (sym same) holds
  by (Some a) moved = granted a (grant_keeps ports P stays (size_of jobs note) a old new moved holds)

pub have_led_keep : {B L : Type 0} (ports : Ports B L) (P : NodeState → ClaimState B → Type 0) → StaysOver ports.state P → StaysDrawn P
    → (jobs : VerifierJobs) (n : ℕ) (first new : Desk B L) (notes : List (SessionNote L)) → HaveLed ports jobs n first new notes
    → P first.node first.claims → P new.node new.claims
have_led_keep {B} {L} ports P stays drawn jobs zero first new notes led holds = subst (λ (d : Desk B L). P d.node d.claims) (sym led.0) holds
have_led_keep ports P stays drawn jobs (suc n) first new notes led holds =
    let mid = led.0 in
    led_keeps ports P stays drawn jobs (record mid { door = led.4.door; tries = [] }) new led.2 led.4.led
    (have_led_keep ports P stays drawn jobs n first mid led.1 led.3 holds)
