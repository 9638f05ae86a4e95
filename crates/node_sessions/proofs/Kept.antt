-- The sessions of a node keep what its store claims.
use Rattle.std.proofs.Common.{◌≡◌, ◌≢◌, ◌≤◌, ℕ, zero, suc, Bool, true, false, List, length, refl, sym, ap, ◌∙◌, subst, arith}
use Rattle.std.specs.Prelude.{Result, Ok, Err}
use Rattle.zk_model.specs.declared.Span.{Span}
use Rattle.zk_model.specs.declared.messages.Block.{Block}
use Rattle.zk_port.specs.Counts.{Rose}
use Rattle.zk_port.specs.Disks.{DiskState}
use Rattle.zk_port.specs.Links.{LinkState}
use Rattle.claim_store.specs.ClaimedRanges.{is_claimed}
use Rattle.claim_store.specs.Causes.{ClaimCause}
use Rattle.claim_store.specs.Claims.{ClaimState}
use Rattle.claim_store.specs.declared.ClaimFault.{ClaimFault}
use Rattle.claim_store.specs.declared.ClaimFault.TheVariants.{Broken, OutOfRange, Overlap, Full, Device, NoMemory}
use Rattle.broker_core.specs.Messages.{units_of}
use Rattle.broker_node.specs.NodeStates.{IsTakeOf, NodeState}
use Rattle.session_core.specs.Jobs.{VerifierJobs}
use Rattle.session_verifier.specs.declared.note.SessionNote.{SessionNote}
use Rattle.node_grants.specs.Desks.{Desk}
use Rattle.node_grants.specs.Grants.{IsTaken, Ports, ports_of}
use Rattle.node_sessions.specs.Sessions.{HaveLed}
use Rattle.node_sessions.specs.Laws.{ClaimsAreKept, ClaimsStay}
use Rattle.node_sessions.proofs.Held.{claimed_before}
use Rattle.node_sessions.proofs.Walks.{StaysDrawn, StaysOver, have_led_keep}

pub keeps_all : {B : Type 0} (state : B → DiskState) (claims : ClaimState B) → ClaimsStay state claims claims
keeps_all state claims = record {
  kept = λ unit claimed. claimed;
  total = refl;
  begin = refl;
  slots = refl;
  faults = omega arith;
  broken = λ fault. refl;
  ended = λ whole other. absurd (other whole);
}

rose_first : (a b c : ℕ) → Rose a b → b ≤ c → Rose a c
rose_first a b c rose next = omega (arith, rose, next)

rose_second : (a b c : ℕ) → a ≤ b → Rose b c → Rose a c
rose_second a b c one rose = omega (arith, one, rose)

-- a fault of the disk in the first part, or in the second
ended_then : {B : Type 0} (state : B → DiskState) (old mid new : ClaimState B) → ClaimsStay state old mid → ClaimsStay state mid new
    → old.fault ≡ 0 → new.fault ≢ 0 → Rose (state old.disk).faults (state new.disk).faults
ended_then {B} state old mid new one next whole other = by mid.fault refl where
  by : (n : ℕ) → mid.fault ≡ n → Rose (state old.disk).faults (state new.disk).faults
  by zero is = rose_second (state old.disk).faults (state mid.disk).faults (state new.disk).faults one.faults (next.ended is other)
  by (suc n) is =
      let some : mid.fault ≢ 0 = λ none. absurd (omega (arith, is, none)) in
      rose_first (state old.disk).faults (state mid.disk).faults (state new.disk).faults (one.ended whole some) next.faults

pub keeps_then : {B : Type 0} (state : B → DiskState) (old mid new : ClaimState B) → ClaimsStay state old mid → ClaimsStay state mid new
    → ClaimsStay state old new
keeps_then {B} state old mid new one next = record {
  kept = λ unit claimed. next.kept unit (one.kept unit claimed);
  total = next.total ∙ one.total;
  begin = next.begin ∙ one.begin;
  slots = next.slots ∙ one.slots;
  faults = let a = one.faults in let b = next.faults in omega (arith, a, b);
  broken = λ fault. let same = one.broken fault in next.broken (subst (λ (c : ClaimState B). c.fault ≢ 0) (sym same) fault) ∙ same;
  ended = ended_then state old mid new one next;
}

-- what a refused claim leaves of a store that a fault ended
refused_broken : {B : Type 0} (state : B → DiskState) (claims : ClaimState B) (b : Block) (fault : ClaimFault) (new : ClaimState B) → claims.fault ≢ 0
    → ClaimCause claims b.start b.count new (state claims.disk).faults (state new.disk).faults fault → new ≡ claims
refused_broken state claims b (Broken first) new ended cause = cause.1
refused_broken state claims b (OutOfRange total) new ended cause = cause.1
refused_broken state claims b (Overlap earlier) new ended cause = cause.1
refused_broken state claims b (Full slots) new ended cause = cause.1
refused_broken state claims b NoMemory new ended cause = cause.1
refused_broken state claims b Device new ended cause = absurd (ended cause.0.whole)

-- what a refused claim leaves of a store that had no fault
refused_ended : {B : Type 0} (state : B → DiskState) (claims : ClaimState B) (b : Block) (fault : ClaimFault) (new : ClaimState B) → claims.fault ≡ 0
    → new.fault ≢ 0 → ClaimCause claims b.start b.count new (state claims.disk).faults (state new.disk).faults fault
    → Rose (state claims.disk).faults (state new.disk).faults
refused_ended {B} state claims b (Broken first) new whole other cause = absurd (other (ap (λ (c : ClaimState B). c.fault) cause.1 ∙ whole))
refused_ended {B} state claims b (OutOfRange total) new whole other cause = absurd (other (ap (λ (c : ClaimState B). c.fault) cause.1 ∙ whole))
refused_ended {B} state claims b (Overlap earlier) new whole other cause = absurd (other (ap (λ (c : ClaimState B). c.fault) cause.1 ∙ whole))
refused_ended {B} state claims b (Full slots) new whole other cause = absurd (other (ap (λ (c : ClaimState B). c.fault) cause.1 ∙ whole))
refused_ended {B} state claims b NoMemory new whole other cause = absurd (other (ap (λ (c : ClaimState B). c.fault) cause.1 ∙ whole))
refused_ended state claims b Device new whole other cause = cause.1

-- what a Block does to the claims in memory
record TakesClaims {B : Type 0} (state : B → DiskState) (old new : ClaimState B) : Type 0 where
  pub kept : (unit : ℕ) → is_claimed old.claims unit ≡ true → is_claimed new.claims unit ≡ true
  pub total : new.total ≡ old.total
  pub broken : old.fault ≢ 0 → new ≡ old
  pub ended : old.fault ≡ 0 → new.fault ≢ 0 → Rose (state old.disk).faults (state new.disk).faults

taken_claims : {B : Type 0} (state : B → DiskState) (node : NodeState) (claims : ClaimState B) (b : Block) (answer : Result Bool ClaimFault) (now : NodeState)
    (new : ClaimState B) → IsTaken state node claims b answer now new → IsTakeOf node claims b answer now new → TakesClaims state claims new
taken_claims {B} state node claims b (Ok false) now new taken takes = record {
  kept = λ unit claimed. subst (λ (c : ClaimState B). is_claimed c.claims unit ≡ true) (sym takes.2) claimed;
  total = ap (λ (c : ClaimState B). c.total) takes.2;
  broken = λ fault. takes.2;
  ended = λ whole other. absurd (other (ap (λ (c : ClaimState B). c.fault) takes.2 ∙ whole));
}
taken_claims state node claims b (Ok true) now new taken takes = record {
  kept = λ unit claimed. claimed_before claims.claims new.claims (units_of b) unit takes.3 claimed;
  total = takes.4;
  broken = λ fault. absurd (fault takes.2.whole);
  ended = λ whole other. absurd (other (takes.5 ∙ whole));
}
taken_claims state node claims b (Err fault) now new taken takes = record {
  kept = λ unit claimed. subst (λ (l : List Span). is_claimed l unit ≡ true) (sym takes.2) claimed;
  total = takes.3;
  broken = λ ended. refused_broken state claims b fault new ended taken.cause;
  ended = λ whole other. refused_ended state claims b fault new whole other taken.cause;
}

pub taken_keeps : {B : Type 0} (state : B → DiskState) (node : NodeState) (claims : ClaimState B) (b : Block) (answer : Result Bool ClaimFault)
    (now : NodeState) (new : ClaimState B) → IsTaken state node claims b answer now new → ClaimsStay state claims new
taken_keeps state node claims b answer now new taken =
    let takes = taken_claims state node claims b answer now new taken taken.taken in
    record {
      kept = takes.kept;
      total = takes.total;
      begin = taken.begin;
      slots = taken.slots;
      faults = taken.faults_grow;
      broken = takes.broken;
      ended = takes.ended;
    }

-- ---- sessions

-- the node has this number, and these claims are kept
abbrev pub IsNodeOf : {B : Type 0} → (B → DiskState) → ℕ → ClaimState B → NodeState → ClaimState B → Type 0
IsNodeOf state number first node claims = (node.node ≡ number) × ClaimsStay state first claims

taken_number : {B : Type 0} (node : NodeState) (claims : ClaimState B) (b : Block) (answer : Result Bool ClaimFault) (now : NodeState) (new : ClaimState B)
    → IsTakeOf node claims b answer now new → now.node ≡ node.node
taken_number node claims b (Ok false) now new takes = ap (λ (n : NodeState). n.node) takes.1
taken_number node claims b (Ok true) now new takes = ap (λ (n : NodeState). n.node) takes.1
taken_number node claims b (Err fault) now new takes = ap (λ (n : NodeState). n.node) takes.1

pub taken_stays : {B : Type 0} (state : B → DiskState) (number : ℕ) (first : ClaimState B) → StaysOver state (IsNodeOf state number first)
taken_stays state number first node claims b answer now new taken is =
    (taken_number node claims b answer now new taken.taken ∙ is.0, keeps_then state first claims new is.1 (taken_keeps state node claims b answer now new taken))

pub drawn_stays : {B : Type 0} (state : B → DiskState) (number : ℕ) (first : ClaimState B) → StaysDrawn (IsNodeOf state number first)
drawn_stays state number first node claims left is = is

pub have_led_kept : {B L : Type 0} (ports : Ports B L) (jobs : VerifierJobs) (n : ℕ) (first new : Desk B L) (notes : List (SessionNote L))
    → HaveLed ports jobs n first new notes → IsNodeOf ports.state first.node.node first.claims new.node new.claims
have_led_kept ports jobs n first new notes led =
    have_led_keep ports (IsNodeOf ports.state first.node.node first.claims) (taken_stays ports.state first.node.node first.claims)
    (drawn_stays ports.state first.node.node first.claims) jobs n first new notes led (refl, keeps_all ports.state first.claims)

pub claims_are_kept : {B L : Type 0} (tells : L → LinkState) (state : B → DiskState) → ClaimsAreKept tells state
claims_are_kept {B} tells state broker patience jobs sessions first door claims door_failed memory_failed notes none serves =
    subst (λ (c : ClaimState B). ClaimsStay state first.claims c) (sym serves.claims_are)
    (have_led_kept (ports_of tells state broker patience) jobs (length notes) first serves.last notes serves.led).1
