-- Sessions that are led one after another.
use Rattle.std.proofs.Common.{◌≡◌, ℕ, suc, ◌+◌, ◌≤◌, List, [], ◌∷◌, ◌++◌, length, Bool, true, false, Option, None, Some, refl, sym, ap, ◌∙◌, subst, inr, arith, length-append, true≢false}
use Rattle.std.specs.Prelude.{Result, MatchOption}
use Rattle.zk_model.specs.declared.Span.{Span}
use Rattle.lease_store.specs.declared.grantor.GrantFault.{GrantFault}
use Rattle.session_core.specs.Jobs.{VerifierJobs}
use Rattle.session_verifier.specs.declared.note.SessionNote.{SessionNote}
use Rattle.zk_port.specs.Counts.{Rose}
use Rattle.zk_port.specs.Doors.{DoorState, OnlyTakes, after_refused_next}
use Rattle.claim_store.specs.Claims.{ClaimState}
use Rattle.broker_links.specs.declared.note.Try.{Try}
use Rattle.broker_node.specs.NodeStates.{NodeState}
use Rattle.node_grants.specs.Desks.{Desk, IsHeldWithin, desk}
use Rattle.node_grants.specs.Grants.{IsGrantOf, Ports}
use Rattle.node_grants.proofs.Within.{StaysWithin, granted_stays}
use Rattle.node_sessions.specs.Sessions.{EndsServing, HaveLed, HoldsWithin, IsLed, LeadsNext, ServesAsNode}

-- what became of one who grants is what became of what it grants with
pub moved_by : {G B L : Type 0} (ports : Ports B L) (count : ℕ) (with_it : G → Desk B L) (Moves : Result Span GrantFault → Type 0)
    (answer : Option (Result Span GrantFault)) (old new : G) → MatchOption answer (new ≡ old) Moves
    → ((a : Result Span GrantFault) → Moves a → IsGrantOf ports count a (with_it old) (with_it new))
    → MatchOption answer (with_it new ≡ with_it old) (λ a. IsGrantOf ports count a (with_it old) (with_it new))
moved_by ports count with_it Moves None old new same grants = ap with_it same
moved_by ports count with_it Moves (Some a) old new moved grants = grants a moved

-- the total stays, and what the node holds lies within it
pub led_stays : {B L : Type 0} (ports : Ports B L) (count : ℕ) (answer : Option (Result Span GrantFault)) (old new : Desk B L)
    → IsHeldWithin old.node old.claims.total → MatchOption answer (new ≡ old) (λ a. IsGrantOf ports count a old new)
    → StaysWithin old.claims new.node new.claims
led_stays ports count None old new within same = record {
  total = ap (λ (d : Desk _ _). d.claims.total) same;
  within = subst (λ (d : Desk _ _). IsHeldWithin d.node old.claims.total) (sym same) within;
}
led_stays ports count (Some a) old new within granted = granted_stays ports count a old new within granted

-- a desk with no tries yet, whose list of them is this
pub untried : {B L : Type 0} (P : Desk B L → Type 0) (node : NodeState) (claims : ClaimState B) (door : DoorState) (tries : List (Try L)) → tries ≡ []
    → P (desk node claims door tries) → P (desk node claims door [])
untried P node claims door tries none holds = subst (λ (t : List (Try _)). P (desk node claims door t)) none holds

-- a session that leaves these, which are those
pub led_to : {B L : Type 0} (ports : Ports B L) (jobs : VerifierJobs) (old : Desk B L) (node some_node : NodeState) (claims some_claims : ClaimState B)
    (door some_door : DoorState) (tries some_tries : List (Try L)) (note : SessionNote L) → node ≡ some_node → claims ≡ some_claims → door ≡ some_door
    → tries ≡ some_tries → IsLed ports jobs old (desk some_node some_claims some_door some_tries) note
    → IsLed ports jobs old (desk node claims door tries) note
led_to ports jobs old node some_node claims some_claims door some_door tries some_tries note is_node is_claims is_door is_tries led =
    subst (λ (d : Desk _ _). IsLed ports jobs old d note)
    (λ i. desk (sym is_node i) (sym is_claims i) (sym is_door i) (sym is_tries i)) led

pub holds_to : {B : Type 0} (old : ClaimState B) (node some_node : NodeState) (claims some_claims : ClaimState B) → node ≡ some_node
    → claims ≡ some_claims → StaysWithin old some_node some_claims → HoldsWithin old node claims
holds_to old node some_node claims some_claims is_node is_claims stays =
    subst (λ (q : NodeState × ClaimState _). HoldsWithin old q.0 q.1) (λ i. (sym is_node i, sym is_claims i))
    (record { total = stays.total; within = subst (λ (t : ℕ). IsHeldWithin some_node t) (sym stays.total) stays.within })

-- one session more
pub led_more : {B L : Type 0} (ports : Ports B L) (jobs : VerifierJobs) (n : ℕ) (old mid new : Desk B L) (before notes : List (SessionNote L))
    (last : SessionNote L) → HaveLed ports jobs n old mid before → LeadsNext ports jobs mid new last → notes ≡ before ++ last ∷ []
    → HaveLed ports jobs (n + 1) old new notes
led_more ports jobs n old mid new before notes last led next is =
    subst (λ (m : ℕ). HaveLed ports jobs m old new notes) one_more (mid, before, last, led, next, is) where
      one_more : suc n ≡ n + 1
      one_more = omega arith

-- so many sessions were led, behind which the node, its claims and the door are these
pub record IsLedSoFar {B L : Type 0} (ports : Ports B L) (jobs : VerifierJobs) (first : Desk B L) (node : NodeState) (claims : ClaimState B) (door : DoorState)
    (notes : List (SessionNote L)) (n : ℕ) : Type 0 where
  pub tries : List (Try L)
  pub led : HaveLed ports jobs n first (desk node claims door tries) notes
  pub count : length notes ≡ n
  pub total : claims.total ≡ jobs.first.task.file.params.total
  pub within : IsHeldWithin node claims.total

pub led_none : {B L : Type 0} (ports : Ports B L) (jobs : VerifierJobs) (node : NodeState) (claims : ClaimState B) (door : DoorState)
    (notes : List (SessionNote L)) → notes ≡ [] → claims.total ≡ jobs.first.task.file.params.total → IsHeldWithin node claims.total
    → IsLedSoFar ports jobs (desk node claims door []) node claims door notes 0
led_none ports jobs node claims door notes none total within = record {
  tries = [];
  led = (refl, none);
  count = ap length none;
  total = total;
  within = within;
}

pub led_next : {B L : Type 0} (ports : Ports B L) (jobs : VerifierJobs) (first : Desk B L) (node now : NodeState) (claims new : ClaimState B)
    (door taken after : DoorState) (notes more : List (SessionNote L)) (last : SessionNote L) (tries : List (Try L)) (n : ℕ)
    → IsLedSoFar ports jobs first node claims door notes n → door.left ≡ taken.left + 1 → OnlyTakes door taken
    → IsLed ports jobs (desk node claims taken []) (desk now new after tries) last → HoldsWithin claims now new → more ≡ notes ++ last ∷ []
    → IsLedSoFar ports jobs first now new after more (n + 1)
led_next ports jobs first node now claims new door taken after notes more last tries n far one takes led holds is = record {
  tries = tries;
  led = led_more ports jobs n first (desk node claims door far.tries) (desk now new after tries) notes more last far.led
      (record { door = taken; one = one; taken = takes; led = led }) is;
  count = let counted = far.count in omega (arith, ap length is, length-append notes (last ∷ []), counted);
  total = holds.total ∙ far.total;
  within = holds.within;
}

-- what is left where they end so
pub serves_by : {B L : Type 0} (ports : Ports B L) (jobs : VerifierJobs) (sessions : ℕ) (first : Desk B L) (node : NodeState) (claims : ClaimState B)
    (last door : DoorState) (door_failed memory_failed : Bool) (notes : List (SessionNote L)) (n : ℕ)
    → IsLedSoFar ports jobs first node claims last notes n → n ≤ sessions → EndsServing sessions n door_failed memory_failed last door
    → ServesAsNode ports jobs sessions first door claims door_failed memory_failed notes
serves_by ports jobs sessions first node claims last door door_failed memory_failed notes n far few ends = record {
  last = desk node claims last far.tries;
  led = subst (λ (m : ℕ). HaveLed ports jobs m first (desk node claims last far.tries) notes) (sym far.count) far.led;
  most = let counted = far.count in omega (arith, counted, few);
  ends = subst (λ (m : ℕ). EndsServing sessions m door_failed memory_failed last door) (sym far.count) ends;
  claims_are = refl;
}

-- the door failed, or found no memory, when it was asked for the next link
pub ends_failed : (sessions n : ℕ) (last now : DoorState) → now ≡ after_refused_next now.next_faults last → Rose last.next_faults now.next_faults
    → (memory_failed : Bool) → memory_failed ≡ false → EndsServing sessions n true memory_failed last now
ends_failed sessions n last now refused rose false calm = (rose, refused)
ends_failed sessions n last now refused rose true calm = absurd (true≢false calm)

pub ends_lacking : (sessions n : ℕ) (last now : DoorState) → now ≡ after_refused_next now.next_faults last → now.next_faults ≡ last.next_faults
    → (door_failed : Bool) → door_failed ≡ false → EndsServing sessions n door_failed true last now
ends_lacking sessions n last now refused still false calm =
    inr (subst (λ (f : ℕ). now ≡ after_refused_next f last) still refused)
ends_lacking sessions n last now refused still true calm = absurd (true≢false calm)

-- nothing failed
pub ends_calm : (sessions n : ℕ) (last now : DoorState) (door_failed memory_failed : Bool) → door_failed ≡ false → memory_failed ≡ false
    → EndsServing sessions n false false last now → EndsServing sessions n door_failed memory_failed last now
ends_calm sessions n last now false false calm still ends = ends
ends_calm sessions n last now true memory_failed calm still ends = absurd (true≢false calm)
ends_calm sessions n last now false true calm still ends = absurd (true≢false still)
