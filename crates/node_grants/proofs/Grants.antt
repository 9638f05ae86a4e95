-- Tries and draws, one after another.
use Rattle.std.proofs.Common.{◌≡◌, ℕ, zero, suc, ◌+◌, ◌<◌, ◌≤◌, Bool, true, false, List, refl, sym, ap, ◌∙◌, subst, arith, inl, inr, Option, None, Some}
use Rattle.std.specs.Prelude.{Result, Ok, Err, IfSome, IsErrAnd}
use Rattle.std.proofs.lemmas.Bool.{false≢true}
use Rattle.zk_model.specs.declared.Span.{Span}
use Rattle.zk_port.specs.Doors.{DoorState}
use Rattle.lease_store.specs.declared.grantor.GrantFault.{GrantFault}
use Rattle.lease_store.specs.declared.grantor.GrantFault.TheVariants as grant
use Rattle.claim_store.specs.Claims.{ClaimState}
use Rattle.claim_store.specs.declared.ClaimFault.{ClaimFault}
use Rattle.claim_store.specs.declared.ClaimFault.TheVariants.{Broken, OutOfRange, Overlap, Full, Device, NoMemory}
use Rattle.broker_core.specs.Nodes.{drawn_part, left_part, may_draw}
use Rattle.broker_links.specs.declared.note.Try.{Try}
use Rattle.broker_links.specs.declared.note.TryOutcome.{TryOutcome}
use Rattle.broker_links.specs.declared.note.TryOutcome.TheVariants as outcome
use Rattle.broker_node.specs.NodeStates.{NodeState, keeping}
use Rattle.node_grants.specs.Desks.{Desk, Draws, HasTooFew, desk}
use Rattle.node_grants.specs.Grants.{ComesTo, HasNoBlock, IsGrantOf, IsTryResult, IsUngranted, MakesTry, Ports, Tried, claim_end}
use Rattle.node_grants.specs.declared.seeking.TheConstants.{TRIES}

-- a try that was made is what it comes to
pub made_to : {B L : Type 0} (ports : Ports B L) (count : ℕ) (result : Result (Unit {0}) GrantFault) (old new : Desk B L)
    → MakesTry ports count result old new → IsTryResult ports count result old new
made_to ports count (Ok done) old new made = made
made_to ports count (Err fault) old new made = inl made

-- what a draw that gives units says
pub draws_by : {B L : Type 0} (count : ℕ) (node now : NodeState) (claims : ClaimState B) (door : DoorState) (tries : List (Try L)) (s : Span)
    → may_draw node.own.block count ≡ true → IfSome node.own.block (λ b. s ≡ drawn_part b count)
    → IfSome node.own.block (λ b. now ≡ keeping node (Some (left_part b count)))
    → Draws count s (desk node claims door tries) (desk now claims door tries)
draws_by {B} {L} count node now claims door tries s = by_block node.own.block refl where
  by_block : (block : Option Span) → node.own.block ≡ block → may_draw block count ≡ true → IfSome block (λ b. s ≡ drawn_part b count)
      → IfSome block (λ b. now ≡ keeping node (Some (left_part b count)))
      → Draws {B = B} {L = L} count s (desk node claims door tries) (desk now claims door tries)
  by_block None is may drawn left = absurd (false≢true may)
  by_block (Some b) is may drawn left = record {
    block = b;
    held = is;
    enough = may;
    drawn_is = drawn;
    rest = ap (λ (n : NodeState). desk n claims door tries) left;
  }

-- no try ends by this
no_block : {B L : Type 0} (ports : Ports B L) (count wants : ℕ) (old new : Desk B L) → ¬ IsTryResult ports count (Err (grant.NoBlock wants)) old new
no_block ports count wants old new (inl made) = comes made.made.outcome made.comes where
  claimed : (answer : Result Bool ClaimFault) → ¬ (Err (grant.NoBlock wants) ≡ claim_end answer)
  claimed (Ok taken) is = cc
  claimed (Err (OutOfRange total)) is = cc
  claimed (Err (Overlap earlier)) is = cc
  claimed (Err (Full slots)) is = cc
  claimed (Err Device) is = cc
  claimed (Err (Broken first)) is = cc
  claimed (Err NoMemory) is = cc

  comes : (of : TryOutcome) → ¬ ComesTo ports.state of old.node old.claims (Err (grant.NoBlock wants)) new.node new.claims
  comes (outcome.Block b) to = claimed to.0 to.2
  comes (outcome.Out o) to = let is = to.2 in cc
  comes (outcome.PeerEnded at) to = let is = to.2 in cc
  comes (outcome.BadFrame place) to = let is = to.2 in cc
  comes outcome.Link to = let is = to.2 in cc
  comes outcome.NoMemory to = let is = to.2 in cc
no_block ports count wants old new (inr (inl lacks)) = lacks.cause
no_block ports count wants old new (inr (inr none)) = let is = none.0 in cc

-- a try that ends a grant, behind so many that went on
pub ends_by : {B L : Type 0} (ports : Ports B L) (count tries : ℕ) (old mid new : Desk B L) (fault : GrantFault) → tries < TRIES
    → Tried ports count tries old mid → HasTooFew count mid → IsTryResult ports count (Err fault) mid new
    → IsGrantOf ports count (Err fault) old new
ends_by ports count tries old mid new (grant.Lease fault) few tried lacks ends =
    record { tries = tries; few = few; mid = mid; tried = tried; too_few = lacks; ends = ends }
ends_by ports count tries old mid new grant.NoMemory few tried lacks ends =
    record { tries = tries; few = few; mid = mid; tried = tried; too_few = lacks; ends = ends }
ends_by ports count tries old mid new (grant.NoBlock wants) few tried lacks ends = absurd (no_block ports count wants mid new ends)
ends_by ports count tries old mid new grant.Broker few tried lacks ends =
    record { tries = tries; few = few; mid = mid; tried = tried; too_few = lacks; ends = ends }

-- one try more
pub next_tried : {B L : Type 0} (ports : Ports B L) (count n : ℕ) (old mid new : Desk B L) → Tried ports count n old mid → HasTooFew count mid
    → MakesTry ports count (Ok tt) mid new → Tried ports count (n + 1) old new
next_tried ports count n old mid new tried lacks made = subst (λ (m : ℕ). Tried ports count m old new) one_more (mid, tried, lacks, made) where
  one_more : suc n ≡ n + 1
  one_more = omega arith

-- an answer that is this fault
pub errs_by : {B L : Type 0} (ports : Ports B L) (count : ℕ) (result : Result Span GrantFault) (fault : GrantFault) (old new : Desk B L)
    → IsErrAnd result (λ e. e ≡ fault) → IsGrantOf ports count (Err fault) old new → IsGrantOf ports count result old new
errs_by ports count (Ok s) fault old new is granted = elim is [ ]
errs_by ports count (Err e) fault old new is granted = subst (λ (f : GrantFault). IsGrantOf ports count (Err f) old new) (sym is) granted

-- all tries went on
pub none_by : {B L : Type 0} (ports : Ports B L) (count n : ℕ) (old new : Desk B L) → n ≡ TRIES → Tried ports count n old new → HasTooFew count new
    → HasNoBlock ports count TRIES old new
none_by ports count n old new all tried lacks = subst (λ (m : ℕ). HasNoBlock ports count m old new) all (record { all = all; tried = tried; too_few = lacks })

-- tries that went on, behind which too few units are left, with the node as it was before it was asked for them
pub record TriedTo {B L : Type 0} (ports : Ports B L) (count n : ℕ) (old new : Desk B L) : Type 0 where
  pub tried : Tried ports count n old new
  pub too_few : HasTooFew count new

pub still_tried : {B L : Type 0} (ports : Ports B L) (count n : ℕ) (old : Desk B L) (node now : NodeState) (claims : ClaimState B) (door : DoorState)
    (tries : List (Try L)) → now ≡ node → may_draw node.own.block count ≡ false → Tried ports count n old (desk node claims door tries)
    → TriedTo ports count n old (desk now claims door tries)
still_tried ports count n old node now claims door tries same lacks tried = record {
  tried = subst (λ (s : NodeState). Tried ports count n old (desk s claims door tries)) (sym same) tried;
  too_few = subst (λ (s : NodeState). may_draw s.own.block count ≡ false) (sym same) lacks;
}
