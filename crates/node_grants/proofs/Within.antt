-- What a node draws ends at or below the total.
use Rattle.std.proofs.Common.{◌≡◌, ℕ, zero, suc, ◌+◌, ◌≤◌, Bool, true, false, refl, sym, ap, ◌∙◌, subst, arith, inl, inr, Option, None, Some}
use Rattle.std.specs.Prelude.{Result, Ok, Err, IfOk, IfSome}
use Rattle.std.proofs.lemmas.Bool.{leb-true}
use Rattle.zk_model.specs.declared.Span.{Span}
use Rattle.zk_model.specs.declared.messages.Block.{Block}
use Rattle.zk_port.specs.Disks.{DiskState}
use Rattle.lease_store.specs.declared.grantor.GrantFault.{GrantFault}
use Rattle.lease_store.specs.declared.grantor.GrantFault.TheVariants as grant
use Rattle.broker_core.specs.Nodes.{may_draw}
use Rattle.claim_store.specs.Claims.{ClaimState}
use Rattle.claim_store.specs.declared.ClaimFault.{ClaimFault}
use Rattle.broker_links.specs.declared.note.TryOutcome.{TryOutcome}
use Rattle.broker_links.specs.declared.note.TryOutcome.TheVariants as outcome
use Rattle.broker_node.specs.NodeStates.{IsTakeOf, NodeState, holding}
use Rattle.node_grants.specs.Desks.{Desk, Draws, IsHeldWithin}
use Rattle.node_grants.specs.Grants.{ComesTo, IsGrantOf, IsGranted, IsTaken, IsTryResult, IsUngranted, MakesTry, Ports, TakesTo, Tried}
use Rattle.node_grants.specs.declared.seeking.TheConstants.{TRIES}

-- the store's total stays, and the block that the node then holds ends within it
pub record StaysWithin {B : Type 0} (claims : ClaimState B) (now : NodeState) (new : ClaimState B) : Type 0 where
  pub total : new.total ≡ claims.total
  pub within : IsHeldWithin now claims.total

taken_within : {B : Type 0} (node : NodeState) (claims : ClaimState B) (b : Block) (answer : Result Bool ClaimFault) (now : NodeState) (new : ClaimState B)
    → IsHeldWithin node claims.total → IsTakeOf node claims b answer now new → StaysWithin claims now new
taken_within node claims b (Ok false) now new within takes = record {
  total = ap (λ (s : ClaimState _). s.total) takes.2;
  within = subst (λ (s : NodeState). IsHeldWithin s claims.total) (sym takes.1) within;
}
taken_within node claims b (Ok true) now new within takes = record {
  total = takes.4;
  within = subst (λ (s : NodeState). IsHeldWithin s claims.total) (sym takes.1) takes.2.within;
}
taken_within node claims b (Err fault) now new within takes = record {
  total = takes.3;
  within = subst (λ (s : NodeState). IsHeldWithin s claims.total) (sym takes.1) tt;
}

same_within : {B : Type 0} (node : NodeState) (claims : ClaimState B) (now : NodeState) (new : ClaimState B)
    → IsHeldWithin node claims.total → now ≡ node → new ≡ claims → StaysWithin claims now new
same_within node claims now new within same still = record {
  total = ap (λ (s : ClaimState _). s.total) still;
  within = subst (λ (s : NodeState). IsHeldWithin s claims.total) (sym same) within;
}

comes_within : {B : Type 0} (state : B → DiskState) (of : TryOutcome) (node : NodeState) (claims : ClaimState B) (result : Result (Unit {0}) GrantFault)
    (now : NodeState) (new : ClaimState B) → IsHeldWithin node claims.total → ComesTo state of node claims result now new → StaysWithin claims now new
comes_within state (outcome.Block b) node claims result now new within comes = taken_within node claims b comes.0 now new within comes.1.taken
comes_within state (outcome.Out o) node claims result now new within comes = same_within node claims now new within comes.0 comes.1
comes_within state (outcome.PeerEnded at) node claims result now new within comes = same_within node claims now new within comes.0 comes.1
comes_within state (outcome.BadFrame place) node claims result now new within comes = same_within node claims now new within comes.0 comes.1
comes_within state outcome.Link node claims result now new within comes = same_within node claims now new within comes.0 comes.1
comes_within state outcome.NoMemory node claims result now new within comes = same_within node claims now new within comes.0 comes.1

-- through tries
pub tried_within : {B L : Type 0} (ports : Ports B L) (count n : ℕ) (old new : Desk B L) → IsHeldWithin old.node old.claims.total
    → Tried ports count n old new → StaysWithin old.claims new.node new.claims
tried_within ports count zero old new within tried = same_within old.node old.claims new.node new.claims within
    (ap (λ (d : Desk _ _). d.node) tried) (ap (λ (d : Desk _ _). d.claims) tried)
tried_within ports count (suc n) old new within tried =
    let before = tried_within ports count n old tried.0 within tried.1 in
    let try = tried.3 in
    let last = comes_within ports.state try.made.outcome tried.0.node tried.0.claims (Ok tt) new.node new.claims
    (subst (λ (t : ℕ). IsHeldWithin tried.0.node t) (sym before.total) before.within) try.comes in
    record {
      total = last.total ∙ before.total;
      within = subst (λ (t : ℕ). IsHeldWithin new.node t) before.total last.within;
    }

-- ---- a grant

drawn_within : {B L : Type 0} (count total : ℕ) (s : Span) (old new : Desk B L) → IsHeldWithin old.node total → Draws count s old new → s.end ≤ total
drawn_within count total s old new within draws =
    subst (λ (d : Span). d.end ≤ total) (sym draws.drawn_is) (by_enough draws.block (subst (λ (b : Option Span). IfSome b (λ h. h.end ≤ total)) draws.held within) draws.enough) where
      by_enough : (b : Span) → b.end ≤ total → may_draw (Some b) count ≡ true → b.start + count ≤ total
      by_enough b ends enough = let few = leb-true (b.start + count) b.end enough in omega (arith, few, ends)

-- what is left of its block lies within the total too
drawn_stays : {B L : Type 0} (count : ℕ) (s : Span) (old new : Desk B L) → IsHeldWithin old.node old.claims.total → Draws count s old new
    → StaysWithin old.claims new.node new.claims
drawn_stays count s old new within draws = record {
  total = ap (λ (d : Desk _ _). d.claims.total) draws.rest;
  within = subst (λ (n : NodeState). IsHeldWithin n old.claims.total) (sym (ap (λ (d : Desk _ _). d.node) draws.rest))
      (subst (λ (b : Option Span). IfSome b (λ h. h.end ≤ old.claims.total)) draws.held within);
}

-- a try that ended a grant
ended_within : {B L : Type 0} (ports : Ports B L) (count : ℕ) (fault : GrantFault) (old new : Desk B L) → IsHeldWithin old.node old.claims.total
    → IsTryResult ports count (Err fault) old new → StaysWithin old.claims new.node new.claims
ended_within ports count fault old new within (inl made) =
    comes_within ports.state made.made.outcome old.node old.claims (Err fault) new.node new.claims within made.comes
ended_within ports count fault old new within (inr (inl lacks)) =
    same_within old.node old.claims new.node new.claims within (ap (λ (d : Desk _ _). d.node) lacks.rest) (ap (λ (d : Desk _ _). d.claims) lacks.rest)
ended_within ports count fault old new within (inr (inr none)) =
    same_within old.node old.claims new.node new.claims within (ap (λ (d : Desk _ _). d.node) none.1) (ap (λ (d : Desk _ _). d.claims) none.1)

pub granted_within : {B L : Type 0} (ports : Ports B L) (count : ℕ) (result : Result Span GrantFault) (old new : Desk B L)
    → IsHeldWithin old.node old.claims.total → IsGrantOf ports count result old new → IfOk result (λ s. s.end ≤ old.claims.total)
granted_within ports count (Ok s) old new within granted =
    drawn_within count old.claims.total s granted.mid new (tried_within ports count granted.tries old granted.mid within granted.tried).within granted.draws
granted_within ports count (Err fault) old new within granted = tt

-- one thing after another
stays_then : {B : Type 0} (claims : ClaimState B) (mid now : NodeState) (after new : ClaimState B) → StaysWithin claims mid after
    → (IsHeldWithin mid after.total → StaysWithin after now new) → StaysWithin claims now new
stays_then claims mid now after new first next =
    let then = next (subst (λ (t : ℕ). IsHeldWithin mid t) (sym first.total) first.within) in
    record { total = then.total ∙ first.total; within = subst (λ (t : ℕ). IsHeldWithin now t) first.total then.within }

ungranted_stays : {B L : Type 0} (ports : Ports B L) (count : ℕ) (fault : GrantFault) (old new : Desk B L) → IsHeldWithin old.node old.claims.total
    → IsUngranted ports count fault old new → StaysWithin old.claims new.node new.claims
ungranted_stays ports count fault old new within not =
    stays_then old.claims not.mid.node new.node not.mid.claims new.claims (tried_within ports count not.tries old not.mid within not.tried)
    (λ held. ended_within ports count fault not.mid new held not.ends)

-- the store's total stays over a grant, and what is left of the block then lies within it
pub granted_stays : {B L : Type 0} (ports : Ports B L) (count : ℕ) (result : Result Span GrantFault) (old new : Desk B L)
    → IsHeldWithin old.node old.claims.total → IsGrantOf ports count result old new → StaysWithin old.claims new.node new.claims
granted_stays ports count (Ok s) old new within granted =
    stays_then old.claims granted.mid.node new.node granted.mid.claims new.claims (tried_within ports count granted.tries old granted.mid within granted.tried)
    (λ held. drawn_stays count s granted.mid new held granted.draws)
granted_stays ports count (Err (grant.Lease fault)) old new within not = ungranted_stays ports count (grant.Lease fault) old new within not
granted_stays ports count (Err grant.NoMemory) old new within not = ungranted_stays ports count grant.NoMemory old new within not
granted_stays ports count (Err (grant.NoBlock wants)) old new within not = tried_within ports count wants old new within not.tried
granted_stays ports count (Err grant.Broker) old new within not = ungranted_stays ports count grant.Broker old new within not
