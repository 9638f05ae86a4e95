-- What a node grants units with.
use Rattle.std.specs.Prelude.{◌≡◌, ℕ, ◌+◌, ◌≤◌, List, false, true, Some, IfSome}
use Rattle.zk_model.specs.declared.Span.{Span}
use Rattle.zk_port.specs.Doors.{DoorState}
use Rattle.claim_store.specs.Claims.{ClaimState}
use Rattle.broker_core.specs.Nodes.{drawn_part, left_part, may_draw}
use Rattle.broker_links.specs.declared.note.Try.{Try}
use Rattle.broker_node.specs.NodeStates.{NodeState, keeping}

-- the node, the store of its claims, the door by which it calls its broker, and the tries that it made
pub record Desk (B L : Type 0) : Type 0 where
  pub node : NodeState
  pub claims : ClaimState B
  pub door : DoorState
  pub tries : List (Try L)

-- by these
abbrev pub desk : {B L : Type 0} → NodeState → ClaimState B → DoorState → List (Try L) → Desk B L
desk node claims door tries = record { node = node; claims = claims; door = door; tries = tries }

-- the block that the node holds, if any, ends at or below the total
abbrev pub IsHeldWithin : NodeState → ℕ → Type 0
IsHeldWithin node total = IfSome node.own.block (λ s. s.end ≤ total)

-- of its block are left fewer units than these
abbrev pub HasTooFew : {B L : Type 0} → ℕ → Desk B L → Type 0
HasTooFew count now = may_draw now.node.own.block count ≡ false

-- it draws these units, so many, from its block
pub record Draws {B L : Type 0} (count : ℕ) (drawn : Span) (old new : Desk B L) : Type 0 where
  pub block : Span
  pub held : old.node.own.block ≡ Some block
  pub enough : may_draw (Some block) count ≡ true
  pub drawn_is : drawn ≡ drawn_part block count
  pub rest : new ≡ record old { node = keeping old.node (Some (left_part block count)) }
