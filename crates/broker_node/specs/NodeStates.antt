-- A node by its number and what the world keeps of it.
use Rattle.std.specs.Prelude.{◌≡◌, ℕ, Bool, true, false, ◌&&◌, Option, None, Some, List, [], ◌∷◌, ◌++◌, Result, Ok, Err, nat_eq}
use Rattle.zk_model.specs.declared.Span.{Span}
use Rattle.claim_store.specs.Causes.{IsFree}
use Rattle.claim_store.specs.ClaimedRanges.{AreMerged}
use Rattle.claim_store.specs.Claims.{ClaimState}
use Rattle.claim_store.specs.declared.ClaimFault.{ClaimFault}
use Rattle.broker_core.specs.Messages.{units_of}
use Rattle.broker_core.specs.Nodes.{first_node, next_node, takes}
use Rattle.zk_model.specs.declared.messages.Block.{Block}
use Rattle.broker_core.specs.declared.message.Node.{Node}

pub record NodeState : Type 0 where
  pub node : ℕ
  pub own : Node

-- a node as it starts
abbrev pub starting : ℕ → NodeState
starting node = record { node = node; own = first_node }

-- the Block is for this node, which takes it
abbrev pub takes_own : NodeState → Block → Bool
takes_own state b = nat_eq state.node b.node && takes state.own b

-- the node once it took a Block and holds this of it
abbrev pub holding : NodeState → Option Span → NodeState
holding state block = record state { own = next_node state.own block }

-- the node whose block has this left
abbrev pub keeping : NodeState → Option Span → NodeState
keeping state block = record state { own = record { number = state.own.number; block = block } }

-- What taking a Block does, by its answer. False: the node does not take it, and all is as it was. True: its units were free, and are
-- claimed, and the node holds them. A fault: the node takes it, and holds nothing; the claims are as they were, in memory.
abbrev pub IsTakeOf : {D : Type 0} → NodeState → ClaimState D → Block → Result Bool ClaimFault → NodeState → ClaimState D → Type 0
IsTakeOf state claims b (Ok false) now new = (takes_own state b ≡ false) × (now ≡ state) × (new ≡ claims)
IsTakeOf state claims b (Ok true) now new =
    (takes_own state b ≡ true) × (now ≡ holding state (Some (units_of b)))
    × IsFree claims b.start b.count × AreMerged (claims.claims ++ units_of b ∷ []) new.claims
    × (new.total ≡ claims.total) × (new.fault ≡ claims.fault)
IsTakeOf state claims b (Err fault) now new =
    (takes_own state b ≡ true) × (now ≡ holding state None)
    × (new.claims ≡ claims.claims) × (new.total ≡ claims.total)
