-- What a node does with a Block, and its crashes, as events of the world.
use Rattle.std.specs.Prelude.{◌≡◌, ◌≢◌, ◌⊎◌, ◌↔◌, ℕ, ◌+◌, ◌<◌, ◌≤◌, Bool, true, false, cond, List, [], ◌∷◌, Option, None, Some, Result, Ok, Err, IfErr, nat_eq}
use Rattle.zk_model.specs.declared.Span.{Span}
use Rattle.zk_model.specs.declared.messages.Block.{Block}
use Rattle.claim_store.specs.ClaimedRanges.{AreMerged}
use Rattle.claim_store.specs.Causes.{ClaimCause, IsFree}
use Rattle.claim_store.specs.Claims.{ClaimState, SaysClaims, SaysOldOrNewClaims, first_met}
use Rattle.claim_store.specs.declared.ClaimFault.{ClaimFault}
use Rattle.claim_store.specs.declared.ClaimFault.TheVariants.{Broken, OutOfRange, Overlap, Full, Device, NoMemory}
use Rattle.broker_core.specs.Messages.{block_at, units_of}
use Rattle.broker_core.specs.Nodes.{first_node, may_claim, node_at}
use Rattle.broker_core.specs.Sound.{IsSound}
use Rattle.broker_core.specs.Worlds.{WorldState, after_event, is_node, may_happen}
use Rattle.broker_core.specs.declared.event.BrokerEvent.{BrokerEvent}
use Rattle.broker_core.specs.declared.event.BrokerEvent.TheVariants as event
use Rattle.broker_core.specs.declared.message.NodeClaim.{NodeClaim}
use Rattle.broker_node.specs.NodeStates.{IsTakeOf, NodeState, starting, takes_own}

-- the spans that a node claimed
abbrev pub claims_by : List NodeClaim → ℕ → List Span
claims_by [] node = []
claims_by (c ∷ claims) node = cond (nat_eq c.node node) (c.span ∷ claims_by claims node) (claims_by claims node)

-- The world's test of a claim is the store's, where the store keeps the ranges of the node's claims: the units end within the total, and none
-- of them is claimed.
abbrev pub TakesAgree : Type 0
TakesAgree =
    (w : WorldState) (b : Block) (ranges : List Span)
    → IsSound w → 1 ≤ b.count → AreMerged (claims_by w.claims b.node) ranges
    → (may_claim w.lease.total w.claims b ≡ true) ↔ ((b.start + b.count ≤ w.lease.total) × (first_met (units_of b) ranges ≡ None))

-- A node that runs is the one of its number in the world: it has that number and block, and its store keeps the ranges of its claims,
-- while no call of its disk failed. (Once one did, the store refuses all, and the disk has the claims.)
pub record IsRunning {D : Type 0} (w : WorldState) (state : NodeState) (claims : ClaimState D) : Type 0 where
  pub there : is_node w state.node ≡ true
  pub own : node_at w.nodes state.node ≡ state.own
  pub total : claims.total ≡ w.lease.total
  pub kept : claims.fault ≡ 0 → AreMerged (claims_by w.claims state.node) claims.claims

-- the event is possible, and the node then runs so
pub record IsEventOf {D : Type 0} (w : WorldState) (e : BrokerEvent) (now : NodeState) (new : ClaimState D) : Type 0 where
  pub possible : may_happen w e ≡ true
  pub runs : IsRunning (after_event w e) now new

-- Which event it is, by the answer of `take`. A store that was broken before refuses all: then it is one event or the other, by whether
-- the units were free; they do the same. After a fault of the disk it is that event whether the journal keeps the claim or not.
abbrev pub IsTakeEvent : {D : Type 0} → WorldState → ℕ → Result Bool ClaimFault → NodeState → ClaimState D → Type 0
IsTakeEvent w i (Ok taken) now new = IsEventOf w (event.ToNode i) now new
IsTakeEvent w i (Err (OutOfRange total)) now new = IsEventOf w (event.ToNode i) now new
IsTakeEvent w i (Err (Overlap earlier)) now new = IsEventOf w (event.ToNode i) now new
IsTakeEvent w i (Err (Broken first)) now new = IsEventOf w (event.ToNode i) now new ⊎ IsEventOf w (event.NodeFail i false) now new
IsTakeEvent w i (Err (Full slots)) now new = IsEventOf w (event.NodeFail i false) now new
IsTakeEvent w i (Err NoMemory) now new = IsEventOf w (event.NodeFail i false) now new
IsTakeEvent w i (Err Device) now new = (kept : Bool) → IsEventOf w (event.NodeFail i kept) now new

-- Where a message comes to its node, what `take` does is an event of the world.
abbrev pub TakeIsEvent : Type 0 → Type 0
TakeIsEvent D =
    (w : WorldState) (i : ℕ) (b : Block) (state now : NodeState) (claims new : ClaimState D) (result : Result Bool ClaimFault)
    → (before after : ℕ)
    → IsSound w → IsRunning w state claims → block_at w.sent i ≡ Some b → b.node ≡ state.node
    → IsTakeOf state claims b result now new → IfErr result (ClaimCause claims b.start b.count new before after)
    → IsTakeEvent w i result now new

-- these bytes of a node's journal say the ranges of its claims in this world
pub record Recovers (w : WorldState) (node total begin slots : ℕ) (bytes : List ℕ) : Type 0 where
  pub ranges : List Span
  pub merged : AreMerged (claims_by w.claims node) ranges
  pub says : SaysClaims total begin slots ranges bytes

-- What a crash leaves within a claim, and what the disk has after a fault of it, says the old claims or those with the units: it is what the
-- journal has after NodeCut, or after NodeFail, which keep the claim or not.
abbrev pub CutIsEvent : Type 0 → Type 0
CutIsEvent D =
    (w : WorldState) (i : ℕ) (b : Block) (state : NodeState) (claims : ClaimState D) (bytes : List ℕ)
    → IsSound w → IsRunning w state claims → block_at w.sent i ≡ Some b → b.node ≡ state.node
    → takes_own state b ≡ true → IsFree claims b.start b.count
    → SaysOldOrNewClaims claims.total claims.begin claims.slots claims.claims (units_of b) bytes
    → (kept : Bool)
    × (may_happen w (event.NodeCut i kept) ≡ true)
    × Recovers (after_event w (event.NodeCut i kept)) state.node claims.total claims.begin claims.slots bytes
    × (may_happen w (event.NodeFail i kept) ≡ true)
    × Recovers (after_event w (event.NodeFail i kept)) state.node claims.total claims.begin claims.slots bytes

-- A node that starts on such bytes runs in the world after its crash.
abbrev pub StartIsEvent : Type 0 → Type 0
StartIsEvent D =
    (w : WorldState) (node : ℕ) (claims : ClaimState D) (bytes : List ℕ)
    → is_node w node ≡ true → claims.total ≡ w.lease.total
    → Recovers w node claims.total claims.begin claims.slots bytes
    → SaysClaims claims.total claims.begin claims.slots claims.claims bytes
    → IsEventOf w (event.NodeCrash node) (starting node) claims
