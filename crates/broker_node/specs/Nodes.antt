-- What a node asks and draws, and what others do, as events of the world.
use Rattle.std.specs.Prelude.{◌≡◌, ◌≢◌, ℕ, ◌≤◌, true, List, [], ◌∷◌, ◌++◌, Some}
use Rattle.zk_model.specs.declared.Span.{Span}
use Rattle.zk_model.specs.declared.limits.TheConstants.{MAX_UNITS}
use Rattle.zk_model.specs.declared.messages.Block.{Block}
use Rattle.claim_store.specs.Claims.{ClaimState}
use Rattle.broker_core.specs.Messages.{block_at}
use Rattle.broker_core.specs.Nodes.{drawn_part, left_part, may_draw}
use Rattle.broker_core.specs.Worlds.{WorldState, after_event, may_happen}
use Rattle.broker_core.specs.declared.event.BrokerEvent.{BrokerEvent}
use Rattle.broker_core.specs.declared.event.BrokerEvent.TheVariants as event
use Rattle.broker_core.specs.declared.message.Message.TheVariants as message
use Rattle.broker_node.specs.NodeStates.{NodeState, keeping}
use Rattle.broker_node.specs.Takes.{IsEventOf, IsRunning}

-- `ask` is the event Ask: its Want is sent
abbrev pub AskIsEvent : Type 0 → Type 0
AskIsEvent D =
    (w : WorldState) (state : NodeState) (claims : ClaimState D) (n : ℕ)
    → IsRunning w state claims → 1 ≤ n → n ≤ MAX_UNITS
    → IsEventOf w (event.Ask state.node n) state claims
    × ((after_event w (event.Ask state.node n)).sent
    ≡ w.sent ++ message.Want (record { node = state.node; number = state.own.number; count = n }) ∷ [])

-- a `draw` that gives units is the event Spend: they are spent
abbrev pub DrawIsEvent : Type 0 → Type 0
DrawIsEvent D =
    (w : WorldState) (state : NodeState) (claims : ClaimState D) (n : ℕ) (block : Span)
    → IsRunning w state claims → 1 ≤ n → n ≤ MAX_UNITS
    → state.own.block ≡ Some block → may_draw (Some block) n ≡ true
    → IsEventOf w (event.Spend state.node n) (keeping state (Some (left_part block n))) claims
    × ((after_event w (event.Spend state.node n)).spent ≡ w.spent ++ drawn_part block n ∷ [])

-- the event is the broker's, or another node's, or sends a Want
abbrev pub IsBeside : WorldState → ℕ → BrokerEvent → Type 0
IsBeside w node (event.Ask other n) = Unit {0}
IsBeside w node (event.ToBroker i) = Unit {0}
IsBeside w node (event.ToNode i) = (b : Block) → block_at w.sent i ≡ Some b → b.node ≢ node
IsBeside w node (event.Spend other n) = other ≢ node
IsBeside w node (event.NodeCrash other) = other ≢ node
IsBeside w node (event.NodeCut i kept) = (b : Block) → block_at w.sent i ≡ Some b → b.node ≢ node
IsBeside w node (event.NodeFail i kept) = (b : Block) → block_at w.sent i ≡ Some b → b.node ≢ node
IsBeside w node (event.BrokerCrash body gate) = Unit {0}
IsBeside w node (event.BrokerCut i steps body gate) = Unit {0}
IsBeside w node (event.BrokerFail i steps) = Unit {0}

-- such an event leaves the node running
abbrev pub OthersLeaveRunning : Type 0 → Type 0
OthersLeaveRunning D =
    (w : WorldState) (e : BrokerEvent) (state : NodeState) (claims : ClaimState D)
    → IsRunning w state claims → may_happen w e ≡ true → IsBeside w state.node e
    → IsRunning (after_event w e) state claims
