-- A node: what it takes, claims and draws.
use Rattle.std.specs.Prelude.{ℕ, ◌+◌, ◌-◌, ◌^◌, Bool, not, false, cond, ◌&&◌, Option, None, Some, List, [], ◌∷◌, ◌++◌, length, nat_eq, nat_le, nat_lt, slice_index_or, slice_set}
use Rattle.std.specs.List.{list_any}
use Rattle.lease_core.specs.Spans.{span, meets}
use Rattle.zk_model.specs.declared.Span.{Span}
use Rattle.broker_core.specs.Messages.{given, units_of}
use Rattle.zk_model.specs.declared.messages.Block.{Block}
use Rattle.broker_core.specs.declared.message.Node.{Node}
use Rattle.broker_core.specs.declared.message.NodeClaim.{NodeClaim}

-- a node as it starts
abbrev pub first_node : Node
first_node = record { number = 1; block = None }

-- the node of a number; as it starts, where there is none
abbrev pub node_at : List Node → ℕ → Node
node_at nodes node = slice_index_or nodes node first_node

-- the node takes the Block: its number is the pending one, which is not the last that there is, and it has units
abbrev pub takes : Node → Block → Bool
takes node b = nat_eq node.number b.number && (not (nat_eq node.number (2 ^ 64 - 1)) && not (nat_eq b.count 0))

-- a claim of the node has a unit of the span
abbrev pub has_claimed : List NodeClaim → ℕ → Span → Bool
has_claimed claims node s = list_any (λ c. nat_eq c.node node && meets c.span s) claims

-- the claim of its units is Ok: they end within the total, and none is claimed
abbrev pub may_claim : ℕ → List NodeClaim → Block → Bool
may_claim total claims b = nat_le (b.start + b.count) total && not (has_claimed claims b.node (units_of b))

-- the node once it took a Block and holds this of it
abbrev pub next_node : Node → Option Span → Node
next_node node block = record { number = node.number + 1; block = block }

-- a Block comes to a node: it is not taken, or the claim is refused, or the node holds it
abbrev pub nodes_taken : ℕ → List NodeClaim → List Node → Block → List Node
nodes_taken total claims nodes b = let node = node_at nodes b.node in
    cond (takes node b)
    (slice_set nodes b.node (next_node node (cond (may_claim total claims b) (Some (units_of b)) None)))
    nodes

-- and its units are claimed, where it is taken and the claim is not refused
abbrev pub claims_taken : ℕ → List NodeClaim → List Node → Block → List NodeClaim
claims_taken total claims nodes b = cond (takes (node_at nodes b.node) b && may_claim total claims b)
    (claims ++ record { node = b.node; span = units_of b } ∷ [])
    claims

-- a Block comes to a node that there is, which takes it and may claim its units
abbrev pub may_cut : ℕ → List NodeClaim → List Node → Block → Bool
may_cut total claims nodes b =
    nat_lt b.node (length nodes) && (takes (node_at nodes b.node) b && may_claim total claims b)

-- n units are left
abbrev pub may_draw : Option Span → ℕ → Bool
may_draw block n = given block false (λ s. nat_le (s.start + n) s.end)

-- the units drawn, and what is left
abbrev pub drawn_part : Span → ℕ → Span
drawn_part s n = span s.start (s.start + n)

abbrev pub left_part : Span → ℕ → Span
left_part s n = span (s.start + n) s.end
