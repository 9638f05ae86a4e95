-- What ties a broker and its nodes to a world of `broker_core`.
use Rattle.std.specs.Prelude.{◌≡◌, ℕ, IfSome, length}
use Rattle.lease_core.specs.Machine.{durable}
use Rattle.broker_core.specs.Worlds.{WorldState}
use Rattle.broker_node.specs.Steps.{IsServedBy}
use Rattle.broker_node.specs.Takes.{IsRunning, claims_by}
use Rattle.broker_laws.specs.Histories.{Parties}

-- The world is that of these parties, with so many units and nodes. Its lease machine has the broker's pass, where the broker runs, no put
-- stands in it, and its durable ceiling is what the broker's journal keeps; it keeps of each node what the broker does. A node that runs is
-- the world's node of its number. What each node's journal keeps is what the world has of its claims. The same messages were sent.
pub record IsWorldOf {B : Type 0} (total nodes : ℕ) (parties : Parties B) (w : WorldState) : Type 0 where
  pub total_is : w.lease.total ≡ total
  pub places : length w.kept ≡ nodes
  pub numbers : length w.nodes ≡ nodes
  pub unput : w.lease.stage ≡ 0
  pub ceiling : durable w.lease ≡ parties.broker.ceiling
  pub serves : IfSome parties.broker.run (λ run. IsServedBy run.base w.lease run.keeps.pass × (w.kept ≡ run.keeps.kept))
  pub runs : (number : ℕ) → IfSome (parties.nodes number).run (λ run. (run.node.node ≡ number) × IsRunning w run.node run.claims)
  pub claims : (number : ℕ) → claims_by w.claims number ≡ (parties.nodes number).journal
  pub sent : w.sent ≡ parties.sent
