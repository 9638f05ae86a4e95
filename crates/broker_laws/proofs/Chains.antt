-- Deeds one after another.
use Rattle.std.proofs.Common.{ℕ, List, [], ◌∷◌, ◌++◌, subst}
use Rattle.std.specs.List.{AllZip}
use Rattle.zk_port.specs.Disks.{DiskState}
use Rattle.broker_laws.specs.BrokerDeeds.{AreBrokerDeeds, BrokerDeed, BrokerParty}
use Rattle.broker_laws.specs.NodeDeeds.{AreNodeDeeds, NodeDeed, NodeParty}

pub node_deeds_more : {B : Type 0} (state : B → DiskState) (total number : ℕ) (first more : List (NodeDeed B)) (old mid new : NodeParty B)
    → AreNodeDeeds state total number first old mid → AreNodeDeeds state total number more mid new
    → AreNodeDeeds state total number (first ++ more) old new
node_deeds_more state total number [] more old mid new is did = subst (λ (p : NodeParty _). AreNodeDeeds state total number more p new) is did
node_deeds_more state total number (d ∷ first) more old mid new (next, one, rest) did =
    (next, one, node_deeds_more state total number first more next mid new rest did)

pub broker_deeds_more : {C : Type 0} (state : C → DiskState) (total nodes : ℕ) (first more : List BrokerDeed) (old mid new : BrokerParty)
    → AreBrokerDeeds state total nodes first old mid → AreBrokerDeeds state total nodes more mid new
    → AreBrokerDeeds state total nodes (first ++ more) old new
broker_deeds_more state total nodes [] more old mid new is did = subst (λ (p : BrokerParty). AreBrokerDeeds state total nodes more p new) is did
broker_deeds_more state total nodes (d ∷ first) more old mid new (next, one, rest) did =
    (next, one, broker_deeds_more state total nodes first more next mid new rest did)

-- two pairs of lists, one after the other
pub zip_more : {X Y : Type 0} (R : X → Y → Type 0) (xs more_xs : List X) (ys more_ys : List Y) → AllZip R xs ys → AllZip R more_xs more_ys → AllZip R (xs ++ more_xs) (ys ++ more_ys)
zip_more R [] more_xs [] more_ys h more = more
zip_more R [] more_xs (y ∷ ys) more_ys h more = absurd h
zip_more R (x ∷ xs) more_xs [] more_ys h more = absurd h
zip_more R (x ∷ xs) more_xs (y ∷ ys) more_ys h more = (h.0, zip_more R xs more_xs ys more_ys h.1 more)
