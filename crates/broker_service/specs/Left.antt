-- What is left of a broker's service.
use Rattle.std.specs.Prelude.{◌≡◌, ℕ, ◌+◌, ◌-◌, ◌≤◌, max, List, [], ◌∷◌, All, AllPairs, IfSome, None, sum_by, replicate}
use Rattle.std.specs.List.{AllZip}
use Rattle.zk_model.specs.declared.limits.TheConstants.{MAX_NODES}
use Rattle.zk_port.specs.Disks.{DiskState}
use Rattle.zk_port.specs.Links.{LinkState}
use Rattle.lease_core.specs.Machine.{ceiling_for}
use Rattle.lease_words.specs.declared.pass.Pass.{Pass}
use Rattle.lease_store.specs.Leases.{IsClosed}
use Rattle.lease_store.specs.declared.LeaseFault.{LeaseFault}
use Rattle.session_pool.specs.Notes.{IsUnused}
use Rattle.broker_links.specs.Answers.{Asked}
use Rattle.broker_links.specs.declared.note.BrokerNote.{BrokerNote}
use Rattle.broker_service.specs.Granted.{AreOneOrApart, IsMarkedFault, IsSafeBlock, IsToldBy, LiesBetween, block_in, fault_in, faults_met, out_in, units_for}
use Rattle.broker_service.specs.Turns.{AreExchanges, AreSomeExchanges, Keeping, keeping}

-- before any want: nothing is kept of any node
abbrev pub keeping_none : Pass → Keeping
keeping_none pass = keeping (replicate MAX_NODES None) pass

-- a broker with one pass, which kept nothing of any node before, made these notes, one exchange after another
pub record IsService {B L : Type 0} (tells : L → LinkState) (state : B → DiskState) (passes now : List Pass)
    (notes : List (BrokerNote L LeaseFault)) : Type 0 where
  pub first : Pass
  pub one_pass : passes ≡ first ∷ []
  pub last : Keeping
  pub still_one : now ≡ last.pass ∷ []
  pub exchanges : AreSomeExchanges tells state notes (keeping_none first) last

-- What is left of the broker that made these notes, with one pass. The exchanges went one after another, from a broker that keeps nothing
-- of any node; and the store is closed with the pass as it was then. Two Blocks, sent or lost, are the same or have no unit in common. A Block
-- ends at or below a ceiling that was stored; its units lie between the base and the ceiling that the content and each image of the disk
-- recover, or a higher one, and within the total. A want is refused by the journal alone, which is marked then, and fails in the lease of one
-- want at most. Where the pass had not drawn before, an Out's place is at most the base plus the rounded counts of all other wants, and the
-- ceiling is the base, or at most the one for as many units as all wants asked for.
pub record IsBrokered {B L : Type 0} (tells : L → LinkState) (state : B → DiskState) (start disk : DiskState) (id : List ℕ) (base total : ℕ)
    (passes : List Pass) (notes : List (BrokerNote L LeaseFault)) : Type 0 where
  pub first : Pass
  pub one_pass : passes ≡ first ∷ []
  pub asks : List (Asked LeaseFault)
  pub last : Keeping
  pub exchanges : AreExchanges tells state notes asks (keeping_none first) last
  pub told : AllZip (λ note asked. IsToldBy note.outcome asked) notes asks
  pub closed : IsClosed start disk id base total (last.pass ∷ [])
  pub once : AllPairs (λ a b. AreOneOrApart (block_in a) (block_in b)) asks
  pub safe : All (λ a. IfSome (block_in a) (IsSafeBlock state base total)) asks
  pub between : All (λ a. IfSome (block_in a) (LiesBetween base closed.ceiling)) asks
  pub marked : All (λ a. IfSome (fault_in a) (IsMarkedFault closed.mark)) asks
  pub one_fault : faults_met asks ≤ 1
  pub out : IsUnused first → All (λ a. IfSome (out_in a) (λ o. o.at ≤ base + (sum_by units_for asks - units_for a))) asks
  pub most : IsUnused first → closed.ceiling ≤ max base (ceiling_for total (base + sum_by units_for asks))
