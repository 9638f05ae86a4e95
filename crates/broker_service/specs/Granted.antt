-- What wants asked for and were granted.
use Rattle.std.specs.Prelude.{◌≡◌, ◌≢◌, ◌⊎◌, ℕ, ◌+◌, ◌≤◌, List, sum_by, Option, None, Some, Result, Ok, Err}
use Rattle.zk_model.specs.declared.messages.Block.{Block}
use Rattle.zk_model.specs.declared.messages.Out.{Out}
use Rattle.zk_model.specs.declared.messages.Want.{Want}
use Rattle.zk_port.specs.Disks.{DiskState}
use Rattle.lease_core.specs.Spans.{IsApart}
use Rattle.lease_store.specs.Stops.{WasStored}
use Rattle.lease_store.specs.declared.LeaseFault.{LeaseFault}
use Rattle.lease_store.specs.declared.LeaseFault.TheVariants.{Exhausted, Device, Broken}
use Rattle.broker_core.specs.Messages.{rounded, units_of}
use Rattle.broker_links.specs.Answers.{Asked}
use Rattle.broker_links.specs.declared.note.BrokerOutcome.{BrokerOutcome}
use Rattle.broker_links.specs.declared.note.BrokerOutcome.TheVariants as outcome
use Rattle.broker_links.specs.declared.reply.Reply.{Reply}
use Rattle.broker_links.specs.declared.reply.Reply.TheVariants as reply

-- the Block of an answer, or the Out, or why there is neither
abbrev pub block_by : Option (Result Reply LeaseFault) → Option Block
block_by None = None
block_by (Some (Ok (reply.Block b))) = Some b
block_by (Some (Ok (reply.Out o))) = None
block_by (Some (Err fault)) = None

abbrev pub out_by : Option (Result Reply LeaseFault) → Option Out
out_by None = None
out_by (Some (Ok (reply.Block b))) = None
out_by (Some (Ok (reply.Out o))) = Some o
out_by (Some (Err fault)) = None

abbrev pub fault_by : Option (Result Reply LeaseFault) → Option LeaseFault
fault_by None = None
fault_by (Some (Ok answer)) = None
fault_by (Some (Err fault)) = Some fault

abbrev pub block_in : Asked LeaseFault → Option Block
block_in asked = block_by asked.answer

abbrev pub out_in : Asked LeaseFault → Option Out
out_in asked = out_by asked.answer

abbrev pub fault_in : Asked LeaseFault → Option LeaseFault
fault_in asked = fault_by asked.answer

-- as many units as a lease for a want has, and none where nobody was asked
abbrev pub units_by : Option Want → ℕ
units_by None = 0
units_by (Some want) = rounded want.count

abbrev pub units_for : Asked LeaseFault → ℕ
units_for asked = units_by asked.want

-- two Blocks are one and the same, or have no unit in common
abbrev pub AreOneOrApart : Option Block → Option Block → Type 0
AreOneOrApart None b = Unit {0}
AreOneOrApart (Some a) None = Unit {0}
AreOneOrApart (Some a) (Some b) = (a ≡ b) ⊎ IsApart (units_of a) (units_of b)

-- the units of a Block lie between these
abbrev pub LiesBetween : ℕ → ℕ → Block → Type 0
LiesBetween low high b = (low ≤ b.start) × (b.start + b.count ≤ high)

-- a want is refused by the journal's failure alone, and then the store is marked: a failure that was before is told by that mark
abbrev pub IsMarkedFault : ℕ → LeaseFault → Type 0
IsMarkedFault mark (Exhausted at count total) = ⊥
IsMarkedFault mark Device = mark ≢ 0
IsMarkedFault mark (Broken first) = (mark ≢ 0) × (first ≡ mark)

-- 1 where the journal failed in the want's own lease, and else 0
abbrev pub meets_fault : Option LeaseFault → ℕ
meets_fault None = 0
meets_fault (Some (Exhausted at count total)) = 0
meets_fault (Some Device) = 1
meets_fault (Some (Broken first)) = 0

abbrev pub faults_met : List (Asked LeaseFault) → ℕ
faults_met asks = sum_by (λ asked. meets_fault (fault_in asked)) asks

-- ---- by the outcomes of exchanges

-- the Block that was sent
abbrev pub sent_block : BrokerOutcome LeaseFault → Option Block
sent_block (outcome.Answered want (reply.Block b)) = Some b
sent_block (outcome.Answered want (reply.Out o)) = None
sent_block (outcome.PeerEnded at) = None
sent_block (outcome.BadFrame place) = None
sent_block outcome.Link = None
sent_block outcome.NoMemory = None
sent_block (outcome.Refused fault) = None

-- why none was, where the journal refused the lease
abbrev pub refusal : BrokerOutcome LeaseFault → Option LeaseFault
refusal (outcome.Answered want given) = None
refusal (outcome.PeerEnded at) = None
refusal (outcome.BadFrame place) = None
refusal outcome.Link = None
refusal outcome.NoMemory = None
refusal (outcome.Refused fault) = Some fault

-- What an outcome tells of the want: all of it where the reply was sent; that nobody was asked; or how the lease ended. Where the link failed or
-- memory was missing, a Block may have been granted.
abbrev pub IsToldBy : BrokerOutcome LeaseFault → Asked LeaseFault → Type 0
IsToldBy (outcome.Answered want given) asked = (asked.want ≡ Some want) × (asked.answer ≡ Some (Ok given))
IsToldBy (outcome.PeerEnded at) asked = asked.answer ≡ None
IsToldBy (outcome.BadFrame place) asked = asked.answer ≡ None
IsToldBy outcome.Link asked = fault_in asked ≡ None
IsToldBy outcome.NoMemory asked = fault_in asked ≡ None
IsToldBy (outcome.Refused fault) asked = asked.answer ≡ Some (Err fault)

-- a lease that was refused so was refused by the journal
abbrev pub IsJournals : LeaseFault → Type 0
IsJournals (Exhausted at count total) = ⊥
IsJournals Device = Unit {0}
IsJournals (Broken first) = Unit {0}

-- a Block of units from the base on, within the total, that end at or below a ceiling that was stored
pub record IsSafeBlock {B : Type 0} (state : B → DiskState) (base total : ℕ) (b : Block) : Type 0 where
  pub between : LiesBetween base total b
  pub stored : WasStored state (b.start + b.count)
