-- What is left, by the outcomes of the exchanges.
use Rattle.std.proofs.Common.{ℕ, List, All, IfSome}
use Rattle.std.specs.List.{AllPairs}
use Rattle.zk_port.specs.Disks.{DiskState}
use Rattle.zk_port.specs.Links.{LinkState}
use Rattle.lease_words.specs.declared.pass.Pass.{Pass}
use Rattle.lease_store.specs.declared.LeaseFault.{LeaseFault}
use Rattle.lease_store.specs.declared.LeaseFault.TheVariants.{Exhausted, Device, Broken}
use Rattle.broker_links.specs.declared.note.BrokerNote.{BrokerNote}
use Rattle.broker_service.specs.Granted.{AreOneOrApart, IsJournals, IsMarkedFault, IsSafeBlock, refusal, sent_block}
use Rattle.broker_service.specs.Left.{IsBrokered}
use Rattle.broker_service.proofs.Ledger.{if_weaker}
use Rattle.broker_service.proofs.Told.{refused_all, sent_all, sent_once}

journals : (mark : ℕ) (fault : LeaseFault) → IsMarkedFault mark fault → IsJournals fault
journals mark (Exhausted at count total) is = is
journals mark Device is = tt
journals mark (Broken first) is = tt

module _ {B L : Type 0} (tells : L → LinkState) (state : B → DiskState) (start disk : DiskState) (id : List ℕ) (base total : ℕ)
    (passes : List Pass) (notes : List (BrokerNote L LeaseFault)) (is : IsBrokered tells state start disk id base total passes notes) where
  pub blocks_once : AllPairs (λ m n. AreOneOrApart (sent_block m.outcome) (sent_block n.outcome)) notes
  blocks_once = sent_once notes is.asks is.told is.once

  pub blocks_safe : All (λ note. IfSome (sent_block note.outcome) (IsSafeBlock state base total)) notes
  blocks_safe = sent_all notes is.asks is.told (IsSafeBlock state base total) is.safe

  pub journal_refuses : All (λ note. IfSome (refusal note.outcome) IsJournals) notes
  journal_refuses = refused_all notes is.asks is.told IsJournals
      (λ k d l. if_weaker (IsMarkedFault is.closed.mark) IsJournals (journals is.closed.mark) _ (is.marked k d l))
