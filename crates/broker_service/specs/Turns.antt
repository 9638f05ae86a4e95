-- What a broker does over one link after another.
use Rattle.std.specs.Prelude.{◌≡◌, List, [], ◌∷◌, Option, None, IsSomeAnd, MatchOption, IfOk, IsErr, Result, Ok, Err}
use Rattle.zk_model.specs.Messages.{FitsWant}
use Rattle.zk_model.specs.declared.messages.Want.{Want}
use Rattle.zk_port.specs.Disks.{DiskState}
use Rattle.zk_port.specs.Doors.{IsFreshLink}
use Rattle.zk_port.specs.Links.{LinkState}
use Rattle.lease_words.specs.Calls.{RisesFrom}
use Rattle.lease_words.specs.declared.pass.Pass.{Pass}
use Rattle.lease_store.specs.Ceilings.{NeverFails}
use Rattle.lease_store.specs.Leases.{PassGoesOn}
use Rattle.lease_store.specs.declared.LeaseFault.{LeaseFault}
use Rattle.broker_core.specs.Leases.{kept_of, repeated}
use Rattle.broker_core.specs.declared.message.Kept.{Kept}
use Rattle.broker_links.specs.Answers.{Asked, IsBrokerNote}
use Rattle.broker_links.specs.declared.note.BrokerNote.{BrokerNote}
use Rattle.broker_links.specs.declared.reply.Reply.{Reply}
use Rattle.broker_links.specs.declared.reply.Reply.TheVariants as sent
use Rattle.broker_node.specs.BrokerSteps.{IsBrokerStep, IsStoredReply}
use Rattle.broker_node.specs.declared.broker.Reply.{Reply as Decided}
use Rattle.broker_node.specs.declared.broker.Reply.TheVariants as decided

-- what a broker keeps of its nodes, and the pass by which it leases
pub record Keeping : Type 0 where
  pub kept : List (Option Kept)
  pub pass : Pass

-- by these
abbrev pub keeping : List (Option Kept) → Pass → Keeping
keeping kept pass = record { kept = kept; pass = pass }

-- the broker's reply, as it is sent
abbrev pub said_to_node : Result Decided LeaseFault → Result Reply LeaseFault
said_to_node (Ok (decided.Block block)) = Ok (sent.Block block)
said_to_node (Ok (decided.Out out)) = Ok (sent.Out out)
said_to_node (Err fault) = Err fault

-- A want is answered so by the broker's step. What it leases lies behind all that the pass drew before, and ends at or below a ceiling that was stored.
pub record IsReplyStep {B : Type 0} (state : B → DiskState) (want : Want) (answer : Result Reply LeaseFault) (old new : Keeping) : Type 0 where
  pub fits : FitsWant want
  pub made : Result Decided LeaseFault
  pub step : IsBrokerStep old.kept old.pass want made new.kept new.pass
  pub said : answer ≡ said_to_node made
  pub goes : PassGoesOn old.pass new.pass
  pub rises : RisesFrom old.pass new.pass
  pub stored : repeated (kept_of old.kept want.node) want.number ≡ None → IfOk made (IsStoredReply state)
  pub never : NeverFails state → IsErr made → ⊥

-- What one link does to what the broker keeps: it takes the step for the want that it was asked for, and none where it was not asked.
abbrev pub IsTurn : {B : Type 0} → (B → DiskState) → Asked LeaseFault → Keeping → Keeping → Type 0
IsTurn state asked old new = MatchOption asked.answer ((asked.want ≡ None) × (new ≡ old))
    (λ answer. IsSomeAnd asked.want (λ want. IsReplyStep state want answer old new))

-- one exchange with a node that was asked and answered so, over a fresh link
pub record IsExchange {B L : Type 0} (tells : L → LinkState) (state : B → DiskState) (note : BrokerNote L LeaseFault) (asked : Asked LeaseFault)
    (old new : Keeping) : Type 0 where
  pub first : LinkState
  pub fresh : IsFreshLink first
  pub is_note : IsBrokerNote asked first note.outcome note.log (tells note.link)
  pub turn : IsTurn state asked old new

-- some such
abbrev pub IsNoteStep : {B L : Type 0} → (L → LinkState) → (B → DiskState) → BrokerNote L LeaseFault → Keeping → Keeping → Type 0
IsNoteStep tells state note old new = (asked : Asked LeaseFault) × IsExchange tells state note asked old new

-- Exchanges one after another: each begins with what the one before it left.
abbrev pub AreExchanges : {B L : Type 0} → (L → LinkState) → (B → DiskState) → List (BrokerNote L LeaseFault) → List (Asked LeaseFault)
    → Keeping → Keeping → Type 0
AreExchanges tells state [] [] old new = new ≡ old
AreExchanges tells state [] (asked ∷ asks) old new = ⊥
AreExchanges tells state (note ∷ notes) [] old new = ⊥
AreExchanges tells state (note ∷ notes) (asked ∷ asks) old new =
    (mid : Keeping) × IsExchange tells state note asked old mid × AreExchanges tells state notes asks mid new

-- some such, one for each of these notes
abbrev pub AreSomeExchanges : {B L : Type 0} → (L → LinkState) → (B → DiskState) → List (BrokerNote L LeaseFault) → Keeping → Keeping → Type 0
AreSomeExchanges tells state notes old new = (asks : List (Asked LeaseFault)) × AreExchanges tells state notes asks old new
