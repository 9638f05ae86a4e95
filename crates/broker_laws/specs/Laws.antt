-- What runs of a broker and of its nodes come to.
use Rattle.std.specs.Prelude.{◌≡◌, ◌⊎◌, ℕ, ◌-◌, ◌%◌, ◌^◌, ◌<◌, ◌≤◌, All, Bool, true, List, [], ◌∷◌, ◌++◌, Option, None, Some, IfSome, Result, Ok, Err, flat_map}
use Rattle.std.specs.List.{AllZip}
use Rattle.zk_model.specs.declared.Side.{Side}
use Rattle.zk_model.specs.declared.Span.{Span}
use Rattle.zk_model.specs.declared.limits.TheConstants.{MAX_NODES, MAX_UNITS}
use Rattle.zk_model.specs.declared.messages.Block.{Block}
use Rattle.zk_model.specs.declared.messages.Want.{Want}
use Rattle.atomic_table.specs.Seated.{TableId}
use Rattle.zk_port.specs.Disks.{DiskState, LeavesOnly}
use Rattle.zk_port.specs.Links.{LinkState}
use Rattle.lease_core.specs.Spans.{AreApart, EndBy}
use Rattle.lease_words.specs.Calls.{AreGathered, IsFreshPass, entries_of}
use Rattle.lease_words.specs.declared.pass.Pass.{Pass}
use Rattle.lease_store.specs.declared.LeaseFault.{LeaseFault}
use Rattle.lease_store.specs.declared.grantor.GrantFault.{GrantFault}
use Rattle.claim_store.specs.ClaimedRanges.{AreMerged}
use Rattle.claim_store.specs.Claims.{ClaimState}
use Rattle.claim_store.specs.declared.ClaimFault.{ClaimFault}
use Rattle.broker_core.specs.Messages.{units_of}
use Rattle.broker_core.specs.Worlds.{after_events, may_all_happen, world_at_first}
use Rattle.broker_core.specs.declared.event.BrokerEvent.{BrokerEvent}
use Rattle.broker_core.specs.declared.message.Message.{Message}
use Rattle.broker_links.specs.Answers.{Asked}
use Rattle.broker_links.specs.Tries.{asked_log}
use Rattle.broker_links.specs.declared.note.BrokerNote.{BrokerNote}
use Rattle.broker_links.specs.declared.note.Try.{Try}
use Rattle.broker_links.specs.declared.note.TryOutcome.{TryOutcome}
use Rattle.broker_links.specs.declared.note.TryOutcome.TheVariants as outcome
use Rattle.broker_links.specs.declared.reply.Reply.{Reply}
use Rattle.broker_links.specs.declared.reply.Reply.TheVariants as reply
use Rattle.broker_node.specs.NodeStates.{NodeState, takes_own}
use Rattle.broker_node.specs.Steps.{AreRising}
use Rattle.broker_service.specs.Left.{IsBrokered, keeping_none}
use Rattle.broker_service.specs.Turns.{AreExchanges, Keeping}
use Rattle.node_grants.specs.Desks.{Desk}
use Rattle.node_grants.specs.Grants.{IsGrantOf, IsTaken, ports_of}
use Rattle.broker_laws.specs.BrokerDeeds.{AreBrokerDeeds, BrokerDeed, IsWithinService, all_replied, all_wanted, broker_party, broker_run, message_of}
use Rattle.broker_laws.specs.Histories.{Deed, Happened, Parties, parties_at_first, units_in}
use Rattle.broker_laws.specs.NodeDeeds.{AreNodeDeeds, IsWithinRun, NodeDeed, SaysJournal, all_asked, all_came, all_drawn, node_party, node_run, with_units}
use Rattle.broker_laws.specs.Worlds.{IsWorldOf}

-- ---- a grant of a node

-- the Block that a try brought
abbrev pub brought_by : TryOutcome → List Block
brought_by (outcome.Block b) = b ∷ []
brought_by (outcome.Out o) = []
brought_by (outcome.PeerEnded at) = []
brought_by (outcome.BadFrame place) = []
brought_by outcome.Link = []
brought_by outcome.NoMemory = []

-- those that tries brought, in order
abbrev pub all_brought : {L : Type 0} → List (Try L) → List Block
all_brought tries = flat_map (λ t. brought_by t.outcome) tries

-- the units that were granted
abbrev pub granted_in : Result Span GrantFault → List Span
granted_in (Ok drawn) = drawn ∷ []
granted_in (Err fault) = []

-- all of the Want passed, and these bytes after it; or nothing did
abbrev pub LogsWant : Want → List (Side × ℕ) → Type 0
LogsWant want log = ((rest : List ℕ) × (log ≡ asked_log want rest)) ⊎ (log ≡ [])

-- A grant of a node comes to deeds that lead from the one desk to the other: one Want for each try, as its log has it; each Block that a try
-- brought, which is met; and a draw of the units that are granted, if any are. None is a start or a stop. Where the disk fails in a claim, the
-- journal keeps its units or not, as is said.
pub record GrantsByDeeds {B L : Type 0} (state : B → DiskState) (total number : ℕ) (answer : Result Span GrantFault) (kept : Bool)
    (journal : List Span) (old new : Desk B L) : Type 0 where
  pub deeds : List (NodeDeed B)
  pub left : List Span
  pub did : AreNodeDeeds state total number deeds (node_party journal (Some (node_run old.node old.claims)))
      (node_party left (Some (node_run new.node new.claims)))
  pub tries : List (Try L)
  pub made : new.tries ≡ old.tries ++ tries
  pub asked : AllZip (λ want t. LogsWant want t.log) (all_asked deeds) tries
  pub came : all_came deeds ≡ all_brought tries
  pub drawn : all_drawn deeds ≡ granted_in answer
  pub within : All (IsWithinRun kept) deeds

-- each grant comes to such deeds, whichever is said
abbrev pub GrantsAreDeeds : {B L : Type 0} → (L → LinkState) → (B → DiskState) → Type 0
GrantsAreDeeds {B} {L} tells state =
    (broker : List ℕ) (patience count total number : ℕ) (answer : Result Span GrantFault) (kept : Bool) (journal : List Span) (old new : Desk B L)
    → 1 ≤ count → count ≤ MAX_UNITS → IsGrantOf (ports_of tells state broker patience) count answer old new
    → GrantsByDeeds state total number answer kept journal old new

-- ---- what a crash leaves of a node's journal

-- A crash at any moment of a claim of this Block leaves bytes that say what the journal kept before, or that with the units; and once the answer is
-- true, the content and each image say that with the units.
pub record LeavesJournal {B : Type 0} (state : B → DiskState) (journal : List Span) (b : Block) (answer : Result Bool ClaimFault)
    (claims new : ClaimState B) : Type 0 where
  pub any_moment : LeavesOnly (state claims.disk) (state new.disk) (λ bytes. (kept : Bool)
      × SaysJournal (with_units kept (units_of b) journal) claims bytes)
  pub claimed : answer ≡ Ok true → IfSome (state new.disk).content (λ bytes. SaysJournal (with_units true (units_of b) journal) new bytes
      × ((image : List ℕ) → (state new.disk).images image → SaysJournal (with_units true (units_of b) journal) new image))

-- So it is where the node takes the Block, over a store that is whole and has the ranges of what the journal keeps, and whose disk tells its content.
abbrev pub ClaimsLeaveJournals : {B : Type 0} → (B → DiskState) → Type 0
ClaimsLeaveJournals {B} state =
    (node now : NodeState) (claims new : ClaimState B) (b : Block) (answer : Result Bool ClaimFault) (journal : List Span) (bytes : List ℕ)
    → IsTaken state node claims b answer now new → takes_own node b ≡ true
    → AreMerged journal claims.claims → claims.fault ≡ 0 → claims.total < 2 ^ 64 - 1 → (state claims.disk).content ≡ Some bytes
    → LeavesJournal state journal b answer claims new

-- ---- the exchanges of a broker

-- the Want that was answered
abbrev pub want_answered : Option Want → List Want
want_answered None = []
want_answered (Some want) = want ∷ []

-- the message of an answer, if there is one
abbrev pub message_answered : Option (Result Reply LeaseFault) → List Message
message_answered None = []
message_answered (Some answer) = message_of answer

-- Exchanges of a broker come to deeds that lead from what it kept to what it keeps: the Wants that were answered came, in their order, and the
-- replies are sent. None is a start or a stop. Where the disk fails in a lease, the journal keeps a ceiling for its units or not, as is said.
pub record AnswersByDeeds {C : Type 0} (state : C → DiskState) (total nodes base ceiling : ℕ) (stored : Bool) (asks : List (Asked LeaseFault))
    (old last : Keeping) : Type 0 where
  pub deeds : List BrokerDeed
  pub left : ℕ
  pub did : AreBrokerDeeds state total nodes deeds (broker_party ceiling (Some (broker_run base old))) (broker_party left (Some (broker_run base last)))
  pub wanted : all_wanted deeds ≡ flat_map (λ a. want_answered a.want) asks
  pub replied : all_replied deeds ≡ flat_map (λ a. message_answered a.answer) asks
  pub within : All (IsWithinService stored) deeds

-- So it is, whichever is said, where what the pass had drawn before rises, and what all passes drew, which is this one, has no gap.
abbrev pub ExchangesAreDeeds : {C L : Type 0} → (L → LinkState) → (C → DiskState) → Type 0
ExchangesAreDeeds {C} {L} tells state =
    (total nodes base ceiling highest mark : ℕ) (stored : Bool) (notes : List (BrokerNote L LeaseFault)) (asks : List (Asked LeaseFault))
    (old last : Keeping)
    → AreRising (entries_of old.pass) → AreExchanges tells state notes asks old last → AreGathered base highest mark (last.pass ∷ [])
    → AnswersByDeeds state total nodes base ceiling stored asks old last

-- ---- the whole service of a broker

-- nobody was asked, or a Block was the answer
abbrev pub IsGrantedOrUnasked : Option (Result Reply LeaseFault) → Type 0
IsGrantedOrUnasked None = Unit {0}
IsGrantedOrUnasked (Some (Ok (reply.Block b))) = Unit {0}
IsGrantedOrUnasked (Some (Ok (reply.Out o))) = ⊥
IsGrantedOrUnasked (Some (Err fault)) = ⊥

-- A service whose store was closed with this ceiling comes to deeds. Where its era began at a multiple of 16 and each Want that was answered was
-- granted, the ceiling that the journal keeps by these deeds is that of the store.
pub record ServesByDeeds {C : Type 0} (state : C → DiskState) (total base : ℕ) (stored : Bool) (asks : List (Asked LeaseFault)) (first : Pass)
    (last : Keeping) (ceiling : ℕ) : Type 0 where
  pub answers : AnswersByDeeds state total MAX_NODES base base stored asks (keeping_none first) last
  pub stays : base % 16 ≡ 0 → All (λ a. IsGrantedOrUnasked a.answer) asks → answers.left ≡ ceiling

-- So it is of each service of which its end says what `answer_all` promises, and which began with a new pass.
abbrev pub ServicesAreDeeds : {C L : Type 0} → (L → LinkState) → (C → DiskState) → Type 0
ServicesAreDeeds {C} {L} tells state =
    (start disk : C) (id : List ℕ) (base total number : ℕ) (table : TableId) (passes : List Pass) (notes : List (BrokerNote L LeaseFault))
    (stored : Bool)
    → (b : IsBrokered tells state (state start) (state disk) id base total passes notes) → IsFreshPass table base total number b.first
    → ServesByDeeds state total base stored b.asks b.first b.last b.closed.ceiling

-- ---- histories

-- Possible events lead from the first world to the one of these parties; what was spent in them are the units that the history drew, in order.
pub record IsToldByEvents {B : Type 0} (total nodes : ℕ) (history : List (Deed B)) (last : Parties B) : Type 0 where
  pub events : List BrokerEvent
  pub possible : may_all_happen (world_at_first total nodes) events ≡ true
  pub world : IsWorldOf total nodes last (after_events (world_at_first total nodes) events)
  pub spent : (after_events (world_at_first total nodes) events).spent ≡ units_in history

-- each history of a broker and its nodes is told by events of the world
abbrev pub HistoriesAreEvents : {B C : Type 0} → (B → DiskState) → (C → DiskState) → Type 0
HistoriesAreEvents {B} {C} node_disk broker_disk =
    (total nodes : ℕ) (history : List (Deed B)) (last : Parties B)
    → Happened node_disk broker_disk total nodes history parties_at_first last
    → IsToldByEvents total nodes history last

-- no two spans that a history drew have a unit in common, whichever nodes and runs drew them; and each ends at or below the ceiling that the
-- broker's journal keeps
pub record DrawsNoUnitTwice (ceiling : ℕ) (drawn : List Span) : Type 0 where
  pub apart : AreApart drawn
  pub durable : EndBy ceiling drawn

abbrev pub HistoriesDrawOnce : {B C : Type 0} → (B → DiskState) → (C → DiskState) → Type 0
HistoriesDrawOnce {B} {C} node_disk broker_disk =
    (total nodes : ℕ) (history : List (Deed B)) (last : Parties B)
    → Happened node_disk broker_disk total nodes history parties_at_first last
    → DrawsNoUnitTwice last.broker.ceiling (units_in history)
