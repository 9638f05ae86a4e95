-- How an exchange with a node is said.
use Rattle.std.specs.Prelude.{◌==◌, ◌||◌, ◌+◌, ℕ, List, [], ◌++◌, codes, flat_map, Bool, if◌then◌else◌}
use Rattle.std.specs.Fmt.{decimal}
use Rattle.std.specs.List.{list_any}
use Rattle.zk_model.specs.declared.messages.Block.{Block}
use Rattle.zk_model.specs.declared.messages.Out.{Out}
use Rattle.zk_model.specs.declared.messages.Want.{Want}
use Rattle.lease_store.specs.declared.LeaseFault.{LeaseFault}
use Rattle.lease_store.specs.declared.LeaseFault.TheVariants.{Exhausted, Device, Broken}
use Rattle.broker_links.specs.declared.note.BrokerNote.{BrokerNote}
use Rattle.broker_links.specs.declared.note.BrokerOutcome.{BrokerOutcome}
use Rattle.broker_links.specs.declared.note.BrokerOutcome.TheVariants as ended
use Rattle.broker_links.specs.declared.reply.Reply.{Reply}
use Rattle.broker_links.specs.declared.reply.Reply.TheVariants as reply

-- a want that was answered by a Block, whose units are said by the first of them and the first behind them, or by an Out
abbrev pub block_words : Want → Block → List ℕ
block_words want block =
    codes "want " ++ decimal want.node ++ codes " " ++ decimal want.number ++ codes " block " ++ decimal block.start ++ codes ".."
    ++ decimal (block.start + block.count)

abbrev pub out_words : Want → Out → List ℕ
out_words want out = codes "want " ++ decimal want.node ++ codes " " ++ decimal want.number ++ codes " out " ++ decimal out.at

abbrev pub answer_words : Want → Reply → List ℕ
answer_words want (reply.Block block) = block_words want block
answer_words want (reply.Out out) = out_words want out

-- why a lease was refused
abbrev pub fault_words : LeaseFault → List ℕ
fault_words (Exhausted at count total) =
    codes "exhausted " ++ decimal at ++ codes " " ++ decimal count ++ codes " " ++ decimal total
fault_words Device = codes "device"
fault_words (Broken first) = codes "journal " ++ decimal first

-- how an exchange ended
abbrev pub outcome_words : BrokerOutcome LeaseFault → List ℕ
outcome_words (ended.Answered want given) = answer_words want given
outcome_words (ended.PeerEnded at) = codes "no want ended " ++ decimal at
outcome_words (ended.BadFrame place) = codes "no want frame " ++ decimal place
outcome_words ended.Link = codes "no want link"
outcome_words ended.NoMemory = codes "no want memory"
outcome_words (ended.Refused fault) = codes "no want " ++ fault_words fault

abbrev pub note_line : BrokerOutcome LeaseFault → List ℕ
note_line outcome = outcome_words outcome ++ codes "\n"

-- the lines of exchanges, in their order, and one where the door failed
abbrev pub brokered_text : {L : Type 0} → List (BrokerNote L LeaseFault) → Bool → List ℕ
brokered_text notes door_failed =
    flat_map (λ note. note_line note.outcome) notes ++ (if door_failed then codes "door failed\n" else [])

-- the status of an exchange: 0 where units were granted, and 6 where none are left; 1 where the node ended, or sent another frame; 4 where
-- the link failed, 5 where the journal did, and 7 where memory was missing
abbrev pub outcome_status : BrokerOutcome LeaseFault → ℕ
outcome_status (ended.Answered want (reply.Block block)) = 0
outcome_status (ended.Answered want (reply.Out out)) = 6
outcome_status (ended.PeerEnded at) = 1
outcome_status (ended.BadFrame place) = 1
outcome_status ended.Link = 4
outcome_status ended.NoMemory = 7
outcome_status (ended.Refused (Exhausted at count total)) = 6
outcome_status (ended.Refused Device) = 5
outcome_status (ended.Refused (Broken first)) = 5

-- one of the exchanges has this status
abbrev pub has_status : {L : Type 0} → List (BrokerNote L LeaseFault) → ℕ → Bool
has_status notes status = list_any (λ note. outcome_status note.outcome == status) notes

-- the first that applies of 7, 5, 6, 4, 1 and 0
abbrev pub brokered_status : {L : Type 0} → List (BrokerNote L LeaseFault) → Bool → Bool → ℕ
brokered_status notes door_failed memory_failed =
    if memory_failed || has_status notes 7 then 7
    else if has_status notes 5 then 5
    else if has_status notes 6 then 6
    else if door_failed || has_status notes 4 then 4
    else if has_status notes 1 then 1
    else 0
