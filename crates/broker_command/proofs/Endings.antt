-- How exchanges ended, by their statuses.
use Rattle.std.proofs.Common.{◌≡◌, ◌≢◌, ◌⊎◌, ℕ, zero, suc, Bool, true, false, List, [], ◌∷◌, All, Contains, IfSome, refl, sym, subst, inl, inr, arith}
use Rattle.std.specs.Prelude.{◌==◌, ◌||◌}
use Rattle.zk_model.specs.declared.Side.TheVariants.{Verifier}
use Rattle.zk_port.specs.Counts.{Rose}
use Rattle.zk_port.specs.Disks.{DiskState}
use Rattle.zk_port.specs.Links.{LinkState}
use Rattle.lease_store.specs.declared.LeaseFault.{LeaseFault}
use Rattle.lease_store.specs.declared.LeaseFault.TheVariants.{Exhausted, Device, Broken}
use Rattle.frame_link.specs.Lines.{snapshot}
use Rattle.broker_links.specs.Answers.{Asked, IsBrokerCause}
use Rattle.broker_links.specs.declared.note.BrokerNote.{BrokerNote}
use Rattle.broker_links.specs.declared.note.BrokerOutcome.{BrokerOutcome}
use Rattle.broker_links.specs.declared.note.BrokerOutcome.TheVariants as ended
use Rattle.broker_links.specs.declared.reply.Reply.TheVariants as reply
use Rattle.broker_service.specs.Granted.{IsMarkedFault, refusal}
use Rattle.broker_service.specs.Turns.{AreExchanges, Keeping}
use Rattle.broker_command.specs.BrokerRuns.{IsGranted, IsOut, IsRefused, LacksWant}
use Rattle.broker_command.specs.NoteLines.{has_status, outcome_status}

pub true_is_false : true ≡ false → ⊥
true_is_false same = cc

first_is : (a b : Bool) → (a || b) ≡ false → a ≡ false
first_is true b same = absurd (true_is_false same)
first_is false b same = refl

rest_is : (a b : Bool) → (a || b) ≡ false → b ≡ false
rest_is true b same = absurd (true_is_false same)
rest_is false b same = same

either_is : (a b : Bool) → (a || b) ≡ true → (a ≡ true) ⊎ (b ≡ true)
either_is true b same = inl refl
either_is false b same = inr same

-- ---- one that has a status

pub some_note : {L : Type 0} (notes : List (BrokerNote L LeaseFault)) (status : ℕ) → has_status notes status ≡ true
    → (note : BrokerNote L LeaseFault) × Contains notes note × ((outcome_status note.outcome == status) ≡ true)
some_note [] status same = absurd (true_is_false (sym same))
some_note (note ∷ notes) status same = elim (either_is (outcome_status note.outcome == status) (has_status notes status) same) [
  | inl here ↦ (note, (0, omega arith, refl), here)
  | inr there ↦ let found = some_note notes status there in let among = found.1 in (found.0, (suc among.0, (let l = among.1 in omega (arith, l)), among.2), found.2)
]

pub lacks_want : (outcome : BrokerOutcome LeaseFault) → (outcome_status outcome == 1) ≡ true → LacksWant outcome
lacks_want (ended.Answered want (reply.Block b)) one = absurd (true_is_false (sym one))
lacks_want (ended.Answered want (reply.Out o)) one = absurd (true_is_false (sym one))
lacks_want (ended.PeerEnded at) one = tt
lacks_want (ended.BadFrame place) one = tt
lacks_want ended.Link one = absurd (true_is_false (sym one))
lacks_want ended.NoMemory one = absurd (true_is_false (sym one))
lacks_want (ended.Refused (Exhausted at count total)) one = absurd (true_is_false (sym one))
lacks_want (ended.Refused Device) one = absurd (true_is_false (sym one))
lacks_want (ended.Refused (Broken first)) one = absurd (true_is_false (sym one))

pub is_link : (outcome : BrokerOutcome LeaseFault) → (outcome_status outcome == 4) ≡ true → outcome ≡ ended.Link
is_link (ended.Answered want (reply.Block b)) four = absurd (true_is_false (sym four))
is_link (ended.Answered want (reply.Out o)) four = absurd (true_is_false (sym four))
is_link (ended.PeerEnded at) four = absurd (true_is_false (sym four))
is_link (ended.BadFrame place) four = absurd (true_is_false (sym four))
is_link ended.Link four = refl
is_link ended.NoMemory four = absurd (true_is_false (sym four))
is_link (ended.Refused (Exhausted at count total)) four = absurd (true_is_false (sym four))
is_link (ended.Refused Device) four = absurd (true_is_false (sym four))
is_link (ended.Refused (Broken first)) four = absurd (true_is_false (sym four))

-- the journal refused, which is marked then
pub is_refused : (mark : ℕ) (outcome : BrokerOutcome LeaseFault) → (outcome_status outcome == 5) ≡ true
    → IfSome (refusal outcome) (IsMarkedFault mark) → IsRefused outcome × (mark ≢ 0)
is_refused mark (ended.Answered want (reply.Block b)) five marked = absurd (true_is_false (sym five))
is_refused mark (ended.Answered want (reply.Out o)) five marked = absurd (true_is_false (sym five))
is_refused mark (ended.PeerEnded at) five marked = absurd (true_is_false (sym five))
is_refused mark (ended.BadFrame place) five marked = absurd (true_is_false (sym five))
is_refused mark ended.Link five marked = absurd (true_is_false (sym five))
is_refused mark ended.NoMemory five marked = absurd (true_is_false (sym five))
is_refused mark (ended.Refused (Exhausted at count total)) five marked = absurd (true_is_false (sym five))
is_refused mark (ended.Refused Device) five marked = (tt, marked)
is_refused mark (ended.Refused (Broken first)) five marked = (tt, marked.0)

-- no lease is refused for want of units
pub is_out : (mark : ℕ) (outcome : BrokerOutcome LeaseFault) → (outcome_status outcome == 6) ≡ true
    → IfSome (refusal outcome) (IsMarkedFault mark) → IsOut outcome
is_out mark (ended.Answered want (reply.Block b)) six marked = absurd (true_is_false (sym six))
is_out mark (ended.Answered want (reply.Out o)) six marked = tt
is_out mark (ended.PeerEnded at) six marked = absurd (true_is_false (sym six))
is_out mark (ended.BadFrame place) six marked = absurd (true_is_false (sym six))
is_out mark ended.Link six marked = absurd (true_is_false (sym six))
is_out mark ended.NoMemory six marked = absurd (true_is_false (sym six))
is_out mark (ended.Refused (Exhausted at count total)) six marked = absurd marked
is_out mark (ended.Refused Device) six marked = absurd (true_is_false (sym six))
is_out mark (ended.Refused (Broken first)) six marked = absurd (true_is_false (sym six))

-- ---- notes of which none has a status but 0

is_granted : (outcome : BrokerOutcome LeaseFault) → (outcome_status outcome == 1) ≡ false → (outcome_status outcome == 4) ≡ false
    → (outcome_status outcome == 5) ≡ false → (outcome_status outcome == 6) ≡ false → (outcome_status outcome == 7) ≡ false → IsGranted outcome
is_granted (ended.Answered want (reply.Block b)) one four five six seven = tt
is_granted (ended.Answered want (reply.Out o)) one four five six seven = absurd (true_is_false six)
is_granted (ended.PeerEnded at) one four five six seven = absurd (true_is_false one)
is_granted (ended.BadFrame place) one four five six seven = absurd (true_is_false one)
is_granted ended.Link one four five six seven = absurd (true_is_false four)
is_granted ended.NoMemory one four five six seven = absurd (true_is_false seven)
is_granted (ended.Refused (Exhausted at count total)) one four five six seven = absurd (true_is_false six)
is_granted (ended.Refused Device) one four five six seven = absurd (true_is_false five)
is_granted (ended.Refused (Broken first)) one four five six seven = absurd (true_is_false five)

-- a note has no such status, and the others have none
first_has : {L : Type 0} (status : ℕ) (note : BrokerNote L LeaseFault) (notes : List (BrokerNote L LeaseFault)) → has_status (note ∷ notes) status ≡ false
    → (outcome_status note.outcome == status) ≡ false
first_has status note notes same = first_is (outcome_status note.outcome == status) (has_status notes status) same

rest_has : {L : Type 0} (status : ℕ) (note : BrokerNote L LeaseFault) (notes : List (BrokerNote L LeaseFault)) → has_status (note ∷ notes) status ≡ false
    → has_status notes status ≡ false
rest_has status note notes same = rest_is (outcome_status note.outcome == status) (has_status notes status) same

pub all_granted : {L : Type 0} (notes : List (BrokerNote L LeaseFault)) → has_status notes 1 ≡ false → has_status notes 4 ≡ false
    → has_status notes 5 ≡ false → has_status notes 6 ≡ false → has_status notes 7 ≡ false → All (λ note. IsGranted note.outcome) notes
all_granted [] one four five six seven place default within = absurd (omega (arith, within))
all_granted (note ∷ notes) one four five six seven zero default within =
    is_granted note.outcome (first_has 1 note notes one) (first_has 4 note notes four) (first_has 5 note notes five)
    (first_has 6 note notes six) (first_has 7 note notes seven)
all_granted (note ∷ notes) one four five six seven (suc place) default within =
    all_granted notes (rest_has 1 note notes one) (rest_has 4 note notes four) (rest_has 5 note notes five)
    (rest_has 6 note notes six) (rest_has 7 note notes seven) place default (omega (arith, within))

-- ---- links that failed

module _ {B L : Type 0} (link_tells : L → LinkState) (state : B → DiskState) where
  -- a link failed where its exchange says so
  abbrev pub IsLinkOf : BrokerNote L LeaseFault → Type 0
  IsLinkOf note = note.outcome ≡ ended.Link → Rose 0 (link_tells note.link).faults

  pub links_failed : (notes : List (BrokerNote L LeaseFault)) (asks : List (Asked LeaseFault)) (old new : Keeping)
      → AreExchanges link_tells state notes asks old new → All IsLinkOf notes
  links_failed [] asks old new are place default within is = absurd (omega (arith, within))
  links_failed (note ∷ notes) [] old new are place default within is = absurd are
  links_failed (note ∷ notes) (asked ∷ asks) old new are zero default within is =
      let exchange = are.1 in
      let cause = subst (λ (o : BrokerOutcome LeaseFault). IsBrokerCause asked (snapshot Verifier [] exchange.first) o
      (snapshot Verifier note.log (link_tells note.link))) is exchange.is_note.cause in
      subst (λ (n : ℕ). Rose n (link_tells note.link).faults) exchange.fresh.unfailed cause.0
  links_failed (note ∷ notes) (asked ∷ asks) old new are (suc place) default within is =
      links_failed notes asks are.0 new are.2 place default (omega (arith, within)) is
