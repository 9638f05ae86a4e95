-- What a crash leaves of a node's journal is what its deeds keep.
use Rattle.std.proofs.Common.{◌≡◌, ℕ, ◌-◌, ◌^◌, ◌<◌, ◌⊎◌, inl, inr, Bool, true, false, List, Option, None, Some}
use Rattle.std.specs.Prelude.{IfSome, OnOk, Result, Ok, Err}
use Rattle.zk_model.specs.declared.Span.{Span}
use Rattle.zk_model.specs.declared.messages.Block.{Block}
use Rattle.zk_port.specs.Disks.{DiskState, LeavesOnly}
use Rattle.claim_store.specs.ClaimedRanges.{AreMerged}
use Rattle.claim_store.specs.Claims.{AreDurable, ClaimState, SaysClaims, SaysOldOrNewClaims}
use Rattle.claim_store.specs.declared.ClaimFault.{ClaimFault}
use Rattle.claim_store.proofs.Joining.{merged_through}
use Rattle.broker_core.specs.Messages.{units_of}
use Rattle.broker_node.specs.NodeStates.{IsTakeOf, NodeState}
use Rattle.broker_laws.specs.Laws.{ClaimsLeaveJournals}
use Rattle.broker_laws.specs.NodeDeeds.{SaysJournal, with_units}

module _ {B : Type 0} (state : B → DiskState) (node now : NodeState) (claims new : ClaimState B) (b : Block) (journal : List Span)
    (merged : AreMerged journal claims.claims) where
  abbrev Left : List ℕ → Type 0
  Left bytes = (kept : Bool) × SaysJournal (with_units kept (units_of b) journal) claims bytes

  left_by : (bytes : List ℕ) → SaysOldOrNewClaims claims.total claims.begin claims.slots claims.claims (units_of b) bytes → Left bytes
  left_by bytes (inl old) = (false, record { ranges = claims.claims; merged = merged; says = old })
  left_by bytes (inr more) = (
    true,
    record {
      ranges = more.ranges;
      merged = merged_through journal claims.claims more.ranges (units_of b) merged more.merged;
      says = more.says;
    },
  )

  left_since : LeavesOnly (state claims.disk) (state new.disk) (SaysOldOrNewClaims claims.total claims.begin claims.slots claims.claims (units_of b))
      → LeavesOnly (state claims.disk) (state new.disk) Left
  left_since l = record {
    later = l.later;
    each = λ c h. left_by c (l.each c h);
    before = λ t c early h. by_part t c (l.before t c early h);
  } where
    by_part : (t : ℕ) (c : List ℕ) → ((state claims.disk).images_since t c ⊎ SaysOldOrNewClaims claims.total claims.begin claims.slots claims.claims (units_of b) c)
        → (state claims.disk).images_since t c ⊎ Left c
    by_part t c (inl h) = inl h
    by_part t c (inr h) = inr (left_by c h)

  claimed_by : (answer : Result Bool ClaimFault) → IsTakeOf node claims b answer now new → OnOk answer (AreDurable state new) → answer ≡ Ok true
      → IfSome (state new.disk).content (λ bytes. SaysJournal (with_units true (units_of b) journal) new bytes
      × ((image : List ℕ) → (state new.disk).images image → SaysJournal (with_units true (units_of b) journal) new image))
  claimed_by (Ok true) t durable is = by_content (state new.disk).content durable where
    says : (bytes : List ℕ) → SaysClaims new.total new.begin new.slots new.claims bytes → SaysJournal (with_units true (units_of b) journal) new bytes
    says bytes s = record { ranges = new.claims; merged = merged_through journal claims.claims new.claims (units_of b) merged t.3; says = s }

    by_content : (o : Option (List ℕ))
        → IfSome o (λ bytes. SaysClaims new.total new.begin new.slots new.claims bytes
        × ((image : List ℕ) → (state new.disk).images image → SaysClaims new.total new.begin new.slots new.claims image))
        → IfSome o (λ bytes. SaysJournal (with_units true (units_of b) journal) new bytes
        × ((image : List ℕ) → (state new.disk).images image → SaysJournal (with_units true (units_of b) journal) new image))
    by_content None d = tt
    by_content (Some bytes) d = (says bytes d.0, λ image h. says image (d.1 image h))
  claimed_by (Ok false) t durable is = absurd (cc)
  claimed_by (Err fault) t durable is = absurd (cc)

pub claims_leave_journals : {B : Type 0} (state : B → DiskState) → ClaimsLeaveJournals state
claims_leave_journals state node now claims new b answer journal bytes taken own merged whole few content = record {
  any_moment = left_since state node now claims new b journal merged (taken.any_moment own whole few bytes content);
  claimed = claimed_by state node now claims new b journal merged answer taken.taken (by_answer answer (taken.durable own));
} where
  by_answer : (a : Result Bool ClaimFault) → OnOk a (claims.total < 2 ^ 64 - 1 → AreDurable state new) → OnOk a (AreDurable state new)
  by_answer (Ok t) d = d few
  by_answer (Err fault) d = tt
