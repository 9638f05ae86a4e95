-- What is found at a start.
use Rattle.std.proofs.Common.{◌≡◌, ◌<◌, ◌≤◌, ◌+◌, ◌-◌, ◌*◌, ◌^◌, ℕ, List, [], ◌∷◌, Bool, true, false, min, sum_by, Option, Some, None, IfSome, inr, refl, ap, sym, ◌∙◌, subst, arith}
use Rattle.std.proofs.lemmas.List.Sums.{sum_by-append}
use Rattle.zk_port.specs.Disks.{DiskState}
use Rattle.zk_model.specs.declared.JournalKind.{JournalKind}
use Rattle.zk_model.specs.declared.JournalKind.TheVariants.{Ceilings}
use Rattle.lease_journal.specs.Journals.{AreUsed, IsFirstBad, body_at, body_before, first_bodies, last_body}
use Rattle.lease_journal.specs.Twins.{IsAreaOf, IsTwinTidy, TwinRecovers, TwinStands, area_at, claimed_units, head_at, twin_begin, twin_length, twin_slots_at}
use Rattle.lease_journal.specs.Causes.{IsScanned}
use Rattle.lease_journal.specs.declared.fault.StartFault.TheVariants as start
use Rattle.lease_journal.proofs.Putting.{first_more, length-first}
use Rattle.lease_journal.proofs.Scanning.{used_recovers}
use Rattle.lease_journal.proofs.Sound.{before_slot}
use Rattle.twin_journal.specs.States.{IsKept, TwinState}
use Rattle.twin_journal.specs.Starts.{HasBadBody, HasBadGeneration, IsActiveFound, IsTwinOpened, SaysTwinSlots, TwinStartCause}

-- the units of one slot more
pub units_more : (at slot : ℕ) (bytes : List ℕ) (body : ℕ × ℕ) (before after : ℕ) → body ≡ body_at at bytes slot
    → before ≡ min (2 ^ 64 - 1) (sum_by (λ (b : ℕ × ℕ). b.1 - b.0) (first_bodies at slot bytes))
    → after ≡ min (before + (body.1 - body.0)) (2 ^ 64 - 1)
    → after ≡ min (2 ^ 64 - 1) (sum_by (λ (b : ℕ × ℕ). b.1 - b.0) (first_bodies at (slot + 1) bytes))
units_more at slot bytes body before after is was now =
    let more : sum_by (λ (b : ℕ × ℕ). b.1 - b.0) (first_bodies at (slot + 1) bytes)
    ≡ sum_by (λ (b : ℕ × ℕ). b.1 - b.0) (first_bodies at slot bytes) + ((body_at at bytes slot).1 - (body_at at bytes slot).0) =
    ap (sum_by (λ (b : ℕ × ℕ). b.1 - b.0)) (first_more at slot bytes)
    ∙ sum_by-append (λ (b : ℕ × ℕ). b.1 - b.0) (first_bodies at slot bytes) (body_at at bytes slot ∷ [])
    ∙ one (sum_by (λ (b : ℕ × ℕ). b.1 - b.0) (first_bodies at slot bytes)) (body_at at bytes slot) in
    let same : body.1 - body.0 ≡ (body_at at bytes slot).1 - (body_at at bytes slot).0 = ap (λ (b : ℕ × ℕ). b.1 - b.0) is in
    capped (sum_by (λ (b : ℕ × ℕ). b.1 - b.0) (first_bodies at slot bytes)) (sum_by (λ (b : ℕ × ℕ). b.1 - b.0) (first_bodies at (slot + 1) bytes))
    ((body_at at bytes slot).1 - (body_at at bytes slot).0) before after (body.1 - body.0) more same was now
  where
    one : (n : ℕ) (b : ℕ × ℕ) → n + sum_by (λ (c : ℕ × ℕ). c.1 - c.0) (b ∷ []) ≡ n + (b.1 - b.0)
    one n b = omega arith

    capped : (all more size before after added : ℕ) → more ≡ all + size → added ≡ size → before ≡ min (2 ^ 64 - 1) all
        → after ≡ min (before + added) (2 ^ 64 - 1) → after ≡ min (2 ^ 64 - 1) more
    capped all more size before after added m s b a = omega (arith, m, s, b, a)

-- the last ceiling
pub last_ceiling : (at used : ℕ) (bytes : List ℕ) (ceiling : ℕ) → ceiling ≡ (last_body at bytes used).0 → ceiling < 2 ^ 64
    → ceiling ≡ min (2 ^ 64 - 1) (claimed_units Ceilings (first_bodies at used bytes))
last_ceiling at used bytes ceiling is small =
    let all : claimed_units Ceilings (first_bodies at used bytes) ≡ ceiling =
    ap (λ n. (body_before (first_bodies at used bytes) n).0) (length-first at used bytes) ∙ ap (λ (b : ℕ × ℕ). b.0) (before_slot at used bytes used (omega arith)) ∙ sym is in
    omega (arith, all, small)

module _ (kind : JournalKind) (id : List ℕ) (total begin slots : ℕ) (bytes : List ℕ) (second : Bool) (generation : ℕ) (other_open : Bool)
    (stands : TwinStands kind id total begin slots bytes) (found : IsActiveFound begin slots bytes second generation other_open)
    (at : ℕ) (place : at ≡ area_at begin slots second) (used : ℕ) (are : AreUsed at slots used bytes) where
  are_there : AreUsed (area_at begin slots second) slots used bytes
  are_there = subst (λ n. AreUsed n slots used bytes) place are

  pub bad_body : (bad : ℕ) → IsFirstBad kind total at bytes used (Some bad) → TwinStartCause kind id total begin bytes (start.BadBody bad)
  bad_body bad first =
      let there : HasBadBody kind total begin slots bytes bad = record {
        second = second;
        used = used;
        active = found.active;
        are = are_there;
        first = subst (λ n. IsFirstBad kind total n bytes used (Some bad)) place first;
      } in (
        subst (λ n. TwinStands kind id total begin n bytes) (sym stands.says) stands,
        subst (λ n. HasBadBody kind total begin n bytes bad) (sym stands.says) there,
      )

  pub bad_generation : (header : ℕ) → header ≡ head_at 0 slots second → IsFirstBad kind total at bytes used None
      → (1 ≤ generation → generation ≤ claimed_units kind (first_bodies at used bytes) + 1 → ⊥)
      → TwinStartCause kind id total begin bytes (start.BadHeader header)
  bad_generation header here sound wrong =
      let there : HasBadGeneration kind total begin slots bytes header = record {
        second = second;
        used = used;
        active = found.active;
        are = are_there;
        sound = subst (λ n. IsFirstBad kind total n bytes used None) place sound;
        bad = λ has.
            let units : claimed_units kind (first_bodies at used bytes) ≡ claimed_units kind (first_bodies (area_at begin slots second) used bytes) =
            ap (λ n. claimed_units kind (first_bodies n used bytes)) place in
            wrong (omega (arith, has.least, found.generation_is)) (omega (arith, has.most, found.generation_is, units));
        place_is = here;
      } in
      inr (
        subst (λ n. TwinStands kind id total begin n bytes) (sym stands.says) stands,
        inr (subst (λ n. HasBadGeneration kind total begin n bytes header) (sym stands.says) there),
      )

  pub opened_from : (last : ℕ × ℕ) → IsScanned kind total at used last None bytes
      → (1 ≤ generation) × (generation ≤ claimed_units kind (first_bodies at used bytes) + 1)
      → IsTwinOpened kind id total begin slots used last second generation other_open bytes
  opened_from last scanned has = record {
    stands = stands;
    found = found;
    slots_used = are_there;
    last_is = scanned.last_is ∙ ap (λ n. last_body n bytes used) place;
    sound = subst (λ n. IsFirstBad kind total n bytes used None) place scanned.first_bad;
    may_have = record {
      least = has.0;
      most = subst (λ n. generation ≤ claimed_units kind (first_bodies n used bytes) + 1) place has.1;
    };
  }

-- what a start finds in a tidy journal
pub area_found : (kind : JournalKind) (id : List ℕ) (total begin slots used : ℕ) (last : ℕ × ℕ) (second : Bool) (generation : ℕ) (other_open : Bool) (bytes : List ℕ)
    → IsTwinOpened kind id total begin slots used last second generation other_open bytes → IsTwinTidy begin slots bytes
    → IsAreaOf begin slots second generation (first_bodies (area_at begin slots second) used bytes) bytes
area_found kind id total begin slots used last second generation other_open bytes opened tidy = record {
  active = opened.found.active;
  generation_is = opened.found.generation_is;
  tidy = tidy second opened.found.active;
  recovered = used_recovers (area_at begin slots second) slots used bytes opened.slots_used;
}

pub twin_recovered : (kind : JournalKind) (id : List ℕ) (total begin slots used : ℕ) (last : ℕ × ℕ) (second : Bool) (generation : ℕ) (other_open : Bool) (bytes : List ℕ)
    → IsTwinOpened kind id total begin slots used last second generation other_open bytes
    → TwinRecovers begin slots bytes (first_bodies (area_at begin slots second) used bytes)
twin_recovered kind id total begin slots used last second generation other_open bytes opened = record {
  second = second;
  active = opened.found.active;
  recovered = used_recovers (area_at begin slots second) slots used bytes opened.slots_used;
}

-- the slots of an area end with the file at most
pub area_inside : (begin slots : ℕ) (second : Bool) (n : ℕ) → begin + twin_length slots ≤ n → area_at begin slots second + 32 * slots ≤ n
area_inside begin slots false n full = omega (arith, full)
area_inside begin slots true n full = omega (arith, full)

-- where a journal begins in a file, and what its header says of the number of slots
pub says_twin_slots : (kind : JournalKind) (content : Option (List ℕ)) (begin slots : ℕ) → begin ≤ 2 ^ 36 → slots ≤ 2 ^ 28
    → ((bytes : List ℕ) → content ≡ Some bytes → (begin ≡ twin_begin kind bytes) × (slots ≡ twin_slots_at begin bytes)) → SaysTwinSlots kind content begin slots
says_twin_slots kind None begin slots low few is = (low, few)
says_twin_slots kind (Some bytes) begin slots low few is = ((is bytes refl).0, (is bytes refl).1, low, few)

-- what is kept stands where the disk tells it
pub kept_told : {D : Type 0} (state : D → DiskState) (twin : TwinState D) (bodies : List (ℕ × ℕ)) (bytes : List ℕ) → IsKept state twin bodies bytes
    → IfSome (state twin.disk).content (IsKept state twin bodies)
kept_told state twin bodies bytes kept = subst (λ o. IfSome o (IsKept state twin bodies)) (sym kept.content) kept
