-- Heads that stay, and the active area.
use Rattle.std.proofs.Common.{◌≡◌, ◌<◌, ◌≤◌, ◌+◌, ◌*◌, ◌^◌, ◌++◌, ℕ, List, [], ◌∷◌, Bool, true, false, not, length, get_or, Option, Some, None, IfSome, inl, inr, ⊎_elim, ap, sym, ◌∙◌, subst, arith}
use Rattle.std.specs.Int.{w64, from_le_bytes}
use Rattle.zk_port.specs.Disks.{DiskState, LeavesOnly}
use Rattle.zk_port.specs.Images.{IsOutside, IsTorn, StepsBy}
use Rattle.lease_journal.specs.Journals.{IsOldOrNew, IsTidy, Recovers, first_bodies}
use Rattle.lease_journal.specs.Twins.{GoesBefore, IsActive, IsAreaOf, SaysOldOrNew, area_at, generation_at, head_at, twin_length}
use Rattle.lease_journal.specs.Causes.{KeptAt}
use Rattle.lease_journal.specs.Keeps.{ChangesAt}
use Rattle.lease_journal.specs.Steps.{IsReady, slot_written}
use Rattle.lease_journal.proofs.Moments.{leaves_also, leaves_both}
use Rattle.lease_journal.proofs.SlotSteps.{done_new, done_tidy, ready_from}
use Rattle.lease_journal.proofs.Torn.{same_part}

-- both heads say what they said
pub record SameHeads (begin slots : ℕ) (old new : List ℕ) : Type 0 where
  pub gates : (k : Bool) → get_or new (head_at begin slots k + 31) 0 ≡ get_or old (head_at begin slots k + 31) 0
  pub generations : (k : Bool) → generation_at begin slots new k ≡ generation_at begin slots old k

goes_same : (k : Bool) (g h g_now h_now : ℕ) → g_now ≡ g → h_now ≡ h → GoesBefore k g h → GoesBefore k g_now h_now
goes_same false g h g_now h_now own other before = omega (arith, own, other, before)
goes_same true g h g_now h_now own other before = omega (arith, own, other, before)

pub active_same : (begin slots : ℕ) (old new : List ℕ) (k : Bool) → SameHeads begin slots old new → IsActive begin slots old k → IsActive begin slots new k
active_same begin slots old new k same active = record {
  opened = same.gates k ∙ active.opened;
  before = λ is_open. goes_same k (generation_at begin slots old k) (generation_at begin slots old (not k)) (generation_at begin slots new k) (generation_at begin slots new (not k))
      (same.generations k) (same.generations (not k)) (active.before (sym (same.gates (not k)) ∙ is_open));
}

pub head_inside : (begin slots : ℕ) (k : Bool) (n : ℕ) → begin + twin_length slots ≤ n → head_at begin slots k + 32 ≤ n
head_inside begin slots false n full = omega (arith, full)
head_inside begin slots true n full = omega (arith, full)

pub heads_torn : (begin slots at n : ℕ) (old new : List ℕ) → begin + twin_length slots ≤ length old
    → ((k : Bool) (i : ℕ) → i < 32 → IsOutside at n (head_at begin slots k + i)) → IsTorn at n old new → SameHeads begin slots old new
heads_torn begin slots at n old new full beside torn = record {
  gates = λ k. byte k 31 (omega arith);
  generations = λ k. ap (from_le_bytes w64) (same_part old new (head_at begin slots k) 8
      (omega (arith, head_inside begin slots k (length old) full)) (omega (arith, head_inside begin slots k (length old) full, torn.least)) (λ i below. byte k i (omega (arith, below))));
}
  where
    byte : (k : Bool) (i : ℕ) → i < 32 → get_or new (head_at begin slots k + i) 0 ≡ get_or old (head_at begin slots k + i) 0
    byte k i inside = torn.kept (head_at begin slots k + i) (omega (arith, inside, head_inside begin slots k (length old) full)) (beside k i inside)

-- a slot stands beside both heads
pub slot_beside : (begin slots slot : ℕ) (second k : Bool) (i : ℕ) → slot < slots → i < 32 → IsOutside (area_at begin slots second + 32 * slot) 32 (head_at begin slots k + i)
slot_beside begin slots slot false false i within inside = inl (omega (arith, inside))
slot_beside begin slots slot false true i within inside = inr (omega (arith, within))
slot_beside begin slots slot true false i within inside = inl (omega (arith, inside))
slot_beside begin slots slot true true i within inside = inl (omega (arith, inside))

module _ (begin slots generation : ℕ) (second : Bool) (bodies : List (ℕ × ℕ)) (c : List ℕ)
    (area : IsAreaOf begin slots second generation bodies c) where
  -- the same area of other bytes, where the heads are the same
  pub area_now : (image : List ℕ) (bodies_now : List (ℕ × ℕ)) → SameHeads begin slots c image → IsTidy (area_at begin slots second) slots image
      → Recovers (area_at begin slots second) slots image bodies_now → IsAreaOf begin slots second generation bodies_now image
  area_now image bodies_now same tidy recovered = record {
    active = active_same begin slots c image second same area.active;
    generation_is = same.generations second ∙ area.generation_is;
    tidy = tidy;
    recovered = recovered;
  }

  module _ (used : ℕ) (count : length bodies ≡ used) where
    pub bodies_first : bodies ≡ first_bodies (area_at begin slots second) used c
    bodies_first = area.recovered.read ∙ ap (λ n. first_bodies (area_at begin slots second) n c) count

    pub area_ready : (images : List ℕ → Type 0) → used < slots → ((image : List ℕ) → images image → image ≡ c)
        → IsReady (area_at begin slots second) slots used c images
    area_ready images within only =
        let kept : KeptAt (area_at begin slots second) slots bodies c = record { tidy = area.tidy; recovered = area.recovered } in
        ready_from (area_at begin slots second) slots used c images within (subst (λ bs. KeptAt (area_at begin slots second) slots bs c) bodies_first kept) only

    -- while a slot of it is written
    pub put_says : (body : ℕ × ℕ) (image : List ℕ) → used < slots → begin + twin_length slots ≤ length c
        → IsTorn (area_at begin slots second + 32 * used) 32 c image
        → IsOldOrNew (area_at begin slots second) slots (first_bodies (area_at begin slots second) used c) body image
        → SaysOldOrNew begin slots generation bodies generation (bodies ++ body ∷ []) image
    put_says body image within full torn either =
        let same = heads_torn begin slots (area_at begin slots second + 32 * used) 32 c image full (λ k i inside. slot_beside begin slots used second k i within inside) torn in
        record {
          says = ⊎_elim
              (λ old. inl (record { second = second; area = area_now image bodies same either.tidy (subst (λ bs. Recovers (area_at begin slots second) slots image bs) (sym bodies_first) old) }))
              (λ new. inr (record {
                second = second;
                area = area_now image (bodies ++ body ∷ []) same either.tidy
                    (subst (λ bs. Recovers (area_at begin slots second) slots image (bs ++ body ∷ [])) (sym bodies_first) new);
              }))
              either.recovered;
        }

    pub put_moments : (body : ℕ × ℕ) {old new : DiskState} → used < slots → begin + twin_length slots ≤ length c
        → ((image : List ℕ) → old.images image → image ≡ c)
        → LeavesOnly old new (IsOldOrNew (area_at begin slots second) slots (first_bodies (area_at begin slots second) used c) body)
        → ChangesAt (area_at begin slots second + 32 * used) 32 old new
        → LeavesOnly old new (SaysOldOrNew begin slots generation bodies generation (bodies ++ body ∷ []))
    put_moments body {old} within full only either changes =
        leaves_also (leaves_both either changes.any_moment) (λ image both.
        let torn : IsTorn (area_at begin slots second + 32 * used) 32 c image = subst (λ was. IsTorn (area_at begin slots second + 32 * used) 32 was image) (only both.1.0 both.1.1) both.1.2 in
        put_says body image within full torn both.0)

    pub put_read : (body : ℕ × ℕ) (content new : Option (List ℕ)) → content ≡ Some c → used < slots → begin + twin_length slots ≤ length c
        → StepsBy (IsTorn (area_at begin slots second + 32 * used) 32) content new
        → IfSome new (IsOldOrNew (area_at begin slots second) slots (first_bodies (area_at begin slots second) used c) body)
        → IfSome new (SaysOldOrNew begin slots generation bodies generation (bodies ++ body ∷ []))
    put_read body content new is within full steps either = each new (subst (λ o. StepsBy (IsTorn (area_at begin slots second + 32 * used) 32) o new) is steps) either
      where
        each : (new : Option (List ℕ)) → StepsBy (IsTorn (area_at begin slots second + 32 * used) 32) (Some c) new
            → IfSome new (IsOldOrNew (area_at begin slots second) slots (first_bodies (area_at begin slots second) used c) body)
            → IfSome new (SaysOldOrNew begin slots generation bodies generation (bodies ++ body ∷ []))
        each None steps either = tt
        each (Some image) torn either = put_says body image within full torn either

    -- the same of an area whose place is known by an equation
    module _ (at : ℕ) (place : at ≡ area_at begin slots second) (body : ℕ × ℕ) {old new : DiskState} (is : old.content ≡ Some c)
        (only : (image : List ℕ) → old.images image → image ≡ c) (within : used < slots) (full : begin + twin_length slots ≤ length c)
        (changes : ChangesAt (at + 32 * used) 32 old new) where
      changes_here : ChangesAt (area_at begin slots second + 32 * used) 32 old new
      changes_here = subst (λ n. ChangesAt (n + 32 * used) 32 old new) place changes

      pub ready_at : IsReady at slots used c old.images
      ready_at = subst (λ n. IsReady n slots used c old.images) (sym place) (area_ready old.images within only)

      pub put_any_moment : ((slots : ℕ) (bytes : List ℕ) → old.content ≡ Some bytes → IsReady at slots used bytes old.images
          → LeavesOnly old new (IsOldOrNew at slots (first_bodies at used bytes) body))
          → LeavesOnly old new (SaysOldOrNew begin slots generation bodies generation (bodies ++ body ∷ []))
      put_any_moment any =
          put_moments body within full only
          (subst (λ n. LeavesOnly old new (IsOldOrNew n slots (first_bodies n used c) body)) place (any slots c is ready_at)) changes_here

      pub put_any_read : ((slots : ℕ) (bytes : List ℕ) → old.content ≡ Some bytes → IsReady at slots used bytes old.images
          → IfSome new.content (IsOldOrNew at slots (first_bodies at used bytes) body))
          → IfSome new.content (SaysOldOrNew begin slots generation bodies generation (bodies ++ body ∷ []))
      put_any_read any =
          put_read body old.content new.content is within full changes_here.content
          (subst (λ n. IfSome new.content (IsOldOrNew n slots (first_bodies n used c) body)) place (any slots c is ready_at))

      -- once it is done
      module _ (low : body.0 < 2 ^ 64) (high : body.1 < 2 ^ 64) (written : new.content ≡ Some (slot_written at used body c)) where
        torn_done : IsTorn (area_at begin slots second + 32 * used) 32 c (slot_written at used body c)
        torn_done = subst (λ o. StepsBy (IsTorn (area_at begin slots second + 32 * used) 32) (Some c) o) written
            (subst (λ o. StepsBy (IsTorn (area_at begin slots second + 32 * used) 32) o new.content) is changes_here.content)

        pub heads_done : SameHeads begin slots c (slot_written at used body c)
        heads_done = heads_torn begin slots (area_at begin slots second + 32 * used) 32 c (slot_written at used body c) full
            (λ k i inside. slot_beside begin slots used second k i within inside) torn_done

        pub area_done : IsAreaOf begin slots second generation (bodies ++ body ∷ []) (slot_written at used body c)
        area_done = area_now (slot_written at used body c) (bodies ++ body ∷ []) heads_done
            (subst (λ n. IsTidy n slots (slot_written at used body c)) place (done_tidy at slots used body low high c old.images ready_at))
            (subst (λ n. Recovers n slots (slot_written at used body c) (bodies ++ body ∷ [])) place
            (subst (λ bs. Recovers at slots (slot_written at used body c) (bs ++ body ∷ [])) first_at (done_new at slots used body low high c old.images ready_at)))
          where
            first_at : first_bodies at used c ≡ bodies
            first_at = ap (λ n. first_bodies n used c) place ∙ sym bodies_first
