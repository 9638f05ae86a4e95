-- An area that is filled slot by slot.
use Rattle.std.proofs.Common.{◌≡◌, ◌<◌, ◌≤◌, ◌+◌, ◌*◌, ℕ, suc, List, [], ◌∷◌, length, get_or, take, drop, min, max, Option, Some, None, IfSome, inl, ⊎_elim, ap, sym, ◌∙◌, subst, arith}
use Rattle.std.specs.Option.{option_map}
use Rattle.std.specs.Int.{w64, from_le_bytes}
use Rattle.std.proofs.lemmas.Bool.{cases_lt}
use Rattle.std.proofs.lemmas.List.{ext_get_or, get_or-take, get_or-drop, length-take, length-drop, drop_all, drop_more}
use Rattle.zk_port.specs.Images.{IsTorn, written_at}
use Rattle.zk_port.proofs.Torn.{torn_by_write}
use Rattle.lease_journal.specs.Journals.{IsOpen, body_at, body_before, number_at}
use Rattle.lease_journal.proofs.Torn.{written_inside, written_size}
use Rattle.lease_journal.proofs.Putting.{body_kept}
use Rattle.twin_journal.specs.Filling.{AreBodySlots, IsClosedSlot, IsFilled, IsOpenSlot, IsSlotFor, last_after, slot_bytes}

-- a part of what was written
pub part_written : (at off n : ℕ) (bytes old : List ℕ) → 0 < n → off + n ≤ length bytes → take n (drop (at + off) (written_at at bytes old)) ≡ take n (drop off bytes)
part_written at off n bytes old some fits =
    let new : List ℕ = written_at at bytes old in
    let size : length (written_at at bytes old) ≡ max (length old) (at + length bytes) = written_size at bytes old (omega (arith, some, fits)) in
    let here : length (take n (drop (at + off) (written_at at bytes old))) ≡ n = length-take n (drop (at + off) new) ∙ (omega (arith, length-drop (at + off) new, size, fits)) in
    let there : length (take n (drop off bytes)) ≡ n = length-take n (drop off bytes) ∙ (omega (arith, length-drop off bytes, fits)) in
    ext_get_or 0 (take n (drop (at + off) new)) (take n (drop off bytes)) (here ∙ sym there) (λ i inside.
    let below : i < n = omega (arith, inside, here) in
    let place : at + off + i ≡ at + (off + i) = omega arith in
    get_or-take n (drop (at + off) new) i 0 below
    ∙ get_or-drop (at + off) new i 0
    ∙ ap (λ p. get_or new p 0) place
    ∙ written_inside at bytes old (off + i) (omega (arith, below, fits))
    ∙ sym (get_or-take n (drop off bytes) i 0 below ∙ get_or-drop off bytes i 0))

pub number_written : (at off : ℕ) (bytes old : List ℕ) → off + 8 ≤ length bytes → number_at (written_at at bytes old) (at + off) ≡ number_at bytes off
number_written at off bytes old fits = ap (from_le_bytes w64) (part_written at off 8 bytes old (omega arith) fits)

module _ (at slot : ℕ) (bodies : List (ℕ × ℕ)) (bytes written : List ℕ) (so_far : IsFilled at slot bodies bytes) (whole : length written ≡ 32)
    (are : written ≡ slot_bytes (drop slot bodies)) where
  abbrev new : List ℕ
  new = written_at (at + 32 * slot) written bytes

  torn : IsTorn (at + 32 * slot) 32 bytes new
  torn = subst (λ n. IsTorn (at + 32 * slot) n bytes new) whole (torn_by_write (at + 32 * slot) written bytes)

  gate_kept : (other : ℕ) → other < slot → get_or new (at + 32 * other + 31) 0 ≡ get_or bytes (at + 32 * other + 31) 0
  gate_kept other ahead = torn.kept (at + 32 * other + 31) (omega (arith, ahead, so_far.inside)) (inl (omega (arith, ahead)))

  body_stays : (other : ℕ) → other < slot → body_at at new other ≡ body_at at bytes other
  body_stays other ahead = body_kept at other bytes new (omega (arith, ahead, so_far.inside)) torn.least
      (λ i inside. torn.kept (at + 32 * other + i) (omega (arith, ahead, inside, so_far.inside)) (inl (omega (arith, ahead, inside))))

  gate_is : get_or new (at + 32 * slot + 31) 0 ≡ get_or written 31 0
  gate_is = written_inside (at + 32 * slot) written bytes 31 (omega (arith, whole))

  body_is : ◌≡◌ {A = ℕ × ℕ} (body_at at new slot) (number_at written 0, number_at written 8)
  body_is =
      let here : at + 32 * slot ≡ at + 32 * slot + 0 = omega arith in
      let first : number_at new (at + 32 * slot) ≡ number_at written 0 = ap (number_at new) here ∙ number_written (at + 32 * slot) 0 written bytes (omega (arith, whole)) in
      let second : number_at new (at + 32 * slot + 8) ≡ number_at written 8 = number_written (at + 32 * slot) 8 written bytes (omega (arith, whole)) in
      λ i. (first i, second i)

  longer : at + 32 * (slot + 1) ≤ length new
  longer = omega (arith, written_size (at + 32 * slot) written bytes (omega (arith, whole)), whole)

  last_slot : (other : ℕ) → other < slot + 1 → slot ≤ other → other ≡ slot
  last_slot other below from = omega (arith, below, from)

  exact_now : AreBodySlots at (slot + 1) bodies new
  exact_now other below i inside = ⊎_elim
      (λ ahead. torn.kept (at + 32 * other + i) (omega (arith, ahead, inside, so_far.inside)) (inl (omega (arith, ahead, inside)))
      ∙ so_far.exact other ahead i inside)
      (λ from. subst (λ n. get_or new (at + 32 * n + i) 0 ≡ get_or (slot_bytes (drop n bodies)) i 0) (sym (last_slot other below from))
      (written_inside (at + 32 * slot) written bytes i (omega (arith, whole, inside)) ∙ ap (λ (l : List ℕ). get_or l i 0) are))
      (cases_lt other slot)

  -- there is no body for this slot
  more_closed : length bodies ≤ slot → get_or written 31 0 ≡ 0 → IsFilled at (slot + 1) bodies new
  more_closed gone gate = record {
    inside = longer;
    opened = λ other below has. let ahead : other < slot = omega (arith, has, gone) in gate_kept other ahead ∙ so_far.opened other ahead has;
    bodies_are = λ other below has. let ahead : other < slot = omega (arith, has, gone) in body_stays other ahead ∙ so_far.bodies_are other ahead has;
    closed = λ other below past is_open. ⊎_elim
        (λ ahead. so_far.closed other ahead past (sym (gate_kept other ahead) ∙ is_open))
        (λ from.
        let there : get_or new (at + 32 * slot + 31) 0 ≡ 90 = subst (λ n. IsOpen at new n) (last_slot other below from) is_open in
        omega (arith, gate, gate_is, there))
        (cases_lt other slot);
    exact = exact_now;
  }

  more_opened : slot < length bodies → get_or written 31 0 ≡ 90 → ◌≡◌ {A = ℕ × ℕ} (number_at written 0, number_at written 8) (get_or bodies slot (0, 0)) → IsFilled at (slot + 1) bodies new
  more_opened there gate body = record {
    inside = longer;
    opened = λ other below has. ⊎_elim
        (λ ahead. gate_kept other ahead ∙ so_far.opened other ahead has)
        (λ from. subst (λ n. IsOpen at new n) (sym (last_slot other below from)) (gate_is ∙ gate))
        (cases_lt other slot);
    bodies_are = λ other below has. ⊎_elim
        (λ ahead. body_stays other ahead ∙ so_far.bodies_are other ahead has)
        (λ from. subst (λ n. body_at at new n ≡ get_or bodies n (0, 0)) (sym (last_slot other below from)) (body_is ∙ body))
        (cases_lt other slot);
    closed = λ other below past. absurd (omega (arith, past, there, below));
    exact = exact_now;
  }

  pub filled_more : IsSlotFor (drop slot bodies) written → IsFilled at (slot + 1) bodies new
  filled_more is = ⊎_elim
      (λ there.
      let open_slot : IsOpenSlot (get_or bodies slot (0, 0)) written = subst (λ (rest : List (ℕ × ℕ)). IsSlotFor rest written) (drop_more bodies slot (0, 0) there) is in
      more_opened there open_slot.gate (λ i. (open_slot.low i, open_slot.high i)))
      (λ gone.
      let closed_slot : IsClosedSlot written = subst (λ (rest : List (ℕ × ℕ)). IsSlotFor rest written) (drop_all slot bodies gone) is in
      more_closed gone closed_slot.gate)
      (cases_lt slot (length bodies))

-- no slot is filled yet
pub none_filled : (at : ℕ) (bodies : List (ℕ × ℕ)) (bytes : List ℕ) → at ≤ length bytes → IsFilled at 0 bodies bytes
none_filled at bodies bytes starts = record {
  inside = omega (arith, starts);
  opened = λ slot below has. absurd (omega (arith, below));
  bodies_are = λ slot below has. absurd (omega (arith, below));
  closed = λ slot below past. absurd (omega (arith, below));
  exact = λ slot below. absurd (omega (arith, below));
}

-- one slot more, in what a disk tells
pub told_more : (at slot : ℕ) (bodies : List (ℕ × ℕ)) (written : List ℕ) (old new : Option (List ℕ)) → length written ≡ 32 → IsSlotFor (drop slot bodies) written
    → written ≡ slot_bytes (drop slot bodies) → new ≡ option_map (written_at (at + 32 * slot) written) old → IfSome old (IsFilled at slot bodies) → IfSome new (IsFilled at (slot + 1) bodies)
told_more at slot bodies written None after whole is are e so_far = subst (λ o. IfSome o (IsFilled at (slot + 1) bodies)) (sym e) tt
told_more at slot bodies written (Some bytes) after whole is are e so_far =
    subst (λ o. IfSome o (IsFilled at (slot + 1) bodies)) (sym e) (filled_more at slot bodies bytes written so_far whole are is)

pub slot_size : (bodies : List (ℕ × ℕ)) (written : List ℕ) → IsSlotFor bodies written → length written ≡ 32
slot_size [] written is = is.whole
slot_size (body ∷ bodies) written is = is.whole

-- how many bodies there were so far, and the last
pub used_more : (bodies : List (ℕ × ℕ)) (slot : ℕ) → min slot (length bodies) + min 1 (length (drop slot bodies)) ≡ min (slot + 1) (length bodies)
used_more bodies slot = omega (arith, length-drop slot bodies)

pub last_more : (bodies : List (ℕ × ℕ)) (slot : ℕ) → last_after (body_before bodies (min slot (length bodies))) (drop slot bodies) ≡ body_before bodies (min (slot + 1) (length bodies))
last_more bodies slot = ⊎_elim
    (λ there.
    let next : min (slot + 1) (length bodies) ≡ suc slot = omega (arith, there) in
    ap (last_after (body_before bodies (min slot (length bodies)))) (drop_more bodies slot (0, 0) there) ∙ sym (ap (body_before bodies) next))
    (λ gone.
    let same : min slot (length bodies) ≡ min (slot + 1) (length bodies) = omega (arith, gone) in
    ap (last_after (body_before bodies (min slot (length bodies)))) (drop_all slot bodies gone) ∙ ap (body_before bodies) same)
    (cases_lt slot (length bodies))
