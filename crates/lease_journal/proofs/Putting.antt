-- What each step of a put leaves of a journal.
use Rattle.std.proofs.Common.{◌≡◌, ◌≢◌, ◌<◌, ◌≤◌, ◌+◌, ◌-◌, ◌*◌, ◌++◌, ◌^◌, ℕ, List, [], ◌∷◌, length, get_or, take, drop, max, inl, inr, ⊎_elim, refl, ap, sym, ◌∙◌, subst, arith}
use Rattle.std.proofs.lemmas.Bool.{cases_lt, cases_eq}
use Rattle.std.proofs.lemmas.List.{ext_get_or, get_or-take, get_or-drop, get_or_append_left, get_or-append_right, get_or-append-add, length-append, length-take, length-drop}
use Rattle.std.proofs.lemmas.List.FromFn.{get_or-map-range_with_len, length-map-range_with_len}
use Rattle.std.proofs.lemmas.Nat.{from_le_bytes-to_le_bytes_8}
use Rattle.std.specs.Int.{w64, to_le_bytes, from_le_bytes}
use Rattle.lease_journal.specs.Journals.{number_at}
use Rattle.zk_port.specs.Images.{IsTorn, written_at}
use Rattle.zk_port.proofs.Torn.{torn_by_write}
use Rattle.lease_journal.specs.Journals.{IsOpen, IsTidy, Recovers, IsOldOrNew, body_at, first_bodies}
use Rattle.lease_journal.specs.Steps.{body_bytes, body_written}
use Rattle.lease_journal.proofs.Torn.{before_end, behind_torn, same_part, written_size, written_inside}

abbrev pub no_body : ℕ × ℕ
no_body = (0, 0)

module _ (at : ℕ) where
  pub length-first : (used : ℕ) (bytes : List ℕ) → length (first_bodies at used bytes) ≡ used
  length-first used bytes = length-map-range_with_len (body_at at bytes) 0 used

  pub first-at : (used : ℕ) (bytes : List ℕ) (slot : ℕ) → slot < used → get_or (first_bodies at used bytes) slot no_body ≡ body_at at bytes slot
  first-at used bytes slot inside = get_or-map-range_with_len (body_at at bytes) 0 used slot slot no_body inside (omega arith)

  pub first_same : (used : ℕ) (old new : List ℕ) → ((slot : ℕ) → slot < used → body_at at new slot ≡ body_at at old slot) → first_bodies at used new ≡ first_bodies at used old
  first_same used old new same =
      ext_get_or no_body (first_bodies at used new) (first_bodies at used old) (length-first used new ∙ sym (length-first used old))
      (λ slot inside. let below : slot < used = omega (arith, inside, length-first used new) in
      first-at used new slot below ∙ same slot below ∙ sym (first-at used old slot below))

  pub first_more : (used : ℕ) (bytes : List ℕ) → first_bodies at (used + 1) bytes ≡ first_bodies at used bytes ++ body_at at bytes used ∷ []
  first_more used bytes =
      let size : length (first_bodies at used bytes ++ body_at at bytes used ∷ []) ≡ used + 1 = length-append (first_bodies at used bytes) (body_at at bytes used ∷ []) ∙ (omega (arith, length-first used bytes)) in
      ext_get_or no_body (first_bodies at (used + 1) bytes) (first_bodies at used bytes ++ body_at at bytes used ∷ []) (length-first (used + 1) bytes ∙ sym size)
      (λ slot inside. let below : slot < used + 1 = omega (arith, inside, length-first (used + 1) bytes) in
      first-at (used + 1) bytes slot below ∙ sym (each slot below))
    where
      each : (slot : ℕ) → slot < used + 1 → get_or (first_bodies at used bytes ++ body_at at bytes used ∷ []) slot no_body ≡ body_at at bytes slot
      each slot below = ⊎_elim
          (λ inside. get_or_append_left (first_bodies at used bytes) (body_at at bytes used ∷ []) no_body slot (omega (arith, inside, length-first used bytes)) ∙ first-at used bytes slot inside)
          (λ last. let is : slot ≡ used = omega (arith, last, below) in
          let gone : slot - used ≡ 0 = omega (arith, last, below) in
          get_or-append_right (first_bodies at used bytes) (body_at at bytes used ∷ []) used slot no_body (length-first used bytes) last
          ∙ ap (λ k. get_or (body_at at bytes used ∷ []) k no_body) gone ∙ ap (body_at at bytes) (sym is))
          (cases_lt slot used)

  -- all but one slot is open or not as it was, and the bodies before it are what they were
  pub record IsLike (slot : ℕ) (old new : List ℕ) : Type 0 where
    pub gates : (other : ℕ) → other ≢ slot → get_or new (at + 32 * other + 31) 0 ≡ get_or old (at + 32 * other + 31) 0
    pub bodies : (other : ℕ) → other < slot → body_at at new other ≡ body_at at old other

  -- a body of an open slot is kept where its 16 bytes are
  pub body_kept : (slot : ℕ) (old new : List ℕ) → at + 32 * slot + 16 ≤ length old → length old ≤ length new
      → ((i : ℕ) → i < 16 → get_or new (at + 32 * slot + i) 0 ≡ get_or old (at + 32 * slot + i) 0)
      → body_at at new slot ≡ body_at at old slot
  body_kept slot old new inside longer same =
      let place : ℕ = at + 32 * slot in
      let first : take 8 (drop (at + 32 * slot) new) ≡ take 8 (drop (at + 32 * slot) old) =
      same_part old new (at + 32 * slot) 8 (omega (arith, inside)) (omega (arith, inside, longer)) (λ i below. same i (omega (arith, below))) in
      let second : take 8 (drop (at + 32 * slot + 8) new) ≡ take 8 (drop (at + 32 * slot + 8) old) =
      same_part old new (at + 32 * slot + 8) 8 (omega (arith, inside)) (omega (arith, inside, longer)) (λ i below.
      let there : at + 32 * slot + 8 + i ≡ at + 32 * slot + (8 + i) = omega arith in
      subst (λ p. get_or new p 0 ≡ get_or old p 0) (sym there) (same (8 + i) (omega (arith, below)))) in
      λ i. (from_le_bytes w64 (first i), from_le_bytes w64 (second i))

  module _ (slots slot : ℕ) (c : List ℕ) (within : slot < slots) (opened : (j : ℕ) → j < slot → IsOpen at c j) (closed : ¬ (IsOpen at c slot)) (tidy : IsTidy at slots c) where
    size_first : length (first_bodies at slot c) ≡ slot
    size_first = length-first slot c

    pub still_open : (image : List ℕ) → IsLike slot c image → (j : ℕ) → j < slot → IsOpen at image j
    still_open image like j below = like.gates j (omega (arith, below)) ∙ opened j below

    -- none is open after
    none_behind : (image : List ℕ) → IsLike slot c image → (j : ℕ) → slot < j → j < slots → ¬ (IsOpen at image j)
    none_behind image like j behind inside is_open = closed (tidy slot j behind inside (sym (like.gates j (omega (arith, behind))) ∙ is_open))

    pub like_tidy : (image : List ℕ) → IsLike slot c image → IsTidy at slots image
    like_tidy image like earlier later before inside is_open = ⊎_elim
        (λ below. still_open image like earlier (omega (arith, below, before)))
        (λ from. ⊎_elim
        (λ ahead. absurd (none_behind image like later ahead inside is_open))
        (λ here. still_open image like earlier (omega (arith, here, before)))
        (cases_lt slot later))
        (cases_lt later slot)

    pub like_old : (image : List ℕ) → IsLike slot c image → ¬ (IsOpen at image slot) → Recovers at slots image (first_bodies at slot c)
    like_old image like shut = record {
      within = omega (arith, size_first, within);
      opened = λ j below. still_open image like j (omega (arith, below, size_first));
      closed = λ below is_open. shut (subst (λ n. IsOpen at image n) size_first is_open);
      read = sym (first_same slot c image like.bodies) ∙ ap (λ n. first_bodies at n image) (sym size_first);
    }

    pub like_new : (image : List ℕ) (body : ℕ × ℕ) → IsLike slot c image → IsOpen at image slot → body_at at image slot ≡ body
        → Recovers at slots image (first_bodies at slot c ++ body ∷ [])
    like_new image body like is_open is_body =
        let size : length (first_bodies at slot c ++ body ∷ []) ≡ slot + 1 = length-append (first_bodies at slot c) (body ∷ []) ∙ (omega (arith, size_first)) in
        record {
          within = omega (arith, size, within);
          opened = λ j below. ⊎_elim
              (λ ahead. still_open image like j ahead)
              (λ from. let is : j ≡ slot = omega (arith, from, below, size) in subst (λ n. IsOpen at image n) (sym is) is_open)
              (cases_lt j slot);
          closed = λ below opens. none_behind image like (length (first_bodies at slot c ++ body ∷ [])) (omega (arith, size)) below opens;
          read =
              ap (λ bodies. bodies ++ body ∷ []) (sym (first_same slot c image like.bodies))
              ∙ ap (λ b. first_bodies at slot image ++ b ∷ []) (sym is_body)
              ∙ sym (first_more slot image)
              ∙ ap (λ n. first_bodies at n image) (sym size);
        }

    gate_inside : (j : ℕ) → j < slot → at + 32 * j + 31 < length c
    gate_inside j below = before_end c (at + 32 * j + 31) 90 (opened j below) (omega arith)

    -- while the body is written
    pub torn_body : (image : List ℕ) → IsTorn (at + 32 * slot) 16 c image → IsLike slot c image
    torn_body image torn = record {
      gates = λ j other. ⊎_elim
          (λ ahead. torn.kept (at + 32 * j + 31) (gate_inside j ahead) (inl (omega (arith, ahead))))
          (λ from. behind_torn (at + 32 * slot) 16 c image torn (at + 32 * j + 31) (omega (arith, from)))
          (cases_lt j slot);
      bodies = λ j below. body_kept j c image (omega (arith, gate_inside j below)) torn.least
          (λ i inside. torn.kept (at + 32 * j + i) (omega (arith, inside, gate_inside j below)) (inl (omega (arith, below, inside))));
    }

    pub torn_body_shut : (image : List ℕ) → IsTorn (at + 32 * slot) 16 c image → ¬ (IsOpen at image slot)
    torn_body_shut image torn is_open = closed (sym (behind_torn (at + 32 * slot) 16 c image torn (at + 32 * slot + 31) (omega arith)) ∙ is_open)

    -- while the gate is written
    pub torn_gate : (image : List ℕ) → IsTorn (at + 32 * slot + 31) 1 c image → IsLike slot c image
    torn_gate image torn = record {
      gates = λ j other. ⊎_elim
          (λ ahead. torn.kept (at + 32 * j + 31) (gate_inside j ahead) (inl (omega (arith, ahead))))
          (λ from. behind_torn (at + 32 * slot + 31) 1 c image torn (at + 32 * j + 31) (omega (arith, from, other)))
          (cases_lt j slot);
      bodies = λ j below. body_kept j c image (omega (arith, gate_inside j below)) torn.least
          (λ i inside. torn.kept (at + 32 * j + i) (omega (arith, inside, gate_inside j below)) (inl (omega (arith, below, inside))));
    }

    pub torn_gate_body : (image : List ℕ) → at + 32 * slot + 16 ≤ length c → IsTorn (at + 32 * slot + 31) 1 c image → body_at at image slot ≡ body_at at c slot
    torn_gate_body image whole torn = body_kept slot c image whole torn.least
        (λ i inside. torn.kept (at + 32 * slot + i) (omega (arith, inside, whole)) (inl (omega (arith, inside))))

  pub body_size : (body : ℕ × ℕ) → length (body_bytes body) ≡ 16
  body_size body = refl

  pub written_part : (at : ℕ) (left right c : List ℕ) → 0 < length left → take (length left) (drop at (written_at at (left ++ right) c)) ≡ left
  written_part at left right c some =
      let new : List ℕ = written_at at (left ++ right) c in
      let both : length (left ++ right) ≡ length left + length right = length-append left right in
      let size : length (written_at at (left ++ right) c) ≡ max (length c) (at + length (left ++ right)) = written_size at (left ++ right) c (omega (arith, both, some)) in
      let whole : length (take (length left) (drop at (written_at at (left ++ right) c))) ≡ length left =
      length-take (length left) (drop at new) ∙ (omega (arith, length-drop at new, size, both)) in
      ext_get_or 0 (take (length left) (drop at new)) left whole (λ i inside.
      let below : i < length left = omega (arith, inside, whole) in
      get_or-take (length left) (drop at new) i 0 below
      ∙ get_or-drop at new i 0
      ∙ written_inside at (left ++ right) c i (omega (arith, below, both))
      ∙ get_or_append_left left right 0 i below)

  pub written_rest : (at n : ℕ) (left right c : List ℕ) → length left ≡ n → 0 < length right → take (length right) (drop (at + n) (written_at at (left ++ right) c)) ≡ right
  written_rest at n left right c is some =
      let new : List ℕ = written_at at (left ++ right) c in
      let both : length (left ++ right) ≡ length left + length right = length-append left right in
      let size : length (written_at at (left ++ right) c) ≡ max (length c) (at + length (left ++ right)) = written_size at (left ++ right) c (omega (arith, both, some)) in
      let whole : length (take (length right) (drop (at + n) (written_at at (left ++ right) c))) ≡ length right =
      length-take (length right) (drop (at + n) new) ∙ (omega (arith, length-drop (at + n) new, size, both, is)) in
      ext_get_or 0 (take (length right) (drop (at + n) new)) right whole (λ i inside.
      let below : i < length right = omega (arith, inside, whole) in
      let place : at + n + i ≡ at + (length left + i) = omega (arith, is) in
      get_or-take (length right) (drop (at + n) new) i 0 below
      ∙ get_or-drop (at + n) new i 0
      ∙ ap (λ p. get_or new p 0) place
      ∙ written_inside at (left ++ right) c (length left + i) (omega (arith, below, both))
      ∙ get_or-append-add left right i 0)

  -- the body that was written
  pub written_body : (slot : ℕ) (body : ℕ × ℕ) (c : List ℕ) → body.0 < 2 ^ 64 → body.1 < 2 ^ 64 → body_at at (body_written at slot body c) slot ≡ body
  written_body slot body c low high =
      let first : number_at (body_written at slot body c) (at + 32 * slot) ≡ body.0 =
      ap (from_le_bytes w64) (written_part (at + 32 * slot) (to_le_bytes w64 body.0) (to_le_bytes w64 body.1) c (omega arith)) ∙ from_le_bytes-to_le_bytes_8 body.0 low in
      let second : number_at (body_written at slot body c) (at + 32 * slot + 8) ≡ body.1 =
      ap (from_le_bytes w64) (written_rest (at + 32 * slot) 8 (to_le_bytes w64 body.0) (to_le_bytes w64 body.1) c refl (omega arith)) ∙ from_le_bytes-to_le_bytes_8 body.1 high in
      λ i. (first i, second i)

  -- What a put leaves, from a content that is tidy and has its first slots open and the next one not.
  module _ (slots slot : ℕ) (body : ℕ × ℕ) (c : List ℕ) (within : slot < slots)
      (opened : (j : ℕ) → j < slot → IsOpen at c j) (closed : ¬ (IsOpen at c slot)) (tidy : IsTidy at slots c) where
    -- as it was
    pub before_put : IsOldOrNew at slots (first_bodies at slot c) body c
    before_put = record {
      tidy = tidy;
      recovered = inl (like_old slots slot c within opened closed tidy c (record { gates = λ j other. refl; bodies = λ j below. refl }) closed);
    }

    -- while the body is written
    pub body_step : (image : List ℕ) → IsTorn (at + 32 * slot) 16 c image → IsOldOrNew at slots (first_bodies at slot c) body image
    body_step image torn =
        let like = torn_body slots slot c within opened closed tidy image torn in
        record {
          tidy = like_tidy slots slot c within opened closed tidy image like;
          recovered = inl (like_old slots slot c within opened closed tidy image like (torn_body_shut slots slot c within opened closed tidy image torn));
        }

    -- d has the body written
    module _ (d : List ℕ) (torn : IsTorn (at + 32 * slot) 16 c d) (is_body : body_at at d slot ≡ body) (whole : at + 32 * slot + 16 ≤ length d) where
      like_d : IsLike slot c d
      like_d = torn_body slots slot c within opened closed tidy d torn

      opened_d : (j : ℕ) → j < slot → IsOpen at d j
      opened_d = still_open slots slot c within opened closed tidy d like_d

      closed_d : ¬ (IsOpen at d slot)
      closed_d = torn_body_shut slots slot c within opened closed tidy d torn

      tidy_d : IsTidy at slots d
      tidy_d = like_tidy slots slot c within opened closed tidy d like_d

      same_d : first_bodies at slot d ≡ first_bodies at slot c
      same_d = first_same slot c d like_d.bodies

      -- once the gate is written
      pub gate_new : (image : List ℕ) → IsTorn (at + 32 * slot + 31) 1 d image → IsOpen at image slot
          → Recovers at slots image (first_bodies at slot c ++ body ∷ [])
      gate_new image gate is_open =
          let like = torn_gate slots slot d within opened_d closed_d tidy_d image gate in
          subst (λ bodies. Recovers at slots image (bodies ++ body ∷ [])) same_d
          (like_new slots slot d within opened_d closed_d tidy_d image body like is_open
          (torn_gate_body slots slot d within opened_d closed_d tidy_d image whole gate ∙ is_body))

      pub gate_tidy : (image : List ℕ) → IsTorn (at + 32 * slot + 31) 1 d image → IsTidy at slots image
      gate_tidy image gate =
          like_tidy slots slot d within opened_d closed_d tidy_d image (torn_gate slots slot d within opened_d closed_d tidy_d image gate)

      -- while the gate is written
      pub gate_step : (image : List ℕ) → IsTorn (at + 32 * slot + 31) 1 d image → IsOldOrNew at slots (first_bodies at slot c) body image
      gate_step image gate = record {
        tidy = gate_tidy image gate;
        recovered = ⊎_elim
            (λ is_open. inr (gate_new image gate is_open))
            (λ shut. inl (subst (λ bodies. Recovers at slots image bodies) same_d
            (like_old slots slot d within opened_d closed_d tidy_d image (torn_gate slots slot d within opened_d closed_d tidy_d image gate) shut)))
            (cases_eq (get_or image (at + 32 * slot + 31) 0) 90);
      }

  -- the size with the body
  pub written_whole : (slot : ℕ) (body : ℕ × ℕ) (c : List ℕ) → at + 32 * slot + 16 ≤ length (body_written at slot body c)
  written_whole slot body c = omega (arith, written_size (at + 32 * slot) (body_bytes body) c (omega arith))

  pub written_torn : (slot : ℕ) (body : ℕ × ℕ) (c : List ℕ) → IsTorn (at + 32 * slot) 16 c (body_written at slot body c)
  written_torn slot body c = torn_by_write (at + 32 * slot) (body_bytes body) c

  pub opened_torn : (slot : ℕ) (d : List ℕ) → IsTorn (at + 32 * slot + 31) 1 d (written_at (at + 32 * slot + 31) (90 ∷ []) d)
  opened_torn slot d = torn_by_write (at + 32 * slot + 31) (90 ∷ []) d

  pub opened_open : (slot : ℕ) (d : List ℕ) → IsOpen at (written_at (at + 32 * slot + 31) (90 ∷ []) d) slot
  opened_open slot d =
      let same : at + 32 * slot + 31 ≡ at + 32 * slot + 31 + 0 = omega arith in
      ap (λ p. get_or (written_at (at + 32 * slot + 31) (90 ∷ []) d) p 0) same ∙ written_inside (at + 32 * slot + 31) (90 ∷ []) d 0 (omega arith)
