-- The two steps of a put, over a disk.
use Rattle.std.proofs.Common.{◌≡◌, ◌<◌, ◌≤◌, ◌+◌, ◌*◌, ◌^◌, length, inl, ⊎_elim, arith, ◌++◌, ◌∷◌, [], ℕ, List, Option, Some, None, IfSome, refl, ap, sym, ◌∙◌, subst}
use Rattle.std.specs.Option.{option_map}
use Rattle.zk_port.specs.Disks.{DiskState, LeavesOnly}
use Rattle.zk_port.specs.Images.{IsTorn, Only, StepsBy, written_at}
use Rattle.lease_journal.specs.Journals.{IsOpen, IsOldOrNew, IsTidy, Recovers, first_bodies}
use Rattle.lease_journal.specs.Causes.{KeptAt}
use Rattle.std.proofs.lemmas.Bool.{cases_lt}
use Rattle.lease_journal.proofs.Moments.{leaves_also, then_leaves}
use Rattle.lease_journal.proofs.Torn.{before_end}
use Rattle.lease_journal.specs.Steps.{TornFrom, IsReady, body_bytes, body_written, slot_written}
use Rattle.lease_journal.proofs.Putting.{length-first, body_step, gate_step, gate_new, gate_tidy, written_body, written_whole, written_torn, opened_torn, opened_open}

-- the content that is told has P
pub told : (P : List ℕ → Type 0) (content : Option (List ℕ)) (bytes : List ℕ) → content ≡ Some bytes → P bytes → IfSome content P
told P content bytes is p = subst (λ o. IfSome o P) (sym is) p

module _ (at : ℕ) where
  module _ (slots slot : ℕ) (body : ℕ × ℕ) (low : body.0 < 2 ^ 64) (high : body.1 < 2 ^ 64) (c : List ℕ) (images : List ℕ → Type 0) (ready : IsReady at slots slot c images) where
    abbrev Q : List ℕ → Type 0
    Q = IsOldOrNew at slots (first_bodies at slot c) body

    abbrev d : List ℕ
    d = body_written at slot body c

    -- the first step
    pub torn_first : (image : List ℕ) → TornFrom (at + 32 * slot) 16 images image → Q image
    torn_first image torn =
        body_step at slots slot body c ready.within ready.opened ready.closed ready.tidy image
        (subst (λ old. IsTorn (at + 32 * slot) 16 old image) (ready.only torn.0 torn.1) torn.2)

    -- the second, where all images have the body
    pub gate_torn : (image : List ℕ) → IsTorn (at + 32 * slot + 31) 1 (body_written at slot body c) image → Q image
    gate_torn image torn =
        gate_step at slots slot body c ready.within ready.opened ready.closed ready.tidy (body_written at slot body c) (written_torn at slot body c)
        (written_body at slot body c low high) (written_whole at slot body c) image torn

    pub torn_second : (later : List ℕ → Type 0) → ((image : List ℕ) → later image → image ≡ body_written at slot body c) → (image : List ℕ)
        → TornFrom (at + 32 * slot + 31) 1 later image → Q image
    torn_second later only image torn = gate_torn image (subst (λ old. IsTorn (at + 32 * slot + 31) 1 old image) (only torn.0 torn.1) torn.2)

    -- both stores leave only what either step does
    pub stored_moments : (spelled : List ℕ) (old middle new : DiskState) → old.content ≡ Some c → spelled ≡ body_bytes body
        → LeavesOnly old middle (TornFrom (at + 32 * slot) (length spelled) images)
        → middle.content ≡ option_map (written_at (at + 32 * slot) spelled) old.content → Only middle.content middle.images
        → LeavesOnly middle new (TornFrom (at + 32 * slot + 31) 1 middle.images) → LeavesOnly old new Q
    stored_moments spelled old middle new is bytes_are first written durable second = then_leaves begun ended
      where
        begun : LeavesOnly old middle Q
        begun = leaves_also (subst (λ n. LeavesOnly old middle (TornFrom (at + 32 * slot) n images)) (ap length bytes_are) first) torn_first

        body_there : middle.content ≡ Some d
        body_there = written ∙ ap (option_map (written_at (at + 32 * slot) spelled)) is ∙ ap (λ b. Some (written_at (at + 32 * slot) b c)) bytes_are

        ended : LeavesOnly middle new Q
        ended = leaves_also second (torn_second middle.images (subst (λ o. Only o middle.images) body_there durable))

    -- what is read once the first step is refused
    pub read_first : (content new : Option (List ℕ)) → content ≡ Some c → StepsBy (IsTorn (at + 32 * slot) 16) content new → IfSome new Q
    read_first content new is steps = read_torn new (subst (λ o. StepsBy (IsTorn (at + 32 * slot) 16) o new) is steps)
      where
        read_torn : (new : Option (List ℕ)) → StepsBy (IsTorn (at + 32 * slot) 16) (Some c) new → IfSome new Q
        read_torn None none = tt
        read_torn (Some image) torn = body_step at slots slot body c ready.within ready.opened ready.closed ready.tidy image torn

    pub read_second : (content new : Option (List ℕ)) → content ≡ Some (body_written at slot body c) → StepsBy (IsTorn (at + 32 * slot + 31) 1) content new → IfSome new Q
    read_second content new is steps = read_torn new (subst (λ o. StepsBy (IsTorn (at + 32 * slot + 31) 1) o new) is steps)
      where
        read_torn : (new : Option (List ℕ)) → StepsBy (IsTorn (at + 32 * slot + 31) 1) (Some (body_written at slot body c)) new → IfSome new Q
        read_torn None none = tt
        read_torn (Some image) torn = gate_torn image torn

    pub read_done : (new : Option (List ℕ)) → new ≡ Some (slot_written at slot body c) → IfSome new Q
    read_done new is = told Q new (slot_written at slot body c) is (gate_torn (slot_written at slot body c) (opened_torn at slot (body_written at slot body c)))

    -- once both are done
    pub done_new : Recovers at slots (slot_written at slot body c) (first_bodies at slot c ++ body ∷ [])
    done_new =
        gate_new at slots slot body c ready.within ready.opened ready.closed ready.tidy (body_written at slot body c) (written_torn at slot body c)
        (written_body at slot body c low high) (written_whole at slot body c) (slot_written at slot body c) (opened_torn at slot (body_written at slot body c)) (opened_open at slot (body_written at slot body c))

    pub done_tidy : IsTidy at slots (slot_written at slot body c)
    done_tidy =
        gate_tidy at slots slot body c ready.within ready.opened ready.closed ready.tidy (body_written at slot body c) (written_torn at slot body c)
        (written_body at slot body c low high) (written_whole at slot body c) (slot_written at slot body c) (opened_torn at slot (body_written at slot body c))

  -- a kept journal with a free slot is ready for a put
  pub ready_from : (slots used : ℕ) (bytes : List ℕ) (images : List ℕ → Type 0) → used < slots → KeptAt at slots (first_bodies at used bytes) bytes
      → ((image : List ℕ) → images image → image ≡ bytes) → IsReady at slots used bytes images
  ready_from slots used bytes images within kept only =
      let size : length (first_bodies at used bytes) ≡ used = length-first at used bytes in
      record {
        within = within;
        opened = λ slot below. kept.recovered.opened slot (omega (arith, below, size));
        closed = λ is_open. kept.recovered.closed (omega (arith, size, within)) (subst (λ n. IsOpen at bytes n) (sym size) is_open);
        tidy = kept.tidy;
        only = only;
      }

  -- the slots in use stay open, and the new one is
  pub written_opened : (used : ℕ) (body : ℕ × ℕ) (c : List ℕ) → ((slot : ℕ) → slot < used → IsOpen at c slot)
      → (slot : ℕ) → slot < used + 1 → IsOpen at (slot_written at used body c) slot
  written_opened used body c opened slot below = ⊎_elim
      (λ ahead.
      let d : List ℕ = body_written at used body c in
      let torn = written_torn at used body c in
      let inside : at + 32 * slot + 31 < length c = before_end c (at + 32 * slot + 31) 90 (opened slot ahead) (omega arith) in
      let still : IsOpen at (body_written at used body c) slot = torn.kept (at + 32 * slot + 31) inside (inl (omega (arith, ahead))) ∙ opened slot ahead in
      (opened_torn at used d).kept (at + 32 * slot + 31) (before_end d (at + 32 * slot + 31) 90 still (omega arith)) (inl (omega (arith, ahead))) ∙ still)
      (λ from.
      let is : slot ≡ used = omega (arith, from, below) in
      subst (λ n. IsOpen at (slot_written at used body c) n) (sym is) (opened_open at used (body_written at used body c)))
      (cases_lt slot used)

  -- a slot in use has its body inside the file
  pub body_inside : (bytes : List ℕ) (slot : ℕ) → IsOpen at bytes slot → at + 32 * slot + 16 ≤ length bytes
  body_inside bytes slot is_open = omega (arith, before_end bytes (at + 32 * slot + 31) 90 is_open (omega arith))

-- what a step makes of a content that is told
pub record Mapped (f : List ℕ → List ℕ) (old : Option (List ℕ)) (new : List ℕ) : Type 0 where
  pub bytes : List ℕ
  pub was : old ≡ Some bytes
  pub is : new ≡ f bytes

pub mapped : (f : List ℕ → List ℕ) (old : Option (List ℕ)) (new : List ℕ) → option_map f old ≡ Some new → Mapped f old new
mapped f None new e = absurd (none_some e)
  where
    none_some : {x : List ℕ} → ◌≡◌ {A = Option (List ℕ)} None (Some x) → ⊥
    none_some e = cc e
mapped f (Some bytes) new e = record { bytes = bytes; was = refl; is = sym (some_same e) }
  where
    some_same : {x y : List ℕ} → ◌≡◌ {A = Option (List ℕ)} (Some x) (Some y) → x ≡ y
    some_same e = cc e
