-- What a crash may leave of a disk in memory, from one write and one sync to the next.
use Rattle.std.proofs.Common.{◌≡◌, ◌⊎◌, ◌<◌, ◌≤◌, ◌+◌, ◌++◌, ◌&&◌, ℕ, zero, suc, List, [], ◌∷◌, Bool, true, false, cond, nat_le, nat_lt, length, get_or, take, drop, map, max, min, replicate, append-nil, append_assoc, inl, inr, ⊎_elim, refl, ap, sym, ◌∙◌, subst, arith}
use Rattle.std.proofs.lemmas.Bool.Decides.{nat_tests}
use Rattle.std.proofs.lemmas.Bool.{cases_lt}
use Rattle.std.proofs.lemmas.List.{ext_get_or, length-append, length-take, length-replicate}
use Rattle.std.proofs.lemmas.List.FromFn.{get_or-map-range_with_len, length-map-range_with_len}
use Rattle.std.specs.List.{range_with_len}
use Rattle.zk_port.specs.Images.{IsOutside, IsTorn, written_at}
use Rattle.zk_port.specs.Disks.{Choice, Elapses}
use Rattle.zk_port.proofs.Torn.{torn_by_nothing, torn_by_write, torn_further}
use Rattle.memory_ports.specs.Epochs.{left_by, left_by_all, AreOutside, reach, IsImage, Leaves, HadLeft, epoch_state}
use Rattle.memory_ports.specs.declared.epoch.Epoch.{Epoch}
use Rattle.memory_ports.specs.declared.epoch.Leftover.{Leftover}
use Rattle.memory_ports.specs.declared.epoch.Leftover.TheVariants.{Old, New, Filled}
use Rattle.memory_ports.specs.declared.epoch.Pending.{Pending}

reach-push : (ranges : List Pending) (range : Pending) (size : ℕ) → reach (ranges ++ range ∷ []) size ≡ max (reach ranges size) (range.at + range.count)
reach-push [] range size = omega arith
reach-push (r ∷ ranges) range size = let e : reach (ranges ++ range ∷ []) size ≡ max (reach ranges size) (range.at + range.count) = reach-push ranges range size in omega (arith, e)

outside-first : (ranges : List Pending) (range : Pending) (place : ℕ) → AreOutside (ranges ++ range ∷ []) place → AreOutside ranges place
outside-first [] range place out = tt
outside-first (r ∷ ranges) range place out = (out.0, outside-first ranges range place out.1)

outside-last : (ranges : List Pending) (range : Pending) (place : ℕ) → AreOutside (ranges ++ range ∷ []) place → IsOutside range.at range.count place
outside-last [] range place out = out.0
outside-last (r ∷ ranges) range place out = outside-last ranges range place out.1

outside-push : (ranges : List Pending) (range : Pending) (place : ℕ) → AreOutside ranges place → IsOutside range.at range.count place → AreOutside (ranges ++ range ∷ []) place
outside-push [] range place out last = (last, tt)
outside-push (r ∷ ranges) range place out last = (out.0, outside-push ranges range place out.1 last)

-- with no range there is nothing but the content of the sync
pub only_base : (base image : List ℕ) → IsImage [] base image → image ≡ base
only_base base image is =
    let size : length image ≡ length base = omega (arith, is.least, is.most) in
    ext_get_or 0 image base size (λ place inside. is.kept place (omega (arith, inside, size)) tt)

pub base_is_image : (base : List ℕ) → IsImage [] base base
base_is_image base = record { least = omega arith; most = omega arith; kept = λ place inside outside. refl }

-- an image that one more write tears is an image of one more range
pub torn_image : (ranges : List Pending) (range : Pending) (base image new : List ℕ) → IsImage ranges base image → IsTorn range.at range.count image new
    → IsImage (ranges ++ range ∷ []) base new
torn_image ranges range base image new is torn =
    let e : reach (ranges ++ range ∷ []) (length base) ≡ max (reach ranges (length base)) (range.at + range.count) = reach-push ranges range (length base) in
    record {
      least = omega (arith, is.least, torn.least);
      most = omega (arith, e, is.most, torn.most);
      kept = λ place inside outside.
          torn.kept place (omega (arith, inside, is.least)) (outside-last ranges range place outside)
          ∙ is.kept place inside (outside-first ranges range place outside);
    }

-- a test of the places in a range
abbrev is_inside : ℕ → ℕ → ℕ → Bool
is_inside at n place = nat_le at place && nat_lt place (at + n)

outside-is : (at n place : ℕ) → IsOutside at n place → is_inside at n place ≡ false
outside-is at n place (inl ahead) = grind (arith, nat_tests)
outside-is at n place (inr behind) = grind (arith, nat_tests)

not_below : (at n place : ℕ) → at ≤ place → is_inside at n place ≡ false → at + n ≤ place
not_below at n place from out = grind (arith, nat_tests)

is-outside : (at n place : ℕ) → is_inside at n place ≡ false → IsOutside at n place
is-outside at n place out = ⊎_elim (λ ahead. inl ahead) (λ from. inr (not_below at n place from out)) (cases_lt place at)

-- the image before a write: in the range of the write what stood there at the sync
abbrev mended : (range : Pending) (base image : List ℕ) → ℕ → ℕ
mended range base image place = cond (is_inside range.at range.count place) (get_or base place 0) (get_or image place 0)

abbrev before : ℕ → Pending → List ℕ → List ℕ → List ℕ
before size range base image = map (mended range base image) (range_with_len 0 size)

length-before : (size : ℕ) (range : Pending) (base image : List ℕ) → length (before size range base image) ≡ size
length-before size range base image =
    length-map-range_with_len (mended range base image) 0 size

before-at : (size : ℕ) (range : Pending) (base image : List ℕ) (place : ℕ) → place < size → get_or (before size range base image) place 0 ≡ mended range base image place
before-at size range base image place inside = get_or-map-range_with_len (mended range base image) 0 size place place 0 inside (omega arith)

mended_kept : (ranges : List Pending) (range : Pending) (base image : List ℕ) → IsImage (ranges ++ range ∷ []) base image
    → (place : ℕ) → place < length base → AreOutside ranges place → (inside : Bool) → is_inside range.at range.count place ≡ inside
    → mended range base image place ≡ get_or base place 0
mended_kept ranges range base image is place within outside true test = ap (λ b. cond b (get_or base place 0) (get_or image place 0)) test
mended_kept ranges range base image is place within outside false test =
    ap (λ b. cond b (get_or base place 0) (get_or image place 0)) test
    ∙ is.kept place within (outside-push ranges range place outside (is-outside range.at range.count place test))

-- an image with one more range is one without it that the write tore
pub image_before : (ranges : List Pending) (range : Pending) (base image : List ℕ) → IsImage (ranges ++ range ∷ []) base image
    → (old : List ℕ) × IsImage ranges base old × IsTorn range.at range.count old image
image_before ranges range base image is =
    let e : reach (ranges ++ range ∷ []) (length base) ≡ max (reach ranges (length base)) (range.at + range.count) = reach-push ranges range (length base) in
    let size : ℕ = min (length image) (reach ranges (length base)) in
    let sized : length (before size range base image) ≡ size = length-before size range base image in
    let most = is.most in
    let least = is.least in
    let grows : length base ≤ reach ranges (length base) = reach_grows ranges (length base) in (
      before size range base image,
      record {
        least = omega (arith, sized, least, grows);
        most = omega (arith, sized);
        kept = λ place inside outside.
            before-at size range base image place (omega (arith, inside, least, grows))
            ∙ mended_kept ranges range base image is place inside outside (is_inside range.at range.count place) refl;
      },
      record {
        least = omega (arith, sized);
        most = omega (arith, sized, most, e);
        kept = λ place inside outside.
            sym (before-at size range base image place (omega (arith, inside, sized))
            ∙ ap (λ b. cond b (get_or base place 0) (get_or image place 0)) (outside-is range.at range.count place outside));
      },
    )
  where
    reach_grows : (ranges : List Pending) (size : ℕ) → size ≤ reach ranges size
    reach_grows [] size = omega arith
    reach_grows (r ∷ ranges) size = let le : size ≤ reach ranges size = reach_grows ranges size in omega (arith, le)

-- what a crash may leave only grows by a write
pub image_stays : (ranges : List Pending) (range : Pending) (base image : List ℕ) → IsImage ranges base image → IsImage (ranges ++ range ∷ []) base image
image_stays ranges range base image is = torn_image ranges range base image image is (torn_by_nothing range.at range.count image)

-- choices make an image of one that the ranges so far leave
pub chosen_image : (leftovers : List Leftover) (done ranges : List Pending) (content base image : List ℕ) → IsImage done base image
    → IsImage (done ++ ranges) base (left_by_all leftovers ranges content image)
chosen_image [] done ranges content base image is = stays_all done ranges base image is
  where
    stays_all : (done ranges : List Pending) (base image : List ℕ) → IsImage done base image → IsImage (done ++ ranges) base image
    stays_all done [] base image is = subst (λ l. IsImage l base image) (sym (append-nil done)) is
    stays_all done (range ∷ ranges) base image is =
        subst (λ l. IsImage l base image) (append_assoc done (range ∷ []) ranges)
        (stays_all (done ++ range ∷ []) ranges base image (image_stays done range base image is))
chosen_image (leftover ∷ leftovers) done [] content base image is = subst (λ l. IsImage l base image) (sym (append-nil done)) is
chosen_image (leftover ∷ leftovers) done (range ∷ ranges) content base image is =
    subst (λ l. IsImage l base (left_by_all leftovers ranges content (left_by leftover range content image))) (append_assoc done (range ∷ []) ranges)
    (chosen_image leftovers (done ++ range ∷ []) ranges content base (left_by leftover range content image)
    (torn_image done range base image (left_by leftover range content image) is (choice_tears leftover range content image)))
  where
    choice_tears : (leftover : Leftover) (range : Pending) (content image : List ℕ) → IsTorn range.at range.count image (left_by leftover range content image)
    choice_tears Old range content image = torn_by_nothing range.at range.count image
    choice_tears New range content image =
        let part : List ℕ = take range.count (drop range.at content) in
        let short : length part ≤ range.count = omega (arith, length-take range.count (drop range.at content)) in
        torn_further range.at (length part) range.count image (written_at range.at part image) short (torn_by_write range.at part image)
    choice_tears (Filled byte) range content image =
        let part : List ℕ = replicate range.count byte in
        let short : length part ≤ range.count = omega (arith, length-replicate range.count byte) in
        torn_further range.at (length part) range.count image (written_at range.at part image) short (torn_by_write range.at part image)

had-push : (past : List Epoch) (epoch : Epoch) (image : List ℕ) → HadLeft past image ⊎ Leaves epoch image → HadLeft (past ++ epoch ∷ []) image
had-push [] epoch image (inl had) = absurd had
had-push [] epoch image (inr now) = inl now
had-push (e ∷ past) epoch image (inl (inl first)) = inl first
had-push (e ∷ past) epoch image (inl (inr had)) = inr (had-push past epoch image (inl had))
had-push (e ∷ past) epoch image (inr now) = inr (had-push past epoch image (inr now))

had-was : (past : List Epoch) (epoch : Epoch) (image : List ℕ) → HadLeft (past ++ epoch ∷ []) image → HadLeft past image ⊎ Leaves epoch image
had-was [] epoch image (inl now) = inr now
had-was [] epoch image (inr none) = absurd none
had-was (e ∷ past) epoch image (inl first) = inl (inl first)
had-was (e ∷ past) epoch image (inr had) = ⊎_elim (λ before. inl (inr before)) (λ now. inr now) (had-was past epoch image had)

drop-push : (t : ℕ) (past : List Epoch) (epoch : Epoch) → t ≤ length past → drop t (past ++ epoch ∷ []) ≡ drop t past ++ epoch ∷ []
drop-push zero past epoch le = refl
drop-push (suc t) [] epoch le = absurd (omega arith)
drop-push (suc t) (e ∷ past) epoch le = drop-push t past epoch (omega arith)

-- time in an epoch
pub elapses_within : (names names_later : List Choice) (bytes bytes_later : List ℕ) (faults faults_later : ℕ) (past : List Epoch) (epoch later : Epoch)
    → ((image : List ℕ) → Leaves epoch image → Leaves later image)
    → Elapses (epoch_state names bytes past epoch faults) (epoch_state names_later bytes_later past later faults_later)
elapses_within names names_later bytes bytes_later faults faults_later past epoch later grows = record {
  later = omega arith;
  nothing_else = λ t image le left. ⊎_elim (λ now. inr now) (λ had. inl (inr had)) left;
  keeps = λ t image le left. ⊎_elim (λ now. inl (grows image now)) (λ had. inr had) left;
}

-- time from one epoch to the next
pub elapses_next : (names names_later : List Choice) (bytes bytes_later : List ℕ) (faults faults_later : ℕ) (past past_later : List Epoch) (epoch later : Epoch)
    → past_later ≡ past ++ epoch ∷ []
    → Elapses (epoch_state names bytes past epoch faults) (epoch_state names_later bytes_later past_later later faults_later)
elapses_next names names_later bytes bytes_later faults faults_later past past_later epoch later is =
    subst (λ p. Elapses (epoch_state names bytes past epoch faults) (epoch_state names_later bytes_later p later faults_later)) (sym is) record {
      later = omega (arith, length-append past (epoch ∷ []));
      nothing_else = λ t image le left.
          ⊎_elim (λ now. inr now)
          (λ had. inl (⊎_elim (λ before. inr before) (λ now. inl now)
          (had-was (drop t past) epoch image (subst (λ p. HadLeft p image) (drop-push t past epoch le) had)))) left;
      keeps = λ t image le left.
          inr (subst (λ p. HadLeft p image) (sym (drop-push t past epoch le))
          (had-push (drop t past) epoch image (⊎_elim (λ now. inr now) (λ had. inl had) left)));
    }

-- where choices or ranges are used up nothing more is chosen
pub none_chosen : (leftovers : List Leftover) (ranges : List Pending) (content image : List ℕ) → length leftovers < 1 ⊎ length ranges < 1
    → left_by_all leftovers ranges content image ≡ image
none_chosen [] ranges content image none = refl
none_chosen (l ∷ leftovers) [] content image none = refl
none_chosen (l ∷ leftovers) (r ∷ ranges) content image (inl none) = absurd (omega (arith, none))
none_chosen (l ∷ leftovers) (r ∷ ranges) content image (inr none) = absurd (omega (arith, none))
