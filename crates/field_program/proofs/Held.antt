-- Slots that wires take and give back.
use Rattle.std.proofs.Common.{◌≡◌, ◌≢◌, ℕ, zero, suc, ◌+◌, ◌<◌, ◌≤◌, ◌⊎◌, ⊎_elim, inl, inr, List, [], ◌∷◌, ◌++◌, length, get_or, refl, sym, ◌∙◌, ap, subst, arith, length-append, get_or-set_other, get_or-set_same}
use Rattle.std.specs.Prelude.{slice_index, Contains, All, AllPairs}
use Rattle.std.proofs.lemmas.Bool.{cases_eq, cases_lt}
use Rattle.std.proofs.Math.ListN.{get_or-append}
use Rattle.std.proofs.Math.Seq.{get_or-append_seam}
use Rattle.std.proofs.lemmas.List.Elements.{All-contains, All-push, Contains-push, Contains-push_cases, Contains-append_left}
use Rattle.std.proofs.lemmas.List.Quantifiers.{all_pairs_push}
use Rattle.field_program.specs.Slotting.{IsHolding, TakesSlot, EndsWire}
use Rattle.field_program.specs.declared.slots.Slots.{Slots}

-- ---- lists of numbers

-- the last of numbers that differ is not among the others
once_less : (xs : List ℕ) (x : ℕ) → AllPairs (λ one other. one ≢ other) (xs ++ x ∷ [])
    → AllPairs (λ one other. one ≢ other) xs × ¬ Contains xs x
once_less xs x once = (
  λ i j d before within same. once i j d before (omega (arith, within, length-append xs (x ∷ [])))
      (get_or-append xs (x ∷ []) d i (omega (arith, before, within)) ∙ same ∙ sym (get_or-append xs (x ∷ []) d j within)),
  λ (there : Contains xs x). let at = there.0 in let below = there.1 in
      once at (length xs) x below (omega (arith, length-append xs (x ∷ [])))
      (get_or-append xs (x ∷ []) x at below ∙ there.2 ∙ sym (get_or-append_seam xs x [] x)),
)

once_more : (xs : List ℕ) (x : ℕ) → AllPairs (λ one other. one ≢ other) xs → ¬ Contains xs x
    → AllPairs (λ one other. one ≢ other) (xs ++ x ∷ [])
once_more xs x once apart = all_pairs_push (λ one other. one ≢ other) xs x once
    (λ k d within same. apart (k, within, get_or-default xs k d x within ∙ same))
  where
    get_or-default : (xs : List ℕ) (k d e : ℕ) → k < length xs → get_or xs k e ≡ get_or xs k d
    get_or-default [] k d e within = absurd (omega (arith, within))
    get_or-default (x ∷ xs) zero d e within = refl
    get_or-default (x ∷ xs) (suc k) d e within = get_or-default xs k d e (omega (arith, within))

-- no number stands in an empty list
pub none_there : (xs : List ℕ) (x : ℕ) → xs ≡ [] → ¬ Contains xs x
none_there xs x none (k, below, is) = let empty : length xs ≡ 0 = ap length none in absurd (omega (arith, below, empty))

-- ---- the same wires

pub holding_same : (P Q : ℕ → Type 0) (slots : Slots) → ((wire : ℕ) → P wire → Q wire) → ((wire : ℕ) → Q wire → P wire)
    → IsHolding P slots → IsHolding Q slots
holding_same P Q slots there back far = record {
  owner = far.owner;
  owns = λ slot below taken. let is = far.owns slot below taken in (there (far.owner slot) is.0, is.1);
  placed = λ wire held. far.placed wire (back wire held);
  apart = λ one other held holds same. far.apart one other (back one held) (back other holds) same;
  free_once = far.free_once;
  free_within = far.free_within;
}

-- ---- one wire more

-- the one number where this holds, or else the other
abbrev pick : {A B : Type 0} → ℕ → ℕ → A ⊎ B → ℕ
pick this that (inl is) = this
pick this that (inr not) = that

record Taken (Held : ℕ → Type 0) (wire : ℕ) (before after : Slots) (slot : ℕ) : Type 0 where
  below : slot < after.count
  fresh : (other : ℕ) → Held other → slice_index before.places.items other ≢ slot
  freed : ¬ Contains after.free.items slot
  kept : (other : ℕ) → ¬ Contains before.free.items other → ¬ Contains after.free.items other
  back : (other : ℕ) → other < after.count → other ≢ slot → ¬ Contains after.free.items other
      → (other < before.count) × ¬ Contains before.free.items other
  grows : before.count ≤ after.count
  once : AllPairs (λ one other. one ≢ other) after.free.items
  within : All (λ free. free < after.count) after.free.items

taken_free : (Held : ℕ → Type 0) (wire : ℕ) (before after : Slots) (slot : ℕ) → IsHolding Held before
    → before.free.items ≡ after.free.items ++ slot ∷ [] → after.count ≡ before.count → Taken Held wire before after slot
taken_free Held wire before after slot far from same = record {
  below = subst (λ n. slot < n) (sym same) (All-contains (λ free. free < before.count) before.free.items slot far.free_within there);
  fresh = λ other held is. (far.placed other held).1 (subst (Contains before.free.items) (sym is) there);
  freed = apart.1;
  kept = λ other not among. not (subst (λ l. Contains l other) (sym from) (Contains-append_left after.free.items (slot ∷ []) other among));
  back = λ other below differs not. (
    subst (λ n. other < n) same below,
    λ among. ⊎_elim not (λ is. differs (sym is)) (Contains-push_cases after.free.items slot other (subst (λ l. Contains l other) from among)),
  );
  grows = omega (arith, same);
  once = apart.0;
  within = λ k d below. subst (λ n. get_or after.free.items k d < n) (sym same)
      (subst (λ n. n < before.count)
      (ap (λ l. get_or l k d) from ∙ get_or-append after.free.items (slot ∷ []) d k below)
      (far.free_within k d (omega (arith, below, ap length from, length-append after.free.items (slot ∷ [])))));
}
  where
    there : Contains before.free.items slot
    there = subst (λ l. Contains l slot) (sym from) (Contains-push after.free.items slot)

    apart : AllPairs (λ one other. one ≢ other) after.free.items × ¬ Contains after.free.items slot
    apart = once_less after.free.items slot (subst (AllPairs (λ one other. one ≢ other)) from far.free_once)

taken_new : (Held : ℕ → Type 0) (wire : ℕ) (before after : Slots) (slot : ℕ) → IsHolding Held before
    → before.free.items ≡ [] → after.free.items ≡ [] → slot ≡ before.count → after.count ≡ before.count + 1 → Taken Held wire before after slot
taken_new Held wire before after slot far none still is more = record {
  below = omega (arith, is, more);
  fresh = λ other held same. let less = (far.placed other held).0 in absurd (omega (arith, less, same, is));
  freed = none_there after.free.items slot still;
  kept = λ other not. none_there after.free.items other still;
  back = λ other below differs not. (last other below differs, none_there before.free.items other none);
  grows = omega (arith, more);
  once = λ i j d first within. let empty : length after.free.items ≡ 0 = ap length still in absurd (omega (arith, within, empty));
  within = λ k d within. let empty : length after.free.items ≡ 0 = ap length still in absurd (omega (arith, within, empty));
}
  where
    last : (other : ℕ) → other < after.count → other ≢ slot → other < before.count
    last other below differs = ⊎_elim (λ same. absurd (differs (same ∙ sym is))) (λ away. omega (arith, below, more, away)) (cases_eq other before.count)

-- a wire takes a slot
pub take_holding : (Held : ℕ → Type 0) (wire : ℕ) (before after : Slots) → wire < length before.places.items → ((other : ℕ) → Held other → other ≢ wire)
    → TakesSlot wire before after → IsHolding Held before → IsHolding (λ other. (other ≡ wire) ⊎ Held other) after
take_holding Held wire before after within differs takes far = record {
  owner = λ slot. pick wire (far.owner slot) (cases_eq slot takes.slot);
  owns = λ slot below not. owns slot (cases_eq slot takes.slot) below not;
  placed = placed;
  apart = apart;
  free_once = is.once;
  free_within = is.within;
}
  where
    is : Taken Held wire before after takes.slot
    is = ⊎_elim (λ old. taken_free Held wire before after takes.slot far old.0 old.1)
        (λ new. taken_new Held wire before after takes.slot far new.0 new.1 new.2 new.3) takes.from

    here : slice_index after.places.items wire ≡ takes.slot
    here = ap (λ l. slice_index l wire) takes.places ∙ get_or-set_same before.places.items wire takes.slot 0 within

    else_where : (other : ℕ) → other ≢ wire → slice_index after.places.items other ≡ slice_index before.places.items other
    else_where other not = ap (λ l. slice_index l other) takes.places ∙ get_or-set_other before.places.items wire other takes.slot 0 not

    owns : (slot : ℕ) (by : (slot ≡ takes.slot) ⊎ (slot ≡ takes.slot → ⊥)) → slot < after.count → ¬ Contains after.free.items slot
        → ((pick wire (far.owner slot) by ≡ wire) ⊎ Held (pick wire (far.owner slot) by)) × (slice_index after.places.items (pick wire (far.owner slot) by) ≡ slot)
    owns slot (inl same) below not = (inl refl, here ∙ sym same)
    owns slot (inr away) below not =
        let old = is.back slot below away not in
        let held = far.owns slot old.0 old.1 in
        (inr held.0, else_where (far.owner slot) (differs (far.owner slot) held.0) ∙ held.1)

    placed : (other : ℕ) → (other ≡ wire) ⊎ Held other
        → (slice_index after.places.items other < after.count) × ¬ Contains after.free.items (slice_index after.places.items other)
    placed other (inl same) =
        let at : takes.slot ≡ slice_index after.places.items other = sym (ap (slice_index after.places.items) same ∙ here) in
        subst (λ n. (n < after.count) × ¬ Contains after.free.items n) at (is.below, is.freed)
    placed other (inr held) =
        let old = far.placed other held in
        let grows = is.grows in
        subst (λ n. (n < after.count) × ¬ Contains after.free.items n) (sym (else_where other (differs other held)))
        (omega (arith, grows, old.0), is.kept (slice_index before.places.items other) old.1)

    apart : (one other : ℕ) → (one ≡ wire) ⊎ Held one → (other ≡ wire) ⊎ Held other
        → slice_index after.places.items one ≡ slice_index after.places.items other → one ≡ other
    apart one other (inl is_one) (inl is_other) same = is_one ∙ sym is_other
    apart one other (inl is_one) (inr held) same =
        absurd (is.fresh other held (sym (else_where other (differs other held)) ∙ sym same ∙ ap (slice_index after.places.items) is_one ∙ here))
    apart one other (inr held) (inl is_other) same =
        absurd (is.fresh one held (sym (else_where one (differs one held)) ∙ same ∙ ap (slice_index after.places.items) is_other ∙ here))
    apart one other (inr held) (inr holds) same =
        far.apart one other held holds (sym (else_where one (differs one held)) ∙ same ∙ else_where other (differs other holds))

-- ---- one wire less

-- a wire that is held gives its slot back where it is not needed beyond a number
pub end_holding : (Held : ℕ → Type 0) (n wire : ℕ) (ends : List ℕ) (before after : Slots) → Held wire → EndsWire n wire ends before after
    → IsHolding Held before → IsHolding (λ other. Held other × (other ≡ wire → n < slice_index ends wire)) after
end_holding Held n wire ends before after held is far = ⊎_elim going ended (cases_lt n (slice_index ends wire))
  where
    place : ℕ → ℕ
    place other = slice_index before.places.items other

    same_place : (other : ℕ) → slice_index after.places.items other ≡ place other
    same_place other = ap (λ places. slice_index places.items other) is.places

    going : n < slice_index ends wire → IsHolding (λ other. Held other × (other ≡ wire → n < slice_index ends wire)) after
    going on = record {
      owner = far.owner;
      owns = λ slot below not.
          let held = far.owns slot (subst (λ k. slot < k) is.count below) (λ among. not (subst (λ f. Contains f.items slot) (sym free) among)) in
          ((held.0, λ same. on), same_place (far.owner slot) ∙ held.1);
      placed = λ other holds. at_same other (far.placed other holds.0);
      apart = λ one other holds held same. far.apart one other holds.0 held.0 (sym (same_place one) ∙ same ∙ same_place other);
      free_once = subst (λ f. AllPairs (λ one other. one ≢ other) f.items) (sym free) far.free_once;
      free_within = subst (λ f. All (λ slot. slot < after.count) f.items) (sym free) (subst (λ k. All (λ slot. slot < k) before.free.items) (sym is.count) far.free_within);
    }
      where
        free : after.free ≡ before.free
        free = is.kept on

        at_same : (other : ℕ) → (place other < before.count) × ¬ Contains before.free.items (place other)
            → (slice_index after.places.items other < after.count) × ¬ Contains after.free.items (slice_index after.places.items other)
        at_same other old = subst (λ k. (k < after.count) × ¬ Contains after.free.items k) (sym (same_place other))
            (subst (λ k. place other < k) (sym is.count) old.0, subst (λ f. ¬ Contains f.items (place other)) (sym free) old.1)

    ended : slice_index ends wire ≤ n → IsHolding (λ other. Held other × (other ≡ wire → n < slice_index ends wire)) after
    ended low = record {
      owner = far.owner;
      owns = λ slot below not.
          let kept = far.owns slot (subst (λ k. slot < k) is.count below)
          (λ among. not (subst (λ l. Contains l slot) (sym free) (Contains-append_left before.free.items (place wire ∷ []) slot among))) in
          ((kept.0, λ same. absurd (not (subst (Contains after.free.items) (sym (ap place same) ∙ kept.1) given_back))), same_place (far.owner slot) ∙ kept.1);
      placed = λ other holds.
          let old = far.placed other holds.0 in
          subst (λ k. (k < after.count) × ¬ Contains after.free.items k) (sym (same_place other)) (
            subst (λ k. place other < k) (sym is.count) old.0,
            λ among. ⊎_elim old.1
                (λ same. let more = holds.1 (far.apart other wire holds.0 held (sym same)) in absurd (omega (arith, more, low)))
                (Contains-push_cases before.free.items (place wire) (place other) (subst (λ l. Contains l (place other)) free among)),
          );
      apart = λ one other holds held same. far.apart one other holds.0 held.0 (sym (same_place one) ∙ same ∙ same_place other);
      free_once = subst (AllPairs (λ one other. one ≢ other)) (sym free) (once_more before.free.items (place wire) far.free_once (far.placed wire held).1);
      free_within = subst (All (λ slot. slot < after.count)) (sym free)
          (subst (λ k. All (λ slot. slot < k) (before.free.items ++ place wire ∷ [])) (sym is.count)
          (All-push (λ slot. slot < before.count) before.free.items (place wire) far.free_within (far.placed wire held).0));
    }
      where
        free : after.free.items ≡ before.free.items ++ place wire ∷ []
        free = is.ended low

        given_back : Contains after.free.items (place wire)
        given_back = subst (λ l. Contains l (place wire)) (sym free) (Contains-push before.free.items (place wire))
