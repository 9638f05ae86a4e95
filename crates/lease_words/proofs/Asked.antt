-- What each call of the table requires, under the rule of what was asked for.
use Rattle.std.proofs.Common.{◌≡◌, ◌≢◌, ⊎_elim, ℕ, ◌+◌, ◌%◌, ◌^◌, ◌<◌, ◌≤◌, max, true, false, List, [], ◌∷◌, ◌++◌, length, get_or, set, refl, sym, ap, ◌∙◌, subst, arith}
use Rattle.std.specs.List.{flat_map}
use Rattle.std.proofs.lemmas.List.{get_or-set_same, get_or-set_other}
use mathlib.Core.Option.{none, some, some-ne-none}
use lib.ListN.{get_elem?}
use Rattle.atomic_table.proofs.Lists.{at_set}
use Rattle.atomic_table.specs.Table.{State, Me, step, carried_after, Allows, Splits, Joins}
use Rattle.lease_core.specs.Machine.{ceiling_for}
use Rattle.lease_words.specs.Views.{entry_overshoots, units_drawn, IsPassView, first_view, spent_view, receipt_of, after_receipt, after_make, new_pass, after_join}
use Rattle.lease_words.specs.Rule.{Fits, AreWordsKept}
use Rattle.lease_words.specs.Steps.{Raises, Marks, FindsMark}
use Rattle.lease_words.specs.Stored.{StoredRule, DrawsStored, LooksStored}
use Rattle.lease_words.specs.Asked.{AreDrawn, IsAskedFor, AskedRule}
use Rattle.lease_words.specs.Calls.{seen, all_entries}
use Rattle.lease_words.specs.declared.pass.Pass.{Pass}
use Rattle.lease_words.specs.declared.view.Bounds.{Bounds}
use Rattle.lease_words.specs.declared.view.Entry.{Entry}
use Rattle.lease_words.specs.declared.view.Key.{Key}
use Rattle.lease_words.specs.declared.view.View.{View}
use Rattle.lease_words.proofs.Sums.{all_set, all_push}
use Rattle.lease_words.proofs.Keeps.{writes, reads}
use Rattle.lease_words.proofs.Allowed.{named_set, draw_stored, look_stored, find_mark_stored, raise_stored, mark_stored, make_stored, join_stored}
use Rattle.lease_words.proofs.Whole.{counts_whole, count_reports}

abbrev Seen : Type 0
Seen = Me (Unit {0}) View

abbrev Here : Type 0
Here = State (Unit {0}) View

pub was : (views : List View) (id other : ℕ) (both w : View) → (other ≡ id → ⊥) → get_elem? (set views id both) other ≡ some w → get_elem? views other ≡ some w
was views id other both w two at' = ⊎_elim (λ (x : (other ≡ id) × (both ≡ w)). absurd (two x.0)) (λ (x : (other ≢ id) × (get_elem? views other ≡ some w)). x.1) (at_set views id other both w at')

asked_grows : (b : Bounds) (next more shown : ℕ) → next ≤ more → IsAskedFor b next shown → IsAskedFor b more shown
asked_grows b next more shown grows asked = omega arith

pub drawn_set : (next : ℕ) (views : List View) (id : ℕ) (w : View) → w.drawn ≤ next → AreDrawn next views → AreDrawn next (set views id w)
drawn_set next views id w here drawn = all_set (λ j u. u.drawn ≤ next) views id w here (λ j u other e. drawn j u e)

pub drawn_push : (next : ℕ) (views : List View) (w : View) → w.drawn ≤ next → AreDrawn next views → AreDrawn next (views ++ w ∷ [])
drawn_push next views w here drawn = all_push (λ j u. u.drawn ≤ next) views w here drawn

pub drawn_first : (name : List ℕ) (b : Bounds) → AreDrawn b.base (first_view name b ∷ [])
drawn_first name b = drawn_push b.base [] (first_view name b) (omega arith) (λ j u e. absurd (some-ne-none u (sym e)))

-- where a step finds word 0 and what its seat knows so, and leaves them so
record Draws_on (key : Key) (old now : List ℕ) (drawn : ℕ) : Type 0 where
  grows : get_or old 0 0 ≤ get_or now 0 0
  known : drawn ≤ get_or now 0 0
  asked : IsAskedFor key.bounds (get_or now 0 0) (get_or now 1 0)

module _ {K : Type 0} (label : K → List ℕ) (stores : K → ℕ → Type 0) where
  lifted : (key : Key) (slots id : ℕ) (me : Seen) (word : ℕ) (change : ℕ → ℕ) (then : ℕ → Seen → Type 0)
      → ((s : Here) (now : Seen) → AskedRule label stores key s → get_elem? s.views id ≡ some me.0 → then (get_or s.words word 0) now
      → Draws_on key s.words (set s.words word (change (get_or s.words word 0))) now.0.drawn)
      → Allows (StoredRule label stores key) slots id me word change then → Allows (AskedRule label stores key) slots id me word change then
  lifted key slots id me word change then goes plain s r len at low =
      let h = plain s r.0 len at low in
      let g = goes s (h.0, carried_after me.1 h.1) r at h.4 in
      let next : ℕ = get_or (set s.words word (change (get_or s.words word 0))) 0 0 in
      (h.0, h.1, h.2, (h.3, drawn_set next s.views id h.0 g.known (λ j u e. let was = r.1 j u e in let more = g.grows in omega arith), g.asked), h.4)

  -- a step on the mark, or one that leaves the ceiling
  beside : (key : Key) (s : Here) (word : ℕ) (n : ℕ) (v : View) (drawn id : ℕ) → AskedRule label stores key s → get_elem? s.views id ≡ some v → drawn ≡ v.drawn
      → (0 ≡ word → ⊥) → get_or (set s.words word n) 1 0 ≡ get_or s.words 1 0 → Draws_on key s.words (set s.words word n) drawn
  beside key s word n v drawn id r at same other stays =
      let zero_is = get_or-set_other s.words word 0 n 0 other in
      let was = r.1 id v at in
      record {
        grows = omega arith;
        known = omega arith;
        asked = subst (λ (x : ℕ × ℕ). IsAskedFor key.bounds x.0 x.1) (λ i. (sym zero_is i, sym stays i)) r.2;
      }

  pub draw_asked : (key : Key) (slots id : ℕ) (me : Seen) (count : ℕ) → IsPassView me.0 → entry_overshoots me.0.total me.0.entries ≡ 0 → 0 < count → count ≤ 4096
      → Allows (AskedRule label stores key) slots id me 0 (λ n. (n + count) % 2 ^ 64) (DrawsStored stores (step slots 0 count 0 none) me)
  draw_asked key slots id me count pass none_over some_count few =
      lifted key slots id me 0 (λ n. (n + count) % 2 ^ 64) (DrawsStored stores (step slots 0 count 0 none) me)
      (λ s now r at t.
      let n : ℕ = get_or s.words 0 0 in
      let three = r.0.0.0 in
      let small = t.0.1 in
      let drawn : now.0.drawn ≡ n + count = ap (λ (m : Seen). m.0.drawn) t.0.0 in
      let next_is = get_or-set_same s.words 0 ((n + count) % 2 ^ 64) 0 (omega (arith, three)) in
      let shown_is = get_or-set_other s.words 0 1 ((n + count) % 2 ^ 64) 0 (λ h. omega arith) in
      let grows : n ≤ (n + count) % 2 ^ 64 = omega arith in
      record {
        grows = omega arith;
        known = omega arith;
        asked = subst (λ (x : ℕ × ℕ). IsAskedFor key.bounds x.0 x.1) (λ i. (sym next_is i, sym shown_is i)) (asked_grows key.bounds n ((n + count) % 2 ^ 64) (get_or s.words 1 0) grows r.2);
      })
      (draw_stored label stores key slots id me count pass none_over some_count few)

  pub look_asked : (key : Key) (slots id : ℕ) (me : Seen) → IsPassView me.0 → Allows (AskedRule label stores key) slots id me 1 (λ n. n) (LooksStored stores (step slots 1 0 0 none) me)
  look_asked key slots id me pass =
      lifted key slots id me 1 (λ n. n) (LooksStored stores (step slots 1 0 0 none) me)
      (λ s now r at t. let three = r.0.0.0 in
      beside key s 1 (get_or s.words 1 0) me.0 now.0.drawn id r at (ap (λ (m : Seen). m.0.drawn) t.0.0) (λ h. omega (arith, h)) (get_or-set_same s.words 1 (get_or s.words 1 0) 0 (omega (arith, three))))
      (look_stored label stores key slots id me pass)

  pub find_mark_asked : (key : Key) (slots id : ℕ) (me : Seen) → IsPassView me.0 → Allows (AskedRule label stores key) slots id me 2 (λ n. n) (FindsMark (step slots 2 0 0 none) me)
  find_mark_asked key slots id me pass =
      lifted key slots id me 2 (λ n. n) (FindsMark (step slots 2 0 0 none) me)
      (λ s now r at t. beside key s 2 (get_or s.words 2 0) me.0 now.0.drawn id r at (ap (λ (m : Seen). m.0.drawn) t.0) (λ h. omega (arith, h)) (get_or-set_other s.words 2 1 (get_or s.words 2 0) 0 (λ h. omega (arith, h))))
      (find_mark_stored label stores key slots id me pass)

  pub mark_asked : (key : Key) (slots id : ℕ) (me : Seen) (to : ℕ) → me.0.journal ≡ true → me.0.own_mark ≡ 0
      → Allows (AskedRule label stores key) slots id me 2 (λ _. to) (λ _. Marks (step slots 2 to 0 none) me to)
  mark_asked key slots id me to is unset =
      lifted key slots id me 2 (λ _. to) (λ _. Marks (step slots 2 to 0 none) me to)
      (λ s now r at t. beside key s 2 to me.0 now.0.drawn id r at (ap (λ (m : Seen). m.0.drawn) t) (λ h. omega (arith, h)) (get_or-set_other s.words 2 1 to 0 (λ h. omega (arith, h))))
      (mark_stored label stores key slots id me to is unset)

  -- the ceiling that is shown was asked for by draws that the journal's seat knows of
  pub raise_asked : (key : Key) (slots id : ℕ) (me : Seen) (to : ℕ) → me.0.journal ≡ true → me.0.ceiling ≤ to → to ≤ me.0.total → to ≤ ceiling_for me.0.total me.0.drawn
      → (keeper : K) → label keeper ≡ me.0.keeper → stores keeper to
      → Allows (AskedRule label stores key) slots id me 1 (λ _. to) (λ _. Raises (step slots 1 to 0 none) me to)
  raise_asked key slots id me to is from high asked keeper called stored =
      lifted key slots id me 1 (λ _. to) (λ _. Raises (step slots 1 to 0 none) me to)
      (λ s now r at t.
      let three = r.0.0.0 in
      let k = r.0.0.1 in
      let fits : Fits key.bounds (get_or s.words 1 0) (get_or s.words 2 0) id me.0 = k.each id me.0 at in
      let total = fits.journal_total is in
      let known = r.1 id me.0 at in
      let drawn : now.0.drawn ≡ me.0.drawn = ap (λ (m : Seen). m.0.drawn) t in
      let next_is = get_or-set_other s.words 1 0 to 0 (λ h. omega (arith, h)) in
      let shown_is = get_or-set_same s.words 1 to 0 (omega (arith, three)) in
      record {
        grows = omega arith;
        known = omega arith;
        asked = subst (λ (x : ℕ × ℕ). IsAskedFor key.bounds x.0 x.1) (λ i. (sym next_is i, sym shown_is i)) (reaches key.bounds me.0.total me.0.drawn (get_or s.words 0 0) total known asked);
      })
      (raise_stored label stores key slots id me to is from high keeper called stored)
    where
      reaches : (b : Bounds) (total drawn next : ℕ) → total ≡ b.total → drawn ≤ next → to ≤ ceiling_for total drawn → IsAskedFor b next to
      reaches b total drawn next same known asked = omega arith

  pub make_asked : (key : Key) (id : ℕ) (v : View) → v.journal ≡ true → v.made < 1024 → Splits (AskedRule label stores key) id v (after_make v) (new_pass v)
  make_asked key id v is room s r at = (
    make_stored label stores key id v is room s r.0 at,
    drawn_push (get_or s.words 0 0) (set s.views id (after_make v)) (new_pass v) (omega arith) (drawn_set (get_or s.words 0 0) s.views id (after_make v) (r.1 id v at) r.1),
    r.2,
  )

  pub join_asked : (key : Key) (id : ℕ) (v : View) (other : ℕ) (w : View) → v.journal ≡ true → w.journal ≡ false
      → Joins (AskedRule label stores key) id v other w (after_join v w) spent_view
  join_asked key id v other w is not s r at two at' = (
    join_stored label stores key id v other w is not s r.0 at two at',
    drawn_set (get_or s.words 0 0) (set s.views id (after_join v w)) other spent_view (omega arith) (drawn_set (get_or s.words 0 0) s.views id (after_join v w) (r.1 id v at) r.1),
    r.2,
  )

  -- a seat writes a receipt of what it knows, and another reads it
  pub write_asked : (key : Key) (id : ℕ) (v : View) → Splits (AskedRule label stores key) id v v (receipt_of v)
  write_asked key id v s r at = (
    (
      (r.0.0.0, writes key.bounds (get_or s.words 0 0) (get_or s.words 1 0) (get_or s.words 2 0) s.views id v r.0.0.1 at),
      all_push (λ j u. u.journal ≡ true → u.keeper ≡ key.keeper) (set s.views id v) (receipt_of v) (λ no. absurd (cc no))
          (named_set key.keeper s.views id v v at refl refl r.0.1),
      r.0.2,
    ),
    drawn_push (get_or s.words 0 0) (set s.views id v) (receipt_of v) (r.1 id v at) (drawn_set (get_or s.words 0 0) s.views id v (r.1 id v at) r.1),
    r.2,
  )

  pub read_asked : (key : Key) (id : ℕ) (v : View) (other : ℕ) (w : View) → w ≡ receipt_of w
      → Joins (AskedRule label stores key) id v other w (after_receipt v w) spent_view
  read_asked key id v other w is s r at two at' =
      let there : get_elem? s.views other ≡ some w = was s.views id other (after_receipt v w) w two at' in (
        (
          (r.0.0.0, reads key.bounds (get_or s.words 0 0) (get_or s.words 1 0) (get_or s.words 2 0) s.views id other v w r.0.0.1 at at' is),
          all_set (λ j u. u.journal ≡ true → u.keeper ≡ key.keeper) (set s.views id (after_receipt v w)) other spent_view (λ no. absurd (cc no))
              (λ j u apart e. named_set key.keeper s.views id v (after_receipt v w) at refl refl r.0.1 j u e),
          r.0.2,
        ),
        drawn_set (get_or s.words 0 0) (set s.views id (after_receipt v w)) other spent_view (omega arith) (drawn_set (get_or s.words 0 0) s.views id (after_receipt v w) (let a = r.1 id v at in let b = r.1 other w there in omega arith) r.1),
        r.2,
      )

-- the ceiling at the end is the base, or at most the one that all draws asked for
pub most_asked : (b : Bounds) (next shown mark : ℕ) (views : List View) (seat : ℕ) (v : View) (ps : List Pass) → AreWordsKept b next shown mark views → get_elem? views seat ≡ some v → v.journal ≡ true
    → v.reports ≡ flat_map (λ (p : Pass). (seen p).reports) ps → v.entries ≡ all_entries ps → v.made ≡ length ps → IsAskedFor b next shown
    → v.ceiling ≤ max b.base (ceiling_for v.total (b.base + units_drawn (all_entries ps)))
most_asked b next shown mark views seat v ps k at is reports entries made asked =
    let fits : Fits b shown mark seat v = k.each seat v at in
    let all : length v.reports ≡ v.made = ap length reports ∙ count_reports ps ∙ sym made in
    let counted : b.base + units_drawn (all_entries ps) ≡ next = sym (ap (λ (x : List Entry). b.base + units_drawn x) entries) ∙ counts_whole b next shown mark views seat v k at is all in
    bounded b.base b.total next shown v.ceiling v.total (b.base + units_drawn (all_entries ps)) (fits.knows is) (fits.journal_total is) counted asked
  where
    bounded : (base total next shown ceiling own all : ℕ) → ceiling ≡ shown → own ≡ total → all ≡ next → shown ≤ max base (ceiling_for total next) → ceiling ≤ max base (ceiling_for own all)
    bounded base total next shown ceiling own all c o a asked = omega arith
