-- What each call of the table requires, under the rule of who met the journal's fault.
use Rattle.std.proofs.Common.{◌≡◌, ℕ, ◌+◌, ◌%◌, ◌^◌, ◌<◌, ◌≤◌, true, false, List, [], ◌∷◌, ◌++◌, get_or, set, refl, sym, ap, ◌∙◌, subst, arith}
use Rattle.std.proofs.lemmas.List.Sums.{sum_by_push}
use Rattle.std.proofs.lemmas.List.{get_or-set_same, get_or-set_other}
use mathlib.Core.Option.{none, some}
use lib.ListN.{get_elem?}
use Rattle.atomic_table.specs.Table.{State, Me, step, Allows, Splits, Joins}
use Rattle.lease_core.specs.Machine.{ceiling_for}
use Rattle.lease_words.specs.Views.{entry_overshoots, IsPassView, spent_view, receipt_of, after_receipt, after_telling, word_of, after_told, after_make, new_pass, after_join}
use Rattle.lease_words.specs.Rule.{Fits}
use Rattle.lease_words.specs.Steps.{Raises, Marks, FindsMark}
use Rattle.lease_words.specs.Stored.{DrawsStored, LooksStored}
use Rattle.lease_words.specs.Asked.{AskedRule}
use Rattle.lease_words.specs.OneFault.{IsMetOnce, MetRule}
use Rattle.lease_words.specs.declared.view.Key.{Key}
use Rattle.lease_words.specs.declared.view.View.{View}
use Rattle.lease_words.proofs.Sums.{all_set, all_push, total_at, total_set}
use Rattle.lease_words.proofs.Keeps.{tells, is_told}
use Rattle.lease_words.proofs.Allowed.{named_set}
use Rattle.lease_words.proofs.Asked.{drawn_set, drawn_push, draw_asked, look_asked, find_mark_asked, raise_asked, mark_asked, make_asked, join_asked, write_asked, read_asked}

abbrev Seen : Type 0
Seen = Me (Unit {0}) View

abbrev Here : Type 0
Here = State (Unit {0}) View

abbrev met : View → ℕ
met v = v.met

-- a view that met as many
met_set : (mark : ℕ) (views : List View) (id : ℕ) (v w : View) → get_elem? views id ≡ some v → w.met ≡ v.met → IsMetOnce mark views → IsMetOnce mark (set views id w)
met_set mark views id v w at same once = let s = total_set met views id v w at in (let a = once.0 in omega arith, λ unmarked. let b = once.1 unmarked in omega arith)

met_push : (mark : ℕ) (views : List View) (w : View) → w.met ≡ 0 → IsMetOnce mark views → IsMetOnce mark (views ++ w ∷ [])
met_push mark views w nothing once = let s = sum_by_push met views w in (let a = once.0 in omega arith, λ unmarked. let b = once.1 unmarked in omega arith)

module _ {K : Type 0} (label : K → List ℕ) (stores : K → ℕ → Type 0) where
  -- a step that leaves the mark, and what its seat met
  lifted : (key : Key) (slots id : ℕ) (me : Seen) (word : ℕ) (change : ℕ → ℕ) (then : ℕ → Seen → Type 0)
      → ((s : Here) → AskedRule label stores key s → get_or (set s.words word (change (get_or s.words word 0))) 2 0 ≡ get_or s.words 2 0)
      → ((n : ℕ) (now : Seen) → then n now → now.0.met ≡ me.0.met)
      → Allows (AskedRule label stores key) slots id me word change then → Allows (MetRule label stores key) slots id me word change then
  lifted key slots id me word change then stays same plain s r len at low =
      let h = plain s r.0 len at low in (
        h.0,
        h.1,
        h.2,
        (
          h.3,
          subst (λ (m : ℕ). IsMetOnce m (set s.views id h.0)) (sym (stays s r.0))
              (met_set (get_or s.words 2 0) s.views id me.0 h.0 at (same _ _ h.4) r.1),
        ),
        h.4,
      )

  pub draw_met : (key : Key) (slots id : ℕ) (me : Seen) (count : ℕ) → IsPassView me.0 → entry_overshoots me.0.total me.0.entries ≡ 0 → 0 < count → count ≤ 4096
      → Allows (MetRule label stores key) slots id me 0 (λ n. (n + count) % 2 ^ 64) (DrawsStored stores (step slots 0 count 0 none) me)
  draw_met key slots id me count pass none_over some_count few =
      lifted key slots id me 0 (λ n. (n + count) % 2 ^ 64) (DrawsStored stores (step slots 0 count 0 none) me)
      (λ s r. get_or-set_other s.words 0 2 ((get_or s.words 0 0 + count) % 2 ^ 64) 0 (λ h. omega (arith, h))) (λ n now t. ap (λ (m : Seen). m.0.met) t.0.0)
      (draw_asked label stores key slots id me count pass none_over some_count few)

  pub look_met : (key : Key) (slots id : ℕ) (me : Seen) → IsPassView me.0 → Allows (MetRule label stores key) slots id me 1 (λ n. n) (LooksStored stores (step slots 1 0 0 none) me)
  look_met key slots id me pass =
      lifted key slots id me 1 (λ n. n) (LooksStored stores (step slots 1 0 0 none) me)
      (λ s r. get_or-set_other s.words 1 2 (get_or s.words 1 0) 0 (λ h. omega (arith, h))) (λ n now t. ap (λ (m : Seen). m.0.met) t.0.0)
      (look_asked label stores key slots id me pass)

  pub find_mark_met : (key : Key) (slots id : ℕ) (me : Seen) → IsPassView me.0 → Allows (MetRule label stores key) slots id me 2 (λ n. n) (FindsMark (step slots 2 0 0 none) me)
  find_mark_met key slots id me pass =
      lifted key slots id me 2 (λ n. n) (FindsMark (step slots 2 0 0 none) me)
      (λ s r. let three = r.0.0.0 in get_or-set_same s.words 2 (get_or s.words 2 0) 0 (omega (arith, three))) (λ n now t. ap (λ (m : Seen). m.0.met) t.0)
      (find_mark_asked label stores key slots id me pass)

  pub raise_met : (key : Key) (slots id : ℕ) (me : Seen) (to : ℕ) → me.0.journal ≡ true → me.0.ceiling ≤ to → to ≤ me.0.total → to ≤ ceiling_for me.0.total me.0.drawn
      → (keeper : K) → label keeper ≡ me.0.keeper → stores keeper to
      → Allows (MetRule label stores key) slots id me 1 (λ _. to) (λ _. Raises (step slots 1 to 0 none) me to)
  raise_met key slots id me to is from high asked keeper called stored =
      lifted key slots id me 1 (λ _. to) (λ _. Raises (step slots 1 to 0 none) me to)
      (λ s r. get_or-set_other s.words 1 2 to 0 (λ h. omega (arith, h))) (λ n now t. ap (λ (m : Seen). m.0.met) t)
      (raise_asked label stores key slots id me to is from high asked keeper called stored)

  -- the mark is set once, and its seat met the one fault
  pub mark_met : (key : Key) (slots id : ℕ) (me : Seen) (to : ℕ) → me.0.journal ≡ true → me.0.own_mark ≡ 0 → 0 < to
      → Allows (MetRule label stores key) slots id me 2 (λ _. to) (λ _. Marks (step slots 2 to 0 none) me to)
  mark_met key slots id me to is unset above s r len at low =
      let h = mark_asked label stores key slots id me to is unset s r.0 len at low in
      let three = r.0.0.0.0 in
      let fits : Fits key.bounds (get_or s.words 1 0) (get_or s.words 2 0) id me.0 = r.0.0.0.1.each id me.0 at in
      let unmarked : get_or s.words 2 0 ≡ 0 = sym (fits.marks is) ∙ unset in
      let nothing = r.1.1 unmarked in
      let more : h.0.met ≡ me.0.met + 1 = ap (λ (m : Seen). m.0.met) h.4 in
      let sum = total_set met s.views id me.0 h.0 at in
      let marked = get_or-set_same s.words 2 to 0 (omega (arith, three)) in
      (h.0, h.1, h.2, (h.3, (omega (arith, nothing, more, sum), λ zero_is. absurd (omega (arith, marked, zero_is, above)))), h.4)

  pub make_met : (key : Key) (id : ℕ) (v : View) → v.journal ≡ true → v.made < 1024 → Splits (MetRule label stores key) id v (after_make v) (new_pass v)
  make_met key id v is room s r at = (
    make_asked label stores key id v is room s r.0 at,
    met_push (get_or s.words 2 0) (set s.views id (after_make v)) (new_pass v) refl (met_set (get_or s.words 2 0) s.views id v (after_make v) at refl r.1),
  )

  -- what one of two seats met goes over to the other
  both_met : (mark : ℕ) (views : List View) (id : ℕ) (v : View) (other : ℕ) (w both : View) → get_elem? views id ≡ some v → get_elem? (set views id both) other ≡ some w
      → both.met ≡ v.met + w.met → IsMetOnce mark views → IsMetOnce mark (set (set views id both) other spent_view)
  both_met mark views id v other w both at at' sum once =
      let s = total_set met views id v both at in let t = total_set met (set views id both) other w spent_view at' in
      (let a = once.0 in omega (arith, s, t, a, sum), λ unmarked. let b = once.1 unmarked in omega (arith, s, t, b, sum))

  pub join_met : (key : Key) (id : ℕ) (v : View) (other : ℕ) (w : View) → v.journal ≡ true → w.journal ≡ false
      → Joins (MetRule label stores key) id v other w (after_join v w) spent_view
  join_met key id v other w is not s r at two at' =
      (join_asked label stores key id v other w is not s r.0 at two at', both_met (get_or s.words 2 0) s.views id v other w (after_join v w) at at' refl r.1)

  pub write_met : (key : Key) (id : ℕ) (v : View) → Splits (MetRule label stores key) id v v (receipt_of v)
  write_met key id v s r at = (
    write_asked label stores key id v s r.0 at,
    met_push (get_or s.words 2 0) (set s.views id v) (receipt_of v) refl (met_set (get_or s.words 2 0) s.views id v v at refl r.1),
  )

  pub read_met : (key : Key) (id : ℕ) (v : View) (other : ℕ) (w : View) → w ≡ receipt_of w
      → Joins (MetRule label stores key) id v other w (after_receipt v w) spent_view
  read_met key id v other w is s r at two at' =
      let nothing : w.met ≡ 0 = ap (λ (x : View). x.met) is in
      (read_asked label stores key id v other w is s r.0 at two at', both_met (get_or s.words 2 0) s.views id v other w (after_receipt v w) at at' (omega (arith, nothing)) r.1)

  -- the journal's seat gives a word, and a pass takes it
  pub tell_met : (key : Key) (id : ℕ) (v : View) → Splits (MetRule label stores key) id v (after_telling v) (word_of v)
  tell_met key id v s r at = (
    (
      (
        (r.0.0.0.0, tells key.bounds (get_or s.words 0 0) (get_or s.words 1 0) (get_or s.words 2 0) s.views id v r.0.0.0.1 at),
        all_push (λ j u. u.journal ≡ true → u.keeper ≡ key.keeper) (set s.views id (after_telling v)) (word_of v) (λ no. absurd (cc no))
            (named_set key.keeper s.views id v (after_telling v) at refl refl r.0.0.1),
        r.0.0.2,
      ),
      drawn_push (get_or s.words 0 0) (set s.views id (after_telling v)) (word_of v) (omega arith) (drawn_set (get_or s.words 0 0) s.views id (after_telling v) (r.0.1 id v at) r.0.1),
      r.0.2,
    ),
    (let t = total_set met s.views id v (after_telling v) at in let p = sum_by_push met (set s.views id (after_telling v)) (word_of v) in
        (let a = r.1.0 in omega (arith, t, p, a), λ unmarked. let b = r.1.1 unmarked in omega (arith, t, p, b))),
  )

  pub be_told_met : (key : Key) (id : ℕ) (v : View) (other : ℕ) (w : View) → w ≡ word_of w
      → Joins (MetRule label stores key) id v other w (after_told v w) spent_view
  be_told_met key id v other w is s r at two at' = (
    (
      (
        (r.0.0.0.0, is_told key.bounds (get_or s.words 0 0) (get_or s.words 1 0) (get_or s.words 2 0) s.views id other v w r.0.0.0.1 at at' is),
        all_set (λ j u. u.journal ≡ true → u.keeper ≡ key.keeper) (set s.views id (after_told v w)) other spent_view (λ no. absurd (cc no))
            (λ j u apart e. named_set key.keeper s.views id v (after_told v w) at refl refl r.0.0.1 j u e),
        r.0.0.2,
      ),
      drawn_set (get_or s.words 0 0) (set s.views id (after_told v w)) other spent_view (omega arith) (drawn_set (get_or s.words 0 0) s.views id (after_told v w) (r.0.1 id v at) r.0.1),
      r.0.2,
    ),
    both_met (get_or s.words 2 0) s.views id v other w (after_told v w) at at' refl r.1,
  )

-- what one seat has is at most what all have
pub one_met : (mark : ℕ) (views : List View) (seat : ℕ) (v : View) → get_elem? views seat ≡ some v → IsMetOnce mark views → v.met ≤ 1
one_met mark views seat v at once = let a = total_at met views seat v at in let b = once.0 in omega (arith, a, b)
