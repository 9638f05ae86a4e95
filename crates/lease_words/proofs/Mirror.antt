-- Each step on the words is its event.
use Rattle.std.proofs.Common.{◌≡◌, ◌≢◌, ℕ, zero, suc, ◌+◌, ◌<◌, ◌≤◌, Bool, true, false, not, cond, ◌&&◌, ◌||◌, List, [], ◌∷◌, ◌++◌, map, get_or, set, refl, sym, ap, ◌∙◌, subst, arith, nat_eq, nat_lt, nat_le, All}
use Rattle.std.proofs.lemmas.List.Sums.{sum_by-cons}
use Rattle.std.proofs.lemmas.List.{length-replicate, get_or-replicate, length-set, get_or-set_same, get_or-set_other, map-append}
use Rattle.std.proofs.lemmas.Bool.{true≢false, eq-eqb, ne_eqb, lt-ltb, le-ltb, ltb-false, le-leb, and_from}
use Rattle.lease_core.specs.Spans.{span}
use Rattle.lease_core.specs.Machine.{durable, is_passed}
use Rattle.zk_model.specs.declared.Span.{Span}
use Rattle.lease_core.specs.declared.event.Drawn.{Drawn}
use Rattle.lease_words.specs.Views.{end_of, entry, report, entry_overshoots, own, IsPassView, after_draw, after_look, after_raise}
use Rattle.lease_words.specs.Rule.{passes_made}
use Rattle.lease_words.specs.Events.{span_drawn, drawn_by, StartIsEvent, DrawIsEvent, LookIsEvent, RaiseIsEvent}
use Rattle.lease_words.specs.declared.view.Entry.{Entry}
use Rattle.lease_words.specs.declared.view.Report.{Report}
use Rattle.lease_words.specs.declared.view.View.{View}
use Rattle.lease_words.proofs.Sums.{total_set, all_set}
use Rattle.lease_words.proofs.Keeps.{made_by}
use Rattle.lease_words.proofs.PlainWords.{other_number, pass_made}

drawn_same : (pass : ℕ) (ds : List Drawn) (s : Span) → drawn_by pass (ds ++ record { pass = pass; span = s } ∷ []) ≡ drawn_by pass ds ++ s ∷ []
drawn_same pass [] s = ap (λ (b : Bool). cond b (s ∷ []) []) (eq-eqb pass pass refl)
drawn_same pass (d ∷ ds) s = by_test (nat_eq d.pass pass) (drawn_same pass ds s) where
  by_test : (b : Bool) → drawn_by pass (ds ++ record { pass = pass; span = s } ∷ []) ≡ drawn_by pass ds ++ s ∷ []
      → cond b (d.span ∷ drawn_by pass (ds ++ record { pass = pass; span = s } ∷ [])) (drawn_by pass (ds ++ record { pass = pass; span = s } ∷ [])) ≡ cond b (d.span ∷ drawn_by pass ds) (drawn_by pass ds) ++ s ∷ []
  by_test true e = ap (λ (x : List Span). d.span ∷ x) e
  by_test false e = e

drawn_other : (pass other : ℕ) (ds : List Drawn) (s : Span) → other ≢ pass → drawn_by pass (ds ++ record { pass = other; span = s } ∷ []) ≡ drawn_by pass ds
drawn_other pass other [] s n = ap (λ (b : Bool). cond b (s ∷ []) []) (ne_eqb other pass n)
drawn_other pass other (d ∷ ds) s n = ap (λ (x : List Span). cond (nat_eq d.pass pass) (d.span ∷ x) x) (drawn_other pass other ds s n)

-- no span above the total
none_above : (total : ℕ) (es : List Entry) → entry_overshoots total es ≡ 0 → All (λ s. s.end ≤ total) (map span_drawn es)
none_above total [] e k d l = absurd (omega arith)
none_above total (x ∷ xs) e zero d l = low (nat_lt total (end_of x)) refl (omega (arith, sum_by-cons (λ (z : Entry). cond {A = ℕ} (nat_lt total (end_of z)) 1 0) x xs)) where
  low : (b : Bool) → nat_lt total (end_of x) ≡ b → cond {A = ℕ} (nat_lt total (end_of x)) 1 0 ≡ 0 → end_of x ≤ total
  low true is z = let o : cond {A = ℕ} (nat_lt total (end_of x)) 1 0 ≡ 1 = ap (λ (b : Bool). cond {A = ℕ} b 1 0) is in absurd (omega arith)
  low false is z = ltb-false total (end_of x) is
none_above total (x ∷ xs) e (suc k) d l = none_above total xs (omega (arith, sum_by-cons (λ (z : Entry). cond {A = ℕ} (nat_lt total (end_of z)) 1 0) x xs)) k d (omega arith)

neither : (x y : Bool) → x ≡ false → y ≡ false → (x || y) ≡ false
neither x y e g = ap (λ (z : Bool). z || y) e ∙ g

not_passed : (total pass : ℕ) (ds : List Drawn) → All (λ s. s.end ≤ total) (drawn_by pass ds) → is_passed total pass ds ≡ false
not_passed total pass [] h = refl
not_passed total pass (d ∷ ds) h = by_test (nat_eq d.pass pass) h (λ g. not_passed total pass ds g) where
  by_test : (b : Bool) → All (λ s. s.end ≤ total) (cond b (d.span ∷ drawn_by pass ds) (drawn_by pass ds)) → (All (λ s. s.end ≤ total) (drawn_by pass ds) → is_passed total pass ds ≡ false) → ((b && nat_lt total d.span.end) || is_passed total pass ds) ≡ false
  by_test true g f = neither (nat_lt total d.span.end) (is_passed total pass ds) (le-ltb total d.span.end (g 0 d.span (omega arith))) (f (λ k e l. g (suc k) e (omega arith)))
  by_test false g f = f g

pub draw_is_event : DrawIsEvent
draw_is_event b next shown mark views seat v count m k at pass none some_count few mir =
    let w : View = after_draw v next count in
    let n : ℕ = (own v).number in
    let low : n < passes_made views = pass_made b next shown mark views k seat v at pass in
    let same = mir.passes in
    let clear : is_passed m.total n m.drawn ≡ false = subst (λ (t : ℕ). is_passed t n m.drawn ≡ false) (sym mir.total)
    (not_passed b.total n m.drawn (subst (λ (x : List Span). All (λ s. s.end ≤ b.total) x) (sym (mir.drawn seat v at pass)) (none_above b.total v.entries none))) in
    let made : passes_made (set views seat w) ≡ passes_made views = (let s = total_set made_by views seat v w at in omega arith) in
    let spans : span m.next (m.next + count) ≡ span_drawn (entry n next count) = ap (λ (x : ℕ). span x (x + count)) mir.next_is in (
      and_from m.up _ mir.up (and_from (nat_lt n m.passes) _ (lt-ltb n m.passes (omega arith)) (and_from (nat_le 1 count && nat_le count 4096) (not (is_passed m.total n m.drawn)) (and_from (nat_le 1 count) (nat_le count 4096) (le-leb 1 count some_count) (le-leb count 4096 few)) (ap not clear))),
      record {
        up = mir.up;
        total = mir.total;
        base = mir.base;
        passes = same ∙ sym made;
        next_is = ap (λ (x : ℕ). x + count) mir.next_is;
        shown_is = mir.shown_is;
        all_known = mir.all_known;
        drawn = all_set (λ j u. IsPassView u → drawn_by (own u).number (m.drawn ++ record { pass = n; span = span m.next (m.next + count) } ∷ []) ≡ map span_drawn u.entries) views seat w
            (λ p. drawn_same n m.drawn (span m.next (m.next + count)) ∙ ap (λ (x : List Span). x ++ span m.next (m.next + count) ∷ []) (mir.drawn seat v at pass) ∙ ap (λ (x : Span). map span_drawn v.entries ++ x ∷ []) spans ∙ sym (map-append span_drawn v.entries (entry n next count ∷ [])))
            (λ j u away g p. drawn_other (own u).number n m.drawn (span m.next (m.next + count)) (other_number b next shown mark views k seat j v u at g pass p (λ e. away (sym e))) ∙ mir.drawn j u g p);
        known = all_set (λ j u. IsPassView u → get_or m.known (own u).number 0 ≡ (own u).known) views seat w (λ p. mir.known seat v at pass) (λ j u away g p. mir.known j u g p);
      },
    )

pub look_is_event : LookIsEvent
look_is_event b next shown mark views seat v m k at pass mir =
    let w : View = after_look v shown in
    let n : ℕ = (own v).number in
    let low : n < passes_made views = pass_made b next shown mark views k seat v at pass in
    let same = mir.passes in
    let len = mir.all_known in
    let made : passes_made (set views seat w) ≡ passes_made views = (let s = total_set made_by views seat v w at in omega arith) in
    let now : own w ≡ report n shown (own v).mark = ap (λ (rs : List Report). get_or (map (λ r. report r.number shown r.mark) rs) 0 (report 0 0 0)) pass.1 in (
      and_from m.up _ mir.up (lt-ltb n m.passes (omega arith)),
      record {
        up = mir.up;
        total = mir.total;
        base = mir.base;
        passes = same ∙ sym made;
        next_is = mir.next_is;
        shown_is = mir.shown_is;
        all_known = length-set m.known n m.shown ∙ mir.all_known;
        drawn = all_set (λ j u. IsPassView u → drawn_by (own u).number m.drawn ≡ map span_drawn u.entries) views seat w
            (λ p. ap (λ (r : Report). drawn_by r.number m.drawn) now ∙ mir.drawn seat v at pass)
            (λ j u away g p. mir.drawn j u g p);
        known = all_set (λ j u. IsPassView u → get_or (set m.known n m.shown) (own u).number 0 ≡ (own u).known) views seat w
            (λ p. ap (λ (r : Report). get_or (set m.known n m.shown) r.number 0) now ∙ get_or-set_same m.known n m.shown 0 (omega arith) ∙ mir.shown_is ∙ sym (ap (λ (r : Report). r.known) now))
            (λ j u away g p. get_or-set_other m.known n (own u).number m.shown 0 (other_number b next shown mark views k j seat u v g at p pass away) ∙ mir.known j u g p);
      },
    )

pub raise_is_event : RaiseIsEvent
raise_is_event b next shown mark views seat v to m k at is stage ceiling mir =
    let w : View = after_raise v to in
    let made : passes_made (set views seat w) ≡ passes_made views = (let s = total_set made_by views seat v w at in omega arith) in (
      and_from m.up (nat_eq m.stage 4) mir.up (eq-eqb m.stage 4 stage),
      record {
        up = mir.up;
        total = mir.total;
        base = mir.base;
        passes = mir.passes ∙ sym made;
        next_is = mir.next_is;
        shown_is = ceiling;
        all_known = mir.all_known;
        drawn = all_set (λ j u. IsPassView u → drawn_by (own u).number m.drawn ≡ map span_drawn u.entries) views seat w (λ p. absurd (true≢false (sym is ∙ p.0))) (λ j u away g p. mir.drawn j u g p);
        known = all_set (λ j u. IsPassView u → get_or m.known (own u).number 0 ≡ (own u).known) views seat w (λ p. absurd (true≢false (sym is ∙ p.0))) (λ j u away g p. mir.known j u g p);
      },
    )

pub start_is_event : StartIsEvent
start_is_event b views m down at total passes fresh = (
  ap not down,
  record {
    up = refl;
    total = total;
    base = at;
    passes = passes;
    next_is = at;
    shown_is = at;
    all_known = length-replicate m.passes (durable m);
    drawn = λ seat v sits p. sym (ap (map span_drawn) (fresh seat v sits p).0);
    known = λ seat v sits p. get_or-replicate m.passes (own v).number (durable m) 0 (fresh seat v sits p).2 ∙ at ∙ sym (fresh seat v sits p).1;
  },
)
