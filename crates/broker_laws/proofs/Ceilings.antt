-- What the steps of a lease do to the ceiling of the lease machine.
use Rattle.std.proofs.Common.{◌≡◌, ℕ, ◌+◌, ◌≤◌, max, Bool, true, false, cond, ◌&&◌, List, [], ◌∷◌, ◌++◌, take, refl, sym, ap, ◌∙◌, arith, Option, Some, nat_eq, nat_lt}
use Rattle.std.specs.Prelude.{slice_index}
use Rattle.std.proofs.lemmas.Bool.{le-ltb, true≢false}
use Rattle.zk_model.specs.declared.Span.{Span}
use Rattle.lease_core.specs.Machine.{Machine, after, after_all, ceiling_for, durable, last_drawn, last_end}
use Rattle.lease_core.specs.declared.event.Event.{Event}
use Rattle.lease_core.specs.declared.event.Event.TheVariants.{Begin, Crash, Draw}
use Rattle.lease_core.proofs.Codes.{last_drawn_push}
use Rattle.lease_core.proofs.Keeps.{last_of_push}
use Rattle.lease_words.specs.Calls.{greatest_end}
use Rattle.lease_words.specs.Views.{end_of, entry}
use Rattle.lease_words.specs.declared.view.Entry.{Entry}
use Rattle.broker_core.specs.Leases.{draw_steps, grant_steps, is_refused, lease_steps, look_steps, next_span}
use Rattle.broker_laws.specs.BrokerDeeds.{raised}

-- ---- what follows the draw

-- the ceiling that is put is the one for what was drawn last
put_ceiling : (m : Machine) (s : Span) → last_drawn 0 m.drawn ≡ Some s → ceiling_for m.total (last_end (last_drawn 0 m.drawn)) ≡ ceiling_for m.total s.end
put_ceiling m s is = ap (λ (o : Option Span). ceiling_for m.total (last_end o)) is

rest_ceiling : (m : Machine) (unseen low stands : Bool) (s : Span) → stands ≡ false → last_drawn 0 m.drawn ≡ Some s
    → durable (after_all m (look_steps unseen ++ grant_steps low stands s)) ≡ cond low (ceiling_for m.total s.end) (durable m)
rest_ceiling m false false stands s none is = refl
rest_ceiling m true false stands s none is = refl
rest_ceiling m unseen true true s none is = absurd (true≢false none)
rest_ceiling m false true false s none is = last_of_push m.slots (ceiling_for m.total (last_end (last_drawn 0 m.drawn))) ∙ put_ceiling m s is
rest_ceiling m true true false s none is = last_of_push m.slots (ceiling_for m.total (last_end (last_drawn 0 m.drawn))) ∙ put_ceiling m s is

-- no put stands
rest_unput : (m : Machine) (unseen low stands : Bool) (s : Span) → m.stage ≡ 0 → (after_all m (look_steps unseen ++ grant_steps low stands s)).stage ≡ 0
rest_unput m false false stands s none = none
rest_unput m false true true s none = none
rest_unput m false true false s none = refl
rest_unput m true false stands s none = none
rest_unput m true true true s none = none
rest_unput m true true false s none = refl

abbrev rest_of : Machine → ℕ → List Event
rest_of m n = look_steps (nat_lt (slice_index m.known 0) (m.next + n)) ++ grant_steps (nat_lt m.shown (m.next + n)) (nat_lt 0 m.stage) (next_span m n)

-- ---- a lease

-- of units that fit: the ceiling is the same, or the one for them
pub lease_raises : (m : Machine) (n : ℕ) → m.stage ≡ 0 → durable m ≡ m.shown → is_refused m ≡ false → nat_lt m.total (m.next + n) ≡ false
    → durable (after_all m (lease_steps m n)) ≡ raised m.total (durable m) (m.next + n)
lease_raises m n none shown free fits =
    ap (λ (es : List Event). durable (after_all m es)) (λ i. draw_steps (free i) (fits i) n (rest_of m n))
    ∙ rest_ceiling (after m (Draw 0 n)) (nat_lt (slice_index m.known 0) (m.next + n)) (nat_lt m.shown (m.next + n)) (nat_lt 0 m.stage) (next_span m n)
    (ap (nat_lt 0) none) (last_drawn_push 0 m.drawn (record { pass = 0; span = next_span m n }))
    ∙ ap (λ (x : ℕ). cond (nat_lt x (m.next + n)) (ceiling_for m.total (m.next + n)) (durable m)) (sym shown)

-- of none that fit, or its draw alone
pub lease_keeps : (m : Machine) (n : ℕ) (refused over : Bool) → is_refused m ≡ refused → nat_lt m.total (m.next + n) ≡ over → cond refused true over ≡ true
    → durable (after_all m (lease_steps m n)) ≡ durable m
lease_keeps m n true over is_refused_so is_over none =
    ap (λ (es : List Event). durable (after_all m es)) (λ i. draw_steps (is_refused_so i) (nat_lt m.total (m.next + n)) n (rest_of m n))
lease_keeps m n false true is_refused_so is_over none =
    ap (λ (es : List Event). durable (after_all m es)) (λ i. draw_steps (is_refused_so i) (is_over i) n (rest_of m n))
lease_keeps m n false false is_refused_so is_over none = absurd (true≢false (sym none))

pub draw_keeps : (m : Machine) (n : ℕ) → durable (after_all m (take 1 (lease_steps m n))) ≡ durable m
draw_keeps m n = by_tests (is_refused m) (nat_lt m.total (m.next + n)) where
  by_tests : (refused over : Bool) → durable (after_all m (take 1 (draw_steps refused over n (rest_of m n)))) ≡ durable m
  by_tests true over = refl
  by_tests false true = refl
  by_tests false false = refl

pub draw_unput : (m : Machine) (n : ℕ) → m.stage ≡ 0 → (after_all m (take 1 (lease_steps m n))).stage ≡ 0
draw_unput m n none = by_tests (is_refused m) (nat_lt m.total (m.next + n)) where
  by_tests : (refused over : Bool) → (after_all m (take 1 (draw_steps refused over n (rest_of m n)))).stage ≡ 0
  by_tests true over = none
  by_tests false true = none
  by_tests false false = none

pub lease_unput : (m : Machine) (n : ℕ) → m.stage ≡ 0 → (after_all m (lease_steps m n)).stage ≡ 0
lease_unput m n none = by_tests (is_refused m) (nat_lt m.total (m.next + n)) where
  by_tests : (refused over : Bool) → (after_all m (draw_steps refused over n (rest_of m n))).stage ≡ 0
  by_tests true over = none
  by_tests false true = none
  by_tests false false = rest_unput (after m (Draw 0 n)) (nat_lt (slice_index m.known 0) (m.next + n)) (nat_lt m.shown (m.next + n)) (nat_lt 0 m.stage) (next_span m n) none

-- ---- a crash and a start

-- with no put under way
pub restart_keeps : (m : Machine) (body : List ℕ) → m.stage ≡ 0 → durable (after (after m (Crash body 0)) Begin) ≡ durable m
restart_keeps m body none = ap (λ (x : ℕ). durable (record m { slots = cond (nat_eq x 3 && false) (m.slots ++ m.ceiling ∷ []) m.slots })) none

-- ---- the ceiling

-- units that end at or below it raise no ceiling
pub unraised : (total ceiling end : ℕ) → end ≤ ceiling → raised total ceiling end ≡ ceiling
unraised total ceiling end low = ap (λ (t : Bool). cond t (ceiling_for total end) ceiling) (le-ltb ceiling end low)

-- ---- what a pass drew

greatest_more : (base : ℕ) (es : List Entry) (e : Entry) → greatest_end base (es ++ e ∷ []) ≡ max (greatest_end base es) (end_of e)
greatest_more base [] e = omega arith
greatest_more base (d ∷ es) e = let more = greatest_more base es e in omega (arith, more)

-- an entry that begins where those before it end is the one that ends last
pub ends_last : (base : ℕ) (es : List Entry) (pass start count : ℕ) → greatest_end base es ≡ start → greatest_end base (es ++ entry pass start count ∷ []) ≡ start + count
ends_last base es pass start count is = let more = greatest_more base es (entry pass start count) in omega (arith, more, is)
