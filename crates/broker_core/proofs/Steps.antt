-- The broker's lease machine through the steps of a lease, and through a crash.
use Rattle.std.proofs.Common.{◌≡◌, ◌≢◌, ℕ, zero, suc, ◌+◌, ◌<◌, ◌≤◌, ◌⊎◌, inl, inr, Bool, true, false, not, cond, ◌&&◌, ◌||◌, List, [], ◌∷◌, ◌++◌, length, get_or, take, refl, sym, ap, ◌∙◌, subst, arith, Option, Some, None, nat_eq, nat_lt, nat_le}
use Rattle.std.specs.List.{Contains}
use Rattle.std.specs.Prelude.{slice_index}
use Rattle.std.proofs.lemmas.Bool.{false≢true, and_from, and_parts, eq-eqb, le-leb, lt-ltb, ltb-false, not_from_false}
use Rattle.std.proofs.lemmas.List.Elements.{All-contains, Contains-append_left}
use Rattle.zk_model.specs.declared.Span.{Span}
use Rattle.lease_core.specs.Consistent.{IsConsistent, spans_of}
use Rattle.lease_core.specs.Spans.{IsWithin, has_span, same_span}
use Rattle.lease_core.specs.Machine.{Machine, after, after_all, are_possible, ceiling_for, is_open, is_passed, is_possible, last_drawn, last_end}
use Rattle.lease_core.specs.declared.event.Event.{Event}
use Rattle.lease_core.specs.declared.event.Event.TheVariants.{Begin, Draw, Look, Put, Raise, Spend, Claim, Crash}
use Rattle.lease_core.specs.declared.event.Moment.TheVariants.{Body, BodySync, Gate, GateSync}
use Rattle.lease_core.proofs.Codes.{last_drawn_push}
use Rattle.lease_core.proofs.Drawns.{same_span-true}
use Rattle.lease_core.proofs.Reached.{is_consistent, reached_goes_on, reached_inv}
use Rattle.broker_core.specs.Leases.{AreSteps, IsStep, draw_steps, grant_end, grant_steps, is_refused, kept_of, last_start, lease_end, lease_steps, look_steps, next_span, repeated, steps_for}
use Rattle.broker_core.specs.Messages.{given, rounded}
use Rattle.broker_core.specs.Sound.{Goes, Grows, IsServing}
use Rattle.broker_core.specs.declared.message.Kept.{Kept}
use Rattle.broker_core.specs.declared.message.LeaseEnd.TheVariants.{Leased, Exhausted}
use Rattle.zk_model.specs.declared.messages.Want.{Want}

on : (m : Machine) (e : Event) → IsServing m → is_possible m e ≡ true → (after m e).up ≡ m.up → (after m e).passes ≡ m.passes
    → Grows m.spent (after m e).spent → Goes m (after m e)
on m e v ok up passes grows = record {
  serving = record {
    reached = (reached_goes_on m e v.reached ok).0;
    up = up ∙ v.up;
    has_pass = let some = v.has_pass in omega (arith, passes, some);
  };
  grows = grows;
}

-- ---- one step after another

step_goes : (m : Machine) (e : Event) → IsServing m → is_possible m e ≡ true → IsStep e → Goes m (after m e)
step_goes m Begin v ok q = absurd q
step_goes m (Draw pass n) v ok q = on m (Draw pass n) v ok refl refl (λ s h. h)
step_goes m (Look pass) v ok q = on m (Look pass) v ok refl refl (λ s h. h)
step_goes m (Put (Body pass)) v ok q = on m (Put (Body pass)) v ok refl refl (λ s h. h)
step_goes m (Put BodySync) v ok q = on m (Put BodySync) v ok refl refl (λ s h. h)
step_goes m (Put Gate) v ok q = on m (Put Gate) v ok refl refl (λ s h. h)
step_goes m (Put GateSync) v ok q = on m (Put GateSync) v ok refl refl (λ s h. h)
step_goes m Raise v ok q = on m Raise v ok refl refl (λ s h. h)
step_goes m (Spend pass t) v ok q = on m (Spend pass t) v ok refl refl (λ s h. Contains-append_left m.spent (t ∷ []) s h)
step_goes m (Claim s) v ok q = absurd q
step_goes m (Crash body gate) v ok q = absurd q

pub steps_go : (m : Machine) (es : List Event) → IsServing m → are_possible m es ≡ true → AreSteps es → Goes m (after_all m es)
steps_go m [] v ok q = record { serving = v; grows = λ s h. h }
steps_go m (e ∷ es) v ok q =
    let p = and_parts (is_possible m e) (are_possible (after m e) es) ok in
    let one = step_goes m e v p.0 q.0 in
    let more = steps_go (after m e) es one.serving p.1 q.1 in
    record { serving = more.serving; grows = λ s h. more.grows s (one.grows s h) }

pub first_possible : (m : Machine) (es : List Event) (k : ℕ) → are_possible m es ≡ true → are_possible m (take k es) ≡ true
first_possible m es zero ok = refl
first_possible m [] (suc k) ok = refl
first_possible m (e ∷ es) (suc k) ok =
    let p = and_parts (is_possible m e) (are_possible (after m e) es) ok in
    and_from (is_possible m e) (are_possible (after m e) (take k es)) p.0 (first_possible (after m e) es k p.1)

pub first_steps : (es : List Event) (k : ℕ) → AreSteps es → AreSteps (take k es)
first_steps es zero q = tt
first_steps [] (suc k) q = tt
first_steps (e ∷ es) (suc k) q = (q.0, first_steps es k q.1)

-- ---- the steps of a lease are possible

same_self : (s : Span) → same_span s s ≡ true
same_self s = and_from (nat_eq s.start s.start) (nat_eq s.end s.end) (eq-eqb s.start s.start refl) (eq-eqb s.end s.end refl)

opened : (o : Option Span) (s : Span) (spent : List Span) (test : Span → Bool) → o ≡ Some s → has_span s spent ≡ false → test s ≡ true
    → is_open o spent test ≡ true
opened o s spent test is new ok =
    ap (λ (x : Option Span). is_open x spent test) is ∙ and_from (not (has_span s spent)) (test s) (ap not new) ok

none_had : (s : Span) (xs : List Span) → ((k : ℕ) (d : Span) → k < length xs → get_or xs k d ≢ s) → has_span s xs ≡ false
none_had s [] h = refl
none_had s (x ∷ xs) h = by_test (same_span x s) refl (none_had s xs (λ k d l. h (suc k) d (omega arith))) where
  by_test : (b : Bool) → same_span x s ≡ b → has_span s xs ≡ false → (same_span x s || has_span s xs) ≡ false
  by_test true is e = absurd (h 0 x (omega arith) (same_span-true x s is))
  by_test false is e = ap (λ (c : Bool). c || has_span s xs) is ∙ e

-- what is drawn next is not granted yet
next_unspent : (m : Machine) (n : ℕ) → IsConsistent m → 0 < n → has_span (next_span m n) m.spent ≡ false
next_unspent m n c some = none_had (next_span m n) m.spent (λ k d l e. differs (get_or m.spent k d) e (c.spent_drawn k d l)) where
  differs : (s : Span) → s ≡ next_span m n → (Contains (spans_of m.drawn) s ⊎ (s.end ≤ m.base)) → ⊥
  differs s e (inl h) =
      let w = All-contains (IsWithin m.base m.next) (spans_of m.drawn) s c.drawn_within h in
      let at : s.end ≡ m.next + n = ap (λ (x : Span). x.end) e in let top = w.2 in absurd (omega arith)
  differs s e (inr h) =
      let at : s.end ≡ m.next + n = ap (λ (x : Span). x.end) e in let low = c.base_next in absurd (omega arith)

-- the pass drew this last, it is not granted yet, and it ends within the total
record Drew (m : Machine) (s : Span) : Type 0 where
  up : m.up ≡ true
  has_pass : 0 < m.passes
  last : last_drawn 0 m.drawn ≡ Some s
  unspent : has_span s m.spent ≡ false
  within : s.end ≤ m.total

spends : (m : Machine) (s : Span) → Drew m s → s.end ≤ m.shown → is_possible m (Spend 0 s) ≡ true
spends m s d below = and_from m.up _ d.up (and_from (nat_lt 0 m.passes) _ (lt-ltb 0 m.passes d.has_pass)
    (opened (last_drawn 0 m.drawn) s m.spent (λ t. same_span t s && nat_le s.end m.shown) d.last d.unspent
    (and_from (same_span s s) (nat_le s.end m.shown) (same_self s) (le-leb s.end m.shown below))))

ceiling_above : (total end : ℕ) → end ≤ total → end ≤ ceiling_for total end
ceiling_above total end within = omega (arith, within)

grants : (m : Machine) (s : Span) (low stands : Bool) → Drew m s → nat_lt m.shown s.end ≡ low → nat_lt 0 m.stage ≡ stands
    → are_possible m (grant_steps low stands s) ≡ true
grants m s false stands d is rest = and_from (is_possible m (Spend 0 s)) true (spends m s d (ltb-false m.shown s.end is)) refl
grants m s true true d is rest = refl
grants m s true false d is rest = and_from (is_possible m (Put (Body 0))) _ begins
    (goes m.up (nat_lt 0 m.passes) (is_possible raised (Spend 0 s)) d.up (lt-ltb 0 m.passes d.has_pass)
    (spends raised s drew below)) where
      raised : Machine
      raised = after_all m (Put (Body 0) ∷ Put BodySync ∷ Put Gate ∷ Put GateSync ∷ Raise ∷ Look 0 ∷ [])

      drew : Drew raised s
      drew = record { up = d.up; has_pass = d.has_pass; last = d.last; unspent = d.unspent; within = d.within }

      below : s.end ≤ raised.shown
      below = subst (λ (end : ℕ). s.end ≤ ceiling_for m.total end) (sym (ap last_end d.last)) (ceiling_above m.total s.end d.within)

      begins : is_possible m (Put (Body 0)) ≡ true
      begins = and_from m.up _ d.up (and_from (nat_lt 0 m.passes) _ (lt-ltb 0 m.passes d.has_pass)
          (and_from (nat_eq m.stage 0) _ (eq-eqb m.stage 0 (let none = ltb-false 0 m.stage rest in omega (arith, none)))
          (opened (last_drawn 0 m.drawn) s m.spent (λ t. nat_lt m.shown t.end && nat_le t.end m.total) d.last d.unspent
          (and_from (nat_lt m.shown s.end) (nat_le s.end m.total) is (le-leb s.end m.total d.within)))))

      goes : (up pass spend : Bool) → up ≡ true → pass ≡ true → spend ≡ true
          → ((up && true) && ((up && true) && ((up && true) && ((up && true) && ((up && pass) && (spend && true)))))) ≡ true
      goes true true true a b c = refl
      goes true true false a b c = absurd (false≢true c)
      goes true false spend a b c = absurd (false≢true b)
      goes false pass spend a b c = absurd (false≢true a)

looks : (m : Machine) (s : Span) (unseen low stands : Bool) → Drew m s → nat_lt m.shown s.end ≡ low → nat_lt 0 m.stage ≡ stands
    → are_possible m (look_steps unseen ++ grant_steps low stands s) ≡ true
looks m s false low stands d is rest = grants m s low stands d is rest
looks m s true low stands d is rest =
    and_from (is_possible m (Look 0)) _ (and_from m.up (nat_lt 0 m.passes) d.up (lt-ltb 0 m.passes d.has_pass))
    (grants (after m (Look 0)) s low stands
    (record { up = d.up; has_pass = d.has_pass; last = d.last; unspent = d.unspent; within = d.within }) is rest)

lease_possible : (m : Machine) (n : ℕ) → IsServing m → 1 ≤ n → n ≤ 4096 → are_possible m (lease_steps m n) ≡ true
lease_possible m n v some few = by_draw (is_refused m) (nat_lt m.total (m.next + n)) refl refl where
  more : List Event
  more = look_steps (nat_lt (slice_index m.known 0) (m.next + n))
      ++ grant_steps (nat_lt m.shown (m.next + n)) (nat_lt 0 m.stage) (next_span m n)

  draws : is_refused m ≡ false → is_possible m (Draw 0 n) ≡ true
  draws free = and_from m.up _ v.up (and_from (nat_lt 0 m.passes) _ (lt-ltb 0 m.passes v.has_pass)
      (and_from (nat_le 1 n && nat_le n 4096) _ (and_from (nat_le 1 n) (nat_le n 4096) (le-leb 1 n some) (le-leb n 4096 few))
      (not_from_false (is_passed m.total 0 m.drawn) free)))

  drew : nat_lt m.total (m.next + n) ≡ false → Drew (after m (Draw 0 n)) (next_span m n)
  drew fits = record {
    up = v.up;
    has_pass = v.has_pass;
    last = last_drawn_push 0 m.drawn (record { pass = 0; span = next_span m n });
    unspent = next_unspent m n (is_consistent m (reached_inv m v.reached)) some;
    within = ltb-false m.total (m.next + n) fits;
  }

  by_draw : (refused over : Bool) → is_refused m ≡ refused → nat_lt m.total (m.next + n) ≡ over
      → are_possible m (draw_steps refused over n more) ≡ true
  by_draw true over is ends = refl
  by_draw false true is ends = and_from (is_possible m (Draw 0 n)) true (draws is) refl
  by_draw false false is ends = and_from (is_possible m (Draw 0 n)) _ (draws is)
      (looks (after m (Draw 0 n)) (next_span m n) (nat_lt (slice_index m.known 0) (m.next + n))
      (nat_lt m.shown (m.next + n)) (nat_lt 0 m.stage) (drew ends) refl refl)

grant_are_steps : (low stands : Bool) (s : Span) → AreSteps (grant_steps low stands s)
grant_are_steps false stands s = (tt, tt)
grant_are_steps true true s = tt
grant_are_steps true false s = (tt, (tt, (tt, (tt, (tt, (tt, (tt, tt)))))))

look_are_steps : (unseen : Bool) (es : List Event) → AreSteps es → AreSteps (look_steps unseen ++ es)
look_are_steps false es q = q
look_are_steps true es q = (tt, q)

draw_are_steps : (refused over : Bool) (n : ℕ) (es : List Event) → AreSteps es → AreSteps (draw_steps refused over n es)
draw_are_steps true over n es q = tt
draw_are_steps false true n es q = (tt, tt)
draw_are_steps false false n es q = (tt, q)

lease_are_steps : (m : Machine) (n : ℕ) → AreSteps (lease_steps m n)
lease_are_steps m n = draw_are_steps (is_refused m) (nat_lt m.total (m.next + n)) n _
    (look_are_steps (nat_lt (slice_index m.known 0) (m.next + n)) _
    (grant_are_steps (nat_lt m.shown (m.next + n)) (nat_lt 0 m.stage) (next_span m n)))

pub lease_goes : (m : Machine) (n : ℕ) → IsServing m → (1 ≤ n) × (n ≤ 4096) → Goes m (after_all m (lease_steps m n))
lease_goes m n v fits = steps_go m (lease_steps m n) v (lease_possible m n v fits.0 fits.1) (lease_are_steps m n)

-- ---- the steps for a Want

-- a Want's rounded count is one that a lease takes
pub rounded_fits : (count : ℕ) → 1 ≤ count → count ≤ 4096 → (1 ≤ rounded count) × (rounded count ≤ 4096)
rounded_fits count some few = (omega (arith, some, few), omega (arith, some, few))

pub steps_possible : (m : Machine) (kept : List (Option Kept)) (want : Want) → IsServing m → (1 ≤ want.count) × (want.count ≤ 4096)
    → are_possible m (steps_for m kept want) ≡ true
steps_possible m kept want v fits = by_kept (repeated (kept_of kept want.node) want.number) where
  by_kept : (o : Option Span) → are_possible m (given o (lease_steps m (rounded want.count)) (λ s. [])) ≡ true
  by_kept None = let r = rounded_fits want.count fits.0 fits.1 in lease_possible m (rounded want.count) v r.0 r.1
  by_kept (Some s) = refl

pub are_steps : (m : Machine) (kept : List (Option Kept)) (want : Want) → AreSteps (steps_for m kept want)
are_steps m kept want = by_kept (repeated (kept_of kept want.node) want.number) where
  by_kept : (o : Option Span) → AreSteps (given o (lease_steps m (rounded want.count)) (λ s. []))
  by_kept None = lease_are_steps m (rounded want.count)
  by_kept (Some s) = tt

-- some steps of a lease
pub some_go : (m : Machine) (kept : List (Option Kept)) (want : Want) (k : ℕ) → IsServing m → (1 ≤ want.count) × (want.count ≤ 4096)
    → Goes m (after_all m (take k (steps_for m kept want)))
some_go m kept want k v fits = steps_go m (take k (steps_for m kept want)) v
    (first_possible m (steps_for m kept want) k (steps_possible m kept want v fits))
    (first_steps (steps_for m kept want) k (are_steps m kept want))

-- all of them
pub all_go : (m : Machine) (kept : List (Option Kept)) (want : Want) → IsServing m → (1 ≤ want.count) × (want.count ≤ 4096)
    → Goes m (after_all m (steps_for m kept want))
all_go m kept want v fits = steps_go m (steps_for m kept want) v (steps_possible m kept want v fits) (are_steps m kept want)

-- ---- what a lease grants

granted_last : (m : Machine) (s : Span) (unseen low stands : Bool) → grant_end low stands s ≡ Leased s
    → (after_all m (look_steps unseen ++ grant_steps low stands s)).spent ≡ m.spent ++ s ∷ []
granted_last m s false false stands e = refl
granted_last m s true false stands e = refl
granted_last m s false true false e = refl
granted_last m s true true false e = refl
granted_last m s unseen true true e = absurd (cc)

-- a span that a lease grants is the next one, and the last that the store granted
pub leased : (m : Machine) (n : ℕ) (s : Span) → lease_end m n ≡ Leased s
    → (s ≡ next_span m n) × ((after_all m (lease_steps m n)).spent ≡ m.spent ++ s ∷ [])
leased m n s = by_tests (is_refused m) (nat_lt m.total (m.next + n)) (nat_lt (slice_index m.known 0) (m.next + n))
    (nat_lt m.shown (m.next + n)) (nat_lt 0 m.stage) where
      is_next : (low stands : Bool) (t : Span) → grant_end low stands t ≡ Leased s → (s ≡ t) × (grant_end low stands t ≡ Leased t)
      is_next false stands t e = let same : t ≡ s = cc in (sym same, refl)
      is_next true false t e = let same : t ≡ s = cc in (sym same, refl)
      is_next true true t e = absurd (cc)

      by_tests : (refused over unseen low stands : Bool)
          → cond refused (Exhausted (last_start m)) (cond over (Exhausted m.next) (grant_end low stands (next_span m n))) ≡ Leased s
          → (s ≡ next_span m n) × ((after_all m (draw_steps refused over n (look_steps unseen ++ grant_steps low stands (next_span m n)))).spent ≡ m.spent ++ s ∷ [])
      by_tests true over unseen low stands e = absurd (cc)
      by_tests false true unseen low stands e = absurd (cc)
      by_tests false false unseen low stands e =
          let is = is_next low stands (next_span m n) e in
          (is.0, granted_last (after m (Draw 0 n)) (next_span m n) unseen low stands is.1 ∙ ap (λ (t : Span). m.spent ++ t ∷ []) (sym is.0))

-- ---- a crash and the start after it

pub restarts : (m : Machine) (body : List ℕ) (gate : ℕ) → IsServing m → Goes m (after (after m (Crash body gate)) Begin)
restarts m body gate v = record {
  serving = record {
    reached = (reached_goes_on (after m (Crash body gate)) Begin (reached_goes_on m (Crash body gate) v.reached v.up).0 refl).0;
    up = refl;
    has_pass = v.has_pass;
  };
  grows = λ s h. h;
}
