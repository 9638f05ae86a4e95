-- A store's puts, grants and stops are events of the machine.
use Rattle.std.proofs.Common.{◌≡◌, ◌≢◌, ℕ, zero, suc, ◌+◌, ◌<◌, ◌≤◌, ◌⊎◌, inl, inr, Bool, true, false, not, cond, ◌&&◌, ◌||◌, List, [], ◌∷◌, ◌++◌, map, length, get_or, refl, sym, ap, ◌∙◌, subst, arith, Option, None, Some, nat_eq, nat_lt, nat_le}
use Rattle.std.specs.List.{Contains}
use Rattle.std.proofs.lemmas.List.{map-append}
use Rattle.std.proofs.lemmas.List.Elements.{All-contains}
use Rattle.std.proofs.lemmas.Bool.{and_parts, and_from, or_parts, eq-eqb, ne_eqb, eqb-true, lt-ltb, le-leb}
use Rattle.lease_core.specs.Spans.{span, same_span, has_span, IsWithin}
use Rattle.lease_core.specs.Machine.{Machine, last_of, last_drawn, last_end, or_else, is_open, ceiling_for, is_possible, after}
use Rattle.lease_core.specs.Kept.{IsReached}
use Rattle.lease_core.specs.Consistent.{spans_of, IsConsistent}
use Rattle.zk_model.specs.declared.Span.{Span}
use Rattle.lease_core.specs.declared.event.Drawn.{Drawn}
use Rattle.lease_core.specs.declared.event.Moment.TheVariants.{Body, BodySync, Gate, GateSync}
use Rattle.lease_core.specs.declared.event.Event.{Event}
use Rattle.lease_core.specs.declared.event.Event.TheVariants.{Begin, Draw, Look, Put, Raise, Spend, Claim, Crash}
use Rattle.lease_core.proofs.Drawns.{Chain, has_within, last_is_had, same_span-true, open_parts}
use Rattle.lease_core.proofs.Keeps.{last_of_push}
use Rattle.lease_core.proofs.Reached.{reached_inv, is_consistent, reached_goes_on}
use Rattle.lease_words.specs.Views.{end_of, own, IsPassView}
use Rattle.lease_words.specs.Rule.{Fits, passes_made}
use Rattle.lease_words.specs.Leased.{Sits}
use Rattle.lease_words.specs.Events.{span_drawn, drawn_by, Mirrors}
use Rattle.lease_words.specs.Storing.{IsUnspent, IsNoSpendOf, DrawIsUnspent, StaysUnspent, SpendIsEvent, PutStays, PutEnds, BodyIsEvent, BodySyncIsEvent, GateIsEvent, GateSyncIsEvent, CrashIsEvent}
use Rattle.lease_words.specs.declared.view.Bounds.{Bounds}
use Rattle.lease_words.specs.declared.view.Entry.{Entry}
use Rattle.lease_words.specs.declared.view.Report.{Report}
use Rattle.lease_words.specs.declared.view.View.{View}
use Rattle.lease_words.proofs.PlainWords.{pass_made}

-- a machine with the same era mirrors the same words
still : (b : Bounds) (next shown : ℕ) (views : List View) (m now : Machine) → Mirrors b next shown views m → now.up ≡ m.up → now.total ≡ m.total → now.base ≡ m.base → now.passes ≡ m.passes
    → now.next ≡ m.next → now.shown ≡ m.shown → now.drawn ≡ m.drawn → now.known ≡ m.known → Mirrors b next shown views now
still b next shown views m now mir up total base passes next_is shown_is drawn known = record {
  up = up ∙ mir.up;
  total = total ∙ mir.total;
  base = base ∙ mir.base;
  passes = passes ∙ mir.passes;
  next_is = next_is ∙ mir.next_is;
  shown_is = shown_is ∙ mir.shown_is;
  all_known = ap length known ∙ mir.all_known ∙ sym passes;
  drawn = λ seat v at p. ap (drawn_by (own v).number) drawn ∙ mir.drawn seat v at p;
  known = λ seat v at p. ap (λ (xs : List ℕ). get_or xs (own v).number 0) known ∙ mir.known seat v at p;
}

-- ---- the last span of a pass

abbrev last_span : List Span → Option Span
last_span [] = None
last_span (s ∷ ss) = or_else (last_span ss) (Some s)

none_else : (o : Option Span) → or_else o None ≡ o
none_else None = refl
none_else (Some s) = refl

last_by : (pass : ℕ) (ds : List Drawn) → last_drawn pass ds ≡ last_span (drawn_by pass ds)
last_by pass [] = refl
last_by pass (d ∷ ds) = by_test (nat_eq d.pass pass) (last_by pass ds) where
  by_test : (b : Bool) → last_drawn pass ds ≡ last_span (drawn_by pass ds) → or_else (last_drawn pass ds) (cond b (Some d.span) None) ≡ last_span (cond b (d.span ∷ drawn_by pass ds) (drawn_by pass ds))
  by_test true e = ap (λ (o : Option Span). or_else o (Some d.span)) e
  by_test false e = none_else (last_drawn pass ds) ∙ e

last_pushed : (ss : List Span) (s : Span) → last_span (ss ++ s ∷ []) ≡ Some s
last_pushed [] s = refl
last_pushed (x ∷ xs) s = ap (λ (o : Option Span). or_else o (Some x)) (last_pushed xs s)

-- the machine's last span of the pass is that of its newest entry
newest_last : (b : Bounds) (next shown : ℕ) (views : List View) (seat : ℕ) (v : View) (e : Entry) (m : Machine) → Sits views seat v → IsPassView v → Mirrors b next shown views m → IsUnspent m v.entries e
    → last_drawn (own v).number m.drawn ≡ Some (span_drawn e)
newest_last b next shown views seat v e m at pass mir u =
    last_by (own v).number m.drawn
    ∙ ap last_span (mir.drawn seat v at pass ∙ ap (map span_drawn) u.newest ∙ map-append span_drawn u.before (e ∷ []))
    ∙ last_pushed (map span_drawn u.before) (span_drawn e)

-- what is_open wants
pub opened : (o : Option Span) (s : Span) (spent : List Span) (test : Span → Bool) → o ≡ Some s → has_span s spent ≡ false → test s ≡ true → is_open o spent test ≡ true
opened o s spent test is new ok = ap (λ (x : Option Span). is_open x spent test) is ∙ and_from (not (has_span s spent)) (test s) (ap not new) ok

pub same_self : (s : Span) → same_span s s ≡ true
same_self s = and_from (nat_eq s.start s.start) (nat_eq s.end s.end) (eq-eqb s.start s.start refl) (eq-eqb s.end s.end refl)

pub spend_is_event : SpendIsEvent
spend_is_event b next shown mark views seat v e m k at pass u low mir =
    let n : ℕ = (own v).number in
    let made : n < passes_made views = pass_made b next shown mark views k seat v at pass in
    let same = mir.passes in
    let see = mir.shown_is in
    let fits : Fits b shown mark seat v = k.each seat v at in
    let one : length v.reports ≡ 1 = ap length pass.1 in
    let seen : (own v).known ≤ shown = got v.reports (own v) pass.1 (fits.known 0 (own v) (omega arith)).1 in (
      and_from m.up _ mir.up (and_from (nat_lt n m.passes) _ (lt-ltb n m.passes (omega arith)) (opened (last_drawn n m.drawn) (span_drawn e) m.spent (λ t. same_span t (span_drawn e) && nat_le (end_of e) m.shown)
          (newest_last b next shown views seat v e m at pass mir u) u.unspent (and_from (same_span (span_drawn e) (span_drawn e)) (nat_le (end_of e) m.shown) (same_self (span_drawn e)) (le-leb (end_of e) m.shown (omega arith))))),
      still b next shown views m (after m (Spend n (span_drawn e))) mir refl refl refl refl refl refl refl refl,
    ) where
      got : (rs : List Report) (x : Report) → rs ≡ x ∷ [] → (get_or rs 0 x).known ≤ shown → x.known ≤ shown
      got rs x e l = subst (λ (r : Report). r.known ≤ shown) (ap (λ (z : List Report). get_or z 0 x) e) l

-- ---- what is unspent

none_had : (s : Span) (xs : List Span) → ((k : ℕ) (d : Span) → k < length xs → get_or xs k d ≢ s) → has_span s xs ≡ false
none_had s [] h = refl
none_had s (x ∷ xs) h = by_test (same_span x s) refl (none_had s xs (λ k d l. h (suc k) d (omega arith))) where
  by_test : (b : Bool) → same_span x s ≡ b → has_span s xs ≡ false → (same_span x s || has_span s xs) ≡ false
  by_test true is e = absurd (h 0 x (omega arith) (same_span-true x s is))
  by_test false is e = ap (λ (b : Bool). b || has_span s xs) is ∙ e

-- a span that is drawn next is none of those spent
pub next_unspent : (m : Machine) (count : ℕ) → IsConsistent m → 0 < count → has_span (span m.next (m.next + count)) m.spent ≡ false
next_unspent m count c some_count = none_had (span m.next (m.next + count)) m.spent (λ k d l e. differs (get_or m.spent k d) e (c.spent_drawn k d l)) where
  differs : (s : Span) → s ≡ span m.next (m.next + count) → (Contains (spans_of m.drawn) s ⊎ (s.end ≤ m.base)) → ⊥
  differs s e (inl h) = let w = All-contains (IsWithin m.base m.next) (spans_of m.drawn) s c.drawn_within h in let at : s.end ≡ m.next + count = ap (λ (x : Span). x.end) e in let top = w.2 in absurd (omega arith)
  differs s e (inr h) = let at : s.end ≡ m.next + count = ap (λ (x : Span). x.end) e in let low = c.base_next in absurd (omega arith)

pub draw_is_unspent : DrawIsUnspent
draw_is_unspent b next shown views v count m r some_count mir = record {
  before = v.entries;
  newest = refl;
  unspent = ap (λ (x : ℕ). has_span (span x (x + count)) m.spent) (sym mir.next_is) ∙ next_unspent m count (is_consistent m (reached_inv m r)) some_count;
}

-- the last spans of two passes differ
differ_last : (low high : ℕ) (ds : List Drawn) (p q : ℕ) (s t : Span) → Chain low ds high → p ≢ q → last_drawn p ds ≡ Some s → last_drawn q ds ≡ Some t → s ≢ t
differ_last low high [] p q s t h n e f g = absurd (no_span s e) where
  no_span : (x : Span) → None ≡ Some x → ⊥
  no_span x z = absurd (cc)
differ_last low high (d ∷ ds) p q s t h n e f g = by_last (last_drawn p ds) (last_drawn q ds) refl refl (λ x y is also z. differ_last d.span.end high ds p q x y h.2 n is also z) where
  same_some : (x y : Span) → Some x ≡ Some y → x ≡ y
  same_some x y z = cc

  of_pass : (number : ℕ) (b : Bool) (x : Span) → nat_eq d.pass number ≡ b → cond b (Some d.span) None ≡ Some x → (d.pass ≡ number) × (d.span ≡ x)
  of_pass number true x is z = (eqb-true d.pass number is, same_some d.span x z)
  of_pass number false x is z = absurd (cc)

  behind : (number : ℕ) (x : Span) → last_drawn number ds ≡ Some x → d.span ≡ x → ⊥
  behind number x is z = let w = has_within d.span.end high ds x h.2 (last_is_had number ds x is) in let low' = w.0 in let unit = h.1 in let at : d.span.start ≡ x.start = ap (λ (y : Span). y.start) z in absurd (omega arith)

  by_last : (o u : Option Span) → last_drawn p ds ≡ o → last_drawn q ds ≡ u → ((x y : Span) → last_drawn p ds ≡ Some x → last_drawn q ds ≡ Some y → x ≢ y) → ⊥
  by_last None None is also rest =
      let x = of_pass p (nat_eq d.pass p) s refl (rw is at e) in let y = of_pass q (nat_eq d.pass q) t refl (rw also at f) in n (sym x.0 ∙ y.0)
  by_last None (Some y) is also rest =
      let x = of_pass p (nat_eq d.pass p) s refl (rw is at e) in let z : y ≡ t = same_some y t (rw also at f) in behind q y also (x.1 ∙ g ∙ sym z)
  by_last (Some x) None is also rest =
      let y = of_pass q (nat_eq d.pass q) t refl (rw also at f) in let z : x ≡ s = same_some x s (rw is at e) in behind p x is (y.1 ∙ sym g ∙ sym z)
  by_last (Some x) (Some y) is also rest =
      let z : x ≡ s = same_some x s (rw is at e) in let z' : y ≡ t = same_some y t (rw also at f) in rest x y is also (z ∙ g ∙ sym z')

spent_push : (s t : Span) (xs : List Span) → has_span s xs ≡ false → t ≢ s → has_span s (xs ++ t ∷ []) ≡ false
spent_push s t [] h n = none_had s (t ∷ []) (λ k d l e. n (only k d l e)) where
  only : (k : ℕ) (d : Span) → k < 1 → get_or (t ∷ []) k d ≡ s → t ≡ s
  only zero d l e = e
  only (suc k) d l e = absurd (omega arith)
spent_push s t (x ∷ xs) h n = let p = or_parts (same_span x s) (has_span s xs) h in ap (λ (b : Bool). b || has_span s (xs ++ t ∷ [])) p.0 ∙ spent_push s t xs p.1 n

-- what a possible spend takes is the last span of its pass
spent_last : (m : Machine) (pass : ℕ) (s : Span) → is_possible m (Spend pass s) ≡ true → last_drawn pass m.drawn ≡ Some s
spent_last m pass s ok =
    let p = and_parts m.up _ ok in
    let o = open_parts (last_drawn pass m.drawn) m.spent (λ t. same_span t s && nat_le s.end m.shown) (and_parts (nat_lt pass m.passes) _ p.1).1 in
    let q = and_parts (same_span o.0 s) (nat_le s.end m.shown) o.3 in
    o.1 ∙ ap (λ (x : Span). Some x) (same_span-true o.0 s q.0)

stays : (pass : ℕ) (s : Span) (m : Machine) (e : Event) → IsReached m → last_drawn pass m.drawn ≡ Some s → has_span s m.spent ≡ false → is_possible m e ≡ true → IsNoSpendOf pass e → has_span s (after m e).spent ≡ false
stays pass s m Begin r is new ok n = new
stays pass s m (Draw other count) r is new ok n = new
stays pass s m (Look other) r is new ok n = new
stays pass s m (Put (Body other)) r is new ok n = new
stays pass s m (Put BodySync) r is new ok n = new
stays pass s m (Put Gate) r is new ok n = new
stays pass s m (Put GateSync) r is new ok n = new
stays pass s m Raise r is new ok n = new
stays pass s m (Spend other t) r is new ok n = spent_push s t m.spent new (differ_last m.base m.next m.drawn other pass t s (reached_inv m r).era.chain n (spent_last m other t ok) is)
stays pass s m (Claim t) r is new ok n = new
stays pass s m (Crash body gate) r is new ok n = new

pub stays_unspent : StaysUnspent
stays_unspent b next shown views seat v e event m r at pass mir u ok n = record {
  before = u.before;
  newest = u.newest;
  unspent = stays (own v).number (span_drawn e) m event r (newest_last b next shown views seat v e m at pass mir u) u.unspent ok n;
}

-- ---- puts

pub body_is_event : BodyIsEvent
body_is_event b next shown mark views seat v e m k at pass u high low none mir =
    let n : ℕ = (own v).number in
    let made : n < passes_made views = pass_made b next shown mark views k seat v at pass in
    let same = mir.passes in
    let see = mir.shown_is in
    let all = mir.total in
    let last = newest_last b next shown views seat v e m at pass mir u in (
      and_from m.up _ mir.up (and_from (nat_lt n m.passes) _ (lt-ltb n m.passes (omega arith)) (and_from (nat_eq m.stage 0) _ (eq-eqb m.stage 0 none) (opened (last_drawn n m.drawn) (span_drawn e) m.spent (λ s. nat_lt m.shown s.end && nat_le s.end m.total)
          last u.unspent (and_from (nat_lt m.shown (end_of e)) (nat_le (end_of e) m.total) (lt-ltb m.shown (end_of e) (omega arith)) (le-leb (end_of e) m.total (omega arith)))))),
      still b next shown views m (after m (Put (Body n))) mir refl refl refl refl refl refl refl refl,
      record { moments_are = refl; ceiling_is = ap (λ (o : Option Span). ceiling_for m.total (last_end o)) last ∙ ap (λ (x : ℕ). ceiling_for x (end_of e)) all; slots_are = refl },
    )

pub body_sync_is_event : BodySyncIsEvent
body_sync_is_event b next shown ceiling views slots m p mir = (
  and_from m.up (nat_eq m.stage 1) mir.up (eq-eqb m.stage 1 p.moments_are),
  still b next shown views m (after m (Put BodySync)) mir refl refl refl refl refl refl refl refl,
  record { moments_are = refl; ceiling_is = p.ceiling_is; slots_are = p.slots_are },
)

pub gate_is_event : GateIsEvent
gate_is_event b next shown ceiling views slots m p mir = (
  and_from m.up (nat_eq m.stage 2) mir.up (eq-eqb m.stage 2 p.moments_are),
  still b next shown views m (after m (Put Gate)) mir refl refl refl refl refl refl refl refl,
  record { moments_are = refl; ceiling_is = p.ceiling_is; slots_are = p.slots_are },
)

pub gate_sync_is_event : GateSyncIsEvent
gate_sync_is_event b next shown ceiling views slots m p mir = (
  and_from m.up (nat_eq m.stage 3) mir.up (eq-eqb m.stage 3 p.moments_are),
  still b next shown views m (after m (Put GateSync)) mir refl refl refl refl refl refl refl refl,
  (
    record { moments_are = refl; ceiling_is = p.ceiling_is; slots_are = ap (λ (xs : List ℕ). xs ++ m.ceiling ∷ []) p.slots_are ∙ ap (λ (c : ℕ). slots ++ c ∷ []) p.ceiling_is },
    last_of_push m.slots m.ceiling ∙ p.ceiling_is,
  ),
)

pub put_stays : PutStays
put_stays moments ceiling slots (Draw pass n) m h p = record { moments_are = p.moments_are; ceiling_is = p.ceiling_is; slots_are = p.slots_are }
put_stays moments ceiling slots (Look pass) m h p = record { moments_are = p.moments_are; ceiling_is = p.ceiling_is; slots_are = p.slots_are }
put_stays moments ceiling slots (Spend pass s) m h p = record { moments_are = p.moments_are; ceiling_is = p.ceiling_is; slots_are = p.slots_are }
put_stays moments ceiling slots (Claim s) m h p = record { moments_are = p.moments_are; ceiling_is = p.ceiling_is; slots_are = p.slots_are }
put_stays moments ceiling slots Begin m h p = absurd h
put_stays moments ceiling slots (Put moment) m h p = absurd h
put_stays moments ceiling slots Raise m h p = absurd h
put_stays moments ceiling slots (Crash body gate) m h p = absurd h

pub put_ends : PutEnds
put_ends moments ceiling slots m p = (record { moments_are = refl; ceiling_is = p.ceiling_is; slots_are = p.slots_are }, record { moments_are = refl; ceiling_is = p.ceiling_is; slots_are = p.slots_are })

-- ---- crashes

left_closed : (slots : List ℕ) (ceiling stage gate : ℕ) → (nat_eq stage 3 && nat_eq gate 90) ≡ false → last_of (cond (nat_eq stage 3 && nat_eq gate 90) (slots ++ ceiling ∷ []) slots) ≡ last_of slots
left_closed slots ceiling stage gate is = ap (λ (b : Bool). last_of (cond b (slots ++ ceiling ∷ []) slots)) is

other_stage : (stage gate : ℕ) → stage ≢ 3 → (nat_eq stage 3 && nat_eq gate 90) ≡ false
other_stage stage gate n = ap (λ (b : Bool). b && nat_eq gate 90) (ne_eqb stage 3 n)

pub crash_is_event : CrashIsEvent
crash_is_event b next shown views body gate m r mir =
    let c : IsConsistent m = is_consistent m (reached_inv m r) in
    let see = mir.shown_is in
    let on = reached_goes_on m (Crash body gate) r mir.up in
    let now : Machine = after m (Crash body gate) in
    let after_it : IsConsistent now = is_consistent now (reached_inv now on.0) in
    let top = after_it.shown_durable in (
      mir.up,
      record {
        down = refl;
        total = refl;
        passes = refl;
        spent = refl;
        claims = refl;
        unwritten = λ h. left_closed m.slots m.ceiling m.stage gate (other_stage m.stage gate (λ e. omega arith)) ∙ c.durable_before mir.up (omega arith) ∙ see;
        shut = λ at n. left_closed m.slots m.ceiling m.stage gate (ap (λ (x : Bool). x && nat_eq gate 90) (eq-eqb m.stage 3 at) ∙ ne_eqb gate 90 n) ∙ c.durable_before mir.up (omega arith) ∙ see;
        opened = λ at is. ap (λ (x : Bool). last_of (cond x (m.slots ++ m.ceiling ∷ []) m.slots)) (and_from (nat_eq m.stage 3) (nat_eq gate 90) (eq-eqb m.stage 3 at) (eq-eqb gate 90 is)) ∙ last_of_push m.slots m.ceiling;
        synced = λ at. left_closed m.slots m.ceiling m.stage gate (other_stage m.stage gate (λ e. omega arith)) ∙ c.durable_after at;
        above = omega arith;
        granted = on.1;
      },
    )
