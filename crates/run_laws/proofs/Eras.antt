-- An era of the lease machine in which one pass draws, and is granted what it asks for.
use Rattle.std.proofs.Common.{◌≡◌, ◌⊎◌, inl, inr, ℕ, zero, suc, ◌+◌, ◌<◌, ◌≤◌, Bool, true, false, ◌&&◌, List, [], ◌∷◌, ◌++◌, refl, sym, ap, ◌∙◌, subst, arith, Some, nat_eq, nat_lt, nat_le}
use Rattle.std.specs.Prelude.{◌-◌, ◌%◌}
use Rattle.std.proofs.lemmas.Bool.Decides.{nat_tests}
use Rattle.std.proofs.lemmas.Bool.{false≢true, and_from, cases_lt, eq-eqb, le-leb, lt-ltb, not_from_false, or_from, or_parts}
use Rattle.zk_model.specs.declared.Span.{Span}
use Rattle.lease_core.specs.Spans.{has_span, same_span, span}
use Rattle.lease_core.specs.Kept.{IsReached}
use Rattle.lease_core.specs.Machine.{Machine, after, after_all, are_possible, ceiling_for, is_passed, is_possible, last_drawn, last_end}
use Rattle.lease_core.specs.declared.event.Drawn.{Drawn}
use Rattle.lease_core.specs.declared.event.Event.{Event}
use Rattle.lease_core.specs.declared.event.Event.TheVariants.{Draw, Put, Raise, Spend}
use Rattle.lease_core.specs.declared.event.Moment.TheVariants.{Body, BodySync, Gate, GateSync}
use Rattle.lease_core.proofs.Codes.{last_drawn_push}
use Rattle.lease_core.proofs.Keeps.{after_append}
use Rattle.lease_core.proofs.Reached.{append_possible, is_consistent, reached_all, reached_goes_on, reached_inv}
use Rattle.lease_words.proofs.Storing.{next_unspent, opened, same_self}
use Rattle.run_laws.specs.MachineRuns.{EventsLead}

-- ---- events one after another

pub then : {P Q : Machine → Type 0} (m : Machine) → EventsLead m P → ((n : Machine) → P n → EventsLead n Q) → EventsLead m Q
then {P} {Q} m one next =
    let now : Machine = after_all m one.events in
    let two = next now one.led in
    record {
      events = one.events ++ two.events;
      possible = append_possible m one.events two.events one.possible two.possible;
      led = subst Q (sym (after_append m one.events two.events)) two.led;
    }

pub at_once : {P : Machine → Type 0} (m : Machine) → P m → EventsLead m P
at_once m p = record { events = []; possible = refl; led = p }

pub by_event : {P : Machine → Type 0} (m : Machine) (e : Event) → is_possible m e ≡ true → P (after m e) → EventsLead m P
by_event m e may p = record { events = e ∷ []; possible = and_from (is_possible m e) true may refl; led = p }

goes_on : (m : Machine) (e : Event) → IsReached m → is_possible m e ≡ true → IsReached (after m e)
goes_on m e reached may = (reached_goes_on m e reached may).0

-- ---- what holds between two grants

-- the store is up, no put is under way, and the only pass that draws has not drawn past the total
pub record Serves (total : ℕ) (spent : List Span) (next shown : ℕ) (m : Machine) : Type 0 where
  pub reached : IsReached m
  pub up : m.up ≡ true
  pub has_pass : 0 < m.passes
  pub total_is : m.total ≡ total
  pub stage_is : m.stage ≡ 0
  pub next_is : m.next ≡ next
  pub shown_is : m.shown ≡ shown
  pub spent_is : m.spent ≡ spent
  pub free : is_passed m.total 0 m.drawn ≡ false

-- and this is what it drew last, which is not granted yet
pub record Drew (total : ℕ) (spent : List Span) (s : Span) (shown : ℕ) (m : Machine) : Type 0 where
  pub serves : Serves total spent s.end shown m
  pub last : last_drawn 0 m.drawn ≡ Some s
  pub unspent : has_span s m.spent ≡ false

-- ---- a draw

still_free : (total end : ℕ) (drawn : List Drawn) (d : Drawn) → d.span.end ≡ end → end ≤ total → is_passed total 0 drawn ≡ false
    → is_passed total 0 (drawn ++ d ∷ []) ≡ false
still_free total end [] d is within free = or_from (nat_eq d.pass 0 && nat_lt total d.span.end) false (low (nat_eq d.pass 0)) refl where
  low : (b : Bool) → (b && nat_lt total d.span.end) ≡ false
  low b = grind (arith, nat_tests)
still_free total end (x ∷ drawn) d is within free =
    let parts = or_parts (nat_eq x.pass 0 && nat_lt total x.span.end) (is_passed total 0 drawn) free in
    or_from (nat_eq x.pass 0 && nat_lt total x.span.end) (is_passed total 0 (drawn ++ d ∷ [])) parts.0
    (still_free total end drawn d is within parts.1)

draw : (total : ℕ) (spent : List Span) (next shown n : ℕ) (m : Machine) → Serves total spent next shown m → 0 < n → n ≤ 4096
    → next + n ≤ total → EventsLead m (Drew total spent (span next (next + n)) shown)
draw total spent next shown n m s some few within = by_event m (Draw 0 n) may (record {
  serves = record {
    reached = goes_on m (Draw 0 n) s.reached may;
    up = s.up;
    has_pass = s.has_pass;
    total_is = s.total_is;
    stage_is = s.stage_is;
    next_is = ap (λ (at : ℕ). at + n) s.next_is;
    shown_is = s.shown_is;
    spent_is = s.spent_is;
    free = let at = s.next_is in let all = s.total_is in
        still_free m.total (m.next + n) m.drawn (record { pass = 0; span = span m.next (m.next + n) }) refl (omega (arith, at, all, within)) s.free;
  };
  last = last_drawn_push 0 m.drawn (record { pass = 0; span = span m.next (m.next + n) }) ∙ ap (λ (at : ℕ). Some (span at (at + n))) s.next_is;
  unspent = ap (λ (at : ℕ). has_span (span at (at + n)) m.spent) (sym s.next_is)
      ∙ next_unspent m n (is_consistent m (reached_inv m s.reached)) some;
}) where
  may : is_possible m (Draw 0 n) ≡ true
  may = and_from m.up _ s.up (and_from (nat_lt 0 m.passes) _ (lt-ltb 0 m.passes s.has_pass)
      (and_from (nat_le 1 n && nat_le n 4096) _ (and_from (nat_le 1 n) (nat_le n 4096) (le-leb 1 n some) (le-leb n 4096 few))
      (not_from_false (is_passed m.total 0 m.drawn) s.free)))

-- ---- a put, and the raise after it

-- the ceiling for a span that was drawn comes to be shown
pub raise : (total : ℕ) (spent : List Span) (s : Span) (shown : ℕ) (m : Machine) → Drew total spent s shown m → shown < s.end → s.end ≤ total
    → EventsLead m (Drew total spent s (ceiling_for total s.end))
raise total spent s shown m d above within = record {
  events = events;
  possible = may;
  led = record {
    serves = record {
      reached = reached_all m events d.serves.reached may;
      up = d.serves.up;
      has_pass = d.serves.has_pass;
      total_is = d.serves.total_is;
      stage_is = refl;
      next_is = d.serves.next_is;
      shown_is = ap (λ (p : ℕ × ℕ). ceiling_for p.0 p.1) (λ i. (d.serves.total_is i, ap last_end d.last i));
      spent_is = d.serves.spent_is;
      free = d.serves.free;
    };
    last = d.last;
    unspent = d.unspent;
  };
} where
  events : List Event
  events = Put (Body 0) ∷ Put BodySync ∷ Put Gate ∷ Put GateSync ∷ Raise ∷ []

  begins : is_possible m (Put (Body 0)) ≡ true
  begins = let at = d.serves.shown_is in let all = d.serves.total_is in
      and_from m.up _ d.serves.up (and_from (nat_lt 0 m.passes) _ (lt-ltb 0 m.passes d.serves.has_pass)
      (and_from (nat_eq m.stage 0) _ (eq-eqb m.stage 0 d.serves.stage_is)
      (opened (last_drawn 0 m.drawn) s m.spent (λ t. nat_lt m.shown t.end && nat_le t.end m.total) d.last d.unspent
      (and_from (nat_lt m.shown s.end) (nat_le s.end m.total) (lt-ltb m.shown s.end (omega (arith, at, above)))
      (le-leb s.end m.total (omega (arith, all, within)))))))

  goes : (up : Bool) → up ≡ true → ((up && true) && ((up && true) && ((up && true) && ((up && true) && true)))) ≡ true
  goes true is = refl
  goes false is = absurd (false≢true is)

  may : are_possible m events ≡ true
  may = and_from (is_possible m (Put (Body 0))) _ begins (goes m.up d.serves.up)

-- ---- a grant

spend : (total : ℕ) (spent : List Span) (s : Span) (shown : ℕ) (m : Machine) → Drew total spent s shown m → s.end ≤ shown
    → EventsLead m (Serves total (spent ++ s ∷ []) s.end shown)
spend total spent s shown m d below = by_event m (Spend 0 s) may (record {
  up = d.serves.up;
  has_pass = d.serves.has_pass;
  total_is = d.serves.total_is;
  reached = goes_on m (Spend 0 s) d.serves.reached may;
  stage_is = d.serves.stage_is;
  next_is = d.serves.next_is;
  shown_is = d.serves.shown_is;
  spent_is = ap (λ (spans : List Span). spans ++ s ∷ []) d.serves.spent_is;
  free = d.serves.free;
}) where
  may : is_possible m (Spend 0 s) ≡ true
  may = let at = d.serves.shown_is in
      and_from m.up _ d.serves.up (and_from (nat_lt 0 m.passes) _ (lt-ltb 0 m.passes d.serves.has_pass)
      (opened (last_drawn 0 m.drawn) s m.spent (λ t. same_span t s && nat_le s.end m.shown) d.last d.unspent
      (and_from (same_span s s) (nat_le s.end m.shown) (same_self s) (le-leb s.end m.shown (omega (arith, at, below))))))

-- ---- what is burnt

pub burn : (total : ℕ) (spent : List Span) (next shown count : ℕ) (m : Machine) → Serves total spent next shown m → next + count ≤ total
    → EventsLead m (Serves total spent (next + count) shown)
burn total spent next shown zero m s within = at_once m (subst (λ (n : ℕ). Serves total spent n shown m) (omega arith) s)
burn total spent next shown (suc count) m s within =
    then m (draw total spent next shown 1 m s (omega arith) (omega arith) (omega (arith, within))) (λ n d.
    then n (burn total spent (next + 1) shown count n d.serves (omega (arith, within))) (λ l t.
    at_once l (subst (λ (at : ℕ). Serves total spent at shown l) (omega arith) t)))

-- ---- to a ceiling of a journal

-- a ceiling that a journal may say: the total, or a multiple of 16 that is less
pub record IsCeiling (total ceiling : ℕ) : Type 0 where
  pub within : ceiling ≤ total
  pub round : (ceiling % 16 ≡ 0) ⊎ (ceiling ≡ total)

-- the ceiling for units below it is no higher
ceiling_below : (total end ceiling : ℕ) → IsCeiling total ceiling → end ≤ ceiling → ceiling_for total end ≤ ceiling
ceiling_below total end ceiling is below = by_round is.round where
  by_round : ((ceiling % 16 ≡ 0) ⊎ (ceiling ≡ total)) → ceiling_for total end ≤ ceiling
  by_round (inl sixteens) = omega (arith, sixteens, below)
  by_round (inr all) = omega (arith, all)

ceiling_above : (total end : ℕ) → end ≤ total → end ≤ ceiling_for total end
ceiling_above total end within = omega (arith, within)

-- a machine serves, and shows a ceiling from these units up to this one
pub record ServesBelow (total : ℕ) (spent : List Span) (next ceiling : ℕ) (m : Machine) : Type 0 where
  pub shown : ℕ
  pub serves : Serves total spent next shown m
  pub low : next ≤ shown
  pub high : shown ≤ ceiling

-- a span after all that was drawn is granted
pub grant : (total : ℕ) (spent : List Span) (next ceiling : ℕ) (s : Span) (m : Machine) → IsCeiling total ceiling
    → ServesBelow total spent next ceiling m → next ≤ s.start → s.start < s.end → s.end ≤ s.start + 4096 → s.end ≤ ceiling
    → EventsLead m (ServesBelow total (spent ++ s ∷ []) s.end ceiling)
grant total spent next ceiling s m is below after_it some few within =
    let all = is.within in
    then m (burn total spent next below.shown (s.start - next) m below.serves (omega (arith, all, after_it, some, within))) (λ n at.
    let there : Serves total spent s.start below.shown n =
    subst (λ (place : ℕ). Serves total spent place below.shown n) (omega (arith, after_it)) at in
    then n (draw total spent s.start below.shown (s.end - s.start) n there (omega (arith, some)) (omega (arith, few)) (omega (arith, all, some, within)))
    (λ l drew. let of_s : Drew total spent s below.shown l = subst (λ (end : ℕ). Drew total spent (span s.start end) below.shown l)
    (omega (arith, some)) drew in granted l of_s (cases_lt below.shown s.end)))
  where
    granted : (l : Machine) → Drew total spent s below.shown l → (below.shown < s.end) ⊎ (s.end ≤ below.shown)
        → EventsLead l (ServesBelow total (spent ++ s ∷ []) s.end ceiling)
    granted l drew (inr shows) = then l (spend total spent s below.shown l drew shows) (λ k serves. at_once k (record {
      shown = below.shown;
      serves = serves;
      low = shows;
      high = below.high;
    }))
    granted l drew (inl above) = let all = is.within in
        let up_to : s.end ≤ total = omega (arith, all, within) in
        then l (raise total spent s below.shown l drew above up_to) (λ k raised.
        then k (spend total spent s (ceiling_for total s.end) k raised (ceiling_above total s.end up_to)) (λ j serves. at_once j (record {
          shown = ceiling_for total s.end;
          serves = serves;
          low = ceiling_above total s.end up_to;
          high = ceiling_below total s.end ceiling is within;
        })))

-- a ceiling comes to be shown, whatever was drawn below it
pub raise_to : (total : ℕ) (spent : List Span) (next ceiling : ℕ) (m : Machine) → IsCeiling total ceiling
    → ServesBelow total spent next ceiling m → EventsLead m (ServesBelow total spent ceiling ceiling)
raise_to total spent next ceiling m is below = raised (cases_lt below.shown ceiling) where
  raised : (below.shown < ceiling) ⊎ (ceiling ≤ below.shown) → EventsLead m (ServesBelow total spent ceiling ceiling)
  raised (inr shows) = let low = below.low in let high = below.high in let all = is.within in
      then m (burn total spent next below.shown (ceiling - next) m below.serves (omega (arith, low, high, all))) (λ n at. at_once n (record {
        shown = below.shown;
        serves = subst (λ (place : ℕ). Serves total spent place below.shown n) (omega (arith, low, high)) at;
        low = shows;
        high = high;
      }))
  raised (inl above) = let low = below.low in let all = is.within in
      then m (burn total spent next below.shown ((ceiling - 1) - next) m below.serves (omega (arith, low, above, all))) (λ n at.
      let there : Serves total spent (ceiling - 1) below.shown n =
      subst (λ (place : ℕ). Serves total spent place below.shown n) (omega (arith, low, above)) at in
      then n (draw total spent (ceiling - 1) below.shown 1 n there (omega arith) (omega arith) (omega (arith, above, all))) (λ l drew.
      let one : Drew total spent (span (ceiling - 1) ceiling) below.shown l =
      subst (λ (end : ℕ). Drew total spent (span (ceiling - 1) end) below.shown l) (omega (arith, above)) drew in
      then l (raise total spent (span (ceiling - 1) ceiling) below.shown l one above all) (λ k done. at_once k (record {
        shown = ceiling_for total ceiling;
        serves = done.serves;
        low = ceiling_above total ceiling all;
        high = ceiling_below total ceiling ceiling is (omega arith);
      }))))
