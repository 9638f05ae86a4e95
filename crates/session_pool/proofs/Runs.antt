-- What the notes of a whole run say.
use Rattle.std.proofs.Common.{◌≡◌, ◌∙◌, ℕ, suc, ◌+◌, ◌-◌, ◌<◌, ◌≤◌, max, ◌⊎◌, inl, inr, ⊎_elim, List, [], ◌∷◌, length, get_or, refl, ap, subst, arith, All, Option, None, Some, IfSome}
use Rattle.std.specs.List.{AllPairs, sum_by}
use Rattle.std.proofs.lemmas.List.Sums.{sum_by-cons, get_or-le-sum_by}
use Rattle.std.proofs.lemmas.Bool.{cases_lt}
use Rattle.std.proofs.lemmas.Bool.Decides.{nat_tests}
use Rattle.zk_model.specs.declared.Span.{Span}
use Rattle.zk_port.specs.Disks.{DiskState}
use Rattle.lease_core.specs.Machine.{ceiling_for}
use Rattle.lease_words.specs.Views.{end_of, inside, times_drawn, units_drawn}
use Rattle.lease_words.specs.Calls.{known_of, greatest_end, all_entries, all_met_by, AreEntriesApart}
use Rattle.lease_words.specs.declared.pass.Pass.{Pass}
use Rattle.lease_words.specs.declared.view.Entry.{Entry}
use Rattle.lease_words.proofs.Whole.{two_le, at_most_one, within}
use Rattle.lease_store.specs.Leases.{IsClosed}
use Rattle.lease_store.specs.declared.grantor.GrantFault.{GrantFault}
use Rattle.lease_store.specs.declared.LeaseFault.TheVariants as lease
use Rattle.lease_store.specs.declared.grantor.GrantFault.TheVariants as grant
use Rattle.session_pool.specs.Notes.{AreGrantsApart, IsBetween, IsRefusedBy, IsRefusedAmong, IsLeft, IsUnused, faults_met}
use Rattle.session_pool.specs.Works.{counts_unit, IsUpTo, IsReachedBy, IsPoolReached, AllowsMark, IsWork, most_known}
use Rattle.session_pool.proofs.Works.{if_weaker}

covers : (low high unit : ℕ) → low ≤ unit → unit < high → inside low high unit ≡ 1
covers low high unit a b = grind (arith, nat_tests)

misses : (low high unit : ℕ) → (high ≤ unit) ⊎ (unit < low) → inside low high unit ≡ 0
misses low high unit h = grind (arith, nat_tests)

-- ---- no unit twice

none_else : (es : List Entry) (low high unit : ℕ) → low ≤ unit → unit < high
    → ((k : ℕ) (d : Entry) → k < length es → (high ≤ (get_or es k d).start) ⊎ (end_of (get_or es k d) ≤ low)) → times_drawn unit es ≡ 0
none_else [] low high unit a b h = omega arith
none_else (e ∷ es) low high unit a b h =
    let here : inside e.start (end_of e) unit ≡ 0 = misses e.start (end_of e) unit (⊎_elim (λ (x : high ≤ e.start). inr (omega arith)) (λ (x : end_of e ≤ low). inl (omega arith)) (h 0 e (omega arith))) in
    let i = none_else es low high unit a b (λ k d l. h (suc k) d (omega arith)) in
    omega (arith, sum_by-cons (λ (z : Entry). inside z.start (end_of z) unit) e es, here, i)

pub apart_once : (unit : ℕ) (es : List Entry) → AllPairs AreEntriesApart es → times_drawn unit es ≤ 1
apart_once unit [] h = omega arith
apart_once unit (e ∷ es) h =
    let split = sum_by-cons (λ (z : Entry). inside z.start (end_of z) unit) e es in
    let one = at_most_one e.start (end_of e) unit in
    let i = apart_once unit es (λ j k d a b. h (suc j) (suc k) d (omega arith) (omega arith)) in
    ⊎_elim (λ (x : 0 < inside e.start (end_of e) unit).
    let w = within e.start (end_of e) unit x in
    let rest = none_else es e.start (end_of e) unit w.0 w.1 (λ k d l. h 0 (suc k) d (omega arith) (omega arith)) in omega (arith, split, one, rest))
    (λ (x : inside e.start (end_of e) unit ≤ 0). omega (arith, split, i, x))
    (cases_lt 0 (inside e.start (end_of e) unit))

apart_two : (units others total known : ℕ) (a b : Option Span) → IsUpTo units total known a → IsUpTo others total known b
    → ((unit : ℕ) → counts_unit a unit + counts_unit b unit ≤ 1) → AreGrantsApart a b
apart_two units others total known None b u v once = tt
apart_two units others total known (Some s) None u v once = tt
apart_two units others total known (Some s) (Some t) u v once = ⊎_elim
    (λ (x : t.start < s.end). ⊎_elim
    (λ (y : s.start < t.end).
    let unit : ℕ = max s.start t.start in
    let a = covers s.start s.end unit (omega arith) (omega (arith, x, u.0)) in
    let b = covers t.start t.end unit (omega arith) (omega (arith, y, v.0)) in
    let o = once unit in absurd (omega (arith, a, b, o)))
    (λ (y : t.end ≤ s.start). inr y) (cases_lt s.start t.end))
    (λ (x : s.end ≤ t.start). inl x) (cases_lt t.start s.end)

drawn_above : (base unit : ℕ) (es : List Entry) → All (λ e. base ≤ e.start) es → 0 < times_drawn unit es → base ≤ unit
drawn_above base unit [] h some = absurd (omega (arith, some))
drawn_above base unit (e ∷ es) h some = ⊎_elim
    (λ (x : 0 < inside e.start (end_of e) unit). let w = within e.start (end_of e) unit x in let a = h 0 e (omega arith) in omega (arith, w.0, a))
    (λ (x : inside e.start (end_of e) unit ≤ 0). drawn_above base unit es (λ k d l. h (suc k) d (omega arith)) (omega (arith, sum_by-cons (λ (z : Entry). inside z.start (end_of z) unit) e es, x, some)))
    (cases_lt 0 (inside e.start (end_of e) unit))

between : (units total base known ceiling : ℕ) (es : List Entry) (a : Option Span) → All (λ e. base ≤ e.start) es → known ≤ ceiling → IsUpTo units total known a
    → ((unit : ℕ) → counts_unit a unit ≤ times_drawn unit es) → IsBetween units base ceiling a
between units total base known ceiling es None above low u once = tt
between units total base known ceiling es (Some s) above low u once =
    let c = covers s.start s.end s.start (omega arith) u.0 in let o = once s.start in
    (drawn_above base s.start es above (omega (arith, c, o)), u.1, omega (arith, u.2, low))

inside_total : (units total known : ℕ) (a : Option Span) → IsUpTo units total known a → IfSome a (λ span. span.end ≤ total)
inside_total units total known None u = tt
inside_total units total known (Some s) u = u.3

-- ---- what all passes know

known_low : (ceiling : ℕ) (ps : List Pass) → All (λ p. known_of p ≤ ceiling) ps → most_known ps ≤ ceiling
known_low ceiling [] h = omega arith
known_low ceiling (p ∷ ps) h = let a = h 0 p (omega arith) in let i = known_low ceiling ps (λ k d l. h (suc k) d (omega arith)) in omega (arith, a, i)

-- ---- where units are refused

greatest_base : (base : ℕ) (es : List Entry) → greatest_end 0 es ≤ greatest_end base es
greatest_base base [] = omega arith
greatest_base base (e ∷ es) = let i = greatest_base base es in omega (arith, i)

refused_by : (units own total reach drawn taken base : ℕ) (fault : GrantFault) → reach ≤ base + drawn → drawn ≤ taken
    → IsReachedBy units own total reach drawn taken fault → IsRefusedBy units total (base + (taken - max units own)) (Some fault)
refused_by units own total reach drawn taken base (grant.Lease (lease.Exhausted at count all)) low few r =
    let ends = r.0 in let last = r.4 in (omega (arith, low, few, ends, last), r.1, r.2, r.3)
refused_by units own total reach drawn taken base (grant.Lease lease.Device) low few r = tt
refused_by units own total reach drawn taken base (grant.Lease (lease.Broken first)) low few r = tt
refused_by units own total reach drawn taken base grant.NoMemory low few r = r
refused_by units own total reach drawn taken base (grant.NoBlock wants) low few r = r
refused_by units own total reach drawn taken base grant.Broker low few r = r

refused_among : {M : Type 0} (size : M → ℕ) (base total : ℕ) (entries : List Entry) (notes : List M) (m : M) (fault : GrantFault)
    → greatest_end 0 entries ≤ base + units_drawn entries → units_drawn entries ≤ sum_by size notes
    → IsPoolReached size total entries notes (size m) fault → IsRefusedAmong size base total notes m fault
refused_among size base total entries notes m fault low few r = record {
  drawer = r.drawer;
  among = r.among;
  least = r.least;
  most = r.most;
  refused = refused_by (size r.drawer) (size m) total (greatest_end 0 entries) (units_drawn entries) (sum_by size notes) base fault low few r.reached;
}

-- ---- how far the ceiling was raised

most_of : (base total ceiling drawn taken : ℕ) → drawn ≤ taken → ceiling ≤ max base (ceiling_for total (base + drawn)) → ceiling ≤ max base (ceiling_for total (base + taken))
most_of base total ceiling drawn taken few most = omega arith

none_drawn : (ps : List Pass) → All IsUnused ps → all_entries ps ≡ []
none_drawn [] h = refl
none_drawn (p ∷ ps) h = let here = (h 0 p (omega arith)).1 in let rest = none_drawn ps (λ k d l. h (suc k) d (omega arith)) in rw (here, rest)

-- ---- the store, by another name of its first unit

module _ (start disk : DiskState) (id : List ℕ) (total : ℕ) (ps : List Pass) where
  pub same_closed : (base first : ℕ) → base ≡ first → IsClosed start disk id base total ps → IsClosed start disk id first total ps
  same_closed base first is closed = subst (λ (x : ℕ). IsClosed start disk id x total ps) is closed

  pub none_left : {M : Type 0} (fresh : Type 0) → (fresh → All IsUnused ps) → (size : M → ℕ) (granted : M → Option Span) (refused : M → Option GrantFault) (first notes : List M) (base workers : ℕ) → first ≡ [] → notes ≡ first
      → length ps ≡ workers → IsClosed start disk id base total ps → IsLeft fresh start disk id base total workers size granted refused notes
  none_left {M} fresh unused size granted refused first notes base workers none same count closed =
      let empty : length notes ≡ 0 = ap (length {A = M}) same ∙ ap (length {A = M}) none in record {
        passes = ps;
        closed = closed;
        spans = λ k d l. absurd (omega (arith, l, empty));
        within = λ k d l. absurd (omega (arith, l, empty));
        marked = λ k d l. absurd (omega (arith, l, empty));
        told = λ k d l. absurd (omega (arith, l, empty));
        once = let zero_met : faults_met refused notes ≡ 0 = ap (faults_met refused) same ∙ ap (faults_met refused) none in omega (arith, zero_met);
        most = λ f. let all = closed.most in let undrawn : units_drawn (all_entries ps) ≡ 0 = (let e = none_drawn ps (unused f) in ap units_drawn e) in
            most_of base total closed.ceiling (units_drawn (all_entries ps)) (sum_by size notes) (omega (arith, undrawn)) all;
        count = count;
      }

-- ---- all of it

pub record IsRun {M : Type 0} (granted : M → Option Span) (refused : M → Option GrantFault) (fresh : Type 0) (size : M → ℕ) (notes : List M)
    (start disk : DiskState) (id : List ℕ) (base total workers : ℕ) : Type 0 where
  pub apart : AllPairs (λ m n. AreGrantsApart (granted m) (granted n)) notes
  pub left : IsLeft fresh start disk id base total workers size granted refused notes
  pub refusals : fresh → All (λ m. IfSome (refused m) (IsRefusedAmong size base total notes m)) notes

module _ {M : Type 0} (granted : M → Option Span) (refused : M → Option GrantFault) (is_note : M → Type 0) (fresh : Type 0) (size : M → ℕ) (notes : List M) (ps : List Pass)
    (start disk : DiskState) (id : List ℕ) (base total workers : ℕ) (count : length ps ≡ workers)
    (w : IsWork granted refused is_note fresh size total (all_entries ps) (most_known ps) (λ mark. All (λ p. AllowsMark p mark) ps) notes) (few : faults_met refused notes ≤ all_met_by ps) (closed : IsClosed start disk id base total ps) where
  all_apart : AllPairs (λ m n. AreGrantsApart (granted m) (granted n)) notes
  all_apart i j d h l =
      apart_two (size (get_or notes i d)) (size (get_or notes j d)) total (most_known ps) (granted (get_or notes i d)) (granted (get_or notes j d)) (w.upto i d (omega (arith, h, l))) (w.upto j d l)
      (λ unit. let two = two_le (λ (m : M). counts_unit (granted m) unit) notes i j d h l in let a = w.once unit in let b = apart_once unit (all_entries ps) closed.gathered.apart in omega (arith, two, a, b))

  all_left : IsLeft fresh start disk id base total workers size granted refused notes
  all_left = record {
    passes = ps;
    closed = closed;
    spans = λ k d l. between (size (get_or notes k d)) total base (most_known ps) closed.ceiling (all_entries ps) (granted (get_or notes k d)) closed.gathered.above (known_low closed.ceiling ps closed.gathered.known) (w.upto k d l)
        (λ unit. let a = get_or-le-sum_by (λ (m : M). counts_unit (granted m) unit) notes k d l in let b = w.once unit in omega (arith, a, b));
    within = λ k d l. inside_total (size (get_or notes k d)) total (most_known ps) (granted (get_or notes k d)) (w.upto k d l);
    marked = λ k d l. (w.marked closed.mark closed.gathered.marks k d l).0;
    told = λ k d l. (w.marked closed.mark closed.gathered.marks k d l).1;
    once = let a = closed.once in omega (arith, few, a);
    most = λ f. most_of base total closed.ceiling (units_drawn (all_entries ps)) (sum_by size notes) (w.drawn f) closed.most;
    count = count;
  }

  all_refused : fresh → All (λ m. IfSome (refused m) (IsRefusedAmong size base total notes m)) notes
  all_refused f k d l =
      let a = greatest_base base (all_entries ps) in let b = closed.gathered.tile in
      if_weaker (IsPoolReached size total (all_entries ps) notes (size (get_or notes k d))) (IsRefusedAmong size base total notes (get_or notes k d))
      (λ fault. refused_among size base total (all_entries ps) notes (get_or notes k d) fault (omega (arith, a, b)) (w.drawn f))
      (refused (get_or notes k d)) (w.reached f k d l)

  -- all of that together
  pub is_run : IsRun granted refused fresh size notes start disk id base total workers
  is_run = record { apart = all_apart; left = all_left; refusals = all_refused }
