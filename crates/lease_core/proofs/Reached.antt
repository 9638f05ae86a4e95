-- Machines that possible events lead to.
use Rattle.std.proofs.Common.{◌≡◌, ℕ, suc, ◌≤◌, inl, inr, ⊎_elim, Bool, true, false, List, [], ◌∷◌, ◌++◌, refl, sym, ap, ◌∙◌, subst, arith, All}
use Rattle.std.specs.List.{Contains}
use Rattle.std.proofs.lemmas.Bool.{and_parts, and_from}
use Rattle.std.proofs.lemmas.List.Elements.{All-nil, All-cons, All-weaker}
use Rattle.std.proofs.lemmas.List.Kept.{AllPairs-cons}
use Rattle.std.specs.Prelude.{Result, Ok, Err, IfOk, OnErr}
use Rattle.lease_core.specs.Spans.{IsApart, AreApart, IsWithin, EndBy}
use Rattle.lease_core.specs.Machine.{Machine, machine_at_first, durable, is_possible, after, after_all, are_possible}
use Rattle.lease_core.specs.Kept.{IsReached, IsTaken}
use Rattle.lease_core.specs.Consistent.{spans_of, IsConsistent, ReachedIsConsistent, ReachedGoesOn}
use Rattle.zk_model.specs.declared.Span.{Span}
use Rattle.lease_core.specs.declared.event.Drawn.{Drawn}
use Rattle.lease_core.specs.declared.event.Event.{Event}
use Rattle.lease_core.proofs.Drawns.{Chain, Has}
use Rattle.lease_core.proofs.Invariant.{Inv}
use Rattle.lease_core.proofs.Keeps.{ends_weaker, keeps_all, after_append, at_first, is_safe}

-- ---- spans drawn one after another

chain_le : (low high : ℕ) (ds : List Drawn) → Chain low ds high → low ≤ high
chain_le low high [] h = h
chain_le low high (d ∷ ds) h = let i = chain_le d.span.end high ds h.2 in omega arith

within_from : (low mid high : ℕ) (ds : List Drawn) → low ≤ mid → Chain mid ds high → All (IsWithin low high) (spans_of ds)
within_from low mid high [] l h = All-nil (IsWithin low high)
within_from low mid high (d ∷ ds) l h = let e = chain_le d.span.end high ds h.2 in
    All-cons (IsWithin low high) d.span (spans_of ds) (omega arith, h.1, e) (within_from low d.span.end high ds (omega arith) h.2)

chain_apart : (low high : ℕ) (ds : List Drawn) → Chain low ds high → AreApart (spans_of ds)
chain_apart low high [] h = λ i j d a b. absurd (omega arith)
chain_apart low high (d ∷ ds) h = AllPairs-cons IsApart d.span (spans_of ds)
    (All-weaker (IsWithin d.span.end high) (IsApart d.span) (λ t w. inl w.0) (spans_of ds) (within_from d.span.end d.span.end high ds (omega arith) h.2))
    (chain_apart d.span.end high ds h.2)

has_contains : (ds : List Drawn) (s : Span) → Has ds s → Contains (spans_of ds) s
has_contains [] s h = elim h [ ]
has_contains (d ∷ ds) s (inl e) = (0, omega arith, e)
has_contains (d ∷ ds) s (inr h) = let i = has_contains ds s h in let l = i.1 in (suc i.0, omega arith, i.2)

-- ---- what holds of a reached machine

pub is_consistent : (m : Machine) → Inv m → IsConsistent m
is_consistent m v = record {
  drawn_apart = chain_apart m.base m.next m.drawn v.era.chain;
  shown_durable = v.ceilings.low;
  durable_total = v.ceilings.within;
  moments = v.ceilings.last;
  no_put = v.ceilings.down;
  drawn_within = within_from m.base m.base m.next m.drawn (omega arith) v.era.chain;
  ceiling_above = v.ceilings.rises;
  ceiling_total = v.ceilings.fits;
  durable_before = v.ceilings.before;
  durable_after = v.ceilings.done;
  base_next = chain_le m.base m.next m.drawn v.era.chain;
  base_shown = v.era.based;
  drawn_passes = v.era.made;
  all_known = v.era.all_known;
  known_shown = v.era.fitting;
  spent_durable = ends_weaker m.shown (durable m) m.spent v.ceilings.low v.grants.ends;
  spent_apart = v.grants.apart;
  spent_units = v.grants.units;
  spent_shown = v.grants.ends;
  spent_drawn = λ k d l. ⊎_elim (λ h. inl (has_contains m.drawn _ h)) (λ x. inr x) (v.grants.from k d l);
  claims_apart = v.claimed.apart;
  claims_within = v.claimed.within;
}

pub reached_inv : (m : Machine) → IsReached m → Inv m
reached_inv m r = subst Inv (sym r.4) (keeps_all (machine_at_first r.0 r.1) r.2 (at_first r.0 r.1) r.3).0

pub reached_is_consistent : ReachedIsConsistent
reached_is_consistent m r = (is_consistent m (reached_inv m r), is_safe m (reached_inv m r))

pub append_possible : (m : Machine) (es more : List Event) → are_possible m es ≡ true → are_possible (after_all m es) more ≡ true → are_possible m (es ++ more) ≡ true
append_possible m [] more p q = q
append_possible m (e ∷ es) more p q = let r = and_parts (is_possible m e) (are_possible (after m e) es) p in and_from (is_possible m e) (are_possible (after m e) (es ++ more)) r.0 (append_possible (after m e) es more r.1 q)

-- more events from a reached machine on
pub reached_all : (m : Machine) (es : List Event) → IsReached m → are_possible m es ≡ true → IsReached (after_all m es)
reached_all m es r ok =
    let first : Machine = machine_at_first r.0 r.1 in
    let next : are_possible (after_all first r.2) es ≡ true = subst (λ (n : Machine). are_possible n es ≡ true) r.4 ok in
    (r.0, r.1, r.2 ++ es, append_possible first r.2 es r.3 next, ap (λ (n : Machine). after_all n es) r.4 ∙ sym (after_append first r.2 es))

pub ends_later : (m : Machine) (es : List Event) → IsReached m → are_possible m es ≡ true → EndBy (durable (after_all m es)) m.spent
ends_later m es r ok =
    let v = reached_inv m r in
    ends_weaker (durable m) (durable (after_all m es)) m.spent (keeps_all m es v ok).1 (is_safe m v).durable

pub reached_goes_on : ReachedGoesOn
reached_goes_on m e r ok = let one : are_possible m (e ∷ []) ≡ true = and_from (is_possible m e) true ok refl in
    (reached_all m (e ∷ []) r one, ends_later m (e ∷ []) r one)

pub reached_first : (total passes : ℕ) → IsReached (machine_at_first total passes)
reached_first total passes = (total, passes, [], refl, refl)

-- ---- whatever a step answers, the machine is reached

step_reached : (m now : Machine) (e : Event) (b : Bool) → IsTaken m e b now → IsReached m → IsReached now
step_reached m now e true t r = subst IsReached (sym t.1) (reached_goes_on m e r t.0).0
step_reached m now e false t r = subst IsReached (sym t.1) r

pub answered_reached : {E : Type 0} → (m now : Machine) (e : Event) (r : Result Bool E) → IfOk r (λ b. IsTaken m e b now) → OnErr r (now ≡ m) → IsReached m → IsReached now
answered_reached m now e (Ok b) t u h = step_reached m now e b t h
answered_reached m now e (Err x) t u h = subst IsReached (sym u) h

step_later : (m now : Machine) (e : Event) (b : Bool) → IsTaken m e b now → IsReached m → EndBy (durable now) m.spent
step_later m now e true t r = subst (λ (n : Machine). EndBy (durable n) m.spent) (sym t.1) (reached_goes_on m e r t.0).1
step_later m now e false t r = subst (λ (n : Machine). EndBy (durable n) m.spent) (sym t.1) (is_safe m (reached_inv m r)).durable

pub answered_later : {E : Type 0} → (m now : Machine) (e : Event) (r : Result Bool E) → IfOk r (λ b. IsTaken m e b now) → OnErr r (now ≡ m) → IsReached m → EndBy (durable now) m.spent
answered_later m now e (Ok b) t u h = step_later m now e b t h
answered_later m now e (Err x) t u h = subst (λ (n : Machine). EndBy (durable n) m.spent) (sym u) (is_safe m (reached_inv m h)).durable
