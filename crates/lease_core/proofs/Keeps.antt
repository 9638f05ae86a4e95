-- Each possible event keeps what holds of a machine.
use Rattle.std.proofs.Common.{◌≡◌, ℕ, ◌+◌, ◌<◌, ◌≤◌, ◌⊎◌, inl, inr, ⊎_elim, Bool, true, false, not, cond, ◌&&◌, List, [], ◌∷◌, ◌++◌, length, get_or, replicate, refl, sym, ap, ◌∙◌, subst, arith, nat_eq, nat_lt, nat_le}
use Rattle.std.proofs.lemmas.Bool.{true≢false, and_parts, and_from, not-true, eqb-true, ltb-true, leb-true}
use Rattle.std.proofs.lemmas.List.{length-set, length-replicate}
use Rattle.std.proofs.lemmas.List.Elements.{All-nil, All-push, All-set, All-replicate}
use Rattle.std.proofs.lemmas.List.Quantifiers.{all_pairs_push}
use Rattle.lease_core.specs.Spans.{span, same_span, has_span, meets_any, IsApart, IsWithin, EndBy}
use Rattle.lease_core.specs.Machine.{Machine, machine_at_first, last_of, durable, last_drawn, last_end, ceiling_for, is_passed, is_possible, may_put, after, after_all, are_possible}
use Rattle.lease_core.specs.Kept.{LeasesAreSafe, IsSafe}
use Rattle.zk_model.specs.declared.Span.{Span}
use Rattle.lease_core.specs.declared.event.Moment.{Moment}
use Rattle.lease_core.specs.declared.event.Moment.TheVariants.{Body, BodySync, Gate, GateSync}
use Rattle.lease_core.specs.declared.event.Event.{Event}
use Rattle.lease_core.specs.declared.event.Event.TheVariants.{Begin, Draw, Look, Put, Raise, Spend, Claim, Crash}
use Rattle.lease_core.specs.declared.event.Drawn.{Drawn}
use Rattle.lease_core.proofs.Drawns.{Has, chain_push, has_push, has_within, same_or_apart, last_is_had, same_span-true, not_had-differs, meets_none-apart, open_parts}
use Rattle.lease_core.proofs.Invariant.{Ceilings, Era, Inv}

pub last_of_push : (xs : List ℕ) (x : ℕ) → last_of (xs ++ x ∷ []) ≡ x
last_of_push [] x = refl
last_of_push (y ∷ []) x = refl
last_of_push (y ∷ z ∷ zs) x = last_of_push (z ∷ zs) x

pub ends_weaker : (a b : ℕ) (xs : List Span) → a ≤ b → EndBy a xs → EndBy b xs
ends_weaker a b xs h e = λ k d l. let i = e k d l in omega arith

-- ---- an era

-- no put is under way
at_rest : (total ceiling shown : ℕ) (up : Bool) (slots : List ℕ) → last_of slots ≤ total → shown ≤ last_of slots → (up ≡ true → last_of slots ≡ shown)
    → Ceilings total up 0 ceiling shown slots
at_rest total ceiling shown up slots within low before = record {
  within = within;
  low = low;
  last = omega arith;
  down = λ _. refl;
  before = λ u _. before u;
  rises = λ h. absurd (omega arith);
  fits = λ h. absurd (omega arith);
  done = λ h. absurd (omega arith);
}

-- nothing is drawn
era_begun : (passes at : ℕ) → Era passes at at at [] (replicate passes at)
era_begun passes at = record {
  based = omega arith;
  chain = omega arith;
  made = All-nil (λ (d : Drawn). d.pass < passes);
  all_known = length-replicate passes at;
  fitting = All-replicate (λ (k : ℕ). (at ≤ k) × (k ≤ at)) passes at (omega arith, omega arith);
}

begins : (m : Machine) → Inv m → Inv (after m Begin)
begins m v = record {
  ceilings = at_rest m.total m.ceiling (durable m) true m.slots v.ceilings.within (omega arith) (λ _. refl);
  era = era_begun m.passes (durable m);
  grants = let e = ends_weaker m.shown (durable m) m.spent v.ceilings.low v.grants.ends in
      record { apart = v.grants.apart; units = v.grants.units; ends = e; from = λ k d l. inr (e k d l) };
  claimed = v.claimed;
}

draws : (m : Machine) (pass n : ℕ) → Inv m → pass < m.passes → 1 ≤ n → Inv (after m (Draw pass n))
draws m pass n v low h = record {
  ceilings = v.ceilings;
  era = record {
    based = v.era.based;
    chain = chain_push m.base m.next (m.next + n) pass m.drawn v.era.chain (omega arith);
    made = All-push (λ (d : Drawn). d.pass < m.passes) m.drawn (record { pass = pass; span = span m.next (m.next + n) }) v.era.made low;
    all_known = v.era.all_known;
    fitting = v.era.fitting;
  };
  grants = record {
    apart = v.grants.apart;
    units = v.grants.units;
    ends = v.grants.ends;
    from = λ k d l. ⊎_elim (λ (x : Has m.drawn (get_or m.spent k d)). inl (has_push m.drawn (record { pass = pass; span = span m.next (m.next + n) }) (get_or m.spent k d) x)) (λ (x : (get_or m.spent k d).end ≤ m.base). inr x) (v.grants.from k d l);
  };
  claimed = v.claimed;
}

looks : (m : Machine) (pass : ℕ) → Inv m → Inv (after m (Look pass))
looks m pass v = record {
  ceilings = v.ceilings;
  era = let b = v.era.based in record {
    based = b;
    chain = v.era.chain;
    made = v.era.made;
    all_known = length-set m.known pass m.shown ∙ v.era.all_known;
    fitting = All-set (λ (k : ℕ). (m.base ≤ k) × (k ≤ m.shown)) m.known pass m.shown (b, omega arith) v.era.fitting;
  };
  grants = v.grants;
  claimed = v.claimed;
}

-- ---- a put

-- a move of the put that leaves the slots
moves : (m : Machine) (stage ceiling : ℕ) → Inv m → m.up ≡ true → m.stage < 4 → stage < 4 → m.shown < ceiling → ceiling ≤ m.total → Inv (record m { stage = stage; ceiling = ceiling })
moves m stage ceiling v u from to low high = record {
  ceilings = record {
    within = v.ceilings.within;
    low = v.ceilings.low;
    last = omega arith;
    down = λ d. absurd (true≢false (sym u ∙ d));
    before = λ _ _. v.ceilings.before u from;
    rises = λ _. low;
    fits = λ _. high;
    done = λ h. absurd (omega arith);
  };
  era = v.era;
  grants = v.grants;
  claimed = v.claimed;
}

ceiling_fits : (shown end total : ℕ) → shown < end → end ≤ total → (shown < ceiling_for total end) × (ceiling_for total end ≤ total)
ceiling_fits shown end total a b = (omega arith, omega arith)

-- the slots grow by the put's ceiling
syncs : (m : Machine) → Inv m → m.up ≡ true → m.stage ≡ 3 → Inv (after m (Put GateSync))
syncs m v u at = let c = v.ceilings in let r = c.rises (omega arith) in let w = c.fits (omega arith) in
    let p : last_of (m.slots ++ m.ceiling ∷ []) ≡ m.ceiling = last_of_push m.slots m.ceiling in record {
      ceilings = record {
        within = omega arith;
        low = omega arith;
        last = omega arith;
        down = λ d. absurd (true≢false (sym u ∙ d));
        before = λ _ h. absurd (omega arith);
        rises = λ _. r;
        fits = λ _. w;
        done = λ _. p;
      };
      era = v.era;
      grants = v.grants;
      claimed = v.claimed;
    }

puts : (m : Machine) (moment : Moment) → Inv m → m.up ≡ true → may_put m moment ≡ true → Inv (after m (Put moment))
puts m (Body pass) v u ok =
    let p = and_parts (nat_eq m.stage 0) _ (and_parts (nat_lt pass m.passes) _ ok).1 in
    let z = eqb-true m.stage 0 p.0 in
    let o = open_parts (last_drawn pass m.drawn) m.spent (λ s. nat_lt m.shown s.end && nat_le s.end m.total) p.1 in
    let q = and_parts (nat_lt m.shown o.0.end) (nat_le o.0.end m.total) o.3 in
    let c = ceiling_fits m.shown o.0.end m.total (ltb-true m.shown o.0.end q.0) (leb-true o.0.end m.total q.1) in
    let x : last_end (last_drawn pass m.drawn) ≡ o.0.end = ap last_end o.1 in
    let P : ℕ → Type 0 = λ end. Inv (record m { stage = 1; ceiling = ceiling_for m.total end }) in
    subst P (sym x) (moves m 1 (ceiling_for m.total o.0.end) v u (omega arith) (omega arith) c.0 c.1)
puts m BodySync v u ok = let c = v.ceilings in let z = eqb-true m.stage 1 ok in moves m 2 m.ceiling v u (omega arith) (omega arith) (c.rises (omega arith)) (c.fits (omega arith))
puts m Gate v u ok = let c = v.ceilings in let z = eqb-true m.stage 2 ok in moves m 3 m.ceiling v u (omega arith) (omega arith) (c.rises (omega arith)) (c.fits (omega arith))
puts m GateSync v u ok = syncs m v u (eqb-true m.stage 3 ok)

raises : (m : Machine) → Inv m → m.up ≡ true → m.stage ≡ 4 → Inv (after m Raise)
raises m v u at = let c = v.ceilings in let r = c.rises (omega arith) in let d = c.done at in let b = v.era.based in record {
  ceilings = at_rest m.total m.ceiling m.ceiling m.up m.slots c.within (omega (arith, d)) (λ _. d);
  era = record {
    based = omega arith;
    chain = v.era.chain;
    made = v.era.made;
    all_known = v.era.all_known;
    fitting = λ k e l. let i = v.era.fitting k e l in (i.0, omega arith);
  };
  grants = record { apart = v.grants.apart; units = v.grants.units; ends = ends_weaker m.shown m.ceiling m.spent (omega arith) v.grants.ends; from = v.grants.from };
  claimed = v.claimed;
}

-- ---- spends and claims

spends : (m : Machine) (s : Span) → Inv m → Has m.drawn s → has_span s m.spent ≡ false → s.end ≤ m.shown → Inv (record m { spent = m.spent ++ s ∷ [] })
spends m s v had new low = let g = v.grants in let w = has_within m.base m.next m.drawn s v.era.chain had in record {
  ceilings = v.ceilings;
  era = v.era;
  grants = record {
    apart = all_pairs_push IsApart m.spent s g.apart (λ k d l. apart k d l (g.from k d l) w.0 (λ h. same_or_apart m.base m.next m.drawn (get_or m.spent k d) s v.era.chain h had));
    units = All-push (λ (x : Span). x.start < x.end) m.spent s g.units w.1;
    ends = All-push (λ (x : Span). x.end ≤ m.shown) m.spent s g.ends low;
    from = All-push (λ x. Has m.drawn x ⊎ (x.end ≤ m.base)) m.spent s g.from (inl had);
  };
  claimed = v.claimed;
} where
  apart : (k : ℕ) (d : Span) → k < length m.spent → Has m.drawn (get_or m.spent k d) ⊎ ((get_or m.spent k d).end ≤ m.base) → m.base ≤ s.start
      → (Has m.drawn (get_or m.spent k d) → ((get_or m.spent k d) ≡ s) ⊎ IsApart (get_or m.spent k d) s) → IsApart (get_or m.spent k d) s
  apart k d l (inl h) b f = ⊎_elim (λ (x : get_or m.spent k d ≡ s). absurd (not_had-differs (get_or m.spent k d) s m.spent new k d l x)) (λ (x : IsApart (get_or m.spent k d) s). x) (f h)
  apart k d l (inr h) b f = inl (omega arith)

claims_one : (m : Machine) (s : Span) → Inv m → s.start < s.end → s.end ≤ m.total → meets_any s m.claims ≡ false → Inv (after m (Claim s))
claims_one m s v unit low new = record {
  ceilings = v.ceilings;
  era = v.era;
  grants = v.grants;
  claimed = record {
    apart = all_pairs_push IsApart m.claims s v.claimed.apart (λ k d l. meets_none-apart s m.claims new k d l);
    within = All-push (IsWithin 0 m.total) m.claims s v.claimed.within (omega arith, unit, low);
  };
}

-- ---- a crash

crashed : (m : Machine) (slots : List ℕ) → Inv m → last_of slots ≤ m.total → durable m ≤ last_of slots → Inv (record m { up = false; stage = 0; slots = slots })
crashed m slots v a b = let l = v.ceilings.low in record {
  ceilings = at_rest m.total m.ceiling m.shown false slots a (omega arith) (λ u. absurd (true≢false (sym u)));
  era = v.era;
  grants = v.grants;
  claimed = v.claimed;
}

crashes : (m : Machine) (body : List ℕ) (gate : ℕ) → Inv m → m.up ≡ true → Inv (after m (Crash body gate))
crashes m body gate v u = split (nat_eq m.stage 3 && nat_eq gate 90) refl where
  split : (b : Bool) → (nat_eq m.stage 3 && nat_eq gate 90) ≡ b → Inv (record m { up = false; stage = 0; slots = cond b (m.slots ++ m.ceiling ∷ []) m.slots })
  split false is = crashed m m.slots v v.ceilings.within (omega arith)
  split true is =
      let c = v.ceilings in let at = eqb-true m.stage 3 (and_parts (nat_eq m.stage 3) (nat_eq gate 90) is).0 in let p : last_of (m.slots ++ m.ceiling ∷ []) ≡ m.ceiling = last_of_push m.slots m.ceiling in
      let b = c.before u (omega arith) in let r = c.rises (omega arith) in let w = c.fits (omega arith) in
      crashed m (m.slots ++ m.ceiling ∷ []) v (omega arith) (omega arith)

-- ---- all events

-- what a spend that is possible says
pub spend_parts : (m : Machine) (pass : ℕ) (s : Span) → is_possible m (Spend pass s) ≡ true → Has m.drawn s × (has_span s m.spent ≡ false) × (s.end ≤ m.shown)
spend_parts m pass s ok =
    let p = and_parts m.up _ ok in
    let o = open_parts (last_drawn pass m.drawn) m.spent (λ t. same_span t s && nat_le s.end m.shown) (and_parts (nat_lt pass m.passes) _ p.1).1 in
    let q = and_parts (same_span o.0 s) (nat_le s.end m.shown) o.3 in
    let same : o.0 ≡ s = same_span-true o.0 s q.0 in
    (subst (Has m.drawn) same (last_is_had pass m.drawn o.0 o.1), subst (λ (x : Span). has_span x m.spent ≡ false) same o.2, leb-true s.end m.shown q.1)

pub keeps : (m : Machine) (e : Event) → Inv m → is_possible m e ≡ true → Inv (after m e)
keeps m Begin v ok = begins m v
keeps m (Draw pass n) v ok =
    let r = and_parts (nat_lt pass m.passes) ((nat_le 1 n && nat_le n 4096) && not (is_passed m.total pass m.drawn)) (and_parts m.up _ ok).1 in
    let p = and_parts (nat_le 1 n) (nat_le n 4096) (and_parts (nat_le 1 n && nat_le n 4096) _ r.1).0 in
    draws m pass n v (ltb-true pass m.passes r.0) (leb-true 1 n p.0)
keeps m (Look pass) v ok = looks m pass v
keeps m (Put moment) v ok = let p = and_parts m.up (may_put m moment) ok in puts m moment v p.0 p.1
keeps m Raise v ok = let p = and_parts m.up (nat_eq m.stage 4) ok in raises m v p.0 (eqb-true m.stage 4 p.1)
keeps m (Spend pass s) v ok = let p = spend_parts m pass s ok in spends m s v p.0 p.1 p.2
keeps m (Claim s) v ok =
    let p = and_parts (nat_lt s.start s.end && nat_le s.end m.total) (not (meets_any s m.claims)) ok in
    let q = and_parts (nat_lt s.start s.end) (nat_le s.end m.total) p.0 in
    claims_one m s v (ltb-true s.start s.end q.0) (leb-true s.end m.total q.1) (not-true (meets_any s m.claims) p.1)
keeps m (Crash body gate) v ok = crashes m body gate v ok

-- the durable ceiling never falls
pub durable_grows : (m : Machine) (e : Event) → Inv m → is_possible m e ≡ true → durable m ≤ durable (after m e)
durable_grows m Begin v ok = omega arith
durable_grows m (Draw pass n) v ok = omega arith
durable_grows m (Look pass) v ok = omega arith
durable_grows m (Put (Body pass)) v ok = omega arith
durable_grows m (Put BodySync) v ok = omega arith
durable_grows m (Put Gate) v ok = omega arith
durable_grows m (Put GateSync) v ok =
    let p = and_parts m.up (nat_eq m.stage 3) ok in let at = eqb-true m.stage 3 p.1 in let c = v.ceilings in
    let b = c.before p.0 (omega arith) in let r = c.rises (omega arith) in let q = last_of_push m.slots m.ceiling in omega arith
durable_grows m Raise v ok = omega arith
durable_grows m (Spend pass s) v ok = omega arith
durable_grows m (Claim s) v ok = omega arith
durable_grows m (Crash body gate) v u = split (nat_eq m.stage 3 && nat_eq gate 90) refl where
  split : (b : Bool) → (nat_eq m.stage 3 && nat_eq gate 90) ≡ b → durable m ≤ last_of (cond b (m.slots ++ m.ceiling ∷ []) m.slots)
  split false is = omega arith
  split true is =
      let c = v.ceilings in let at = eqb-true m.stage 3 (and_parts (nat_eq m.stage 3) (nat_eq gate 90) is).0 in let q = last_of_push m.slots m.ceiling in
      let b = c.before u (omega arith) in let r = c.rises (omega arith) in omega arith

pub keeps_all : (m : Machine) (es : List Event) → Inv m → are_possible m es ≡ true → Inv (after_all m es) × (durable m ≤ durable (after_all m es))
keeps_all m [] v ok = (v, omega arith)
keeps_all m (e ∷ es) v ok =
    let p = and_parts (is_possible m e) (are_possible (after m e) es) ok in
    let r = keeps_all (after m e) es (keeps m e v p.0) p.1 in
    let g = durable_grows m e v p.0 in
    (r.0, omega arith)

pub after_append : (m : Machine) (es more : List Event) → after_all m (es ++ more) ≡ after_all (after_all m es) more
after_append m [] more = refl
after_append m (e ∷ es) more = after_append (after m e) es more

possible_append : (m : Machine) (es more : List Event) → are_possible m (es ++ more) ≡ true → (are_possible m es ≡ true) × (are_possible (after_all m es) more ≡ true)
possible_append m [] more ok = (refl, ok)
possible_append m (e ∷ es) more ok =
    let p = and_parts (is_possible m e) (are_possible (after m e) (es ++ more)) ok in let r = possible_append (after m e) es more p.1 in (and_from (is_possible m e) (are_possible (after m e) es) p.0 r.0, r.1)

pub at_first : (total passes : ℕ) → Inv (machine_at_first total passes)
at_first total passes = record {
  ceilings = at_rest total 0 0 false [] (omega arith) (omega arith) (λ _. refl);
  era = era_begun passes 0;
  grants = record {
    apart = λ i j d a b. absurd (omega arith);
    units = All-nil (λ (s : Span). s.start < s.end);
    ends = All-nil (λ (s : Span). s.end ≤ 0);
    from = All-nil (λ (s : Span). Has [] s ⊎ (s.end ≤ 0));
  };
  claimed = record { apart = λ i j d a b. absurd (omega arith); within = All-nil (IsWithin 0 total) };
}

pub is_safe : (m : Machine) → Inv m → IsSafe m
is_safe m v = record {
  spent = v.grants.apart;
  durable = ends_weaker m.shown (durable m) m.spent v.ceilings.low v.grants.ends;
  based = λ pass s may. (has_within m.base m.next m.drawn s v.era.chain (spend_parts m pass s may).0).0;
  claims = v.claimed.apart;
}

pub leases_are_safe : LeasesAreSafe
leases_are_safe total passes events more ok =
    let m : Machine = machine_at_first total passes in
    let p = possible_append m events more ok in
    let r = keeps_all m events (at_first total passes) p.0 in
    let t = keeps_all (after_all m events) more r.0 p.1 in
    let same : durable (after_all m (events ++ more)) ≡ durable (after_all (after_all m events) more) = ap durable (after_append m events more) in (
      is_safe (after_all m events) r.0,
      ends_weaker (durable (after_all m events)) (durable (after_all m (events ++ more))) (after_all m events).spent (omega arith) (is_safe (after_all m events) r.0).durable,
    )
