-- For the code of the broker.
use Rattle.std.proofs.Common.{◌≡◌, ℕ, zero, suc, ◌<◌, ◌≤◌, Bool, true, false, List, [], ◌∷◌, length, get_or, take, sym, ap, ◌∙◌, subst, arith, Option}
use Rattle.std.proofs.lemmas.Bool.{and_parts, true≢false}
use Rattle.lease_core.specs.Kept.{IsTaken, Took, TookFirst}
use Rattle.lease_core.specs.Machine.{Machine, after, after_all, are_possible, is_possible}
use Rattle.lease_core.specs.declared.event.Event.{Event}
use Rattle.lease_core.specs.declared.event.Event.TheVariants.{Begin, Crash}
use Rattle.broker_core.specs.Leases.{AreSteps, steps_for}
use Rattle.broker_core.specs.Sound.{Goes, IsServing}
use Rattle.broker_core.specs.declared.message.Kept.{Kept}
use Rattle.zk_model.specs.declared.messages.Want.{Want}
use Rattle.broker_core.proofs.Steps.{are_steps, first_possible, first_steps, steps_go, steps_possible}

pub took_goes : (m now : Machine) (es : List Event) (k : ℕ) → TookFirst m es k now → IsServing m → are_possible m es ≡ true → AreSteps es → Goes m now
took_goes m now es k t v ok q = subst (Goes m) (sym t.2) (steps_go m (take k es) v (first_possible m es k ok) (first_steps es k q))

possible_at : (m : Machine) (es : List Event) (k : ℕ) (d : Event) → are_possible m es ≡ true → k < length es
    → is_possible (after_all m (take k es)) (get_or es k d) ≡ true
possible_at m [] k d ok l = absurd (omega arith)
possible_at m (e ∷ es) zero d ok l = (and_parts (is_possible m e) (are_possible (after m e) es) ok).0
possible_at m (e ∷ es) (suc k) d ok l =
    possible_at (after m e) es k d (and_parts (is_possible m e) (are_possible (after m e) es) ok).1 (omega arith)

pub took_all : (m now : Machine) (es : List Event) (b : Bool) → b ≡ false → Took m es b now → are_possible m es ≡ true → ⊥
took_all m now es b is took ok = stopped (subst (λ (x : Bool). Took m es x now) is took) where
  stopped : Took m es false now → ⊥
  stopped (k, e, first, l, at, may_not) = true≢false (sym (possible_at m es k e ok l)
      ∙ ap (λ (x : Event). is_possible (after_all m (take k es)) x) at ∙ ap (λ (n : Machine). is_possible n e) (sym first.2) ∙ may_not)

pub some_possible : (m : Machine) (kept : List (Option Kept)) (want : Want) (es : List Event) (k : ℕ) → es ≡ steps_for m kept want → IsServing m
    → (1 ≤ want.count) × (want.count ≤ 4096) → are_possible m (take k es) ≡ true
some_possible m kept want es k is v fits =
    subst (λ (x : List Event). are_possible m (take k x) ≡ true) (sym is) (first_possible m (steps_for m kept want) k (steps_possible m kept want v fits))

pub some_are_steps : (m : Machine) (kept : List (Option Kept)) (want : Want) (es : List Event) (k : ℕ) → es ≡ steps_for m kept want → AreSteps (take k es)
some_are_steps m kept want es k is = subst (λ (x : List Event). AreSteps (take k x)) (sym is) (first_steps (steps_for m kept want) k (are_steps m kept want))

pub all_possible : (m : Machine) (kept : List (Option Kept)) (want : Want) (es : List Event) → es ≡ steps_for m kept want → IsServing m
    → (1 ≤ want.count) × (want.count ≤ 4096) → are_possible m es ≡ true
all_possible m kept want es is v fits = subst (λ (x : List Event). are_possible m x ≡ true) (sym is) (steps_possible m kept want v fits)

pub all_are_steps : (m : Machine) (kept : List (Option Kept)) (want : Want) (es : List Event) → es ≡ steps_for m kept want → AreSteps es
all_are_steps m kept want es is = subst AreSteps (sym is) (are_steps m kept want)

pub begun_anew : (m now next : Machine) (gate : ℕ) (a b : Bool) → IsServing m → ((body : List ℕ) → IsTaken m (Crash body gate) a now) → IsTaken now Begin b next
    → (body : List ℕ) → next ≡ after (after m (Crash body gate)) Begin
begun_anew m now next gate false b v crashed begun body = absurd (true≢false (sym v.up ∙ (crashed body).0))
begun_anew m now next gate true true v crashed begun body = begun.1 ∙ ap (λ (n : Machine). after n Begin) (crashed body).1
begun_anew m now next gate true false v crashed begun body =
    absurd (true≢false (sym (ap (λ (n : Machine). is_possible n Begin) (crashed body).1) ∙ begun.0))
