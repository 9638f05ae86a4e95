-- Events one after another.
use Rattle.std.proofs.Common.{◌≡◌, ℕ, ◌+◌, ◌<◌, Bool, true, List, [], ◌∷◌, length, get_or, take, refl, sym, ap, ◌∙◌, subst, arith}
use Rattle.std.proofs.lemmas.List.{take_more}
use Rattle.std.proofs.lemmas.Bool.{and_from}
use Rattle.lease_core.specs.Spans.{EndBy}
use Rattle.lease_core.specs.Machine.{Machine, durable, is_possible, after, after_all, are_possible}
use Rattle.lease_core.specs.Kept.{IsReached, IsTaken, TookFirst}
use Rattle.lease_core.specs.declared.event.Event.{Event}
use Rattle.lease_core.proofs.Keeps.{after_append}
use Rattle.lease_core.proofs.Reached.{append_possible, reached_all, ends_later}

-- one event more was possible, and took place
pub took_more : (m now next : Machine) (events : List Event) (k : ℕ) (d : Event) (b : Bool) → TookFirst m events k now → k < length events → b ≡ true → IsTaken now (get_or events k d) b next → TookFirst m events (k + 1) next
took_more m now next events k d b t l is_true h =
    let x : Event = get_or events k d in
    let h : IsTaken now x true next = subst (λ (v : Bool). IsTaken now x v next) is_true h in
    let more = take_more events k d l in
    let one : are_possible (after_all m (take k events)) (x ∷ []) ≡ true = and_from (is_possible (after_all m (take k events)) x) true (subst (λ (n : Machine). is_possible n x ≡ true) t.2 h.0) refl in (
      omega arith,
      ap (are_possible m) more ∙ append_possible m (take k events) (x ∷ []) t.1 one,
      h.1 ∙ ap (λ (n : Machine). after n x) t.2 ∙ sym (ap (after_all m) more ∙ after_append m (take k events) (x ∷ [])),
    )

pub reached : (m now : Machine) (events : List Event) (k : ℕ) → TookFirst m events k now → IsReached m → IsReached now
reached m now events k t r = subst IsReached (sym t.2) (reached_all m (take k events) r t.1)

pub later : (m now : Machine) (events : List Event) (k : ℕ) → TookFirst m events k now → IsReached m → EndBy (durable now) m.spent
later m now events k t r = subst (λ (n : Machine). EndBy (durable n) m.spent) (sym t.2) (ends_later m (take k events) r t.1)
