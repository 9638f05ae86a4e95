-- Each draw of a pass begins at or after the end of those before it.
use Rattle.std.proofs.Common.{◌≡◌, ℕ, ◌+◌, ◌≤◌, All, List, [], ◌∷◌, ◌++◌, length, get_or, refl, sym, ap, ◌∙◌, subst, arith}
use Rattle.std.proofs.lemmas.List.{get_or_push, length_push}
use Rattle.lease_words.specs.Calls.{RisesFrom, entries_of, number_of, seen}
use Rattle.lease_words.specs.Views.{after_draw, end_of, entry}
use Rattle.lease_words.specs.declared.pass.Pass.{Pass}
use Rattle.lease_words.specs.declared.view.Entry.{Entry}
use Rattle.lease_words.specs.declared.view.View.{View}

last_same : (es : List Entry) (d e : Entry) → es ++ d ∷ [] ≡ es ++ e ∷ [] → d ≡ e
last_same es d e same = sym (get_or_push es d d (length es) refl) ∙ ap (λ (l : List Entry). get_or l (length es) d) same ∙ get_or_push es e d (length es) refl

pub rises_drawn : (p q : Pass) (start count : ℕ) → seen q ≡ after_draw (seen p) start count → All (λ d. end_of d ≤ start) (entries_of p) → RisesFrom p q
rises_drawn p q start count drew all e is =
    subst (λ (x : Entry). All (λ d. end_of d ≤ x.start) (entries_of p))
    (last_same (entries_of p) (entry (number_of p) start count) e (sym (ap (λ (v : View). v.entries) drew) ∙ is)) all

pub rises_kept : (p q : Pass) → entries_of q ≡ entries_of p → RisesFrom p q
rises_kept p q same e is = let longer = ap length (sym same ∙ is) in let more = length_push (entries_of p) e in absurd (omega (arith, longer, more))

pub rises_on : (p q r : Pass) → entries_of r ≡ entries_of q → RisesFrom p q → RisesFrom p r
rises_on p q r same h e is = h e (sym same ∙ is)
