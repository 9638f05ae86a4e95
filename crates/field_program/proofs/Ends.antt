-- The last steps that read wires, and where wires end.
use Rattle.std.proofs.Common.{◌≡◌, ℕ, zero, suc, ◌+◌, ◌<◌, ◌≤◌, ◌⊎◌, ⊎_elim, inl, inr, List, [], ◌∷◌, ◌++◌, length, take, get_or, set, replicate, refl, sym, ◌∙◌, ap, subst, arith, length-set, get_or-set_other, get_or-set_same}
use Rattle.std.specs.Prelude.{Some, slice_get, slice_index, Contains}
use Rattle.std.proofs.lemmas.Bool.{cases_eq}
use Rattle.std.proofs.Math.Nat.{eq-or-lt_of_le}
use Rattle.std.proofs.lemmas.List.{length-replicate, take_more, take_all}
use Rattle.std.proofs.lemmas.List.Elements.{Contains-append_left, Contains-push, Contains-push_cases}
use Rattle.std.proofs.lemmas.Option.{slice_get_within}
use Rattle.zk_model.specs.Program.{Program}
use Rattle.field_program.specs.Rules.{HasFactors}
use Rattle.field_program.specs.Programs.{IsSmallProgram}
use Rattle.field_program.specs.Steps.{step_equation}
use Rattle.field_program.specs.declared.step.Step.{Step}
use Rattle.zk_model.specs.Slots.{Reads, IsReadAt, IsNeededAt}
use Rattle.field_program.specs.Slotting.{IsOperand, operands_of, NotesOperands, AreLastReads, AreEnds}
use Rattle.field_program.specs.declared.slots.Operands.{Operands}
use Rattle.field_program.proofs.Live.{some_same}
use Rattle.field_program.proofs.Next.{operand_or_not}
use Rattle.field_program.proofs.Operands.{reads_operands, operands_read}

-- ---- the last steps that read

none_at : (n wire : ℕ) → slice_index (replicate n 0) wire ≡ 0
none_at zero wire = refl
none_at (suc n) zero = refl
none_at (suc n) (suc wire) = none_at n wire

pub none_read : (program : Program) (last : List ℕ) → last ≡ replicate program.wires 0 → AreLastReads program 0 last
none_read program last is = record {
  whole = ap length is ∙ length-replicate program.wires 0;
  bounded = λ wire. let none = zeros wire in omega (arith, none);
  reads = λ k wire upto read. omega (arith, upto);
  caused = λ wire some. absurd (some (zeros wire));
}
  where
    zeros : (wire : ℕ) → slice_index last wire ≡ 0
    zeros wire = ap (λ l. slice_index l wire) is ∙ none_at program.wires wire

pub one_read : (program : Program) (k : ℕ) (s : Step) (operands : Operands) (before after : List ℕ) → IsSmallProgram program
    → slice_get program.steps k ≡ Some (step_equation s) → HasFactors program s → operands ≡ operands_of s
    → NotesOperands (k + 1) operands before after → AreLastReads program k before → AreLastReads program (k + 1) after
one_read program k s operands before after held stands has are notes far = record {
  whole = notes.whole ∙ far.whole;
  bounded = λ wire. ⊎_elim (λ is. let at = notes.noted wire is in omega (arith, at))
      (λ away. let same = notes.kept wire away in let old = far.bounded wire in omega (arith, same, old)) (operand_or_not operands wire);
  reads = λ j wire upto read. ⊎_elim
      (λ is. let at = notes.noted wire is in omega (arith, at, upto))
      (λ away. let same = notes.kept wire away in ⊎_elim
      (λ now. absurd (away (here wire (subst (λ n. IsReadAt program n wire) now read))))
      (λ less. let old = far.reads j wire (omega (arith, less)) read in omega (arith, old, same)) (eq-or-lt_of_le upto))
      (operand_or_not operands wire);
  caused = λ wire some. ⊎_elim
      (λ is. subst (λ n. IsReadAt program n wire) (sym (notes.noted wire is))
      (k, step_equation s, refl, stands, operands_read program s wire has (subst (λ o. IsOperand o wire) are is)))
      (λ away. subst (λ n. IsReadAt program n wire) (sym (notes.kept wire away)) (far.caused wire (λ none. some (notes.kept wire away ∙ none))))
      (operand_or_not operands wire);
}
  where
    here : (wire : ℕ) → IsReadAt program (k + 1) wire → IsOperand operands wire
    here wire (j, other, at, stands_other, reads) =
        let same : j ≡ k = omega (arith, at) in
        subst (λ o. IsOperand o wire) (sym are) (reads_operands program s wire held has
        (subst (λ x. Reads program x wire)
        (some_same other (step_equation s) (slice_get program.steps k) (ap (slice_get program.steps) (sym same) ∙ stands_other) stands) reads))

-- ---- opened wires are needed to the end

-- the wires among the first of these end behind all steps, and all others where they did
pub record AreOpenedUpTo (end : ℕ) (opened : List ℕ) (last ends : List ℕ) : Type 0 where
  pub whole : length ends ≡ length last
  pub opens : (wire : ℕ) → Contains opened wire → slice_index ends wire ≡ end
  pub either : (wire : ℕ) → (slice_index ends wire ≡ slice_index last wire) ⊎ (Contains opened wire × (slice_index ends wire ≡ end))

pub none_opened : (end : ℕ) (opened : List ℕ) (last : List ℕ) → AreOpenedUpTo end (take 0 opened) last last
none_opened end opened last = record {
  whole = refl;
  opens = λ wire there. absurd (nothing opened wire there);
  either = λ wire. inl refl;
}
  where
    nothing : (xs : List ℕ) (wire : ℕ) → ¬ Contains (take 0 xs) wire
    nothing [] wire (k, below, is) = absurd (omega (arith, below))
    nothing (x ∷ xs) wire (k, below, is) = absurd (omega (arith, below))

pub one_opened : (end : ℕ) (opened : List ℕ) (i wire : ℕ) (last before after : List ℕ) → i < length opened → wire ≡ get_or opened i wire → wire < length before
    → after ≡ set before wire end → AreOpenedUpTo end (take i opened) last before → AreOpenedUpTo end (take (i + 1) opened) last after
one_opened end opened i wire last before after below is within sets far = record {
  whole = ap length sets ∙ length-set before wire end ∙ far.whole;
  opens = λ other there. ⊎_elim (λ same. here other (sym same)) (λ away. ap (λ l. slice_index l other) sets
      ∙ get_or-set_other before wire other end 0 (λ same. away (sym same))
      ∙ far.opens other (⊎_elim (λ old. old) (λ same. absurd (away same)) (Contains-push_cases (take i opened) wire other (subst (λ l. Contains l other) more there))))
      (cases_eq wire other);
  either = λ other. ⊎_elim
      (λ same. inr (subst (λ l. Contains l other) (sym more) (subst (Contains (take i opened ++ wire ∷ [])) same (Contains-push (take i opened) wire)), here other (sym same)))
      (λ away. let kept = ap (λ l. slice_index l other) sets ∙ get_or-set_other before wire other end 0 (λ same. away (sym same)) in ⊎_elim
      (λ old. inl (kept ∙ old))
      (λ old. inr (subst (λ l. Contains l other) (sym more) (Contains-append_left (take i opened) (wire ∷ []) other old.0), kept ∙ old.1)) (far.either other))
      (cases_eq wire other);
}
  where
    more : take (i + 1) opened ≡ take i opened ++ wire ∷ []
    more = take_more opened i wire below ∙ ap (λ x. take i opened ++ x ∷ []) (sym is)

    here : (other : ℕ) → other ≡ wire → slice_index after other ≡ end
    here other same = ap (λ l. slice_index l other) sets ∙ ap (slice_index (set before wire end)) same ∙ get_or-set_same before wire end 0 within

pub all_opened : (program : Program) (i : ℕ) (last ends : List ℕ) → length program.opened ≤ i → AreLastReads program (length program.steps) last
    → AreOpenedUpTo (length program.steps + 1) (take i program.opened) last ends → AreEnds program ends
all_opened program i last ends all far is = record {
  whole = is.whole ∙ far.whole;
  needed = needed;
  opened = λ wire there. is.opens wire (subst (λ l. Contains l wire) (sym whole) there);
  caused = λ n wire some upto. ⊎_elim
      (λ same. inl (slice_index last wire, omega (arith, same, upto), far.caused wire (λ none. some (omega (arith, same, upto, none)))))
      (λ both. inr (subst (λ l. Contains l wire) whole both.0)) (is.either wire);
}
  where
    whole : take i program.opened ≡ program.opened
    whole = take_all i program.opened all

    needed : (n wire : ℕ) → n ≤ length program.steps → IsNeededAt program n wire → n ≤ slice_index ends wire
    needed n wire within (inr opened) = let end = is.opens wire (subst (λ l. Contains l wire) (sym whole) opened) in omega (arith, within, end)
    needed n wire within (inl (later, behind, (j, step, at, stands, reads))) =
        let inside = slice_get_within program.steps j step stands in
        let read = far.reads later wire (omega (arith, at, inside)) (j, step, at, stands, reads) in
        ⊎_elim (λ same. omega (arith, same, read, behind)) (λ both. let end = both.1 in omega (arith, end, within)) (is.either wire)
