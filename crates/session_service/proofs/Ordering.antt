-- Sessions in another order are the same sessions.
use Rattle.std.proofs.Common.{◌≡◌, ◌<◌, ◌≤◌, ◌+◌, ◌-◌, max, ℕ, List, Bool, length, get_or, refl, sym, ◌∙◌, subst, inl, inr, arith, Option, None, Some, IfSome}
use Rattle.std.specs.List.{AllPairs, swap}
use Rattle.std.specs.List.Sorted.{IsPermutation}
use Rattle.std.proofs.lemmas.List.Edits.{Swapped, swapped_from_swap, length-swap}
use Rattle.std.proofs.lemmas.List.Sorted.{IsPermutation-keeps, All-permutation, Contains-permutation, length_permutation, sum_by-IsPermutation}
use Rattle.std.proofs.lemmas.Bool.{cases_eq, cases_lt}
use Rattle.zk_model.specs.declared.Span.{Span}
use Rattle.zk_port.specs.Doors.{after_listen}
use Rattle.lease_core.specs.Machine.{ceiling_for}
use Rattle.lease_store.specs.declared.grantor.GrantFault.{GrantFault}
use Rattle.session_pool.specs.Doors.{TakesLinks}
use Rattle.session_pool.specs.Notes.{AreGrantsApart, IsBetween, IsMarked, IsNoteOf, IsRefusedAmong, IsRefusedBy, TellsMark, meets_fault}
use Rattle.session_verifier.specs.Outcomes.{grant_fault}
use Rattle.session_verifier.specs.declared.note.SessionNote.{SessionNote}
use Rattle.file_commands.specs.Journals.{DiskChange}
use Rattle.file_commands.specs.Effects.{DoorChange}
use Rattle.session_service.specs.ServiceRuns.{LeadsSessions, Place, Sessions}

pub apart_both : (a b : Option Span) → AreGrantsApart a b → AreGrantsApart b a
apart_both None None apart = tt
apart_both None (Some t) apart = tt
apart_both (Some s) None apart = tt
apart_both (Some s) (Some t) (inl before) = inr before
apart_both (Some s) (Some t) (inr behind) = inl behind

module _ {X : Type 0} (R : X → X → Type 0) (both : (x y : X) → R x y → R y x) where
  -- of two places, whichever comes first
  of_two : (xs : List X) (d : X) → AllPairs R xs → (m n : ℕ) → m < length xs → n < length xs → (m ≡ n → ⊥) → R (get_or xs m d) (get_or xs n d)
  of_two xs d pairs m n within within_too other = elim (cases_lt m n) [
    | inl less ↦ pairs m n d less within_too
    | inr more ↦ (elim (cases_lt n m) [
      | inl less ↦ both (get_or xs n d) (get_or xs m d) (pairs n m d less within)
      | inr same ↦ absurd (other (omega (arith, more, same)))
    ])
  ]

  module _ (l : List X) (i j : ℕ) (here : i < length l) (there : j < length l) (all : AllPairs R l) (d : X) where
    moved : Swapped (λ k. get_or l k d) (λ k. get_or (swap l i j) k d) i j
    moved = swapped_from_swap l (swap l i j) i j d here there refl

    -- of a place that is swapped, and another
    of_first : (n : ℕ) → n < length l → (i ≡ n → ⊥) → R (get_or (swap l i j) i d) (get_or (swap l i j) n d)
    of_first n within other = elim (cases_eq n j) [
      | inl is ↦ subst (λ (k : ℕ). R (get_or (swap l i j) i d) (get_or (swap l i j) k d)) (sym is)
          (subst (λ (p : X × X). R p.0 p.1) (λ t. (sym moved.0 t, sym moved.1 t))
          (of_two l d all j i there here (λ same. other (sym same ∙ sym is))))
      | inr not ↦ subst (λ (p : X × X). R p.0 p.1) (λ t. (sym moved.0 t, sym (moved.2 n (λ same. other (sym same)) not) t))
          (of_two l d all j n there within (λ same. not (sym same)))
    ]

    of_second : (n : ℕ) → n < length l → (j ≡ n → ⊥) → (n ≡ i → ⊥) → R (get_or (swap l i j) j d) (get_or (swap l i j) n d)
    of_second n within other not = subst (λ (p : X × X). R p.0 p.1) (λ t. (sym moved.1 t, sym (moved.2 n not (λ same. other (sym same))) t))
        (of_two l d all i n here within (λ same. not (sym same)))

    of_any : (m n : ℕ) → m < length l → n < length l → (m ≡ n → ⊥) → R (get_or (swap l i j) m d) (get_or (swap l i j) n d)
    of_any m n within within_too other = elim (cases_eq m i) [
      | inl is ↦ subst (λ (k : ℕ). R (get_or (swap l i j) k d) (get_or (swap l i j) n d)) (sym is) (of_first n within_too (λ same. other (is ∙ same)))
      | inr not_first ↦ (elim (cases_eq n i) [
        | inl is ↦ both (get_or (swap l i j) n d) (get_or (swap l i j) m d)
            (subst (λ (k : ℕ). R (get_or (swap l i j) k d) (get_or (swap l i j) m d)) (sym is) (of_first m within (λ same. not_first (sym same))))
        | inr not_too ↦ (elim (cases_eq m j) [
          | inl is ↦ subst (λ (k : ℕ). R (get_or (swap l i j) k d) (get_or (swap l i j) n d)) (sym is) (of_second n within_too (λ same. other (is ∙ same)) not_too)
          | inr neither ↦ (elim (cases_eq n j) [
            | inl is ↦ both (get_or (swap l i j) n d) (get_or (swap l i j) m d)
                (subst (λ (k : ℕ). R (get_or (swap l i j) k d) (get_or (swap l i j) m d)) (sym is) (of_second m within (λ same. neither (sym same)) not_first))
            | inr too ↦ subst (λ (p : X × X). R p.0 p.1) (λ t. (sym (moved.2 m not_first neither) t, sym (moved.2 n not_too too) t))
                (of_two l d all m n within within_too other)
          ])
        ])
      ])
    ]

  swapped_pairs : (l : List X) (i j : ℕ) → i < length l → j < length l → AllPairs R l → AllPairs R (swap l i j)
  swapped_pairs l i j here there all m n d less within =
      let size = length-swap l i j in
      of_any l i j here there all d m n (omega (arith, size, less, within)) (omega (arith, size, within)) (λ same. absurd (omega (arith, same, less)))

  pub pairs_permuted : (xs ys : List X) → IsPermutation xs ys → AllPairs R xs → AllPairs R ys
  pairs_permuted xs ys permuted pairs = IsPermutation-keeps xs (AllPairs R) pairs swapped_pairs ys permuted

-- a lease that was refused among sessions was refused among them in another order
among_permuted : {M : Type 0} (size : M → ℕ) (base total : ℕ) (notes ordered : List M) (note : M) (fault : Option GrantFault)
    → IsPermutation notes ordered → IfSome fault (IsRefusedAmong size base total notes note) → IfSome fault (IsRefusedAmong size base total ordered note)
among_permuted size base total notes ordered note None permuted among = tt
among_permuted size base total notes ordered note (Some fault) permuted among = record {
  drawer = among.drawer;
  among = Contains-permutation notes ordered among.drawer permuted among.among;
  least = among.least;
  most = among.most;
  refused = subst (λ (n : ℕ). IsRefusedBy (size among.drawer) total (base + (n - max (size among.drawer) (size note))) (Some fault))
      (sym (sum_by-IsPermutation size notes ordered permuted)) among.refused;
}

-- sessions that were led, in another order
pub leads_permuted : {L : Type 0} (at : Place) (led : Sessions L) (notes ordered : List (SessionNote L))
    (door_failed memory_failed : Bool) (disk : DiskChange) (door : DoorChange) → IsPermutation notes ordered
    → LeadsSessions at led notes door_failed memory_failed disk door
    → LeadsSessions at led ordered door_failed memory_failed disk door
leads_permuted {L} at led notes ordered door_failed memory_failed disk door permuted leads =
    let same : length ordered ≡ length notes = length_permutation notes ordered permuted in
    let total = led.total in
    record {
      each = All-permutation (IsNoteOf led.is_note) notes ordered permuted leads.each;
      taken = subst (λ (n : ℕ). TakesLinks at.options.sessions n door_failed memory_failed
          (after_listen at.address at.options.timeout at.options.sessions door.old) door.new) (sym same) leads.taken;
      base = leads.base;
      recovered = leads.recovered;
      ceiling = leads.ceiling;
      mark = leads.mark;
      kept = leads.kept;
      apart = pairs_permuted (λ (one other : SessionNote L). AreGrantsApart one.granted other.granted)
          (λ one other. apart_both one.granted other.granted) notes ordered permuted leads.apart;
      spans = All-permutation (λ (note : SessionNote L). IsBetween (led.size note) leads.base leads.ceiling note.granted) notes ordered permuted leads.spans;
      within = All-permutation (λ (note : SessionNote L). IfSome note.granted (λ span. span.end ≤ total)) notes ordered permuted leads.within;
      most = subst (λ (n : ℕ). leads.ceiling ≤ max leads.base (ceiling_for total (leads.base + n)))
          (sym (sum_by-IsPermutation led.size notes ordered permuted)) leads.most;
      marked = All-permutation (λ (note : SessionNote L). IsMarked leads.mark (grant_fault note.outcome)) notes ordered permuted leads.marked;
      told = All-permutation (λ (note : SessionNote L). TellsMark leads.mark (grant_fault note.outcome)) notes ordered permuted leads.told;
      once = subst (λ (n : ℕ). n ≤ 1) (sym (sum_by-IsPermutation (λ (note : SessionNote L). meets_fault (grant_fault note.outcome)) notes ordered permuted)) leads.once;
      refused = λ k d within.
          among_permuted led.size leads.base total notes ordered (get_or ordered k d) (grant_fault (get_or ordered k d).outcome) permuted
          (All-permutation (λ (note : SessionNote L). IfSome (grant_fault note.outcome) (IsRefusedAmong led.size leads.base total notes note))
          notes ordered permuted leads.refused k d within);
      passes = leads.passes;
      workers = leads.workers;
      gathered = leads.gathered;
    }
