-- A worker that comes back.
use Rattle.std.proofs.Common.{◌≡◌, ℕ, ◌+◌, max, List, [], ◌∷◌, ◌++◌, ap, ◌∙◌, arith, refl, All, Option, Some, length-append, append-nil}
use Rattle.std.proofs.lemmas.List.Sums.{sum_by_push, sum_by-append}
use Rattle.std.proofs.lemmas.List.Elements.{All-push, All-pop}
use Rattle.std.proofs.lemmas.List.Concat.{flat_map-append}
use Rattle.atomic_table.specs.Seated.{TableId}
use Rattle.zk_model.specs.declared.Span.{Span}
use Rattle.lease_words.specs.Calls.{entries_of, known_of, met_of, all_entries}
use Rattle.lease_words.specs.declared.pass.Pass.{Pass}
use Rattle.lease_words.specs.declared.view.Entry.{Entry}
use Rattle.lease_store.specs.Leases.{IsPassAt}
use Rattle.lease_store.specs.declared.grantor.GrantFault.{GrantFault}
use Rattle.session_pool.specs.Notes.{meets_fault}
use Rattle.session_pool.specs.Works.{AllowsMark, IsWorker, AreBack, most_known}
use Rattle.session_pool.proofs.Works.{joined}

entries_push : (ps : List Pass) (p : Pass) → all_entries (ps ++ p ∷ []) ≡ all_entries ps ++ entries_of p
entries_push ps p = flat_map-append entries_of ps (p ∷ []) ∙ ap (λ (es : List Entry). all_entries ps ++ es) (append-nil (entries_of p))

known_push : (ps : List Pass) (p : Pass) → most_known (ps ++ p ∷ []) ≡ max (most_known ps) (known_of p)
known_push [] p = omega arith
known_push (q ∷ ps) p = let i = known_push ps p in omega (arith, i)

-- marks that all these passes allow are those that the first of them and the last allow
allowed_parts : (ps : List Pass) (p : Pass) (mark : ℕ) → All (λ q. AllowsMark q mark) (ps ++ p ∷ []) → All (λ q. AllowsMark q mark) ps × AllowsMark p mark
allowed_parts ps p mark h = All-pop (λ q. AllowsMark q mark) (ps ++ p ∷ []) ps (Some p) refl h

module _ {M : Type 0} (granted : M → Option Span) (refused : M → Option GrantFault) (is_note : M → Type 0) (fresh : Type 0) (size : M → ℕ) (table : TableId) (total : ℕ) where
  pub none_back : (amount : ℕ) → amount ≡ 0 → AreBack granted refused is_note fresh size table total [] amount []
  none_back amount is = record {
    own = λ k d l. absurd (omega (arith, l));
    counted = is;
    work = record {
      rightly = λ k d l. absurd (omega (arith, l));
      once = λ unit. omega arith;
      upto = λ k d l. absurd (omega (arith, l));
      marked = λ mark allows k d l. absurd (omega (arith, l));
      drawn = λ f. omega arith;
      reached = λ f k d l. absurd (omega (arith, l));
    };
    faults = omega arith;
  }

  pub one_back : (ps ps_now : List Pass) (p : Pass) (parts more amount merged amount_now : ℕ) (notes notes_now own : List M)
      → AreBack granted refused is_note fresh size table total ps amount notes
      → IsWorker granted refused is_note fresh size table total p parts more own
      → ps_now ≡ ps ++ p ∷ [] → merged ≡ amount + more → amount_now ≡ merged → notes_now ≡ notes ++ own
      → AreBack granted refused is_note fresh size table total ps_now amount_now notes_now
  one_back ps ps_now p parts more amount merged amount_now notes notes_now own b w passes_are merged_is amount_is notes_are = rw (passes_are, notes_are) (record {
    own = All-push (IsPassAt table total) ps p b.own w.own;
    counted = let x = b.counted in let y = w.counted in let z = length-append notes own in omega (arith, x, y, z, merged_is, amount_is);
    work = rw (entries_push ps p, known_push ps p)
        (joined granted refused is_note fresh size total (all_entries ps) (entries_of p) (most_known ps) (known_of p)
        (λ mark. All (λ q. AllowsMark q mark) ps) (AllowsMark p) (λ mark. All (λ q. AllowsMark q mark) (ps ++ p ∷ [])) notes own (allowed_parts ps p) b.work w.work);
    faults = let x = b.faults in let y = w.faults in let z = sum_by-append (λ (m : M). meets_fault (refused m)) notes own in let s = sum_by_push met_of ps p in omega (arith, x, y, z, s);
  })
