-- Sessions that were granted units have logs of different names.
use Rattle.std.proofs.Common.{◌≡◌, ◌≢◌, ◌≤◌, ◌<◌, ◌^◌, ◌++◌, ℕ, Bool, List, Option, Some, None, IfSome, codes, max, get_or, inl, inr, arith}
use Rattle.std.specs.Fmt.{decimal}
use Rattle.std.proofs.lemmas.Fmt.{decimal_injective}
use Rattle.std.proofs.lemmas.List.{append_cancel_left}
use Rattle.zk_model.specs.declared.Span.{Span}
use Rattle.session_pool.specs.Notes.{AreGrantsApart, IsBetween}
use Rattle.session_verifier.specs.ServiceLogs.{HaveApartNames, log_name}
use Rattle.session_verifier.specs.declared.note.SessionNote.{SessionNote}
use Rattle.file_commands.specs.Effects.{DoorChange}
use Rattle.file_commands.specs.Journals.{DiskChange}
use Rattle.session_service.specs.ServiceRuns.{LeadsSessions, Place, Sessions}

-- two spans that have units, and none in common
names_differ : (front : List ℕ) (base ceiling total m n : ℕ) (one other : Option Span) → 1 ≤ m → 1 ≤ n → total < 2 ^ 64
    → IsBetween m base ceiling one → IsBetween n base ceiling other → IfSome one (λ s. s.end ≤ total) → IfSome other (λ t. t.end ≤ total)
    → AreGrantsApart one other → IfSome one (λ s. IfSome other (λ t. log_name front s.start ≢ log_name front t.start))
names_differ front base ceiling total m n None other some_m some_n bounded between_one between_other within_one within_other apart = tt
names_differ front base ceiling total m n (Some s) None some_m some_n bounded between_one between_other within_one within_other apart = tt
names_differ front base ceiling total m n (Some s) (Some t) some_m some_n bounded between_one between_other within_one within_other apart = λ same.
    let s_end = between_one.1 in
    let t_end = between_other.1 in
    let starts : s.start ≡ t.start = decimal_injective s.start t.start (omega (arith, s_end, within_one, bounded)) (omega (arith, t_end, within_other, bounded))
    (append_cancel_left (front ++ codes ".") (decimal s.start) (decimal t.start) same) in
    elim apart [
      | inl before ↦ absurd (omega (arith, before, s_end, starts, some_m))
      | inr behind ↦ absurd (omega (arith, behind, t_end, starts, some_n))
    ]

-- those of one service
pub apart_names : {L : Type 0} (prefix : Option (List ℕ)) (at : Place) (led : Sessions L) (notes : List (SessionNote L)) (door_failed memory_failed : Bool)
    (disk : DiskChange) (door : DoorChange) → ((note : SessionNote L) → 1 ≤ led.size note) → led.total < 2 ^ 64
    → LeadsSessions at led notes door_failed memory_failed disk door → HaveApartNames prefix notes
apart_names None at led notes door_failed memory_failed disk door some few leads = tt
apart_names (Some front) at led notes door_failed memory_failed disk door some few leads = λ i j d below within.
    names_differ front leads.base leads.ceiling led.total (led.size (get_or notes i d)) (led.size (get_or notes j d)) (get_or notes i d).granted
    (get_or notes j d).granted (some (get_or notes i d)) (some (get_or notes j d)) few
    (leads.spans i d (omega (arith, below, within))) (leads.spans j d within) (leads.within i d (omega (arith, below, within))) (leads.within j d within)
    (leads.apart i j d below within)
