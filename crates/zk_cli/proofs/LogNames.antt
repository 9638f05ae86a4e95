-- Sessions that were granted units have logs of different names.
use Rattle.std.proofs.Common.{◌≡◌, ◌≢◌, ◌≤◌, ◌<◌, ◌^◌, ◌++◌, ℕ, Bool, List, Option, Some, None, IfSome, codes, max, get_or, inl, inr, arith}
use Rattle.std.specs.Fmt.{decimal}
use Rattle.std.proofs.lemmas.Fmt.{decimal_injective}
use Rattle.std.proofs.lemmas.List.{append_cancel_left}
use Rattle.zk_model.specs.declared.Span.{Span}
use Rattle.zk_port.specs.Files.{Files}
use Rattle.zk_port.specs.Links.{LinkState}
use Rattle.session_pool.specs.Notes.{AreGrantsApart, IsBetween}
use Rattle.session_verifier.specs.ServiceLogs.{HaveApartNames, log_name}
use Rattle.session_verifier.specs.declared.note.SessionNote.{SessionNote}
use Rattle.claim_files.specs.Services.{Service}
use Rattle.file_commands.specs.Effects.{DoorChange}
use Rattle.file_commands.specs.Journals.{DiskChange}
use Rattle.zk_cli.specs.ServeRuns.{LeadsFiles, units_of_note}
use Rattle.zk_cli.proofs.Serving.{claim_job}

-- two spans that have units, and none in common
names_differ : (front : List ℕ) (base ceiling total m n : ℕ) (one other : Option Span) → 1 ≤ m → 1 ≤ n → total < 2 ^ 64
    → IsBetween m base ceiling one → IsBetween n base ceiling other → IfSome one (λ s. s.end ≤ total) → IfSome other (λ t. t.end ≤ total)
    → AreGrantsApart one other → IfSome one (λ s. IfSome other (λ t. log_name front s.start ≢ log_name front t.start))
names_differ front base ceiling total m n None other some_m some_n bounded between_one between_other within_one within_other apart = tt
names_differ front base ceiling total m n (Some s) None some_m some_n bounded between_one between_other within_one within_other apart = tt
names_differ front base ceiling total m n (Some s) (Some t) some_m some_n bounded between_one between_other within_one within_other apart = λ same.
    let s_end = between_one.1 in
    let t_end = between_other.1 in
    let starts : s.start ≡ t.start = decimal_injective s.start t.start (omega (arith, s_end, within_one, bounded)) (omega (arith, t_end, within_other, bounded))
    (append_cancel_left (front ++ codes ".") (decimal s.start) (decimal t.start) same) in
    elim apart [
      | inl before ↦ absurd (omega (arith, before, s_end, starts, some_m))
      | inr behind ↦ absurd (omega (arith, behind, t_end, starts, some_n))
    ]

some_units : (n : ℕ) → 1 ≤ max 1 n
some_units n = omega arith

-- those of one service
pub apart_names : {L : Type 0} (prefix : Option (List ℕ)) (link_tells : L → LinkState) (service : Service) (notes : List (SessionNote L))
    (door_failed memory_failed : Bool) (told : Option Files) (disk : DiskChange) (door : DoorChange)
    → LeadsFiles link_tells service notes door_failed memory_failed told disk door → HaveApartNames prefix notes
apart_names None link_tells service notes door_failed memory_failed told disk door files = tt
apart_names (Some front) link_tells service notes door_failed memory_failed told disk door files = λ i j d below within.
    let leads = files.leads in
    let first = claim_job told service files.jobs files.served 0 (omega arith) in
    let few = first.2.1.file.says.1.params.total in
    names_differ front leads.base leads.ceiling files.jobs.first.task.file.params.total (units_of_note files.jobs (get_or notes i d))
    (units_of_note files.jobs (get_or notes j d)) (get_or notes i d).granted (get_or notes j d).granted (some_units _) (some_units _) (omega (arith, few))
    (leads.spans i d (omega (arith, below, within))) (leads.spans j d within) (leads.within i d (omega (arith, below, within))) (leads.within j d within)
    (leads.apart i j d below within)
