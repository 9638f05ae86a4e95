-- What is said gives what the status says.
use Rattle.std.proofs.Common.{◌≡◌, ◌⊎◌, ◌≤◌, ℕ, List, refl, sym, ◌∙◌, inl, inr, arith, nat_le, cond, true, false}
use Rattle.std.proofs.lemmas.Bool.Decides.{nat_tests}
use Rattle.dealer_files.specs.declared.fault.FileFault.{FileFault}
use Rattle.dealer_files.specs.declared.fault.FileFault.TheVariants as file
use Rattle.file_commands.specs.Effects.{SinkChange, SinkFailed, SomeFailed, Effects}
use Rattle.file_commands.specs.Stops.{Prints, PrintsMade, WritesAll, SaysStop, IsOfStop, StatusMeans, after_sink_fault, stop_status, stop_line}
use Rattle.file_commands.specs.declared.refusal.Refusal.{Refusal}
use Rattle.file_commands.specs.declared.refusal.Refusal.TheVariants as stop

-- a status above 1 is left by a fault of the sink
high_stays : (status : ℕ) → 2 ≤ status → after_sink_fault status ≡ status
high_stays status high =
    elim (nat_le status 1) as (λ b. nat_le status 1 ≡ b → cond b 4 status ≡ status) [
      | true ↦ λ low. absurd (low_from_test status low high)
      | false ↦ λ low. refl
    ] refl
  where
    low_from_test : (status : ℕ) → nat_le status 1 ≡ true → 2 ≤ status → ⊥
    low_from_test status low high = grind (arith, nat_tests)

-- a line with a status above 1 gives that status, or 7
line_answers : (status : ℕ) (text : List ℕ) (answer : ℕ) (sink : SinkChange) → 2 ≤ status → Prints status text answer sink
    → (answer ≡ status) ⊎ (answer ≡ 7)
line_answers status text answer sink high (inl whole) = inl whole.0
line_answers status text answer sink high (inr (inl fault)) = inl (fault.0 ∙ high_stays status high)
line_answers status text answer sink high (inr (inr short)) = inr short.0

pub file_status : (fault : FileFault) → (stop_status (stop.BadFile fault) ≡ 3) ⊎ (stop_status (stop.BadFile fault) ≡ 7)
file_status file.BadMagic = inl refl
file_status file.BadKind = inl refl
file_status file.BadParam = inl refl
file_status (file.Length need got) = inl refl
file_status (file.BadElement place) = inl refl
file_status file.ZeroKey = inl refl
file_status file.BadDigest = inl refl
file_status file.NoMemory = inr refl

-- all stops but one have a status above 1
abbrev pub IsHigh : Refusal → Type 0
IsHigh (stop.Unsatisfied output) = ⊥
IsHigh why = Unit {0}

high_stop : (why : Refusal) → IsHigh why → 2 ≤ stop_status why
high_stop stop.Usage high = omega arith
high_stop (stop.BadText fault) high = omega arith
high_stop (stop.BadFile fault) high = elim (file_status fault) [ inl e ↦ omega (arith, e) | inr e ↦ omega (arith, e) ]
high_stop (stop.TooLong limit) high = omega arith
high_stop (stop.ManyPublic inputs got) high = omega arith
high_stop (stop.WrongBits need got) high = omega arith
high_stop (stop.WrongOutputs need got) high = omega arith
high_stop (stop.BadElements fault) high = omega arith
high_stop (stop.BadConstraints fault) high = omega arith
high_stop (stop.NotDealt unit) high = omega arith
high_stop (stop.BadLog place) high = omega arith
high_stop (stop.StatementLine line) high = omega arith
high_stop (stop.StatementCount lines) high = omega arith
high_stop (stop.Unsatisfied output) high = absurd high
high_stop stop.DoorFailed high = omega arith
high_stop stop.ShelfFailed high = omega arith
high_stop stop.NoMemory high = omega arith
high_stop (stop.TooLarge need units) high = omega arith
high_stop (stop.JournalShort need got) high = omega arith
high_stop (stop.JournalHeader place) high = omega arith
high_stop (stop.JournalBody slot) high = omega arith
high_stop (stop.JournalFailed count) high = omega arith

memory_answers : (answer : ℕ) (sink : SinkChange) → Prints (stop_status stop.NoMemory) (stop_line stop.NoMemory) answer sink → answer ≡ 7
memory_answers answer sink prints =
    elim (line_answers 7 (stop_line stop.NoMemory) answer sink (omega arith) prints) [ inl e ↦ e | inr e ↦ e ]

-- the status of a stop whose line is written, or for which there is no memory
pub stop_answers : (why : Refusal) (answer : ℕ) (sink : SinkChange) → IsHigh why
    → PrintsMade (stop_status why) (stop_line why) answer sink → (answer ≡ stop_status why) ⊎ (answer ≡ 7)
stop_answers why answer sink high (inl prints) = line_answers (stop_status why) (stop_line why) answer sink (high_stop why high) prints
stop_answers why answer sink high (inr prints) = inr (memory_answers answer sink prints)

-- what a fault of the sink makes of a status
after_fault : (status : ℕ) → (after_sink_fault status ≡ status) ⊎ (after_sink_fault status ≡ 4)
after_fault status = elim (nat_le status 1) as (λ b. (cond b 4 status ≡ status) ⊎ (cond b 4 status ≡ 4)) [ true ↦ inr refl | false ↦ inl refl ]

-- the status of a line, whatever it is
pub any_answers : (status : ℕ) (text : List ℕ) (answer : ℕ) (sink : SinkChange) → PrintsMade status text answer sink
    → (answer ≡ status) ⊎ ((answer ≡ 4) × SinkFailed sink) ⊎ (answer ≡ 7)
any_answers status text answer sink (inl (inl whole)) = inl whole.0
any_answers status text answer sink (inl (inr (inl fault))) =
    elim (after_fault status) [ inl e ↦ inl (fault.0 ∙ e) | inr e ↦ inr (inl (fault.0 ∙ e, fault.2)) ]
any_answers status text answer sink (inl (inr (inr short))) = inr (inr short.0)
any_answers status text answer sink (inr prints) = inr (inr (memory_answers answer sink prints))

-- of a line of status 0
pub zero_answers : (text : List ℕ) (answer : ℕ) (sink : SinkChange) → PrintsMade 0 text answer sink
    → ((answer ≡ 0) × WritesAll text sink) ⊎ ((answer ≡ 4) × SinkFailed sink) ⊎ (answer ≡ 7)
zero_answers text answer sink (inl (inl whole)) = inl whole
zero_answers text answer sink (inl (inr (inl fault))) = inr (inl (fault.0, fault.2))
zero_answers text answer sink (inl (inr (inr short))) = inr (inr short.0)
zero_answers text answer sink (inr prints) = inr (inr (memory_answers answer sink prints))

-- of a line of status 0 or 1
pub low_answers : (status : ℕ) (text : List ℕ) (answer : ℕ) (sink : SinkChange) → after_sink_fault status ≡ 4 → PrintsMade status text answer sink
    → ((answer ≡ status) × WritesAll text sink) ⊎ ((answer ≡ 4) × SinkFailed sink) ⊎ (answer ≡ 7)
low_answers status text answer sink four (inl (inl whole)) = inl whole
low_answers status text answer sink four (inl (inr (inl fault))) = inr (inl (fault.0 ∙ four, fault.2))
low_answers status text answer sink four (inl (inr (inr short))) = inr (inr short.0)
low_answers status text answer sink four (inr prints) = inr (inr (memory_answers answer sink prints))

-- ---- what the status says

-- of a run whose text is written
pub made_means : (Does : Type 0) (Cause : Refusal → Type 0) (IsNamed : List ℕ → Type 0) (text : List ℕ) (run : Effects)
    → (WritesAll text run.sink → Does) → PrintsMade 0 text run.status run.sink → StatusMeans Does Cause IsNamed run
made_means Does Cause IsNamed text run does (inl (inl whole)) = inl (whole.0, does whole.1)
made_means Does Cause IsNamed text run does (inl (inr (inl fault))) = inr (inr (inl (fault.0, inr fault.2)))
made_means Does Cause IsNamed text run does (inl (inr (inr short))) = inr (inr (inr (inl short.0)))
made_means Does Cause IsNamed text run does (inr prints) = inr (inr (inr (inl (memory_answers run.status run.sink prints))))

-- of a run that stops, for another cause than words of no command, the disk, the door or other outputs
pub stop_means : (Does : Type 0) (Cause : Refusal → Type 0) (IsNamed : List ℕ → Type 0) (run : Effects) → ¬ Cause stop.Usage
    → ¬ Cause stop.DoorFailed → ((count : ℕ) → ¬ Cause (stop.JournalFailed count)) → ((output : ℕ) → ¬ Cause (stop.Unsatisfied output))
    → (Cause stop.ShelfFailed → SomeFailed IsNamed run.shelf) → SaysStop Cause run
    → StatusMeans Does Cause IsNamed run
stop_means Does Cause IsNamed run asked undoored undisked satisfied failed says =
    elim (stop_answers says.stop run.status run.sink (is_high says.stop says.cause) says.prints) [
      | inl e ↦ of_stop says.stop says.cause e
      | inr e ↦ inr (inr (inr (inl e)))
    ]
  where
    is_high : (why : Refusal) → Cause why → IsHigh why
    is_high (stop.Unsatisfied output) cause = satisfied output cause
    is_high other cause = tt

    of_stop : (why : Refusal) → Cause why → run.status ≡ stop_status why → StatusMeans Does Cause IsNamed run
    of_stop (stop.Unsatisfied output) cause at = absurd (satisfied output cause)
    of_stop stop.Usage cause at = absurd (asked cause)
    of_stop (stop.BadText fault) cause at = inr (inl (at, (stop.BadText fault, cause, refl)))
    of_stop (stop.BadFile fault) cause at = elim (file_status fault) [
      | inl e ↦ inr (inl (at ∙ e, (stop.BadFile fault, cause, sym e)))
      | inr e ↦ inr (inr (inr (inl (at ∙ e))))
    ]
    of_stop (stop.TooLong limit) cause at = inr (inl (at, (stop.TooLong limit, cause, refl)))
    of_stop (stop.ManyPublic inputs got) cause at = inr (inl (at, (stop.ManyPublic inputs got, cause, refl)))
    of_stop (stop.WrongBits need got) cause at = inr (inl (at, (stop.WrongBits need got, cause, refl)))
    of_stop (stop.WrongOutputs need got) cause at = inr (inl (at, (stop.WrongOutputs need got, cause, refl)))
    of_stop (stop.BadElements fault) cause at = inr (inl (at, (stop.BadElements fault, cause, refl)))
    of_stop (stop.BadConstraints fault) cause at = inr (inl (at, (stop.BadConstraints fault, cause, refl)))
    of_stop (stop.NotDealt unit) cause at = inr (inl (at, (stop.NotDealt unit, cause, refl)))
    of_stop (stop.BadLog place) cause at = inr (inl (at, (stop.BadLog place, cause, refl)))
    of_stop (stop.StatementLine line) cause at = inr (inl (at, (stop.StatementLine line, cause, refl)))
    of_stop (stop.StatementCount lines) cause at = inr (inl (at, (stop.StatementCount lines, cause, refl)))
    of_stop stop.DoorFailed cause at = absurd (undoored cause)
    of_stop stop.ShelfFailed cause at = inr (inr (inl (at, inl (failed cause))))
    of_stop stop.NoMemory cause at = inr (inr (inr (inl at)))
    of_stop (stop.TooLarge need units) cause at = inr (inr (inr (inr (at, (stop.TooLarge need units, cause, refl)))))
    of_stop (stop.JournalShort need got) cause at = inr (inl (at, (stop.JournalShort need got, cause, refl)))
    of_stop (stop.JournalHeader place) cause at = inr (inl (at, (stop.JournalHeader place, cause, refl)))
    of_stop (stop.JournalBody slot) cause at = inr (inl (at, (stop.JournalBody slot, cause, refl)))
    of_stop (stop.JournalFailed count) cause at = absurd (undisked count cause)

-- no stop but that of too many units has status 9
pub no_nine : (Cause : Refusal → Type 0) → ((need units : ℕ) → ¬ Cause (stop.TooLarge need units)) → IsOfStop Cause 9 → ⊥
no_nine Cause small found = of_stop found.0 found.1 found.2
  where
    of_stop : (why : Refusal) → Cause why → 9 ≡ stop_status why → ⊥
    of_stop stop.Usage cause at = omega (arith, at)
    of_stop (stop.BadText fault) cause at = omega (arith, at)
    of_stop (stop.BadFile fault) cause at = elim (file_status fault) [ inl e ↦ omega (arith, at, e) | inr e ↦ omega (arith, at, e) ]
    of_stop (stop.TooLong limit) cause at = omega (arith, at)
    of_stop (stop.ManyPublic inputs got) cause at = omega (arith, at)
    of_stop (stop.WrongBits need got) cause at = omega (arith, at)
    of_stop (stop.WrongOutputs need got) cause at = omega (arith, at)
    of_stop (stop.BadElements fault) cause at = omega (arith, at)
    of_stop (stop.BadConstraints fault) cause at = omega (arith, at)
    of_stop (stop.NotDealt unit) cause at = omega (arith, at)
    of_stop (stop.BadLog place) cause at = omega (arith, at)
    of_stop (stop.StatementLine line) cause at = omega (arith, at)
    of_stop (stop.StatementCount lines) cause at = omega (arith, at)
    of_stop (stop.Unsatisfied output) cause at = omega (arith, at)
    of_stop stop.DoorFailed cause at = omega (arith, at)
    of_stop stop.ShelfFailed cause at = omega (arith, at)
    of_stop stop.NoMemory cause at = omega (arith, at)
    of_stop (stop.JournalShort need got) cause at = omega (arith, at)
    of_stop (stop.JournalHeader place) cause at = omega (arith, at)
    of_stop (stop.JournalBody slot) cause at = omega (arith, at)
    of_stop (stop.JournalFailed count) cause at = omega (arith, at)
    of_stop (stop.TooLarge need units) cause at = small need units cause
