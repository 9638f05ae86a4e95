-- How a note of a session is said.
use Rattle.std.specs.Prelude.{◌==◌, ◌||◌, ℕ, List, [], ◌++◌, codes, flat_map, Bool, true, false, if◌then◌else◌}
use Rattle.std.specs.Prelude.{◌≡◌, ◌^◌, ◌-◌, ◌∷◌, Option, None, Some, is_some}
use Rattle.std.specs.Option.{option_map, option_map_or, option_to_list}
use Rattle.std.specs.Ordering.{nat_cmp}
use Rattle.std.specs.Cmp.Lexicographic.{slice_cmp}
use Rattle.std.specs.List.Sorted.{IsPermutation, IsSorted}
use Rattle.std.specs.Fmt.{decimal}
use Rattle.std.specs.List.{concat, list_any}
use Rattle.zk_model.specs.declared.Span.{Span}
use Rattle.session_core.specs.declared.fault.HelloDiffers.{HelloDiffers}
use Rattle.session_core.specs.declared.fault.HelloDiffers.TheVariants as differs
use Rattle.session_verifier.specs.declared.note.SessionNote.{SessionNote}
use Rattle.session_verifier.specs.declared.note_lines.Failures.{Failures}
use Rattle.session_verifier.specs.declared.note.VerifierOutcome.{VerifierOutcome}
use Rattle.session_verifier.specs.declared.note.VerifierOutcome.TheVariants as ended

-- what differs first in a hello
abbrev pub field_words : HelloDiffers → List ℕ
field_words (differs.Id want got) = codes "id"
field_words (differs.Version want got) = codes "version"
field_words (differs.Statement want got) = codes "statement"

-- how a session ended
abbrev pub outcome_words : VerifierOutcome → List ℕ
outcome_words ended.Accepted = codes "accepted"
outcome_words (ended.RejectedSum section left right) = codes "rejected sum " ++ decimal section
outcome_words (ended.RejectedOpening output left right) = codes "rejected opening " ++ decimal output
outcome_words (ended.PeerEnded at) = codes "ended " ++ decimal at
outcome_words (ended.BadFrame place) = codes "frame " ++ decimal place
outcome_words (ended.BadHello first) = codes "hello " ++ field_words first
outcome_words (ended.Exhausted at count total) =
    codes "exhausted " ++ decimal at ++ codes " " ++ decimal count ++ codes " " ++ decimal total
outcome_words ended.Device = codes "device"
outcome_words (ended.Broken first) = codes "journal " ++ decimal first
outcome_words (ended.NoBlock wants) = codes "block " ++ decimal wants
outcome_words ended.Broker = codes "broker"
outcome_words ended.Link = codes "link"
outcome_words ended.NoMemory = codes "memory"

-- the verifier has judged
abbrev pub is_judged : VerifierOutcome → Bool
is_judged ended.Accepted = true
is_judged (ended.RejectedSum section left right) = true
is_judged (ended.RejectedOpening output left right) = true
is_judged outcome = false

-- the line of a session that was granted these units
abbrev pub unit_line : Span → VerifierOutcome → List ℕ
unit_line span outcome =
    codes "units " ++ decimal span.start ++ codes ".." ++ decimal span.end
    ++ (if is_judged outcome then codes " " else codes " broken ") ++ outcome_words outcome ++ codes "\n"

-- the line of one that was granted none
abbrev pub refusal_line : VerifierOutcome → List ℕ
refusal_line outcome = codes "no grant " ++ outcome_words outcome ++ codes "\n"

-- the line of either
abbrev pub note_line : {L : Type 0} → SessionNote L → List ℕ
note_line note = option_map_or (λ span. unit_line span note.outcome) note.granted (refusal_line note.outcome)

-- the lines of the first kind, in the order of the notes, and those of the second
abbrev pub unit_lines : {L : Type 0} → List (SessionNote L) → List (List ℕ)
unit_lines notes = flat_map (λ note. option_to_list (option_map (λ span. unit_line span note.outcome) note.granted)) notes

abbrev pub refusal_lines : {L : Type 0} → List (SessionNote L) → List (List ℕ)
refusal_lines notes = flat_map (λ note. if is_some note.granted then [] else refusal_line note.outcome ∷ []) notes

-- The lines of sessions that were granted units, in the order of the notes; those of the others in byte order; and one where the door
-- failed.
pub record IsServedText {L : Type 0} (notes : List (SessionNote L)) (door_failed : Bool) (text : List ℕ) : Type 0 where
  pub refusals : List (List ℕ)
  pub each : IsPermutation (refusal_lines notes) refusals
  pub ordered : IsSorted (slice_cmp nat_cmp) refusals
  pub is : text ≡ concat (unit_lines notes) ++ concat refusals ++ (if door_failed then codes "door failed\n" else [])

-- where a session stands among the others: by its first unit, and those that were granted none last
abbrev pub start_of : Option Span → ℕ
start_of None = 2 ^ 64 - 1
start_of (Some span) = span.start

-- the status of a session: 1 where it was rejected, or its peer ended, or sent another frame or another hello, or where no block came
-- that had its units
abbrev pub outcome_status : VerifierOutcome → ℕ
outcome_status ended.Accepted = 0
outcome_status ended.Link = 4
outcome_status ended.Broker = 4
outcome_status ended.Device = 5
outcome_status (ended.Broken first) = 5
outcome_status (ended.Exhausted at count total) = 6
outcome_status ended.NoMemory = 7
outcome_status outcome = 1

-- one of the sessions has this status
abbrev pub has_status : {L : Type 0} → List (SessionNote L) → ℕ → Bool
has_status notes status = list_any (λ note. outcome_status note.outcome == status) notes

-- what failed beside the sessions: the door, the shelf, and memory
abbrev pub failures : Bool → Bool → Bool → Failures
failures door shelf memory = record { door = door; shelf = shelf; memory = memory }

-- the first that applies of 7, 5, 6, 4, 1 and 0
abbrev pub served_status : {L : Type 0} → List (SessionNote L) → Failures → ℕ
served_status notes failed =
    if failed.memory || has_status notes 7 then 7
    else if has_status notes 5 then 5
    else if has_status notes 6 then 6
    else if failed.door || failed.shelf || has_status notes 4 then 4
    else if has_status notes 1 then 1
    else 0
