-- Runs over one file's journals, one after the other, as events of the lease machine.
use Rattle.std.specs.Prelude.{◌≡◌, ◌⊎◌, ℕ, ◌+◌, ◌<◌, ◌≤◌, true, false, List, [], ◌∷◌, ◌++◌, Option, None, Some, All}
use Rattle.std.specs.List.{Contains}
use Rattle.claim_store.specs.ClaimedRanges.{AreMerged, RiseFrom}
use Rattle.zk_model.specs.declared.Span.{Span}
use Rattle.zk_model.specs.declared.limits.TheConstants.{MAX_UNITS}
use Rattle.zk_port.specs.Disks.{DiskState}
use Rattle.zk_port.specs.Files.{Files}
use Rattle.lease_core.specs.Kept.{IsReached}
use Rattle.lease_core.specs.Machine.{Machine, after_all, are_possible, durable}
use Rattle.lease_core.specs.Spans.{AreApart}
use Rattle.lease_core.specs.declared.event.Event.{Event}
use Rattle.lease_store.specs.Ceilings.{FindsCeiling, SaysCeiling}
use Rattle.lease_store.specs.Stops.{Deed, asks, shows, grants, MayDo}
use Rattle.lease_store.specs.Storing.{Stores}
use Rattle.twin_journal.specs.States.{TwinState}
use Rattle.claim_store.specs.Claims.{AreClaims}
use Rattle.session_verifier.specs.declared.note.SessionNote.{SessionNote}
use Rattle.claim_files.specs.Services.{Service}
use Rattle.run_laws.specs.RunsInTurn.{Granted, IsOver, MayBeFound, MayBeLeft}

-- ---- runs of `serve`

-- the spans among what these were granted
abbrev pub with_granted : Option Span → List Span → List Span
with_granted None spans = spans
with_granted (Some s) spans = s ∷ spans

abbrev pub granted_spans : {M : Type 0} → (M → Option Span) → List M → List Span
granted_spans granted [] = []
granted_spans granted (note ∷ notes) = with_granted (granted note) (granted_spans granted notes)

-- from low up to high, each after the ones before, and of 1 to 4,096 units
abbrev pub AreInTurn : ℕ → List Span → ℕ → Type 0
AreInTurn low [] high = low ≤ high
AreInTurn low (s ∷ spans) high =
    (low ≤ s.start) × (s.start < s.end) × (s.end ≤ s.start + MAX_UNITS) × AreInTurn s.end spans high

-- A run began with these bytes of a journal of ceilings and was granted these spans; the next one finds these bytes. The spans lie between
-- the ceilings that the two say.
pub record RunLeaves (id : List ℕ) (total : ℕ) (first : List ℕ) (granted : List Span) (later : List ℕ) : Type 0 where
  pub base : ℕ
  pub ceiling : ℕ
  pub began : SaysCeiling id total base first
  pub left : SaysCeiling id total ceiling later
  pub stand : AreInTurn base granted ceiling

-- what a run was granted, and the bytes that the next one found
pub record PastRun : Type 0 where
  pub granted : List Span
  pub left : List ℕ

-- many runs, each of which began with what the one before had left
abbrev pub RunsLeave : List ℕ → ℕ → List ℕ → List PastRun → List ℕ → Type 0
RunsLeave id total first [] later = first ≡ later
RunsLeave id total first (run ∷ runs) later =
    RunLeaves id total first run.granted run.left × RunsLeave id total run.left runs later

-- what they were granted, in order
abbrev pub all_granted : List PastRun → List Span
all_granted [] = []
all_granted (run ∷ runs) = run.granted ++ all_granted runs

-- a machine that possible events lead to, and that is not up, with this durable ceiling, which spent these spans
pub record IsDown (total : ℕ) (spent : List Span) (ceiling : ℕ) (m : Machine) : Type 0 where
  pub reached : IsReached m
  pub down : m.up ≡ false
  pub has_pass : 0 < m.passes
  pub total_is : m.total ≡ total
  pub durable_is : durable m ≡ ceiling
  pub spent_is : m.spent ≡ spent

-- one whose durable ceiling is what these bytes say
pub record IsMachineOf (id : List ℕ) (total : ℕ) (bytes : List ℕ) (granted : List Span) (m : Machine) : Type 0 where
  pub ceiling : ℕ
  pub says : SaysCeiling id total ceiling bytes
  pub is : IsDown total granted ceiling m

-- events that are possible in their order lead from a machine to such a one
pub record EventsLead (m : Machine) (IsSuch : Machine → Type 0) : Type 0 where
  pub events : List Event
  pub possible : are_possible m events ≡ true
  pub led : IsSuch (after_all m events)

-- the ends that a run grants by these deeds
abbrev pub granted_ends : {D : Type 0} → List (Deed D) → List ℕ
granted_ends [] = []
granted_ends (asks ceiling answer now ∷ deeds) = granted_ends deeds
granted_ends (shows ceiling ∷ deeds) = granted_ends deeds
granted_ends (grants end ∷ deeds) = end ∷ granted_ends deeds

-- a crash after these deeds, or within the last of them, may leave these bytes
abbrev pub MayLeave : {D : Type 0} → (D → DiskState) → TwinState D → List (Deed D) → List ℕ → Type 0
MayLeave state journal [] left = (state journal.disk).images left
MayLeave state journal (asks ceiling answer now ∷ []) left = MayBeLeft (state journal.disk) (state now.disk) left
MayLeave state journal (asks ceiling answer now ∷ deed ∷ deeds) left = MayLeave state now (deed ∷ deeds) left
MayLeave state journal (shows ceiling ∷ deeds) left = MayLeave state journal deeds left
MayLeave state journal (grants end ∷ deeds) left = MayLeave state journal deeds left

-- Runs over one file's journal of ceilings are events of the lease machine: what a run is granted is what the machine spends in their order,
-- and the ceiling that the journal says, whatever a crash leaves, is the machine's durable one. So for any number of runs there is a
-- machine that was granted the same, and no two of these spans have a unit in common.
pub record RunsAreEvents (L : Type 0) {D : Type 0} (state : D → DiskState) : Type 0 where
  -- a run that handed its sessions back, whatever of its disk the next one finds
  pub of_run : (told : Option Files) (service : Service) (notes : List (SessionNote L)) (old new : D) (id : List ℕ) (total : ℕ)
      → (run : Granted state told service notes old new) → IsOver id total run
      → (first found : List ℕ) → (state old).content ≡ Some first → MayBeFound (state new) found
      → RunLeaves id total first (granted_spans (λ note. note.granted) notes) found
  -- a run that was stopped, whatever it had granted by then: a crash after some of its deeds, or within the last of them, left what the next
  -- one finds; and what it had granted stood one after the other from the base on
  pub of_deeds : (id : List ℕ) (total base ceiling high : ℕ) (journal : TwinState D) (deeds : List (Deed D)) (granted : List Span) (first left : List ℕ)
      → SaysCeiling id total base first → (state journal.disk).content ≡ Some first → Stores state total journal base
      → MayDo state total journal base deeds → MayLeave state journal deeds left → SaysCeiling id total ceiling left
      → AreInTurn base granted high → All (λ span. Contains (granted_ends deeds) span.end) granted
      → RunLeaves id total first granted left
  -- a run that was stopped, of which no more is known than its record says
  pub of_stop : (id : List ℕ) (total base : ℕ) (first later : List ℕ)
      → SaysCeiling id total base first → FindsCeiling id total base first later → RunLeaves id total first [] later
  -- whatever ceiling a journal says at first, a machine has it
  pub begins : (id : List ℕ) (total ceiling : ℕ) (first : List ℕ) → SaysCeiling id total ceiling first
      → (m : Machine) × IsMachineOf id total first [] m
  -- a run is events of the machine
  pub one_run : (id : List ℕ) (total : ℕ) (first : List ℕ) (before granted : List Span) (later : List ℕ) (m : Machine)
      → IsMachineOf id total first before m → RunLeaves id total first granted later
      → EventsLead m (IsMachineOf id total later (before ++ granted))
  -- and so are many
  pub all_runs : (id : List ℕ) (total : ℕ) (first : List ℕ) (before : List Span) (runs : List PastRun) (later : List ℕ) (m : Machine)
      → IsMachineOf id total first before m → RunsLeave id total first runs later
      → EventsLead m (IsMachineOf id total later (before ++ all_granted runs))
  pub apart : (id : List ℕ) (total ceiling : ℕ) (first : List ℕ) (runs : List PastRun) (later : List ℕ)
      → SaysCeiling id total ceiling first → RunsLeave id total first runs later → AreApart (all_granted runs)

-- ---- runs of `prove`

-- a machine that possible events lead to, which claimed these spans
pub record HasClaimed (total : ℕ) (claims : List Span) (m : Machine) : Type 0 where
  pub reached : IsReached m
  pub total_is : m.total ≡ total
  pub claims_are : m.claims ≡ claims

-- one whose claims have these merged ranges
pub record HasRanges (total : ℕ) (ranges : List Span) (m : Machine) : Type 0 where
  pub claims : List Span
  pub has : HasClaimed total claims m
  pub sound : AreClaims total claims
  pub merged : AreMerged claims ranges

-- A run of `prove` is the machine's event `Claim`, or none: where a journal says ranges, a machine has claims of these ranges; and where
-- the next run finds the same, or those of one claim more, events lead to a machine that has claims of them.
pub record ClaimsAreEvents : Type 0 where
  pub begins : (total : ℕ) (ranges : List Span) → AreClaims total ranges → RiseFrom 0 ranges → (m : Machine) × HasRanges total ranges m
  pub one_run : (total : ℕ) (ranges later : List Span) (claimed : Span) (m : Machine) → HasRanges total ranges m
      → (later ≡ ranges) ⊎ (AreMerged (ranges ++ claimed ∷ []) later × AreClaims total (ranges ++ claimed ∷ []))
      → EventsLead m (HasRanges total later)
