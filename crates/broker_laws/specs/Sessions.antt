-- What sessions of a node come to.
use Rattle.std.specs.Prelude.{◌≡◌, ℕ, All, Bool, List, [], ◌∷◌, ◌++◌, Option, None, Some, flat_map, map}
use Rattle.std.specs.List.{AllZip}
use Rattle.zk_model.specs.declared.Span.{Span}
use Rattle.zk_port.specs.Disks.{DiskState}
use Rattle.zk_port.specs.Links.{LinkState}
use Rattle.broker_links.specs.declared.note.Try.{Try}
use Rattle.session_core.specs.Jobs.{VerifierJobs}
use Rattle.session_verifier.specs.declared.note.SessionNote.{SessionNote}
use Rattle.node_grants.specs.Desks.{Desk}
use Rattle.node_grants.specs.Grants.{ports_of}
use Rattle.node_sessions.specs.Sessions.{HaveLed}
use Rattle.broker_laws.specs.Histories.{Deed, Happened, Parties, of_node, parties_at_first, units_in}
use Rattle.broker_laws.specs.Laws.{DrawsNoUnitTwice, LogsWant, all_brought}
use Rattle.broker_laws.specs.NodeDeeds.{AreNodeDeeds, IsWithinRun, NodeDeed, all_asked, all_came, node_party, node_run}
use Rattle.broker_laws.specs.Runs.{AreInterleaved}

-- the units that a session was granted
abbrev pub granted_to : Option Span → List Span
granted_to None = []
granted_to (Some s) = s ∷ []

-- those of these sessions, and the tries that they made, in order
abbrev pub all_granted : {L : Type 0} → List (SessionNote L) → List Span
all_granted notes = flat_map (λ note. granted_to note.granted) notes

abbrev pub all_tries : {L : Type 0} → List (SessionNote L) → List (Try L)
all_tries notes = flat_map (λ note. note.tries.items) notes

-- Sessions of the node of a number come to deeds that lead from the one desk to the other: one Want for each try, as its log has it; each Block that
-- a try brought, which is met; and a draw of the units of each session that was granted any. So these are the units that the deeds draw. Where the disk
-- fails in a claim, the journal keeps its units or not, as is said. None is a start or a stop.
pub record LeadsByDeeds {B L : Type 0} (state : B → DiskState) (total number : ℕ) (kept : Bool) (journal : List Span) (old new : Desk B L)
    (notes : List (SessionNote L)) : Type 0 where
  pub deeds : List (NodeDeed B)
  pub left : List Span
  pub did : AreNodeDeeds state total number deeds (node_party journal (Some (node_run old.node old.claims)))
      (node_party left (Some (node_run new.node new.claims)))
  pub asked : AllZip (λ want t. LogsWant want t.log) (all_asked deeds) (all_tries notes)
  pub came : all_came deeds ≡ all_brought (all_tries notes)
  pub drawn : units_in (map (of_node number) deeds) ≡ all_granted notes
  pub within : All (IsWithinRun kept) deeds

-- all sessions come to such deeds, whichever is said
abbrev pub SessionsAreDeeds : {B L : Type 0} → (L → LinkState) → (B → DiskState) → Type 0
SessionsAreDeeds {B} {L} tells state =
    (broker : List ℕ) (patience : ℕ) (jobs : VerifierJobs) (sessions total number : ℕ) (kept : Bool) (journal : List Span) (old new : Desk B L)
    (notes : List (SessionNote L))
    → HaveLed (ports_of tells state broker patience) jobs sessions old new notes
    → LeadsByDeeds state total number kept journal old new notes

-- ---- sessions in a history

-- A run of the node of a number, which led these sessions: its deeds are theirs.
pub record SessionRun (B L : Type 0) (state : B → DiskState) (total : ℕ) : Type 0 where
  pub number : ℕ
  pub kept : Bool
  pub journal : List Span
  pub old : Desk B L
  pub new : Desk B L
  pub notes : List (SessionNote L)
  pub led : LeadsByDeeds state total number kept journal old new notes

abbrev pub deeds_of : {B L : Type 0} {state : B → DiskState} {total : ℕ} → SessionRun B L state total → List (Deed B)
deeds_of run = map (of_node run.number) run.led.deeds

-- Where a history interleaves the deeds of runs that led sessions, of whatever nodes, with other deeds (those of the broker, the nodes' starts, and
-- runs that were stopped), no two of all these sessions were granted a unit in common, and what they were granted ends at or below the ceiling that
-- the broker's journal keeps.
abbrev pub SessionsGrantOnce : {B C : Type 0} → Type 0 → (B → DiskState) → (C → DiskState) → Type 0
SessionsGrantOnce {B} {C} L node_disk broker_disk =
    (total nodes : ℕ) (history : List (Deed B)) (last : Parties B) (runs : List (SessionRun B L node_disk total)) (others : List (List (Deed B)))
    → Happened node_disk broker_disk total nodes history parties_at_first last → AreInterleaved (map deeds_of runs ++ others) history
    → DrawsNoUnitTwice last.broker.ceiling (flat_map (λ run. all_granted run.notes) runs)
