-- The notes of a node's sessions, and what they leave of its door.
use Rattle.std.proofs.Common.{◌≡◌, ◌≢◌, ◌⊎◌, ◌≤◌, ℕ, zero, suc, Bool, true, false, List, [], ◌∷◌, ◌++◌, All, Option, None, Some, Result, Ok, Err, refl, sym, ap, ◌∙◌, subst, inl, inr, arith}
use Rattle.std.specs.Prelude.{MatchOption}
use Rattle.std.proofs.lemmas.List.Elements.{All-nil, All-push}
use Rattle.zk_model.specs.declared.Span.{Span}
use Rattle.zk_port.specs.Counts.{Rose}
use Rattle.zk_port.specs.Doors.{DoorState, after_refused_next}
use Rattle.zk_port.specs.Links.{LinkState}
use Rattle.lease_store.specs.declared.grantor.GrantFault.{GrantFault}
use Rattle.lease_store.specs.declared.grantor.GrantFault.TheVariants as grant
use Rattle.session_core.specs.Jobs.{VerifierJobs}
use Rattle.session_verifier.specs.Sessions.{IsAnsweredNote}
use Rattle.session_verifier.specs.declared.note.SessionNote.{SessionNote}
use Rattle.node_grants.specs.Desks.{Desk}
use Rattle.node_grants.specs.Grants.{IsGrantOf, IsTryResult, IsUngranted, Ports, Tried}
use Rattle.node_sessions.specs.Sessions.{EndsServing, HaveLed, IsLed, LeadsNext, size_of}

-- a note is one of a session in which the node answered so, if it was asked
abbrev pub IsNodeNote : {L : Type 0} → (L → LinkState) → VerifierJobs → SessionNote L → Type 0
IsNodeNote tells jobs note = (answer : Option (Result Span GrantFault)) × IsAnsweredNote tells jobs answer note

pub led_notes : {B L : Type 0} (ports : Ports B L) (jobs : VerifierJobs) (n : ℕ) (first new : Desk B L) (notes : List (SessionNote L))
    → HaveLed ports jobs n first new notes → All (IsNodeNote ports.tells jobs) notes
led_notes ports jobs zero first new notes led =
    subst (All (IsNodeNote ports.tells jobs)) (sym led.1) (All-nil (IsNodeNote ports.tells jobs))
led_notes ports jobs (suc n) first new notes led =
    subst (All (IsNodeNote ports.tells jobs)) (sym led.5)
    (All-push (IsNodeNote ports.tells jobs) led.1 led.2 (led_notes ports jobs n first led.0 led.1 led.3) (led.4.led.answer, led.4.led.is_note))

-- ---- the door

-- calls of the broker leave these counts of the door
record SameCounts (old new : DoorState) : Type 0 where
  pub listens : new.listen_faults ≡ old.listen_faults
  pub nexts : new.next_faults ≡ old.next_faults

same_counts : (old new : DoorState) → new ≡ old → SameCounts old new
same_counts old new same = record {
  listens = ap (λ (d : DoorState). d.listen_faults) same;
  nexts = ap (λ (d : DoorState). d.next_faults) same;
}

counts_then : (a b c : DoorState) → SameCounts a b → SameCounts b c → SameCounts a c
counts_then a b c one next = record { listens = next.listens ∙ one.listens; nexts = next.nexts ∙ one.nexts }

tried_counts : {B L : Type 0} (ports : Ports B L) (count n : ℕ) (old new : Desk B L) → Tried ports count n old new → SameCounts old.door new.door
tried_counts {B} {L} ports count zero old new tried = same_counts old.door new.door (ap (λ (d : Desk B L). d.door) tried)
tried_counts ports count (suc n) old new tried =
    counts_then old.door tried.0.door new.door (tried_counts ports count n old tried.0 tried.1)
    (record { listens = ap (λ (d : DoorState). d.listen_faults) tried.3.called; nexts = ap (λ (d : DoorState). d.next_faults) tried.3.called })

ended_counts : {B L : Type 0} (ports : Ports B L) (count : ℕ) (fault : GrantFault) (old new : Desk B L) → IsTryResult ports count (Err fault) old new
    → SameCounts old.door new.door
ended_counts ports count fault old new (inl made) =
    record { listens = ap (λ (d : DoorState). d.listen_faults) made.called; nexts = ap (λ (d : DoorState). d.next_faults) made.called }
ended_counts ports count fault old new (inr (inl lacks)) = record {
  listens = ap (λ (d : DoorState). d.listen_faults) lacks.refused.rest;
  nexts = ap (λ (d : DoorState). d.next_faults) lacks.refused.rest;
}
ended_counts {B} {L} ports count fault old new (inr (inr none)) = same_counts old.door new.door (ap (λ (d : Desk B L). d.door) none.1)

ungranted_counts : {B L : Type 0} (ports : Ports B L) (count : ℕ) (fault : GrantFault) (old new : Desk B L) → IsUngranted ports count fault old new
    → SameCounts old.door new.door
ungranted_counts ports count fault old new not =
    counts_then old.door not.mid.door new.door (tried_counts ports count not.tries old not.mid not.tried) (ended_counts ports count fault not.mid new not.ends)

granted_counts : {B L : Type 0} (ports : Ports B L) (count : ℕ) (result : Result Span GrantFault) (old new : Desk B L)
    → IsGrantOf ports count result old new → SameCounts old.door new.door
granted_counts {B} {L} ports count (Ok s) old new granted =
    counts_then old.door granted.mid.door new.door (tried_counts ports count granted.tries old granted.mid granted.tried)
    (same_counts granted.mid.door new.door (ap (λ (d : Desk B L). d.door) granted.draws.rest))
granted_counts ports count (Err (grant.Lease fault)) old new not = ungranted_counts ports count (grant.Lease fault) old new not
granted_counts ports count (Err grant.NoMemory) old new not = ungranted_counts ports count grant.NoMemory old new not
granted_counts ports count (Err (grant.NoBlock wants)) old new not = tried_counts ports count wants old new not.tried
granted_counts ports count (Err grant.Broker) old new not = ungranted_counts ports count grant.Broker old new not

one_counts : {B L : Type 0} (ports : Ports B L) (jobs : VerifierJobs) (old new : Desk B L) (note : SessionNote L) → IsLed ports jobs old new note
    → SameCounts old.door new.door
one_counts {B} {L} ports jobs old new note led = by led.answer led.moved where
  by : (answer : Option (Result Span GrantFault)) → MatchOption answer (new ≡ old) (λ a. IsGrantOf ports (size_of jobs note) a old new)
      → SameCounts old.door new.door
  by None same = same_counts old.door new.door (ap (λ (d : Desk B L). d.door) same)
  by (Some a) moved = granted_counts ports (size_of jobs note) a old new moved

next_counts : {B L : Type 0} (ports : Ports B L) (jobs : VerifierJobs) (old new : Desk B L) (note : SessionNote L) → LeadsNext ports jobs old new note
    → SameCounts old.door new.door
next_counts ports jobs old new note next =
    counts_then old.door next.door new.door
    (record { listens = ap (λ (d : DoorState). d.listen_faults) next.taken; nexts = ap (λ (d : DoorState). d.next_faults) next.taken })
    (one_counts ports jobs (record old { door = next.door; tries = [] }) new note next.led)

led_counts : {B L : Type 0} (ports : Ports B L) (jobs : VerifierJobs) (n : ℕ) (first new : Desk B L) (notes : List (SessionNote L))
    → HaveLed ports jobs n first new notes → SameCounts first.door new.door
led_counts {B} {L} ports jobs zero first new notes led = same_counts first.door new.door (ap (λ (d : Desk B L). d.door) led.0)
led_counts ports jobs (suc n) first new notes led =
    counts_then first.door led.0.door new.door (led_counts ports jobs n first led.0 led.1 led.3) (next_counts ports jobs led.0 new led.2 led.4)

-- what a door's counts say of sessions that ended so
pub record EndsSo (door_failed : Bool) (first now : DoorState) : Type 0 where
  pub heard : now.listen_faults ≡ first.listen_faults
  pub failed : door_failed ≡ true → Rose first.next_faults now.next_faults
  pub calm : door_failed ≡ false → now.next_faults ≡ first.next_faults

ends_so : (sessions led : ℕ) (door_failed memory_failed : Bool) (last now : DoorState) → EndsServing sessions led door_failed memory_failed last now
    → EndsSo door_failed last now
ends_so sessions led false false last now (inl ends) = record {
  heard = ap (λ (d : DoorState). d.listen_faults) ends.1;
  failed = λ no. cc;
  calm = λ _. ap (λ (d : DoorState). d.next_faults) ends.1;
}
ends_so sessions led false false last now (inr ends) = record {
  heard = ap (λ (d : DoorState). d.listen_faults) ends.2;
  failed = λ no. cc;
  calm = λ _. ap (λ (d : DoorState). d.next_faults) ends.2;
}
ends_so sessions led true false last now ends =
    record { heard = ap (λ (d : DoorState). d.listen_faults) ends.1; failed = λ _. ends.0; calm = λ no. cc }
ends_so sessions led false true last now (inl ends) = record {
  heard = ap (λ (d : DoorState). d.listen_faults) ends.1;
  failed = λ no. cc;
  calm = λ _. ap (λ (d : DoorState). d.next_faults) ends.1;
}
ends_so sessions led false true last now (inr ends) = record {
  heard = ap (λ (d : DoorState). d.listen_faults) ends;
  failed = λ no. cc;
  calm = λ _. ap (λ (d : DoorState). d.next_faults) ends;
}
ends_so sessions led true true last now ends = absurd ends

pub ends_counts : {B L : Type 0} (ports : Ports B L) (jobs : VerifierJobs) (sessions n : ℕ) (first last : Desk B L) (now : DoorState)
    (notes : List (SessionNote L)) (door_failed memory_failed : Bool) → HaveLed ports jobs n first last notes
    → EndsServing sessions n door_failed memory_failed last.door now → EndsSo door_failed first.door now
ends_counts ports jobs sessions n first last now notes door_failed memory_failed led ends =
    let same = led_counts ports jobs n first last notes led in
    let so = ends_so sessions n door_failed memory_failed last.door now ends in
    record {
      heard = so.heard ∙ same.listens;
      failed = λ at. subst (λ (k : ℕ). Rose k now.next_faults) same.nexts (so.failed at);
      calm = λ none. so.calm none ∙ same.nexts;
    }
