-- Why sessions of a node were refused units.
use Rattle.std.proofs.Common.{◌≡◌, ◌≢◌, ℕ, zero, suc, ◌+◌, ◌-◌, ◌^◌, ◌<◌, ◌≤◌, min, ◌⊎◌, inl, inr, Bool, true, false, List, [], ◌∷◌, length, refl, sym, ap, ◌∙◌, subst, arith, All, Option, None, Some, IfSome, length-append}
use Rattle.std.specs.Prelude.{Result, Ok, Err, MatchOption, nat_le}
use Rattle.std.proofs.lemmas.Bool.{leb-false}
use Rattle.std.proofs.lemmas.List.Elements.{All-nil, All-push}
use Rattle.zk_model.specs.declared.Span.{Span}
use Rattle.zk_model.specs.declared.messages.Block.{Block}
use Rattle.zk_port.specs.Counts.{Rose}
use Rattle.zk_port.specs.Disks.{DiskState}
use Rattle.zk_port.specs.Doors.{DoorState}
use Rattle.zk_port.specs.Links.{LinkState}
use Rattle.zk_model.specs.Frames.{frame_spelling}
use Rattle.zk_model.specs.declared.Side.TheVariants.{Prover}
use Rattle.zk_model.specs.declared.messages.Want.{Want}
use Rattle.frame_link.specs.Lines.{LinkSnapshot, snapshot}
use Rattle.broker_links.specs.Replies.{reply_frame}
use Rattle.broker_links.specs.declared.reply.Reply.TheVariants as reply
use Rattle.broker_links.specs.Tries.{IsTryCause}
use Rattle.lease_store.specs.declared.LeaseFault.{LeaseFault}
use Rattle.lease_store.specs.declared.LeaseFault.TheVariants as lease
use Rattle.lease_store.specs.declared.grantor.GrantFault.{GrantFault}
use Rattle.lease_store.specs.declared.grantor.GrantFault.TheVariants as grant
use Rattle.claim_store.specs.Claims.{ClaimState}
use Rattle.claim_store.specs.declared.ClaimFault.{ClaimFault}
use Rattle.claim_store.specs.declared.ClaimFault.TheVariants.{Broken, OutOfRange, Overlap, Full, Device, NoMemory}
use Rattle.broker_core.specs.Nodes.{may_draw}
use Rattle.broker_links.specs.Tries.{asked_log}
use Rattle.broker_links.specs.declared.note.Try.{Try}
use Rattle.broker_links.specs.declared.note.TryOutcome.{TryOutcome}
use Rattle.broker_links.specs.declared.note.TryOutcome.TheVariants as outcome
use Rattle.broker_node.specs.NodeStates.{NodeState}
use Rattle.session_core.specs.Jobs.{VerifierJobs}
use Rattle.session_verifier.specs.Outcomes.{grant_fault}
use Rattle.session_verifier.specs.declared.note.SessionNote.{SessionNote}
use Rattle.session_verifier.specs.declared.note.VerifierOutcome.{VerifierOutcome}
use Rattle.session_verifier.specs.declared.note.VerifierOutcome.TheVariants as said
use Rattle.node_grants.specs.Desks.{Desk, HasTooFew}
use Rattle.node_grants.specs.Grants.{ComesTo, HasNoBlock, IsCallFault, IsGrantOf, IsTaken, IsTryResult, IsUngranted, MakesTry, Ports, Tried, claim_end, ports_of, want_of}
use Rattle.node_sessions.specs.Sessions.{EndsServing, HaveLed, IsLed, LeadsNext, size_of}
use Rattle.node_sessions.specs.Laws.{ClaimsStay}
use Rattle.node_sessions.specs.Causes.{EndsByLink, HadTooFew, HaveCauses, IsRefusedAs, IsSpent, SessionsHaveCauses}
use Rattle.node_sessions.proofs.Kept.{IsNodeOf, drawn_stays, have_led_kept, keeps_all, keeps_then, taken_stays}
use Rattle.node_sessions.proofs.Walks.{comes_keeps, led_keeps, tries_keep}

-- ---- a try that went on

-- a try that did not lack its link or memory sent its want whole
pub want_sent : (want : Want) (of : TryOutcome) (first now : LinkSnapshot) → IsTryCause want first of now → (of ≡ outcome.Link → ⊥)
    → (of ≡ outcome.NoMemory → ⊥) → (rest : List ℕ) × (now.log ≡ asked_log want rest)
want_sent want (outcome.Block b) first now cause linked served = (frame_spelling (reply_frame (reply.Block b)), cause.logged)
want_sent want (outcome.Out o) first now cause linked served = (frame_spelling (reply_frame (reply.Out o)), cause.logged)
want_sent want (outcome.PeerEnded at) first now cause linked served = (cause.0.rest, cause.0.logged)
want_sent want (outcome.BadFrame place) first now cause linked served = (cause.rest, cause.logged)
want_sent want outcome.Link first now cause linked served = absurd (linked refl)
want_sent want outcome.NoMemory first now cause linked served = absurd (served refl)

ok_goes : {B : Type 0} (state : B → DiskState) (of : TryOutcome) (node : NodeState) (claims : ClaimState B) (now : NodeState) (new : ClaimState B)
    → ComesTo state of node claims (Ok tt) now new → (of ≡ outcome.Link → ⊥) × (of ≡ outcome.NoMemory → ⊥)
ok_goes state of node claims now new comes = (
  λ is. link (subst (λ (o : TryOutcome). ComesTo state o node claims (Ok tt) now new) is comes),
  λ is. lacks (subst (λ (o : TryOutcome). ComesTo state o node claims (Ok tt) now new) is comes),
) where
  link : ComesTo state outcome.Link node claims (Ok tt) now new → ⊥
  link to = let is = to.2 in cc

  lacks : ComesTo state outcome.NoMemory node claims (Ok tt) now new → ⊥
  lacks to = let is = to.2 in cc

few_units : (start count wanted : ℕ) → nat_le (start + wanted) (start + count) ≡ false → count < wanted
few_units start count wanted few = let more = leb-false (start + wanted) (start + count) few in omega (arith, more)

-- a Block that came, where too few units are left then
block_had : {B : Type 0} (state : B → DiskState) (count : ℕ) (node : NodeState) (claims : ClaimState B) (b : Block) (answer : Result Bool ClaimFault)
    (now : NodeState) (new : ClaimState B) → IsTaken state node claims b answer now new → Ok tt ≡ claim_end answer
    → may_draw now.own.block count ≡ false → HadTooFew count node claims (outcome.Block b)
block_had state count node claims b (Ok false) now new taken ends few = inl taken.taken.0
block_had state count node claims b (Ok true) now new taken ends few =
    inr (inr (few_units b.start b.count count
    (subst (λ (n : NodeState). may_draw n.own.block count ≡ false) taken.taken.1 few)))
block_had state count node claims b (Err (OutOfRange total)) now new taken ends few = inr (inl (OutOfRange total, refl, taken.cause.0))
block_had state count node claims b (Err (Overlap earlier)) now new taken ends few = inr (inl (Overlap earlier, refl, taken.cause.0))
block_had state count node claims b (Err (Full slots)) now new taken ends few = inr (inl (Full slots, refl, taken.cause.0))
block_had state count node claims b (Err Device) now new taken ends few = cc
block_had state count node claims b (Err (Broken first)) now new taken ends few = cc
block_had state count node claims b (Err NoMemory) now new taken ends few = cc

had_too_few : {B : Type 0} (state : B → DiskState) (count : ℕ) (of : TryOutcome) (node : NodeState) (claims : ClaimState B) (now : NodeState)
    (new : ClaimState B) → ComesTo state of node claims (Ok tt) now new → may_draw now.own.block count ≡ false → HadTooFew count node claims of
had_too_few state count (outcome.Block b) node claims now new comes few = block_had state count node claims b comes.0 now new comes.1 comes.2 few
had_too_few state count (outcome.Out o) node claims now new comes few = tt
had_too_few state count (outcome.PeerEnded at) node claims now new comes few = tt
had_too_few state count (outcome.BadFrame place) node claims now new comes few = tt
had_too_few state count outcome.Link node claims now new comes few = let is = comes.2 in cc
had_too_few state count outcome.NoMemory node claims now new comes few = let is = comes.2 in cc

-- ---- tries

-- so many tries more, each of which was spent
record AreSpent {B L : Type 0} (state : B → DiskState) (number count n : ℕ) (first last : ClaimState B) (old new : List (Try L)) : Type 0 where
  pub all : All (IsSpent state number count first last) new
  pub more : length new ≡ length old + n

spent : {B L : Type 0} (ports : Ports B L) (number count n : ℕ) (first last : ClaimState B) (old new : Desk B L)
    → IsNodeOf ports.state number first old.node old.claims → ClaimsStay ports.state new.claims last
    → All (IsSpent ports.state number count first last) old.tries → Tried ports count n old new → HasTooFew count new
    → AreSpent ports.state number count n first last old.tries new.tries
spent {B} {L} ports number count zero first last old new is later before tried few = record {
  all = subst (λ (d : Desk B L). All (IsSpent ports.state number count first last) d.tries) (sym tried) before;
  more = let same = ap (λ (d : Desk B L). length d.tries) tried in omega (arith, same);
}
spent {B} {L} ports number count (suc n) first last old new is later before tried few =
    let mid = tried.0 in
    let try = tried.3 in
    let there = tries_keep ports (IsNodeOf ports.state number first) (taken_stays ports.state number first) count n old mid tried.1 is in
    let then = comes_keeps ports.state (IsNodeOf ports.state mid.node.node mid.claims) (taken_stays ports.state mid.node.node mid.claims) try.made.outcome
    mid.node mid.claims (Ok tt) new.node new.claims try.comes (refl, keeps_all ports.state mid.claims) in
    let rest_kept = keeps_then ports.state mid.claims new.claims last then.1 later in
    let earlier = spent ports number count n first last old mid is rest_kept before tried.1 tried.2 in
    let goes = ok_goes ports.state try.made.outcome mid.node mid.claims new.node new.claims try.comes in
    let sent = want_sent (want_of mid.node count) try.made.outcome (snapshot Prover [] try.first) (snapshot Prover try.made.log (ports.tells try.made.link))
    try.is_try.cause goes.0 goes.1 in
    let this : IsSpent ports.state number count first last try.made = record {
      node = mid.node;
      claims = mid.claims;
      own = there.0;
      earlier = there.1;
      later = rest_kept;
      rest = sent.0;
      asked = sent.1;
      had = had_too_few ports.state count try.made.outcome mid.node mid.claims new.node new.claims try.comes few;
    } in
    record {
      all = subst (λ (l : List (Try L)). All (IsSpent ports.state number count first last) l) (sym try.kept)
          (All-push (IsSpent ports.state number count first last) mid.tries try.made earlier.all this);
      more = let counted = earlier.more in
          omega (arith, ap length try.kept, length-append mid.tries (try.made ∷ []), counted);
    }

-- ---- counts of a door

-- a count of failed calls later: it does not fall, but that it may stand still at the end of its type
abbrev pub IsLater : ℕ → ℕ → Type 0
IsLater before now = min before (2 ^ 64 - 1) ≤ now

later_same : (a b : ℕ) → b ≡ a → IsLater a b
later_same a b same = omega (arith, same)

later_then : (a b c : ℕ) → IsLater a b → IsLater b c → IsLater a c
later_then a b c one next = omega (arith, one, next)

rose_between : (a b c d : ℕ) → IsLater a b → Rose b c → IsLater c d → Rose a d
rose_between a b c d one rose next = omega (arith, one, rose, next)

tried_door : {B L : Type 0} (ports : Ports B L) (count n : ℕ) (old new : Desk B L) → Tried ports count n old new
    → new.door.connect_faults ≡ old.door.connect_faults
tried_door {B} {L} ports count zero old new tried = ap (λ (d : Desk B L). d.door.connect_faults) tried
tried_door ports count (suc n) old new tried =
    ap (λ (d : DoorState). d.connect_faults) tried.3.called ∙ tried_door ports count n old tried.0 tried.1

called_later : (fault : GrantFault) (before now : ℕ) → IsCallFault fault before now → IsLater before now
called_later (grant.Lease fault) before now cause = absurd cause
called_later grant.NoMemory before now cause = later_same before now cause
called_later (grant.NoBlock wants) before now cause = absurd cause
called_later grant.Broker before now cause = omega (arith, cause)

ended_door : {B L : Type 0} (ports : Ports B L) (count : ℕ) (fault : GrantFault) (old new : Desk B L) → IsTryResult ports count (Err fault) old new
    → IsLater old.door.connect_faults new.door.connect_faults
ended_door ports count fault old new (inl made) =
    later_same old.door.connect_faults new.door.connect_faults (ap (λ (d : DoorState). d.connect_faults) made.called)
ended_door ports count fault old new (inr (inl lacks)) = called_later fault old.door.connect_faults new.door.connect_faults lacks.cause
ended_door {B} {L} ports count fault old new (inr (inr none)) =
    later_same old.door.connect_faults new.door.connect_faults (ap (λ (d : Desk B L). d.door.connect_faults) none.1)

ungranted_door : {B L : Type 0} (ports : Ports B L) (count : ℕ) (fault : GrantFault) (old new : Desk B L) → IsUngranted ports count fault old new
    → IsLater old.door.connect_faults new.door.connect_faults
ungranted_door ports count fault old new not =
    later_then old.door.connect_faults not.mid.door.connect_faults new.door.connect_faults
    (later_same old.door.connect_faults not.mid.door.connect_faults (tried_door ports count not.tries old not.mid not.tried))
    (ended_door ports count fault not.mid new not.ends)

granted_door : {B L : Type 0} (ports : Ports B L) (count : ℕ) (result : Result Span GrantFault) (old new : Desk B L) → IsGrantOf ports count result old new
    → IsLater old.door.connect_faults new.door.connect_faults
granted_door {B} {L} ports count (Ok s) old new granted =
    later_same old.door.connect_faults new.door.connect_faults
    (ap (λ (d : Desk B L). d.door.connect_faults) granted.draws.rest ∙ tried_door ports count granted.tries old granted.mid granted.tried)
granted_door ports count (Err (grant.Lease fault)) old new not = ungranted_door ports count (grant.Lease fault) old new not
granted_door ports count (Err grant.NoMemory) old new not = ungranted_door ports count grant.NoMemory old new not
granted_door ports count (Err (grant.NoBlock wants)) old new not =
    later_same old.door.connect_faults new.door.connect_faults (tried_door ports count wants old new not.tried)
granted_door ports count (Err grant.Broker) old new not = ungranted_door ports count grant.Broker old new not

led_door : {B L : Type 0} (ports : Ports B L) (jobs : VerifierJobs) (old new : Desk B L) (note : SessionNote L) → IsLed ports jobs old new note
    → IsLater old.door.connect_faults new.door.connect_faults
led_door {B} {L} ports jobs old new note led = by led.answer led.moved where
  by : (answer : Option (Result Span GrantFault)) → MatchOption answer (new ≡ old) (λ a. IsGrantOf ports (size_of jobs note) a old new)
      → IsLater old.door.connect_faults new.door.connect_faults
  by None same = later_same old.door.connect_faults new.door.connect_faults (ap (λ (d : Desk B L). d.door.connect_faults) same)
  by (Some a) moved = granted_door ports (size_of jobs note) a old new moved

next_door : {B L : Type 0} (ports : Ports B L) (jobs : VerifierJobs) (old new : Desk B L) (note : SessionNote L) → LeadsNext ports jobs old new note
    → IsLater old.door.connect_faults new.door.connect_faults
next_door ports jobs old new note next =
    later_then old.door.connect_faults next.door.connect_faults new.door.connect_faults
    (later_same old.door.connect_faults next.door.connect_faults (ap (λ (d : DoorState). d.connect_faults) next.taken))
    (led_door ports jobs (record old { door = next.door; tries = [] }) new note next.led)

have_led_door : {B L : Type 0} (ports : Ports B L) (jobs : VerifierJobs) (n : ℕ) (first new : Desk B L) (notes : List (SessionNote L))
    → HaveLed ports jobs n first new notes → IsLater first.door.connect_faults new.door.connect_faults
have_led_door {B} {L} ports jobs zero first new notes led =
    later_same first.door.connect_faults new.door.connect_faults (ap (λ (d : Desk B L). d.door.connect_faults) led.0)
have_led_door ports jobs (suc n) first new notes led =
    later_then first.door.connect_faults led.0.door.connect_faults new.door.connect_faults (have_led_door ports jobs n first led.0 led.1 led.3)
    (next_door ports jobs led.0 new led.2 led.4)

ends_door : (sessions led : ℕ) (door_failed memory_failed : Bool) (last now : DoorState) → EndsServing sessions led door_failed memory_failed last now
    → now.connect_faults ≡ last.connect_faults
ends_door sessions led false false last now (inl ends) = ap (λ (d : DoorState). d.connect_faults) ends.1
ends_door sessions led false false last now (inr ends) = ap (λ (d : DoorState). d.connect_faults) ends.2
ends_door sessions led true false last now ends = ap (λ (d : DoorState). d.connect_faults) ends.1
ends_door sessions led false true last now (inl ends) = ap (λ (d : DoorState). d.connect_faults) ends.1
ends_door sessions led false true last now (inr ends) = ap (λ (d : DoorState). d.connect_faults) ends
ends_door sessions led true true last now ends = absurd ends

-- ---- what ended a grant

-- the journal ended it: a claim of a Block that came was refused so
record EndsByClaim {B L : Type 0} (ports : Ports B L) (fault : LeaseFault) (old new : Desk B L) : Type 0 where
  pub block : Block
  pub answer : Result Bool ClaimFault
  pub taken : IsTaken ports.state old.node old.claims block answer new.node new.claims
  pub ends : Err (grant.Lease fault) ≡ claim_end answer

claim_ended : {B L : Type 0} (ports : Ports B L) (count : ℕ) (fault : LeaseFault) (old new : Desk B L)
    → IsTryResult ports count (Err (grant.Lease fault)) old new → EndsByClaim ports fault old new
claim_ended ports count fault old new (inl made) = by made.made.outcome made.comes where
  by : (of : TryOutcome) → ComesTo ports.state of old.node old.claims (Err (grant.Lease fault)) new.node new.claims → EndsByClaim ports fault old new
  by (outcome.Block b) comes = record { block = b; answer = comes.0; taken = comes.1; ends = comes.2 }
  by (outcome.Out o) comes = let is = comes.2 in cc
  by (outcome.PeerEnded at) comes = let is = comes.2 in cc
  by (outcome.BadFrame place) comes = let is = comes.2 in cc
  by outcome.Link comes = let is = comes.2 in cc
  by outcome.NoMemory comes = let is = comes.2 in cc
claim_ended ports count fault old new (inr (inl lacks)) = absurd lacks.cause
claim_ended ports count fault old new (inr (inr none)) = let is = none.0 in cc

-- a store that has no fault began with none
whole_before : {B : Type 0} (state : B → DiskState) (old new : ClaimState B) → ClaimsStay state old new → new.fault ≡ 0 → old.fault ≡ 0
whole_before {B} state old new kept whole = by old.fault refl where
  by : (n : ℕ) → old.fault ≡ n → old.fault ≡ 0
  by zero is = is
  by (suc n) is =
      let other : old.fault ≢ 0 = λ none. absurd (omega (arith, is, none)) in
      ap (λ (c : ClaimState B). c.fault) (sym (kept.broken other)) ∙ whole

-- one that has a fault keeps it
fault_stays : {B : Type 0} (state : B → DiskState) (old new : ClaimState B) → ClaimsStay state old new → old.fault ≢ 0 → new.fault ≡ old.fault
fault_stays {B} state old new kept other = ap (λ (c : ClaimState B). c.fault) (kept.broken other)

rose_over : (a b c d : ℕ) → a ≤ b → Rose b c → c ≤ d → Rose a d
rose_over a b c d one rose next = omega (arith, one, rose, next)

device_ended : {B : Type 0} (state : B → DiskState) (node : NodeState) (b : Block) (answer : Result Bool ClaimFault) (now : NodeState)
    (first old new last : ClaimState B) → ClaimsStay state first old → ClaimsStay state new last → IsTaken state node old b answer now new
    → Err (grant.Lease lease.Device) ≡ claim_end answer
    → (first.fault ≡ 0) × (last.fault ≢ 0) × Rose (state first.disk).faults (state last.disk).faults
device_ended state node b (Err Device) now first old new last earlier later taken ends =
    let some = taken.cause.3 in
    let other : new.fault ≢ 0 = λ none. absurd (omega (arith, some, none)) in
    let stays = fault_stays state new last later other in (
      whole_before state first old earlier taken.cause.0.whole,
      (λ none. absurd (omega (arith, some, none, stays))),
      rose_over (state first.disk).faults (state old.disk).faults (state new.disk).faults (state last.disk).faults earlier.faults taken.cause.1 later.faults,
    )
device_ended state node b (Ok taken_it) now first old new last earlier later taken ends = cc
device_ended state node b (Err (OutOfRange total)) now first old new last earlier later taken ends = cc
device_ended state node b (Err (Overlap with_this)) now first old new last earlier later taken ends = cc
device_ended state node b (Err (Full slots)) now first old new last earlier later taken ends = cc
device_ended state node b (Err (Broken at)) now first old new last earlier later taken ends = cc
device_ended state node b (Err NoMemory) now first old new last earlier later taken ends = cc

broken_ended : {B : Type 0} (state : B → DiskState) (node : NodeState) (b : Block) (answer : Result Bool ClaimFault) (now : NodeState) (at : ℕ)
    (old new last : ClaimState B) → ClaimsStay state new last → IsTaken state node old b answer now new
    → Err (grant.Lease (lease.Broken at)) ≡ claim_end answer → (last.fault ≡ at) × (at ≢ 0)
broken_ended {B} state node b (Err (Broken first)) now at old new last later taken ends =
    let is : at ≡ first = cc in
    let mark = taken.cause.0.0 in
    let same = ap (λ (c : ClaimState B). c.fault) taken.cause.1 in
    let other : new.fault ≢ 0 = subst (λ (n : ℕ). n ≢ 0) (sym same) taken.cause.0.1 in
    let stays = fault_stays state new last later other in
    (omega (arith, is, mark, same, stays), subst (λ (n : ℕ). n ≢ 0) (sym (is ∙ mark)) taken.cause.0.1)
broken_ended state node b (Ok taken_it) now at old new last later taken ends = cc
broken_ended state node b (Err (OutOfRange total)) now at old new last later taken ends = cc
broken_ended state node b (Err (Overlap with_this)) now at old new last later taken ends = cc
broken_ended state node b (Err (Full slots)) now at old new last later taken ends = cc
broken_ended state node b (Err Device) now at old new last later taken ends = cc
broken_ended state node b (Err NoMemory) now at old new last later taken ends = cc

-- the broker was not called, or its link failed
link_failed : {B L : Type 0} (ports : Ports B L) (count : ℕ) (old new : Desk B L) → MakesTry ports count (Err grant.Broker) old new
    → EndsByLink ports.tells new.tries
link_failed {B} {L} ports count old new made = by made.made.outcome refl made.comes where
  claimed : (answer : Result Bool ClaimFault) → ¬ (Err grant.Broker ≡ claim_end answer)
  claimed (Ok taken) is = cc
  claimed (Err (OutOfRange total)) is = cc
  claimed (Err (Overlap earlier)) is = cc
  claimed (Err (Full slots)) is = cc
  claimed (Err Device) is = cc
  claimed (Err (Broken first)) is = cc
  claimed (Err NoMemory) is = cc

  by : (of : TryOutcome) → made.made.outcome ≡ of → ComesTo ports.state of old.node old.claims (Err grant.Broker) new.node new.claims
      → EndsByLink ports.tells new.tries
  by (outcome.Block b) is comes = absurd (claimed comes.0 comes.2)
  by (outcome.Out o) is comes = let ends = comes.2 in cc
  by (outcome.PeerEnded at) is comes = let ends = comes.2 in cc
  by (outcome.BadFrame place) is comes = let ends = comes.2 in cc
  by outcome.NoMemory is comes = let ends = comes.2 in cc
  by outcome.Link is comes =
      let cause = subst (λ (o : TryOutcome). IsTryCause (want_of old.node count) (snapshot Prover [] made.first) o
      (snapshot Prover made.made.log (ports.tells made.made.link))) is made.is_try.cause in
      let none = made.fresh.unfailed in
      let rose = cause.0 in
      record { before = old.tries; made = made.made; last = made.kept; failed = is; told = omega (arith, none, rose) }

broker_ended : {B L : Type 0} (ports : Ports B L) (count : ℕ) (old new : Desk B L) → IsTryResult ports count (Err grant.Broker) old new
    → Rose old.door.connect_faults new.door.connect_faults ⊎ EndsByLink ports.tells new.tries
broker_ended ports count old new (inl made) = inr (link_failed ports count old new made)
broker_ended ports count old new (inr (inl lacks)) = inl lacks.cause
broker_ended ports count old new (inr (inr none)) = let is = none.0 in cc

-- ---- a session

led_cause : {B L : Type 0} (ports : Ports B L) (jobs : VerifierJobs) (first old new : Desk B L) (door : DoorState) (last : ClaimState B)
    (note : SessionNote L) → IsNodeOf ports.state first.node.node first.claims old.node old.claims → old.tries ≡ []
    → IsLater first.door.connect_faults old.door.connect_faults → ClaimsStay ports.state new.claims last
    → IsLater new.door.connect_faults door.connect_faults → IsLed ports jobs old new note
    → IsRefusedAs ports.tells ports.state jobs first door last note note.outcome
led_cause {B} {L} ports jobs first old new door last note is untried before later after led = by note.outcome led.refused where
  grants : (fault : GrantFault) → led.answer ≡ Some (Err fault) → IsGrantOf ports (size_of jobs note) (Err fault) old new
  grants fault answered = subst (λ (a : Option (Result Span GrantFault)). MatchOption a (new ≡ old) (λ r. IsGrantOf ports (size_of jobs note) r old new))
      answered led.moved

  there : (mid : Desk B L) (n : ℕ) → Tried ports (size_of jobs note) n old mid → IsNodeOf ports.state first.node.node first.claims mid.node mid.claims
  there mid n tried = tries_keep ports (IsNodeOf ports.state first.node.node first.claims) (taken_stays ports.state first.node.node first.claims)
      (size_of jobs note) n old mid tried is

  no_block : (wants : ℕ) → HasNoBlock ports (size_of jobs note) wants old new
      → IsRefusedAs ports.tells ports.state jobs first door last note (said.NoBlock wants)
  no_block wants none =
      let spent_all = spent ports first.node.node (size_of jobs note) wants first.claims last old new is later
      (subst (λ (l : List (Try L)). All (IsSpent ports.state first.node.node (size_of jobs note) first.claims last) l) (sym untried)
      (All-nil (IsSpent ports.state first.node.node (size_of jobs note) first.claims last))) none.tried none.too_few in
      let more = spent_all.more in (
        none.all,
        omega (arith, more, ap length led.tries, ap length untried),
        subst (λ (l : List (Try L)). All (IsSpent ports.state first.node.node (size_of jobs note) first.claims last) l) (sym led.tries) spent_all.all,
      )

  broker : IsUngranted ports (size_of jobs note) grant.Broker old new → IsRefusedAs ports.tells ports.state jobs first door last note said.Broker
  broker not = told (broker_ended ports (size_of jobs note) not.mid new not.ends) where
    told : (Rose not.mid.door.connect_faults new.door.connect_faults ⊎ EndsByLink ports.tells new.tries)
        → Rose first.door.connect_faults door.connect_faults ⊎ EndsByLink ports.tells note.tries.items
    told (inl rose) = inl (rose_between first.door.connect_faults not.mid.door.connect_faults new.door.connect_faults door.connect_faults
        (later_then first.door.connect_faults old.door.connect_faults not.mid.door.connect_faults before
        (later_same old.door.connect_faults not.mid.door.connect_faults (tried_door ports (size_of jobs note) not.tries old not.mid not.tried)))
        rose after)
    told (inr failed) = inr (subst (λ (l : List (Try L)). EndsByLink ports.tells l) (sym led.tries) failed)

  device : IsUngranted ports (size_of jobs note) (grant.Lease lease.Device) old new
      → IsRefusedAs ports.tells ports.state jobs first door last note said.Device
  device not =
      let ended = claim_ended ports (size_of jobs note) lease.Device not.mid new not.ends in
      device_ended ports.state not.mid.node ended.block ended.answer new.node first.claims not.mid.claims new.claims last
      (there not.mid not.tries not.tried).1 later ended.taken ended.ends

  broken : (at : ℕ) → IsUngranted ports (size_of jobs note) (grant.Lease (lease.Broken at)) old new
      → IsRefusedAs ports.tells ports.state jobs first door last note (said.Broken at)
  broken at not =
      let ended = claim_ended ports (size_of jobs note) (lease.Broken at) not.mid new not.ends in
      broken_ended ports.state not.mid.node ended.block ended.answer new.node at not.mid.claims new.claims last later ended.taken ended.ends

  exhausted : (at count total : ℕ) → IsUngranted ports (size_of jobs note) (grant.Lease (lease.Exhausted at count total)) old new → ⊥
  exhausted at count total not =
      let ended = claim_ended ports (size_of jobs note) (lease.Exhausted at count total) not.mid new not.ends in never ended.answer ended.ends where
        never : (answer : Result Bool ClaimFault) → ¬ (Err (grant.Lease (lease.Exhausted at count total)) ≡ claim_end answer)
        never (Ok taken) ends = cc
        never (Err (OutOfRange all)) ends = cc
        never (Err (Overlap with_this)) ends = cc
        never (Err (Full slots)) ends = cc
        never (Err Device) ends = cc
        never (Err (Broken mark)) ends = cc
        never (Err NoMemory) ends = cc

  by : (o : VerifierOutcome) → IfSome (grant_fault o) (λ fault. led.answer ≡ Some (Err fault))
      → IsRefusedAs ports.tells ports.state jobs first door last note o
  by said.Accepted answered = tt
  by (said.RejectedSum section left right) answered = tt
  by (said.RejectedOpening output left right) answered = tt
  by (said.PeerEnded at) answered = tt
  by (said.BadFrame place) answered = tt
  by (said.BadHello differs) answered = tt
  by (said.Exhausted at some total) answered =
      exhausted at some total (grants (grant.Lease (lease.Exhausted at some total)) answered)
  by said.Device answered = device (grants (grant.Lease lease.Device) answered)
  by (said.Broken at) answered = broken at (grants (grant.Lease (lease.Broken at)) answered)
  by (said.NoBlock wants) answered = no_block wants (grants (grant.NoBlock wants) answered)
  by said.Broker answered = broker (grants grant.Broker answered)
  by said.Link answered = tt
  by said.NoMemory answered = tt

-- ---- sessions

have_led_causes : {B L : Type 0} (ports : Ports B L) (jobs : VerifierJobs) (n : ℕ) (first new : Desk B L) (door : DoorState) (last : ClaimState B)
    (notes : List (SessionNote L)) → ClaimsStay ports.state new.claims last → IsLater new.door.connect_faults door.connect_faults
    → HaveLed ports jobs n first new notes → HaveCauses ports.tells ports.state jobs first door last notes
have_led_causes {B} {L} ports jobs zero first new door last notes later after led =
    subst (λ (l : List (SessionNote L)). HaveCauses ports.tells ports.state jobs first door last l) (sym led.1)
    (All-nil (λ note. IsRefusedAs ports.tells ports.state jobs first door last note note.outcome))
have_led_causes {B} {L} ports jobs (suc n) first new door last notes later after led =
    let mid = led.0 in
    let next = led.4 in
    let start : Desk B L = record mid { door = next.door; tries = [] } in
    let there = have_led_kept ports jobs n first mid led.1 led.3 in
    let kept = led_keeps ports (IsNodeOf ports.state mid.node.node mid.claims) (taken_stays ports.state mid.node.node mid.claims)
    (drawn_stays ports.state mid.node.node mid.claims) jobs start new led.2 next.led (refl, keeps_all ports.state mid.claims) in
    let same = later_same mid.door.connect_faults next.door.connect_faults (ap (λ (d : DoorState). d.connect_faults) next.taken) in
    let reached = have_led_door ports jobs n first mid led.1 led.3 in
    let earlier = have_led_causes ports jobs n first mid door last led.1 (keeps_then ports.state mid.claims new.claims last kept.1 later)
    (later_then mid.door.connect_faults new.door.connect_faults door.connect_faults (next_door ports jobs mid new led.2 next) after) led.3 in
    subst (λ (l : List (SessionNote L)). HaveCauses ports.tells ports.state jobs first door last l) (sym led.5)
    (All-push (λ note. IsRefusedAs ports.tells ports.state jobs first door last note note.outcome) led.1 led.2 earlier
    (led_cause ports jobs first start new door last led.2 there refl
    (later_then first.door.connect_faults mid.door.connect_faults next.door.connect_faults reached same) later after next.led))

pub sessions_have_causes : {B L : Type 0} (tells : L → LinkState) (state : B → DiskState) → SessionsHaveCauses tells state
sessions_have_causes {B} tells state broker patience jobs sessions first door claims door_failed memory_failed notes none serves =
    have_led_causes (ports_of tells state broker patience) jobs (length notes) first serves.last door claims notes
    (subst (λ (c : ClaimState B). ClaimsStay state serves.last.claims c) (sym serves.claims_are) (keeps_all state serves.last.claims))
    (later_same serves.last.door.connect_faults door.connect_faults
    (ends_door sessions (length notes) door_failed memory_failed serves.last.door door serves.ends)) serves.led
