-- What the sessions of a node show, and that they were granted no unit twice.
use Rattle.std.proofs.Common.{◌≡◌, ◌≢◌, ◌⊎◌, ◌<◌, ◌≤◌, ◌++◌, ℕ, zero, suc, Bool, List, [], ◌∷◌, All, length, length-append, append-nil, get_or, Option, IfSome, refl, sym, ap, ◌∙◌, subst, inl, inr, arith}
use Rattle.std.specs.List.Sorted.{IsNonDecreasingBy, IsPermutation}
use Rattle.std.proofs.lemmas.List.Sorted.{All-permutation, length_permutation}
use Rattle.std.proofs.lemmas.List.Elements.{All-nil}
use Rattle.zk_model.specs.declared.Span.{Span}
use Rattle.zk_port.specs.Changes.{Change}
use Rattle.zk_port.specs.Counts.{Rose}
use Rattle.zk_port.specs.Disks.{DiskState, LeavesOnly}
use Rattle.zk_port.specs.Files.{Files}
use Rattle.zk_port.specs.Links.{LinkState}
use Rattle.arith_reader.specs.Laws.{TextsAreExact}
use Rattle.element_file.specs.Laws.{ElementsAreExact}
use Rattle.session_laws.specs.Ariths.{ExtractedShowsElements}
use Rattle.session_laws.specs.Circuits.{ExtractedShowsOutputs}
use Rattle.claim_store.specs.ClaimedRanges.{has_unit, is_claimed}
use Rattle.claim_store.specs.Claims.{AreDurable, ClaimState}
use Rattle.node_grants.specs.Grants.{ports_of}
use Rattle.node_sessions.specs.Journals.{LeavesGrants, SaysGrants, TellsContent}
use Rattle.node_sessions.specs.Laws.{ClaimsStay, IsNewlyClaimed, IsSized}
use Rattle.node_sessions.specs.Sessions.{size_of}
use Rattle.node_sessions.proofs.Journals.{TellsMoments}
use Rattle.session_core.specs.Jobs.{VerifierJobs}
use Rattle.session_pool.specs.Notes.{AreGrantsApart}
use Rattle.session_verifier.specs.NoteLines.{start_of}
use Rattle.session_verifier.specs.declared.note.SessionNote.{SessionNote}
use Rattle.session_verifier.specs.declared.note.VerifierOutcome.TheVariants.{Accepted}
use Rattle.claim_files.specs.Services.{Service}
use Rattle.file_commands.specs.Effects.{DoorChange}
use Rattle.zk_cli.specs.NodeServiceRuns.{LeadsAsNode, LeadsNodeFiles, NodePlace, first_desk}
use Rattle.zk_cli.specs.ServedNotes.{GrantsClaimedOnce, ShowsClaim}
use Rattle.zk_cli.proofs.NodeLed.{IsNodeNote, led_notes}
use Rattle.zk_cli.proofs.Ordering.{apart_both, pairs_permuted}
use Rattle.zk_cli.proofs.Serving.{shows_claim}

-- each accepted session shows its claim
pub node_headlines : {B L : Type 0} (link_tells : L → LinkState) (state : B → DiskState) → ExtractedShowsOutputs → ExtractedShowsElements → ElementsAreExact
    → (told : Option Files) (service : Service) (place : NodePlace) (led notes : List (SessionNote L)) (journal : Change B) (door : DoorChange)
    (door_failed memory_failed : Bool) → LeadsNodeFiles link_tells state service place led door_failed memory_failed told journal door
    → IsPermutation led notes → All (λ note. note.outcome ≡ Accepted → ShowsClaim told service note) notes
node_headlines {B} {L} link_tells state law arith exact told service place led notes journal door door_failed memory_failed files same = λ k default within accepted.
    let note = get_or notes k default in
    let sessions = files.leads.sessions in
    let each : All (IsNodeNote link_tells files.jobs) led =
    led_notes (ports_of link_tells state place.broker service.options.timeout) files.jobs (length led) _ sessions.serves.last led sessions.serves.led in
    let is = All-permutation (IsNodeNote link_tells files.jobs) led notes same each k default within in
    let shows = shows_claim law arith exact told service files.jobs files.served is.0 note.statement note.granted note.outcome note.log (link_tells note.link)
    is.1.statement is.1.session accepted in
    record { number = shows.0; taken = shows.1; claim = shows.2; named = shows.3; shows = shows.4 }

-- ---- the journal of claims

-- no fault of the disk ended the store where none is counted
whole_still : {B : Type 0} (state : B → DiskState) (first last : ClaimState B) (journal : Change B) → ClaimsStay state first last → first.fault ≡ 0
    → (state first.disk).faults ≡ (state journal.old).faults → journal.new ≡ last.disk → ¬ Rose (state journal.old).faults (state journal.new).faults → last.fault ≡ 0
whole_still {B} state first last journal kept whole begins closed quiet = by last.fault refl where
  by : (n : ℕ) → last.fault ≡ n → last.fault ≡ 0
  by zero is = is
  by (suc n) is =
      let rose = kept.ended whole (λ none. absurd (omega (arith, is, none))) in
      absurd (quiet (subst (λ (p : ℕ × ℕ). Rose p.0 p.1) (λ i. (begins i, ap (λ (d : B). (state d).faults) (sym closed) i)) rose))

none_behind : {X : Type 0} (all before after : List X) → all ≡ before ++ after → length before ≡ length all → before ≡ all
none_behind all before [] are size = sym (append-nil before) ∙ sym are
none_behind all before (x ∷ after) are size =
    let counted = ap length are in
    let sum = length-append before (x ∷ after) in
    absurd (omega (arith, counted, sum, size))

no_notes : {X : Type 0} (xs : List X) → length xs ≡ 0 → xs ≡ []
no_notes [] size = refl
no_notes (x ∷ xs) size = absurd (omega (arith, size))

-- the bytes say what notes in another order were granted
says_permuted : {B L : Type 0} (claims : ClaimState B) (led notes : List (SessionNote L)) (bytes : List ℕ) → IsPermutation led notes
    → SaysGrants claims led bytes → SaysGrants claims notes bytes
says_permuted {B} {L} claims led notes bytes same says = record {
  ranges = says.ranges;
  says = says.says;
  kept = says.kept;
  granted = All-permutation (λ (note : SessionNote L). IfSome note.granted (λ s. (unit : ℕ) → has_unit unit s ≡ Rattle.std.proofs.Common.true
      → is_claimed says.ranges unit ≡ Rattle.std.proofs.Common.true)) led notes same says.granted;
}

module _ {B L : Type 0} (link_tells : L → LinkState) (state : B → DiskState) (moments : TellsMoments state) (service : Service) (place : NodePlace)
    (jobs : VerifierJobs) (led : List (SessionNote L)) (door_failed memory_failed : Bool) (journal : Change B) (door : DoorChange)
    (leads : LeadsAsNode link_tells state service place jobs led door_failed memory_failed journal door) where
  leaves_at : TellsContent state → (n : ℕ) → n ≤ length led → LeavesGrants (ports_of link_tells state place.broker service.options.timeout) jobs
      (first_desk service place leads.first door) leads.sessions.last led n
  leaves_at tells n few = leads.sessions.journal tells leads.whole leads.small leads.begins n few

  says_all : TellsContent state → (image : List ℕ) → (state journal.new).images image → SaysGrants leads.first led image
  says_all tells image here =
      let at = leaves_at tells (length led) (omega arith) in
      let last = leads.sessions.last in
      subst (λ (notes : List (SessionNote L)). SaysGrants leads.first notes image) (none_behind led at.before at.after at.split at.count)
      (at.leaves.each image (moments.counts last.disk (state at.mid.claims.disk).moment image at.leaves.later
      (subst (λ (d : B). (state d).images image) leads.sessions.closed here)))

  -- the first of them
  leaves_first : TellsContent state → LeavesOnly (state leads.first.disk) (state leads.sessions.last.disk) (SaysGrants {L = L} leads.first [])
  leaves_first tells =
      let at = leaves_at tells 0 (omega arith) in
      subst (λ (p : DiskState × List (SessionNote L)). LeavesOnly p.0 (state leads.sessions.last.disk) (SaysGrants leads.first p.1))
      (λ i. (ap (λ (d : _). state d.claims.disk) at.led.0 i, no_notes at.before at.count i)) at.leaves

  leaves_all : TellsContent state → LeavesOnly (state journal.old) (state journal.new)
      (λ image. (state journal.old).images image ⊎ SaysGrants {L = L} leads.first [] image)
  leaves_all tells = subst (λ (d : B). LeavesOnly (state journal.old) (state d)
      (λ image. (state journal.old).images image ⊎ SaysGrants {L = L} leads.first [] image)) (sym leads.sessions.closed) (record {
        later = let one = opened.later in let two = next.later in omega (arith, one, two);
        each = λ c since. at_first c (next.before (state journal.old).moment c opened.later since);
        before = λ t c early since. at_time t c early (next.before t c (let one = opened.later in omega (arith, early, one)) since);
      })
    where
      next : LeavesOnly (state leads.first.disk) (state leads.sessions.last.disk) (SaysGrants {L = L} leads.first [])
      next = leaves_first tells

      opened : Rattle.zk_port.specs.Disks.Elapses (state journal.old) (state leads.first.disk)
      opened = record { later = leads.opens.stays.time.later; nothing_else = leads.opens.stays.time.nothing_else; keeps = leads.opens.stays.time.keeps }

      crashed : (c : List ℕ) → (state leads.first.disk).images c → (state journal.old).images c
      crashed = leads.opens.stays.crash

      at_first : (c : List ℕ) → (state leads.first.disk).images_since (state journal.old).moment c ⊎ SaysGrants {L = L} leads.first [] c
          → (state journal.old).images c ⊎ SaysGrants {L = L} leads.first [] c
      at_first c (inr says) = inr says
      at_first c (inl since) = inl (elim (opened.nothing_else (state journal.old).moment c (omega arith) since) [
        | inl early ↦ leads.since c early
        | inr now ↦ crashed c now
      ])

      at_time : (t : ℕ) (c : List ℕ) → t ≤ (state journal.old).moment → (state leads.first.disk).images_since t c ⊎ SaysGrants {L = L} leads.first [] c
          → (state journal.old).images_since t c ⊎ ((state journal.old).images c ⊎ SaysGrants {L = L} leads.first [] c)
      at_time t c early (inr says) = inr (inr says)
      at_time t c early (inl since) = elim (opened.nothing_else t c early since) [
        | inl before ↦ inl before
        | inr now ↦ inr (inl (crashed c now))
      ]

pub grants_claimed_once : {B L : Type 0} (link_tells : L → LinkState) (state : B → DiskState) → TellsMoments state → (told : Option Files) (service : Service)
    (place : NodePlace) (led notes : List (SessionNote L)) (journal : Change B) (door : DoorChange) (door_failed memory_failed : Bool)
    → LeadsNodeFiles link_tells state service place led door_failed memory_failed told journal door → IsPermutation led notes
    → IsNonDecreasingBy (λ note. start_of note.granted) notes → GrantsClaimedOnce state told service notes journal
grants_claimed_once {B} {L} link_tells state moments told service place led notes journal door door_failed memory_failed files same ordered =
    let leads = files.leads in
    let sessions = leads.sessions in
    let jobs = files.jobs in
    record {
      jobs = jobs;
      served = files.served;
      few = leads.few;
      ordered = ordered;
      first = leads.first;
      last = sessions.last;
      total = leads.total;
      recovered = leads.recovered;
      once = record {
        apart = pairs_permuted (λ (one other : SessionNote L). AreGrantsApart one.granted other.granted)
            (λ one other. apart_both one.granted other.granted) led notes same sessions.once.apart;
        sized = All-permutation (λ (note : SessionNote L). IsSized (size_of jobs note) leads.first.total note.granted) led notes same sessions.once.sized;
      };
      claimed = All-permutation (λ (note : SessionNote L). IsNewlyClaimed leads.first.claims sessions.last.claims note.granted) led notes same sessions.claimed;
      kept = sessions.kept;
      exact = λ quiet. sessions.durable (whole_still state leads.first sessions.last journal sessions.kept leads.whole leads.opens.still sessions.closed quiet)
          (let stays = sessions.kept.total in let small = leads.small in omega (arith, stays, small));
      closed = sessions.closed;
      durable = λ tells image here. says_permuted leads.first led notes image same
          (says_all link_tells state moments service place jobs led door_failed memory_failed journal door leads tells image here);
      any_moment = leaves_all link_tells state moments service place jobs led door_failed memory_failed journal door leads;
    }
