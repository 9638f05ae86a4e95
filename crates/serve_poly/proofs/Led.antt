-- What a verifier that serves constraints composes: its notes, and what it says.
use Rattle.std.proofs.Common.{◌≡◌, ◌≢◌, ◌⊎◌, ◌≤◌, ◌∙◌, ℕ, Bool, List, All, Option, Some, None, get_or, refl, sym, ap, subst, inl, inr, max, arith}
use Rattle.std.specs.Prelude.{IfErr, IfOk, Result, Ok, Err}
use Rattle.std.proofs.lemmas.Bool.{cases_eq}
use Rattle.std.specs.List.Sorted.{IsNonDecreasingBy, IsPermutation}
use Rattle.zk_port.specs.Counts.{Rose}
use Rattle.zk_port.specs.Files.{Files}
use Rattle.zk_port.specs.Links.{LinkState}
use Rattle.session_verifier.specs.NoteLines.{start_of}
use Rattle.session_verifier.specs.ServiceLogs.{HaveApartNames, IsLogName}
use Rattle.session_verifier.specs.declared.note.SessionNote.{SessionNote}
use Rattle.session_verifier.specs.declared.note.VerifierOutcome.TheVariants.{Accepted}
use Rattle.zk_model.specs.declared.limits.TheConstants.{MAX_UNITS}
use Rattle.session_service.specs.ServiceRuns.{LeadsSessions, Place, Sessions, StopsListening, sessions_by}
use Rattle.claim_verifier.specs.Hearing.{units_of}
use Rattle.claim_service.specs.ClaimNotes.{IsClaimNote}
use Rattle.session_service.proofs.LogNames.{apart_names}
use Rattle.session_service.proofs.NotesOutcomes.{led_mean}
use Rattle.session_service.proofs.Ordering.{leads_permuted}
use Rattle.command_words.specs.Words.{ServePolyAsk}
use Rattle.file_commands.specs.Effects.{DoorChange, Effects, OnlyAsks, OtherNamesStay, ShelfChange}
use Rattle.file_commands.specs.Journals.{DiskChange}
use Rattle.file_commands.specs.declared.refusal.Refusal.{Refusal}
use Rattle.file_commands.specs.declared.refusal.Refusal.TheVariants as stop
use Rattle.file_commands.proofs.Journals.{rose_by}
use Rattle.file_commands.proofs.Means.{IsHigh, stop_answers}
use Rattle.serve_poly.specs.PolyServices.{GrantsPolyOnce, IsServedAt, LeadsPoly, PolyService, PolyServiceLines, PolyServiceMeans, ServePolyStop, ServesPoly, ShowsConstraints, StopsServing, claim_served, place_asked, sessions_served, units_served}

-- no stop of it is for values that meet no constraint
stop_is_high : (ask : ServePolyAsk) (shelf : ShelfChange) (disk : DiskChange) (door : DoorChange) (why : Refusal) → ServePolyStop ask shelf disk door why → IsHigh why
stop_is_high ask shelf disk door (stop.Unsatisfied output) (inl (inl lacks, untouched, unheard)) = absurd lacks
stop_is_high ask shelf disk door (stop.Unsatisfied output) (inl (inr lacks, untouched, unheard)) = absurd lacks.3
stop_is_high ask shelf disk door (stop.Unsatisfied output) (inr (served, stands, inl cause)) = absurd cause.0
stop_is_high ask shelf disk door (stop.Unsatisfied output) (inr (served, stands, inr cause)) =
    elim cause.1.1 [ inl journal ↦ absurd journal.0 | inr silent ↦ absurd silent ]
stop_is_high ask shelf disk door other cause = tt

module _ {L : Type 0} (link_tells : L → LinkState) (ask : ServePolyAsk) where
  means_so : (notes : Option (List (SessionNote L))) (disk : DiskChange) (door : DoorChange) (run : Effects)
      → PolyServiceLines link_tells ask notes disk door run → PolyServiceMeans ask notes disk door run
  means_so (Some notes) disk door run says =
      led_mean (place_asked ask) (sessions_served link_tells ask says.leads.served) notes says.door_failed says.memory_failed disk door run says.leads.leads says.says
  means_so None disk door run says =
      elim (stop_answers says.0.stop run.status run.sink (stop_is_high ask run.shelf disk door says.0.stop says.0.cause) says.0.prints) [
        | inl e ↦ inl (says.0.stop, says.0.cause, e)
        | inr e ↦ inr e
      ]

  pub serves_so : (notes : Option (List (SessionNote L))) (disk : DiskChange) (door : DoorChange) (run : Effects)
      → PolyServiceLines link_tells ask notes disk door run → OtherNamesStay (IsLogName ask.options.logs) run.shelf.old.told run.shelf.new.told
      → OnlyAsks (Rattle.serve_poly.specs.PolyServices.IsServeName ask) run.shelf → ServesPoly link_tells ask notes disk door run
  serves_so notes disk door run lines others asked = record {
    lines = lines;
    means = means_so notes disk door run lines;
    others = others;
    asked = asked;
  }

  module _ (notes : List (SessionNote L)) (door_failed memory_failed : Bool) (told : Option Files) (disk : DiskChange) (door : DoorChange)
      (led : LeadsPoly link_tells ask notes door_failed memory_failed told disk door) where
    pub headlines : All (λ note. note.outcome ≡ Accepted → ShowsConstraints told ask note) notes
    headlines = λ k default within accepted.
        let is = led.leads.each k default within in
        record { served = led.served; stands = led.stands; shows = is.2.shown accepted }

    -- no journal is marked where no call of the disk failed
    unmarked : (mark before now : ℕ) → (mark ≢ 0 → Rose before mark × (mark ≤ now)) → ¬ Rose before now → mark ≡ 0
    unmarked mark before now rose quiet = elim (cases_eq mark 0) [
      | inl is ↦ is
      | inr not ↦ absurd (quiet (rose_by before mark now (rose not)))
    ]

    pub grants_once : IsNonDecreasingBy (λ note. start_of note.granted) notes → GrantsPolyOnce told ask notes disk
    grants_once ordered = record {
      served = led.served;
      stands = led.stands;
      few = led.few;
      base = led.leads.base;
      recovered = led.leads.recovered;
      ordered = ordered;
      apart = led.leads.apart;
      ceiling = led.leads.ceiling;
      grows = led.leads.kept.grows;
      most = led.leads.most;
      spans = led.leads.spans;
      exact = λ quiet. led.leads.kept.exact (unmarked led.leads.mark disk.old.faults disk.new.faults led.leads.kept.rose quiet);
      read = led.leads.kept.read;
      durable = led.leads.kept.durable;
      any_moment = led.leads.kept.any_moment;
    }

    pub names_apart : HaveApartNames ask.options.logs notes
    names_apart = apart_names ask.options.logs (place_asked ask) (sessions_served link_tells ask led.served) notes door_failed memory_failed disk door
        (λ note. omega arith) (let few = led.stands.file.says.1.params.total in omega (arith, few)) led.leads

  pub ordered_so : (notes ordered : List (SessionNote L)) (door_failed memory_failed : Bool) (told : Option Files) (disk : DiskChange) (door : DoorChange)
      → IsPermutation notes ordered → LeadsPoly link_tells ask notes door_failed memory_failed told disk door
      → LeadsPoly link_tells ask ordered door_failed memory_failed told disk door
  ordered_so notes ordered door_failed memory_failed told disk door permuted led = record {
    served = led.served;
    stands = led.stands;
    few = led.few;
    leads = leads_permuted (place_asked ask) (sessions_served link_tells ask led.served) notes ordered door_failed memory_failed disk door permuted led.leads;
  }

-- ---- what serves

-- all that names sessions about constraints: what is served, and the length of sections
abbrev pub Named : Type 0
Named = PolyService × ℕ

abbrev pub named_sessions : {L : Type 0} → (L → LinkState) → Named → Sessions L
named_sessions link_tells named = sessions_by named.0.file.id named.0.file.params.total (λ note. units_of (claim_served named.0) named.0.file named.1)
    (IsClaimNote link_tells (claim_served named.0) named.0.file named.1)

-- sessions that were led about it
pub led_so : {L : Type 0} (link_tells : L → LinkState) (ask : ServePolyAsk) (told : Option Files) (served other : PolyService) (section : ℕ) (at : Place)
    → IsServedAt told ask served → other ≡ served → section ≡ ask.options.section → at ≡ place_asked ask → units_of (claim_served other) other.file section ≤ MAX_UNITS
    → (notes : List (SessionNote L)) (door_failed memory_failed : Bool) (disk : DiskChange) (door : DoorChange)
    → LeadsSessions at (named_sessions link_tells (other, section)) notes door_failed memory_failed disk door
    → LeadsPoly link_tells ask notes door_failed memory_failed told disk door
led_so link_tells ask told served other section at stands same length where_is few notes door_failed memory_failed disk door leads = record {
  served = served;
  stands = stands;
  few = subst (λ (n : Named). units_of (claim_served n.0) n.0.file n.1 ≤ MAX_UNITS) (λ i. (same i, length i)) few;
  leads = subst (λ (q : Place × Named). LeadsSessions q.0 (named_sessions link_tells q.1) notes door_failed memory_failed disk door)
      (λ i. (where_is i, (same i, length i))) leads;
}

-- or why none was
pub unled_so : (ask : ServePolyAsk) (served other : PolyService) (section : ℕ) (at : Place) → other ≡ served → section ≡ ask.options.section → at ≡ place_asked ask
    → units_of (claim_served other) other.file section ≤ MAX_UNITS → (disk : DiskChange) (door : DoorChange) (why : Refusal)
    → StopsListening at other.file.id other.file.params.total disk door why → StopsServing ask served disk door why
unled_so ask served other section at same length where_is few disk door why stops = inr (
  subst (λ (n : Named). units_of (claim_served n.0) n.0.file n.1 ≤ MAX_UNITS) (λ i. (same i, length i)) few,
  subst (λ (q : Place × PolyService). StopsListening q.0 q.1.file.id q.1.file.params.total disk door why) (λ i. (where_is i, same i)) stops,
)

-- where all files are as they were, so are those of other names
pub others_same : (IsNamed : List ℕ → Type 0) (old new : Option Files) → new ≡ old → OtherNamesStay IsNamed old new
others_same IsNamed None new same = same
others_same IsNamed (Some files) None same = cc
others_same IsNamed (Some files) (Some others) same = λ other not. ap (λ (found : Option Files). file_in found other) same
  where
    file_in : Option Files → List ℕ → Option (List ℕ)
    file_in None name = None
    file_in (Some found) name = found name

-- ---- results

pub ok_then : {T E : Type 0} (P Q : T → Type 0) (result : Result T E) → ((value : T) → P value → Q value) → IfOk result P → IfOk result Q
ok_then P Q (Ok value) then holds = then value holds
ok_then P Q (Err e) then holds = tt

pub err_then : {T E : Type 0} (P Q : E → Type 0) (result : Result T E) → ((fault : E) → P fault → Q fault) → IfErr result P → IfErr result Q
err_then P Q (Ok value) then holds = tt
err_then P Q (Err e) then holds = then e holds
