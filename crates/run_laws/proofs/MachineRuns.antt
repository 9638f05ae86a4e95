-- Runs over one file's journals, as events of the lease machine.
use Rattle.std.proofs.Common.{◌≡◌, ◌⊎◌, inl, inr, ℕ, zero, suc, ◌+◌, ◌<◌, ◌≤◌, true, false, not, cond, ◌&&◌, List, [], ◌∷◌, ◌++◌, length, get_or, refl, sym, ap, ◌∙◌, subst, arith, Option, None, Some, nat_eq, nat_le, nat_lt, All, append_assoc}
use Rattle.std.specs.Prelude.{AllPairs, ◌%◌}
use Rattle.std.specs.List.Sorted.{IsNonDecreasingBy}
use Rattle.std.proofs.Math.ListN.{get_or-append}
use Rattle.std.proofs.Math.Seq.{get_or-append_seam}
use Rattle.std.proofs.lemmas.Bool.{and_from, cases_lt, le-leb, lt-ltb, not_from_false}
use Rattle.std.proofs.lemmas.Bool.Decides.{nat_tests}
use Rattle.std.proofs.lemmas.List.{get_or_past, length-append}
use Rattle.std.proofs.lemmas.List.Folds.{list_any_none}
use Rattle.lease_journal.specs.Journals.{AreSound, body_before, keeps_rule}
use Rattle.zk_model.specs.declared.JournalKind.TheVariants.{Ceilings}
use Rattle.claim_store.specs.ClaimedRanges.{AreMerged}
use Rattle.zk_model.specs.declared.Span.{Span}
use Rattle.lease_core.specs.Machine.{Machine, after_all, durable, is_possible, last_of, machine_at_first}
use Rattle.lease_core.specs.Spans.{IsApart, meets, meets_any}
use Rattle.lease_core.specs.declared.event.Event.TheVariants.{Begin, Claim, Crash}
use Rattle.lease_core.proofs.Reached.{is_consistent, reached_first, reached_goes_on, reached_inv}
use Rattle.lease_store.specs.Ceilings.{FindsCeiling, SaysCeiling, last_ceiling}
use Rattle.claim_store.specs.Claims.{AreClaims}
use Rattle.session_pool.specs.Notes.{AreGrantsApart, IsBetween}
use Rattle.session_core.specs.Jobs.{VerifierJob, VerifierJobs, all_jobs, noted_job, units_of_job}
use Rattle.session_verifier.specs.declared.note.SessionNote.{SessionNote}
use Rattle.claim_files.specs.Services.{Service}
use Rattle.zk_port.specs.Disks.{DiskState}
use Rattle.zk_port.specs.Files.{Files}
use Rattle.zk_cli.specs.ServeRuns.{TakeFewUnits, units_of_note}
use Rattle.run_laws.specs.RunsInTurn.{Granted, IsOver, MayBeFound}
use Rattle.run_laws.proofs.RunsInTurn.{began, left}
use Rattle.run_laws.proofs.StoppedRuns.{of_deeds}
use Rattle.session_verifier.specs.NoteLines.{start_of}
use Rattle.run_laws.specs.MachineRuns.{AreInTurn, ClaimsAreEvents, EventsLead, HasClaimed, HasRanges, IsDown, IsMachineOf, PastRun, RunLeaves, RunsAreEvents, RunsLeave, all_granted, granted_spans, with_granted}
use Rattle.run_laws.proofs.Eras.{IsCeiling, Serves, ServesBelow, at_once, by_event, grant, raise_to, then}
use Rattle.claim_store.proofs.Joining.{merged_self, merged_through}
use Rattle.claim_store.proofs.Meeting.{claims_more}
use Rattle.claim_store.proofs.Units.{rising_have_units, same_met}
use Rattle.run_laws.proofs.ClaimsInTurn.{last_apart}
use Rattle.lease_store.proofs.Finding.{one_ceiling, says_found}

nothing_more : (claims : List Span) → claims ≡ claims ++ []
nothing_more [] = refl
nothing_more (claim ∷ claims) = ap (λ (more : List Span). claim ∷ more) (nothing_more claims)

-- ---- the ceilings that journals say

of_rule : (total before : ℕ) (body : ℕ × ℕ) → keeps_rule Ceilings total before body ≡ true → (body.0 ≤ total) × ((body.0 % 16 ≡ 0) ⊎ (body.0 ≡ total))
of_rule total before body keeps = grind (arith, nat_tests, keeps)

of_bodies : (total : ℕ) (bodies : List (ℕ × ℕ)) (n : ℕ) → length bodies ≡ n → AreSound Ceilings total bodies → IsCeiling total (body_before bodies n).0
of_bodies total bodies zero size sound = record { within = omega arith; round = inl refl }
of_bodies total bodies (suc n) size sound =
    let keeps = of_rule total (body_before bodies n).0 (get_or bodies n (0, 0)) (sound n (omega (arith, size))) in
    record { within = keeps.0; round = keeps.1 }

is_ceiling : (id : List ℕ) (total ceiling : ℕ) (bytes : List ℕ) → SaysCeiling id total ceiling bytes → IsCeiling total ceiling
is_ceiling id total ceiling bytes said =
    subst (IsCeiling total) said.last (of_bodies total said.bodies (length said.bodies) refl said.says.sound)

-- ---- what a run was granted

-- granted units, if any are, are 1 to 4,096, and lie between these
abbrev IsGranted : ℕ → ℕ → Option Span → Type 0
IsGranted base ceiling granted = (units : ℕ) × (0 < units) × (units ≤ 4096) × IsBetween units base ceiling granted

-- what comes after a span among those of a run
after_it : (units low ceiling : ℕ) (s : Span) (o : Option Span) → 0 < units → s.end ≡ s.start + units → s.start ≤ start_of o → AreGrantsApart (Some s) o
    → IsGranted low ceiling o → IsGranted s.end ceiling o
after_it units low ceiling s None some size later apart between = between
after_it units low ceiling s (Some t) some size later (inl apart) between = (between.0, between.1, between.2, (apart, between.3.1, between.3.2))
after_it units low ceiling s (Some t) some size later (inr apart) between =
    let ends = between.3.1 in
    let own = between.1 in
    absurd (omega (arith, own, ends, later, apart))

-- the first is granted a span, or none
with_turn : (o : Option Span) (rest : List Span) (low ceiling : ℕ) → (o ≡ None → AreInTurn low rest ceiling)
    → ((s : Span) → o ≡ Some s → AreInTurn low (s ∷ rest) ceiling) → AreInTurn low (with_granted o rest) ceiling
with_turn None rest low ceiling none some = none refl
with_turn (Some s) rest low ceiling none some = some s refl

module _ {M : Type 0} (granted : M → Option Span) where
  in_turn : (low ceiling : ℕ) (notes : List M) → low ≤ ceiling → IsNonDecreasingBy (λ note. start_of (granted note)) notes
      → AllPairs (λ one other. AreGrantsApart (granted one) (granted other)) notes → All (λ note. IsGranted low ceiling (granted note)) notes
      → AreInTurn low (granted_spans granted notes) ceiling
  in_turn low ceiling [] rises ordered apart between = rises
  in_turn low ceiling (note ∷ notes) rises ordered apart between =
      with_turn (granted note) (granted_spans granted notes) low ceiling
      (λ none. in_turn low ceiling notes rises
      (λ i j d less within. ordered (suc i) (suc j) d (omega (arith, less)) (omega (arith, within)))
      (λ i j d less within. apart (suc i) (suc j) d (omega (arith, less)) (omega (arith, within)))
      (λ k d within. between (suc k) d (omega (arith, within))))
      (λ s is.
      let first = subst (IsGranted low ceiling) is (between 0 note (omega arith)) in
      let some = first.1 in
      let few = first.2 in
      let size = first.3.1 in (
        first.3.0,
        omega (arith, size, some),
        omega (arith, size, few),
        in_turn s.end ceiling notes first.3.2
            (λ i j d less within. ordered (suc i) (suc j) d (omega (arith, less)) (omega (arith, within)))
            (λ i j d less within. apart (suc i) (suc j) d (omega (arith, less)) (omega (arith, within)))
            (λ k d within. after_it first.0 low ceiling s (granted (get_or notes k d)) some size
            (subst (λ (o : Option Span). start_of o ≤ start_of (granted (get_or notes k d))) is (ordered 0 (suc k) d (omega arith) (omega (arith, within))))
            (subst (λ (o : Option Span). AreGrantsApart o (granted (get_or notes k d))) is (apart 0 (suc k) d (omega arith) (omega (arith, within))))
            (between (suc k) d (omega (arith, within)))),
      ))

turn_rises : (low high : ℕ) (spans : List Span) → AreInTurn low spans high → low ≤ high
turn_rises low high [] stand = stand
turn_rises low high (s ∷ spans) stand = let rest = turn_rises s.end high spans stand.3 in let a = stand.0 in let b = stand.1 in omega (arith, a, b, rest)

higher : (low high above : ℕ) (spans : List Span) → high ≤ above → AreInTurn low spans high → AreInTurn low spans above
higher low high above [] more stand = omega (arith, more, stand)
higher low high above (s ∷ spans) more stand = (stand.0, stand.1, stand.2, higher s.end high above spans more stand.3)

-- the session of a note takes no more units than each does
noted_few : (jobs : VerifierJobs) → TakeFewUnits jobs → (taken : Option ℕ) → units_of_job (noted_job jobs taken) ≤ 4096
noted_few jobs few None = few 0 jobs.first (omega arith)
noted_few jobs few (Some n) = elim (cases_lt n (length (all_jobs jobs))) [
  | inl within ↦ few n jobs.first within
  | inr beyond ↦ subst (λ (job : VerifierJob). units_of_job job ≤ 4096) (sym (get_or_past (all_jobs jobs) n jobs.first beyond)) (few 0 jobs.first (omega arith))
]

-- a session takes a unit, and few
units_some : (jobs : VerifierJobs) → TakeFewUnits jobs → (taken : Option ℕ) → (0 < units_of_job (noted_job jobs taken)) × (units_of_job (noted_job jobs taken) ≤ 4096)
units_some jobs few taken = (omega arith, noted_few jobs few taken)

of_run : {D L : Type 0} (state : D → DiskState) (told : Option Files) (service : Service) (notes : List (SessionNote L)) (old new : D) (id : List ℕ) (total : ℕ)
    → (run : Granted state told service notes old new) → IsOver id total run → (first later : List ℕ) → (state old).content ≡ Some first
    → MayBeFound (state new) later → RunLeaves id total first (granted_spans (λ note. note.granted) notes) later
of_run {D} {L} state told service notes old new id total run over first later known there =
    let found : FindsCeiling id total run.ceiling first later = left state told service notes old new id total run over first later known there in
    let units = λ (note : SessionNote L). units_some run.jobs run.few note.statement in
    record {
      base = run.base;
      ceiling = last_ceiling found.bodies;
      began = began state told service notes old new id total run over first known;
      left = says_found id total run.ceiling first later found;
      stand = higher run.base run.ceiling (last_ceiling found.bodies) (granted_spans (λ note. note.granted) notes) found.reaches
          (in_turn (λ (note : SessionNote L). note.granted) run.base run.ceiling notes run.grows run.ordered run.apart
          (λ k d within. let note : SessionNote L = get_or notes k d in
          (units_of_note run.jobs note, (units note).0, (units note).1, run.spans k d within)));
    }

of_stop : (id : List ℕ) (total base : ℕ) (first later : List ℕ) → SaysCeiling id total base first → FindsCeiling id total base first later
    → RunLeaves id total first [] later
of_stop id total base first later began found = record {
  base = base;
  ceiling = last_ceiling found.bodies;
  began = began;
  left = says_found id total base first later found;
  stand = found.reaches;
}

-- ---- an era

-- a machine serves below a ceiling, wherever it is
abbrev ServesTo : ℕ → List Span → ℕ → Machine → Type 0
ServesTo total spent ceiling m = (next : ℕ) × ServesBelow total spent next ceiling m

begins : (total : ℕ) (spent : List Span) (base ceiling : ℕ) (m : Machine) → IsDown total spent base m → base ≤ ceiling
    → EventsLead m (ServesBelow total spent base ceiling)
begins total spent base ceiling m d rises = by_event m Begin may (record {
  shown = base;
  serves = record {
    up = refl;
    stage_is = refl;
    free = refl;
    reached = (reached_goes_on m Begin d.reached may).0;
    has_pass = d.has_pass;
    total_is = d.total_is;
    next_is = d.durable_is;
    shown_is = d.durable_is;
    spent_is = d.spent_is;
  };
  low = omega arith;
  high = rises;
}) where
  may : is_possible m Begin ≡ true
  may = not_from_false m.up d.down

grants : (total : ℕ) (spent spans : List Span) (next ceiling : ℕ) (m : Machine) → IsCeiling total ceiling → ServesBelow total spent next ceiling m
    → AreInTurn next spans ceiling → EventsLead m (ServesTo total (spent ++ spans) ceiling)
grants total spent [] next ceiling m is below stand =
    at_once m (next, subst (λ (all : List Span). ServesBelow total all next ceiling m) (nothing_more spent) below)
grants total spent (s ∷ spans) next ceiling m is below stand =
    then m (grant total spent next ceiling s m is below stand.0 stand.1 stand.2 (turn_rises s.end ceiling spans stand.3)) (λ n served.
    then n (grants total (spent ++ s ∷ []) spans s.end ceiling n is served stand.3) (λ l done.
    at_once l (subst (λ (all : List Span). ServesTo total all ceiling l) (append_assoc spent (s ∷ []) spans) done)))

stops : (total : ℕ) (spent : List Span) (ceiling : ℕ) (m : Machine) → ServesBelow total spent ceiling ceiling m → EventsLead m (IsDown total spent ceiling)
stops total spent ceiling m below = by_event m (Crash [] 0) s.up (record {
  reached = (reached_goes_on m (Crash [] 0) s.reached s.up).0;
  down = refl;
  has_pass = s.has_pass;
  total_is = s.total_is;
  durable_is = ap last_of (no_put m.stage (m.slots ++ m.ceiling ∷ []) m.slots s.stage_is) ∙ shows;
  spent_is = s.spent_is;
}) where
  s : Serves total spent ceiling below.shown m
  s = below.serves

  no_put : (stage : ℕ) (more slots : List ℕ) → stage ≡ 0 → cond (nat_eq stage 3 && nat_eq 0 90) more slots ≡ slots
  no_put stage more slots none = ap (λ (n : ℕ). cond (nat_eq n 3 && nat_eq 0 90) more slots) none

  shows : durable m ≡ ceiling
  shows =
      let at = s.stage_is in
      let is = s.shown_is in
      let low = below.low in
      let high = below.high in
      let same = (is_consistent m (reached_inv m s.reached)).durable_before s.up (omega (arith, at)) in
      omega (arith, same, is, low, high)

-- an era in which these spans are granted, and which leaves this ceiling
era : (total : ℕ) (spent spans : List Span) (base ceiling : ℕ) (m : Machine) → IsCeiling total ceiling → IsDown total spent base m
    → AreInTurn base spans ceiling → EventsLead m (IsDown total (spent ++ spans) ceiling)
era total spent spans base ceiling m is down stand =
    then m (begins total spent base ceiling m down (turn_rises base ceiling spans stand)) (λ n began.
    then n (grants total spent spans base ceiling n is began stand) (λ l served.
    then l (raise_to total (spent ++ spans) served.0 ceiling l is served.1) (λ k shown.
    stops total (spent ++ spans) ceiling k shown)))

-- ---- journals

first_machine : (id : List ℕ) (total ceiling : ℕ) (first : List ℕ) → SaysCeiling id total ceiling first
    → (m : Machine) × IsMachineOf id total first [] m
first_machine id total ceiling first said =
    let m : Machine = machine_at_first total 1 in
    let led = era total [] [] 0 ceiling m (is_ceiling id total ceiling first said)
    (record { reached = reached_first total 1; down = refl; has_pass = omega arith; total_is = refl; durable_is = refl; spent_is = refl })
    (omega arith) in
    (after_all m led.events, record { ceiling = ceiling; says = said; is = led.led })

one_run : (id : List ℕ) (total : ℕ) (first : List ℕ) (before granted : List Span) (later : List ℕ) (m : Machine)
    → IsMachineOf id total first before m → RunLeaves id total first granted later → EventsLead m (IsMachineOf id total later (before ++ granted))
one_run id total first before granted later m of run =
    let began = one_ceiling id total of.ceiling run.base first of.says run.began in
    then m (era total before granted run.base run.ceiling m (is_ceiling id total run.ceiling later run.left)
    (subst (λ (c : ℕ). IsDown total before c m) began of.is) run.stand) (λ n led.
    at_once n (record { ceiling = run.ceiling; says = run.left; is = led }))

all_runs : (id : List ℕ) (total : ℕ) (first : List ℕ) (before : List Span) (runs : List PastRun) (later : List ℕ) (m : Machine)
    → IsMachineOf id total first before m → RunsLeave id total first runs later
    → EventsLead m (IsMachineOf id total later (before ++ all_granted runs))
all_runs id total first before [] later m of same =
    at_once m (subst (λ (p : List ℕ × List Span). IsMachineOf id total p.0 p.1 m) (λ i. (same i, nothing_more before i)) of)
all_runs id total first before (run ∷ runs) later m of leave =
    then m (one_run id total first before run.granted run.left m of leave.0) (λ n one.
    then n (all_runs id total run.left (before ++ run.granted) runs later n one leave.1) (λ l all.
    at_once l (subst (λ (spans : List Span). IsMachineOf id total later spans l) (append_assoc before run.granted (all_granted runs)) all)))

pub runs_are_events : (L : Type 0) {D : Type 0} (state : D → DiskState)
    → ((disk : D) (t : ℕ) (c : List ℕ) → t ≤ (state disk).moment → (state disk).images c → (state disk).images_since t c)
    → ((disk : D) (c : List ℕ) → (state disk).images_since (state disk).moment c → (state disk).images c) → RunsAreEvents L state
runs_are_events L {D} state counts_now only_now = record {
  of_run = of_run state;
  of_deeds = of_deeds state counts_now only_now;
  of_stop = of_stop;
  begins = first_machine;
  apart = λ id total ceiling first runs later said leave.
      let began = first_machine id total ceiling first said in
      let led = all_runs id total first [] runs later began.0 began.1 leave in
      subst AreSpansApart led.led.is.spent_is (is_consistent _ (reached_inv _ led.led.is.reached)).spent_apart;
  one_run = one_run;
  all_runs = all_runs;
} where
  AreSpansApart : List Span → Type 0
  AreSpansApart spans = AllPairs IsApart spans

-- ---- claims

-- a claim that may stand after these
claim : (total : ℕ) (claims more : List Span) (s : Span) (m : Machine) → HasClaimed total claims m → AreClaims total (claims ++ s ∷ more)
    → EventsLead m (HasClaimed total (claims ++ s ∷ []))
claim total claims more s m has sound = by_event m (Claim s) may (record {
  reached = (reached_goes_on m (Claim s) has.reached may).0;
  total_is = has.total_is;
  claims_are = ap (λ (spans : List Span). spans ++ s ∷ []) has.claims_are;
}) where
  size : length (claims ++ s ∷ more) ≡ length claims + suc (length more)
  size = length-append claims (s ∷ more)

  here : get_or (claims ++ s ∷ more) (length claims) s ≡ s
  here = get_or-append_seam claims s more s

  apart : (k : ℕ) (d : Span) → k < length claims → IsApart (get_or claims k d) s
  apart k d within = subst (λ (p : Span × Span). IsApart p.0 p.1)
      (λ i. (get_or-append claims (s ∷ more) d k within i, get_or-append_seam claims s more d i))
      (sound.apart k (length claims) d within (omega (arith, size)))

  none : meets_any s m.claims ≡ false
  none = ap (meets_any s) has.claims_are ∙ list_any_none (λ (c : Span). meets c s) claims (λ k d within. not_met (get_or claims k d) (apart k d within))
    where
      not_met : (c : Span) → IsApart c s → meets c s ≡ false
      not_met c (inl before) = grind (arith, nat_tests, before)
      not_met c (inr behind) = grind (arith, nat_tests, behind)

  may : is_possible m (Claim s) ≡ true
  may =
      let rule = subst (λ (t : Span). (t.start < t.end) × (t.end ≤ total)) here (sound.within (length claims) s (omega (arith, size))) in
      let all = has.total_is in
      let ends = rule.1 in
      and_from (nat_lt s.start s.end && nat_le s.end m.total) _
      (and_from (nat_lt s.start s.end) (nat_le s.end m.total) (lt-ltb s.start s.end rule.0) (le-leb s.end m.total (omega (arith, all, ends))))
      (not_from_false (meets_any s m.claims) none)

claims_on : (total : ℕ) (claims more : List Span) (m : Machine) → HasClaimed total claims m → AreClaims total (claims ++ more)
    → EventsLead m (HasClaimed total (claims ++ more))
claims_on total claims [] m has sound = at_once m (subst (λ (spans : List Span). HasClaimed total spans m) (nothing_more claims) has)
claims_on total claims (s ∷ more) m has sound =
    let together = append_assoc claims (s ∷ []) more in
    then m (claim total claims more s m has sound) (λ n one.
    then n (claims_on total (claims ++ s ∷ []) more n one (subst (AreClaims total) (sym together) sound)) (λ l all.
    at_once l (subst (λ (spans : List Span). HasClaimed total spans l) together all)))

pub claims_are_events : ClaimsAreEvents
claims_are_events = record {
  begins = λ total ranges sound rising.
      let led = claims_on total [] ranges (machine_at_first total 1)
      (record { reached = reached_first total 1; total_is = refl; claims_are = refl }) sound in
      (_, record { claims = ranges; has = led.led; sound = sound; merged = merged_self ranges rising });
  one_run = next;
} where
  next : (total : ℕ) (ranges later : List Span) (claimed : Span) (m : Machine) → HasRanges total ranges m
      → (later ≡ ranges) ⊎ (AreMerged (ranges ++ claimed ∷ []) later × AreClaims total (ranges ++ claimed ∷ [])) → EventsLead m (HasRanges total later)
  next total ranges later claimed m has (inl same) = at_once m (subst (λ (spans : List Span). HasRanges total spans m) (sym same) has)
  next total ranges later claimed m has (inr one) =
      then m (claim total has.claims [] claimed m has.has more) (λ n led.
      at_once n (record { claims = has.claims ++ claimed ∷ []; has = led; sound = more; merged = merged_through has.claims ranges later claimed has.merged one.0 }))
    where
      last : (claimed.start < claimed.end) × (claimed.end ≤ total)
      last = subst (λ (s : Span). (s.start < s.end) × (s.end ≤ total)) (get_or-append_seam ranges claimed [] claimed)
          (one.1.within (length ranges) claimed (let size = length-append ranges (claimed ∷ []) in omega (arith, size)))

      none : meets_any claimed has.claims ≡ false
      none = same_met claimed has.claims ranges last.0 (λ k d below. (has.sound.within k d below).0) (rising_have_units 0 ranges has.merged.rising)
          (λ unit. sym (has.merged.same unit))
          ∙ last_apart total ranges claimed one.1

      more : AreClaims total (has.claims ++ claimed ∷ [])
      more = claims_more total has.claims claimed has.sound last.0 last.1 (ap not none)
