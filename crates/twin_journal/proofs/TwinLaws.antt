-- Which area is active, what is recovered, and that a start goes well again.
use Rattle.std.proofs.Common.{◌≡◌, ◌<◌, ◌≤◌, ◌+◌, ◌-◌, ◌++◌, ℕ, List, [], ◌∷◌, Bool, true, false, length, ⊎_elim, refl, ap, sym, ◌∙◌, subst, arith}
use Rattle.std.proofs.lemmas.Bool.Decides.{nat_tests}
use Rattle.std.proofs.lemmas.List.{length-append}
use Rattle.std.proofs.lemmas.List.Sums.{sum_by-append}
use Rattle.zk_model.specs.declared.JournalKind.{JournalKind}
use Rattle.zk_model.specs.declared.JournalKind.TheVariants.{Claims, Ceilings}
use Rattle.lease_journal.specs.Journals.{AreSound, AreUsed, IsTidy, Recovers, body_before, first_bodies, keeps_rule}
use Rattle.lease_journal.specs.Twins.{HoldsTwin, IsActive, MayHaveGeneration, SaysTwin, TwinStands, area_at, claimed_units, generation_at}
use Rattle.lease_journal.specs.declared.fault.StartFault.{StartFault}
use Rattle.lease_journal.specs.declared.fault.StartFault.TheVariants.{Device, Short, BadHeader, BadBody}
use Rattle.lease_journal.proofs.Scanning.{used_recovers}
use Rattle.lease_journal.proofs.Sound.{before_left, before_more, last_at, recovers_same, sound_slots}
use Rattle.twin_journal.specs.Laws.{GenerationsGoOn, RecoversOneList, SaysWhatItRecovers, TwinStartsAgain}
use Rattle.twin_journal.specs.Starts.{HasBadBody, HasBadGeneration, HasNoArea, PlaceCause, TwinStartCause}

-- one area is the active one
pub active_one : (begin slots : ℕ) (bytes : List ℕ) (j k : Bool) → IsActive begin slots bytes j → IsActive begin slots bytes k → j ≡ k
active_one begin slots bytes false false one other = refl
active_one begin slots bytes true true one other = refl
active_one begin slots bytes false true one other = absurd (omega (arith, one.before other.opened, other.before one.opened))
active_one begin slots bytes true false one other = absurd (omega (arith, one.before other.opened, other.before one.opened))

pub says_recovers : SaysWhatItRecovers
says_recovers begin slots generation bodies bytes says = record {
  tidy = λ k active. subst (λ j. IsTidy (area_at begin slots j) slots bytes) (active_one begin slots bytes says.second k says.area.active active) says.area.tidy;
  recovered = record { second = says.second; active = says.area.active; recovered = says.area.recovered };
}

pub recovers_one : RecoversOneList
recovers_one begin slots bytes bodies others one other =
    recovers_same (area_at begin slots one.second) slots bytes bodies others one.recovered
    (subst (λ j. Recovers (area_at begin slots j) slots bytes others) (active_one begin slots bytes other.second one.second other.active one.active) other.recovered)

not_both : false ≡ true → ⊥
not_both e = cc e

no_area : (begin slots : ℕ) (bytes : List ℕ) (place : ℕ) (second : Bool) → IsActive begin slots bytes second → HasNoArea begin slots bytes place → ⊥
no_area begin slots bytes place false active none = none.first active.opened
no_area begin slots bytes place true active none = none.second active.opened

module _ (kind : JournalKind) (id : List ℕ) (total begin slots generation : ℕ) (bodies : List (ℕ × ℕ)) (bytes : List ℕ)
    (stands : TwinStands kind id total begin slots bytes) (says : SaysTwin begin slots generation bodies bytes) (sound : AreSound kind total bodies)
    (may : MayHaveGeneration kind bodies generation) where
  -- the bodies are those of the slots in use
  bodies_used : (second : Bool) (used : ℕ) → IsActive begin slots bytes second → AreUsed (area_at begin slots second) slots used bytes
      → bodies ≡ first_bodies (area_at begin slots second) used bytes
  bodies_used second used active are =
      recovers_one begin slots bytes bodies (first_bodies (area_at begin slots second) used bytes)
      (record { second = says.second; active = says.area.active; recovered = says.area.recovered })
      (record { second = second; active = active; recovered = used_recovers (area_at begin slots second) slots used bytes are })

  no_bad_body : (bad : ℕ) → HasBadBody kind total begin slots bytes bad → ⊥
  no_bad_body bad has =
      let same = bodies_used has.second has.used has.active has.are in
      not_both (sym has.first.1 ∙ sound_slots kind total (area_at begin slots has.second) has.used bytes (subst (AreSound kind total) same sound) bad has.first.0)

  no_bad_generation : (place : ℕ) → HasBadGeneration kind total begin slots bytes place → ⊥
  no_bad_generation place has =
      let same = bodies_used has.second has.used has.active has.are in
      let here : generation ≡ generation_at begin slots bytes has.second =
      sym says.area.generation_is ∙ ap (generation_at begin slots bytes) (active_one begin slots bytes says.second has.second says.area.active has.active) in
      has.bad (subst (λ n. MayHaveGeneration kind (first_bodies (area_at begin slots has.second) has.used bytes) n) here
      (subst (λ bs. MayHaveGeneration kind bs generation) same may))

starts_there : (kind : JournalKind) (id : List ℕ) (total begin slots generation : ℕ) (bodies : List (ℕ × ℕ)) (bytes : List ℕ) (fault : StartFault)
    → TwinStands kind id total begin slots bytes → SaysTwin begin slots generation bodies bytes → AreSound kind total bodies
    → MayHaveGeneration kind bodies generation → TwinStartCause kind id total begin bytes fault → fault ≡ Device
starts_there kind id total begin slots generation bodies bytes Device stands says sound may cause = refl
starts_there kind id total begin slots generation bodies bytes (Short need got) stands says sound may cause = absurd (⊎_elim
    (λ short. omega (arith, short.1, stands.header.whole))
    (λ cut. omega (arith, cut.2, stands.says, stands.full))
    cause.1)
starts_there kind id total begin slots generation bodies bytes (BadHeader place) stands says sound may cause = absurd (⊎_elim
    (λ wrong. not_both (sym (stands.header.right place wrong.inside) ∙ wrong.wrong))
    (λ whole. ⊎_elim
    (λ none. no_area begin slots bytes place says.second says.area.active (subst (λ n. HasNoArea begin n bytes place) stands.says none))
    (λ bad. no_bad_generation kind id total begin slots generation bodies bytes stands says sound may place (subst (λ n. HasBadGeneration kind total begin n bytes place) stands.says bad))
    whole.1)
    cause)
starts_there kind id total begin slots generation bodies bytes (BadBody bad) stands says sound may cause =
    absurd (no_bad_body kind id total begin slots generation bodies bytes stands says sound may bad (subst (λ n. HasBadBody kind total begin n bytes bad) stands.says cause.1))

-- the place is found
no_place : (kind : JournalKind) (id : List ℕ) (total begin slots : ℕ) (bytes : List ℕ) (fault : StartFault) → HoldsTwin kind id total begin slots bytes
    → PlaceCause kind id total bytes fault → fault ≡ Device
no_place kind id total begin slots bytes Device holds cause = refl
no_place kind id total begin slots bytes (Short need got) holds cause = absurd cause
no_place kind id total begin slots bytes (BadHeader place) holds cause = absurd (not_both (sym ((holds.moved cause.0).right place cause.1.inside) ∙ cause.1.wrong))
no_place kind id total begin slots bytes (BadBody bad) holds cause = absurd cause

pub starts_again : TwinStartsAgain
starts_again kind id total begin slots generation bodies bytes fault holds says sound may cause = ⊎_elim
    (λ unplaced. no_place kind id total begin slots bytes fault holds unplaced)
    (λ there. starts_there kind id total begin slots generation bodies bytes fault holds.stands says sound may
    (subst (λ n. TwinStartCause kind id total n bytes fault) holds.begins there.1))
    cause

-- one body more says no fewer units
more_claims : (bodies : List (ℕ × ℕ)) (body : ℕ × ℕ) → claimed_units Claims bodies ≤ claimed_units Claims (bodies ++ body ∷ [])
more_claims bodies body = omega (arith, sum_by-append (λ (b : ℕ × ℕ). b.1 - b.0) bodies (body ∷ []))

rises : (total before : ℕ) (body : ℕ × ℕ) → keeps_rule Ceilings total before body ≡ true → before < body.0
rises total before body keeps = grind (arith, nat_tests)

more_ceilings : (total : ℕ) (bodies : List (ℕ × ℕ)) (body : ℕ × ℕ) → AreSound Ceilings total (bodies ++ body ∷ [])
    → claimed_units Ceilings bodies ≤ claimed_units Ceilings (bodies ++ body ∷ [])
more_ceilings total bodies body sound =
    let size : length (bodies ++ body ∷ []) ≡ length bodies + 1 = length-append bodies (body ∷ []) in
    let last : claimed_units Ceilings (bodies ++ body ∷ []) ≡ body.0 =
    ap (λ n. (body_before (bodies ++ body ∷ []) n).0) size ∙ ap (λ (b : ℕ × ℕ). b.0) (before_more bodies body (length bodies) refl) in
    let rule : keeps_rule Ceilings total (body_before bodies (length bodies)).0 body ≡ true =
    sym (ap (λ (b : ℕ × ℕ). keeps_rule Ceilings total b.0 body) (before_left bodies body (length bodies) (omega arith)))
    ∙ sym (ap (keeps_rule Ceilings total (body_before (bodies ++ body ∷ []) (length bodies)).0) (last_at bodies body (length bodies) refl))
    ∙ sound (length bodies) (omega (arith, size)) in
    omega (arith, last, rises total (body_before bodies (length bodies)).0 body rule)

more_units : (kind : JournalKind) (total : ℕ) (bodies : List (ℕ × ℕ)) (body : ℕ × ℕ) → AreSound kind total (bodies ++ body ∷ [])
    → claimed_units kind bodies ≤ claimed_units kind (bodies ++ body ∷ [])
more_units Claims total bodies body sound = more_claims bodies body
more_units Ceilings total bodies body sound = more_ceilings total bodies body sound

pub generations_go_on : GenerationsGoOn
generations_go_on = record {
  put = λ kind total generation bodies body sound may. record {
    least = may.least;
    most = omega (arith, may.most, more_units kind total bodies body sound);
  };
  compact = λ kind generation bodies enough. record {
    least = omega arith;
    most = omega (arith, enough);
  };
}
