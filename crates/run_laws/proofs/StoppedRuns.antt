-- Runs that were stopped.
use Rattle.std.proofs.Common.{◌≡◌, ◌≤◌, ◌<◌, ℕ, zero, suc, List, [], ◌∷◌, length, get_or, Option, None, Some, refl, ap, ◌∙◌, subst, arith, All}
use Rattle.std.specs.List.{Contains}
use Rattle.lease_journal.specs.Twins.{SaysTwin, twin_ceiling_slots}
use Rattle.zk_model.specs.declared.Span.{Span}
use Rattle.zk_port.specs.Disks.{DiskState}
use Rattle.zk_port.specs.Images.{StepsBy}
use Rattle.twin_journal.specs.States.{TwinState}
use Rattle.twin_journal.proofs.TwinLaws.{recovers_one, says_recovers}
use Rattle.lease_store.specs.Ceilings.{FindsCeiling, HasCeilings, SaysCeiling, last_ceiling}
use Rattle.lease_store.specs.Stops.{Deed, asks, shows, grants, MayDo}
use Rattle.lease_store.specs.Storing.{Stores}
use Rattle.lease_store.proofs.Keeping.{keeps, moments}
use Rattle.lease_store.proofs.Places.{begins_once}
use Rattle.run_laws.specs.MachineRuns.{AreInTurn, MayLeave, RunLeaves, granted_ends}

-- bytes say one list of ceilings, whatever id they are read with
one_last : (id other : List ℕ) (total a g b h : ℕ) (some more : List (ℕ × ℕ)) (bytes : List ℕ) → HasCeilings id total a g some bytes → HasCeilings other total b h more bytes
    → some ≡ more
one_last id other total a g b h some more bytes one two =
    let same : b ≡ a = begins_once bytes b a two.holds.begins one.holds.begins in
    recovers_one a (twin_ceiling_slots total) bytes some more
    (says_recovers a (twin_ceiling_slots total) g some bytes one.says).recovered
    (says_recovers a (twin_ceiling_slots total) h more bytes (subst (λ n. SaysTwin n (twin_ceiling_slots total) h more bytes) same two.says)).recovered

-- where the content was told, it is still
goes_on : (step : List ℕ → List ℕ → Type 0) (old new : Option (List ℕ)) (first : List ℕ) → old ≡ Some first → StepsBy step old new
    → (bytes : List ℕ) × (new ≡ Some bytes)
goes_on step None new first known steps = cc
goes_on step (Some old) None first known steps = absurd steps
goes_on step (Some old) (Some bytes) first known steps = (bytes, refl)

-- each of these is at most that
abbrev AreUpTo : ℕ → List ℕ → Type 0
AreUpTo shown [] = Unit {0}
AreUpTo shown (end ∷ ends) = (end ≤ shown) × AreUpTo shown ends

-- What a crash left after deeds, or within the last: it finds a ceiling at or above the base and each end that was granted
record IsCut (total base : ℕ) (ends : List ℕ) (left : List ℕ) : Type 0 where
  shown : ℕ
  rises : base ≤ shown
  up : AreUpTo shown ends
  id : List ℕ
  first : List ℕ
  found : FindsCeiling id total shown first left

cut_lower : (total base low : ℕ) (ends left : List ℕ) → base ≤ low → IsCut total low ends left → IsCut total base ends left
cut_lower total base low ends left under cut = record {
  shown = cut.shown;
  rises = let a = cut.rises in omega (arith, under, a);
  up = cut.up;
  id = cut.id;
  first = cut.first;
  found = cut.found;
}

cut_grants : (total shown end : ℕ) (ends left : List ℕ) → end ≤ shown → IsCut total shown ends left → IsCut total shown (end ∷ ends) left
cut_grants total shown end ends left under cut = record {
  shown = cut.shown;
  rises = cut.rises;
  up = (let a = cut.rises in omega (arith, under, a), cut.up);
  id = cut.id;
  first = cut.first;
  found = cut.found;
}

module _ {D : Type 0} (state : D → DiskState)
    (counts_now : (disk : D) (t : ℕ) (c : List ℕ) → t ≤ (state disk).moment → (state disk).images c → (state disk).images_since t c)
    (only_now : (disk : D) (c : List ℕ) → (state disk).images_since (state disk).moment c → (state disk).images c) (total : ℕ) where
  cut_at : (shown : ℕ) (journal : TwinState D) (deeds : List (Deed D)) (first left : List ℕ) → (state journal.disk).content ≡ Some first
      → Stores state total journal shown → MayDo state total journal shown deeds → MayLeave state journal deeds left
      → IsCut total shown (granted_ends deeds) left
  cut_at shown journal [] first left known s may leaves =
      record { shown = journal.last.0; rises = s.reaches; up = tt; id = s.id; first = first; found = s.each first known left leaves }
  cut_at shown journal (asks ceiling answer now ∷ []) first left known s may leaves =
      let moment = moments state counts_now only_now total journal ceiling may.0 now answer may.1 shown s first known in
      record { shown = shown; rises = omega arith; up = tt; id = moment.0; first = first; found = moment.1.each left leaves }
  cut_at shown journal (asks ceiling answer now ∷ deed ∷ deeds) first left known s may leaves =
      let next = goes_on _ (state journal.disk).content (state now.disk).content first known may.1.changes.content in
      cut_at shown now (deed ∷ deeds) next.0 left next.1 (keeps state counts_now only_now total journal ceiling may.0 now answer may.1 shown s) may.2 leaves
  cut_at shown journal (shows ceiling ∷ deeds) first left known s may leaves =
      cut_lower total shown ceiling (granted_ends deeds) left may.0 (cut_at ceiling journal deeds first left known may.1 may.2 leaves)
  cut_at shown journal (grants end ∷ deeds) first left known s may leaves =
      cut_grants total shown end (granted_ends deeds) left may.0 (cut_at shown journal deeds first left known s may.1 leaves)

-- an end that was granted is at most what is found
contained : (shown : ℕ) (ends : List ℕ) (end : ℕ) → AreUpTo shown ends → Contains ends end → end ≤ shown
contained shown ends end up has = at ends has.0 up has.1 has.2 where
  at : (ends : List ℕ) (k : ℕ) → AreUpTo shown ends → k < length ends → get_or ends k end ≡ end → end ≤ shown
  at [] k up below is = absurd (omega (arith, below))
  at (e ∷ ends) zero up below is = let a = up.0 in omega (arith, a, is)
  at (e ∷ ends) (suc k) up below is = at ends k up.1 (omega (arith, below)) is

-- spans that stand one after the other, and each ends at or below a ceiling, stand below it
turn_below : (low high ceiling : ℕ) (spans : List Span) → AreInTurn low spans high → low ≤ ceiling → All (λ s. s.end ≤ ceiling) spans → AreInTurn low spans ceiling
turn_below low high ceiling [] stand under ends = under
turn_below low high ceiling (s ∷ spans) stand under ends =
    (stand.0, stand.1, stand.2, turn_below s.end high ceiling spans stand.3 (ends 0 s (omega arith)) (λ k d below. ends (suc k) d (omega (arith, below))))

pub of_deeds : {D : Type 0} (state : D → DiskState)
    → ((disk : D) (t : ℕ) (c : List ℕ) → t ≤ (state disk).moment → (state disk).images c → (state disk).images_since t c)
    → ((disk : D) (c : List ℕ) → (state disk).images_since (state disk).moment c → (state disk).images c)
    → (id : List ℕ) (total base ceiling high : ℕ) (journal : TwinState D) (deeds : List (Deed D)) (granted : List Span) (first left : List ℕ)
    → SaysCeiling id total base first → (state journal.disk).content ≡ Some first → Stores state total journal base
    → MayDo state total journal base deeds → MayLeave state journal deeds left → SaysCeiling id total ceiling left
    → AreInTurn base granted high → All (λ span. Contains (granted_ends deeds) span.end) granted → RunLeaves id total first granted left
of_deeds {D} state counts_now only_now id total base ceiling high journal deeds granted first left began known stores may leaves said stand all =
    let cut = cut_at state counts_now only_now total base journal deeds first left known stores may leaves in
    let same = one_last cut.id id total cut.found.begin cut.found.generation said.begin said.generation cut.found.bodies said.bodies left cut.found.says said.says in
    let last : last_ceiling cut.found.bodies ≡ ceiling = ap last_ceiling same ∙ said.last in
    let reaches = cut.found.reaches in
    let rises = cut.rises in
    record {
      base = base;
      ceiling = ceiling;
      began = began;
      left = said;
      stand = turn_below base high ceiling granted stand (omega (arith, last, reaches, rises))
          (λ k d below. let low = contained cut.shown (granted_ends deeds) (get_or granted k d).end cut.up (all k d below) in omega (arith, last, reaches, low));
    }
