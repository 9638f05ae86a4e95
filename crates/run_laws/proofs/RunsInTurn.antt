-- Runs over one file's journal, one after the other.
use Rattle.std.proofs.Common.{◌≡◌, ◌≤◌, ℕ, List, Option, None, Some, IsSomeAnd, inl, inr, subst, arith}
use Rattle.zk_model.specs.declared.Span.{Span}
use Rattle.zk_port.specs.Disks.{DiskState}
use Rattle.zk_port.specs.Files.{Files}
use Rattle.lease_store.specs.Ceilings.{FindsCeiling, SaysCeiling, last_ceiling}
use Rattle.lease_store.proofs.Finding.{one_ceiling, says_found}
use Rattle.session_pool.specs.Notes.{AreGrantsApart, IsBetween}
use Rattle.session_verifier.specs.declared.note.SessionNote.{SessionNote}
use Rattle.claim_files.specs.Services.{Service}
use Rattle.run_laws.specs.RunsInTurn.{Granted, IsOver, KeepsUp, MayBeFound, RunsGrantOnce}

keeps_up : (id : List ℕ) (total base ceiling : ℕ) (first image : List ℕ) → SaysCeiling id total base first → base ≤ ceiling
    → FindsCeiling id total ceiling first image → KeepsUp id total first image
keeps_up id total base ceiling first image said grows found = record {
  low = base;
  high = last_ceiling found.bodies;
  says = said;
  finds = says_found id total ceiling first image found;
  grows = let more = found.reaches in omega (arith, grows, more);
}

in_turn : (id : List ℕ) (total : ℕ) (first middle last : List ℕ) → KeepsUp id total first middle → KeepsUp id total middle last
    → KeepsUp id total first last
in_turn id total first middle last one other = record {
  low = one.low;
  high = other.high;
  says = one.says;
  finds = other.finds;
  grows = let same = one_ceiling id total one.high other.low middle one.finds other.says in
      let a = one.grows in
      let b = other.grows in
      omega (arith, same, a, b);
}

-- a span below a ceiling and one above it are apart
apart_at : (units base ceiling later_units later_base later_ceiling : ℕ) (one other : Option Span) → ceiling ≤ later_base
    → IsBetween units base ceiling one → IsBetween later_units later_base later_ceiling other → AreGrantsApart one other
apart_at units base ceiling later_units later_base later_ceiling None other low below above = tt
apart_at units base ceiling later_units later_base later_ceiling (Some s) None low below above = tt
apart_at units base ceiling later_units later_base later_ceiling (Some s) (Some t) low below above =
    let ends = below.2 in
    let starts = above.0 in
    inl (omega (arith, low, ends, starts))

-- where an earlier run left a ceiling, a later one begins at or above it
begins_above : (id : List ℕ) (total ceiling base : ℕ) (first image later : List ℕ) → FindsCeiling id total ceiling first image
    → KeepsUp id total image later → SaysCeiling id total base later → ceiling ≤ base
begins_above id total ceiling base first image later found kept said =
    let same = one_ceiling id total kept.low (last_ceiling found.bodies) image kept.says (says_found id total ceiling first image found) in
    let next = one_ceiling id total kept.high base later kept.finds said in
    let reaches = found.reaches in
    let grows = kept.grows in
    omega (arith, same, next, reaches, grows)

-- what content that is known has
pub of_some : (P : List ℕ → Type 0) (content : Option (List ℕ)) (bytes : List ℕ) → content ≡ Some bytes → IsSomeAnd content P → P bytes
of_some P content bytes is has = subst (λ (o : Option (List ℕ)). IsSomeAnd o P) is has

-- ---- a run, from its record

module _ {D L : Type 0} (state : D → DiskState) (told : Option Files) (service : Service) (notes : List (SessionNote L)) (old new : D)
    (id : List ℕ) (total : ℕ) (run : Granted state told service notes old new) (over : IsOver id total run) where
  pub began : (first : List ℕ) → (state old).content ≡ Some first → SaysCeiling id total run.base first
  began first known = subst (λ (f : List ℕ × ℕ). SaysCeiling f.0 f.1 run.base first) (λ i. (over.0 i, over.1 i)) (run.recovered first known)

  pub found_at : (ceiling : ℕ) (first bytes : List ℕ) → FindsCeiling run.jobs.first.task.file.id run.jobs.first.task.file.params.total ceiling first bytes
      → FindsCeiling id total ceiling first bytes
  found_at ceiling first bytes found = subst (λ (f : List ℕ × ℕ). FindsCeiling f.0 f.1 ceiling first bytes) (λ i. (over.0 i, over.1 i)) found

  pub left : (first found : List ℕ) → (state old).content ≡ Some first → MayBeFound (state new) found → FindsCeiling id total run.ceiling first found
  left first found known (inl content) = found_at run.ceiling first found
      (of_some (FindsCeiling run.jobs.first.task.file.id run.jobs.first.task.file.params.total run.ceiling first) (state new).content found content (run.read first known))
  left first found known (inr image) = found_at run.ceiling first found (run.durable first known found image)

pub runs_grant_once : (L : Type 0) {D : Type 0} (state : D → DiskState) → RunsGrantOnce L state
runs_grant_once L {D} state = record {
  keeps_up = λ told service notes old new id total run over first found known found_there.
      keeps_up id total run.base run.ceiling first found (began state told service notes old new id total run over first known) run.grows
      (left state told service notes old new id total run over first found known found_there);
  any_moment = λ told service notes old new id total run over first image known since. elim ((run.any_moment first known).each image since) [
    | inl was ↦ inl was
    | inr found ↦ inr (keeps_up id total run.base run.base first image (began state told service notes old new id total run over first known) (omega arith)
        (found_at state told service notes old new id total run over run.base first image found))
  ];
  in_turn = in_turn;
  apart = λ told later_told service later_service notes later_notes old new later_old later_new id total run over later later_over first found begun known found_there kept later_known.
      let low = begins_above id total run.ceiling later.base first found begun (left state told service notes old new id total run over first found known found_there) kept
      (began state later_told later_service later_notes later_old later_new id total later later_over begun later_known) in
      λ k default within other_k other_default other_within.
      apart_at _ run.base run.ceiling _ later.base later.ceiling _ _ low (run.spans k default within) (later.spans other_k other_default other_within);
}
