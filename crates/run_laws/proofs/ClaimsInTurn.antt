-- Runs over one file's journal of claims, one after the other.
use Rattle.std.proofs.Common.{◌≡◌, ◌⊎◌, ◌<◌, ◌++◌, ◌∷◌, [], ℕ, max, List, length, get_or, Option, None, Some, Result, Ok, Err, IsSomeAnd, true, false, Bool, ◌||◌, refl, ap, sym, ◌∙◌, subst, inl, inr, arith}
use Rattle.std.proofs.lemmas.Bool.{cases_lt}
use Rattle.std.proofs.Math.Seq.{get_or-append_seam}
use Rattle.std.proofs.Math.ListN.{get_or-append}
use Rattle.std.proofs.lemmas.List.{length-append}
use Rattle.claim_store.specs.ClaimedRanges.{has_unit, is_claimed}
use Rattle.zk_model.specs.declared.Span.{Span}
use Rattle.lease_core.specs.Spans.{IsApart, meets_any}
use Rattle.lease_journal.specs.Twins.{twin_slots_at}
use Rattle.zk_port.specs.Disks.{DiskState}
use Rattle.claim_store.specs.Claims.{AreClaims, BytesSayOneList, SaysClaims}
use Rattle.claim_store.specs.declared.ClaimFault.{ClaimFault}
use Rattle.claim_store.specs.declared.ClaimFault.TheVariants.{Broken, OutOfRange, Overlap, Full, Device, NoMemory}
use Rattle.claim_store.proofs.Starting.{not_met}
use Rattle.claim_store.proofs.Units.{unit_met, within_unit}
use Rattle.file_commands.specs.ClaimedUnits.{AllHave, FindsClaims, FindsMore, LeavesClaims, MayFind, MovesBy, JournalPlace, asked_span}
use Rattle.file_commands.specs.Journals.{DiskChange, disk_change}
use Rattle.run_laws.specs.RunsInTurn.{ClaimsUp, MayBeFound, RunsClaimOnce}
use Rattle.run_laws.proofs.RunsInTurn.{of_some}

-- what holds by the second of two holds by more
or_more : (first second more : Bool) → (second ≡ true → more ≡ true) → (first || second) ≡ true → (first || more) ≡ true
or_more true second more up is = refl
or_more false second more up is = up is

-- a unit of claims is one with a span more
unit_behind : (claims : List Span) (s : Span) (unit : ℕ) → is_claimed claims unit ≡ true → is_claimed (claims ++ s ∷ []) unit ≡ true
unit_behind [] s unit is = cc
unit_behind (claim ∷ claims) s unit is =
    or_more (has_unit unit claim) (is_claimed claims unit) (is_claimed (claims ++ s ∷ []) unit) (unit_behind claims s unit) is

or_second : (first second : Bool) → second ≡ true → (first || second) ≡ true
or_second true second is = refl
or_second false second is = is

-- and a unit of that span
unit_last : (claims : List Span) (s : Span) (unit : ℕ) → has_unit unit s ≡ true → is_claimed (claims ++ s ∷ []) unit ≡ true
unit_last [] s unit is = rw is refl
unit_last (claim ∷ claims) s unit is =
    or_second (has_unit unit claim) (is_claimed (claims ++ s ∷ []) unit) (unit_last claims s unit is)

-- ---- where a journal stands in bytes

same_place : (id : List ℕ) (total : ℕ) (one other : JournalPlace) (some more : List Span) (bytes : List ℕ) → FindsClaims id total one some bytes
    → FindsClaims id total other more bytes → (other.begin ≡ one.begin) × (other.slots ≡ one.slots)
same_place id total one other some more bytes here there =
    let begin : other.begin ≡ one.begin = sym there.holds.begins ∙ here.holds.begins in
    (begin, sym there.holds.stands.says ∙ ap (λ (n : ℕ). twin_slots_at n bytes) begin ∙ here.holds.stands.says)

-- bytes say one list of ranges
one_list : BytesSayOneList → (id : List ℕ) (total : ℕ) (one other : JournalPlace) (some more : List Span) (bytes : List ℕ) → FindsClaims id total one some bytes
    → FindsClaims id total other more bytes → some ≡ more
one_list law id total one other some more bytes here there =
    let place = same_place id total one other some more bytes here there in
    law total one.begin one.slots bytes some more here.says
    (subst (λ (p : ℕ × ℕ). SaysClaims total p.0 p.1 more bytes) (λ i. (place.0 i, place.1 i)) there.says)

-- ---- what a run leaves

-- the claims, or those and a span
abbrev FindsSome : List ℕ → ℕ → JournalPlace → List Span → List ℕ → Type 0
FindsSome id total place claims bytes = FindsClaims id total place claims bytes ⊎ ((s : Span) × FindsMore id total place claims s bytes)

if_more : (P Q : List ℕ → Type 0) (o : Option (List ℕ)) → ((b : List ℕ) → P b → Q b) → IsSomeAnd o P → IsSomeAnd o Q
if_more P Q None more has = has
if_more P Q (Some b) more has = more b has

all_more : (P Q : List ℕ → Type 0) (disk : DiskState) → ((b : List ℕ) → P b → Q b) → AllHave P disk → AllHave Q disk
all_more P Q disk more all = record {
  read = if_more P Q disk.content more all.read;
  durable = λ image left. more image (all.durable image left);
}

some_found : (id : List ℕ) (total : ℕ) (place : JournalPlace) (claims : List Span) (units : ℕ × ℕ) (bytes : List ℕ) → MayFind id total place claims units bytes
    → FindsSome id total place claims bytes
some_found id total place claims units bytes (inl old) = inl old
some_found id total place claims units bytes (inr new) = inr (asked_span units, new)

some_left : (id : List ℕ) (total : ℕ) (place : JournalPlace) (claims : List Span) (units : ℕ × ℕ) (answer : Result Span ClaimFault) (disk : DiskState)
    → LeavesClaims id total place claims units answer disk → AllHave (FindsSome id total place claims) disk
some_left id total place claims units (Ok claimed) disk left =
    all_more (FindsMore id total place claims claimed) (FindsSome id total place claims) disk (λ b is. inr (claimed, is)) left
some_left id total place claims units (Err Device) disk left =
    all_more (MayFind id total place claims units) (FindsSome id total place claims) disk (some_found id total place claims units) left
some_left id total place claims units (Err (Broken first)) disk left =
    all_more (FindsClaims id total place claims) (FindsSome id total place claims) disk (λ b is. inl is) left
some_left id total place claims units (Err (OutOfRange end)) disk left =
    all_more (FindsClaims id total place claims) (FindsSome id total place claims) disk (λ b is. inl is) left
some_left id total place claims units (Err (Overlap earlier)) disk left =
    all_more (FindsClaims id total place claims) (FindsSome id total place claims) disk (λ b is. inl is) left
some_left id total place claims units (Err (Full count)) disk left =
    all_more (FindsClaims id total place claims) (FindsSome id total place claims) disk (λ b is. inl is) left
some_left id total place claims units (Err NoMemory) disk left =
    all_more (FindsClaims id total place claims) (FindsSome id total place claims) disk (λ b is. inl is) left

run_left : (id : List ℕ) (total : ℕ) (place : JournalPlace) (used : ℕ) (claims : List Span) (asked : Option (ℕ × ℕ)) (answer : Option (Result Span ClaimFault))
    (disk : DiskChange) → MovesBy id total place used claims asked answer disk → (first : List ℕ) → disk.old.content ≡ Some first
    → AllHave (FindsSome id total place claims) disk.new
run_left id total place used claims asked None disk moved first known =
    all_more (FindsClaims id total place claims) (FindsSome id total place claims) disk.new (λ b is. inl is) (moved.left first known)
run_left id total place used claims None (Some answer) disk moved first known = absurd moved
run_left id total place used claims (Some units) (Some answer) disk moved first known =
    some_left id total place claims units answer disk.new (moved.left first known)

run_leaves : (id : List ℕ) (total : ℕ) (place : JournalPlace) (used : ℕ) (claims : List Span) (asked : Option (ℕ × ℕ)) (answer : Option (Result Span ClaimFault))
    (disk : DiskChange) → MovesBy id total place used claims asked answer disk → (first : List ℕ) → disk.old.content ≡ Some first
    → (image : List ℕ) → disk.new.images_since disk.old.moment image → disk.old.images image ⊎ FindsSome id total place claims image
run_leaves id total place used claims asked None disk moved first known image since = inl (moved.any_moment.each image since)
run_leaves id total place used claims None (Some answer) disk moved first known image since = absurd moved
run_leaves id total place used claims (Some units) (Some answer) disk moved first known image since =
    elim ((moved.any_moment first known).each image since) [
      | inl was ↦ inl was
      | inr found ↦ inr (some_found id total place claims units image found)
    ]

all_found : (P : List ℕ → Type 0) (disk : DiskState) (bytes : List ℕ) → AllHave P disk → MayBeFound disk bytes → P bytes
all_found P disk bytes all (inl content) = of_some P disk.content bytes content all.read
all_found P disk bytes all (inr image) = all.durable bytes image

-- ---- from run to run

keeps_up : (id : List ℕ) (total : ℕ) (place : JournalPlace) (claims : List Span) (first image : List ℕ) → FindsClaims id total place claims first
    → FindsSome id total place claims image → ClaimsUp id total first image
keeps_up id total place claims first image said (inl old) =
    record { place = place; later_place = place; claims = claims; more = claims; says = said; finds = old; grows = λ unit is. is }
keeps_up id total place claims first image said (inr (s, new)) = record {
  place = place;
  later_place = place;
  claims = claims;
  more = new.ranges;
  says = said;
  finds = new.finds;
  grows = λ unit is. new.merged.same unit ∙ unit_behind claims s unit is;
}

in_turn : BytesSayOneList → (id : List ℕ) (total : ℕ) (first middle last : List ℕ) → ClaimsUp id total first middle → ClaimsUp id total middle last
    → ClaimsUp id total first last
in_turn law id total first middle last one other = record {
  place = one.place;
  later_place = other.later_place;
  claims = one.claims;
  more = other.more;
  says = one.says;
  finds = other.finds;
  grows = λ unit is. other.grows unit (subst (λ (list : List Span). is_claimed list unit ≡ true)
      (one_list law id total one.later_place other.place one.more other.claims middle one.finds other.says) (one.grows unit is));
}

-- the last of a list of claims meets none of the others
pub last_apart : (total : ℕ) (claims : List Span) (s : Span) → AreClaims total (claims ++ s ∷ []) → meets_any s claims ≡ false
last_apart total claims s sound = not_met s claims (λ k d below.
    let whole = length-append claims (s ∷ []) in
    let first : get_or (claims ++ s ∷ []) k d ≡ get_or claims k d = get_or-append claims (s ∷ []) d k below in
    let second : get_or (claims ++ s ∷ []) (length claims) d ≡ s = get_or-append_seam claims s [] d in
    subst (λ (p : Span × Span). IsApart p.0 p.1) (λ i. (first i, second i)) (sound.apart k (length claims) d below (omega (arith, whole))))

-- spans without a common unit are apart, where the second has one
no_common : (one other : Span) → one.start < one.end → other.start < other.end → ((unit : ℕ) → has_unit unit one ≡ true → has_unit unit other ≡ true → ⊥) → IsApart one other
no_common one other some more none = elim (cases_lt other.start one.end) [
  | inr before ↦ inl before
  | inl meets ↦ (elim (cases_lt one.start other.end) [
    | inr behind ↦ inr behind
    | inl both ↦ absurd (none (max one.start other.start)
        (within_unit (max one.start other.start) one (omega arith) (omega (arith, meets, some)))
        (within_unit (max one.start other.start) other (omega arith) (omega (arith, both, more))))
  ])
]

-- what a run whose units were claimed says
claimed_by : (id : List ℕ) (total : ℕ) (place : JournalPlace) (used : ℕ) (claims : List Span) (asked : Option (ℕ × ℕ)) (claimed : Span) (disk : DiskChange)
    → MovesBy id total place used claims asked (Some (Ok claimed)) disk
    → AreClaims total (claims ++ claimed ∷ []) × ((first : List ℕ) → disk.old.content ≡ Some first → AllHave (FindsMore id total place claims claimed) disk.new)
claimed_by id total place used claims None claimed disk moved = absurd moved
claimed_by id total place used claims (Some units) claimed disk moved = (moved.cause.1, moved.left)

-- the last of a list of claims has a unit
last_some : (total : ℕ) (claims : List Span) (s : Span) → AreClaims total (claims ++ s ∷ []) → s.start < s.end
last_some total claims s sound =
    let ends = sound.within (length claims) s (let whole = length-append claims (s ∷ []) in omega (arith, whole)) in
    subst (λ (t : Span). t.start < t.end) (get_or-append_seam claims s [] s) ends.0

pub runs_claim_once : {D : Type 0} (state : D → DiskState) → BytesSayOneList → RunsClaimOnce state
runs_claim_once {D} state law = record {
  keeps_up = λ choice id total asked answer old new run first found known there.
      let disk = disk_change (state old) (state new) in
      keeps_up id total run.place run.claims first found (run.recovered first known)
      (all_found (FindsSome id total run.place run.claims) (state new) found
      (run_left id total run.place run.used run.claims asked answer disk run.moved first known) there);
  any_moment = λ choice id total asked answer old new run first image known since.
      let disk = disk_change (state old) (state new) in
      elim (run_leaves id total run.place run.used run.claims asked answer disk run.moved first known image since) [
        | inl was ↦ inl was
        | inr found ↦ inr (keeps_up id total run.place run.claims first image (run.recovered first known) found)
      ];
  in_turn = in_turn law;
  apart = λ choice later_choice id total asked later_asked claimed later_claimed old new later_old later_new run later first found begun known there kept later_known.
      let disk = disk_change (state old) (state new) in
      let one = claimed_by id total run.place run.used run.claims asked claimed disk run.moved in
      let other = claimed_by id total later.place later.used later.claims later_asked later_claimed (disk_change (state later_old) (state later_new)) later.moved in
      let said = all_found (FindsMore id total run.place run.claims claimed) (state new) found (one.1 first known) there in
      let none = last_apart total later.claims later_claimed other.0 in
      no_common claimed later_claimed (last_some total run.claims claimed one.0) (last_some total later.claims later_claimed other.0) (λ unit own its.
      let in_image : is_claimed said.ranges unit ≡ true = said.merged.same unit ∙ unit_last run.claims claimed unit own in
      let began : is_claimed kept.claims unit ≡ true =
      subst (λ (list : List Span). is_claimed list unit ≡ true) (one_list law id total run.place kept.place said.ranges kept.claims found said.finds kept.says) in_image in
      let now : is_claimed later.claims unit ≡ true =
      subst (λ (list : List Span). is_claimed list unit ≡ true)
      (one_list law id total kept.later_place later.place kept.more later.claims begun kept.finds (later.recovered begun later_known)) (kept.grows unit began) in
      true_not_false (sym (unit_met later_claimed later.claims unit its now) ∙ none));
}
  where
    true_not_false : true ≡ false → ⊥
    true_not_false e = cc
