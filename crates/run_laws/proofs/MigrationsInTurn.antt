-- A migration, and the runs before and after it.
use Rattle.std.proofs.Common.{◌≡◌, ◌⊎◌, ◌<◌, ◌≤◌, ℕ, List, get_or, Some, Option, IfSome, true, refl, sym, ◌∙◌, subst, inl, inr, arith, All}
use Rattle.std.proofs.lemmas.Bool.Decides.{nat_tests}
use Rattle.std.proofs.lemmas.List.{length-map, get_or-map}
use Rattle.claim_store.specs.ClaimedRanges.{AreMerged, RiseFrom, claim_of, claims_of}
use Rattle.lease_journal.specs.Journals.{AreSound, body_before, keeps_rule}
use Rattle.journal_migration.specs.Migrations.{SaysMoved, SaysOneArea, one_area_end}
use Rattle.lease_journal.specs.Twins.{twin_ceiling_slots}
use Rattle.zk_model.specs.declared.JournalKind.TheVariants as kind
use Rattle.zk_model.specs.declared.Span.{Span}
use Rattle.zk_port.specs.Disks.{Choice, DiskState}
use Rattle.lease_store.specs.Ceilings.{SaysCeiling, last_ceiling}
use Rattle.lease_store.proofs.Starting.{says_ceiling}
use Rattle.claim_store.proofs.Joining.{merged_self}
use Rattle.claim_store.proofs.Units.{rising_apart}
use Rattle.journal_migration.specs.Migrating.{MovesSafely}
use Rattle.journal_migration.specs.declared.Moved.{Moved}
use Rattle.journal_migration.specs.declared.Moved.TheVariants.{Done, Already}
use Rattle.file_commands.specs.ClaimedUnits.{FindsClaims}
use Rattle.file_commands.specs.Journals.{DiskChange, disk_change}
use Rattle.file_commands.specs.MigrateRuns.{MigratesJournal, once_chosen}
use Rattle.file_commands.specs.declared.migrate_command.DealtUnits.{DealtUnits}
use Rattle.run_laws.specs.RunsInTurn.{MayBeFound}
use Rattle.run_laws.specs.MigrationsInTurn.{MaySayCeiling, MaySayClaims, MigrationsKeep, SaysSameCeiling, SaysSameClaims}

-- ---- a journal that was migrated

moved_ceiling : (id : List ℕ) (total old_slots : ℕ) (bodies : List (ℕ × ℕ)) (bytes : List ℕ)
    → SaysMoved kind.Ceilings id total old_slots (twin_ceiling_slots total) bodies bytes → SaysCeiling id total (last_ceiling bodies) bytes
moved_ceiling id total old_slots bodies bytes says =
    says_ceiling id total (one_area_end old_slots) 1 (last_ceiling bodies) bodies bytes
    (record { holds = says.holds; says = says.says; sound = says.sound; may_have = says.may_have }) refl

claim_rule : (total before : ℕ) (body : ℕ × ℕ) → keeps_rule kind.Claims total before body ≡ true → (body.0 < body.1) × (body.1 ≤ total)
claim_rule total before body keeps = grind (arith, nat_tests, keeps)

claims_within : (total : ℕ) (bodies : List (ℕ × ℕ)) → AreSound kind.Claims total bodies → All (λ (s : Span). (s.start < s.end) × (s.end ≤ total)) (claims_of bodies)
claims_within total bodies sound k d below =
    let size = length-map bodies claim_of in
    let at : get_or (claims_of bodies) k d ≡ claim_of (get_or bodies k (0, 0)) = get_or-map claim_of bodies k (0, 0) d (omega (arith, size, below)) in
    subst (λ (s : Span). (s.start < s.end) × (s.end ≤ total)) (sym at)
    (claim_rule total (body_before bodies k).0 (get_or bodies k (0, 0)) (sound k (omega (arith, size, below))))

moved_claims : (id : List ℕ) (total old_slots slots : ℕ) (bodies : List (ℕ × ℕ)) (bytes : List ℕ) → RiseFrom 0 (claims_of bodies)
    → SaysMoved kind.Claims id total old_slots slots bodies bytes
    → FindsClaims id total (record { begin = one_area_end old_slots; slots = slots }) (claims_of bodies) bytes
moved_claims id total old_slots slots bodies bytes rising says = record {
  holds = says.holds;
  says = record {
    generation = 1;
    bodies = bodies;
    says = says.says;
    may_have = says.may_have;
    sound = record { apart = rising_apart 0 (claims_of bodies) rising; within = claims_within total bodies says.sound };
    merged = merged_self (claims_of bodies) rising;
  };
}

-- ---- what is found

found_now : (disk : DiskState) (now found : List ℕ) → disk.content ≡ Some now → IfSome disk.content (λ file. (c : List ℕ) → disk.images c → c ≡ file)
    → MayBeFound disk found → found ≡ now
found_now disk now found known only (inl content) = cc
found_now disk now found known only (inr image) =
    (subst (λ (o : Option (List ℕ)). IfSome o (λ file. (c : List ℕ) → disk.images c → c ≡ file)) known only) found image

told : (P : List ℕ → Type 0) (content : Option (List ℕ)) (bytes : List ℕ) → content ≡ Some bytes → IfSome content P → P bytes
told P content bytes is has = subst (λ (o : Option (List ℕ)). IfSome o P) is has

some_same : (one other : List ℕ) (content : Option (List ℕ)) → content ≡ Some one → content ≡ Some other → one ≡ other
some_same one other content here there = cc

module _ (choice : Choice) (dealt : DealtUnits) (disk : DiskChange) (first now found : List ℕ) (known : disk.old.content ≡ Some first)
    (known_now : disk.new.content ≡ Some now) (there : MayBeFound disk.new found) where
  kept_ceiling : (moved : Moved) → MigratesJournal choice kind.Ceilings dealt disk moved → (found ≡ first) ⊎ SaysSameCeiling dealt.id dealt.total first found
  kept_ceiling Already run =
      let same = found_now disk.new now found known_now run.only there in
      let stays = (run.says first known).2 in
      inl (same ∙ some_same now first disk.new.content known_now (stays.content ∙ known))
  kept_ceiling (Done used) run =
      let same = found_now disk.new now found known_now run.only there in
      let done = run.says first known in
      let says = told _ disk.new.content now known_now done.now in
      inr (
        last_ceiling done.bodies,
        record { slots = done.slots; bodies = done.bodies; says = done.was; last = refl },
        subst (λ (p : ℕ × List ℕ). SaysCeiling dealt.id dealt.total p.0 p.1) (λ i. (done.same i, sym same i))
            (moved_ceiling dealt.id dealt.total done.slots done.next now says),
      )

  kept_claims : (moved : Moved) → MigratesJournal choice kind.Claims dealt disk moved → (found ≡ first) ⊎ SaysSameClaims dealt.id dealt.total first found
  kept_claims Already run =
      let same = found_now disk.new now found known_now run.only there in
      let stays = (run.says first known).2 in
      inl (same ∙ some_same now first disk.new.content known_now (stays.content ∙ known))
  kept_claims (Done used) run =
      let same = found_now disk.new now found known_now run.only there in
      let done = run.says first known in
      let says = told _ disk.new.content now known_now done.now in
      inr (
        claims_of done.next,
        record { begin = one_area_end done.slots; slots = done.slots },
        record { slots = done.slots; bodies = done.bodies; says = done.was; merged = done.same },
        subst (FindsClaims dealt.id dealt.total (record { begin = one_area_end done.slots; slots = done.slots }) (claims_of done.next)) (sym same)
            (moved_claims dealt.id dealt.total done.slots done.slots done.next now done.same.rising says),
      )

-- ---- what is left at any moment

either_ceiling : (id : List ℕ) (total : ℕ) (first left : List ℕ) (slots : ℕ) (bodies next : List (ℕ × ℕ)) → SaysOneArea kind.Ceilings id total slots bodies first
    → last_ceiling next ≡ last_ceiling bodies
    → SaysOneArea kind.Ceilings id total slots bodies left ⊎ SaysMoved kind.Ceilings id total slots (twin_ceiling_slots total) next left → MaySayCeiling id total first left
either_ceiling id total first left slots bodies next was same (inl old) =
    (last_ceiling bodies, record { slots = slots; bodies = bodies; says = was; last = refl }, inl (record { slots = slots; bodies = bodies; says = old; last = refl }))
either_ceiling id total first left slots bodies next was same (inr new) = (
  last_ceiling bodies,
  record { slots = slots; bodies = bodies; says = was; last = refl },
  inr (subst (λ (n : ℕ). SaysCeiling id total n left) same (moved_ceiling id total slots next left new)),
)

either_claims : (id : List ℕ) (total : ℕ) (first left : List ℕ) (slots : ℕ) (bodies next : List (ℕ × ℕ)) → SaysOneArea kind.Claims id total slots bodies first
    → AreMerged (claims_of bodies) (claims_of next)
    → SaysOneArea kind.Claims id total slots bodies left ⊎ SaysMoved kind.Claims id total slots slots next left → MaySayClaims id total first left
either_claims id total first left slots bodies next was same (inl old) =
    (claims_of next, record { slots = slots; bodies = bodies; says = was; merged = same }, inl (record { slots = slots; bodies = bodies; says = old; merged = same }))
either_claims id total first left slots bodies next was same (inr new) = (
  claims_of next,
  record { slots = slots; bodies = bodies; says = was; merged = same },
  inr (record { begin = one_area_end slots; slots = slots }, moved_claims id total slots slots next left same.rising new),
)

left_ceiling : (id : List ℕ) (total : ℕ) (old new : DiskState) (first left : List ℕ) → MovesSafely kind.Ceilings id total first old new
    → new.images_since old.moment left → old.images left ⊎ MaySayCeiling id total first left
left_ceiling id total old new first left (inl stays) since = inl (stays.1.each left since)
left_ceiling id total old new first left (inr moves) since = elim (moves.any_moment.each left since) [
  | inl was ↦ inl was
  | inr either ↦ inr (either_ceiling id total first left moves.slots moves.bodies moves.next moves.was moves.same either.says)
]

left_claims : (id : List ℕ) (total : ℕ) (old new : DiskState) (first left : List ℕ) → MovesSafely kind.Claims id total first old new
    → new.images_since old.moment left → old.images left ⊎ MaySayClaims id total first left
left_claims id total old new first left (inl stays) since = inl (stays.1.each left since)
left_claims id total old new first left (inr moves) since = elim (moves.any_moment.each left since) [
  | inl was ↦ inl was
  | inr either ↦ inr (either_claims id total first left moves.slots moves.bodies moves.next moves.was moves.same either.says)
]

pub migrations_keep : {D : Type 0} (state : D → DiskState) → MigrationsKeep state
migrations_keep {D} state = record {
  ceiling = λ choice dealt moved old new run first now found known known_now there.
      kept_ceiling choice dealt (disk_change (state old) (state new)) first now found known known_now there moved run;
  claims = λ choice dealt moved old new run first now found known known_now there.
      kept_claims choice dealt (disk_change (state old) (state new)) first now found known known_now there moved run;
  stopped_ceiling = λ choice dealt old new run first left known since.
      left_ceiling dealt.id dealt.total (once_chosen (disk_change (state old) (state new))) (state new) first left (run.moves first known) since;
  stopped_claims = λ choice dealt old new run first left known since.
      left_claims dealt.id dealt.total (once_chosen (disk_change (state old) (state new))) (state new) first left (run.moves first known) since;
}
