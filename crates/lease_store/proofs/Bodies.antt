-- Lists of ceilings.
use Rattle.std.proofs.Common.{◌≡◌, ◌<◌, ◌++◌, ℕ, zero, suc, List, [], ◌∷◌, Bool, true, false, length, refl, ap, ◌∙◌, arith}
use Rattle.std.proofs.lemmas.Bool.Decides.{nat_tests}
use Rattle.std.proofs.lemmas.List.{length-append}
use Rattle.zk_model.specs.declared.JournalKind.TheVariants.{Ceilings}
use Rattle.lease_journal.specs.Journals.{AreSound, body_before, first_bodies, keeps_rule, last_body}
use Rattle.lease_journal.specs.Twins.{MayHaveGeneration}
use Rattle.lease_journal.proofs.Putting.{length-first}
use Rattle.lease_journal.proofs.Sound.{before_more, before_slot, sound_more}
use Rattle.lease_store.specs.Ceilings.{last_ceiling}
use Rattle.lease_store.specs.Raising.{raised_bodies, raised_generation}

pub last_of_first : (at used : ℕ) (bytes : List ℕ) → last_ceiling (first_bodies at used bytes) ≡ (last_body at bytes used).0
last_of_first at used bytes =
    ap (λ n. (body_before (first_bodies at used bytes) n).0) (length-first at used bytes)
    ∙ ap (λ (b : ℕ × ℕ). b.0) (before_slot at used bytes used (omega arith))

last_more : (bodies : List (ℕ × ℕ)) (body : ℕ × ℕ) → last_ceiling (bodies ++ body ∷ []) ≡ body.0
last_more bodies body =
    ap (λ n. (body_before (bodies ++ body ∷ []) n).0) (length-append bodies (body ∷ []))
    ∙ ap (λ (b : ℕ × ℕ). b.0) (before_more bodies body (length bodies) refl)

-- ---- with one ceiling more, or with one alone

pub last_next : (full : Bool) (bodies : List (ℕ × ℕ)) (body : ℕ × ℕ) → last_ceiling (raised_bodies full bodies body) ≡ body.0
last_next true bodies body = refl
last_next false bodies body = last_more bodies body

alone_rule : (total before ceiling : ℕ) → keeps_rule Ceilings total before (ceiling, 0) ≡ true → keeps_rule Ceilings total 0 (ceiling, 0) ≡ true
alone_rule total before ceiling keeps = grind (arith, nat_tests)

alone_sound : (total ceiling : ℕ) → keeps_rule Ceilings total 0 (ceiling, 0) ≡ true → AreSound Ceilings total ((ceiling, 0) ∷ [])
alone_sound total ceiling keeps zero below = keeps
alone_sound total ceiling keeps (suc place) below = absurd (omega (arith, below))

pub sound_next : (full : Bool) (total : ℕ) (bodies : List (ℕ × ℕ)) (ceiling : ℕ) → AreSound Ceilings total bodies
    → keeps_rule Ceilings total (last_ceiling bodies) (ceiling, 0) ≡ true → AreSound Ceilings total (raised_bodies full bodies (ceiling, 0))
sound_next true total bodies ceiling sound keeps = alone_sound total ceiling (alone_rule total (last_ceiling bodies) ceiling keeps)
sound_next false total bodies ceiling sound keeps = sound_more Ceilings total bodies (ceiling, 0) sound keeps

-- a higher ceiling makes up for the next generation
pub may_next : (full : Bool) (bodies : List (ℕ × ℕ)) (generation ceiling : ℕ) → last_ceiling bodies < ceiling → MayHaveGeneration Ceilings bodies generation
    → MayHaveGeneration Ceilings (raised_bodies full bodies (ceiling, 0)) (raised_generation full generation)
may_next true bodies generation ceiling below may = record {
  least = omega arith;
  most = omega (arith, may.most, below);
}
may_next false bodies generation ceiling below may = record {
  least = may.least;
  most = omega (arith, may.most, below, last_more bodies (ceiling, 0));
}
