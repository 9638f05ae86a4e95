-- Contents that are known after a step.
use Rattle.std.proofs.Common.{◌≡◌, ℕ, List, Option, Some, None, IfSome, IsSomeAnd, refl, sym, ◌∙◌, subst}
use Rattle.zk_port.specs.Images.{StepsBy}

-- a content that is known after a step was known before it, and the other way round
pub known_before : (step : List ℕ → List ℕ → Type 0) (old new : Option (List ℕ)) (bytes : List ℕ) → StepsBy step old new → new ≡ Some bytes
    → (was : List ℕ) × (old ≡ Some was) × step was bytes
known_before step None new bytes steps is = absurd (both (sym steps ∙ is))
  where
    both : ◌≡◌ {A = Option (List ℕ)} None (Some bytes) → ⊥
    both e = cc e
known_before step (Some was) new bytes steps is = (was, refl, subst (λ o. IsSomeAnd o (step was)) is steps)

pub some_of : {P : List ℕ → Type 0} (o : Option (List ℕ)) → IsSomeAnd o P → (bytes : List ℕ) × (o ≡ Some bytes) × P bytes
some_of None none = absurd none
some_of (Some bytes) p = (bytes, refl, p)

pub some_and : (P : List ℕ → Type 0) (o : Option (List ℕ)) (bytes : List ℕ) → o ≡ Some bytes → P bytes → IsSomeAnd o P
some_and P o bytes is p = subst (λ o. IsSomeAnd o P) (sym is) p

pub known_after : (step : List ℕ → List ℕ → Type 0) (old new : Option (List ℕ)) (was : List ℕ) → StepsBy step old new → old ≡ Some was
    → (bytes : List ℕ) × (new ≡ Some bytes) × step was bytes
known_after step old new was steps is = some_of new (subst (λ o. StepsBy step o new) is steps)

-- what each known content has
pub if_known : {P : List ℕ → Type 0} (o : Option (List ℕ)) → ((bytes : List ℕ) → o ≡ Some bytes → P bytes) → IfSome o P
if_known None each = tt
if_known (Some bytes) each = each bytes refl
