-- The function and the relation say the same.
use Rattle.std.proofs.Common.{◌≡◌, ℕ, List, [], ◌∷◌, true, false, Some, None, Option, refl, ap, ◌∙◌, cond, IfSome, subst}
use Rattle.std.specs.Option.{option_map}
use Rattle.command_words.specs.Arguments.{Positional, Valued, Flag, Unknown, kind_of, begins_with_dash, Word, Parts, arranged, alone, step, before}
use Rattle.command_words.specs.Orders.{StandsAmong, nothing, place, valued, flag}

abbrev Stands : List (List ℕ) → Parts → Type 0
Stands words p = StandsAmong words p.0 p.1

mapped : (ws vs : List (List ℕ)) (f : Parts → Parts) (o : Option Parts) → ((p : Parts) → Stands ws p → Stands vs (f p)) → IfSome o (Stands ws) → IfSome (option_map f o) (Stands vs)
mapped ws vs f None go h = tt
mapped ws vs f (Some p) go h = go p h

pub sound : (words : List (List ℕ)) → IfSome (arranged words) (λ p. StandsAmong words p.0 p.1)
sound [] = nothing
sound (word ∷ []) =
    elim (kind_of word) as (λ k. kind_of word ≡ k → IfSome (alone k word) (λ p. StandsAmong (word ∷ []) p.0 p.1)) [
      | Positional ↦ λ e. place e nothing
      | Valued ↦ λ e. tt
      | Flag ↦ λ e. flag e nothing
      | Unknown ↦ λ e. tt
    ] refl
sound (word ∷ value ∷ words) =
    let next = sound (value ∷ words) in
    let behind = sound words in
    elim (kind_of word) as (λ k. kind_of word ≡ k → IfSome (step k word value (arranged (value ∷ words)) (arranged words)) (λ p. StandsAmong (word ∷ value ∷ words) p.0 p.1)) [
      | Positional ↦ λ e. mapped (value ∷ words) (word ∷ value ∷ words) (before (word ∷ []) []) (arranged (value ∷ words)) (λ p h. place e h) next
      | Valued ↦ λ e. elim (begins_with_dash value) as (λ b. begins_with_dash value ≡ b → IfSome (cond b None (option_map (before [] ((word, value) ∷ [])) (arranged words))) (λ p. StandsAmong (word ∷ value ∷ words) p.0 p.1)) [
        | true ↦ λ d. tt
        | false ↦ λ d. mapped words (word ∷ value ∷ words) (before [] ((word, value) ∷ [])) (arranged words) (λ p h. valued e d h) behind
      ] refl
      | Flag ↦ λ e. mapped (value ∷ words) (word ∷ value ∷ words) (before [] ((word, []) ∷ [])) (arranged (value ∷ words)) (λ p h. flag e h) next
      | Unknown ↦ λ e. tt
    ] refl

at_place : (word : List ℕ) (words positional : List (List ℕ)) (options : List Word) → kind_of word ≡ Positional → arranged words ≡ Some (positional, options) → arranged (word ∷ words) ≡ Some (word ∷ positional, options)
at_place word [] positional options e r = ap (λ k. alone k word) e ∙ ap (option_map (before (word ∷ []) [])) r
at_place word (v ∷ words) positional options e r = ap (λ k. step k word v (arranged (v ∷ words)) (arranged words)) e ∙ ap (option_map (before (word ∷ []) [])) r

at_flag : (word : List ℕ) (words positional : List (List ℕ)) (options : List Word) → kind_of word ≡ Flag → arranged words ≡ Some (positional, options) → arranged (word ∷ words) ≡ Some (positional, (word, []) ∷ options)
at_flag word [] positional options e r = ap (λ k. alone k word) e ∙ ap (option_map (before [] ((word, []) ∷ []))) r
at_flag word (v ∷ words) positional options e r = ap (λ k. step k word v (arranged (v ∷ words)) (arranged words)) e ∙ ap (option_map (before [] ((word, []) ∷ []))) r

at_valued : (word value : List ℕ) (words positional : List (List ℕ)) (options : List Word) → kind_of word ≡ Valued → begins_with_dash value ≡ false → arranged words ≡ Some (positional, options) → arranged (word ∷ value ∷ words) ≡ Some (positional, (word, value) ∷ options)
at_valued word value words positional options e d r = ap (λ k. step k word value (arranged (value ∷ words)) (arranged words)) e
    ∙ ap (λ b. cond b None (option_map (before [] ((word, value) ∷ [])) (arranged words))) d
    ∙ ap (option_map (before [] ((word, value) ∷ []))) r

pub complete : {words positional : List (List ℕ)} {options : List Word} → StandsAmong words positional options → arranged words ≡ Some (positional, options)
complete nothing = refl
complete (place e h) = at_place _ _ _ _ e (complete h)
complete (valued e d h) = at_valued _ _ _ _ _ e d (complete h)
complete (flag e h) = at_flag _ _ _ _ e (complete h)

pub stands : (words positional : List (List ℕ)) (options : List Word) → arranged words ≡ Some (positional, options) → StandsAmong words positional options
stands words positional options e = subst (λ o. IfSome o (λ p. StandsAmong words p.0 p.1)) e (sound words)
