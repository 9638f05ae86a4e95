-- What clap is told of a command.
use Rattle.std.proofs.Common.{◌≡◌, ◌∙◌, ◌<◌, ◌≤◌, ◌+◌, ℕ, List, [], ◌∷◌, map, take, length, get_or, refl, ap, ap₂, sym, append_assoc, append-nil}
use Rattle.std.proofs.lemmas.List.{map_more, take_all}
use Rattle.clap.specs.Walk.{Rule}
use Rattle.clap.specs.Simple.{App, new_rule, with_rule}
use Rattle.command_words.specs.Found.{bare, flag_rule, told, valued_rule, with_rules}
use Rattle.command_words.specs.Rows.{Row, ids_of}

-- no argument so far
pub none_so_far : (a : App) → a ≡ with_rules a []
none_so_far a = sym (ap (λ rules. record a { top = record a.top { rules = rules } }) (append-nil a.top.rules))

-- one more argument
pub one_more : {X : Type 0} (f : X → Rule) (a before now : App) (xs : List X) (i : ℕ) (r : Rule) (d : X) → i < length xs
    → before ≡ with_rules a (map f (take i xs)) → now ≡ with_rule before r → r ≡ f (get_or xs i d) → now ≡ with_rules a (map f (take (i + 1) xs))
one_more f a before now xs i r d within so_far step is =
    step ∙ ap₂ with_rule so_far is
    ∙ ap (λ rules. record a { top = record a.top { rules = rules } }) (append_assoc a.top.rules (map f (take i xs)) (f (get_or xs i d) ∷ []))
    ∙ ap (with_rules a) (sym (map_more f xs i d within))

pub mapped : {X Y Z : Type 0} (f : Y → Z) (g : X → Y) (xs : List X) → map (λ x. f (g x)) xs ≡ map f (map g xs)
mapped f g [] = refl
mapped f g (x ∷ xs) = ap (λ ys. f (g x) ∷ ys) (mapped f g xs)

-- all of them
pub all_told : {X : Type 0} (f : List ℕ → Rule) (id : X → List ℕ) (a now : App) (xs : List X) (ids : List (List ℕ)) (i : ℕ) → map id xs ≡ ids → length xs ≤ i
    → now ≡ with_rules a (map (λ x. f (id x)) (take i xs)) → now ≡ with_rules a (map f ids)
all_told f id a now xs ids i are past so_far =
    so_far ∙ ap (λ ys. with_rules a (map (λ x. f (id x)) ys)) (take_all i xs past) ∙ ap (with_rules a) (mapped f id xs ∙ ap (map f) are)

pub whole : (row : Row) (none some more all : App) → none ≡ bare → some ≡ with_rules none (map new_rule (ids_of row.places)) → more ≡ with_rules some (map valued_rule (ids_of row.options))
    → all ≡ with_rules more (map flag_rule row.flags) → all ≡ told row
whole row none some more all a b c d =
    d ∙ ap (λ x. with_rules x (map flag_rule row.flags))
    (c ∙ ap (λ x. with_rules x (map valued_rule (ids_of row.options))) (b ∙ ap (λ x. with_rules x (map new_rule (ids_of row.places))) a))
