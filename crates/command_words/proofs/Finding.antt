-- What clap finds.
use Rattle.std.proofs.Common.{◌≡◌, ◌∙◌, ℕ, List, [], ◌∷◌, ◌++◌, Bool, true, false, ◌&&◌, Some, None, Option, refl, ap, ap₂, sym, subst, true≢false, IfSome, IsNone}
use Rattle.clap.specs.Walk.{first_of}
use Rattle.clap.specs.Simple.{App, HasMatchesOf, matches_of, is_simple}
use Rattle.clap.specs.Takes.{takes}
use Rattle.clap.specs.Faults.{fault_of, is_simple_and_free}
use Rattle.clap.specs.Matches.{found_of}
use Rattle.clap.specs.declared.parser.matches.ArgMatches.{ArgMatches}
use Rattle.clap.proofs.WalkLemmas.{first_value-rows, both}
use Rattle.command_words.specs.Found.{IsFound, are_plain, given_by, is_plain, told, word_ids}
use Rattle.command_words.specs.Rows.{Row}

plain_same : (f g : List ℕ → Option (List ℕ)) (ids : List (List ℕ)) → ((id : List ℕ) → f id ≡ g id) → are_plain f ids ≡ are_plain g ids
plain_same f g [] same = refl
plain_same f g (id ∷ ids) same = ap₂ (λ a b. a && b) (ap is_plain (same id)) (plain_same f g ids same)

-- under ids in two lists
pub plain_both : (f : List ℕ → Option (List ℕ)) (xs ys : List (List ℕ)) → are_plain f (xs ++ ys) ≡ (are_plain f xs && are_plain f ys)
plain_both f [] ys = refl
plain_both f (x ∷ xs) ys = go (is_plain (f x)) (plain_both f xs ys)
  where
    go : (b : Bool) → are_plain f (xs ++ ys) ≡ (are_plain f xs && are_plain f ys) → (b && are_plain f (xs ++ ys)) ≡ ((b && are_plain f xs) && are_plain f ys)
    go true e = e
    go false e = refl

-- what is given of an id, where the matches are known
pub given_rows : (app : App) (words : List (List ℕ)) (m : ArgMatches) → HasMatchesOf app words m → is_simple app ≡ true → (id : List ℕ)
    → given_by m id ≡ first_of id (matches_of app words)
given_rows app words m has simple id = first_value-rows (found_of m) id ∙ ap (first_of id) (has simple).0

pub not_plain : (row : Row) (words : List (List ℕ)) (m : ArgMatches) → HasMatchesOf (told row) words m → are_plain (given_by m) (word_ids row) ≡ false
    → IsFound row words None
not_plain row words m has bad = record {
  matches = tt;
  plain = tt;
  faultless = tt;
  none = λ _ takes_them plain.
      let simple = (both _ _ takes_them).0 in
      true≢false (sym plain ∙ sym (plain_same _ _ (word_ids row) (given_rows (told row) words m has simple)) ∙ bad);
}

pub not_taken : (own : App) (row : Row) (words : List (List ℕ)) → own ≡ told row → (takes own words ≡ true → ⊥) → IsFound row words None
not_taken own row words same refuses = record {
  matches = tt;
  plain = tt;
  faultless = tt;
  none = λ _ takes_them _. refuses (ap (λ a. takes a words) same ∙ takes_them);
}

pub kept : (own : App) (row : Row) (words : List (List ℕ)) (m : ArgMatches) (found : Option ArgMatches) → own ≡ told row → HasMatchesOf own words m
    → (is_simple_and_free own ≡ true → fault_of own words ≡ []) → IfSome found (λ x. (x ≡ m) × (are_plain (given_by x) (word_ids row) ≡ true))
    → (IsNone found → are_plain (given_by m) (word_ids row) ≡ false) → IsFound row words found
kept own row words m None same has clean some none = not_plain row words m (subst (λ a. HasMatchesOf a words m) same has) (none refl)
kept own row words m (Some x) same has clean some none = record {
  matches = subst (HasMatchesOf (told row) words) (sym some.0) (subst (λ a. HasMatchesOf a words m) same has);
  plain = some.1;
  faultless = subst (λ a. is_simple_and_free a ≡ true → fault_of a words ≡ []) same clean;
  none = λ isnt _ _. true≢false isnt;
}
