-- Words that stand among each other as a command's places and options, in clap's walk.
use Rattle.std.proofs.Common.{Option, ◌≡◌, ◌∙◌, ◌+◌, ◌<◌, ℕ, List, [], ◌∷◌, ◌++◌, Bool, true, false, not, ◌&&◌, cond, drop, length, Some, None, refl, ap, ap₂, sym, if◌then◌else◌, true≢false}
use Rattle.std.specs.Option.{is_some}
use Rattle.std.specs.List.{fold, list_all, list_any}
use Rattle.std.specs.Str.{bytes_eq}
use Rattle.clap.specs.Walk.{Held, Row, Text, arg_by_id, arg_by_index, first_of, has_row, walked}
use Rattle.clap.specs.Simple.{Shape}
use Rattle.clap.specs.Takes.{walk_passes}
use Rattle.clap.proofs.WalkLemmas.{both}
use Rattle.clap.proofs.SimpleLemmas.{is_false}
use Rattle.command_words.specs.Arguments.{Positional, Valued, Flag, Unknown, begins_with_dash, is_flag, is_valued, kind_of, option_named, Word}
use Rattle.command_words.specs.Words.{stand_once_among}
use Rattle.command_words.specs.Found.{flag_value, places_in, value_at}
use Rattle.command_words.proofs.Rows.{GiveSame, equals_itself, first_later, row, same_text, still_none}
use Rattle.command_words.proofs.Steps.{Holds, IsKnown, flag, place, standing, valued}

-- ---- what clap knows of a command

-- the places from this one on
abbrev pub KnowsPlaces : Shape → ℕ → List Text → Type 0
KnowsPlaces s i [] = Unit {0}
KnowsPlaces s i (id ∷ ids) = (arg_by_index s.rules i ≡ Some (place i id)) × (arg_by_id s.rules id ≡ Some (place i id)) × KnowsPlaces s (i + 1) ids

-- none of these ids is the id
abbrev pub is_apart : Text → List Text → Bool
is_apart id ids = list_all (λ other. not (bytes_eq id other)) ids

abbrev pub are_apart : List Text → Bool
are_apart [] = true
are_apart (id ∷ ids) = is_apart id ids && are_apart ids

-- an option of a command
pub record KnowsName (s : Shape) (places : List Text) (name : Text) : Type 0 where
  pub dashed : name ≡ 45 ∷ 45 ∷ drop 2 name
  pub if_valued : kind_of name ≡ Valued → IsKnown s valued name × (is_flag name ≡ false)
  pub if_flag : kind_of name ≡ Flag → IsKnown s flag name × (is_flag name ≡ true)
  pub apart : is_apart (drop 2 name) places ≡ true

abbrev pub is_among : List Text → Text → Bool
is_among names name = list_any (λ n. bytes_eq n name) names

-- these options are what was found, where a command has options of these names
pub record IsSaid (given : List ℕ → Option (List ℕ)) (names : List (List ℕ)) (options : List Word) : Type 0 where
  pub named : (name : List ℕ) → is_among names name ≡ true → option_named name options ≡ value_at given name
  pub once : stand_once_among names options ≡ true

abbrev pub KnowsNames : Shape → List Text → List Text → Type 0
KnowsNames s places names = (name : Text) → is_among names name ≡ true → KnowsName s places name

pub record Knows (s : Shape) (places names : List Text) : Type 0 where
  pub in_places : KnowsPlaces s 1 places
  pub apart : are_apart places ≡ true
  pub few : length places < 90
  pub by_name : KnowsNames s places names

-- ---- which ids have no row yet

abbrev pub AreNew : List Row → List Text → Type 0
AreNew rows [] = Unit {0}
AreNew rows (id ∷ ids) = (has_row id rows ≡ false) × AreNew rows ids

pub are_still_new : (rows : List Row) (r : Row) (ids : List Text) → AreNew rows ids → is_apart r.id ids ≡ true → AreNew (rows ++ r ∷ []) ids
are_still_new rows r [] new apart = tt
are_still_new rows r (id ∷ ids) new apart =
    let parts = both _ _ apart in
    (still_none id rows r new.0 (is_false _ parts.0), are_still_new rows r ids new.1 parts.1)

-- ---- the end of a walk

-- where a walk that began here ends: these rows more, which say what stands in the places and which options are there
pub record Ends (s : Shape) (names : List Text) (h : Held) (i : ℕ) (rows : List Row) (ids : List Text) (words positional : List Text) (options : List Word) : Type 0 where
  pub end : Held
  pub at : ℕ
  pub more : List Row
  pub passes : walk_passes s [] (standing h i) words ≡ true
  pub walk : fold (walked s.rules []) (standing h i) words ≡ standing end at
  pub holds : Holds s end (rows ++ more)
  pub in_places : places_in (λ id. first_of id more) ids ≡ positional
  pub named : (name : Text) → is_among names name ≡ true → option_named name options ≡ value_at (λ id. first_of id more) name

pub no_places : (ids : List Text) → places_in (λ id. first_of id []) ids ≡ []
no_places [] = refl
no_places (id ∷ ids) = no_places ids

pub value_none : (b : Bool) → None ≡ (if b then flag_value None else None)
value_none true = refl
value_none false = refl

pub apart_later : (r : Row) (rows : List Row) (ids : List Text) → is_apart r.id ids ≡ true → GiveSame (λ id. first_of id (r ∷ rows)) (λ id. first_of id rows) ids
apart_later r rows [] apart = tt
apart_later r rows (id ∷ ids) apart =
    let parts = both _ _ apart in
    (first_later id r rows (is_false _ parts.0), apart_later r rows ids parts.1)

pub value_later : (r : Row) (rows : List Row) (name : Text) → bytes_eq r.id (drop 2 name) ≡ false → value_at (λ id. first_of id (r ∷ rows)) name ≡ value_at (λ id. first_of id rows) name
value_later r rows name other = ap (λ o. if is_flag name then flag_value o else o) (first_later (drop 2 name) r rows other)

pub other_way : (a b : Text) → bytes_eq a b ≡ false → bytes_eq b a ≡ false
other_way a b e = go (bytes_eq b a) refl
  where
    go : (x : Bool) → bytes_eq b a ≡ x → x ≡ false
    go true t = absurd (true≢false (sym (equals_itself a) ∙ ap (bytes_eq a) (sym (same_text b a t)) ∙ e))
    go false t = refl

same_ids : (a b : Text) → a ≡ 45 ∷ 45 ∷ drop 2 a → b ≡ 45 ∷ 45 ∷ drop 2 b → bytes_eq a b ≡ bytes_eq (drop 2 a) (drop 2 b)
same_ids a b d e = ap₂ bytes_eq d e

-- one more option, which clap's matches show so
pub named_more : (name other value shown : Text) (options : List Word) (more : List Row) → name ≡ 45 ∷ 45 ∷ drop 2 name → other ≡ 45 ∷ 45 ∷ drop 2 other
    → value_at (λ id. first_of id (row (drop 2 name) shown ∷ more)) name ≡ Some value → option_named other options ≡ value_at (λ id. first_of id more) other
    → option_named other ((name, value) ∷ options) ≡ value_at (λ id. first_of id (row (drop 2 name) shown ∷ more)) other
named_more name other value shown options more d e here later = go (bytes_eq name other) refl
  where
    go : (b : Bool) → bytes_eq name other ≡ b → cond b (Some value) (option_named other options) ≡ value_at (λ id. first_of id (row (drop 2 name) shown ∷ more)) other
    go true t = sym here ∙ ap (value_at (λ id. first_of id (row (drop 2 name) shown ∷ more))) (same_text name other t)
    go false t = later ∙ sym (value_later (row (drop 2 name) shown) more other (sym (same_ids name other d e) ∙ t))

pub kind_plain : (word : Text) → kind_of word ≡ Positional → begins_with_dash word ≡ false
kind_plain word e = go (is_valued word) (is_flag word) (begins_with_dash word) e
  where
    go : (v f d : Bool) → (if v then Valued else if f then Flag else if d then Unknown else Positional) ≡ Positional → d ≡ false
    go true f d e = absurd (cc)
    go false true d e = absurd (cc)
    go false false true e = absurd (cc)
    go false false false e = refl

-- the options that are to come have no row yet
abbrev pub AreNewNames : List Text → List Row → List Word → Type 0
AreNewNames names rows options = (name : Text) → is_among names name ≡ true → is_some (option_named name options) ≡ true → has_row (drop 2 name) rows ≡ false

-- an option that is not this one
other_name : (name other value : Text) (options : List Word) → is_some (option_named name options) ≡ false → is_some (option_named other options) ≡ true
    → (bytes_eq name other ≡ false) × (is_some (option_named other ((name, value) ∷ options)) ≡ true)
other_name name other value options gone here = go (bytes_eq name other) refl
  where
    go : (b : Bool) → bytes_eq name other ≡ b → (b ≡ false) × (is_some (cond b (Some value) (option_named other options)) ≡ true)
    go true t = absurd (true≢false (sym here ∙ ap (λ n. is_some (option_named n options)) (sym (same_text name other t)) ∙ gone))
    go false t = (refl, here)

pub still_new_names : (names : List Text) (rows : List Row) (name value shown : Text) (options : List Word) → ((n : Text) → is_among names n ≡ true → n ≡ 45 ∷ 45 ∷ drop 2 n)
    → is_among names name ≡ true → is_some (option_named name options) ≡ false → AreNewNames names rows ((name, value) ∷ options)
    → AreNewNames names (rows ++ row (drop 2 name) shown ∷ []) options
still_new_names names rows name value shown options dashed among gone new = λ other is here.
    let apart = other_name name other value options gone here in
    still_none (drop 2 other) rows (row (drop 2 name) shown) (new other is apart.1) (sym (same_ids name other (dashed name among) (dashed other is)) ∙ apart.0)

-- the first option is new
pub first_new : (names : List Text) (rows : List Row) (name value : Text) (options : List Word) → is_among names name ≡ true → AreNewNames names rows ((name, value) ∷ options) → has_row (drop 2 name) rows ≡ false
first_new names rows name value options among new = new name among (ap (λ b. is_some (cond b (Some value) (option_named name options))) (equals_itself name))

-- the first of options that stand once
pub record Once (names : List Text) (name : Text) (options : List Word) : Type 0 where
  pub among : is_among names name ≡ true
  pub gone : is_some (option_named name options) ≡ false
  pub rest : stand_once_among names options ≡ true

pub once_first : (names : List Text) (name value : Text) (options : List Word) → stand_once_among names ((name, value) ∷ options) ≡ true → Once names name options
once_first names name value options once =
    let parts = both _ _ once in
    let more = both _ _ parts.1 in
    record { among = parts.0; gone = is_false _ more.0; rest = more.1 }
