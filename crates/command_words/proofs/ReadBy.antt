-- What a command's words ask for, from what clap finds in them.
use Rattle.std.proofs.Common.{◌≡◌, ◌∙◌, ◌≤◌, ℕ, suc, List, [], ◌∷◌, drop, length, Bool, true, false, ◌&&◌, not, map, IfSome, Some, None, Option, refl, ap, ap₂, sym, subst, if◌then◌else◌, arith, leb-true, le-leb}
use Rattle.std.specs.Option.{is_some, option_and_then, option_map}
use Rattle.std.specs.List.{list_all}
use Rattle.clap.specs.declared.parser.matches.ArgMatches.{ArgMatches}
use Rattle.clap.proofs.WalkLemmas.{both}
use Rattle.clap.proofs.SimpleLemmas.{is_false}
use Rattle.command_words.specs.Arguments.{Parts, Word, arranged, is_flag, option_named}
use Rattle.command_words.specs.BitWords.{BitsAsk}
use Rattle.command_words.specs.Found.{IsFound, IsReadBy, IsTakenFor, finds, flag_value, given_by, places_in, told, value_at, with_place}
use Rattle.command_words.specs.Reading.{asked_found, stands}
use Rattle.command_words.specs.Rows.{Column, FromColumns, FromFlags, FromRow, Given, Row, from_flags, from_options, from_places, from_row, ids_of, read, row_of}
use Rattle.command_words.specs.Words.{Ask, asked_of, asks_by, name_of, names_of, stand_once_among}
use Rattle.command_words.specs.declared.found.Found.{Found}
use Rattle.command_words.specs.declared.table.Name.{Name}
use Rattle.command_words.proofs.Finding.{given_rows}
use Rattle.command_words.proofs.Rows.{GiveSame, places_same}
use Rattle.command_words.proofs.Known.{IsKnown, known_of}
use Rattle.command_words.proofs.Taking.{IsTaken, valid_is_taken}
use Rattle.command_words.proofs.Walks.{IsSaid, is_among}
use Rattle.command_words.proofs.Writing.{found_named, options_in, write_found}

-- ---- what is read depends on what is given alone

then_same : {A B : Type 0} (f g : A → Option B) (o : Option A) → ((a : A) → f a ≡ g a) → option_and_then f o ≡ option_and_then g o
then_same f g None same = refl
then_same f g (Some a) same = same a

options_same : {X : Type 0} (options : List Column) (f : FromColumns options X) (g h : Given) → GiveSame g h (ids_of options) → from_options options f g ≡ from_options options f h
options_same [] f g h same = refl
options_same (c ∷ options) f g h same =
    ap (λ word. option_and_then (λ v. from_options options (f v) g) (read c.1 c.2 word)) same.0
    ∙ then_same _ _ (read c.1 c.2 (h c.0)) (λ v. options_same options (f v) g h same.1)

flags_same : {X : Type 0} (flags : List (List ℕ)) (f : FromFlags flags X) (s t : List ℕ → Bool) → GiveSame s t flags → from_flags flags f s ≡ from_flags flags f t
flags_same [] f s t same = refl
flags_same (flag ∷ flags) f s t same = ap (λ b. from_flags flags (f b) s) same.0 ∙ flags_same flags (f (t flag)) s t same.1

row_same : {X : Type 0} (row : Row) (f : FromRow row (Option X)) (words : List (List ℕ)) (g h : Given) (s t : List ℕ → Bool) → GiveSame g h (ids_of row.options) → GiveSame s t row.flags
    → from_row row f words g s ≡ from_row row f words h t
row_same row f words g h s t given flags =
    then_same _ _ (from_places 0 row.places f words) (λ k.
    ap (λ o. option_and_then (λ l. from_flags row.flags l s) o) (options_same row.options k g h given)
    ∙ then_same _ _ (from_options row.options k h) (λ l. flags_same row.flags l s t flags))

-- ---- the options of words are what was found

options_given : (given : Given) (names ids : List (List ℕ)) (options : List Word) → list_all (λ id. is_among names (name_of id) && not (is_flag (name_of id))) ids ≡ true
    → IsSaid given names options → GiveSame (λ id. option_named (name_of id) options) given ids
options_given given names [] options all said = tt
options_given given names (id ∷ ids) options all said =
    let parts = both _ _ all in
    let here = both _ _ parts.0 in
    (said.named (name_of id) here.0 ∙ ap (λ b. if b then flag_value (given id) else given id) (is_false _ here.1), options_given given names ids options parts.1 said)

flags_given : (given : Given) (names ids : List (List ℕ)) (options : List Word) → list_all (λ id. is_among names (name_of id) && is_flag (name_of id)) ids ≡ true
    → IsSaid given names options → GiveSame (λ id. is_some (option_named (name_of id) options)) (stands given) ids
flags_given given names [] options all said = tt
flags_given given names (id ∷ ids) options all said =
    let parts = both _ _ all in
    let here = both _ _ parts.0 in
    (ap is_some (said.named (name_of id) here.0 ∙ ap (λ b. if b then flag_value (given id) else given id) here.1), flags_given given names ids options parts.1 said)

places_few : (given : Given) (ids : List (List ℕ)) → length (places_in given ids) ≤ length ids
places_few given [] = omega arith
places_few given (id ∷ ids) = go (given id) (places_few given ids)
  where
    go : (o : Option (List ℕ)) → length (places_in given ids) ≤ length ids → length (with_place o (places_in given ids)) ≤ length (id ∷ ids)
    go None e = omega (arith, e)
    go (Some word) e = omega (arith, e)

length_ids : (columns : List Column) → length (ids_of columns) ≡ length columns
length_ids [] = refl
length_ids (c ∷ columns) = ap suc (length_ids columns)

if_gives : {X : Type 0} (b : Bool) (o : Option X) (x : X) → (if b then o else None) ≡ Some x → (b ≡ true) × (o ≡ Some x)
if_gives true o x e = (refl, e)
if_gives false o x e = absurd (cc)

give_same : (f g : Given) (ids : List (List ℕ)) → ((id : List ℕ) → f id ≡ g id) → GiveSame f g ids
give_same f g [] same = tt
give_same f g (id ∷ ids) same = (same id, give_same f g ids same)

value_same : (f g : Given) (name : List ℕ) → ((id : List ℕ) → f id ≡ g id) → value_at f name ≡ value_at g name
value_same f g name same = ap (λ o. if is_flag name then flag_value o else o) (same (drop 2 name))

-- parts that ask for it
record HasParts (name : Name) (words : List (List ℕ)) (ask : Ask BitsAsk) : Type 0 where
  parts : Parts
  stand : arranged words ≡ Some parts
  few : length parts.0 ≤ length (ids_of (row_of name).places)
  once : stand_once_among (names_of (row_of name)) parts.1 ≡ true
  asks : from_row (row_of name) (asks_by name) parts.0 (λ id. option_named (name_of id) parts.1) (λ id. is_some (option_named (name_of id) parts.1)) ≡ Some ask

parts_of : (name : Name) (words : List (List ℕ)) (ask : Ask BitsAsk) → option_and_then (asked_of name) (arranged words) ≡ Some ask → HasParts name words ask
parts_of name words ask e = go (arranged words) refl e
  where
    go : (o : Option Parts) → arranged words ≡ o → option_and_then (asked_of name) o ≡ Some ask → HasParts name words ask
    go None stand asks = absurd (cc)
    go (Some parts) stand asks =
        let t = if_gives _ _ ask asks in
        let guards = both _ _ t.0 in
        record { parts = parts; stand = stand; few = subst (λ n. length parts.0 ≤ n) (sym (length_ids (row_of name).places)) (leb-true _ _ guards.0); once = guards.1; asks = t.1 }

module _ (name : Name) where
  abbrev row : Row
  row = row_of name

  abbrev places : List (List ℕ)
  places = ids_of row.places

  known : IsKnown row
  known = known_of name

  said_same : (given : Given) (words : List (List ℕ)) (options : List Word) → IsSaid given (names_of row) options
      → from_row row (asks_by name) words (λ id. option_named (name_of id) options) (λ id. is_some (option_named (name_of id) options)) ≡ asked_found name words given
  unfolding asked_found
  said_same given words options said =
      row_same row (asks_by name) words _ given _ (stands given) (options_given given (names_of row) (ids_of row.options) options known.form.valued_named said)
      (flags_given given (names_of row) row.flags options known.flags_named said)

  taken : (words : List (List ℕ)) (parts : Parts) → arranged (drop 1 words) ≡ Some parts → length parts.0 ≤ length places → stand_once_among (names_of row) parts.1 ≡ true
      → IsTaken (told row) places (names_of row) (ids_of row.options) words parts.0 parts.1
  taken words parts stand few once = valid_is_taken (told row) places (names_of row) (ids_of row.options) row.flags words parts.0 parts.1 known.form stand few once

  valid_read : (words : List (List ℕ)) (m : ArgMatches) (ask : Ask BitsAsk) → IsFound row words (Some m) → HasParts name (drop 1 words) ask
      → asked_found name (places_in (given_by m) places) (given_by m) ≡ Some ask
  valid_read words m ask found p =
      let t = taken words p.parts p.stand p.few p.once in
      let given : (id : List ℕ) → given_by m id ≡ finds row words id = given_rows (told row) words m found.matches known.form.simple in
      let in_places : places_in (given_by m) places ≡ p.parts.0 = places_same _ _ places (give_same _ _ places given) ∙ t.says.in_places in
      let said : IsSaid (given_by m) (names_of row) p.parts.1 = record {
        named = λ option among. t.says.said.named option among ∙ sym (value_same _ _ option given);
        once = t.says.said.once;
      } in
      ap (λ ws. asked_found name ws (given_by m)) in_places ∙ sym (said_same (given_by m) p.parts.0 p.parts.1 said) ∙ p.asks

  other_words : (words : List (List ℕ)) (m : ArgMatches) (ask : Ask BitsAsk) → IsFound row words (Some m)
      → asked_found name (places_in (given_by m) places) (given_by m) ≡ Some ask → IsTakenFor name words ask
  other_words words m ask found e =
      let w = write_found (given_by m) places (names_of row) (ids_of row.options) known.names found.plain in
      let options = options_in (given_by m) (names_of row) in
      let said : IsSaid (given_by m) (names_of row) options = record { named = found_named (given_by m) (names_of row) known.names.apart; once = w.once } in
      let few = places_few (given_by m) places in
      let given : (id : List ℕ) → given_by m id ≡ finds row words id = given_rows (told row) words m found.matches known.form.simple in
      record {
        faultless = found.faultless known.form.free;
        others = w.words;
        asks = ap (option_and_then (asked_of name)) w.stand
            ∙ ap (λ b. if b then from_row row (asks_by name) (places_in (given_by m) places) (λ id. option_named (name_of id) options) (λ id. is_some (option_named (name_of id) options)) else None)
            (ap₂ (λ a b. a && b) (le-leb _ _ (subst (λ n. length (places_in (given_by m) places) ≤ n) (length_ids row.places) few)) w.once)
            ∙ said_same (given_by m) (places_in (given_by m) places) options said ∙ e;
        alike = λ first.
            let t = taken (first ∷ w.words) (places_in (given_by m) places, options) w.stand few w.once in
            record {
              places = sym (places_same _ _ places (give_same _ _ places given)) ∙ sym t.says.in_places;
              options = λ option among. sym (value_same _ _ option given) ∙ sym (said.named option among) ∙ t.says.said.named option among;
            };
      }

  -- what is read of matches
  pub some_read : (words positional : List (List ℕ)) (m : ArgMatches) (found : Option (Ask BitsAsk)) → IsFound row words (Some m) → positional ≡ places_in (given_by m) places
      → asked_found name positional (given_by m) ≡ found → IsReadBy name words found
  some_read words positional m found is in_places read =
      let means : asked_found name (places_in (given_by m) places) (given_by m) ≡ found = ap (λ ws. asked_found name ws (given_by m)) (sym in_places) ∙ read in
      record {
        valid = λ {ask} e. sym means ∙ valid_read words m ask is (parts_of name (drop 1 words) ask e);
        other = λ {ask} e. other_words words m ask is (means ∙ e);
      }

  pub none_read : (words : List (List ℕ)) → IsFound row words None → IsReadBy name words None
  none_read words is = record {
    valid = λ {ask} e.
        let p = parts_of name (drop 1 words) ask e in
        let t = taken words p.parts p.stand p.few p.once in
        absurd (is.none refl t.taken t.plain);
    other = λ {ask} e. absurd (cc);
  }

  -- what is read of what was found by a row that is the command's
  pub from_found : (words : List (List ℕ)) (own : Row) (found : Option Found) (parts : Found) (result : Option (Ask BitsAsk)) → own ≡ row → found ≡ Some parts
      → IsFound own words (option_map (λ (p : Found). p.options) found) → IfSome found (λ (p : Found). map (λ w. w.now) p.positional.items ≡ places_in (given_by p.options) (ids_of own.places))
      → asked_found name (map (λ w. w.now) parts.positional.items) (given_by parts.options) ≡ result → IsReadBy name words result
  from_found words own found parts result same is have stand read =
      some_read words (map (λ w. w.now) parts.positional.items) parts.options result
      (subst (λ (o : Option Found). IsFound row words (option_map (λ (p : Found). p.options) o)) is (subst (λ r. IsFound r words (option_map (λ (p : Found). p.options) found)) same have))
      (subst (λ (o : Option Found). IfSome o (λ (p : Found). map (λ w. w.now) p.positional.items ≡ places_in (given_by p.options) places)) is
      (subst (λ (r : Row). IfSome found (λ (p : Found). map (λ w. w.now) p.positional.items ≡ places_in (given_by p.options) (ids_of r.places))) same stand)) read

  pub from_none : (words : List (List ℕ)) (own : Row) (found : Option Found) → own ≡ row → found ≡ None → IsFound own words (option_map (λ (p : Found). p.options) found) → IsReadBy name words None
  from_none words own found same is have =
      none_read words (subst (λ (o : Option Found). IsFound row words (option_map (λ (p : Found). p.options) o)) is (subst (λ r. IsFound r words (option_map (λ (p : Found). p.options) found)) same have))
