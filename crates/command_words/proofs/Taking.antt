-- Words that are valid are taken by clap, whose matches say what they say.
use Rattle.std.proofs.Common.{◌≡◌, ◌∙◌, ◌≤◌, List, [], ◌∷◌, ◌++◌, Bool, true, false, not, ◌&&◌, ◌||◌, cond, drop, length, map, Some, None, Option, refl, ap, ap₂, sym, subst, codes, arith, if◌then◌else◌, true≢false}
use Rattle.std.specs.List.{fold, list_all, list_any}
use Rattle.std.specs.Str.{bytes_eq}
use Rattle.clap.specs.Walk.{Held, Names, Row, Rule, Text, default_rows, finished, first_of, has_row, is_empty, nothing_held, reading_by, settled, walk, walked, with_default, with_values}
use Rattle.clap.specs.Simple.{App, argument_words, built, is_simple, label_of, matches_of}
use Rattle.clap.specs.Faults.{is_simple_and_free}
use Rattle.clap.specs.Takes.{default_passes, is_valid, level_passes, settle_passes, takes, walk_passes}
use Rattle.clap.specs.declared.builder.value_parser.Reading.TheVariants.{AsWritten}
use Rattle.clap.specs.declared.parser.matches.ValueSource.TheVariants.{DefaultValue}
use Rattle.clap.proofs.WalkLemmas.{both}
use Rattle.clap.proofs.SimpleLemmas.{is_false}
use Rattle.clap.proofs.TakesLemmas.{leaf_takes}
use Rattle.command_words.specs.Arguments.{arranged, begins_with_dash, is_flag, option_named, Word}
use Rattle.command_words.specs.Orders.{StandsAmong, nothing as no_words, place as in_place, valued as with_value, flag as by_itself}
use Rattle.command_words.specs.Words.{stand_once_among}
use Rattle.command_words.specs.Found.{are_plain, flag_value, is_plain, places_in, value_at, with_place}
use Rattle.command_words.proofs.Orders.{stands}
use Rattle.command_words.proofs.Rows.{GiveSame, at_end, places_same}
use Rattle.command_words.proofs.Steps.{flag, standing}
use Rattle.command_words.proofs.Walks.{IsSaid, AreNew, Ends, Knows, is_among, is_apart, kind_plain}
use Rattle.command_words.proofs.Ends.{ends}

-- what clap knows of a command with these places, these options, and those among them that stand by themselves
pub record IsForm (a : App) (places names valued flags : List Text) : Type 0 where
  pub simple : is_simple a ≡ true
  pub free : is_simple_and_free a ≡ true
  pub alone : (built a).subs ≡ []
  pub named_first : a.top.no_binary_name ≡ false
  pub fixed : List Rule
  pub rules : (built a).top.rules ≡ fixed ++ map flag flags
  pub no_defaults : list_all (λ r. is_empty r.defaults) fixed ≡ true
  pub defaults : list_all default_passes (built a).top.rules ≡ true
  pub valid : (rows : List Row) → is_valid (built a).top rows false ≡ true
  pub knows : Knows (built a).top places names
  pub flags_apart : list_all (λ id. is_apart id flags) places ≡ true
  pub valued_apart : list_all (λ name. is_flag name || is_apart (drop 2 name) flags) names ≡ true
  pub valued_named : list_all (λ id. is_among names (45 ∷ 45 ∷ id) && not (is_flag (45 ∷ 45 ∷ id))) valued ≡ true

-- ---- defaults

no_default : (r : Rule) (rows : List Row) → is_empty r.defaults ≡ true → with_default rows r ≡ rows
no_default r rows none = ap (λ vs. if has_row r.id rows then rows else default_rows r.id (reading_by r) vs rows) (Rattle.clap.proofs.SimpleLemmas.is_nil r.defaults none) ∙ same (has_row r.id rows)
  where
    same : (b : Bool) → (if b then rows else rows) ≡ rows
    same true = refl
    same false = refl

no_default_among : (fixed more : List Rule) (rows : List Row) → list_all (λ r. is_empty r.defaults) fixed ≡ true → fold with_default rows (fixed ++ more) ≡ fold with_default rows more
no_default_among [] more rows none = refl
no_default_among (r ∷ fixed) more rows none =
    let parts = both _ _ none in
    ap (λ rs. fold with_default rs (fixed ++ more)) (no_default r rows parts.0) ∙ no_default_among fixed more rows parts.1

abbrev first_in : Option Row → Option Text
first_in o = Rattle.std.specs.Prelude.option_and_then (λ (r : Row). Rattle.std.specs.Prelude.slice_get r.values 0) o

abbrev not_there : Text → Row
not_there id = record { id = id; values = codes "false" ∷ []; count = None; source = Some DefaultValue; reading = AsWritten }

-- a row at the end, of another id
other_last : (id f : Text) (rows : List Row) → bytes_eq f id ≡ false → first_of id (rows ++ not_there f ∷ []) ≡ first_of id rows
other_last id f [] other = ap (λ b. first_in (cond b (Some (not_there f)) None)) other
other_last id f (r ∷ rows) other = go (bytes_eq r.id id) (other_last id f rows other)
  where
    go : (b : Bool) → first_of id (rows ++ not_there f ∷ []) ≡ first_of id rows
        → first_in (cond b (Some r) (Rattle.std.specs.List.find (λ x. bytes_eq x.id id) (rows ++ not_there f ∷ []))) ≡ first_in (cond b (Some r) (Rattle.std.specs.List.find (λ x. bytes_eq x.id id) rows))
    go true e = refl
    go false e = e

-- a flag that is not there has no value
no_flag_last : (id f : Text) (rows : List Row) → flag_value (first_of id (rows ++ not_there f ∷ [])) ≡ flag_value (first_of id rows)
no_flag_last id f [] = go (bytes_eq f id)
  where
    go : (b : Bool) → flag_value (first_in (cond b (Some (not_there f)) None)) ≡ None
    go true = refl
    go false = refl
no_flag_last id f (r ∷ rows) = go (bytes_eq r.id id) (no_flag_last id f rows)
  where
    go : (b : Bool) → flag_value (first_of id (rows ++ not_there f ∷ [])) ≡ flag_value (first_of id rows)
        → flag_value (first_in (cond b (Some r) (Rattle.std.specs.List.find (λ x. bytes_eq x.id id) (rows ++ not_there f ∷ [])))) ≡ flag_value (first_in (cond b (Some r) (Rattle.std.specs.List.find (λ x. bytes_eq x.id id) rows)))
    go true e = refl
    go false e = e

-- what a flag's default adds
flag_default : (P : List Row → Type 0) (f : Text) (rows : List Row) → P rows → P (rows ++ not_there f ∷ []) → P (with_default rows (flag f))
flag_default P f rows same more = go (has_row f rows) refl
  where
    go : (b : Bool) → has_row f rows ≡ b → P (if b then rows else with_values f AsWritten DefaultValue (codes "false" ∷ []) rows)
    go true e = same
    go false e = subst P (sym (at_end f (Rattle.clap.specs.Walk.more_values DefaultValue (codes "false" ∷ [])) (not_there f ∷ []) rows e)) more

other_default : (id : Text) (flags : List Text) (rows : List Row) → is_apart id flags ≡ true → first_of id (fold with_default rows (map flag flags)) ≡ first_of id rows
other_default id [] rows apart = refl
other_default id (f ∷ flags) rows apart =
    let parts = both _ _ apart in
    other_default id flags (with_default rows (flag f)) parts.1
    ∙ flag_default (λ rs. first_of id rs ≡ first_of id rows) f rows refl (other_last id f rows (Rattle.command_words.proofs.Walks.other_way id f (is_false _ parts.0)))

flag_kept : (id : Text) (flags : List Text) (rows : List Row) → flag_value (first_of id (fold with_default rows (map flag flags))) ≡ flag_value (first_of id rows)
flag_kept id [] rows = refl
flag_kept id (f ∷ flags) rows =
    flag_kept id flags (with_default rows (flag f))
    ∙ flag_default (λ rs. flag_value (first_of id rs) ≡ flag_value (first_of id rows)) f rows refl (no_flag_last id f rows)

value_kept : (name : Text) (flags : List Text) (rows : List Row) → (is_flag name || is_apart (drop 2 name) flags) ≡ true
    → value_at (λ id. first_of id (fold with_default rows (map flag flags))) name ≡ value_at (λ id. first_of id rows) name
value_kept name flags rows apart = go (is_flag name) apart
  where
    go : (b : Bool) → (b || is_apart (drop 2 name) flags) ≡ true
        → (if b then flag_value (first_of (drop 2 name) (fold with_default rows (map flag flags))) else first_of (drop 2 name) (fold with_default rows (map flag flags)))
        ≡ (if b then flag_value (first_of (drop 2 name) rows) else first_of (drop 2 name) rows)
    go true e = flag_kept (drop 2 name) flags rows
    go false e = other_default (drop 2 name) flags rows e

places_kept : (ids flags : List Text) (rows : List Row) → list_all (λ id. is_apart id flags) ids ≡ true
    → GiveSame (λ id. first_of id (fold with_default rows (map flag flags))) (λ id. first_of id rows) ids
places_kept [] flags rows apart = tt
places_kept (id ∷ ids) flags rows apart =
    let parts = both _ _ apart in
    (other_default id flags rows parts.0, places_kept ids flags rows parts.1)

pub among_all : (p : Text → Bool) (names : List Text) (name : Text) → list_all p names ≡ true → is_among names name ≡ true → p name ≡ true
among_all p [] name all among = absurd (true≢false (sym among))
among_all p (n ∷ names) name all among = go (bytes_eq n name) refl among (among_all p names name (both _ _ all).1)
  where
    go : (b : Bool) → bytes_eq n name ≡ b → (b || is_among names name) ≡ true → (is_among names name ≡ true → p name ≡ true) → p name ≡ true
    go true e is later = subst (λ x. p x ≡ true) (Rattle.command_words.proofs.Rows.same_text n name e) (both _ _ all).0
    go false e is later = later is

-- ---- plain words

plain_places : {words positional : List Text} {options : List Word} → StandsAmong words positional options → list_all (λ word. not (begins_with_dash word)) positional ≡ true
plain_places no_words = refl
plain_places (in_place {word} kind rest) = ap₂ (λ a b. not a && b) (kind_plain word kind) (plain_places rest)
plain_places (with_value kind plain rest) = plain_places rest
plain_places (by_itself kind rest) = plain_places rest

plain_values : {words positional : List Text} {options : List Word} → StandsAmong words positional options → (name : Text) → is_plain (option_named name options) ≡ true
plain_values no_words name = refl
plain_values (in_place kind rest) name = plain_values rest name
plain_values (with_value {word} {value} {words} {positional} {options} kind plain rest) name = go (bytes_eq word name) (plain_values rest name)
  where
    go : (b : Bool) → is_plain (option_named name options) ≡ true → is_plain (cond b (Some value) (option_named name options)) ≡ true
    go true e = ap not plain
    go false e = e
plain_values (by_itself {word} {words} {positional} {options} kind rest) name = go (bytes_eq word name) (plain_values rest name)
  where
    go : (b : Bool) → is_plain (option_named name options) ≡ true → is_plain (cond b (Some []) (option_named name options)) ≡ true
    go true e = refl
    go false e = e

places_plain : (given : Text → Option Text) (ids : List Text) → list_all (λ word. not (begins_with_dash word)) (places_in given ids) ≡ true → are_plain given ids ≡ true
places_plain given [] all = refl
places_plain given (id ∷ ids) all = go (given id) all (places_plain given ids)
  where
    go : (o : Option Text) → list_all (λ word. not (begins_with_dash word)) (with_place o (places_in given ids)) ≡ true
        → (list_all (λ word. not (begins_with_dash word)) (places_in given ids) ≡ true → are_plain given ids ≡ true) → (is_plain o && are_plain given ids) ≡ true
    go None e later = later e
    go (Some word) e later =
        let parts = both _ _ e in
        ap₂ (λ a b. a && b) parts.0 (later parts.1)

values_plain : (given : Text → Option Text) (names ids : List Text) (options : List Word) → list_all (λ id. is_among names (45 ∷ 45 ∷ id) && not (is_flag (45 ∷ 45 ∷ id))) ids ≡ true
    → ((name : Text) → is_among names name ≡ true → option_named name options ≡ value_at given name) → ((name : Text) → is_plain (option_named name options) ≡ true) → are_plain given ids ≡ true
values_plain given names [] options all named plain = refl
values_plain given names (id ∷ ids) options all named plain =
    let parts = both _ _ all in
    let here = both _ _ parts.0 in
    let value : option_named (45 ∷ 45 ∷ id) options ≡ given id =
    named (45 ∷ 45 ∷ id) here.0 ∙ ap (λ b. if b then flag_value (given id) else given id) (is_false _ here.1) in
    ap₂ (λ a b. a && b) (ap is_plain (sym value) ∙ plain (45 ∷ 45 ∷ id)) (values_plain given names ids options parts.1 named plain)

-- ---- the whole

-- the words in places and the options are what is given
pub record Says (given : Text → Option Text) (places names positional : List Text) (options : List Word) : Type 0 where
  pub in_places : places_in given places ≡ positional
  pub said : IsSaid given names options

-- the words are taken, and the matches say what they say
pub record IsTaken (a : App) (places names valued words positional : List Text) (options : List Word) : Type 0 where
  pub taken : takes a words ≡ true
  pub says : Says (λ id. first_of id (matches_of a words)) places names positional options
  pub plain : are_plain (λ id. first_of id (matches_of a words)) (places ++ valued) ≡ true

no_rows : (ids : List Text) → AreNew [] ids
no_rows [] = tt
no_rows (id ∷ ids) = (refl, no_rows ids)

walked_from_start : (a : App) (places names valued flags rest positional : List Text) (options : List Word) → IsForm a places names valued flags → StandsAmong rest positional options
    → length positional ≤ length places → stand_once_among names options ≡ true → Ends (built a).top names nothing_held 1 [] places rest positional options
walked_from_start a places names valued flags rest positional options f among enough once =
    let small = f.knows.few in
    ends among (built a).top names nothing_held 1 [] places (record {
      holds = record { passes = refl; are = refl };
      in_places = f.knows.in_places;
      apart = f.knows.apart;
      few = omega arith;
      enough = enough;
      by_name = f.knows.by_name;
      once = once;
      new = no_rows places;
      new_names = λ name is there. refl;
    })

rows_at_end : (a : App) (places names valued flags words positional : List Text) (options : List Word) → IsForm a places names valued flags
    → (e : Ends (built a).top names nothing_held 1 [] places (drop 1 words) positional options) → matches_of a words ≡ fold with_default e.more (map flag flags)
rows_at_end a places names valued flags words positional options f e =
    ap (λ ns. finished (built a).top.rules (walk (built a).top.rules ns nothing_held (argument_words a words)).held) (ap (map label_of) f.alone)
    ∙ ap (λ b. finished (built a).top.rules (walk (built a).top.rules [] nothing_held (if b then words else drop 1 words)).held) f.named_first
    ∙ ap (λ w. finished (built a).top.rules w.held) e.walk
    ∙ ap (λ rows. fold with_default rows (built a).top.rules) e.holds.are
    ∙ ap (fold with_default e.more) f.rules
    ∙ no_default_among f.fixed (map flag flags) e.more f.no_defaults

level : (a : App) (places names valued flags rest positional : List Text) (options : List Word) → IsForm a places names valued flags
    → (e : Ends (built a).top names nothing_held 1 [] places rest positional options) → level_passes (built a).top [] nothing_held rest false ≡ true
level a places names valued flags rest positional options f e =
    let end : (walk (built a).top.rules [] nothing_held rest).held ≡ e.end = ap (λ w. w.held) e.walk in
    ap (λ h. walk_passes (built a).top [] (standing nothing_held 1) rest && (settle_passes (built a).top.rules (built a).top.args_override_self h
    && (list_all default_passes (built a).top.rules && is_valid (built a).top (finished (built a).top.rules h) false))) end
    ∙ ap₂ (λ x y. x && y) e.passes (ap₂ (λ x y. x && y) e.holds.passes (ap₂ (λ x y. x && y) f.defaults (f.valid (finished (built a).top.rules e.end))))

pub valid_is_taken : (a : App) (places names valued flags words positional : List Text) (options : List Word) → IsForm a places names valued flags
    → arranged (drop 1 words) ≡ Some (positional, options) → length positional ≤ length places → stand_once_among names options ≡ true
    → IsTaken a places names valued words positional options
valid_is_taken a places names valued flags words positional options f stand enough once =
    let among = stands (drop 1 words) positional options stand in
    let e = walked_from_start a places names valued flags (drop 1 words) positional options f among enough once in
    let rows = rows_at_end a places names valued flags words positional options f e in
    let in_places : places_in (λ id. first_of id (matches_of a words)) places ≡ positional =
    ap (λ rs. places_in (λ id. first_of id rs) places) rows
    ∙ places_same _ _ places (places_kept places flags e.more f.flags_apart) ∙ e.in_places in
    let named : (n : Text) → is_among names n ≡ true → option_named n options ≡ value_at (λ id. first_of id (matches_of a words)) n =
    λ n is. e.named n is ∙ sym (value_kept n flags e.more (among_all _ names n f.valued_apart is)) ∙ sym (ap (λ rs. value_at (λ id. first_of id rs) n) rows) in
    record {
      taken = ap₂ (λ x y. x && y) f.simple
          (ap (λ b. Rattle.clap.specs.Takes.built_takes (built a) nothing_held (if b then words else drop 1 words)) f.named_first
          ∙ leaf_takes (built a) nothing_held (drop 1 words) f.alone (level a places names valued flags (drop 1 words) positional options f e));
      says = record { in_places = in_places; said = record { named = named; once = once } };
      plain = Rattle.command_words.proofs.Finding.plain_both (λ id. first_of id (matches_of a words)) places valued
          ∙ ap₂ (λ x y. x && y) (places_plain (λ id. first_of id (matches_of a words)) places (ap (list_all (λ word. not (begins_with_dash word))) in_places ∙ plain_places among))
          (values_plain (λ id. first_of id (matches_of a words)) names valued options f.valued_named named (plain_values among));
    }
