-- One word or two of a command line, in clap's walk.
use Rattle.std.proofs.Common.{◌≡◌, ◌∙◌, ◌+◌, ◌<◌, ◌==◌, ℕ, List, [], ◌∷◌, ◌++◌, Bool, true, false, not, ◌&&◌, ◌||◌, cond, min, drop, Some, None, Option, refl, ap, ap₂, codes, arith, if◌then◌else◌, nat_lt}
use Rattle.std.specs.Str.{bytes_eq}
use Rattle.clap.specs.Lexer.{long_of, short_of, long_of_rest, short_of_rest, usize_max}
use Rattle.std.specs.Option.{option_and_then}
use Rattle.clap.specs.Walk.{Held, Row, Rule, Text, Waiting, Walk, after_flag, after_step, arg_by_id, arg_by_index, arg_by_long, idle, is_pending, long_met, long_or_other, next, option, option_word, plain_word, pushed, settled, settled_rows, short_or_plain, subcommand_or_other, to_positional, trailing, used, used_by_id, value, walked, word_met}
use Rattle.clap.specs.Simple.{Shape}
use Rattle.clap.specs.Takes.{flag_word_passes, long_passes, other_passes, positional_passes, settle_passes, step_passes, turn_passes, word_passes, use_passes}
use Rattle.clap.specs.declared.builder.action.ArgAction.TheVariants.{Set, SetTrue}
use Rattle.clap.specs.declared.builder.value_parser.ValueParser.TheVariants as vp
use Rattle.clap.specs.Walk.{has_row, more_values, with_values}
use Rattle.clap.specs.declared.builder.value_parser.Reading.TheVariants.{AsWritten}
use Rattle.clap.specs.declared.parser.matches.ValueSource.TheVariants.{CommandLine}
use Rattle.command_words.specs.Arguments.{begins_with_dash}
use Rattle.command_words.proofs.Rows.{row, at_end, without_none, equals_itself}

-- an argument of one value, as clap fills it in
abbrev pub single : Option ℕ → Option Text → Text → Rule
single index long id = record {
  id = id;
  long = long;
  aliases = [];
  short = None;
  short_aliases = [];
  index = index;
  action = Some Set;
  range = Some (record { start_inclusive = 1; end_inclusive = 1 });
  value_names = 0;
  defaults = [];
  missing = [];
  trailing_var_arg = false;
  parser = Some vp.String;
  ignore_case = false;
  required = false;
  is_simple = true;
  is_free = true;
}

abbrev pub place : ℕ → Text → Rule
place i id = single (Some i) None id

abbrev pub valued : Text → Rule
valued id = single None (Some id) id

-- an option that stands by itself, as clap fills it in
abbrev pub flag : Text → Rule
flag id = record (single None (Some id) id) {
  action = Some SetTrue;
  range = Some (record { start_inclusive = 0; end_inclusive = 0 });
  defaults = codes "false" ∷ [];
  missing = codes "true" ∷ [];
  parser = Some vp.Bool;
}

-- what is held has these rows, once what is pending is used
pub record Holds (s : Shape) (h : Held) (rows : List Row) : Type 0 where
  pub passes : settle_passes s.rules s.args_override_self h ≡ true
  pub are : settled_rows s.rules h.pending h.rows ≡ rows

-- the walk where nothing waits
abbrev pub standing : Held → ℕ → Walk
standing h i = record { held = h; waiting = idle; position = i; is_trailing = false; stopped = None }

-- one value is pending, over these rows
abbrev pub holding : Shape → Held → Text → Text → Held
holding s h id word = record (settled s.rules h) { pending = Some (id, word ∷ []) }

and_false : (b : Bool) → (b && false) ≡ false
and_false true = refl
and_false false = refl

or_true : (b : Bool) → (b || true) ≡ true
or_true true = refl
or_true false = refl

not_dash : (b : Bool) → (b && true) ≡ false → b ≡ false
not_dash true e = e
not_dash false e = refl

-- a word that begins with no dash is no flag
record IsNoFlag (word : Text) : Type 0 where
  dashes : bytes_eq word (45 ∷ 45 ∷ []) ≡ false
  long : long_of word ≡ None
  short : short_of word ≡ None

no_flag : (word : Text) → begins_with_dash word ≡ false → IsNoFlag word
no_flag [] e = record { dashes = refl; long = refl; short = refl }
no_flag (c ∷ word) e =
    let d : (c == 45) ≡ false = not_dash (c == 45) e in
    record {
      dashes = ap (λ b. b && bytes_eq word (45 ∷ [])) d;
      long = ap (λ b. option_and_then long_of_rest (option_and_then (Rattle.clap.specs.Lexer.strip_byte 45) (cond b (Some word) None))) d;
      short = ap (λ b. option_and_then short_of_rest (cond b (Some word) None)) d;
    }

-- such a word goes on to what waits
plain_met : (c : List Rule) (waiting : Waiting) (i : ℕ) (word : Text) (h : Held) → IsNoFlag word → subcommand_or_other c None waiting i word h ≡ plain_word c waiting word h
plain_met c waiting i word h is =
    ap (λ b. cond b (h, trailing i) (long_or_other c waiting word (long_of word) h)) is.dashes
    ∙ ap (λ l. long_or_other c waiting word l h) is.long
    ∙ ap (λ f. short_or_plain c waiting word f h) is.short

plain_passes : (s : Shape) (word : Text) (h : Held) → IsNoFlag word → other_passes s None word h ≡ true
plain_passes s word h is =
    ap (λ b. b || flag_word_passes s.rules s.args_override_self (long_of word) word h) is.dashes
    ∙ ap (λ l. flag_word_passes s.rules s.args_override_self l word h) is.long
    ∙ ap (λ o. Rattle.std.specs.Option.option_map_or (λ flags. Rattle.clap.specs.Takes.bundle_passes s.rules s.args_override_self flags h) o true) is.short

-- one value of an argument that had none
used_once : (index : Option ℕ) (long : Option Text) (id word : Text) (rows : List Row) → has_row id rows ≡ false → used (single index long id) (word ∷ []) rows ≡ rows ++ row id word ∷ []
used_once index long id word rows none =
    ap (with_values id AsWritten CommandLine (word ∷ [])) (without_none id rows none)
    ∙ at_end id (more_values CommandLine (word ∷ [])) (row id word ∷ []) rows none

once_passes : (index : Option ℕ) (long : Option Text) (id word : Text) (again : Bool) (rows : List Row) → has_row id rows ≡ false → use_passes again (single index long id) (word ∷ []) rows ≡ true
once_passes index long id word again rows none = ap (λ b. (not b || again) && true) none

pub holds_more : (s : Shape) (h : Held) (rows : List Row) (index : Option ℕ) (long : Option Text) (id word : Text) → Holds s h rows
    → arg_by_id s.rules id ≡ Some (single index long id) → has_row id rows ≡ false → Holds s (holding s h id word) (rows ++ row id word ∷ [])
holds_more s h rows index long id word holds by_id none = record {
  passes = ap (λ o. Rattle.std.specs.Option.option_map_or (λ a. use_passes s.args_override_self a (word ∷ []) (settled_rows s.rules h.pending h.rows)) o true) by_id
      ∙ ap (use_passes s.args_override_self (single index long id) (word ∷ [])) holds.are
      ∙ once_passes index long id word s.args_override_self rows none;
  are = ap (λ o. used_by_id o (word ∷ []) (settled_rows s.rules h.pending h.rows)) by_id
      ∙ ap (used (single index long id) (word ∷ [])) holds.are
      ∙ used_once index long id word rows none;
}

-- ---- a word in a place

pub place_turn : (s : Shape) (h : Held) (rows : List Row) (i : ℕ) (id word : Text) → Holds s h rows → arg_by_index s.rules i ≡ Some (place i id)
    → begins_with_dash word ≡ false → turn_passes s [] (standing h i) word ≡ true
place_turn s h rows i id word holds by_index plain =
    let is = no_flag word plain in
    let met : word_met s.rules [] false idle i word h ≡ (h, value) = plain_met s.rules idle i word h is in
    ap₂ (λ a b. a && b) (plain_passes s word h is)
    (ap (λ m. step_passes s i m.0 m.1) met
    ∙ ap (λ o. Rattle.std.specs.Option.option_map_or (λ a. positional_passes s.rules s.args_override_self a h) o false) by_index
    ∙ ap (λ b. (is_pending (place i id) h.pending && false) || b) holds.passes ∙ or_true _)

pub place_walk : (s : Shape) (h : Held) (i : ℕ) (id word : Text) → arg_by_index s.rules i ≡ Some (place i id) → begins_with_dash word ≡ false → i < 100
    → walked s.rules [] (standing h i) word ≡ standing (holding s h id word) (i + 1)
unfolding walked
place_walk s h i id word by_index plain small =
    let is = no_flag word plain in
    let met : word_met s.rules [] false idle i word h ≡ (h, value) = plain_met s.rules idle i word h is in
    let position : min (i + 1) usize_max ≡ i + 1 = omega arith in
    ap (λ m. after_step s.rules word (standing h i) m.0 m.1) met
    ∙ ap (λ o. to_positional s.rules o word (standing h i) h) by_index
    ∙ ap (λ b. record (standing (pushed id word (if b then h else settled s.rules h)) (min (i + 1) usize_max)) { waiting = idle }) (and_false (is_pending (place i id) h.pending))
    ∙ ap (λ n. standing (holding s h id word) n) position

-- ---- an option and the word after it

-- clap knows the option of this name as this rule
pub record IsKnown (s : Shape) (rule : Text → Rule) (name : Text) : Type 0 where
  pub long : long_of name ≡ Some (drop 2 name, None)
  pub dashes : bytes_eq name (45 ∷ 45 ∷ []) ≡ false
  pub by_long : arg_by_long s.rules (drop 2 name) ≡ Some (rule (drop 2 name))
  pub by_id : arg_by_id s.rules (drop 2 name) ≡ Some (rule (drop 2 name))

known_met : (s : Shape) (h : Held) (i : ℕ) (rule : Text → Rule) (name : Text) → IsKnown s rule name
    → word_met s.rules [] false idle i name h ≡ after_flag s.rules idle name (long_met s.rules (Some (rule (drop 2 name))) None h).0 (long_met s.rules (Some (rule (drop 2 name))) None h).1
known_met s h i rule name is =
    ap (λ b. cond b (h, trailing i) (long_or_other s.rules idle name (long_of name) h)) is.dashes
    ∙ ap (λ l. long_or_other s.rules idle name l h) is.long
    ∙ ap (λ o. after_flag s.rules idle name (long_met s.rules o None h).0 (long_met s.rules o None h).1) is.by_long

known_passes : (s : Shape) (h : Held) (rule : Text → Rule) (name : Text) → IsKnown s rule name
    → other_passes s None name h ≡ long_passes s.rules s.args_override_self (Some (rule (drop 2 name))) None h
known_passes s h rule name is =
    ap (λ b. b || flag_word_passes s.rules s.args_override_self (long_of name) name h) is.dashes
    ∙ ap (λ l. flag_word_passes s.rules s.args_override_self l name h) is.long
    ∙ ap (λ o. long_passes s.rules s.args_override_self o None h) is.by_long

-- the walk where an option waits for its value
abbrev pub waiting_for : Shape → Held → ℕ → Text → Walk
waiting_for s h i id = record (standing (record (settled s.rules h) { pending = Some (id, []) }) i) { waiting = option id }

pub name_turn : (s : Shape) (h : Held) (rows : List Row) (i : ℕ) (name : Text) → Holds s h rows → IsKnown s valued name → turn_passes s [] (standing h i) name ≡ true
name_turn s h rows i name holds is =
    ap₂ (λ a b. a && b) (known_passes s h valued name is ∙ holds.passes) (ap (λ m. step_passes s i m.0 m.1) (known_met s h i valued name is))

pub name_walk : (s : Shape) (h : Held) (i : ℕ) (name : Text) → IsKnown s valued name → walked s.rules [] (standing h i) name ≡ waiting_for s h i (drop 2 name)
unfolding walked
name_walk s h i name is = ap (λ m. after_step s.rules name (standing h i) m.0 m.1) (known_met s h i valued name is)

value_met : (s : Shape) (h : Held) (i : ℕ) (id word : Text) → arg_by_id s.rules id ≡ Some (valued id) → begins_with_dash word ≡ false
    → word_met s.rules [] false (option id) i word (waiting_for s h i id).held ≡ (holding s h id word, next idle)
value_met s h i id word by_id plain =
    plain_met s.rules (option id) i word (waiting_for s h i id).held (no_flag word plain)
    ∙ ap (λ o. ((option_word o id word (waiting_for s h i id).held).0, next (option_word o id word (waiting_for s h i id).held).1)) by_id
    ∙ ap (λ b. (holding s h id word, next (if nat_lt (if b then 1 else 0) 1 then option id else idle))) (equals_itself id)

pub value_turn : (s : Shape) (h : Held) (i : ℕ) (id word : Text) → arg_by_id s.rules id ≡ Some (valued id) → begins_with_dash word ≡ false
    → turn_passes s [] (waiting_for s h i id) word ≡ true
value_turn s h i id word by_id plain =
    ap₂ (λ a b. a && b) (plain_passes s word (waiting_for s h i id).held (no_flag word plain))
    (ap (λ m. step_passes s i m.0 m.1) (value_met s h i id word by_id plain))

pub value_walk : (s : Shape) (h : Held) (i : ℕ) (id word : Text) → arg_by_id s.rules id ≡ Some (valued id) → begins_with_dash word ≡ false
    → walked s.rules [] (waiting_for s h i id) word ≡ standing (holding s h id word) i
unfolding walked
value_walk s h i id word by_id plain = ap (λ m. after_step s.rules word (waiting_for s h i id) m.0 m.1) (value_met s h i id word by_id plain)

-- ---- an option that stands by itself

abbrev pub flagged : Shape → Held → Text → Held
flagged s h id = record h { rows = used (flag id) [] (settled s.rules h).rows; pending = None }

pub flag_turn : (s : Shape) (h : Held) (rows : List Row) (i : ℕ) (name : Text) → Holds s h rows → IsKnown s flag name → has_row (drop 2 name) rows ≡ false
    → turn_passes s [] (standing h i) name ≡ true
flag_turn s h rows i name holds is none =
    ap₂ (λ a b. a && b)
    (known_passes s h flag name is
    ∙ ap₂ (λ a b. a && b) holds.passes
    (ap (use_passes s.args_override_self (flag (drop 2 name)) []) holds.are ∙ ap (λ b. (not b || s.args_override_self) && true) none))
    (ap (λ m. step_passes s i m.0 m.1) (known_met s h i flag name is))

pub flag_walk : (s : Shape) (h : Held) (i : ℕ) (name : Text) → IsKnown s flag name → walked s.rules [] (standing h i) name ≡ standing (flagged s h (drop 2 name)) i
unfolding walked
flag_walk s h i name is = ap (λ m. after_step s.rules name (standing h i) m.0 m.1) (known_met s h i flag name is)

pub flag_holds : (s : Shape) (h : Held) (rows : List Row) (id : Text) → Holds s h rows → has_row id rows ≡ false → Holds s (flagged s h id) (rows ++ row id (codes "true") ∷ [])
flag_holds s h rows id holds none = record {
  passes = refl;
  are = ap (used (flag id) []) holds.are
      ∙ ap (with_values id AsWritten CommandLine (codes "true" ∷ [])) (without_none id rows none)
      ∙ at_end id (more_values CommandLine (codes "true" ∷ [])) (row id (codes "true") ∷ []) rows none;
}
