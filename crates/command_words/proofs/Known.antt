-- The rows of the table, as clap knows them.
use Rattle.std.proofs.Common.{◌≡◌, ◌∙◌, ◌+◌, ◌<◌, ℕ, List, [], ◌∷◌, ◌++◌, Bool, true, false, not, ◌&&◌, ◌||◌, drop, get_or, length, map, Some, None, Option, refl, ap, sym, subst, arith, true≢false, nat_lt, ltb-true}
use Rattle.std.specs.List.{list_all}
use Rattle.std.specs.Str.{bytes_eq}
use Rattle.clap.specs.Lexer.{long_of}
use Rattle.clap.specs.Walk.{Row as FoundRow, Rule, Text, arg_by_id, arg_by_index, arg_by_long, is_empty}
use Rattle.clap.specs.Faults.{is_simple_and_free}
use Rattle.clap.specs.Takes.{default_passes, is_valid}
use Rattle.clap.specs.Simple.{Shape, built, is_simple}
use Rattle.command_words.specs.Arguments.{Flag, Valued, WordKind, is_flag, is_valued, kind_of}
use Rattle.command_words.specs.Found.{told}
use Rattle.command_words.specs.Rows.{Row, ids_of, row_of}
use Rattle.command_words.specs.Words.{name_of, names_of}
use Rattle.command_words.specs.declared.table.Name.{Name}
use Rattle.command_words.specs.declared.table.Name.TheVariants.{Rehearse, RehearseArith, RehearsePoly, Eval, Deal, Serve, ServeMany, ServeArith, ServePoly, Prove, ProveArith, ProvePoly, Audit, AuditArith, Migrate, Status, Node, Broker, ServeNode}
use Rattle.command_words.proofs.Rows.{same_text}
use Rattle.command_words.proofs.Steps.{flag, place, valued}
use Rattle.command_words.proofs.Walks.{KnowsName, KnowsNames, KnowsPlaces, are_apart, is_among, is_apart}
use Rattle.command_words.proofs.Taking.{IsForm}
use Rattle.command_words.proofs.Writing.{AreNames, KindsFit}

-- ---- places

abbrev Found : Type 0
Found = Option Rule × Option Rule

abbrev places_found : Shape → ℕ → List Text → List Found
places_found s i [] = []
places_found s i (id ∷ ids) = (arg_by_index s.rules i, arg_by_id s.rules id) ∷ places_found s (i + 1) ids

abbrev places_wanted : ℕ → List Text → List Found
places_wanted i [] = []
places_wanted i (id ∷ ids) = (Some (place i id), Some (place i id)) ∷ places_wanted (i + 1) ids

knows_places : (s : Shape) (i : ℕ) (ids : List Text) → places_found s i ids ≡ places_wanted i ids → KnowsPlaces s i ids
knows_places s i [] are = tt
knows_places s i (id ∷ ids) are =
    let first : ◌≡◌ {A = Found} (arg_by_index s.rules i, arg_by_id s.rules id) (Some (place i id), Some (place i id)) = ap (λ xs. get_or xs 0 (None, None)) are in
    (ap (λ p. p.0) first, ap (λ p. p.1) first, knows_places s (i + 1) ids (ap (drop 1) are))

-- ---- options

-- what clap knows of an option, what kind of word it is, and whether no place has its id
record Seen : Type 0 where
  long : Option (Text × Option Text)
  dashes : Bool
  by_long : Option Rule
  by_id : Option Rule
  kind : WordKind
  flagged : Bool
  apart : Bool

abbrev seen : Shape → List Text → Text → Seen
seen s places id = record {
  long = long_of (name_of id);
  dashes = bytes_eq (name_of id) (45 ∷ 45 ∷ []);
  by_long = arg_by_long s.rules id;
  by_id = arg_by_id s.rules id;
  kind = kind_of (name_of id);
  flagged = is_flag (name_of id);
  apart = is_apart id places;
}

abbrev wanted : (Text → Rule) → WordKind → Bool → Text → Seen
wanted rule kind flagged id = record {
  long = Some (id, None);
  dashes = false;
  by_long = Some (rule id);
  by_id = Some (rule id);
  kind = kind;
  flagged = flagged;
  apart = true;
}

knows_valued : (s : Shape) (places : List Text) (id : Text) → seen s places id ≡ wanted valued Valued false id → KnowsName s places (name_of id)
knows_valued s places id is = record {
  dashed = refl;
  if_valued = λ _. (record { long = ap (λ x. x.long) is; dashes = ap (λ x. x.dashes) is; by_long = ap (λ x. x.by_long) is; by_id = ap (λ x. x.by_id) is }, ap (λ x. x.flagged) is);
  if_flag = λ e. let other : Valued ≡ Flag = sym (ap (λ x. x.kind) is) ∙ e in absurd (cc);
  apart = ap (λ x. x.apart) is;
}

knows_flag : (s : Shape) (places : List Text) (id : Text) → seen s places id ≡ wanted flag Flag true id → KnowsName s places (name_of id)
knows_flag s places id is = record {
  dashed = refl;
  if_valued = λ e. let other : Flag ≡ Valued = sym (ap (λ x. x.kind) is) ∙ e in absurd (cc);
  if_flag = λ _. (record { long = ap (λ x. x.long) is; dashes = ap (λ x. x.dashes) is; by_long = ap (λ x. x.by_long) is; by_id = ap (λ x. x.by_id) is }, ap (λ x. x.flagged) is);
  apart = ap (λ x. x.apart) is;
}

-- what is so of each option's name
record OfName (s : Shape) (places : List Text) (name : Text) : Type 0 where
  knows : KnowsName s places name
  fits : kind_of name ≡ (Rattle.std.specs.Prelude.if◌then◌else◌ (is_flag name) Flag Valued)

abbrev Each : Shape → List Text → List Text → Type 0
Each s places [] = Unit {0}
Each s places (id ∷ ids) = OfName s places (name_of id) × Each s places ids

each_seen : (s : Shape) (places : List Text) (want : Text → Seen) (ids rest : List Text) → ((id : Text) → seen s places id ≡ want id → OfName s places (name_of id)) → map (seen s places) ids ≡ map want ids
    → Each s places rest → Each s places (ids ++ rest)
each_seen s places want [] rest one are more = more
each_seen s places want (id ∷ ids) rest one are more = (one id (ap (λ xs. get_or xs 0 (want id)) are), each_seen s places want ids rest one (ap (drop 1) are) more)

knows_names : (s : Shape) (places ids : List Text) → Each s places ids → KnowsNames s places (map name_of ids)
knows_names s places [] each = λ name among. absurd (true≢false (sym among))
knows_names s places (id ∷ ids) each = λ name among. go name (bytes_eq (name_of id) name) refl among (knows_names s places ids each.1 name)
  where
    go : (name : Text) (b : Bool) → bytes_eq (name_of id) name ≡ b → (b || is_among (map name_of ids) name) ≡ true → (is_among (map name_of ids) name ≡ true → KnowsName s places name) → KnowsName s places name
    go name true e is later = subst (KnowsName s places) (same_text (name_of id) name e) each.0.knows
    go name false e is later = later is

kinds_fit : (s : Shape) (places ids : List Text) → Each s places ids → KindsFit (map name_of ids)
kinds_fit s places [] each = tt
kinds_fit s places (id ∷ ids) each = (each.0.fits, kinds_fit s places ids each.1)

-- ---- rows

-- what clap knows of a row, and of the names of its options
pub record IsKnown (row : Row) : Type 0 where
  pub form : IsForm (told row) (ids_of row.places) (names_of row) (ids_of row.options) row.flags
  pub flags_named : list_all (λ id. is_among (names_of row) (name_of id) && is_flag (name_of id)) row.flags ≡ true
  pub names : AreNames (names_of row) (ids_of row.options)

-- the rules of these places, of which the first has this number
abbrev placed : ℕ → List Text → List Rule
placed n [] = []
placed n (id ∷ ids) = place n id ∷ placed (n + 1) ids

-- a row is known by what is computed of it
known_row : (row : Row) → is_simple (told row) ≡ true → is_simple_and_free (told row) ≡ true → (built (told row)).subs ≡ [] → (told row).top.no_binary_name ≡ false
    → (built (told row)).top.rules ≡ (placed 1 (ids_of row.places) ++ map valued (ids_of row.options)) ++ map flag row.flags
    → list_all (λ r. is_empty r.defaults) (placed 1 (ids_of row.places) ++ map valued (ids_of row.options)) ≡ true
    → list_all default_passes (built (told row)).top.rules ≡ true → ((rows : List FoundRow) → is_valid (built (told row)).top rows false ≡ true)
    → places_found (built (told row)).top 1 (ids_of row.places) ≡ places_wanted 1 (ids_of row.places) → are_apart (ids_of row.places) ≡ true → nat_lt (length (ids_of row.places)) 90 ≡ true
    → map (seen (built (told row)).top (ids_of row.places)) (ids_of row.options) ≡ map (wanted valued Valued false) (ids_of row.options)
    → map (seen (built (told row)).top (ids_of row.places)) row.flags ≡ map (wanted flag Flag true) row.flags
    → list_all (λ id. is_apart id row.flags) (ids_of row.places) ≡ true → list_all (λ name. is_flag name || is_apart (drop 2 name) row.flags) (names_of row) ≡ true
    → list_all (λ id. is_among (names_of row) (name_of id) && not (is_flag (name_of id))) (ids_of row.options) ≡ true
    → list_all (λ id. is_among (names_of row) (name_of id) && is_flag (name_of id)) row.flags ≡ true → are_apart (names_of row) ≡ true
    → list_all (λ name. is_flag name || is_among (ids_of row.options) (drop 2 name)) (names_of row) ≡ true → IsKnown row
known_row row simple free alone named_first rules no_defaults defaults valid places apart few options flags flags_apart valued_apart valued_named flags_named names_apart covered =
    let s = (built (told row)).top in
    let ids = ids_of row.places in
    let last : Each s ids (row.flags ++ []) = each_seen s ids (wanted flag Flag true) row.flags [] (λ id is. record {
      knows = knows_flag s ids id is;
      fits = ap (λ x. x.kind) is ∙ sym (ap (λ b. Rattle.std.specs.Prelude.if◌then◌else◌ b Flag Valued) (ap (λ x. x.flagged) is));
    }) flags tt in
    let each : Each s ids (ids_of row.options ++ row.flags) = each_seen s ids (wanted valued Valued false) (ids_of row.options) row.flags (λ id is. record {
      knows = knows_valued s ids id is;
      fits = ap (λ x. x.kind) is ∙ sym (ap (λ b. Rattle.std.specs.Prelude.if◌then◌else◌ b Flag Valued) (ap (λ x. x.flagged) is));
    }) options (subst (Each s ids) (Rattle.std.proofs.Common.append-nil row.flags) last) in
    record {
      form = record {
        simple = simple;
        free = free;
        alone = alone;
        named_first = named_first;
        fixed = placed 1 ids ++ map valued (ids_of row.options);
        rules = rules;
        no_defaults = no_defaults;
        defaults = defaults;
        valid = valid;
        knows = record { in_places = knows_places s 1 ids places; apart = apart; few = ltb-true _ _ few; by_name = knows_names s ids (ids_of row.options ++ row.flags) each };
        flags_apart = flags_apart;
        valued_apart = valued_apart;
        valued_named = valued_named;
      };
      flags_named = flags_named;
      names = record { kinds = kinds_fit s ids (ids_of row.options ++ row.flags) each; apart = names_apart; covered = covered };
    }

-- each row is known
pub known_of : (name : Name) → IsKnown (row_of name)
unfolding is_valued is_flag
known_of Rehearse = known_row (row_of Rehearse) refl refl refl refl refl refl refl (λ rows. refl) refl refl refl refl refl refl refl refl refl refl refl
known_of RehearseArith = known_row (row_of RehearseArith) refl refl refl refl refl refl refl (λ rows. refl) refl refl refl refl refl refl refl refl refl refl refl
known_of RehearsePoly = known_row (row_of RehearsePoly) refl refl refl refl refl refl refl (λ rows. refl) refl refl refl refl refl refl refl refl refl refl refl
known_of Eval = known_row (row_of Eval) refl refl refl refl refl refl refl (λ rows. refl) refl refl refl refl refl refl refl refl refl refl refl
known_of Deal = known_row (row_of Deal) refl refl refl refl refl refl refl (λ rows. refl) refl refl refl refl refl refl refl refl refl refl refl
known_of Serve = known_row (row_of Serve) refl refl refl refl refl refl refl (λ rows. refl) refl refl refl refl refl refl refl refl refl refl refl
known_of ServeMany = known_row (row_of ServeMany) refl refl refl refl refl refl refl (λ rows. refl) refl refl refl refl refl refl refl refl refl refl refl
known_of ServeArith = known_row (row_of ServeArith) refl refl refl refl refl refl refl (λ rows. refl) refl refl refl refl refl refl refl refl refl refl refl
known_of ServePoly = known_row (row_of ServePoly) refl refl refl refl refl refl refl (λ rows. refl) refl refl refl refl refl refl refl refl refl refl refl
known_of Prove = known_row (row_of Prove) refl refl refl refl refl refl refl (λ rows. refl) refl refl refl refl refl refl refl refl refl refl refl
known_of ProveArith = known_row (row_of ProveArith) refl refl refl refl refl refl refl (λ rows. refl) refl refl refl refl refl refl refl refl refl refl refl
known_of ProvePoly = known_row (row_of ProvePoly) refl refl refl refl refl refl refl (λ rows. refl) refl refl refl refl refl refl refl refl refl refl refl
known_of Audit = known_row (row_of Audit) refl refl refl refl refl refl refl (λ rows. refl) refl refl refl refl refl refl refl refl refl refl refl
known_of AuditArith = known_row (row_of AuditArith) refl refl refl refl refl refl refl (λ rows. refl) refl refl refl refl refl refl refl refl refl refl refl
known_of Migrate = known_row (row_of Migrate) refl refl refl refl refl refl refl (λ rows. refl) refl refl refl refl refl refl refl refl refl refl refl
known_of Status = known_row (row_of Status) refl refl refl refl refl refl refl (λ rows. refl) refl refl refl refl refl refl refl refl refl refl refl
known_of Node = known_row (row_of Node) refl refl refl refl refl refl refl (λ rows. refl) refl refl refl refl refl refl refl refl refl refl refl
known_of Broker = known_row (row_of Broker) refl refl refl refl refl refl refl (λ rows. refl) refl refl refl refl refl refl refl refl refl refl refl
known_of ServeNode = known_row (row_of ServeNode) refl refl refl refl refl refl refl (λ rows. refl) refl refl refl refl refl refl refl refl refl refl refl
