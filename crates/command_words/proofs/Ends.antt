-- Where clap's walk over a command's words ends.
use Rattle.std.proofs.Common.{◌≡◌, ◌∙◌, ◌+◌, ◌<◌, ◌≤◌, ℕ, List, [], ◌∷◌, ◌++◌, true, false, ◌&&◌, drop, length, Some, None, refl, ap, ap₂, sym, subst, codes, arith, if◌then◌else◌, append_assoc, append-nil}
use Rattle.std.specs.List.{fold}
use Rattle.std.specs.Str.{bytes_eq}
use Rattle.clap.specs.Walk.{Held, Row, Text, first_of, has_row, walked}
use Rattle.clap.specs.Simple.{Shape}
use Rattle.clap.specs.Takes.{walk_passes}
use Rattle.clap.proofs.WalkLemmas.{both}
use Rattle.clap.proofs.SimpleLemmas.{is_false}
use Rattle.command_words.specs.Arguments.{begins_with_dash, is_flag, Word}
use Rattle.command_words.specs.Orders.{StandsAmong, nothing as no_words, place as in_place, valued as with_value, flag as by_itself}
use Rattle.command_words.specs.Words.{stand_once_among}
use Rattle.command_words.specs.Found.{flag_value, places_in, value_at, with_place}
use Rattle.command_words.proofs.Rows.{first_here, places_same, row, still_none}
use Rattle.command_words.proofs.Steps.{Holds, IsKnown, flag, flag_holds, flag_turn, flag_walk, flagged, holding, holds_more, name_turn, name_walk, place_turn, place_walk, standing, valued, value_turn, value_walk, waiting_for}
use Rattle.command_words.proofs.Walks.{AreNew, AreNewNames, Ends, KnowsNames, KnowsPlaces, apart_later, are_apart, are_still_new, first_new, is_among, kind_plain, named_more, no_places, once_first, other_way, still_new_names, value_later, value_none}

-- what is so where a walk begins
pub record Begins (s : Shape) (names : List Text) (h : Held) (i : ℕ) (rows : List Row) (ids positional : List Text) (options : List Word) : Type 0 where
  pub holds : Holds s h rows
  pub in_places : KnowsPlaces s i ids
  pub apart : are_apart ids ≡ true
  pub few : i + length ids < 100
  pub enough : length positional ≤ length ids
  pub by_name : KnowsNames s ids names
  pub once : stand_once_among names options ≡ true
  pub new : AreNew rows ids
  pub new_names : AreNewNames names rows options

fewer_names : (s : Shape) (id : Text) (ids names : List Text) → KnowsNames s (id ∷ ids) names → KnowsNames s ids names
fewer_names s id ids names known = λ name among.
    let k = known name among in
    record { dashed = k.dashed; if_valued = k.if_valued; if_flag = k.if_flag; apart = (both _ _ k.apart).1 }

-- a place is none of the options
not_named : (s : Shape) (id : Text) (ids names : List Text) → KnowsNames s (id ∷ ids) names → (name : Text) → is_among names name ≡ true → bytes_eq id (drop 2 name) ≡ false
not_named s id ids names known name among =
    other_way (drop 2 name) id (is_false _ (both _ _ (known name among).apart).0)

end_here : (s : Shape) (names : List Text) (h : Held) (i : ℕ) (rows : List Row) (ids : List Text) → Begins s names h i rows ids [] [] → Ends s names h i rows ids [] [] []
unfolding walk_passes
end_here s names h i rows ids b = record {
  end = h;
  at = i;
  more = [];
  passes = refl;
  walk = refl;
  holds = subst (Holds s h) (sym (append-nil rows)) b.holds;
  in_places = no_places ids;
  named = λ name _. value_none (is_flag name);
}

-- after a word in its place
begins_place : (s : Shape) (names : List Text) (h : Held) (i : ℕ) (rows : List Row) (id : Text) (ids : List Text) (word : Text) (positional : List Text) (options : List Word)
    → Begins s names h i rows (id ∷ ids) (word ∷ positional) options → Begins s names (holding s h id word) (i + 1) (rows ++ row id word ∷ []) ids positional options
begins_place s names h i rows id ids word positional options b =
    let knows = b.in_places in
    let fresh = b.new in
    let far = b.few in
    let long = b.enough in
    record {
      holds = holds_more s h rows (Some i) None id word b.holds knows.1 fresh.0;
      in_places = knows.2;
      apart = (both _ _ b.apart).1;
      few = omega arith;
      enough = omega arith;
      by_name = fewer_names s id ids names b.by_name;
      once = b.once;
      new = are_still_new rows (row id word) ids fresh.1 (both _ _ b.apart).0;
      new_names = λ name among is. still_none (drop 2 name) rows (row id word) (b.new_names name among is) (not_named s id ids names b.by_name name among);
    }

end_place : (s : Shape) (names : List Text) (h : Held) (i : ℕ) (rows : List Row) (id : Text) (ids : List Text) (word : Text) (words positional : List Text) (options : List Word)
    → begins_with_dash word ≡ false → Begins s names h i rows (id ∷ ids) (word ∷ positional) options
    → Ends s names (holding s h id word) (i + 1) (rows ++ row id word ∷ []) ids words positional options → Ends s names h i rows (id ∷ ids) (word ∷ words) (word ∷ positional) options
unfolding walk_passes
end_place s names h i rows id ids word words positional options plain b e =
    let knows = b.in_places in
    let far = b.few in
    let small : i < 100 = omega arith in
    let step = place_walk s h i id word knows.0 plain small in
    record {
      end = e.end;
      at = e.at;
      more = row id word ∷ e.more;
      passes = ap₂ (λ x y. x && y) (place_turn s h rows i id word b.holds knows.0 plain) (ap (λ w. walk_passes s [] w words) step ∙ e.passes);
      walk = ap (λ w. fold (walked s.rules []) w words) step ∙ e.walk;
      holds = subst (Holds s e.end) (append_assoc rows (row id word ∷ []) e.more) e.holds;
      in_places = ap (λ o. with_place o (places_in (λ q. first_of q (row id word ∷ e.more)) ids)) (first_here id word e.more)
          ∙ ap (λ ws. word ∷ ws) (places_same _ _ ids (apart_later (row id word) e.more ids (both _ _ b.apart).0) ∙ e.in_places);
      named = λ name among. e.named name among ∙ sym (value_later (row id word) e.more name (not_named s id ids names b.by_name name among));
    }

-- after an option with its value
begins_option : (s : Shape) (names : List Text) (h next : Held) (i : ℕ) (rows : List Row) (ids : List Text) (name value shown : Text) (positional : List Text) (options : List Word)
    → Begins s names h i rows ids positional ((name, value) ∷ options) → Holds s next (rows ++ row (drop 2 name) shown ∷ [])
    → Begins s names next i (rows ++ row (drop 2 name) shown ∷ []) ids positional options
begins_option s names h next i rows ids name value shown positional options b holds =
    let once = once_first names name value options b.once in
    record {
      holds = holds;
      in_places = b.in_places;
      apart = b.apart;
      few = b.few;
      enough = b.enough;
      by_name = b.by_name;
      once = once.rest;
      new = are_still_new rows (row (drop 2 name) shown) ids b.new (b.by_name name once.among).apart;
      new_names = still_new_names names rows name value shown options (λ n is. (b.by_name n is).dashed) once.among once.gone b.new_names;
    }

end_option : (s : Shape) (names : List Text) (h next : Held) (i : ℕ) (rows : List Row) (ids : List Text) (name value shown : Text) (before words positional : List Text) (options : List Word)
    → Begins s names h i rows ids positional ((name, value) ∷ options)
    → ((more : List Row) → value_at (λ q. first_of q (row (drop 2 name) shown ∷ more)) name ≡ Some value)
    → (walk_passes s [] (standing next i) words ≡ true → walk_passes s [] (standing h i) (before ++ words) ≡ true)
    → fold (walked s.rules []) (standing h i) (before ++ words) ≡ fold (walked s.rules []) (standing next i) words
    → Ends s names next i (rows ++ row (drop 2 name) shown ∷ []) ids words positional options → Ends s names h i rows ids (before ++ words) positional ((name, value) ∷ options)
end_option s names h next i rows ids name value shown before words positional options b shows passes step e =
    let once = once_first names name value options b.once in
    let known = b.by_name name once.among in
    record {
      end = e.end;
      at = e.at;
      more = row (drop 2 name) shown ∷ e.more;
      passes = passes e.passes;
      walk = step ∙ e.walk;
      holds = subst (Holds s e.end) (append_assoc rows (row (drop 2 name) shown ∷ []) e.more) e.holds;
      in_places = places_same _ _ ids (apart_later (row (drop 2 name) shown) e.more ids known.apart) ∙ e.in_places;
      named = λ other among. named_more name other value shown options e.more known.dashed (b.by_name other among).dashed (shows e.more) (e.named other among);
    }

value_shows : (name value : Text) (more : List Row) → is_flag name ≡ false → value_at (λ q. first_of q (row (drop 2 name) value ∷ more)) name ≡ Some value
value_shows name value more isnt =
    ap (λ o. if is_flag name then flag_value o else o) (first_here (drop 2 name) value more) ∙ ap (λ b. if b then flag_value (Some value) else Some value) isnt

flag_shows : (name : Text) (more : List Row) → is_flag name ≡ true → value_at (λ q. first_of q (row (drop 2 name) (codes "true") ∷ more)) name ≡ Some []
flag_shows name more is =
    ap (λ o. if is_flag name then flag_value o else o) (first_here (drop 2 name) (codes "true") more) ∙ ap (λ b. if b then flag_value (Some (codes "true")) else Some (codes "true")) is

value_passes_on : (s : Shape) (h : Held) (rows : List Row) (i : ℕ) (name value : Text) (words : List Text) → Holds s h rows → IsKnown s valued name → begins_with_dash value ≡ false
    → walk_passes s [] (standing (holding s h (drop 2 name) value) i) words ≡ true → walk_passes s [] (standing h i) (name ∷ value ∷ words) ≡ true
unfolding walk_passes
value_passes_on s h rows i name value words holds known plain rest =
    let behind : walk_passes s [] (waiting_for s h i (drop 2 name)) (value ∷ words) ≡ true =
    ap₂ (λ x y. x && y) (value_turn s h i (drop 2 name) value known.by_id plain) (ap (λ w. walk_passes s [] w words) (value_walk s h i (drop 2 name) value known.by_id plain) ∙ rest) in
    ap₂ (λ x y. x && y) (name_turn s h rows i name holds known) (ap (λ w. walk_passes s [] w (value ∷ words)) (name_walk s h i name known) ∙ behind)

value_step : (s : Shape) (h : Held) (i : ℕ) (name value : Text) (words : List Text) → IsKnown s valued name → begins_with_dash value ≡ false
    → fold (walked s.rules []) (standing h i) (name ∷ value ∷ words) ≡ fold (walked s.rules []) (standing (holding s h (drop 2 name) value) i) words
value_step s h i name value words known plain =
    ap (λ w. fold (walked s.rules []) (walked s.rules [] w value) words) (name_walk s h i name known)
    ∙ ap (λ w. fold (walked s.rules []) w words) (value_walk s h i (drop 2 name) value known.by_id plain)

flag_passes_on : (s : Shape) (h : Held) (rows : List Row) (i : ℕ) (name : Text) (words : List Text) → Holds s h rows → IsKnown s flag name → has_row (drop 2 name) rows ≡ false
    → walk_passes s [] (standing (flagged s h (drop 2 name)) i) words ≡ true → walk_passes s [] (standing h i) (name ∷ words) ≡ true
unfolding walk_passes
flag_passes_on s h rows i name words holds known new rest =
    ap₂ (λ x y. x && y) (flag_turn s h rows i name holds known new) (ap (λ w. walk_passes s [] w words) (flag_walk s h i name known) ∙ rest)

-- the walk ends with what the words say
pub ends : {words positional : List Text} {options : List Word} → StandsAmong words positional options → (s : Shape) (names : List Text) (h : Held) (i : ℕ) (rows : List Row) (ids : List Text)
    → Begins s names h i rows ids positional options → Ends s names h i rows ids words positional options
ends no_words s names h i rows ids b = end_here s names h i rows ids b
ends (in_place {word} {words} {positional} {options} kind rest) s names h i rows [] b = let short = b.enough in absurd (omega arith)
ends (in_place {word} {words} {positional} {options} kind rest) s names h i rows (id ∷ ids) b =
    end_place s names h i rows id ids word words positional options (kind_plain word kind) b
    (ends rest s names (holding s h id word) (i + 1) (rows ++ row id word ∷ []) ids (begins_place s names h i rows id ids word positional options b))
ends (with_value {word} {value} {words} {positional} {options} kind plain rest) s names h i rows ids b =
    let once = once_first names word value options b.once in
    let known = (b.by_name word once.among).if_valued kind in
    let new = first_new names rows word value options once.among b.new_names in
    let holds = holds_more s h rows None (Some (drop 2 word)) (drop 2 word) value b.holds known.0.by_id new in
    end_option s names h (holding s h (drop 2 word) value) i rows ids word value value (word ∷ value ∷ []) words positional options b
    (λ more. value_shows word value more known.1)
    (value_passes_on s h rows i word value words b.holds known.0 plain)
    (value_step s h i word value words known.0 plain)
    (ends rest s names (holding s h (drop 2 word) value) i (rows ++ row (drop 2 word) value ∷ []) ids (begins_option s names h _ i rows ids word value value positional options b holds))
ends (by_itself {word} {words} {positional} {options} kind rest) s names h i rows ids b =
    let once = once_first names word [] options b.once in
    let known = (b.by_name word once.among).if_flag kind in
    let new = first_new names rows word [] options once.among b.new_names in
    let holds = flag_holds s h rows (drop 2 word) b.holds new in
    end_option s names h (flagged s h (drop 2 word)) i rows ids word [] (codes "true") (word ∷ []) words positional options b
    (λ more. flag_shows word more known.1)
    (flag_passes_on s h rows i word words b.holds known.0 new)
    (ap (λ w. fold (walked s.rules []) w words) (flag_walk s h i word known.0))
    (ends rest s names (flagged s h (drop 2 word)) i (rows ++ row (drop 2 word) (codes "true") ∷ []) ids (begins_option s names h _ i rows ids word [] (codes "true") positional options b holds))
