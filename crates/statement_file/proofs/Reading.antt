-- A text that is read to some line.
use Rattle.std.proofs.Common.{◌≡◌, ◌<◌, ◌≤◌, ◌+◌, ◌++◌, ℕ, zero, suc, Bool, true, false, List, [], ◌∷◌, None, Some, length, length-append, map, take, get_or, refl, sym, ap, ◌∙◌, subst, arith, append_assoc, append-nil}
use Rattle.std.specs.Prelude.{is_none, position}
use Rattle.std.specs.List.{position_or_len}
use Rattle.std.proofs.lemmas.Bool.Decides.{nat_tests}
use Rattle.std.proofs.Math.Seq.{get_or-append_seam, take-append_seam}
use Rattle.std.proofs.lemmas.List.{get_or_append_left, length-map, map-append, take_all}
use Rattle.std.proofs.lemmas.List.Sums.{position_or_len_is}
use Rattle.std.proofs.lemmas.Grind.{common_steps}
use Rattle.zk_model.specs.declared.limits.TheConstants.{MAX_STATEMENTS}
use Rattle.statement_file.specs.Claims.{NamedClaim, NamesClaims, claim_of_line, first_bad, lines_of}

-- these lines were read, each naming a claim, and the claims of the first of them are kept; the others are still to be read
pub record Reads (text rest : List ℕ) (count : ℕ) (kept : List NamedClaim) : Type 0 where
  pub lines : List (List ℕ)
  pub claims : List NamedClaim
  pub whole : lines_of text ≡ lines ++ lines_of rest
  pub named : map claim_of_line lines ≡ map Some claims
  pub counted : length lines ≡ count
  pub fits : count + length rest ≤ length text
  pub kept_are : kept ≡ take MAX_STATEMENTS claims

-- ---- lists

take_push : (n : ℕ) (claims : List NamedClaim) (claim : NamedClaim) → take n (take n claims ++ claim ∷ []) ≡ take n (claims ++ claim ∷ [])
take_push n claims claim = grind (arith, common_steps)

length-take_le : (claims : List NamedClaim) (n : ℕ) → length (take n claims) ≤ n
length-take_le claims n = grind (arith, common_steps)

abbrev is_bad : List ℕ → Bool
is_bad line = is_none (claim_of_line line)

-- none of lines that name claims is bad
none_bad : (lines : List (List ℕ)) (claims : List NamedClaim) → map claim_of_line lines ≡ map Some claims → (k : ℕ) (d : List ℕ) → k < length lines
    → is_none (claim_of_line (get_or lines k d)) ≡ false
none_bad [] claims named k d within = absurd (omega (arith, within))
none_bad (line ∷ lines) [] named k d within = cc
none_bad (line ∷ lines) (claim ∷ claims) named zero d within =
    let is : claim_of_line line ≡ Some claim = cc in ap is_none is
none_bad (line ∷ lines) (claim ∷ claims) named (suc k) d within =
    none_bad lines claims (cc) k d (omega (arith, within))

pub begins : (text : List ℕ) → Reads text text 0 []
begins text = record {
  lines = [];
  claims = [];
  whole = refl;
  named = refl;
  counted = refl;
  fits = omega arith;
  kept_are = refl;
}

map_push : (lines : List (List ℕ)) (claims : List NamedClaim) (line : List ℕ) (claim : NamedClaim) → map claim_of_line lines ≡ map Some claims
    → Some claim ≡ claim_of_line line → map claim_of_line (lines ++ line ∷ []) ≡ map Some (claims ++ claim ∷ [])
map_push lines claims line claim named is =
    map-append claim_of_line lines (line ∷ []) ∙ ap (λ front. front ++ claim_of_line line ∷ []) named ∙ ap (λ last. map Some claims ++ last ∷ []) (sym is)
    ∙ sym (map-append (λ (c : NamedClaim). Some c) claims (claim ∷ []))

-- one line more
step : (text rest line behind : List ℕ) (count : ℕ) (kept more : List NamedClaim) (claim : NamedClaim) (before : Reads text rest count kept)
    → lines_of rest ≡ line ∷ lines_of behind → length behind < length rest → Some claim ≡ claim_of_line line
    → more ≡ take MAX_STATEMENTS (before.claims ++ claim ∷ []) → Reads text behind (count + 1) more
step text rest line behind count kept more claim before split shorter is more_are = record {
  lines = before.lines ++ line ∷ [];
  claims = before.claims ++ claim ∷ [];
  whole = before.whole ∙ ap (λ (l : List (List ℕ)). before.lines ++ l) split ∙ sym (append_assoc before.lines (line ∷ []) (lines_of behind));
  named = map_push before.lines before.claims line claim before.named is;
  counted = length-append before.lines (line ∷ []) ∙ ap (λ (n : ℕ). n + 1) before.counted;
  fits = let fits = before.fits in omega (arith, fits, shorter);
  kept_are = more_are;
}

-- which is kept, where there is room
pub step_kept : (text rest line behind : List ℕ) (count : ℕ) (kept more : List NamedClaim) (claim : NamedClaim) → Reads text rest count kept
    → lines_of rest ≡ line ∷ lines_of behind → length behind < length rest → Some claim ≡ claim_of_line line
    → more ≡ take MAX_STATEMENTS (kept ++ claim ∷ []) → Reads text behind (count + 1) more
step_kept text rest line behind count kept more claim before split shorter is more_are =
    step text rest line behind count kept more claim before split shorter is
    (more_are ∙ ap (λ k. take MAX_STATEMENTS (k ++ claim ∷ [])) before.kept_are ∙ take_push MAX_STATEMENTS before.claims claim)

pub kept_few : (text rest : List ℕ) (count : ℕ) (kept : List NamedClaim) → Reads text rest count kept → length kept ≤ MAX_STATEMENTS
kept_few text rest count kept is = subst (λ (k : List NamedClaim). length k ≤ MAX_STATEMENTS) (sym is.kept_are) (length-take_le is.claims MAX_STATEMENTS)

-- ---- the end

-- where nothing is left, all lines are read
pub all_read : (text rest : List ℕ) (count : ℕ) (kept : List NamedClaim) (is : Reads text rest count kept) → length rest ≡ 0
    → lines_of text ≡ is.lines
all_read text [] count kept is none = is.whole ∙ append-nil is.lines
all_read text (c ∷ rest) count kept is none = absurd (omega (arith, none))

first_is : (p : List ℕ → Bool) (lines : List (List ℕ)) (k : ℕ) → k < length lines → position_or_len p lines ≡ k → position p lines ≡ Some k
first_is p lines k within same = grind (arith, nat_tests, within, same)

none_is : (p : List ℕ → Bool) (lines : List (List ℕ)) → position_or_len p lines ≡ length lines → position p lines ≡ None
none_is p lines same = grind (arith, nat_tests, same)

-- a line that names no claim is the first bad one
pub bad_line : (text rest line behind : List ℕ) (count : ℕ) (kept : List NamedClaim) → Reads text rest count kept → lines_of rest ≡ line ∷ lines_of behind
    → None ≡ claim_of_line line → first_bad text ≡ Some count
bad_line text rest line behind count kept is split none =
    let whole : lines_of text ≡ is.lines ++ line ∷ lines_of behind = is.whole ∙ ap (λ (l : List (List ℕ)). is.lines ++ l) split in
    let counted = is.counted in
    let size = length-append is.lines (line ∷ lines_of behind) in
    let within : count < length (is.lines ++ line ∷ lines_of behind) = omega (arith, counted, size) in
    let before : (k : ℕ) → k < count → is_bad (get_or (is.lines ++ line ∷ lines_of behind) k []) ≡ false =
    λ k low. ap is_bad (get_or_append_left is.lines (line ∷ lines_of behind) [] k (omega (arith, low, counted)))
    ∙ none_bad is.lines is.claims is.named k [] (omega (arith, low, counted)) in
    let at : is_bad (get_or (is.lines ++ line ∷ lines_of behind) count []) ≡ true =
    subst (λ (n : ℕ). is_bad (get_or (is.lines ++ line ∷ lines_of behind) n []) ≡ true) counted
    (ap is_bad (get_or-append_seam is.lines line (lines_of behind) []) ∙ ap is_none (sym none)) in
    subst (λ (lines : List (List ℕ)). position is_bad lines ≡ Some count) (sym whole)
    (first_is is_bad (is.lines ++ line ∷ lines_of behind) count within
    (position_or_len_is is_bad (is.lines ++ line ∷ lines_of behind) count [] (omega (arith, within)) before (λ _. at)))

-- no line of those that name claims is bad
pub none_first : (lines : List (List ℕ)) (claims : List NamedClaim) → map claim_of_line lines ≡ map Some claims → position is_bad lines ≡ None
none_first lines claims named =
    none_is is_bad lines (position_or_len_is is_bad lines (length lines) [] (omega arith)
    (λ k low. none_bad lines claims named k [] low) (λ within. absurd (omega (arith, within))))

pub good_lines : (text rest : List ℕ) (count : ℕ) (kept : List NamedClaim) → Reads text rest count kept → length rest ≡ 0
    → first_bad text ≡ None
good_lines text rest count kept is none =
    subst (λ (lines : List (List ℕ)). position is_bad lines ≡ None) (sym (all_read text rest count kept is none))
    (none_first is.lines is.claims is.named)

-- what is kept, where 1 to 256 lines were read
pub all_kept : (text rest : List ℕ) (count : ℕ) (kept : List NamedClaim) → Reads text rest count kept → length rest ≡ 0 → 1 ≤ count → count ≤ MAX_STATEMENTS
    → NamesClaims text kept
all_kept text rest count kept is none some few =
    let counted = is.counted in
    let same : length is.lines ≡ length is.claims = sym (length-map is.lines claim_of_line) ∙ ap length is.named ∙ length-map is.claims (λ (c : NamedClaim). Some c) in
    let whole : kept ≡ is.claims = is.kept_are ∙ take_all MAX_STATEMENTS is.claims (omega (arith, same, counted, few)) in
    subst (λ (k : List NamedClaim). NamesClaims text k) (sym whole) (record {
      named = ap (map claim_of_line) (all_read text rest count kept is none) ∙ is.named;
      some = omega (arith, same, counted, some);
      few = omega (arith, same, counted, few);
    })

-- ---- claims that are kept

pub room_left : (claims : List NamedClaim) (claim : NamedClaim) → length claims < MAX_STATEMENTS
    → claims ++ claim ∷ [] ≡ take MAX_STATEMENTS (claims ++ claim ∷ [])
room_left claims claim few =
    sym (take_all MAX_STATEMENTS (claims ++ claim ∷ []) (omega (arith, few, length-append claims (claim ∷ []))))

pub no_room : (claims : List NamedClaim) (claim : NamedClaim) → length claims ≤ MAX_STATEMENTS → MAX_STATEMENTS ≤ length claims
    → claims ≡ take MAX_STATEMENTS (claims ++ claim ∷ [])
no_room claims claim few many =
    let same : length claims ≡ MAX_STATEMENTS = omega (arith, few, many) in
    sym (subst (λ (n : ℕ). take n (claims ++ claim ∷ []) ≡ claims) same (take-append_seam claims (claim ∷ [])))
