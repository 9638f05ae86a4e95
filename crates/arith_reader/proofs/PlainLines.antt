-- Lines of gates that are read at once.
use Rattle.std.proofs.Common.{◌≡◌, Bor, ℕ, ◌+◌, ◌^◌, ◌<◌, ◌≤◌, nat_lt, false, Bool, List, [], ◌∷◌, ◌++◌, map, length, take, drop, refl, ap, sym, ◌∙◌, subst, arith, lt-ltb, add-zero}
use Rattle.std.specs.Prelude.{Ok, Result}
use Rattle.std.proofs.lemmas.List.{take-append-drop}
use Rattle.std.proofs.lemmas.List.Elements.{All-cons, All-nil}
use Rattle.zk_model.specs.Arithmetic.{Arith, is_set}
use Rattle.zk_model.specs.ArithFaults.{Behind, Judge, Place, and_then, behind as judged_behind, first_judged, name_of, next, pair_behind, read_of, row_behind, set_of}
use Rattle.zk_model.specs.declared.ReadFault.{ReadFault}
use Rattle.zk_model.specs.Bristol.{Lexeme, is_blank, lexeme, lexemes, name, number, tokens}
use Rattle.zk_model.specs.declared.ArithName.{ArithName}
use Rattle.zk_model.specs.declared.ArithName.TheVariants as gate
use Rattle.zk_model.specs.declared.ArithRow.{ArithRow}
use Rattle.packed_gates.specs.PackedRows.{HasElement}
use Rattle.text_tokens.proofs.Splitting.{left_same, tokens_blank, tokens_first}
use Rattle.text_tokens.specs.Scans.{StartsNumber}
use Rattle.text_tokens.specs.Words.{left_of, place_of}
use Rattle.arith_reader.specs.declared.lines.PairName.{PairName}
use Rattle.arith_reader.specs.declared.lines.PairName.TheVariants as pair
use Rattle.arith_reader.specs.Lines.{IsFree, IsNameAt, IsSet, StartsName, pair_row, pair_text}
use Rattle.arith_reader.specs.Rows.{GivesRow, IsWithin}
use Rattle.arith_reader.specs.Wants.{AreFlags}
use Rattle.arith_reader.proofs.SetWires.{chosen, other}

abbrev IsNoBlank : ℕ → Type 0
IsNoBlank byte = is_blank byte ≡ false

-- three letters and a space
left_name : (a b c : ℕ) (text : List ℕ) → IsNoBlank a → IsNoBlank b → IsNoBlank c → lexeme (a ∷ b ∷ c ∷ []) ≡ name (a ∷ b ∷ c ∷ [])
    → left_of (a ∷ b ∷ c ∷ 32 ∷ text) ≡ name (a ∷ b ∷ c ∷ []) ∷ left_of text
unfolding left_of
left_name a b c text one two three is =
    ap (map lexeme) (tokens_first (a ∷ b ∷ c ∷ []) (32 ∷ text) (omega arith)
    (All-cons IsNoBlank a (b ∷ c ∷ []) one (All-cons IsNoBlank b (c ∷ []) two (All-cons IsNoBlank c [] three (All-nil IsNoBlank)))) refl)
    ∙ ap (λ l. lexeme (a ∷ b ∷ c ∷ []) ∷ l) (ap (map lexeme) (tokens_blank 32 text refl)) ∙ ap (λ l. l ∷ lexemes text) is

-- what is cut off the front of a text
abbrev AreParts : List ℕ → List ℕ → List ℕ → Type 0
AreParts text front behind = (front ≡ take 4 text) × (behind ≡ drop 4 text) × (length behind + 4 ≡ length text)

-- a name and a space
starts_name : (text front behind : List ℕ) (of : PairName) → AreParts text front behind → front ≡ pair_text of ++ 32 ∷ [] → StartsName text (pair_text of) behind
starts_name text front behind of parts is = record {
  shorter = omega (arith, parts.2);
  left = ap left_of (sym (take-append-drop 4 text) ∙ (λ j. sym parts.0 j ++ sym parts.1 j) ∙ ap (λ l. l ++ behind) is) ∙ spelled of;
}
  where
    spelled : (of : PairName) → left_of ((pair_text of ++ 32 ∷ []) ++ behind) ≡ name (pair_text of) ∷ left_of behind
    spelled pair.Add = left_name 65 68 68 behind refl refl refl refl
    spelled pair.Mul = left_name 77 85 76 behind refl refl refl refl

-- a name and the letters that it is to have, as one of two that was chosen
pub chosen_name : (text front behind : List ℕ) (named choice : PairName × Bor (List ℕ)) (of : PairName) → AreParts text front behind → front ≡ named.1.now
    → named ≡ choice → choice.0 ≡ of → choice.1.now ≡ pair_text of ++ 32 ∷ [] → StartsName text (pair_text named.0) behind
chosen_name text front behind named choice of parts same is first wants =
    subst (λ (n : PairName). StartsName text (pair_text n) behind) (sym (ap (λ (q : PairName × Bor (List ℕ)). q.0) is ∙ first))
    (starts_name text front behind of parts (same ∙ ap (λ (q : PairName × Bor (List ℕ)). q.1.now) is ∙ wants))

-- at a place, where the text is, or behind blanks
pub name_at : (at : Place) (text start of behind : List ℕ) → at.left ≡ left_of text → at.taken + length text < 2 ^ 64 → tokens start ≡ tokens text → length start ≤ length text
    → StartsName start of behind → IsNameAt at of behind
name_at at text start of behind stands fits same within starts = record {
  fits = omega (arith, fits, within, starts.shorter);
  left = stands ∙ left_same text start (sym same) ∙ starts.left;
}

-- what is left behind blanks is the same
pub blanks_passed : (at after : Place) (text start : List ℕ) → at.left ≡ left_of text → after ≡ place_of start (at.taken + 0) → tokens start ≡ tokens text → after ≡ at
blanks_passed at after text start stands to same =
    to ∙ (λ i. record { left = (sym (left_same text start (sym same)) ∙ sym stands) i; taken = add-zero at.taken i })

-- ---- a gate

-- what the next token gives, by the first token of a text
next_gives : {A : Type 0} (judge : Judge A) (text behind : List ℕ) (taken : ℕ) (lexeme : Lexeme) (item : A) → left_of text ≡ lexeme ∷ left_of behind
    → judge taken lexeme ≡ Ok item → next judge (place_of text taken) ≡ Ok (record { item = item; place = place_of behind (taken + 1) })
next_gives {A} judge text behind taken lexeme item starts gives =
    ap (λ (left : List Lexeme). first_judged judge left taken) starts
    ∙ ap (λ (r : Result A ReadFault). judged_behind (place_of behind (taken + 1)) r) gives

set_gives : (flags : List Bool) (begun : Arith) (token wire : ℕ) → AreFlags flags begun → IsSet flags wire → read_of begun token (number wire) ≡ Ok wire
set_gives flags begun token wire are is =
    chosen (nat_lt wire begun.wires) _ _ (lt-ltb wire begun.wires within)
    ∙ chosen (is_set begun.inputs begun.gates wire) _ _ (sym (are.same wire within) ∙ is.1)
  where
    within : wire < begun.wires
    within = omega (arith, is.0, are.whole)

free_gives : (flags : List Bool) (begun : Arith) (token wire : ℕ) → AreFlags flags begun → IsFree flags wire → set_of begun token (number wire) ≡ Ok wire
free_gives flags begun token wire are is =
    chosen (nat_lt wire begun.wires) _ _ (lt-ltb wire begun.wires within)
    ∙ other (is_set begun.inputs begun.gates wire) _ _ (sym (are.same wire within) ∙ is.1)
  where
    within : wire < begun.wires
    within = omega (arith, is.0, are.whole)

-- two wires that a gate reads and the one that it sets, which begin a text one after another
pub record StartsWires (flags : List Bool) (text : List ℕ) (a b out : ℕ) (behind : List ℕ) : Type 0 where
  pub second : List ℕ
  pub third : List ℕ
  pub a_stands : StartsNumber text a second
  pub b_stands : StartsNumber second b third
  pub out_stands : StartsNumber third out behind
  pub a_set : IsSet flags a
  pub b_set : IsSet flags b
  pub out_free : IsFree flags out

joined : {A B : Type 0} (r : Result (Behind A) ReadFault) (more : A → Place → Result B ReadFault) (item : A) (place : Place) → r ≡ Ok (record { item = item; place = place })
    → and_then r more ≡ more item place
joined r more item place is = ap (λ s. and_then s more) is

wires_give : (flags : List Bool) (begun : Arith) (row : ℕ → ℕ → ℕ → ArithRow) (text behind : List ℕ) (taken a b out : ℕ) → AreFlags flags begun
    → StartsWires flags text a b out behind → pair_behind row begun (place_of text taken) ≡ Ok (record { item = row a b out; place = place_of behind (taken + 1 + 1 + 1) })
wires_give flags begun row text behind taken a b out are starts =
    joined (next (read_of begun) (place_of text taken))
    (λ x second. and_then (next (read_of begun) second) (λ y third. and_then (next (set_of begun) third) (λ z last. Ok (record { item = row x y z; place = last }))))
    a (place_of starts.second (taken + 1))
    (next_gives (read_of begun) text starts.second taken (number a) a starts.a_stands.left (set_gives flags begun taken a are starts.a_set))
    ∙ joined (next (read_of begun) (place_of starts.second (taken + 1)))
    (λ y third. and_then (next (set_of begun) third) (λ z last. Ok (record { item = row a y z; place = last })))
    b (place_of starts.third (taken + 1 + 1))
    (next_gives (read_of begun) starts.second starts.third (taken + 1) (number b) b starts.b_stands.left (set_gives flags begun (taken + 1) b are starts.b_set))
    ∙ joined (next (set_of begun) (place_of starts.third (taken + 1 + 1)))
    (λ z last. Ok (record { item = row a b z; place = last }))
    out (place_of behind (taken + 1 + 1 + 1))
    (next_gives (set_of begun) starts.third behind (taken + 1 + 1) (number out) out starts.out_stands.left (free_gives flags begun (taken + 1 + 1) out are starts.out_free))

-- a name as the reader has it
abbrev gate_of : PairName → ArithName
gate_of pair.Add = gate.Add
gate_of pair.Mul = gate.Mul

named : (of : PairName) (token : ℕ) → name_of token (name (pair_text of)) ≡ Ok (gate_of of)
named pair.Add token = refl
named pair.Mul token = refl

behind_named : (of : PairName) (begun : Arith) (place : Place) → row_behind begun (gate_of of) place ≡ pair_behind (pair_row of) begun place
behind_named pair.Add begun place = refl
behind_named pair.Mul begun place = refl

pub line_gives : (flags : List Bool) (before after : Place) (wires behind : List ℕ) (of : PairName) (a b out : ℕ) (row : ArithRow) → IsNameAt before (pair_text of) wires
    → StartsWires flags wires a b out behind → after ≡ place_of behind (before.taken + 4) → row ≡ pair_row of a b out
    → GivesRow flags before after row
line_gives flags before after wires behind of a b out row starts three to is = λ begun are.
    joined (next name_of before) (λ o second. row_behind begun o second) (gate_of of) (place_of wires (before.taken + 1))
    (ap (λ (left : List Lexeme). first_judged name_of left before.taken) starts.left
    ∙ ap (λ (r : Result ArithName ReadFault). judged_behind (place_of wires (before.taken + 1)) r) (named of before.taken))
    ∙ behind_named of begun (place_of wires (before.taken + 1))
    ∙ wires_give flags begun (pair_row of) wires behind (before.taken + 1) a b out are three
    ∙ (λ i. Ok (record { item = sym is i; place = (ap (place_of behind) counted ∙ sym to) i }))
  where
    counted : before.taken + 1 + 1 + 1 + 1 ≡ before.taken + 4
    counted = omega arith

pub pair_within : (wires : ℕ) (of : PairName) (a b out : ℕ) (row : ArithRow) → out < wires → row ≡ pair_row of a b out → IsWithin wires row
pair_within wires pair.Add a b out row below is = subst (λ (r : ArithRow). IsWithin wires r) (sym is) below
pair_within wires pair.Mul a b out row below is = subst (λ (r : ArithRow). IsWithin wires r) (sym is) below

pub pair_element : (of : PairName) (a b out : ℕ) (row : ArithRow) → row ≡ pair_row of a b out → HasElement row
pair_element pair.Add a b out row is = subst HasElement (sym is) tt
pair_element pair.Mul a b out row is = subst HasElement (sym is) tt
