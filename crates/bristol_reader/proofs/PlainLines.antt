-- Lines of gates that are read at once.
use Rattle.std.proofs.Common.{◌≡◌, Bor, ℕ, ◌+◌, ◌^◌, ◌≤◌, Bool, true, false, List, [], ◌∷◌, ◌++◌, map, length, take, drop, get_or, refl, ap, sym, ◌∙◌, subst, arith, length-append, length-take, append_assoc}
use Rattle.std.specs.Prelude.{codes, Result, Ok, Err, IfOk, IfErr}
use Rattle.std.proofs.lemmas.List.Elements.{All-nil, All-cons, All-from_recursion}
use Rattle.std.specs.Str.{bytes_eq}
use Rattle.std.proofs.lemmas.List.{take-append-drop}
use Rattle.std.proofs.lemmas.Slice.Eq.{bytes_eq-Decides}
use Rattle.zk_model.specs.Bristol.{Lexeme, number, name, is_blank, tokens, lexeme, lexemes, gate_lexemes}
use Rattle.bristol_reader.specs.declared.lines.PairLine.{PairLine}
use Rattle.bristol_reader.specs.declared.lines.SingleLine.{SingleLine}
use Rattle.bristol_reader.specs.declared.wants.BinaryGate.{BinaryGate}
use Rattle.bristol_reader.specs.declared.wants.UnaryGate.{UnaryGate}
use Rattle.bristol_reader.specs.declared.wants.Placed.{Placed}
use Rattle.bristol_reader.specs.declared.wants.BinaryGate.TheVariants.{And, Xor}
use Rattle.bristol_reader.specs.declared.wants.UnaryGate.TheVariants.{Inv, Eq, Eqw}
use Rattle.zk_model.specs.ArithFaults.{Place}
use Rattle.text_tokens.specs.Words.{left_of, place_of, Takes}
use Rattle.bristol_reader.specs.Wants.{IsPlaced, TakesNumber, inputs_of, pair_text, single_text}
use Rattle.text_tokens.specs.Scans.{StartsNumber}
use Rattle.bristol_reader.specs.Lines.{IsWord, StartsGate, StartsName, IsPairLine, IsSingleLine}
use Rattle.bristol_reader.specs.Gates.{FitsFlags, MayBeInput, pair_gate, single_gate, IsWrongPair, IsWrongSingle, IsGateFault, IsRead}
use Rattle.bristol_reader.proofs.GateTokens.{pair_taken, pair_wrong, single_taken, single_wrong}
use Rattle.zk_model.specs.declared.GateRow.{GateRow}
use Rattle.zk_model.specs.declared.ReadFault.{ReadFault}
use Rattle.text_tokens.proofs.Splitting.{tokens_blank, tokens_first, left_same}

-- ---- a text with the same tokens, as where blanks are skipped

pub name_after : (text start of behind : List ℕ) → tokens start ≡ tokens text → length start ≤ length text → StartsName start of behind → StartsName text of behind
name_after text start of behind same within starts = record {
  shorter = omega (arith, starts.shorter);
  left = left_same text start (sym same) ∙ starts.left;
}

pub gate_after : (text start : List ℕ) (is_pair : Bool) (behind : List ℕ) → tokens start ≡ tokens text → length start ≤ length text → StartsGate start is_pair behind → StartsGate text is_pair behind
gate_after text start is_pair behind same within starts = record {
  shorter = omega (arith, starts.shorter);
  left = left_same text start (sym same) ∙ starts.left;
}

-- ---- a gate's first two numbers

abbrev IsNoBlank : ℕ → Type 0
IsNoBlank byte = is_blank byte ≡ false

-- a digit and a space
left_digit : (byte n : ℕ) (text : List ℕ) → is_blank byte ≡ false → lexeme (byte ∷ []) ≡ number n → left_of (byte ∷ 32 ∷ text) ≡ number n ∷ left_of text
unfolding left_of
left_digit byte n text no_blank is =
    ap (map lexeme) (tokens_first (byte ∷ []) (32 ∷ text) (omega arith) (All-cons IsNoBlank byte [] no_blank (All-nil IsNoBlank)) refl)
    ∙ ap (λ l. lexeme (byte ∷ []) ∷ l) (ap (map lexeme) (tokens_blank 32 text refl)) ∙ ap (λ l. l ∷ lexemes text) is

-- what is cut off the front of a text
abbrev AreParts : List ℕ → List ℕ → List ℕ → Type 0
AreParts text line behind = (line ≡ take 4 text) × (behind ≡ drop 4 text) × (length behind + 4 ≡ length text)

-- a digit, a space, 1 and a space
pub plain_heading : (text front behind : List ℕ) (byte : ℕ) (is_pair : Bool) → AreParts text front behind → front ≡ byte ∷ 32 ∷ 49 ∷ 32 ∷ [] → is_blank byte ≡ false
    → lexeme (byte ∷ []) ≡ number (inputs_of is_pair) → StartsGate text is_pair behind
plain_heading text front behind byte is_pair parts is no_blank says = record {
  shorter = omega (arith, parts.2);
  left = ap left_of (sym (take-append-drop 4 text) ∙ (λ j. sym parts.0 j ++ sym parts.1 j) ∙ ap (λ l. l ++ behind) is)
      ∙ left_digit byte (inputs_of is_pair) (49 ∷ 32 ∷ behind) no_blank says ∙ ap (λ l. number (inputs_of is_pair) ∷ l) (left_digit 49 1 behind refl refl);
}

-- ---- names

-- a name, a blank, and a text with the same tokens as what follows
pub named : (text of rest behind : List ℕ) (blank : ℕ) → text ≡ of ++ blank ∷ rest → is_blank blank ≡ true → tokens behind ≡ tokens rest → length behind ≤ length rest
    → IsWord of → StartsName text of behind
unfolding left_of
named text of rest behind blank parts on same within word = record {
  shorter = omega (arith, ap length parts ∙ length-append of (blank ∷ rest));
  left = ap left_of parts
      ∙ ap (map lexeme) (tokens_first of (blank ∷ rest) word.some word.unbroken on ∙ ap (λ l. of ∷ l) (tokens_blank blank rest on ∙ sym same))
      ∙ ap (λ l. l ∷ lexemes behind) word.is_name;
}

-- a text that begins with these bytes
same_bytes : (xs ys : List ℕ) → bytes_eq xs ys ≡ true → xs ≡ ys
same_bytes xs ys same = (bytes_eq-Decides xs ys).0 same

pub begins : (text of rest : List ℕ) → bytes_eq (take (length of) text) of ≡ true → rest ≡ drop (length of) text → text ≡ of ++ rest
begins text of rest same is = sym (take-append-drop (length of) text) ∙ (λ j. same_bytes (take (length of) text) of same j ++ sym is j)

-- a name and a line feed
starts_name : (text line behind of : List ℕ) → AreParts text line behind → line ≡ of ++ 10 ∷ [] → IsWord of → StartsName text of behind
starts_name text line behind of parts same word =
    named text of behind behind 10
    (sym (take-append-drop 4 text) ∙ (λ j. sym parts.0 j ++ sym parts.1 j) ∙ ap (λ l. l ++ behind) same ∙ append_assoc of (10 ∷ []) behind)
    refl refl (omega arith) word

-- a gate's name and the line that it is to be, as one of a pair that was chosen
starts_gate : {G : Type 0} (spell : G → List ℕ) → ((gate : G) → IsWord (spell gate)) → (text line behind : List ℕ) (named chosen : G × Bor (List ℕ)) (gate : G)
    → AreParts text line behind → line ≡ named.1.now → named ≡ chosen → chosen.0 ≡ gate → chosen.1.now ≡ spell gate ++ 10 ∷ []
    → StartsName text (spell named.0) behind
starts_gate {G} spell word text line behind named chosen gate parts same is first wants =
    subst (λ (g : G). StartsName text (spell g) behind) (sym (ap (λ (q : G × Bor (List ℕ)). q.0) is ∙ first))
    (starts_name text line behind (spell gate) parts (same ∙ ap (λ (q : G × Bor (List ℕ)). q.1.now) is ∙ wants)
    (word gate))

-- four bytes, of which the last is one byte and may be another
record AreFour (l : List ℕ) : Type 0 where
  last : l ≡ take 3 l ++ get_or l 3 0 ∷ []
  front : take 3 (take 3 l ++ 10 ∷ []) ≡ take 3 l

four : (l : List ℕ) → length l ≡ 4 → AreFour l
four [] long = absurd (omega arith)
four (a ∷ []) long = absurd (omega arith)
four (a ∷ b ∷ []) long = absurd (omega arith)
four (a ∷ b ∷ c ∷ []) long = absurd (omega arith)
four (a ∷ b ∷ c ∷ d ∷ []) long = record { last = refl; front = refl }
four (a ∷ b ∷ c ∷ d ∷ e ∷ l) long = absurd (omega arith)

-- the same where the line ends by another blank, and more may follow
blank_gate : {G : Type 0} (spell : G → List ℕ) → ((gate : G) → IsWord (spell gate)) → (text line behind after : List ℕ) (chosen other : G × Bor (List ℕ)) (gate : G)
    → AreParts text line behind → take 3 line ++ 10 ∷ [] ≡ chosen.1.now → chosen ≡ other → other.0 ≡ gate → other.1.now ≡ spell gate ++ 10 ∷ []
    → take 3 (spell gate ++ 10 ∷ []) ≡ spell gate → is_blank (get_or line 3 0) ≡ true → tokens after ≡ tokens behind → length after ≤ length behind
    → StartsName text (spell chosen.0) after
blank_gate {G} spell word text line behind after chosen other gate parts same is first wants three blank kept within =
    let bytes = four line (omega (arith, ap length parts.0 ∙ length-take 4 text, parts.2)) in
    let letters : take 3 line ≡ spell gate = sym bytes.front ∙ ap (take 3) (same ∙ ap (λ (q : G × Bor (List ℕ)). q.1.now) is ∙ wants) ∙ three in
    let byte : ℕ = get_or line 3 0 in
    subst (λ (g : G). StartsName text (spell g) after) (sym (ap (λ (q : G × Bor (List ℕ)). q.0) is ∙ first))
    (named text (spell gate) behind after byte
    (sym (take-append-drop 4 text) ∙ (λ j. sym parts.0 j ++ sym parts.1 j) ∙ ap (λ l. l ++ behind) (bytes.last ∙ ap (λ l. l ++ byte ∷ []) letters) ∙ append_assoc (spell gate) (byte ∷ []) behind)
    blank kept within (word gate))

pub pair_word : (pair : BinaryGate) → IsWord (pair_text pair)
pair_word And = record { some = omega arith; unbroken = All-from_recursion (λ byte. is_blank byte ≡ false) (codes "AND") (refl, (refl, (refl, tt))); is_name = refl }
pair_word Xor = record { some = omega arith; unbroken = All-from_recursion (λ byte. is_blank byte ≡ false) (codes "XOR") (refl, (refl, (refl, tt))); is_name = refl }

pub single_word : (single : UnaryGate) → IsWord (single_text single)
single_word Inv = record { some = omega arith; unbroken = All-from_recursion (λ byte. is_blank byte ≡ false) (codes "INV") (refl, (refl, (refl, tt))); is_name = refl }
single_word Eq = record { some = omega arith; unbroken = All-from_recursion (λ byte. is_blank byte ≡ false) (codes "EQ") (refl, (refl, tt)); is_name = refl }
single_word Eqw = record { some = omega arith; unbroken = All-from_recursion (λ byte. is_blank byte ≡ false) (codes "EQW") (refl, (refl, (refl, tt))); is_name = refl }

pub starts_pair : (text line behind : List ℕ) (named chosen : BinaryGate × Bor (List ℕ)) (gate : BinaryGate) → AreParts text line behind
    → line ≡ named.1.now → named ≡ chosen → chosen.0 ≡ gate → chosen.1.now ≡ pair_text gate ++ 10 ∷ []
    → StartsName text (pair_text named.0) behind
starts_pair = starts_gate pair_text pair_word

pub starts_single : (text line behind : List ℕ) (named chosen : UnaryGate × Bor (List ℕ)) (gate : UnaryGate) → AreParts text line behind
    → line ≡ named.1.now → named ≡ chosen → chosen.0 ≡ gate → chosen.1.now ≡ single_text gate ++ 10 ∷ []
    → StartsName text (single_text named.0) behind
starts_single = starts_gate single_text single_word

pub blank_pair : (text line behind after : List ℕ) (chosen other : BinaryGate × Bor (List ℕ)) (gate : BinaryGate) → AreParts text line behind → take 3 line ++ 10 ∷ [] ≡ chosen.1.now
    → chosen ≡ other → other.0 ≡ gate → other.1.now ≡ pair_text gate ++ 10 ∷ [] → take 3 (pair_text gate ++ 10 ∷ []) ≡ pair_text gate → is_blank (get_or line 3 0) ≡ true
    → tokens after ≡ tokens behind → length after ≤ length behind → StartsName text (pair_text chosen.0) after
blank_pair = blank_gate pair_text pair_word

pub blank_single : (text line behind after : List ℕ) (chosen other : UnaryGate × Bor (List ℕ)) (gate : UnaryGate) → AreParts text line behind → take 3 line ++ 10 ∷ [] ≡ chosen.1.now
    → chosen ≡ other → other.0 ≡ gate → other.1.now ≡ single_text gate ++ 10 ∷ [] → take 3 (single_text gate ++ 10 ∷ []) ≡ single_text gate → is_blank (get_or line 3 0) ≡ true
    → tokens after ≡ tokens behind → length after ≤ length behind → StartsName text (single_text chosen.0) after
blank_single = blank_gate single_text single_word

-- ---- lines

-- the tokens of a text, one after another
pub pair_line : (text1 text2 text3 text4 text5 : List ℕ) (taken : ℕ) (before after : Place) (line : PairLine) → taken ≡ before.taken → after ≡ place_of text5 (taken + 6)
    → before.left ≡ number 2 ∷ number 1 ∷ left_of text1 → StartsNumber text1 line.a.number text2 → StartsNumber text2 line.b.number text3 → StartsNumber text3 line.out.number text4
    → StartsName text4 (pair_text line.name) text5 → line.a.token ≡ taken + 2 → line.b.token ≡ taken + 3 → line.out.token ≡ taken + 4
    → IsPairLine before after line
pair_line text1 text2 text3 text4 text5 taken before after line at end begins a b out named at_a at_b at_out = record {
  takes = record {
    left = begins ∙ ap (λ l. number 2 ∷ number 1 ∷ l)
        (a.left ∙ ap (λ l. number line.a.number ∷ l) (b.left ∙ ap (λ l. number line.b.number ∷ l) (out.left ∙ ap (λ l. number line.out.number ∷ l) (named.left ∙ ap (λ (p : Place). name (pair_text line.name) ∷ p.left) (sym end)))));
    taken = ap (λ (p : Place). p.taken) end ∙ ap (λ n. n + 6) at;
  };
  a = placed line.a text1 text2 2 a at_a;
  b = placed line.b text2 text3 3 b at_b;
  out = placed line.out text3 text4 4 out at_out;
}
  where
    placed : (it : Placed) (text behind : List ℕ) (k : ℕ) → StartsNumber text it.number behind → it.token ≡ taken + k → IsPlaced it it.number (before.taken + k)
    placed it text behind k starts token = record { number_is = omega (arith, starts.small); token_is = token ∙ ap (λ n. n + k) at }

pub single_line : (text1 text2 text3 text4 : List ℕ) (taken : ℕ) (before after : Place) (line : SingleLine) → taken ≡ before.taken → after ≡ place_of text4 (taken + 5)
    → before.left ≡ number 1 ∷ number 1 ∷ left_of text1 → StartsNumber text1 line.input.number text2 → StartsNumber text2 line.out.number text3
    → StartsName text3 (single_text line.name) text4 → line.input.token ≡ taken + 2 → line.out.token ≡ taken + 3
    → IsSingleLine before after line
single_line text1 text2 text3 text4 taken before after line at end begins input out named at_input at_out = record {
  takes = record {
    left = begins ∙ ap (λ l. number 1 ∷ number 1 ∷ l)
        (input.left ∙ ap (λ l. number line.input.number ∷ l) (out.left ∙ ap (λ l. number line.out.number ∷ l) (named.left ∙ ap (λ (p : Place). name (single_text line.name) ∷ p.left) (sym end))));
    taken = ap (λ (p : Place). p.taken) end ∙ ap (λ n. n + 5) at;
  };
  input = placed line.input text1 text2 2 input at_input;
  out = placed line.out text2 text3 3 out at_out;
}
  where
    placed : (it : Placed) (text behind : List ℕ) (k : ℕ) → StartsNumber text it.number behind → it.token ≡ taken + k → IsPlaced it it.number (before.taken + k)
    placed it text behind k starts token = record { number_is = omega (arith, starts.small); token_is = token ∙ ap (λ n. n + k) at }

-- ---- gates

-- three numbers, one after another
record TakesThree (p0 p1 p2 p3 : Place) (a b c : Placed) : Type 0 where
  one : TakesNumber p0 p1 a
  two : TakesNumber p1 p2 b
  three : TakesNumber p2 p3 c

-- the places between the tokens of a line
record ArePairPlaces (before after : Place) (line : PairLine) : Type 0 where
  p0 : Place
  p1 : Place
  p2 : Place
  p3 : Place
  begins : Takes (number 2 ∷ number 1 ∷ []) before p0
  three : TakesThree p0 p1 p2 p3 line.a line.b line.out
  named : Takes (name (pair_text line.name) ∷ []) p3 after

pair_places : (before after : Place) (line : PairLine) → IsPairLine before after line → ArePairPlaces before after line
pair_places before after line is =
    let l3 : List Lexeme = name (pair_text line.name) ∷ after.left in
    let l2 : List Lexeme = number line.out.number ∷ l3 in
    let l1 : List Lexeme = number line.b.number ∷ l2 in
    record {
      p0 = record { left = number line.a.number ∷ l1; taken = before.taken + 2 };
      p1 = record { left = l1; taken = before.taken + 3 };
      p2 = record { left = l2; taken = before.taken + 4 };
      p3 = record { left = l3; taken = before.taken + 5 };
      begins = record { left = is.takes.left; taken = refl };
      three = record {
        one = record { exact = line.a.number; is = is.a; takes = record { left = refl; taken = omega arith } };
        two = record { exact = line.b.number; is = is.b; takes = record { left = refl; taken = omega arith } };
        three = record { exact = line.out.number; is = is.out; takes = record { left = refl; taken = omega arith } };
      };
      named = record { left = refl; taken = omega (arith, is.takes.taken) };
    }

-- the tokens of a line are those of its gate
pair_line_taken : (flags : List Bool) (before after : Place) (line : PairLine) (gate : GateRow) → length flags ≤ 2 ^ 24 → IsPairLine before after line
    → gate ≡ pair_gate line.name line.a.number line.b.number line.out.number → FitsFlags flags gate → Takes (gate_lexemes gate) before after
pair_line_taken flags before after line gate few is row fits =
    let at = pair_places before after line is in
    pair_taken flags at.p0 at.p1 at.p2 at.p3 after line.a line.b line.out line.name gate few at.three.one at.three.two at.three.three at.named row fits before at.begins

-- its wires are wrong
pair_line_wrong : (flags : List Bool) (before after : Place) (line : PairLine) (fault : ReadFault) → IsPairLine before after line
    → IsWrongPair flags line.name line.a line.b line.out fault → IsGateFault flags before fault
pair_line_wrong flags before after line fault is wrong =
    let at = pair_places before after line is in
    pair_wrong flags at.p0 at.p1 at.p2 at.p3 after line.a line.b line.out line.name fault at.three.one at.three.two at.three.three at.named wrong before at.begins

-- what was read of such a line
pub pair_read : (flags : List Bool) (before after : Place) (line : PairLine) (read : Result GateRow ReadFault) → length flags ≤ 2 ^ 24 → IsPairLine before after line
    → IfOk read (λ gate. gate ≡ pair_gate line.name line.a.number line.b.number line.out.number) → IfOk read (FitsFlags flags) → IfErr read (IsWrongPair flags line.name line.a line.b line.out)
    → IsRead flags before after read
pair_read flags before after line (Ok gate) few is row fits wrong = (pair_line_taken flags before after line gate few is row fits, fits)
pair_read flags before after line (Err fault) few is row fits wrong = pair_line_wrong flags before after line fault is wrong

-- the same of a gate with one input
record AreSinglePlaces (before after : Place) (line : SingleLine) : Type 0 where
  p0 : Place
  p1 : Place
  p2 : Place
  begins : Takes (number 1 ∷ number 1 ∷ []) before p0
  one : TakesNumber p0 p1 line.input
  two : TakesNumber p1 p2 line.out
  named : Takes (name (single_text line.name) ∷ []) p2 after

single_places : (before after : Place) (line : SingleLine) → IsSingleLine before after line → AreSinglePlaces before after line
single_places before after line is =
    let l2 : List Lexeme = name (single_text line.name) ∷ after.left in
    let l1 : List Lexeme = number line.out.number ∷ l2 in
    record {
      p0 = record { left = number line.input.number ∷ l1; taken = before.taken + 2 };
      p1 = record { left = l1; taken = before.taken + 3 };
      p2 = record { left = l2; taken = before.taken + 4 };
      begins = record { left = is.takes.left; taken = refl };
      one = record { exact = line.input.number; is = is.input; takes = record { left = refl; taken = omega arith } };
      two = record { exact = line.out.number; is = is.out; takes = record { left = refl; taken = omega arith } };
      named = record { left = refl; taken = omega (arith, is.takes.taken) };
    }

single_line_taken : (flags : List Bool) (before after : Place) (line : SingleLine) (gate : GateRow) → length flags ≤ 2 ^ 24 → IsSingleLine before after line
    → MayBeInput flags line.name line.input → gate ≡ single_gate line.name line.input.number line.out.number → FitsFlags flags gate → Takes (gate_lexemes gate) before after
single_line_taken flags before after line gate few is may row fits =
    let at = single_places before after line is in
    single_taken flags at.p0 at.p1 at.p2 after line.input line.out line.name gate few at.one at.two at.named may row fits before at.begins

single_line_wrong : (flags : List Bool) (before after : Place) (line : SingleLine) (fault : ReadFault) → IsSingleLine before after line
    → IsWrongSingle flags line.name line.input line.out fault → IsGateFault flags before fault
single_line_wrong flags before after line fault is wrong =
    let at = single_places before after line is in
    single_wrong flags at.p0 at.p1 at.p2 after line.input line.out line.name fault at.one at.two at.named wrong before at.begins

pub single_read : (flags : List Bool) (before after : Place) (line : SingleLine) (read : Result GateRow ReadFault) → length flags ≤ 2 ^ 24 → IsSingleLine before after line
    → IfOk read (λ gate. gate ≡ single_gate line.name line.input.number line.out.number) → IfOk read (λ _. MayBeInput flags line.name line.input) → IfOk read (FitsFlags flags)
    → IfErr read (IsWrongSingle flags line.name line.input line.out) → IsRead flags before after read
single_read flags before after line (Ok gate) few is row may fits wrong = (single_line_taken flags before after line gate few is may row fits, fits)
single_read flags before after line (Err fault) few is row may fits wrong = single_line_wrong flags before after line fault is wrong
