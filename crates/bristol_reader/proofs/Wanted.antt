-- The next token, and what is wanted of it.
use Rattle.std.proofs.Common.{◌≡◌, ℕ, ◌+◌, ◌<◌, Bool, true, false, Some, None, List, [], ◌∷◌, min, refl, ap, sym, ◌∙◌, subst, arith, add-zero}
use Rattle.std.specs.Prelude.{codes, if◌then◌else◌, ◌||◌, nat_le}
use Rattle.std.specs.Str.{bytes_eq}
use Rattle.std.proofs.lemmas.Bool.{lt-leb}
use Rattle.std.proofs.lemmas.Slice.Eq.{bytes_eq-Decides}
use Rattle.zk_model.specs.Bristol.{Lexeme, number, name, tokens}
use Rattle.bristol_reader.specs.TextFaults.{Want, a_count, a_size, a_wire, a_name, input_number, output_number, no_token, first_lexeme_fault, lexeme_fault, name_fault, number_fault, is_name_of_two, is_name_of_one}
use Rattle.zk_model.specs.declared.ReadFault.{ReadFault}
use Rattle.zk_model.specs.declared.ReadFault.TheVariants.{BadNumber, BadGate, TooLarge, WireRange, ExtraText}
use Rattle.bristol_reader.specs.declared.tokens.GateName.{GateName}
use Rattle.bristol_reader.specs.declared.tokens.GateName.TheVariants.{And, Xor, Inv, Eq, Eqw, Other}
use Rattle.bristol_reader.specs.declared.tokens.Word.{Word}
use Rattle.bristol_reader.specs.declared.tokens.Word.TheVariants.{Number, Name}
use Rattle.bristol_reader.specs.declared.wants.BinaryGate.{BinaryGate}
use Rattle.bristol_reader.specs.declared.wants.BinaryGate.TheVariants as pair
use Rattle.bristol_reader.specs.declared.wants.UnaryGate.{UnaryGate}
use Rattle.bristol_reader.specs.declared.wants.UnaryGate.TheVariants as single
use Rattle.bristol_reader.specs.declared.wants.Placed.{Placed}
use Rattle.zk_model.specs.ArithFaults.{Place}
use Rattle.text_tokens.specs.Words as token
use Rattle.text_tokens.specs.Words.{left_of, place_of, Takes}
use Rattle.text_tokens.proofs.Splitting.{left_same}
use Rattle.bristol_reader.specs.Words.{greatest, name_of, word_of, TakesWord}
use Rattle.bristol_reader.specs.Wants.{next_fault, TakesNumber, pair_of, single_of, pair_text, single_text}

-- ---- what a word says

-- a text has this name
abbrev IsNamed : GateName → List ℕ → Type 0
IsNamed And text = text ≡ codes "AND"
IsNamed Xor text = text ≡ codes "XOR"
IsNamed Inv text = text ≡ codes "INV"
IsNamed Eq text = text ≡ codes "EQ"
IsNamed Eqw text = text ≡ codes "EQW"
IsNamed Other text = (is_name_of_two text ≡ false) × (is_name_of_one text ≡ false)

named : (text : List ℕ) → IsNamed (name_of text) text
unfolding name_of
named text = picked (bytes_eq text (codes "AND")) (bytes_eq text (codes "XOR")) (bytes_eq text (codes "INV")) (bytes_eq text (codes "EQ")) (bytes_eq text (codes "EQW")) refl refl refl refl refl
  where
    is : (other : List ℕ) → bytes_eq text other ≡ true → text ≡ other
    is other on = (bytes_eq-Decides text other).0 on

    picked : (a b c d e : Bool) → bytes_eq text (codes "AND") ≡ a → bytes_eq text (codes "XOR") ≡ b → bytes_eq text (codes "INV") ≡ c → bytes_eq text (codes "EQ") ≡ d → bytes_eq text (codes "EQW") ≡ e
        → IsNamed (if a then And else if b then Xor else if c then Inv else if d then Eq else if e then Eqw else Other) text
    picked true b c d e p q r s t = is (codes "AND") p
    picked false true c d e p q r s t = is (codes "XOR") q
    picked false false true d e p q r s t = is (codes "INV") r
    picked false false false true e p q r s t = is (codes "EQ") s
    picked false false false false true p q r s t = is (codes "EQW") t
    picked false false false false false p q r s t = ((λ i. p i || q i), (λ i. r i || s i || t i))

number_word : (n : ℕ) → word_of (number n) ≡ Number (min n greatest)
unfolding word_of
number_word n = refl

name_word : (text : List ℕ) → word_of (name text) ≡ Name (name_of text)
unfolding word_of
name_word text = refl

-- a lexeme whose word is a number
pub said_number : (lexeme : Lexeme) (n : ℕ) → Number n ≡ word_of lexeme → (exact : ℕ) × (lexeme ≡ number exact) × (n ≡ min exact greatest)
said_number (number exact) n is = let same : Number n ≡ Number (min exact greatest) = is ∙ number_word exact in (exact, refl, cc)
said_number (name text) n is = let same : Number n ≡ Name (name_of text) = is ∙ name_word text in absurd cc

said_name : (lexeme : Lexeme) (n : GateName) → Name n ≡ word_of lexeme → (text : List ℕ) × (lexeme ≡ name text) × IsNamed n text
said_name (number exact) n is = let same : Name n ≡ Number (min exact greatest) = is ∙ number_word exact in absurd cc
said_name (name text) n is =
    let same : Name n ≡ Name (name_of text) = is ∙ name_word text in
    let names : n ≡ name_of text = cc in
    (text, refl, subst (λ (m : GateName). IsNamed m text) (sym names) (named text))

-- ---- the word of a token

pub name_taken : (before after : Place) (text : List ℕ) (n : GateName) → n ≡ name_of text → Takes (name text ∷ []) before after → TakesWord before after (Name n)
name_taken before after text n is takes = record { lexeme = name text; word_is = ap Name is ∙ sym (name_word text); takes = takes }

pub number_taken : (before after : Place) (n shown : ℕ) → shown ≡ min n greatest → token.TakesNumber before after n → TakesWord before after (Number shown)
number_taken before after n shown is takes = record {
  lexeme = number takes.exact;
  word_is = ap Number (lesser takes.exact takes.shown_is) ∙ sym (number_word takes.exact);
  takes = takes.takes;
}
  where
    lesser : (exact : ℕ) → n ≡ min exact token.greatest → shown ≡ min exact greatest
    lesser exact same = omega (arith, is, same)

-- blanks that are skipped behind it
pub blanks_behind : (after : Place) (rest behind : List ℕ) → after.left ≡ left_of rest → tokens behind ≡ tokens rest → place_of behind (after.taken + 0) ≡ after
blanks_behind after rest behind left kept = λ i. record { left = (left_same behind rest kept ∙ sym left) i; taken = add-zero after.taken i }

-- ---- the fault of a word

-- the fault of the first token after a place
next_is : (want : Want) (before : Place) (lexeme : Lexeme) (behind : List Lexeme) (token : ℕ) (fault : ReadFault) → before.left ≡ lexeme ∷ behind → token ≡ before.taken
    → lexeme_fault want lexeme token ≡ Some fault → next_fault want before ≡ Some fault
next_is want before lexeme behind token fault left taken is =
    (λ i. first_lexeme_fault want (left i) (sym taken i)) ∙ is

pub no_number : (before after : Place) (word : Word) (n : GateName) (token : ℕ) → word ≡ Name n → token ≡ before.taken → TakesWord before after word
    → next_fault a_wire before ≡ Some (BadNumber token)
no_number before after word n token is taken takes =
    let said = said_name takes.lexeme n (sym is ∙ takes.word_is) in
    next_is a_wire before takes.lexeme after.left token (BadNumber token) takes.takes.left taken (ap (λ l. lexeme_fault a_wire l token) said.1)

pub takes_number : (before after : Place) (word : Word) (n token : ℕ) → word ≡ Number n → token ≡ before.taken → TakesWord before after word
    → TakesNumber before after (record { number = n; token = token })
takes_number before after word n token is taken takes =
    let said = said_number takes.lexeme n (sym is ∙ takes.word_is) in
    record {
      exact = said.0;
      is = record { number_is = said.2; token_is = taken };
      takes = subst (λ (l : Lexeme). Takes (l ∷ []) before after) said.1 takes.takes;
    }

-- ---- names

named_text : (n : GateName) (text : List ℕ) → IsNamed n text → (p : BinaryGate) → pair_of (Name n) ≡ Some p → text ≡ pair_text p
named_text And text is pair.And same = is
named_text And text is pair.Xor same = cc
named_text Xor text is pair.And same = cc
named_text Xor text is pair.Xor same = is
named_text Inv text is p same = cc
named_text Eq text is p same = cc
named_text Eqw text is p same = cc
named_text Other text is p same = cc

named_single : (n : GateName) (text : List ℕ) → IsNamed n text → (p : UnaryGate) → single_of (Name n) ≡ Some p → text ≡ single_text p
named_single And text is p same = cc
named_single Xor text is p same = cc
named_single Inv text is single.Inv same = is
named_single Inv text is single.Eq same = cc
named_single Inv text is single.Eqw same = cc
named_single Eq text is single.Inv same = cc
named_single Eq text is single.Eq same = is
named_single Eq text is single.Eqw same = cc
named_single Eqw text is single.Inv same = cc
named_single Eqw text is single.Eq same = cc
named_single Eqw text is single.Eqw same = is
named_single Other text is p same = cc

no_pair_name : (n : GateName) (text : List ℕ) → IsNamed n text → pair_of (Name n) ≡ None → is_name_of_two text ≡ false
no_pair_name And text is none = cc
no_pair_name Xor text is none = cc
no_pair_name Inv text is none = ap is_name_of_two is
no_pair_name Eq text is none = ap is_name_of_two is
no_pair_name Eqw text is none = ap is_name_of_two is
no_pair_name Other text is none = is.0

no_single_name : (n : GateName) (text : List ℕ) → IsNamed n text → single_of (Name n) ≡ None → is_name_of_one text ≡ false
no_single_name And text is none = ap is_name_of_one is
no_single_name Xor text is none = ap is_name_of_one is
no_single_name Inv text is none = cc
no_single_name Eq text is none = cc
no_single_name Eqw text is none = cc
no_single_name Other text is none = is.1

pub takes_pair : (before after : Place) (word : Word) (p : BinaryGate) → Some p ≡ pair_of word → TakesWord before after word → Takes (name (pair_text p) ∷ []) before after
takes_pair before after (Number n) p is takes = let same : Some p ≡ None = is in absurd cc
takes_pair before after (Name n) p is takes =
    let said = said_name takes.lexeme n takes.word_is in
    subst (λ (l : Lexeme). Takes (l ∷ []) before after) (said.1 ∙ ap name (named_text n said.0 said.2 p (sym is))) takes.takes

pub takes_single : (before after : Place) (word : Word) (p : UnaryGate) → Some p ≡ single_of word → TakesWord before after word → Takes (name (single_text p) ∷ []) before after
takes_single before after (Number n) p is takes = let same : Some p ≡ None = is in absurd cc
takes_single before after (Name n) p is takes =
    let said = said_name takes.lexeme n takes.word_is in
    subst (λ (l : Lexeme). Takes (l ∷ []) before after) (said.1 ∙ ap name (named_single n said.0 said.2 p (sym is))) takes.takes

-- a word that names no gate of so many inputs
bad_name : (inputs : ℕ) (before after : Place) (word : Word) (token : ℕ) → token ≡ before.taken → TakesWord before after word
    → ((n : GateName) (text : List ℕ) → word ≡ Name n → IsNamed n text → name_fault (a_name inputs) text token ≡ Some (BadGate token))
    → next_fault (a_name inputs) before ≡ Some (BadGate token)
bad_name inputs before after (Number n) token taken takes wrong =
    let said = said_number takes.lexeme n takes.word_is in
    next_is (a_name inputs) before takes.lexeme after.left token (BadGate token) takes.takes.left taken (ap (λ l. lexeme_fault (a_name inputs) l token) said.1)
bad_name inputs before after (Name n) token taken takes wrong =
    let said = said_name takes.lexeme n takes.word_is in
    next_is (a_name inputs) before takes.lexeme after.left token (BadGate token) takes.takes.left taken
    (ap (λ l. lexeme_fault (a_name inputs) l token) said.1 ∙ wrong n said.0 refl said.2)

pub no_pair : (before after : Place) (word : Word) (token : ℕ) → token ≡ before.taken → None ≡ pair_of word → TakesWord before after word → next_fault (a_name 2) before ≡ Some (BadGate token)
no_pair before after word token taken none takes = bad_name 2 before after word token taken takes
    (λ n text is named. ap (λ b. if b then None else Some (BadGate token)) (no_pair_name n text named (ap pair_of (sym is) ∙ sym none)))

pub no_single : (before after : Place) (word : Word) (token : ℕ) → token ≡ before.taken → None ≡ single_of word → TakesWord before after word → next_fault (a_name 1) before ≡ Some (BadGate token)
no_single before after word token taken none takes = bad_name 1 before after word token taken takes
    (λ n text is named. ap (λ b. if b then None else Some (BadGate token)) (no_single_name n text named (ap single_of (sym is) ∙ sym none)))

-- ---- the end

pub more_text : (before after : Place) (word : Word) (token : ℕ) → token ≡ before.taken → TakesWord before after word → next_fault no_token before ≡ Some (ExtraText token)
more_text before after word token taken takes =
    next_is no_token before takes.lexeme after.left token (ExtraText token) takes.takes.left taken (any takes.lexeme)
  where
    any : (lexeme : Lexeme) → lexeme_fault no_token lexeme token ≡ Some (ExtraText token)
    any (number n) = refl
    any (name text) = refl

-- ---- numbers

-- wants of which a name and the text's end are the same faults as of a wire
abbrev IsOfNumber : Want → Type 0
IsOfNumber want = ((token : ℕ) → first_lexeme_fault want [] token ≡ first_lexeme_fault a_wire [] token)
    × ((text : List ℕ) (token : ℕ) → name_fault want text token ≡ name_fault a_wire text token)

same_fault : (want : Want) → IsOfNumber want → (before : Place) (fault : ReadFault) → next_fault a_wire before ≡ Some fault → next_fault want before ≡ Some fault
same_fault want of before fault is = at before.left is
  where
    at : (left : List Lexeme) → first_lexeme_fault a_wire left before.taken ≡ Some fault → first_lexeme_fault want left before.taken ≡ Some fault
    at [] is = of.0 before.taken ∙ is
    at (number n ∷ left) is = let same : None ≡ Some fault = is in absurd cc
    at (name text ∷ left) is = of.1 text before.taken ∙ is

pub count_fault : (limit : ℕ) (before : Place) (fault : ReadFault) → next_fault a_wire before ≡ Some fault → next_fault (a_count limit) before ≡ Some fault
count_fault limit = same_fault (a_count limit) ((λ token. refl), (λ text token. refl))

pub size_fault : (left : ℕ) (before : Place) (fault : ReadFault) → next_fault a_wire before ≡ Some fault → next_fault (a_size left) before ≡ Some fault
size_fault left = same_fault (a_size left) ((λ token. refl), (λ text token. refl))

pub input_fault : (before : Place) (fault : ReadFault) → next_fault a_wire before ≡ Some fault → next_fault input_number before ≡ Some fault
input_fault = same_fault input_number ((λ token. refl), (λ text token. refl))

pub output_fault : (before : Place) (fault : ReadFault) → next_fault a_wire before ≡ Some fault → next_fault output_number before ≡ Some fault
output_fault = same_fault output_number ((λ token. refl), (λ text token. refl))

-- a number below the greatest is exact
pub exact_number : (before after : Place) (placed : Placed) (n : ℕ) → placed.number ≡ n → n < greatest → TakesNumber before after placed → Takes (number n ∷ []) before after
exact_number before after placed n is small takes =
    subst (λ (k : ℕ). Takes (number k ∷ []) before after) (exact takes.exact (sym is ∙ takes.is.number_is)) takes.takes
  where
    exact : (k : ℕ) → n ≡ min k greatest → k ≡ n
    exact k same = omega arith

-- a number that is not what is wanted
wrong_number : (want : Want) (before after : Place) (placed : Placed) (fault : ReadFault) → TakesNumber before after placed
    → ((exact : ℕ) → placed.number ≡ min exact greatest → number_fault want exact placed.token ≡ Some fault) → next_fault want before ≡ Some fault
wrong_number want before after placed fault takes wrong =
    next_is want before (number takes.exact) after.left placed.token fault takes.takes.left takes.is.token_is (wrong takes.exact takes.is.number_is)

-- a test that fails
failed : (b : Bool) (fault : ReadFault) → b ≡ false → (if b then None else Some fault) ≡ Some fault
failed true fault off = absurd cc
failed false fault off = refl

pub large_count : (limit : ℕ) (before after : Place) (placed : Placed) → limit < placed.number → TakesNumber before after placed → next_fault (a_count limit) before ≡ Some (TooLarge placed.token)
large_count limit before after placed above takes =
    wrong_number (a_count limit) before after placed (TooLarge placed.token) takes (λ exact is. failed (nat_le exact limit) (TooLarge placed.token) (lt-leb exact limit (omega arith)))

pub large_size : (left : ℕ) (before after : Place) (placed : Placed) → left < placed.number → TakesNumber before after placed → next_fault (a_size left) before ≡ Some (WireRange placed.token)
large_size left before after placed above takes =
    wrong_number (a_size left) before after placed (WireRange placed.token) takes (λ exact is. failed (nat_le exact left) (WireRange placed.token) (lt-leb exact left (omega arith)))
