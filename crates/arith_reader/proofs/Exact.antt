-- Texts that are judged to say a circuit say it, and the other way round.
use Rattle.std.proofs.Common.{◌≡◌, ℕ, zero, suc, ◌+◌, ◌<◌, ◌≤◌, Bool, true, false, Some, None, List, [], ◌∷◌, ◌++◌, length, take, flat_map, refl, ap, sym, ◌∙◌, subst, arith, inl, inr, append-nil, append_assoc, codes, bytes_eq, nat_lt, nat_le, le-leb, leb-true, lt-ltb, ltb-true, length-append}
use Rattle.std.specs.Prelude.{Option, Result, Ok, Err, slice_get, if◌then◌else◌}
use Rattle.std.proofs.Math.Nat.{eq-or-lt_of_le}
use Rattle.std.proofs.Math.Seq.{take-append_seam}
use Rattle.std.proofs.lemmas.List.{take-append-le}
use Rattle.std.proofs.lemmas.Option.{slice_get_within}
use Rattle.std.proofs.lemmas.Slice.Eq.{bytes_eq-Decides}
use Rattle.zk_model.specs.Bristol.{Lexeme, number, name, lexemes}
use Rattle.zk_model.specs.Field.{prime, IsElement}
use Rattle.zk_model.specs.declared.ReadFault.{ReadFault}
use Rattle.zk_model.specs.declared.ReadFault.TheVariants.{BadGate, WireRange, ReadBeforeSet, SetTwice}
use Rattle.zk_model.specs.declared.limits.TheConstants.{MAX_GATES, MAX_WIRES}
use Rattle.zk_model.specs.Arithmetic.{Arith, EachGate, MayCome, MayRead, MaySet, first_output, is_set}
use Rattle.zk_model.specs.ArithTexts.{IsArithText, arith_lexemes, row_lexemes}
use Rattle.zk_model.specs.ArithFaults.{Behind, Counts, Judge, Place, and_then, behind, constant_of, count_of, counts_at, empty_of, end_behind, first_judged, first_unset, judged, name_of, next, pair_behind, read_of, row_at, row_behind, rows_at, set_of, size_of, start_of, unless_unset, with_row}
use Rattle.zk_model.specs.declared.ArithName.{ArithName}
use Rattle.zk_model.specs.declared.ArithName.TheVariants as gate
use Rattle.zk_model.specs.declared.ArithRow.{ArithRow}
use Rattle.zk_model.specs.declared.ArithRow.TheVariants.{Add, Mul, Const, Assert}
use Rattle.arith_reader.specs.Laws.{TextsAreExact}
use Rattle.arith_reader.proofs.SetWires.{chosen, other}

-- ---- one token after another

-- of what two steps gave, what the first gave
record IsThen {A B : Type 0} (r : Result (Behind A) ReadFault) (more : A → Place → Result B ReadFault) (out : B) : Type 0 where
  item : A
  place : Place
  first : r ≡ Ok (record { item = item; place = place })
  last : more item place ≡ Ok out

split : {A B : Type 0} (r : Result (Behind A) ReadFault) (more : A → Place → Result B ReadFault) (out : B) → and_then r more ≡ Ok out → IsThen r more out
split (Ok read) more out is = record { item = read.item; place = read.place; first = refl; last = is }
split (Err fault) more out is = absurd cc

joined : {A B : Type 0} (r : Result (Behind A) ReadFault) (more : A → Place → Result B ReadFault) (item : A) (place : Place) → r ≡ Ok (record { item = item; place = place })
    → and_then r more ≡ more item place
joined r more item place is = ap (λ s. and_then s more) is

-- the token that gave an item
record IsToken {A : Type 0} (judge : Judge A) (before after : Place) (item : A) : Type 0 where
  lexeme : Lexeme
  left : before.left ≡ lexeme ∷ after.left
  is : judge before.taken lexeme ≡ Ok item

token_of : {A : Type 0} (judge : Judge A) (before after : Place) (item : A) → next judge before ≡ Ok (record { item = item; place = after }) → IsToken judge before after item
token_of {A} judge before after item = of before.left refl
  where
    given : (lexeme : Lexeme) (left : List Lexeme) → before.left ≡ lexeme ∷ left → (r : Result A ReadFault) → judge before.taken lexeme ≡ r
        → behind (record { left = left; taken = before.taken + 1 }) r ≡ Ok (record { item = item; place = after }) → IsToken judge before after item
    given lexeme left stands (Ok found) was is =
        let same : ◌≡◌ {A = Behind A} (record { item = found; place = record { left = left; taken = before.taken + 1 } }) (record { item = item; place = after }) = cc in
        record {
          lexeme = lexeme;
          left = stands ∙ ap (λ (b : Behind A). lexeme ∷ b.place.left) same;
          is = was ∙ ap (λ (b : Behind A). Ok b.item) same;
        }
    given lexeme left stands (Err fault) was is = absurd cc

    of : (l : List Lexeme) → before.left ≡ l → first_judged judge l before.taken ≡ Ok (record { item = item; place = after }) → IsToken judge before after item
    of [] stands is = absurd cc
    of (lexeme ∷ left) stands is = given lexeme left stands (judge before.taken lexeme) refl is

-- the place behind a token
abbrev place_after : List Lexeme → ℕ → Place
place_after left taken = record { left = left; taken = taken + 1 }

next_of : {A : Type 0} (judge : Judge A) (before : Place) (lexeme : Lexeme) (left : List Lexeme) (item : A) → before.left ≡ lexeme ∷ left → judge before.taken lexeme ≡ Ok item
    → next judge before ≡ Ok (record { item = item; place = place_after left before.taken })
next_of judge before lexeme left item stands is = ap (λ l. first_judged judge l before.taken) stands ∙ ap (behind (place_after left before.taken)) is

-- ---- what tokens say

-- of a test
if_ok : {A : Type 0} (b : Bool) (item found : A) (fault : ReadFault) → (if b then Ok item else Err fault) ≡ Ok found → (b ≡ true) × (item ≡ found)
if_ok true item found fault is = (refl, cc)
if_ok false item found fault is = absurd cc

count_said : (limit token n : ℕ) (lexeme : Lexeme) → count_of limit token lexeme ≡ Ok n → (lexeme ≡ number n) × (n ≤ limit)
count_said limit token n (number m) is =
    let both = if_ok (nat_le m limit) m n _ is in
    (ap number both.1, subst (λ (k : ℕ). k ≤ limit) both.1 (leb-true m limit both.0))
count_said limit token n (name text) is = absurd cc

size_said : (wires token n : ℕ) (lexeme : Lexeme) → size_of wires token lexeme ≡ Ok n → (lexeme ≡ number n) × (n ≤ wires)
size_said wires token n (number m) is =
    let both = if_ok (nat_le m wires) m n _ is in
    (ap number both.1, subst (λ (k : ℕ). k ≤ wires) both.1 (leb-true m wires both.0))
size_said wires token n (name text) is = absurd cc

constant_said : (token n : ℕ) (lexeme : Lexeme) → constant_of token lexeme ≡ Ok n → (lexeme ≡ number n) × IsElement n
constant_said token n (number m) is =
    let both = if_ok (nat_lt m prime) m n _ is in
    (ap number both.1, subst IsElement both.1 (ltb-true m prime both.0))
constant_said token n (name text) is = absurd cc

read_said : (begun : Arith) (token n : ℕ) (lexeme : Lexeme) → read_of begun token lexeme ≡ Ok n → (lexeme ≡ number n) × MayRead begun begun.gates n
read_said begun token n (number m) is = of (nat_lt m begun.wires) (is_set begun.inputs begun.gates m) refl refl is
  where
    of : (b d : Bool) → nat_lt m begun.wires ≡ b → is_set begun.inputs begun.gates m ≡ d
        → ◌≡◌ {A = Result ℕ ReadFault} (if b then (if d then Ok m else Err (ReadBeforeSet token)) else Err (WireRange token)) (Ok n) → (number m ≡ number n) × MayRead begun begun.gates n
    of true true within set is =
        let same : m ≡ n = cc in
        (ap number same, subst (λ (k : ℕ). MayRead begun begun.gates k) same (ltb-true m begun.wires within, set))
    of true false within set is = absurd cc
    of false d within set is = absurd cc
read_said begun token n (name text) is = absurd cc

set_said : (begun : Arith) (token n : ℕ) (lexeme : Lexeme) → set_of begun token lexeme ≡ Ok n → (lexeme ≡ number n) × MaySet begun begun.gates n
set_said begun token n (number m) is = of (nat_lt m begun.wires) (is_set begun.inputs begun.gates m) refl refl is
  where
    of : (b d : Bool) → nat_lt m begun.wires ≡ b → is_set begun.inputs begun.gates m ≡ d
        → ◌≡◌ {A = Result ℕ ReadFault} (if b then (if d then Err (SetTwice token) else Ok m) else Err (WireRange token)) (Ok n) → (number m ≡ number n) × MaySet begun begun.gates n
    of true false within set is =
        let same : m ≡ n = cc in
        (ap number same, subst (λ (k : ℕ). MaySet begun begun.gates k) same (ltb-true m begun.wires within, set))
    of true true within set is = absurd cc
    of false d within set is = absurd cc
set_said begun token n (name text) is = absurd cc

abbrev name_text : ArithName → List ℕ
name_text gate.Add = codes "ADD"
name_text gate.Mul = codes "MUL"
name_text gate.Const = codes "CONST"
name_text gate.Assert = codes "ASSERT"

name_said : (token : ℕ) (of : ArithName) (lexeme : Lexeme) → name_of token lexeme ≡ Ok of → lexeme ≡ name (name_text of)
name_said token of (number n) is = absurd cc
name_said token of (name text) is =
    tests (bytes_eq text (codes "ADD")) (bytes_eq text (codes "MUL")) (bytes_eq text (codes "CONST")) (bytes_eq text (codes "ASSERT")) refl refl refl refl is
  where
    same : (l : List ℕ) (n : ArithName) → bytes_eq text l ≡ true → ◌≡◌ {A = Result ArithName ReadFault} (Ok n) (Ok of) → l ≡ name_text n → name text ≡ name (name_text of)
    same l n on is spelled = ap name ((bytes_eq-Decides text l).0 on ∙ spelled) ∙ ap (λ m. name (name_text m)) (one n is)
      where
        one : (n : ArithName) → ◌≡◌ {A = Result ArithName ReadFault} (Ok n) (Ok of) → n ≡ of
        one n is = cc

    tests : (a b c d : Bool) → bytes_eq text (codes "ADD") ≡ a → bytes_eq text (codes "MUL") ≡ b → bytes_eq text (codes "CONST") ≡ c → bytes_eq text (codes "ASSERT") ≡ d
        → ◌≡◌ {A = Result ArithName ReadFault} (if a then Ok gate.Add else if b then Ok gate.Mul else if c then Ok gate.Const else if d then Ok gate.Assert else Err (BadGate token)) (Ok of)
        → name text ≡ name (name_text of)
    tests true b c d p q r s is = same (codes "ADD") gate.Add p is refl
    tests false true c d p q r s is = same (codes "MUL") gate.Mul q is refl
    tests false false true d p q r s is = same (codes "CONST") gate.Const r is refl
    tests false false false true p q r s is = same (codes "ASSERT") gate.Assert s is refl
    tests false false false false p q r s is = absurd cc

-- and what they give

count_gives : (limit token n : ℕ) → n ≤ limit → count_of limit token (number n) ≡ Ok n
count_gives limit token n within = chosen (nat_le n limit) _ _ (le-leb n limit within)

size_gives : (wires token n : ℕ) → n ≤ wires → size_of wires token (number n) ≡ Ok n
size_gives wires token n within = chosen (nat_le n wires) _ _ (le-leb n wires within)

constant_gives : (token n : ℕ) → IsElement n → constant_of token (number n) ≡ Ok n
constant_gives token n is = chosen (nat_lt n prime) _ _ (lt-ltb n prime is)

read_gives : (begun : Arith) (token n : ℕ) → MayRead begun begun.gates n → read_of begun token (number n) ≡ Ok n
read_gives begun token n may =
    chosen (nat_lt n begun.wires) _ _ (lt-ltb n begun.wires may.0) ∙ chosen (is_set begun.inputs begun.gates n) _ _ may.1

set_gives : (begun : Arith) (token n : ℕ) → MaySet begun begun.gates n → set_of begun token (number n) ≡ Ok n
set_gives begun token n may =
    chosen (nat_lt n begun.wires) _ _ (lt-ltb n begun.wires may.0) ∙ other (is_set begun.inputs begun.gates n) _ _ may.1

name_gives : (token : ℕ) (of : ArithName) → name_of token (name (name_text of)) ≡ Ok of
name_gives token gate.Add = refl
name_gives token gate.Mul = refl
name_gives token gate.Const = refl
name_gives token gate.Assert = refl

-- ---- a gate that is judged

record IsRow (begun : Arith) (before after : Place) (row : ArithRow) : Type 0 where
  left : before.left ≡ row_lexemes row ++ after.left
  may : MayCome begun begun.gates row

same_item : {A : Type 0} (one two : A) (p q : Place) → ◌≡◌ {A = Result (Behind A) ReadFault} (Ok (record { item = one; place = p })) (Ok (record { item = two; place = q })) → (one ≡ two) × (p ≡ q)
same_item {A} one two p q is =
    let same : ◌≡◌ {A = Behind A} (record { item = one; place = p }) (record { item = two; place = q }) = cc in
    (ap (λ (b : Behind A). b.item) same, ap (λ (b : Behind A). b.place) same)

-- the three numbers behind the name of a gate that reads two wires
record AreThree (begun : Arith) (row : ℕ → ℕ → ℕ → ArithRow) (before after : Place) (is : ArithRow) : Type 0 where
  a : ℕ
  b : ℕ
  out : ℕ
  row_is : is ≡ row a b out
  left : before.left ≡ number a ∷ number b ∷ number out ∷ after.left
  may : MayRead begun begun.gates a × MayRead begun begun.gates b × MaySet begun begun.gates out

three_of : (begun : Arith) (row : ℕ → ℕ → ℕ → ArithRow) (before after : Place) (is : ArithRow) → pair_behind row begun before ≡ Ok (record { item = is; place = after })
    → AreThree begun row before after is
three_of begun row before after is given =
    let s1 = split _ _ _ given in
    let t1 = token_of (read_of begun) before s1.place s1.item s1.first in
    let r1 = read_said begun _ s1.item t1.lexeme t1.is in
    let s2 = split _ _ _ s1.last in
    let t2 = token_of (read_of begun) s1.place s2.place s2.item s2.first in
    let r2 = read_said begun _ s2.item t2.lexeme t2.is in
    let s3 = split _ _ _ s2.last in
    let t3 = token_of (set_of begun) s2.place s3.place s3.item s3.first in
    let r3 = set_said begun _ s3.item t3.lexeme t3.is in
    let last = same_item (row s1.item s2.item s3.item) is s3.place after s3.last in
    record {
      a = s1.item;
      b = s2.item;
      out = s3.item;
      row_is = sym last.0;
      left = t1.left ∙ (λ i. r1.0 i ∷ t2.left i) ∙ (λ i. number s1.item ∷ r2.0 i ∷ t3.left i) ∙ (λ i. number s1.item ∷ number s2.item ∷ r3.0 i ∷ (last.1 i).left);
      may = (r1.1, r2.1, r3.1);
    }

-- a gate behind its name
record IsBehindName (begun : Arith) (of : ArithName) (before after : Place) (row : ArithRow) : Type 0 where
  left : name (name_text of) ∷ before.left ≡ row_lexemes row ++ after.left
  may : MayCome begun begun.gates row

behind_name : (begun : Arith) (of : ArithName) (before after : Place) (row : ArithRow) → row_behind begun of before ≡ Ok (record { item = row; place = after })
    → IsBehindName begun of before after row
behind_name begun gate.Add before after row given =
    let three = three_of begun Add before after row given in
    record {
      left = ap (λ l. name (codes "ADD") ∷ l) three.left ∙ ap (λ r. row_lexemes r ++ after.left) (sym three.row_is);
      may = subst (λ (r : ArithRow). MayCome begun begun.gates r) (sym three.row_is) three.may;
    }
behind_name begun gate.Mul before after row given =
    let three = three_of begun Mul before after row given in
    record {
      left = ap (λ l. name (codes "MUL") ∷ l) three.left ∙ ap (λ r. row_lexemes r ++ after.left) (sym three.row_is);
      may = subst (λ (r : ArithRow). MayCome begun begun.gates r) (sym three.row_is) three.may;
    }
behind_name begun gate.Const before after row given =
    let s1 = split _ _ _ given in
    let t1 = token_of constant_of before s1.place s1.item s1.first in
    let r1 = constant_said _ s1.item t1.lexeme t1.is in
    let s2 = split _ _ _ s1.last in
    let t2 = token_of (set_of begun) s1.place s2.place s2.item s2.first in
    let r2 = set_said begun _ s2.item t2.lexeme t2.is in
    let last = same_item (Const s1.item s2.item) row s2.place after s2.last in
    record {
      left = ap (λ l. name (codes "CONST") ∷ l) (t1.left ∙ (λ i. r1.0 i ∷ t2.left i) ∙ (λ i. number s1.item ∷ r2.0 i ∷ (last.1 i).left))
          ∙ ap (λ r. row_lexemes r ++ after.left) last.0;
      may = subst (λ (r : ArithRow). MayCome begun begun.gates r) last.0 (r1.1, r2.1);
    }
behind_name begun gate.Assert before after row given =
    let s1 = split _ _ _ given in
    let t1 = token_of (read_of begun) before s1.place s1.item s1.first in
    let r1 = read_said begun _ s1.item t1.lexeme t1.is in
    let last = same_item (Assert s1.item) row s1.place after s1.last in
    record {
      left = ap (λ l. name (codes "ASSERT") ∷ l) (t1.left ∙ (λ i. r1.0 i ∷ (last.1 i).left)) ∙ ap (λ r. row_lexemes r ++ after.left) last.0;
      may = subst (λ (r : ArithRow). MayCome begun begun.gates r) last.0 r1.1;
    }

row_said : (begun : Arith) (before after : Place) (row : ArithRow) → row_at begun before ≡ Ok (record { item = row; place = after }) → IsRow begun before after row
row_said begun before after row given =
    let s1 = split _ _ _ given in
    let t1 = token_of name_of before s1.place s1.item s1.first in
    let n1 = name_said _ s1.item t1.lexeme t1.is in
    let rest = behind_name begun s1.item s1.place after row s1.last in
    record { left = t1.left ∙ ap (λ l. l ∷ s1.place.left) n1 ∙ rest.left; may = rest.may }

-- ---- a gate that is judged right

record GivesAt (begun : Arith) (before : Place) (row : ArithRow) (left : List Lexeme) : Type 0 where
  after : Place
  left_is : after.left ≡ left
  gives : row_at begun before ≡ Ok (record { item = row; place = after })

record GivesFrom (begun : Arith) (of : ArithName) (before : Place) (row : ArithRow) (left : List Lexeme) : Type 0 where
  after : Place
  left_is : after.left ≡ left
  gives : row_behind begun of before ≡ Ok (record { item = row; place = after })

abbrev three_after : List Lexeme → ℕ → Place
three_after left taken = record { left = left; taken = taken + 1 + 1 + 1 }

three_gives : (begun : Arith) (row : ℕ → ℕ → ℕ → ArithRow) (before : Place) (a b out : ℕ) (left : List Lexeme) → before.left ≡ number a ∷ number b ∷ number out ∷ left
    → MayRead begun begun.gates a → MayRead begun begun.gates b → MaySet begun begun.gates out
    → pair_behind row begun before ≡ Ok (record { item = row a b out; place = three_after left before.taken })
three_gives begun row before a b out left stands may_a may_b may_out =
    let p1 : Place = place_after (number b ∷ number out ∷ left) before.taken in
    let p2 : Place = place_after (number out ∷ left) p1.taken in
    joined (next (read_of begun) before) _ a p1 (next_of (read_of begun) before (number a) _ a stands (read_gives begun _ a may_a))
    ∙ joined (next (read_of begun) p1) _ b p2 (next_of (read_of begun) p1 (number b) _ b refl (read_gives begun _ b may_b))
    ∙ joined (next (set_of begun) p2) _ out (three_after left before.taken) (next_of (set_of begun) p2 (number out) left out refl (set_gives begun _ out may_out))

row_gives : (begun : Arith) (before : Place) (row : ArithRow) (left : List Lexeme) → before.left ≡ row_lexemes row ++ left → MayCome begun begun.gates row → GivesAt begun before row left
row_gives begun before (Add a b out) left stands may =
    let p1 : Place = place_after (number a ∷ number b ∷ number out ∷ left) before.taken in
    record {
      after = three_after left p1.taken;
      left_is = refl;
      gives = joined (next name_of before) _ gate.Add p1 (next_of name_of before (name (codes "ADD")) _ gate.Add stands (name_gives before.taken gate.Add))
          ∙ three_gives begun Add p1 a b out left refl may.0 may.1 may.2;
    }
row_gives begun before (Mul a b out) left stands may =
    let p1 : Place = place_after (number a ∷ number b ∷ number out ∷ left) before.taken in
    record {
      after = three_after left p1.taken;
      left_is = refl;
      gives = joined (next name_of before) _ gate.Mul p1 (next_of name_of before (name (codes "MUL")) _ gate.Mul stands (name_gives before.taken gate.Mul))
          ∙ three_gives begun Mul p1 a b out left refl may.0 may.1 may.2;
    }
row_gives begun before (Const value out) left stands may =
    let p1 : Place = place_after (number value ∷ number out ∷ left) before.taken in
    let p2 : Place = place_after (number out ∷ left) p1.taken in
    let p3 : Place = place_after left p2.taken in
    record {
      after = p3;
      left_is = refl;
      gives = joined (next name_of before) _ gate.Const p1 (next_of name_of before (name (codes "CONST")) _ gate.Const stands (name_gives before.taken gate.Const))
          ∙ joined (next constant_of p1) _ value p2 (next_of constant_of p1 (number value) _ value refl (constant_gives _ value may.0))
          ∙ joined (next (set_of begun) p2) _ out p3 (next_of (set_of begun) p2 (number out) left out refl (set_gives begun _ out may.1));
    }
row_gives begun before (Assert a) left stands may =
    let p1 : Place = place_after (number a ∷ left) before.taken in
    let p2 : Place = place_after left p1.taken in
    record {
      after = p2;
      left_is = refl;
      gives = joined (next name_of before) _ gate.Assert p1 (next_of name_of before (name (codes "ASSERT")) _ gate.Assert stands (name_gives before.taken gate.Assert))
          ∙ joined (next (read_of begun) p1) _ a p2 (next_of (read_of begun) p1 (number a) left a refl (read_gives begun _ a may));
    }

-- ---- the outputs

abbrev AreOutputsSet : Arith → Type 0
AreOutputsSet circuit = (wire : ℕ) → circuit.wires ≤ wire + circuit.outputs → wire < circuit.wires → is_set circuit.inputs circuit.gates wire ≡ true

-- all wires of a range are set
abbrev AreSetIn : Arith → ℕ → ℕ → Type 0
AreSetIn begun n from = (wire : ℕ) → from ≤ wire → wire < from + n → is_set begun.inputs begun.gates wire ≡ true

one_said : (begun : Arith) (n from : ℕ) → (first_unset begun (from + 1) n ≡ None → AreSetIn begun n (from + 1)) → (b : Bool) → is_set begun.inputs begun.gates from ≡ b
    → (if b then first_unset begun (from + 1) n else Some from) ≡ None → AreSetIn begun (suc n) from
one_said begun n from rest true set is wire above within = elim (eq-or-lt_of_le above) [
  | inl here ↦ subst (λ (w : ℕ). is_set begun.inputs begun.gates w ≡ true) here set
  | inr later ↦ rest is wire (omega (arith, later)) (omega (arith, within))
]
one_said begun n from rest false set is wire above within = absurd cc

none_said : (begun : Arith) (n from : ℕ) → first_unset begun from n ≡ None → AreSetIn begun n from
none_said begun zero from is = λ wire above within. absurd (omega arith)
none_said begun (suc n) from is = one_said begun n from (none_said begun n (from + 1)) (is_set begun.inputs begun.gates from) refl is

none_gives : (begun : Arith) (n from : ℕ) → ((wire : ℕ) → from ≤ wire → wire < from + n → is_set begun.inputs begun.gates wire ≡ true) → first_unset begun from n ≡ None
none_gives begun zero from set = refl
none_gives begun (suc n) from set =
    chosen (is_set begun.inputs begun.gates from) _ _ (set from (omega arith) (omega arith))
    ∙ none_gives begun n (from + 1) (λ wire above within. set wire (omega (arith, above)) (omega (arith, within)))

-- ---- gates

-- the circuit so far with more gates
abbrev with_rows : Arith → List ArithRow → Arith
with_rows begun more = record { wires = begun.wires; inputs = begun.inputs; outputs = begun.outputs; gates = begun.gates ++ more }

abbrev AreInOrder : Arith → Type 0
AreInOrder circuit = EachGate circuit (λ n gate. MayCome circuit (take n circuit.gates) gate)

-- what may come does so in a circuit of the same wires and inputs
may_with : (begun : Arith) (rows before : List ArithRow) (row : ArithRow) → MayCome begun before row
    → MayCome (record { wires = begun.wires; inputs = begun.inputs; outputs = begun.outputs; gates = rows }) before row
may_with begun rows before (Add a b out) may = may
may_with begun rows before (Mul a b out) may = may
may_with begun rows before (Const value out) may = may
may_with begun rows before (Assert a) may = may

get_left : (xs ys : List ArithRow) (n : ℕ) → n < length xs → slice_get (xs ++ ys) n ≡ slice_get xs n
get_left [] ys n within = absurd (omega arith)
get_left (x ∷ xs) ys zero within = refl
get_left (x ∷ xs) ys (suc n) within = get_left xs ys n (omega arith)

get_seam : (xs : List ArithRow) (y : ArithRow) (ys : List ArithRow) → slice_get (xs ++ y ∷ ys) (length xs) ≡ Some y
get_seam [] y ys = refl
get_seam (x ∷ xs) y ys = get_seam xs y ys

order_push : (begun : Arith) (row : ArithRow) → AreInOrder begun → MayCome begun begun.gates row → AreInOrder (with_row begun row)
order_push begun row order may n gate is = elim (eq-or-lt_of_le (most n (slice_get_within (begun.gates ++ row ∷ []) n gate is))) [
  | inl last ↦
      let at : slice_get (begun.gates ++ row ∷ []) n ≡ Some row = ap (slice_get (begun.gates ++ row ∷ [])) last ∙ get_seam begun.gates row [] in
      let same : row ≡ gate = one row gate (sym at ∙ is) in
      let front : take n (begun.gates ++ row ∷ []) ≡ begun.gates = ap (λ k. take k (begun.gates ++ row ∷ [])) last ∙ take-append_seam begun.gates (row ∷ []) in
      may_with begun (begun.gates ++ row ∷ []) (take n (begun.gates ++ row ∷ [])) gate
      (subst (λ (l : List ArithRow). MayCome begun l gate) (sym front) (subst (λ (g : ArithRow). MayCome begun begun.gates g) same may))
  | inr before ↦
      let at : slice_get begun.gates n ≡ Some gate = sym (get_left begun.gates (row ∷ []) n before) ∙ is in
      may_with begun (begun.gates ++ row ∷ []) (take n (begun.gates ++ row ∷ [])) gate
      (subst (λ (l : List ArithRow). MayCome begun l gate) (sym (take-append-le n begun.gates (row ∷ []) (omega (arith, before)))) (order n gate at))
]
  where
    most : (n : ℕ) → n < length (begun.gates ++ row ∷ []) → n ≤ length begun.gates
    most n within = omega (arith, within, length-append begun.gates (row ∷ []))

    one : (a b : ArithRow) → Some a ≡ Some b → a ≡ b
    one a b is = cc

-- ---- gates that are judged

record AreRows (begun : Arith) (n : ℕ) (place : Place) (circuit : Arith) : Type 0 where
  more : List ArithRow
  count : length more ≡ n
  is : circuit ≡ with_rows begun more
  left : place.left ≡ flat_map row_lexemes more
  order : AreInOrder circuit
  outputs : AreOutputsSet circuit

record IsEnd (begun : Arith) (l : List Lexeme) (circuit : Arith) : Type 0 where
  none : l ≡ []
  is : begun ≡ circuit
  set : first_unset begun (first_output begun) begun.outputs ≡ None

end_said : (begun : Arith) (l : List Lexeme) (token : ℕ) (circuit : Arith) → end_behind begun l token ≡ Ok circuit → IsEnd begun l circuit
end_said begun [] token circuit is = of (first_unset begun (first_output begun) begun.outputs) refl is
  where
    of : (o : Option ℕ) → first_unset begun (first_output begun) begun.outputs ≡ o → unless_unset begun o ≡ Ok circuit → IsEnd begun [] circuit
    of None was ends = record { none = refl; is = cc; set = was }
    of (Some wire) was ends = absurd cc
end_said begun (lexeme ∷ left) token circuit is = absurd cc

rows_said : (n : ℕ) (begun : Arith) (place : Place) (circuit : Arith) → begun.outputs ≤ begun.wires → AreInOrder begun → rows_at n begun place ≡ Ok circuit
    → AreRows begun n place circuit
rows_said zero begun place circuit within order is =
    let end = end_said begun place.left place.taken circuit is in
    record {
      more = [];
      count = refl;
      is = sym end.is ∙ ap (λ l. record { wires = begun.wires; inputs = begun.inputs; outputs = begun.outputs; gates = l }) (sym (append-nil begun.gates));
      left = end.none;
      order = subst AreInOrder end.is order;
      outputs = subst AreOutputsSet end.is (λ wire above below. none_said begun begun.outputs (first_output begun) end.set wire (omega (arith, above)) (omega (arith, below, within)));
    }
rows_said (suc n) begun place circuit within order is =
    let s = split (row_at begun place) _ circuit is in
    let row = row_said begun place s.place s.item s.first in
    let rest = rows_said n (with_row begun s.item) s.place circuit within (order_push begun s.item order row.may) s.last in
    record {
      more = s.item ∷ rest.more;
      count = ap suc rest.count;
      is = rest.is ∙ ap (λ l. record { wires = begun.wires; inputs = begun.inputs; outputs = begun.outputs; gates = l }) (append_assoc begun.gates (s.item ∷ []) rest.more);
      left = row.left ∙ ap (λ l. row_lexemes s.item ++ l) rest.left;
      order = rest.order;
      outputs = rest.outputs;
    }

-- ---- gates that are judged right

rows_given : (more : List ArithRow) (begun : Arith) (place : Place) → place.left ≡ flat_map row_lexemes more → begun.outputs ≤ begun.wires → AreInOrder (with_rows begun more)
    → AreOutputsSet (with_rows begun more) → rows_at (length more) begun place ≡ Ok (with_rows begun more)
rows_given [] begun place left within order set =
    let same : with_rows begun [] ≡ begun = ap (λ l. record { wires = begun.wires; inputs = begun.inputs; outputs = begun.outputs; gates = l }) (append-nil begun.gates) in
    let all : AreOutputsSet begun = subst AreOutputsSet same set in
    ap (λ l. end_behind begun l place.taken) left
    ∙ ap (unless_unset begun) (none_gives begun begun.outputs (first_output begun) (λ wire above below. all wire (omega (arith, above)) (omega (arith, below, within))))
    ∙ ap Ok (sym same)
rows_given (row ∷ more) begun place left within order set =
    let same : with_rows (with_row begun row) more ≡ with_rows begun (row ∷ more) =
    ap (λ l. record { wires = begun.wires; inputs = begun.inputs; outputs = begun.outputs; gates = l }) (append_assoc begun.gates (row ∷ []) more) in
    let first : MayCome (with_rows begun (row ∷ more)) (take (length begun.gates) (begun.gates ++ row ∷ more)) row = order (length begun.gates) row (get_seam begun.gates row more) in
    let may : MayCome begun begun.gates row =
    may_with (with_rows begun (row ∷ more)) begun.gates begun.gates row
    (subst (λ (l : List ArithRow). MayCome (with_rows begun (row ∷ more)) l row) (take-append_seam begun.gates (row ∷ more)) first) in
    let at = row_gives begun place row (flat_map row_lexemes more) left may in
    joined (row_at begun place) (λ next left. rows_at (length more) (with_row begun next) left) row at.after at.gives
    ∙ rows_given more (with_row begun row) at.after at.left_is within (subst AreInOrder (sym same) order) (subst AreOutputsSet (sym same) set)
    ∙ ap Ok same

-- ---- the header

abbrev counts_lexemes : Counts → List Lexeme
counts_lexemes counts = number counts.gates ∷ number counts.wires ∷ number counts.inputs ∷ number counts.outputs ∷ []

record AreWithin (counts : Counts) : Type 0 where
  gates : counts.gates ≤ MAX_GATES
  wires : counts.wires ≤ MAX_WIRES
  inputs : counts.inputs ≤ counts.wires
  outputs : counts.outputs ≤ counts.wires

record AreCounts (before after : Place) (counts : Counts) : Type 0 where
  left : before.left ≡ counts_lexemes counts ++ after.left
  within : AreWithin counts

counts_said : (before after : Place) (counts : Counts) → counts_at before ≡ Ok (record { item = counts; place = after }) → AreCounts before after counts
counts_said before after counts given =
    let s1 = split _ _ _ given in
    let t1 = token_of (count_of MAX_GATES) before s1.place s1.item s1.first in
    let r1 = count_said MAX_GATES _ s1.item t1.lexeme t1.is in
    let s2 = split _ _ _ s1.last in
    let t2 = token_of (count_of MAX_WIRES) s1.place s2.place s2.item s2.first in
    let r2 = count_said MAX_WIRES _ s2.item t2.lexeme t2.is in
    let s3 = split _ _ _ s2.last in
    let t3 = token_of (size_of s2.item) s2.place s3.place s3.item s3.first in
    let r3 = size_said s2.item _ s3.item t3.lexeme t3.is in
    let s4 = split _ _ _ s3.last in
    let t4 = token_of (size_of s2.item) s3.place s4.place s4.item s4.first in
    let r4 = size_said s2.item _ s4.item t4.lexeme t4.is in
    let found : Counts = record { gates = s1.item; wires = s2.item; inputs = s3.item; outputs = s4.item } in
    let last = same_item found counts s4.place after s4.last in
    let whole : before.left ≡ counts_lexemes found ++ after.left =
    t1.left ∙ (λ i. r1.0 i ∷ t2.left i) ∙ (λ i. number s1.item ∷ r2.0 i ∷ t3.left i) ∙ (λ i. number s1.item ∷ number s2.item ∷ r3.0 i ∷ t4.left i)
    ∙ (λ i. number s1.item ∷ number s2.item ∷ number s3.item ∷ r4.0 i ∷ (last.1 i).left) in
    subst (λ (c : Counts). AreCounts before after c) last.0 (record {
      left = whole;
      within = record { gates = r1.1; wires = r2.1; inputs = r3.1; outputs = r4.1 };
    })

abbrev four_after : List Lexeme → ℕ → Place
four_after left taken = record { left = left; taken = taken + 1 + 1 + 1 + 1 }

counts_given : (before : Place) (counts : Counts) (left : List Lexeme) → before.left ≡ counts_lexemes counts ++ left → AreWithin counts
    → counts_at before ≡ Ok (record { item = counts; place = four_after left before.taken })
counts_given before counts left stands within =
    let p1 : Place = place_after (number counts.wires ∷ number counts.inputs ∷ number counts.outputs ∷ left) before.taken in
    let p2 : Place = place_after (number counts.inputs ∷ number counts.outputs ∷ left) p1.taken in
    let p3 : Place = place_after (number counts.outputs ∷ left) p2.taken in
    joined (next (count_of MAX_GATES) before) _ counts.gates p1
    (next_of (count_of MAX_GATES) before (number counts.gates) _ counts.gates stands (count_gives MAX_GATES _ counts.gates within.gates))
    ∙ joined (next (count_of MAX_WIRES) p1) _ counts.wires p2 (next_of (count_of MAX_WIRES) p1 (number counts.wires) _ counts.wires refl (count_gives MAX_WIRES _ counts.wires within.wires))
    ∙ joined (next (size_of counts.wires) p2) _ counts.inputs p3
    (next_of (size_of counts.wires) p2 (number counts.inputs) _ counts.inputs refl (size_gives counts.wires _ counts.inputs within.inputs))
    ∙ joined (next (size_of counts.wires) p3) _ counts.outputs (four_after left before.taken)
    (next_of (size_of counts.wires) p3 (number counts.outputs) left counts.outputs refl (size_gives counts.wires _ counts.outputs within.outputs))

-- ---- the text

none_yet : (counts : Counts) → AreInOrder (empty_of counts)
none_yet counts n gate is = absurd (omega (arith, slice_get_within [] n gate is))

pub text_said : (text : List ℕ) (circuit : Arith) → judged text ≡ Ok circuit → IsArithText circuit text
text_said text circuit is =
    let s = split (counts_at (start_of text)) _ circuit is in
    let counts = counts_said (start_of text) s.place s.item s.first in
    let rows = rows_said s.item.gates (empty_of s.item) s.place circuit counts.within.outputs (none_yet s.item) s.last in
    let whole : lexemes text ≡ number (length rows.more) ∷ number s.item.wires ∷ number s.item.inputs ∷ number s.item.outputs ∷ flat_map row_lexemes rows.more =
    counts.left ∙ (λ i. number (sym rows.count i) ∷ number s.item.wires ∷ number s.item.inputs ∷ number s.item.outputs ∷ rows.left i) in
    record {
      says = whole ∙ ap arith_lexemes (sym rows.is);
      is = record {
        well_formed = record {
          inputs_within = subst (λ (c : Arith). c.inputs ≤ c.wires) (sym rows.is) counts.within.inputs;
          outputs_within = subst (λ (c : Arith). c.outputs ≤ c.wires) (sym rows.is) counts.within.outputs;
          gates_fit = rows.order;
          outputs_set = rows.outputs;
        };
        gates = subst (λ (c : Arith). length c.gates ≤ MAX_GATES) (sym rows.is) (subst (λ (n : ℕ). n ≤ MAX_GATES) (sym rows.count) counts.within.gates);
        wires = subst (λ (c : Arith). c.wires ≤ MAX_WIRES) (sym rows.is) counts.within.wires;
      };
    }

text_given : (text : List ℕ) (circuit : Arith) → IsArithText circuit text → judged text ≡ Ok circuit
text_given text circuit says =
    let formed = says.is.well_formed in
    let counts : Counts = record { gates = length circuit.gates; wires = circuit.wires; inputs = circuit.inputs; outputs = circuit.outputs } in
    let left : List Lexeme = flat_map row_lexemes circuit.gates in
    joined (counts_at (start_of text)) _ counts (four_after left 0) (counts_given (start_of text) counts left says.says (record {
      gates = says.is.gates;
      wires = says.is.wires;
      inputs = formed.inputs_within;
      outputs = formed.outputs_within;
    }))
    ∙ rows_given circuit.gates (empty_of counts) (four_after left 0) refl formed.outputs_within formed.gates_fit formed.outputs_set

pub texts_are_exact : TextsAreExact
texts_are_exact text circuit = (text_said text circuit, text_given text circuit)
