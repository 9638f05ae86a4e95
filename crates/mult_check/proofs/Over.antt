-- Sums over more and more products.
use Rattle.std.proofs.Common.{◌≡◌, ℕ, ◌+◌, ◌<◌, ◌≤◌, List, [], ◌∷◌, ◌++◌, length, take, get_or, ap, sym, ◌∙◌, append_assoc, append-nil}
use Rattle.std.proofs.lemmas.List.{take_more, take_all}
use Rattle.zk_model.specs.Field.{◌+ₚ◌, ◌*ₚ◌}
use Rattle.zk_model.specs.Check.{Triple, KeyTriple, constant_part, linear_part, key_part}
use Rattle.mult_check.specs.Parts.{PairSums, KeySum, AreSumsOf, IsSumOf}
use Rattle.mult_check.proofs.WeightedSums.{no_power, power_push, sum_push, power_joined, sum_joined}

-- ---- of the prover

pub no_sums : (challenge : ℕ) (sums : PairSums) → sums.challenge ≡ challenge → sums.power ≡ 1 → sums.constant ≡ 0 → sums.linear ≡ 0
    → AreSumsOf challenge [] sums
no_sums challenge sums same p c l = record { challenge_is = same; power = no_power challenge sums.power p; constant = c; linear = l }

pub sums_push : (challenge : ℕ) (triples : List Triple) (triple : Triple) (sums now : PairSums) → now.challenge ≡ sums.challenge
    → now.power ≡ sums.power *ₚ sums.challenge → now.constant ≡ sums.constant +ₚ (constant_part triple *ₚ now.power)
    → now.linear ≡ sums.linear +ₚ (linear_part triple *ₚ now.power) → AreSumsOf challenge triples sums → AreSumsOf challenge (triples ++ triple ∷ []) now
sums_push challenge triples triple sums now same p c l far =
    let weight = power_push challenge triples triple sums.power now.power (p ∙ ap (λ n. sums.power *ₚ n) far.challenge_is) far.power in
    record {
      challenge_is = same ∙ far.challenge_is;
      power = weight;
      constant = sum_push constant_part challenge triples triple sums.constant now.power now.constant c weight far.constant;
      linear = sum_push linear_part challenge triples triple sums.linear now.power now.linear l weight far.linear;
    }

pub sums_join : (challenge : ℕ) (first rest : List Triple) (sums later now : PairSums) → now.challenge ≡ sums.challenge
    → now.power ≡ sums.power *ₚ later.power → now.constant ≡ sums.constant +ₚ (later.constant *ₚ sums.power)
    → now.linear ≡ sums.linear +ₚ (later.linear *ₚ sums.power)
    → AreSumsOf challenge first sums → AreSumsOf challenge rest later → AreSumsOf challenge (first ++ rest) now
sums_join challenge first rest sums later now same p c l far behind = record {
  challenge_is = same ∙ far.challenge_is;
  power = power_joined challenge first rest sums.power later.power now.power p far.power behind.power;
  constant = sum_joined constant_part challenge first rest sums.constant later.constant sums.power now.constant c far.power far.constant behind.constant;
  linear = sum_joined linear_part challenge first rest sums.linear later.linear sums.power now.linear l far.power far.linear behind.linear;
}

-- ---- of the verifier

pub no_sum : (key challenge : ℕ) (sum : KeySum) → sum.challenge ≡ challenge → sum.key ≡ key → sum.power ≡ 1 → sum.sum ≡ 0
    → IsSumOf key challenge [] sum
no_sum key challenge sum same held p s = record { challenge_is = same; key_is = held; power = no_power challenge sum.power p; sum = s }

pub sum_pushed : (key challenge : ℕ) (triples : List KeyTriple) (triple : KeyTriple) (sum now : KeySum) → now.challenge ≡ sum.challenge → now.key ≡ sum.key
    → now.power ≡ sum.power *ₚ sum.challenge → now.sum ≡ sum.sum +ₚ (key_part sum.key triple *ₚ now.power)
    → IsSumOf key challenge triples sum → IsSumOf key challenge (triples ++ triple ∷ []) now
sum_pushed key challenge triples triple sum now same held p s far =
    let weight = power_push challenge triples triple sum.power now.power (p ∙ ap (λ n. sum.power *ₚ n) far.challenge_is) far.power in
    record {
      challenge_is = same ∙ far.challenge_is;
      key_is = held ∙ far.key_is;
      power = weight;
      sum = sum_push (key_part key) challenge triples triple sum.sum now.power now.sum
          (s ∙ ap (λ k. sum.sum +ₚ (key_part k triple *ₚ now.power)) far.key_is) weight far.sum;
    }

pub sum_join : (key challenge : ℕ) (first rest : List KeyTriple) (sum later now : KeySum) → now.challenge ≡ sum.challenge → now.key ≡ sum.key
    → now.power ≡ sum.power *ₚ later.power → now.sum ≡ sum.sum +ₚ (later.sum *ₚ sum.power)
    → IsSumOf key challenge first sum → IsSumOf key challenge rest later → IsSumOf key challenge (first ++ rest) now
sum_join key challenge first rest sum later now same held p s far behind = record {
  challenge_is = same ∙ far.challenge_is;
  key_is = held ∙ far.key_is;
  power = power_joined challenge first rest sum.power later.power now.power p far.power behind.power;
  sum = sum_joined (key_part key) challenge first rest sum.sum later.sum sum.power now.sum s far.power far.sum behind.sum;
}

-- ---- lists

-- one item more after others
pub one_behind : {T : Type 0} (before items : List T) (index : ℕ) (item : T) → index < length items → item ≡ get_or items index item
    → before ++ take (index + 1) items ≡ (before ++ take index items) ++ item ∷ []
one_behind before items index item within at =
    ap (λ l. before ++ l) (take_more items index item within ∙ ap (λ x. take index items ++ x ∷ []) (sym at))
    ∙ sym (append_assoc before (take index items) (item ∷ []))

-- none yet
pub none_behind : {T : Type 0} (before items : List T) (index : ℕ) → index ≡ 0 → before ≡ before ++ take index items
none_behind before items index none = sym (append-nil before) ∙ ap (λ k. before ++ take k items) (sym none)

-- all of them
pub all_behind : {T : Type 0} (before items : List T) (index : ℕ) → length items ≤ index → before ++ take index items ≡ before ++ items
all_behind before items index end = ap (λ l. before ++ l) (take_all index items end)
