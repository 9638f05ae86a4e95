-- Sums over parts of a list of products, before they are masked.
use Rattle.std.specs.Prelude.{◌≡◌, ℕ, ◌%◌, ◌^◌, List, length, map}
use Rattle.zk_model.specs.Field.{prime}
use Rattle.zk_model.specs.Check.{Triple, KeyTriple, constant_part, linear_part, key_part, weighted_sum}

-- what a prover holds of a part, for a challenge: a power of it, and two sums
pub record PairSums : Type 0 where
  pub challenge : ℕ
  pub power : ℕ
  pub constant : ℕ
  pub linear : ℕ

-- the two sums over these products, and the power of the challenge that the last of them has
pub record AreSumsOf (challenge : ℕ) (triples : List Triple) (sums : PairSums) : Type 0 where
  pub challenge_is : sums.challenge ≡ challenge
  pub power : sums.power ≡ challenge ^ length triples % prime
  pub constant : sums.constant ≡ weighted_sum challenge (map constant_part triples)
  pub linear : sums.linear ≡ weighted_sum challenge (map linear_part triples)

-- what a verifier holds of a part, for a challenge and its key: a power of the challenge, and one sum
pub record KeySum : Type 0 where
  pub challenge : ℕ
  pub key : ℕ
  pub power : ℕ
  pub sum : ℕ

-- the sum over the keys of these products, and the power of the challenge that the last of them has
pub record IsSumOf (key challenge : ℕ) (triples : List KeyTriple) (part : KeySum) : Type 0 where
  pub challenge_is : part.challenge ≡ challenge
  pub key_is : part.key ≡ key
  pub power : part.power ≡ challenge ^ length triples % prime
  pub sum : part.sum ≡ weighted_sum challenge (map (key_part key) triples)
