-- Numbers, nodes and digests are bytes when they are spelled.
use Rattle.std.proofs.Common.{ℕ, zero, suc, ◌+◌, ◌*◌, ◌/◌, ◌%◌, ◌<◌, Bool, true, false, List, [], ◌∷◌, slice_index, All, refl, arith, length-take-le, length-drop}
use Rattle.std.specs.List.{AllByRecursion}
use Rattle.std.specs.Int.{w32, w64, to_le_bytes, to_be_bytes}
use Rattle.std.proofs.lemmas.List.Elements.{All-append, All-from_recursion, All-take, All-drop}
use Rattle.sha2.specs.Sha256.{sha256, digest_bytes, final_hash, initial_hash_256}
use Rattle.sha2.proofs.Facts256.{length-sha256}
use Rattle.zk_model.specs.Bytes.{AreBytes}
use Rattle.zk_model.specs.Coins.{coin_word, seed16}
use Rattle.zk_model.specs.Tree.{child_of, node_at}

-- a remainder by 256 is a byte
below : (n : ℕ) → n % 256 < 256
below n = omega arith

-- four remainders are bytes
four_octets : (a b c d : ℕ) → AllByRecursion (λ byte. byte < 256) (a % 256 ∷ b % 256 ∷ c % 256 ∷ d % 256 ∷ [])
four_octets a b c d = (below a, (below b, (below c, (below d, tt))))

-- the bytes of words are bytes
pub word_octets : (n : ℕ) → All (λ byte. byte < 256) (to_le_bytes w64 n)
word_octets n = All-from_recursion (λ byte. byte < 256) (to_le_bytes w64 n)
    (below n, (below (n / 256), (below (n / 65536), (below (n / 16777216), high))))
  where
    high : AllByRecursion (λ byte. byte < 256)
        (n / 4294967296 % 256 ∷ n / 1099511627776 % 256 ∷ n / 281474976710656 % 256 ∷ n / 72057594037927936 % 256 ∷ [])
    high = four_octets (n / 4294967296) (n / 1099511627776) (n / 281474976710656) (n / 72057594037927936)

-- and so are those of half words
half_octets : (n : ℕ) → All (λ byte. byte < 256) (to_be_bytes w32 n)
half_octets n = All-from_recursion (λ byte. byte < 256) (to_be_bytes w32 n) (four_octets (n / 16777216) (n / 65536) (n / 256) n)

-- the bytes of a digest are bytes
digest_octets : (h : List ℕ) (n : ℕ) → All (λ byte. byte < 256) (digest_bytes h n)
unfolding digest_bytes
digest_octets h zero = All-from_recursion (λ byte. byte < 256) [] tt
digest_octets h (suc n) =
    All-append (λ byte. byte < 256) (digest_bytes h n) (to_be_bytes w32 (slice_index h n)) (digest_octets h n) (half_octets (slice_index h n))

-- so those of every digest
pub sha256_octets : (message : List ℕ) → All (λ byte. byte < 256) (sha256 message)
unfolding sha256
sha256_octets message = digest_octets (final_hash initial_hash_256 message) 8

-- a child is 16 bytes
pub child_bytes : (side : Bool) (node : List ℕ) → AreBytes 16 (child_of side node)
unfolding child_of
child_bytes false node = (
  length-take-le 16 (sha256 node) (let whole = length-sha256 node in omega (arith, whole)),
  All-take (λ byte. byte < 256) 16 (sha256 node) (sha256_octets node),
)
child_bytes true node = (
  (let whole = length-sha256 node in let rest = length-drop 16 (sha256 node) in omega (arith, whole, rest)),
  All-drop (λ byte. byte < 256) 16 (sha256 node) (sha256_octets node),
)

-- and so is each node, if the root is
pub node_bytes : (root : List ℕ) (sides : List Bool) → AreBytes 16 root → AreBytes 16 (node_at root sides)
node_bytes root [] is = is
node_bytes root (side ∷ sides) is = node_bytes (child_of side root) sides (child_bytes side root)

-- a seed of 16 bytes
pub seed_bytes : (key : List ℕ) (stream i : ℕ) → AreBytes 16 (seed16 key stream i)
seed_bytes key stream i = (
  refl,
  All-append (λ byte. byte < 256) (to_le_bytes w64 (coin_word key stream (2 * i)))
      (to_le_bytes w64 (coin_word key stream (2 * i + 1))) (word_octets (coin_word key stream (2 * i))) (word_octets (coin_word key stream (2 * i + 1))),
)
