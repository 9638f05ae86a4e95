-- The two files that a seed gives are files: everything has its length and its range.
use Rattle.std.proofs.Common.{◌≡◌, ℕ, zero, suc, ◌+◌, ◌*◌, ◌/◌, ◌%◌, ◌<◌, ◌≤◌, nat_le, rules, Bool, true, false, List, [], ◌∷◌, ◌++◌, map, length, if◌then◌else◌, refl, ap, sym, ◌∙◌, subst, arith}
use Rattle.std.proofs.Math.Dec.{eqb-suc-zero}
use Rattle.std.specs.Prelude.{All}
use Rattle.std.specs.List.{range_with_len, AllByRecursion}
use Rattle.std.specs.Int.{w64, to_le_bytes}
use Rattle.std.proofs.lemmas.List.{length-map}
use Rattle.std.proofs.lemmas.List.Elements.{All-from_recursion, All-append}
use Rattle.std.proofs.lemmas.List.FromFn.{get_or-map-range_with_len, length-map-range_with_len}
use Rattle.zk_model.specs.Field.{IsElement, from_word}
use Rattle.zk_model.specs.Bytes.{LeftRight, AreBothBytes, AreBytes}
use Rattle.zk_model.specs.Mac.{fitting_key}
use Rattle.zk_model.specs.Coins.{coin_word, stream_bytes}
use Rattle.zk_model.specs.Extension.{choice_of}
use Rattle.dealer_files.specs.Dealing.{some_key, pad_at, dealt_pair, dealt_pairs, dealt_pads, dealt_transfer, dealt_key, dealt_code_seed, dealt_version, by_transfer, dealt_prover_unit, dealt_verifier_unit, dealt_prover, dealt_verifier}
use Rattle.zk_model.specs.Files.{IsCodeSeed, IsProverUnit, IsVerifierUnit, IsProverFile, IsVerifierFile, AreParams, AreTransfers, dealt_per_unit, most_units}
use Rattle.zk_model.specs.declared.FileVersion.TheVariants.{First, Second}
use Rattle.zk_model.specs.declared.Kind.{Kind}
use Rattle.zk_model.specs.declared.Kind.TheVariants.{Direct, Extended}
use Rattle.zk_model.specs.declared.Params.{Params}
use Rattle.zk_model.specs.declared.limits.TheConstants.{MAX_DEALT_AS_FIRST, MAX_DEALT_UNITS}
use Rattle.dealer_files.proofs.DealtPairs.{some_key_set}

-- ---- bytes

is_byte : ℕ → Type 0
is_byte byte = byte < 256

-- the bytes of a word are bytes
word_octets : (n : ℕ) → All (λ byte. byte < 256) (to_le_bytes w64 n)
word_octets n = All-from_recursion (λ byte. byte < 256) (to_le_bytes w64 n) (
  below n,
  (
    below (n / 256),
    (
      below (n / 65536),
      (
        below (n / 16777216),
        (below (n / 4294967296), (below (n / 1099511627776), (below (n / 281474976710656), (below (n / 72057594037927936), tt)))),
      ),
    ),
  ),
)
  where
    below : (n : ℕ) → n % 256 < 256
    below n = omega arith

two_octets : (a b : ℕ) → All (λ byte. byte < 256) (to_le_bytes w64 a ++ to_le_bytes w64 b)
two_octets a b = All-append (λ byte. byte < 256) (to_le_bytes w64 a) (to_le_bytes w64 b) (word_octets a) (word_octets b)

-- the first words of a stream are 32 bytes
stream_octets : (seed : List ℕ) (stream : ℕ) → AreBytes 32 (stream_bytes seed stream)
stream_octets seed stream =
    (refl, All-append (λ byte. byte < 256) (two 0 1) (two 2 3) (two_octets (word 0) (word 1)) (two_octets (word 2) (word 3)))
  where
    word : ℕ → ℕ
    word = coin_word seed stream

    two : ℕ → ℕ → List ℕ
    two i j = to_le_bytes w64 (coin_word seed stream i) ++ to_le_bytes w64 (coin_word seed stream j)

-- a pad is 16 bytes
pad_octets : (seed : List ℕ) (stream i : ℕ) → AreBytes 16 (pad_at seed stream i)
pad_octets seed stream i = (refl, two_octets (coin_word seed stream i) (coin_word seed stream (i + 1)))

choice_octets : (bit : Bool) (both : LeftRight) → AreBytes 16 both.left → AreBytes 16 both.right → AreBytes 16 (choice_of bit both)
choice_octets false both left right = left
choice_octets true both left right = right

code_seed_is : (kind : Kind) (seed : List ℕ) → IsCodeSeed kind (dealt_code_seed kind seed)
code_seed_is Direct seed = refl
code_seed_is Extended seed = stream_octets seed 3

-- ---- units

-- what holds of every item made by a place holds of the list
all_made : {A : Type 0} (P : A → Type 0) (f : ℕ → A) (n : ℕ) → ((i : ℕ) → P (f i)) → All P (map f (range_with_len 0 n))
all_made P f n each = λ k d below.
    subst P (sym (get_or-map-range_with_len f 0 n k k d (omega (arith, length-map-range_with_len f 0 n)) (omega arith))) (each k)

word_element : (w : ℕ) → IsElement (from_word w)
word_element w = omega arith

-- there is one for each transfer
transfers_are : {A : Type 0} (params : Params) (P : A → Type 0) (item : ℕ → A) → ((i : ℕ) → P (item i))
    → AreTransfers params P (by_transfer params item)
transfers_are {A = A} params P item each = (
  length-map-range_with_len levels_of 0 params.trees,
  all_made (λ levels. (length levels ≡ params.height) × All P levels) levels_of params.trees
      (λ tree. (
        length-map-range_with_len (λ level. item (params.height * tree + level)) 0 params.height,
        all_made P (λ level. item (params.height * tree + level)) params.height (λ level. each (params.height * tree + level)),
      )),
)
  where
    levels_of : ℕ → List A
    levels_of tree = map (λ level. item (params.height * tree + level)) (range_with_len 0 params.height)

prover_unit_is : (params : Params) (seed : List ℕ) (unit : ℕ) → IsProverUnit params (dealt_prover_unit params seed unit)
prover_unit_is params seed unit = record {
  count = length-map-range_with_len (dealt_pair seed unit) 0 (dealt_per_unit params);
  elements = all_made (λ pair. IsElement pair.x × IsElement pair.m) (dealt_pair seed unit) (dealt_per_unit params)
      (λ j. (word_element _, word_element _));
  trees = transfers_are params (λ transfer. AreBytes 16 transfer.pad) (dealt_transfer seed unit)
      (λ i. choice_octets _ (dealt_pads seed unit i) (pad_octets seed (17 + 2 * unit) (5 * i)) (pad_octets seed (17 + 2 * unit) (5 * i + 2)));
}

all_mapped : {A B : Type 0} (P : B → Type 0) (f : A → B) (xs : List A) → ((x : A) → P (f x)) → AllByRecursion P (map f xs)
all_mapped P f [] each = tt
all_mapped P f (x ∷ xs) each = (each x, all_mapped P f xs each)

verifier_unit_is : (params : Params) (seed : List ℕ) (unit : ℕ) → IsVerifierUnit params (dealt_verifier_unit params seed unit)
verifier_unit_is params seed unit = record {
  count = length-map (dealt_pairs params seed unit) (fitting_key (dealt_key seed)) ∙ length-map-range_with_len (dealt_pair seed unit) 0 (dealt_per_unit params);
  elements = All-from_recursion IsElement (map (fitting_key (dealt_key seed)) (dealt_pairs params seed unit))
      (all_mapped IsElement (fitting_key (dealt_key seed)) (dealt_pairs params seed unit) (λ pair. omega arith));
  trees = transfers_are params (AreBothBytes 16) (dealt_pads seed unit)
      (λ i. (pad_octets seed (17 + 2 * unit) (5 * i), pad_octets seed (17 + 2 * unit) (5 * i + 2)));
}

-- ---- files

-- so many units are dealt in a version that has room for them
dealt_most : (total : ℕ) → total ≤ MAX_DEALT_UNITS → total ≤ most_units (dealt_version total)
dealt_most total most = by_size (nat_le total MAX_DEALT_AS_FIRST) refl
  where
    by_size : (few : Bool) → nat_le total MAX_DEALT_AS_FIRST ≡ few → total ≤ most_units (if few then First else Second)
    by_size true is = let low : total ≤ MAX_DEALT_AS_FIRST = search (rules, is) in omega (arith, low)
    by_size false is = most

-- the prover's file is one
pub prover_file_is : (params : Params) (seed : List ℕ) → AreParams params → IsProverFile (dealt_prover params seed)
prover_file_is params seed are = record {
  params = are;
  most = dealt_most params.total are.total;
  id = stream_octets seed 0;
  coin_key = stream_octets seed 1;
  code_seed = code_seed_is params.kind seed;
  count = length-map-range_with_len (dealt_prover_unit params seed) 0 params.total;
  units = all_made (IsProverUnit params) (dealt_prover_unit params seed) params.total (prover_unit_is params seed);
}

key_element : (element : ℕ) → IsElement element → IsElement (some_key element)
key_element zero is = omega arith
key_element (suc element) is =
    subst (λ (key : ℕ). IsElement key) (sym (ap (λ is_zero. if is_zero then 1 else suc element) (eqb-suc-zero element))) is

-- and so is the verifier's
pub verifier_file_is : (params : Params) (seed : List ℕ) → AreParams params → IsVerifierFile (dealt_verifier params seed)
verifier_file_is params seed are = record {
  params = are;
  most = dealt_most params.total are.total;
  key = key_element (from_word (coin_word seed 4 0)) (word_element (coin_word seed 4 0));
  key_set = some_key_set (from_word (coin_word seed 4 0));
  id = stream_octets seed 0;
  coin_key = stream_octets seed 2;
  code_seed = code_seed_is params.kind seed;
  count = length-map-range_with_len (dealt_verifier_unit params seed) 0 params.total;
  units = all_made (IsVerifierUnit params) (dealt_verifier_unit params seed) params.total (verifier_unit_is params seed);
}
