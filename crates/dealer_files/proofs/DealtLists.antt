-- What is dealt, as words give it, unit by unit.
use Rattle.std.proofs.Common.{◌≡◌, ℕ, ◌+◌, ◌*◌, ◌/◌, ◌%◌, ◌<◌, nat_eq, List, [], ◌∷◌, ◌++◌, length, map, flat_map, slice_index, ap, sym, ◌∙◌, arith, append_assoc}
use Rattle.std.specs.List.{range_with_len}
use Rattle.std.specs.Int.{w64, to_le_bytes}
use Rattle.std.proofs.lemmas.List.FromFn.{map-range_with_len_more, get_or-map-range_with_len, length-map-range_with_len}
use Rattle.zk_model.specs.Field.{from_word}
use Rattle.zk_model.specs.Mac.{Pair}
use Rattle.zk_model.specs.Coins.{coin_word}
use Rattle.zk_model.specs.Extension.{choice_of}
use Rattle.zk_model.specs.Files.{dealt_per_unit}
use Rattle.dealer_files.specs.Dealing.{dealt_pair, dealt_pairs, dealt_pads, dealt_transfer}
use Rattle.zk_model.specs.declared.Params.{Params}
use Rattle.dealer_files.specs.Flat.{transfers_per_unit}
use Rattle.dealer_files.specs.Words.{word_pair, word_pads, word_transfer}
use Rattle.dealer_files.proofs.Pieces.{map_range_same, flat_map_range_more}

-- one item more after a list
pub one_more : {A : Type 0} (f : ℕ → A) (old before now : List A) (item : A) (j : ℕ) → item ≡ f j
    → now ≡ before ++ item ∷ [] → before ≡ old ++ map f (range_with_len 0 j) → now ≡ old ++ map f (range_with_len 0 (j + 1))
one_more f old before now item j made pushed far =
    pushed ∙ (λ i. far i ++ made i ∷ [])
    ∙ append_assoc old (map f (range_with_len 0 j)) (f j ∷ [])
    ∙ ap (λ rest. old ++ rest) (sym (map-range_with_len_more f 0 j j (omega arith)))

-- the words of a stream from its start
pub record AreWords (seed : List ℕ) (stream count : ℕ) (words : List ℕ) : Type 0 where
  pub are : words ≡ map (λ i. coin_word seed stream (0 + i)) (range_with_len 0 count)

word_of : (seed : List ℕ) (stream count : ℕ) (words : List ℕ) → AreWords seed stream count words
    → (place : ℕ) → place < count → slice_index words place ≡ coin_word seed stream place
word_of seed stream count words h place below =
    ap (λ l. slice_index l place) h.are
    ∙ get_or-map-range_with_len (λ i. coin_word seed stream (0 + i)) 0 count place place 0 below (omega arith)
    ∙ ap (coin_word seed stream) (omega arith)

count_of : (seed : List ℕ) (stream count : ℕ) (words : List ℕ) → AreWords seed stream count words → length words ≡ count
count_of seed stream count words h = ap length h.are ∙ length-map-range_with_len (λ i. coin_word seed stream (0 + i)) 0 count

-- the items of a unit from its words
items_of_words : {A : Type 0} (from_words from_seed : ℕ → A) (words : List ℕ) (n : ℕ) → length words ≡ n
    → (size each : ℕ) → n / size ≡ each → ((i : ℕ) → i < each → from_words i ≡ from_seed i)
    → map from_words (range_with_len 0 (length words / size)) ≡ map from_seed (range_with_len 0 each)
items_of_words from_words from_seed words n whole size each parts same =
    ap (λ k. map from_words (range_with_len 0 k)) (ap (λ l. l / size) whole ∙ parts)
    ∙ map_range_same from_words from_seed 0 each (λ i low high. same i (omega arith))

-- the pairs of one unit more
pub pairs_more : (params : Params) (seed words : List ℕ) (unit count : ℕ) (before now : List Pair)
    → AreWords seed (16 + 2 * unit) count words → count ≡ 2 * dealt_per_unit params
    → now ≡ before ++ map (word_pair words) (range_with_len 0 (length words / 2))
    → before ≡ flat_map (dealt_pairs params seed) (range_with_len 0 unit)
    → now ≡ flat_map (dealt_pairs params seed) (range_with_len 0 (unit + 1))
pairs_more params seed words unit count before now are whole pushed far =
    flat_map_range_more (dealt_pairs params seed) before now _ unit pushed
    (items_of_words (word_pair words) (dealt_pair seed unit) words count (count_of seed (16 + 2 * unit) count words are)
    2 (dealt_per_unit params) (halves count (dealt_per_unit params) whole)
    (λ j below i. record {
      x = from_word (word_of seed (16 + 2 * unit) count words are (2 * j) (omega arith) i);
      m = from_word (word_of seed (16 + 2 * unit) count words are (2 * j + 1) (omega arith) i);
    }))
    far
  where
    halves : (count each : ℕ) → count ≡ 2 * each → count / 2 ≡ each
    halves count each twice = omega arith

fifths : (count each : ℕ) → count ≡ 5 * each → count / 5 ≡ each
fifths count each whole = omega arith

pub pads_same : (seed words : List ℕ) (unit count i : ℕ) → AreWords seed (17 + 2 * unit) count words → 5 * i + 4 < count
    → word_pads words i ≡ dealt_pads seed unit i
pads_same seed words unit count i are below = λ k. record {
  left = to_le_bytes w64 (word (5 * i) (omega arith) k) ++ to_le_bytes w64 (word (5 * i + 1) (omega arith) k);
  right = to_le_bytes w64 (word (5 * i + 2) (omega arith) k) ++ to_le_bytes w64 (word (5 * i + 2 + 1) (omega arith) k);
}
  where
    word : (place : ℕ) → place < count → slice_index words place ≡ coin_word seed (17 + 2 * unit) place
    word = word_of seed (17 + 2 * unit) count words are

pub transfer_same : (seed words : List ℕ) (unit count i : ℕ) → AreWords seed (17 + 2 * unit) count words → 5 * i + 4 < count
    → word_transfer words i ≡ dealt_transfer seed unit i
transfer_same seed words unit count i are below =
    (λ k. record { bit = last k; pad = choice_of (last k) (pads_same seed words unit count i are below k) })
  where
    last : nat_eq (slice_index words (5 * i + 4) % 2) 1 ≡ nat_eq (coin_word seed (17 + 2 * unit) (5 * i + 4) % 2) 1
    last = ap (λ w. nat_eq (w % 2) 1) (word_of seed (17 + 2 * unit) count words are (5 * i + 4) below)

-- what stands for the transfers of one unit more
pub transfers_more : {A : Type 0} (params : Params) (seed words : List ℕ) (unit count : ℕ) (before now : List A)
    (from_words : ℕ → A) (from_seed : ℕ → ℕ → A)
    → AreWords seed (17 + 2 * unit) count words → count ≡ 5 * transfers_per_unit params
    → ((i : ℕ) → 5 * i + 4 < count → from_words i ≡ from_seed unit i)
    → now ≡ before ++ map from_words (range_with_len 0 (length words / 5))
    → before ≡ flat_map (λ u. map (from_seed u) (range_with_len 0 (transfers_per_unit params))) (range_with_len 0 unit)
    → now ≡ flat_map (λ u. map (from_seed u) (range_with_len 0 (transfers_per_unit params))) (range_with_len 0 (unit + 1))
transfers_more params seed words unit count before now from_words from_seed are whole same pushed far =
    flat_map_range_more (λ u. map (from_seed u) (range_with_len 0 (transfers_per_unit params))) before now _ unit pushed
    (items_of_words from_words (from_seed unit) words count (count_of seed (17 + 2 * unit) count words are)
    5 (transfers_per_unit params) (fifths count (transfers_per_unit params) whole)
    (λ i below. same i (within i count (transfers_per_unit params) whole below)))
    far
  where
    within : (i count each : ℕ) → count ≡ 5 * each → i < each → 5 * i + 4 < count
    within i count each whole below = omega arith
