-- The block of a message of 16 bytes, its schedule and its rounds, and the digest of it.
use Rattle.std.proofs.Common.{◌≡◌, ℕ, ◌<◌, ◌≤◌, ◌+◌, ◌-◌, ◌*◌, ◌/◌, List, [], ◌∷◌, ◌++◌, length, take, slice_index, slice_set, arith, refl, sym, ap, ◌∙◌, inl, inr, length-append}
use Rattle.std.proofs.lemmas.List.{get_or_append_left, get_or-append_right, get_or-set_same, get_or-set_other, take_all}
use Rattle.std.proofs.lemmas.Bool.{cases_lt}
use Rattle.sha2.specs.Sha256.{add32, add_state, compress, digest_bytes, hash_after, initial_hash_256, padded_message, padding, round, round_constants, rounds, schedule, sha256, small_sigma0, small_sigma1, word_at}
use Rattle.sha2.proofs.Schedule256.{rounds_next, slice_index-schedule_first, slice_index-schedule_next}
use Rattle.sha_lanes.specs.Lanes.{IsAfterRounds, IsScheduled, lane, lane_at}
use Rattle.sha_lanes.proofs.LaneLemmas.{below_sixteen}

-- one more round, with its parts given by equations
pub one_round : (hash words state next : List ℕ) (count constant word : ℕ) → state ≡ rounds hash words count
    → constant ≡ slice_index round_constants count → word ≡ slice_index words count → next ≡ round state constant word
    → next ≡ rounds hash words (count + 1)
one_round hash words state next count constant word state_is constant_is word_is next_is =
    rw next_is (rw (rounds_next hash words count, ← state_is, constant_is, word_is) refl)

-- the next word of the schedule in a lane
pub one_word : (block : List ℕ) (words : List (List ℕ)) (j count word : ℕ) → 16 ≤ count → count < 64 → IsScheduled block words j count
    → word ≡ add32 (add32 (add32 (small_sigma1 (lane_at words (count - 2) j)) (lane_at words (count - 7) j)) (small_sigma0 (lane_at words (count - 15) j))) (lane_at words (count - 16) j)
    → word ≡ slice_index (schedule block 48) count
one_word block words j count word low high held word_is =
    word_is
    ∙ rw (held (count - 2) (omega arith), held (count - 7) (omega arith), held (count - 15) (omega arith), held (count - 16) (omega arith))
    (sym (slice_index-schedule_next block 48 count low (omega arith)))

-- that word, written after those before it
pub word_written : (block : List ℕ) (words : List (List ℕ)) (word : List ℕ) (j count : ℕ) → count < length words → IsScheduled block words j count
    → slice_index word j ≡ slice_index (schedule block 48) count → IsScheduled block (slice_set words count word) j (count + 1)
word_written block words word j count fits held word_is k below = elim (cases_lt k count) [
  | inl before ↦ ap (λ (x : List ℕ). slice_index x j) (get_or-set_other words count k word [] (omega arith)) ∙ held k before
  | inr from ↦
      let same : k ≡ count = omega arith in
      rw same (ap (λ (x : List ℕ). slice_index x j) (get_or-set_same words count word [] fits) ∙ word_is)
]

-- a word of the message, before its padding
word_before : (message : List ℕ) (i : ℕ) → i + 4 ≤ length message → word_at (padded_message message) i ≡ word_at message i
word_before message i inside =
    let pad : List ℕ = padding (length message) in
    rw (get_or_append_left message pad 0 i (omega arith), get_or_append_left message pad 0 (i + 1) (omega arith), get_or_append_left message pad 0 (i + 2) (omega arith), get_or_append_left message pad 0 (i + 3) (omega arith)) refl

-- a word of the padding of 16 bytes
word_after : (message : List ℕ) (i : ℕ) → length message ≡ 16 → word_at (padded_message message) (16 + i) ≡ word_at (padding 16) i
word_after message i long =
    let first : 16 + i - 16 ≡ i = omega arith in
    let second : 16 + i + 1 - 16 ≡ i + 1 = omega arith in
    let third : 16 + i + 2 - 16 ≡ i + 2 = omega arith in
    let fourth : 16 + i + 3 - 16 ≡ i + 3 = omega arith in
    let pad : List ℕ = padding 16 in
    rw long (rw (get_or-append_right message pad 16 (16 + i) 0 long (omega arith), get_or-append_right message pad 16 (16 + i + 1) 0 long (omega arith), get_or-append_right message pad 16 (16 + i + 2) 0 long (omega arith), get_or-append_right message pad 16 (16 + i + 3) 0 long (omega arith), first, second, third, fourth) refl)

-- the digest of 16 bytes takes one block
one_block : (message : List ℕ) → length message ≡ 16 → sha256 message ≡ digest_bytes (compress initial_hash_256 (padded_message message)) 8
unfolding sha256 hash_after
one_block message is_long =
    let padded : List ℕ = padded_message message in
    let long : length padded ≡ 64 = length-append message (padding (length message)) ∙ rw is_long refl in
    let count : length padded / 64 ≡ 1 = omega arith in
    let whole : take 64 padded ≡ padded = take_all 64 padded (omega arith) in
    rw count (ap (λ (block : List ℕ). digest_bytes (compress initial_hash_256 block) 8) whole)

-- so the bytes of its hash value are its digest
pub one_digest : (message bytes words hash : List ℕ) → length message ≡ 16 → bytes ≡ digest_bytes words 8 → words ≡ hash
    → hash ≡ compress initial_hash_256 (padded_message message) → bytes ≡ sha256 message
one_digest message bytes words hash long written same value =
    written ∙ ap (λ (h : List ℕ). digest_bytes h 8) (same ∙ value) ∙ sym (one_block message long)

-- the first words of the schedule of a block of 16 bytes
abbrev first_sixteen : List ℕ → List ℕ → List ℕ → List ℕ → List ℕ → List ℕ → List ℕ → List (List ℕ)
first_sixteen first second third fourth one none bits =
    first ∷ second ∷ third ∷ fourth ∷ one ∷ none ∷ none ∷ none ∷ none ∷ none ∷ none ∷ none ∷ none ∷ none ∷ none ∷ bits ∷ []

-- those of a message, in a lane
pub block_words : (message first second third fourth one none bits : List ℕ) (rest : List (List ℕ)) (j : ℕ) → length message ≡ 16
    → slice_index first j ≡ word_at message 0 → slice_index second j ≡ word_at message 4
    → slice_index third j ≡ word_at message 8 → slice_index fourth j ≡ word_at message 12
    → slice_index one j ≡ 0x80000000 → slice_index none j ≡ 0 → slice_index bits j ≡ 128
    → (k : ℕ) → k < 16
    → lane_at (first_sixteen first second third fourth one none bits ++ rest) k j ≡ word_at (padded_message message) (4 * k)
block_words message first second third fourth one none bits rest j long first_is second_is third_is fourth_is one_is none_is bits_is =
    below_sixteen (λ k. lane_at (first_sixteen first second third fourth one none bits ++ rest) k j ≡ word_at (padded_message message) (4 * k))
    (first_is ∙ sym (word_before message 0 (omega arith)))
    (second_is ∙ sym (word_before message 4 (omega arith)))
    (third_is ∙ sym (word_before message 8 (omega arith)))
    (fourth_is ∙ sym (word_before message 12 (omega arith)))
    (one_is ∙ sym (word_after message 0 long))
    (none_is ∙ sym (word_after message 4 long)) (none_is ∙ sym (word_after message 8 long)) (none_is ∙ sym (word_after message 12 long))
    (none_is ∙ sym (word_after message 16 long)) (none_is ∙ sym (word_after message 20 long)) (none_is ∙ sym (word_after message 24 long))
    (none_is ∙ sym (word_after message 28 long)) (none_is ∙ sym (word_after message 32 long)) (none_is ∙ sym (word_after message 36 long))
    (none_is ∙ sym (word_after message 40 long))
    (bits_is ∙ sym (word_after message 44 long))

-- they begin the schedule
pub first_scheduled : (block : List ℕ) (words : List (List ℕ)) (j : ℕ) → ((k : ℕ) → k < 16 → lane_at words k j ≡ word_at block (4 * k))
    → IsScheduled block words j 16
first_scheduled block words j written k low = written k low ∙ sym (slice_index-schedule_first block 48 k low)

-- no round yet
pub before_rounds : (block hash : List ℕ) (state : List (List ℕ)) (j : ℕ) → lane j state ≡ hash → IsAfterRounds block hash state j 0
unfolding rounds
before_rounds block hash state j start = start

-- the hash value that 64 rounds give
pub compressed : (hash block start state next : List ℕ) → start ≡ hash → state ≡ rounds hash (schedule block 48) 64 → next ≡ add_state start state
    → next ≡ compress hash block
unfolding compress
compressed hash block start state next start_is state_is next_is = next_is ∙ rw (start_is, state_is) refl

-- the words of a schedule, with more room after them
pub still_scheduled : (block : List ℕ) (words rest : List (List ℕ)) (j count : ℕ) → count ≤ length words → IsScheduled block words j count
    → IsScheduled block (words ++ rest) j count
still_scheduled block words rest j count fits held k below =
    ap (λ (x : List ℕ). slice_index x j) (get_or_append_left words rest [] k (omega arith)) ∙ held k below
