-- What both ends ask and reply in a round has the right counts and ranges.
use Rattle.std.proofs.Common.{◌≡◌, ℕ, ◌+◌, ◌<◌, ◌≤◌, true, false, List, [], map, length, slice_index_or, sym, ◌∙◌, subst, arith}
use Rattle.std.specs.Prelude.{All}
use Rattle.std.specs.List.{range_with_len, enumerate_from}
use Rattle.std.proofs.lemmas.List.{length-map}
use Rattle.std.proofs.lemmas.List.Elements.{All-map, All-from_recursion}
use Rattle.std.proofs.lemmas.List.FromFn.{length-enumerate_from, length-map-range_with_len, get_or-enumerate_from}
use Rattle.std.proofs.lemmas.Slice.Zip.{length-zip}
use Rattle.mersenne_field.proofs.FieldLaws.{reduced}
use Rattle.tree_laws.proofs.Xors.{range_all}
use Rattle.tree_laws.proofs.Messages.{path_length, level_bytes, masked_bytes}
use Rattle.zk_model.specs.Bytes.{LeftRight, AreBothBytes}
use Rattle.zk_model.specs.Tree.{path_to}
use Rattle.zk_model.specs.Extension.{masked_messages}
use Rattle.zk_model.specs.Files.{Transfer, ProverFile, VerifierFile, IsProverUnit, IsProverFile, IsVerifierUnit, IsVerifierFile, prover_unit, verifier_unit}
use Rattle.zk_model.specs.Transcript.{Grant, TreeAsk, IsTreeAsk, IsTreeReply, ForEachTree}
use Rattle.zk_model.specs.Correlations.{tree_root}
use Rattle.zk_model.specs.Replies.{level_pads, level_sums, tree_reply, unit_reply}
use Rattle.zk_model.specs.HonestProver.{place_coin, honest_ask, honest_asks, round_asks}
use Rattle.zk_model.specs.ServedVerifier.{round_replies}

-- ---- lists of what is numbered

-- what is made of each item and its number
all_numbered : {A B : Type 0} (f : ℕ × A → B) (P : B → Type 0) (a : ℕ) (xs : List A)
    → ((i : ℕ) (d : A) → i < length xs → P (f (a + i, slice_index_or xs i d))) → All P (map f (enumerate_from a xs))
all_numbered {A} f P a xs each = All-map P f (enumerate_from a xs)
    (λ i d below. let inside : i < length xs = omega (arith, below, length-enumerate_from a xs) in
    subst (λ (entry : ℕ × A). P (f entry)) (sym (get_or-enumerate_from a xs i d inside)) (each i d.1 inside))

-- what is made of each number of a range
all_of_range : {A : Type 0} (P : A → Type 0) (f : ℕ → A) (a n : ℕ) → ((j : ℕ) → a ≤ j → j < a + n → P (f j))
    → All P (map f (range_with_len a n))
all_of_range P f a n each = All-from_recursion P (map f (range_with_len a n)) (range_all P f a n each)

-- ---- asks

ask_shaped : (file : ProverFile) (unit tree : ℕ) (transfers : List Transfer) → length transfers ≡ file.params.height
    → IsTreeAsk file.params.height (honest_ask file unit tree transfers)
ask_shaped file unit tree transfers counted = record {
  flips =
      let path = path_length file.params.height (place_coin file unit tree) in
      let zipped = length-zip (path_to file.params.height (place_coin file unit tree)) transfers in
      length-map _ _ ∙ omega (arith, path, zipped, counted);
  base_correction = reduced _;
}

asks_shaped : (file : ProverFile) (unit : ℕ) → IsProverUnit file.params (prover_unit file unit)
    → (length (honest_asks file unit) ≡ file.params.trees) × All (IsTreeAsk file.params.height) (honest_asks file unit)
asks_shaped file unit is = (
  length-map _ _ ∙ length-enumerate_from 0 (prover_unit file unit).trees ∙ is.trees.0,
  all_numbered (λ entry. honest_ask file unit entry.0 entry.1) (IsTreeAsk file.params.height) 0 (prover_unit file unit).trees
      (λ i d below. ask_shaped file unit (0 + i) (slice_index_or (prover_unit file unit).trees i d) (is.trees.1 i d below).0),
)

-- an honest prover's asks
pub round_asks_shaped : (file : ProverFile) (grant : Grant) → IsProverFile file → grant.start + grant.count ≤ file.params.total
    → ForEachTree file.params grant (IsTreeAsk file.params.height) (round_asks file grant)
round_asks_shaped file grant is within = (
  length-map-range_with_len (honest_asks file) grant.start grant.count,
  all_of_range (λ trees. (length trees ≡ file.params.trees) × All (IsTreeAsk file.params.height) trees) (honest_asks file) grant.start grant.count
      (λ unit low high. asks_shaped file unit (is.units unit (record { pairs = []; trees = [] }) (omega (arith, high, within, is.count)))),
)

-- ---- replies

reply_shaped : (file : VerifierFile) (unit tree : ℕ) (ask : TreeAsk) → IsVerifierUnit file.params (verifier_unit file unit)
    → tree < file.params.trees → IsTreeReply file.params.height (tree_reply file unit tree ask)
reply_shaped file unit tree ask is below = record {
  count = length-map-range_with_len masked 0 file.params.height;
  messages = all_of_range (AreBothBytes 16) masked 0 file.params.height
      (λ level low high. masked_bytes (level_pads file unit tree level) (slice_index_or ask.flips level false)
      (level_sums (tree_root file unit tree) level)
      (levels.1 level (record { left = []; right = [] }) (omega (arith, high, levels.0)))
      (level_bytes (tree_root file unit tree) level false, level_bytes (tree_root file unit tree) level true));
  leaf_offset = reduced _;
}
  where
    masked : ℕ → LeftRight
    masked level = masked_messages (level_pads file unit tree level) (slice_index_or ask.flips level false)
        (level_sums (tree_root file unit tree) level)

    levels : (length (slice_index_or (verifier_unit file unit).trees tree []) ≡ file.params.height)
        × All (AreBothBytes 16) (slice_index_or (verifier_unit file unit).trees tree [])
    levels = is.trees.1 tree [] (omega (arith, below, is.trees.0))

replies_shaped : (file : VerifierFile) (unit : ℕ) (asks : List TreeAsk) → IsVerifierUnit file.params (verifier_unit file unit)
    → length asks ≡ file.params.trees
    → (length (unit_reply file unit asks) ≡ file.params.trees) × All (IsTreeReply file.params.height) (unit_reply file unit asks)
replies_shaped file unit asks is counted = (
  length-map _ _ ∙ length-enumerate_from 0 asks ∙ counted,
  all_numbered (λ entry. tree_reply file unit entry.0 entry.1) (IsTreeReply file.params.height) 0 asks
      (λ i d below. reply_shaped file unit (0 + i) (slice_index_or asks i d) is (omega (arith, below, counted))),
)

-- a verifier's replies, whatever was asked
pub round_replies_shaped : (file : VerifierFile) (grant : Grant) (asks : List (List TreeAsk)) → IsVerifierFile file
    → grant.start + grant.count ≤ file.params.total
    → ForEachTree file.params grant (IsTreeAsk file.params.height) asks
    → ForEachTree file.params grant (IsTreeReply file.params.height) (round_replies file grant asks)
round_replies_shaped file grant asks is within asked = (
  length-map _ _ ∙ length-enumerate_from grant.start asks ∙ asked.0,
  all_numbered (λ entry. unit_reply file entry.0 entry.1)
      (λ trees. (length trees ≡ file.params.trees) × All (IsTreeReply file.params.height) trees) grant.start asks
      (λ i d below. replies_shaped file (grant.start + i) (slice_index_or asks i d)
      (is.units (grant.start + i) (record { keys = []; trees = [] }) (omega (arith, below, asked.0, within, is.count)))
      (asked.1 i d below).0),
)
