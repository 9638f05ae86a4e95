-- The replies and the keys of neighbouring units grow unit by unit.
use Rattle.std.proofs.Common.{◌≡◌, ℕ, ◌+◌, ◌*◌, List, [], ◌∷◌, ◌++◌, map, flat_map, length, sym, ◌∙◌, ap, arith, length-append, Vec, Global}
use Rattle.std.specs.List.{enumerate_from, range_with_len}
use Rattle.std.proofs.lemmas.List.{length-map, map-append}
use Rattle.std.proofs.lemmas.List.Concat.{flat_map-append}
use Rattle.std.proofs.lemmas.List.FromFn.{length-enumerate_from}
use Rattle.zk_model.specs.Files.{VerifierFile, correlations_per_unit}
use Rattle.zk_model.specs.Transcript.{TreeAsk, TreeReply}
use Rattle.zk_model.specs.Correlations.{unit_keys}
use Rattle.zk_model.specs.Replies.{unit_reply}
use Rattle.circuit_laws.proofs.Ranges.{range-append}
use Rattle.round_fan.specs.Fans.{lists_of, replies_from, keys_from, AreReplied}
use Rattle.round_fan.proofs.Units.{counts}

-- ---- replies

numbered_both : {A : Type 0} (s : ℕ) (xs ys : List A) → enumerate_from s (xs ++ ys) ≡ enumerate_from s xs ++ enumerate_from (s + length xs) ys
numbered_both s [] ys = ap (λ n. enumerate_from n ys) (omega arith)
numbered_both s (x ∷ xs) ys = ap (λ l. (s, x) ∷ l)
    (numbered_both (s + 1) xs ys ∙ ap (λ n. enumerate_from (s + 1) xs ++ enumerate_from n ys) (omega arith))

replied_both : (file : VerifierFile) (s : ℕ) (xs ys : List (List TreeAsk)) → replies_from file s (xs ++ ys) ≡ replies_from file s xs ++ replies_from file (s + length xs) ys
replied_both file s xs ys =
    ap (map (λ (entry : ℕ × List TreeAsk). unit_reply file entry.0 entry.1)) (numbered_both s xs ys)
    ∙ map-append (λ (entry : ℕ × List TreeAsk). unit_reply file entry.0 entry.1) (enumerate_from s xs) (enumerate_from (s + length xs) ys)

-- ---- both

-- of later units behind them
pub replies_more : (file : VerifierFile) (s : ℕ) (xs ys : List (Vec TreeAsk Global)) (a b : List (Vec TreeReply Global)) (m n : List ℕ)
    → AreReplied file s xs a m → AreReplied file (s + length xs) ys b n → AreReplied file s (xs ++ ys) (a ++ b) (m ++ n)
replies_more file s xs ys a b m n front back = record {
  replied = map-append (λ (v : Vec TreeReply Global). v.items) a b
      ∙ (λ i. front.replied i ++ back.replied i)
      ∙ ap (λ n. replies_from file s (lists_of xs) ++ replies_from file (s + n) (lists_of ys)) (sym (length-map xs (λ (v : Vec TreeAsk Global). v.items)))
      ∙ sym (replied_both file s (lists_of xs) (lists_of ys))
      ∙ ap (replies_from file s) (sym (map-append (λ (v : Vec TreeAsk Global). v.items) xs ys));
  keyed = (λ i. front.keyed i ++ back.keyed i)
      ∙ sym (flat_map-append (unit_keys file) (range_with_len s (length xs)) (range_with_len (s + length xs) (length ys)))
      ∙ ap (flat_map (unit_keys file)) (sym (range-append s (length xs) (length ys)))
      ∙ ap (keys_from file s) (sym (length-append xs ys));
  count = length-append m n ∙ (λ i. front.count i + back.count i) ∙ counts (length xs) (length ys) (correlations_per_unit file.params)
      ∙ ap (λ n. n * correlations_per_unit file.params) (sym (length-append xs ys));
}

-- as many as there are units
pub replied_count : (file : VerifierFile) (start : ℕ) (asks : List (Vec TreeAsk Global)) (replies : List (Vec TreeReply Global)) (keys : List ℕ) → AreReplied file start asks replies keys
    → length replies ≡ length asks
replied_count file start asks replies keys are =
    sym (length-map replies (λ (v : Vec TreeReply Global). v.items)) ∙ ap length are.replied
    ∙ length-map (enumerate_from start (lists_of asks)) (λ (entry : ℕ × List TreeAsk). unit_reply file entry.0 entry.1)
    ∙ length-enumerate_from start (lists_of asks) ∙ length-map asks (λ (v : Vec TreeAsk Global). v.items)
