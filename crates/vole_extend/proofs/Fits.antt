-- What both ends say of a unit has the right counts and ranges.
use Rattle.std.proofs.Common.{◌≡◌, ℕ, ◌<◌, true, false, List, [], map, length, get_or, refl, sym, ◌∙◌, ap, subst, arith}
use Rattle.std.specs.Prelude.{All}
use Rattle.std.specs.List.{range_with_len}
use Rattle.std.proofs.lemmas.List.{length-map}
use Rattle.std.proofs.lemmas.List.FromFn.{length-map-range_with_len, get_or-map-range_with_len}
use Rattle.std.proofs.lemmas.Slice.Zip.{length-zip}
use Rattle.mersenne_field.proofs.FieldLaws.{reduced}
use Rattle.tree_laws.proofs.Messages.{path_length, level_bytes, masked_bytes}
use Rattle.zk_model.specs.Bytes.{LeftRight, AreBothBytes}
use Rattle.zk_model.specs.Tree.{path_to}
use Rattle.zk_model.specs.Extension.{masked_messages}
use Rattle.zk_model.specs.Files.{IsProverFile, IsVerifierFile}
use Rattle.zk_model.specs.Transcript.{TreeAsk, TreeReply, IsTreeAsk, IsTreeReply}
use Rattle.zk_model.specs.Correlations.{tree_root}
use Rattle.zk_model.specs.Replies.{level_pads, level_sums, tree_reply}
use Rattle.zk_model.specs.HonestProver.{place_coin}
use Rattle.vole_extend.specs.Rounds.{ProverTurn, VerifierTurn, tree_transfers, tree_ask, tree_pads, ask_at, first_replies}

-- what holds of whatever is made of each number holds of all
all_made : {A : Type 0} (P : A → Type 0) (f : ℕ → A) (n : ℕ) (items : List A) → items ≡ map f (range_with_len 0 n)
    → ((k : ℕ) → k < n → P (f k)) → All P items
all_made P f n items made each k d below =
    let inside : k < n = omega (arith, below, ap length made, length-map-range_with_len f 0 n) in
    subst P (sym (ap (λ l. get_or l k d) made ∙ get_or-map-range_with_len f 0 n k k d inside (omega arith))) (each k inside)

-- ---- asks

-- a flip for each level, and an element
ask_fits : (turn : ProverTurn) (tree : ℕ) → length (tree_transfers turn tree) ≡ turn.file.params.height
    → IsTreeAsk turn.file.params.height (tree_ask turn tree)
ask_fits turn tree count = record {
  flips =
      let pathed = path_length turn.file.params.height (place_coin turn.file turn.unit tree) in
      let zipped = length-zip (path_to turn.file.params.height (place_coin turn.file turn.unit tree)) (tree_transfers turn tree) in
      length-map _ _ ∙ omega (arith, pathed, zipped, count);
  base_correction = reduced _;
}

pub asks_fit : (turn : ProverTurn) (asks : List TreeAsk) → IsProverFile turn.file → turn.unit < turn.file.params.total
    → asks ≡ map (tree_ask turn) (range_with_len 0 turn.file.params.trees) → All (IsTreeAsk turn.file.params.height) asks
asks_fit turn asks is within made = all_made (IsTreeAsk turn.file.params.height) (tree_ask turn) turn.file.params.trees asks made
    (λ tree below.
    let dealt = is.units turn.unit (record { pairs = []; trees = [] }) (omega (arith, is.count, within)) in
    ask_fits turn tree (dealt.trees.1 tree [] (omega (arith, dealt.trees.0, below))).0)

-- ---- replies

-- two messages of 16 bytes for each level, and an element
reply_fits : (turn : VerifierTurn) (tree : ℕ) (ask : TreeAsk) → length (tree_pads turn tree) ≡ turn.file.params.height
    → All (AreBothBytes 16) (tree_pads turn tree) → IsTreeReply turn.file.params.height (tree_reply turn.file turn.unit tree ask)
reply_fits turn tree ask count pads = record {
  count = length-map-range_with_len masked 0 turn.file.params.height;
  messages = all_made (AreBothBytes 16) masked turn.file.params.height _ refl (λ level below.
      masked_bytes (level_pads turn.file turn.unit tree level) (get_or ask.flips level false) (level_sums root level)
      (pads level (record { left = []; right = [] }) (omega (arith, below, count)))
      (level_bytes root level false, level_bytes root level true));
  leaf_offset = reduced _;
}
  where
    root : List ℕ
    root = tree_root turn.file turn.unit tree

    masked : ℕ → LeftRight
    masked level = masked_messages (level_pads turn.file turn.unit tree level) (get_or ask.flips level false) (level_sums root level)

pub replies_fit : (turn : VerifierTurn) (asks : List TreeAsk) (replies : List TreeReply) → IsVerifierFile turn.file
    → turn.unit < turn.file.params.total → replies ≡ first_replies turn asks turn.file.params.trees
    → All (IsTreeReply turn.file.params.height) replies
replies_fit turn asks replies is within made =
    all_made (IsTreeReply turn.file.params.height) (λ tree. tree_reply turn.file turn.unit tree (ask_at asks tree)) turn.file.params.trees replies made
    (λ tree below.
    let dealt = is.units turn.unit (record { keys = []; trees = [] }) (omega (arith, is.count, within)) in
    let pads = dealt.trees.1 tree [] (omega (arith, dealt.trees.0, below)) in
    reply_fits turn tree (ask_at asks tree) pads.0 pads.1)
