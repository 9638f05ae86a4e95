-- A file that is read spells the bytes, and is a file.
use Rattle.std.proofs.Common.{◌≡◌, ◌≢◌, ℕ, zero, suc, ◌+◌, ◌-◌, ◌*◌, ◌<◌, ◌≤◌, List, [], ◌∷◌, ◌++◌, length, map, flat_map, take, drop, refl, ap, sym, ◌∙◌, arith, subst, length-take-le, length-drop, mul-le-mul_left, take-append-drop}
use Rattle.std.specs.Prelude.{All, slice_index}
use Rattle.std.specs.List.{range_with_len}
use Rattle.std.proofs.lemmas.List.{take_all, drop-drop, get_or-take, get_or-drop}
use Rattle.std.proofs.lemmas.List.Folds.{flat_map-map}
use Rattle.std.proofs.lemmas.List.FromFn.{get_or-map-range_with_len, length-map-range_with_len}
use Rattle.std.proofs.Math.Seq.{take-add}
use Rattle.sha2.specs.Sha256.{sha256}
use Rattle.zk_model.specs.Field.{IsElement}
use Rattle.zk_model.specs.Bytes.{LeftRight, AreBytes, element_bytes}
use Rattle.zk_model.specs.Mac.{Pair}
use Rattle.zk_model.specs.Files.{Transfer, AreParams, AreTransfers, IsCodeSeed, IsProverUnit, IsVerifierUnit, IsProverFile, IsVerifierFile, dealt_per_unit, most_units}
use Rattle.zk_model.specs.FileBytes.{kind_code, magic_word, params_bytes, header_bytes, prover_unit_bytes, verifier_unit_bytes, prover_file_bytes, verifier_file_bytes, sealed}
use Rattle.dealer_files.specs.FileFaults.{side_code, kind_of, params_at, version_at, block_length, block_start, HasDigest}
use Rattle.zk_model.specs.declared.FileVersion.{FileVersion}
use Rattle.zk_model.specs.declared.Params.{Params}
use Rattle.zk_model.specs.declared.Side.{Side}
use Rattle.zk_model.specs.declared.Side.TheVariants.{Prover, Verifier}
use Rattle.dealer_files.specs.Flat.{piece, transfers_per_unit, trees_of, flat_prover_unit, flat_verifier_unit, flat_prover, flat_verifier, AreWhole}
use Rattle.dealer_files.specs.Faults.{HasHead, HasBody, SpellsNumbers}
use Rattle.dealer_files.specs.Reading.{Spelled, a_pair, an_element, a_transfer, both_pads, IsUnitInRange, AreBlocks}
use Rattle.dealer_files.proofs.Pieces.{flat_map_range_same, joined_pieces}

-- ---- the header

-- what stands at one place, and at three
one_at : (place : ℕ) (l : List ℕ) → place < length l → slice_index l place ∷ [] ≡ take 1 (drop place l)
one_at place [] less = absurd (omega arith)
one_at zero (x ∷ l) less = refl
one_at (suc place) (x ∷ l) less = one_at place l (omega arith)

three_at : (place : ℕ) (l : List ℕ) → place + 2 < length l
    → slice_index l place ∷ slice_index l (place + 1) ∷ slice_index l (place + 2) ∷ [] ≡ take 3 (drop place l)
three_at place l less =
    (λ i. one_at place l (omega arith) i ++ (one_at (place + 1) l (omega arith) ∙ ap (take 1) (sym (drop-drop 1 place l))) i
    ++ (one_at (place + 2) l less ∙ ap (take 1) (sym (drop-drop 2 place l))) i)
    ∙ ap (λ front. front ++ take 1 (drop 2 (drop place l))) (sym (take-add 1 1 (drop place l)))
    ∙ sym (take-add 2 1 (drop place l))

code_of_kind : (n : ℕ) → n ≤ 1 → kind_code (kind_of n) ≡ n
code_of_kind zero most = refl
code_of_kind (suc zero) most = refl
code_of_kind (suc (suc n)) most = absurd (omega arith)

params_are : (side : Side) (bytes : List ℕ) (params : Params) → HasHead side bytes → params ≡ params_at bytes → SpellsNumbers bytes params
    → params_bytes params ≡ take 23 (drop 9 bytes)
params_are side bytes params head same spelled =
    (λ i. first i ++ (spelled.trees ∙ behind 4 3) i ++ (spelled.base ∙ behind 4 7) i ++ (sym head.params.gaps ∙ behind 4 11) i ++ (spelled.total ∙ behind 8 15) i)
    ∙ ap (λ l. l ++ take 4 (drop 7 rest) ++ take 4 (drop 11 rest) ++ take 8 (drop 15 rest)) (sym (take-add 3 4 rest))
    ∙ ap (λ l. l ++ take 4 (drop 11 rest) ++ take 8 (drop 15 rest)) (sym (take-add 7 4 rest))
    ∙ ap (λ l. l ++ take 8 (drop 15 rest)) (sym (take-add 11 4 rest))
    ∙ sym (take-add 15 8 rest)
  where
    rest : List ℕ
    rest = drop 9 bytes

    behind : (n m : ℕ) → take n (drop (9 + m) bytes) ≡ take n (drop m rest)
    behind n m = ap (take n) (sym (drop-drop m 9 bytes))

    first : kind_code params.kind ∷ params.height ∷ 0 ∷ [] ≡ take 3 rest
    first =
        (λ i. (ap (λ p. kind_code p.kind) same ∙ code_of_kind (slice_index bytes 9) head.of_side.kind) i
        ∷ ap (λ p. p.height) same i ∷ sym head.params.gap i ∷ [])
        ∙ three_at 9 bytes (omega (arith, head.header))

pub header_is : (side : Side) (bytes : List ℕ) (version : FileVersion) (params : Params) (id coin_key code_seed : List ℕ) → HasHead side bytes → version ≡ version_at bytes → params ≡ params_at bytes
    → SpellsNumbers bytes params → id ≡ take 32 (drop 32 bytes) → coin_key ≡ take 32 (drop 64 bytes) → code_seed ≡ take 32 (drop 96 bytes)
    → header_bytes version (side_code side) params id coin_key code_seed ≡ take 128 bytes
header_is side bytes version params id coin_key code_seed head of same spelled first second third =
    (λ i. (ap magic_word of ∙ sym head.magic) i ++ code i ++ params_are side bytes params head same spelled i ++ first i ++ second i ++ third i)
    ∙ ap (λ l. l ++ take 23 (drop 9 bytes) ++ take 32 (drop 32 bytes) ++ take 32 (drop 64 bytes) ++ take 32 (drop 96 bytes)) (sym (take-add 8 1 bytes))
    ∙ ap (λ l. l ++ take 32 (drop 32 bytes) ++ take 32 (drop 64 bytes) ++ take 32 (drop 96 bytes)) (sym (take-add 9 23 bytes))
    ∙ ap (λ l. l ++ take 32 (drop 64 bytes) ++ take 32 (drop 96 bytes)) (sym (take-add 32 32 bytes))
    ∙ ap (λ l. l ++ take 32 (drop 96 bytes)) (sym (take-add 64 32 bytes))
    ∙ sym (take-add 96 32 bytes)
  where
    code : side_code side ∷ [] ≡ take 1 (drop 8 bytes)
    code = ap (λ n. n ∷ []) (sym head.of_side.code) ∙ one_at 8 bytes (omega (arith, head.header))

-- ---- pieces

piece_sized : {A : Type 0} (size n unit : ℕ) (items : List A) → length items ≡ size * n → unit < n → length (piece size items unit) ≡ size
piece_sized size n unit items sized below =
    let end : size * (unit + 1) ≤ size * n = mul-le-mul_left size (omega arith) in
    let split : size * (unit + 1) ≡ size * unit + size = omega arith in
    length-take-le size (drop (size * unit) items) (omega (arith, sized, length-drop (size * unit) items))

all_piece : {A : Type 0} (P : A → Type 0) (size n unit : ℕ) (items : List A) → length items ≡ size * n → unit < n → All P items
    → All P (piece size items unit)
all_piece P size n unit items sized below all = λ k d less.
    let end : size * (unit + 1) ≤ size * n = mul-le-mul_left size (omega arith) in
    let split : size * (unit + 1) ≡ size * unit + size = omega arith in
    let inside : k < size = omega (arith, less, piece_sized size n unit items sized below) in
    subst P (sym (get_or-take size (drop (size * unit) items) k d inside ∙ get_or-drop (size * unit) items k d))
    (all (size * unit + k) d (omega (arith, sized, end, split)))

all_made_within : {A : Type 0} (P : A → Type 0) (f : ℕ → A) (n : ℕ) → ((i : ℕ) → i < n → P (f i)) → All P (map f (range_with_len 0 n))
all_made_within P f n each = λ k d below.
    let inside : k < n = omega (arith, below, length-map-range_with_len f 0 n) in
    subst P (sym (get_or-map-range_with_len f 0 n k k d inside (omega arith))) (each k inside)

trees_are : {A : Type 0} (params : Params) (P : A → Type 0) (items : List A) (n unit : ℕ) → length items ≡ transfers_per_unit params * n → unit < n
    → All P items → AreTransfers params P (trees_of params items unit)
trees_are {A = A} params P items n unit sized below all = (
  length-map-range_with_len (piece params.height block) 0 params.trees,
  all_made_within (λ levels. (length levels ≡ params.height) × All P levels) (piece params.height block) params.trees
      (λ tree within. (piece_sized params.height params.trees tree block whole within, all_piece P params.height params.trees tree block whole within hold)),
)
  where
    block : List A
    block = piece (transfers_per_unit params) items unit

    whole : length block ≡ params.height * params.trees
    whole = piece_sized (transfers_per_unit params) n unit items sized below ∙ omega arith

    hold : All P block
    hold = all_piece P (transfers_per_unit params) n unit items sized below all

trees_joined : {A : Type 0} (params : Params) (items : List A) (n unit : ℕ) → length items ≡ transfers_per_unit params * n → unit < n
    → flat_map (λ levels. levels) (trees_of params items unit) ≡ piece (transfers_per_unit params) items unit
trees_joined {A = A} params items n unit sized below =
    flat_map-map (λ (levels : List A). levels) (piece params.height block) (range_with_len 0 params.trees)
    ∙ joined_pieces params.height block 0 params.trees ∙ all
  where
    block : List A
    block = piece (transfers_per_unit params) items unit

    all : take (params.height * params.trees) (drop (params.height * 0) block) ≡ block
    all =
        let none : params.height * 0 ≡ 0 = omega arith in
        ap (λ k. take (params.height * params.trees) (drop k block)) none
        ∙ take_all (params.height * params.trees) block (omega (arith, piece_sized (transfers_per_unit params) n unit items sized below))

-- ---- files

-- what is read of all blocks is whole
pub blocks_whole : {A B : Type 0} (form : Spelled A) (other : Spelled B) (side : Side) (params : Params) (bytes : List ℕ) (items : List A) (others : List B)
    → AreBlocks form other side params bytes params.total items others → AreWhole params items others
blocks_whole form other side params bytes items others blocks = record { dealt = blocks.dealt; transfers = blocks.transfers }

-- and so is each unit
units_whole : {A B : Type 0} (form : Spelled A) (other : Spelled B) (side : Side) (params : Params) (bytes : List ℕ) (items : List A) (others : List B)
    → AreBlocks form other side params bytes params.total items others → (unit : ℕ) → unit < params.total
    → (length (piece (dealt_per_unit params) items unit) ≡ dealt_per_unit params) × All form.Holds (piece (dealt_per_unit params) items unit)
    × AreTransfers params other.Holds (trees_of params others unit)
units_whole form other side params bytes items others blocks unit below = (
  piece_sized (dealt_per_unit params) params.total unit items blocks.dealt below,
  all_piece form.Holds (dealt_per_unit params) params.total unit items blocks.dealt below blocks.hold,
  trees_are params other.Holds others params.total unit blocks.transfers below blocks.hold_other,
)

-- its items, and the others tree by tree, spell its block
unit_spelled : {A B : Type 0} (form : Spelled A) (other : Spelled B) (side : Side) (params : Params) (bytes : List ℕ) (items : List A) (others : List B)
    → AreBlocks form other side params bytes params.total items others → (unit : ℕ) → unit < params.total
    → flat_map form.spell (piece (dealt_per_unit params) items unit) ++ flat_map other.spell (flat_map (λ levels. levels) (trees_of params others unit))
    ≡ take (block_length side params) (drop (block_start side params unit) bytes)
unit_spelled form other side params bytes items others blocks unit below =
    ap (λ l. flat_map form.spell (piece (dealt_per_unit params) items unit) ++ flat_map other.spell l) (trees_joined params others params.total unit blocks.transfers below)
    ∙ blocks.spelled unit below

-- all units are in range, by the parameters that the bytes have
pub units_in_range : {A B : Type 0} (form : Spelled A) (other : Spelled B) (side : Side) (params : Params) (bytes : List ℕ) (items : List A) (others : List B)
    → params ≡ params_at bytes → AreBlocks form other side params bytes params.total items others
    → (unit : ℕ) → unit < (params_at bytes).total → IsUnitInRange side (params_at bytes) bytes unit
units_in_range form other side params bytes items others same blocks =
    subst (λ (p : Params). (unit : ℕ) → unit < p.total → IsUnitInRange side p bytes unit) same blocks.in_range

-- the parameters and the seed of the code, as they are read
head_read : (side : Side) (bytes : List ℕ) (params : Params) (code_seed : List ℕ) → HasBody side bytes → params ≡ params_at bytes → code_seed ≡ take 32 (drop 96 bytes)
    → AreParams params × IsCodeSeed params.kind code_seed
head_read side bytes params code_seed body same seed = (
  subst AreParams (sym same) body.head.params.params,
  subst (IsCodeSeed params.kind) (sym seed) (subst (λ (p : Params). IsCodeSeed p.kind (take 32 (drop 96 bytes))) (sym same) body.head.params.code_seed),
)

-- the blocks and the digest after the header
sealed_is : (side : Side) (bytes front : List ℕ) → HasBody side bytes → HasDigest bytes
    → front ≡ take (block_start side (params_at bytes) (params_at bytes).total) bytes → sealed front ≡ bytes
sealed_is side bytes front body digest is =
    let end : block_start side (params_at bytes) (params_at bytes).total ≡ length bytes - 32 = omega (arith, body.length) in
    let whole : front ≡ take (length bytes - 32) bytes = is ∙ ap (λ n. take n bytes) end in
    (λ i. whole i ++ sha256 (whole i)) ∙ ap (λ l. take (length bytes - 32) bytes ++ l) (sym digest) ∙ take-append-drop (length bytes - 32) bytes

-- blocks that stand one after another
joined_blocks : (side : Side) (params : Params) (bytes : List ℕ) (spell : ℕ → List ℕ) (start : ℕ)
    → ((unit : ℕ) → unit < params.total → spell unit ≡ take (block_length side params) (drop (start + block_length side params * unit) bytes))
    → flat_map spell (range_with_len 0 params.total) ≡ take (block_length side params * params.total) (drop start bytes)
joined_blocks side params bytes spell start each =
    flat_map_range_same spell (piece size (drop start bytes)) 0 params.total
    (λ unit low high. each unit (omega arith) ∙ ap (take size) (sym (drop-drop (size * unit) start bytes)))
    ∙ joined_pieces size (drop start bytes) 0 params.total
    ∙ (let none : size * 0 ≡ 0 = omega arith in ap (λ k. take (size * params.total) (drop k (drop start bytes))) none)
  where
    size : ℕ
    size = block_length side params

-- the prover's file spells the bytes
pub prover_spelled : (bytes : List ℕ) (version : FileVersion) (params : Params) (id coin_key code_seed : List ℕ) (pairs : List Pair) (transfers : List Transfer)
    → HasBody Prover bytes → HasDigest bytes → params ≡ params_at bytes
    → header_bytes version 0 params id coin_key code_seed ≡ take 128 bytes
    → AreBlocks a_pair a_transfer Prover params bytes params.total pairs transfers
    → prover_file_bytes (flat_prover version params id coin_key code_seed pairs transfers) ≡ bytes
prover_spelled bytes version params id coin_key code_seed pairs transfers body digest same header blocks =
    sealed_is Prover bytes _ body digest
    ((λ i. header i ++ units i) ∙ sym (take-add 128 (block_length Prover params * params.total) bytes)
    ∙ ap (λ p. take (block_start Prover p p.total) bytes) same)
  where
    made : flat_map prover_unit_bytes (map (flat_prover_unit params pairs transfers) (range_with_len 0 params.total))
        ≡ flat_map (λ unit. prover_unit_bytes (flat_prover_unit params pairs transfers unit)) (range_with_len 0 params.total)
    made = flat_map-map prover_unit_bytes (flat_prover_unit params pairs transfers) (range_with_len 0 params.total)

    units : flat_map prover_unit_bytes (map (flat_prover_unit params pairs transfers) (range_with_len 0 params.total))
        ≡ take (block_length Prover params * params.total) (drop 128 bytes)
    units = made ∙ joined_blocks Prover params bytes (λ unit. prover_unit_bytes (flat_prover_unit params pairs transfers unit)) 128
        (unit_spelled a_pair a_transfer Prover params bytes pairs transfers blocks)

-- there are no more units than the version allows
most_read : (version : FileVersion) (params : Params) (bytes : List ℕ) → version ≡ version_at bytes → params ≡ params_at bytes
    → (params_at bytes).total ≤ most_units (version_at bytes) → params.total ≤ most_units version
most_read version params bytes of same most = rw (of, same) most

-- its units are a prover's
prover_unit_is : (params : Params) (bytes : List ℕ) (pairs : List Pair) (transfers : List Transfer) → AreBlocks a_pair a_transfer Prover params bytes params.total pairs transfers
    → (unit : ℕ) → unit < params.total → IsProverUnit params (flat_prover_unit params pairs transfers unit)
prover_unit_is params bytes pairs transfers blocks unit below =
    let whole = units_whole a_pair a_transfer Prover params bytes pairs transfers blocks unit below in record { count = whole.0; elements = whole.1; trees = whole.2 }

-- and is a prover's file
pub prover_is_read : (bytes : List ℕ) (version : FileVersion) (params : Params) (id coin_key code_seed : List ℕ) (pairs : List Pair) (transfers : List Transfer)
    → HasBody Prover bytes → version ≡ version_at bytes → params ≡ params_at bytes → AreBytes 32 id → AreBytes 32 coin_key → code_seed ≡ take 32 (drop 96 bytes)
    → AreBlocks a_pair a_transfer Prover params bytes params.total pairs transfers
    → IsProverFile (flat_prover version params id coin_key code_seed pairs transfers)
prover_is_read bytes version params id coin_key code_seed pairs transfers body of same is_id is_key seed blocks =
    let head = head_read Prover bytes params code_seed body same seed in record {
      params = head.0;
      most = most_read version params bytes of same body.head.params.most;
      id = is_id;
      coin_key = is_key;
      code_seed = head.1;
      count = length-map-range_with_len (flat_prover_unit params pairs transfers) 0 params.total;
      units = all_made_within (IsProverUnit params) (flat_prover_unit params pairs transfers) params.total (prover_unit_is params bytes pairs transfers blocks);
    }

-- ---- the verifier's file

-- the verifier's file spells the bytes
pub verifier_spelled : (bytes : List ℕ) (version : FileVersion) (params : Params) (id coin_key code_seed : List ℕ) (key : ℕ) (keys : List ℕ) (pads : List LeftRight)
    → HasBody Verifier bytes → HasDigest bytes → params ≡ params_at bytes
    → header_bytes version 1 params id coin_key code_seed ≡ take 128 bytes → element_bytes key ≡ take 8 (drop 128 bytes)
    → AreBlocks an_element both_pads Verifier params bytes params.total keys pads
    → verifier_file_bytes (flat_verifier version params id coin_key code_seed key keys pads) ≡ bytes
verifier_spelled bytes version params id coin_key code_seed key keys pads body digest same header spelled blocks =
    sealed_is Verifier bytes _ body digest
    ((λ i. ((λ j. header j ++ spelled j) ∙ sym (take-add 128 8 bytes)) i ++ units i)
    ∙ sym (take-add 136 (block_length Verifier params * params.total) bytes)
    ∙ ap (λ p. take (block_start Verifier p p.total) bytes) same)
  where
    units : flat_map verifier_unit_bytes (map (flat_verifier_unit params keys pads) (range_with_len 0 params.total))
        ≡ take (block_length Verifier params * params.total) (drop 136 bytes)
    units = flat_map-map verifier_unit_bytes (flat_verifier_unit params keys pads) (range_with_len 0 params.total)
        ∙ joined_blocks Verifier params bytes (λ unit. verifier_unit_bytes (flat_verifier_unit params keys pads unit)) 136
        (unit_spelled an_element both_pads Verifier params bytes keys pads blocks)

-- its units are a verifier's
verifier_unit_is : (params : Params) (bytes : List ℕ) (keys : List ℕ) (pads : List LeftRight) → AreBlocks an_element both_pads Verifier params bytes params.total keys pads
    → (unit : ℕ) → unit < params.total → IsVerifierUnit params (flat_verifier_unit params keys pads unit)
verifier_unit_is params bytes keys pads blocks unit below =
    let whole = units_whole an_element both_pads Verifier params bytes keys pads blocks unit below in record { count = whole.0; elements = whole.1; trees = whole.2 }

-- and is a verifier's file
pub verifier_is_read : (bytes : List ℕ) (version : FileVersion) (params : Params) (id coin_key code_seed : List ℕ) (key : ℕ) (keys : List ℕ) (pads : List LeftRight)
    → HasBody Verifier bytes → version ≡ version_at bytes → params ≡ params_at bytes → AreBytes 32 id → AreBytes 32 coin_key → code_seed ≡ take 32 (drop 96 bytes)
    → IsElement key → key ≢ 0 → AreBlocks an_element both_pads Verifier params bytes params.total keys pads
    → IsVerifierFile (flat_verifier version params id coin_key code_seed key keys pads)
verifier_is_read bytes version params id coin_key code_seed key keys pads body of same is_id is_key seed element set blocks =
    let head = head_read Verifier bytes params code_seed body same seed in record {
      params = head.0;
      most = most_read version params bytes of same body.head.params.most;
      id = is_id;
      coin_key = is_key;
      key = element;
      key_set = set;
      code_seed = head.1;
      count = length-map-range_with_len (flat_verifier_unit params keys pads) 0 params.total;
      units = all_made_within (IsVerifierUnit params) (flat_verifier_unit params keys pads) params.total (verifier_unit_is params bytes keys pads blocks);
    }

-- the key that is read is 0, or is not
pub not_set : (key value : ℕ) → key ≡ value → key ≡ 0 → ¬ (value ≢ 0)
not_set key value same none = λ set. set (sym same ∙ none)

pub is_set : (key value : ℕ) → key ≡ value → key ≢ 0 → value ≢ 0
is_set key value same set = subst (λ (n : ℕ). n ≢ 0) same set
