-- The trees of a unit are pieces of one size of the flat list of their levels.
use Rattle.std.proofs.Common.{◌≡◌, ℕ, zero, suc, ◌+◌, ◌-◌, ◌*◌, ◌<◌, List, [], ◌∷◌, ◌++◌, length, flat_map, take, drop, get_or, sym, ◌∙◌, ap, arith}
use Rattle.std.proofs.Math.Seq.{take-append_seam, drop-append-add}
use Rattle.zk_model.specs.Bytes.{LeftRight, AreBytes, AreBothBytes}
use Rattle.zk_model.specs.Files.{Transfer, ProverFile, VerifierFile, AreTransfers, IsProverFile, IsVerifierFile, prover_unit, verifier_unit, unit_transfers, unit_pads}
use Rattle.zk_model.specs.declared.Params.{Params}

-- lists of one length, joined: each is the piece of its number
pub piece_is : {A : Type 0} (size : ℕ) (lists : List (List A)) (t : ℕ) → ((i : ℕ) → i < length lists → length (get_or lists i []) ≡ size)
    → t < length lists → take size (drop (t * size) (flat_map (λ levels. levels) lists)) ≡ get_or lists t []
piece_is size [] t sized below = absurd (omega (arith, below))
piece_is size (first ∷ lists) zero sized below =
    let rest = flat_map (λ levels. levels) lists in
    let none : zero * size ≡ 0 = omega arith in
    ap (λ k. take size (drop k (first ++ rest))) none
    ∙ ap (λ k. take k (first ++ rest)) (sym (sized 0 (omega arith))) ∙ take-append_seam first rest
piece_is size (first ∷ lists) (suc t) sized below =
    let rest = flat_map (λ levels. levels) lists in
    let behind : suc t * size ≡ length first + t * size = omega (arith, sized 0 (omega arith)) in
    ap (λ k. take size (drop k (first ++ rest))) behind
    ∙ ap (take size) (drop-append-add first rest (t * size))
    ∙ piece_is size lists t (λ i inside. sized (suc i) (omega (arith, inside))) (omega (arith, below))

-- the same of a range
range_is : {A : Type 0} (size : ℕ) (lists : List (List A)) (flat : List A) (t : ℕ)
    → ((i : ℕ) → i < length lists → length (get_or lists i []) ≡ size) → t < length lists
    → flat ≡ flat_map (λ levels. levels) lists → take (t * size + size - t * size) (drop (t * size) flat) ≡ get_or lists t []
range_is size lists flat t sized below is =
    let long : t * size + size - t * size ≡ size = apart (t * size) size in
    ap (λ k. take k (drop (t * size) flat)) long ∙ ap (λ l. take size (drop (t * size) l)) is ∙ piece_is size lists t sized below
  where
    apart : (a b : ℕ) → a + b - a ≡ b
    apart a b = omega arith

-- the levels of one tree of a unit
tree_levels_are : {A : Type 0} (params : Params) (P : A → Type 0) (trees : List (List A)) (tree size : ℕ) (flat : List A) → AreTransfers params P trees
    → tree < params.trees → size ≡ params.height → flat ≡ flat_map (λ levels. levels) trees
    → take (tree * size + size - tree * size) (drop (tree * size) flat) ≡ get_or trees tree []
tree_levels_are params P trees tree size flat dealt below sized =
    range_is size trees flat tree (λ i inside. (dealt.1 i [] inside).0 ∙ sym sized) (omega (arith, dealt.0, below))

-- the transfers of a tree, where the file's numbers were read
pub tree_transfers_are : (file : ProverFile) (read : Params) (unit tree size : ℕ) (flat : List Transfer) → IsProverFile file → read ≡ file.params
    → unit < read.total → tree < file.params.trees → size ≡ read.height → flat ≡ unit_transfers (prover_unit file unit)
    → take (tree * size + size - tree * size) (drop (tree * size) flat) ≡ get_or (prover_unit file unit).trees tree []
tree_transfers_are file read unit tree size flat is same within below sized = tree_levels_are file.params (λ transfer. AreBytes 16 transfer.pad) (prover_unit file unit).trees tree size flat
    (is.units unit (record { pairs = []; trees = [] }) (omega (arith, is.count, within, ap (λ (p : Params). p.total) same))).trees below (sized ∙ ap (λ (p : Params). p.height) same)

-- both pads of a tree's transfers
pub tree_pads_are : (file : VerifierFile) (read : Params) (unit tree size : ℕ) (flat : List LeftRight) → IsVerifierFile file → read ≡ file.params
    → unit < read.total → tree < file.params.trees → size ≡ read.height → flat ≡ unit_pads (verifier_unit file unit)
    → take (tree * size + size - tree * size) (drop (tree * size) flat) ≡ get_or (verifier_unit file unit).trees tree []
tree_pads_are file read unit tree size flat is same within below sized = tree_levels_are file.params (AreBothBytes 16) (verifier_unit file unit).trees tree size flat
    (is.units unit (record { keys = []; trees = [] }) (omega (arith, is.count, within, ap (λ (p : Params). p.total) same))).trees below (sized ∙ ap (λ (p : Params). p.height) same)
