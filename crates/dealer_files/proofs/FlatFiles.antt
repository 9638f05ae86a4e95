-- Flat lists that are dealt unit by unit are the dealt files.
use Rattle.std.proofs.Common.{◌≡◌, ℕ, ◌+◌, ◌-◌, ◌*◌, ◌<◌, ◌≤◌, List, [], refl, mul-le-mul_left, length-take-le, length-drop, length, map, flat_map, take, drop, ap, sym, ◌∙◌, arith}
use Rattle.std.specs.Prelude.{slice_range}
use Rattle.std.specs.List.{range_with_len, take-map, drop-map}
use Rattle.std.proofs.lemmas.List.{length-map}
use Rattle.std.proofs.lemmas.List.FromFn.{length-map-range_with_len}
use Rattle.zk_model.specs.Bytes.{LeftRight}
use Rattle.zk_model.specs.Mac.{Pair, fitting_key}
use Rattle.zk_model.specs.Files.{Transfer, ProverUnit, VerifierUnit, span_pairs, span_dealt_keys, prover_unit, verifier_unit, unit_transfers, unit_pads, dealt_per_unit}
use Rattle.zk_model.specs.Coins.{stream_bytes}
use Rattle.dealer_files.specs.Dealing.{by_transfer, dealt_pair, dealt_pairs, dealt_pads, dealt_transfer, dealt_key, dealt_code_seed, dealt_version, dealt_prover_unit, dealt_verifier_unit, dealt_prover, dealt_verifier}
use Rattle.zk_model.specs.declared.FileVersion.{FileVersion}
use Rattle.zk_model.specs.declared.Params.{Params}
use Rattle.zk_model.specs.declared.Span.{Span}
use Rattle.dealer_files.specs.Flat.{piece, transfers_per_unit, unit_by_unit, trees_of, flat_prover_unit, flat_verifier_unit, flat_prover, flat_verifier, AreWhole}
use Rattle.dealer_files.proofs.ByteLists.{unit_items_are}
use Rattle.dealer_files.proofs.Pieces.{map_range_same, piece_at, piece_of_range, length_joined, joined_parts}

-- ---- units

-- the pairs of a unit stand at its place
pairs_at : (params : Params) (seed : List ℕ) (pairs : List Pair)
    → pairs ≡ flat_map (dealt_pairs params seed) (range_with_len 0 params.total)
    → (unit : ℕ) → unit < params.total → piece (dealt_per_unit params) pairs unit ≡ dealt_pairs params seed unit
pairs_at params seed pairs are unit below =
    (λ i. piece (dealt_per_unit params) (are i) unit)
    ∙ piece_at (dealt_pairs params seed) (dealt_per_unit params) 0 params.total unit
    (λ u. length-map-range_with_len (dealt_pair seed u) 0 (dealt_per_unit params)) below
    ∙ ap (dealt_pairs params seed) (omega arith)

-- the piece of a list that is made item by item
piece_of_map : {A B : Type 0} (f : A → B) (size : ℕ) (items : List A) (unit : ℕ) → piece size (map f items) unit ≡ map f (piece size items unit)
piece_of_map f size items unit = ap (take size) (drop-map f (size * unit) items) ∙ take-map f size (drop (size * unit) items)

-- what stands for the transfers of a unit stands at its place, tree by tree
trees_at : {A : Type 0} (params : Params) (item : ℕ → ℕ → A) (items : List A) → items ≡ unit_by_unit params item
    → (unit : ℕ) → unit < params.total → trees_of params items unit ≡ by_transfer params (item unit)
trees_at params item items are unit below =
    (λ i. map (piece params.height (whole i)) (range_with_len 0 params.trees))
    ∙ map_range_same (piece params.height (map (item unit) (range_with_len 0 (transfers_per_unit params))))
    (λ tree. map (λ level. item unit (params.height * tree + level)) (range_with_len 0 params.height)) 0 params.trees
    (λ tree low high. piece_of_range (item unit) params.height params.trees tree (omega arith))
  where
    whole : piece (transfers_per_unit params) items unit ≡ map (item unit) (range_with_len 0 (transfers_per_unit params))
    whole =
        (λ i. piece (transfers_per_unit params) (are i) unit)
        ∙ piece_at (λ u. map (item u) (range_with_len 0 (transfers_per_unit params))) (transfers_per_unit params) 0 params.total unit
        (λ u. length-map-range_with_len (item u) 0 (transfers_per_unit params)) below
        ∙ ap (λ u. map (item u) (range_with_len 0 (transfers_per_unit params))) (omega arith)

-- ---- files

-- flat lists of the dealt pairs and transfers are the prover's dealt file
pub prover_is : (version : FileVersion) (params : Params) (seed id coin_key code_seed : List ℕ) (pairs : List Pair) (transfers : List Transfer)
    → version ≡ dealt_version params.total → id ≡ stream_bytes seed 0 → coin_key ≡ stream_bytes seed 1 → code_seed ≡ dealt_code_seed params.kind seed
    → pairs ≡ flat_map (dealt_pairs params seed) (range_with_len 0 params.total)
    → transfers ≡ unit_by_unit params (dealt_transfer seed)
    → flat_prover version params id coin_key code_seed pairs transfers ≡ dealt_prover params seed
prover_is version params seed id coin_key code_seed pairs transfers at_version at_id at_key at_seed are made = λ i. record {
  version = at_version i;
  id = at_id i;
  params = params;
  coin_key = at_key i;
  code_seed = at_seed i;
  units = map_range_same (flat_prover_unit params pairs transfers) (dealt_prover_unit params seed) 0 params.total
      (λ unit low high j. record {
        pairs = pairs_at params seed pairs are unit (omega arith) j;
        trees = trees_at params (dealt_transfer seed) transfers made unit (omega arith) j;
      }) i;
}

-- and of the keys that fit the pairs and both pads the verifier's
pub verifier_is : (version : FileVersion) (params : Params) (seed id coin_key code_seed : List ℕ) (key : ℕ) (pairs : List Pair) (keys : List ℕ) (pads : List LeftRight)
    → version ≡ dealt_version params.total → id ≡ stream_bytes seed 0 → coin_key ≡ stream_bytes seed 2 → code_seed ≡ dealt_code_seed params.kind seed → key ≡ dealt_key seed
    → keys ≡ map (fitting_key key) pairs
    → pairs ≡ flat_map (dealt_pairs params seed) (range_with_len 0 params.total)
    → pads ≡ unit_by_unit params (dealt_pads seed)
    → flat_verifier version params id coin_key code_seed key keys pads ≡ dealt_verifier params seed
verifier_is version params seed id coin_key code_seed key pairs keys pads at_version at_id at_key at_seed is fit are made = λ i. record {
  version = at_version i;
  id = at_id i;
  params = params;
  coin_key = at_key i;
  code_seed = at_seed i;
  key = is i;
  units = map_range_same (flat_verifier_unit params keys pads) (dealt_verifier_unit params seed) 0 params.total
      (λ unit low high j. record {
        keys = keys_at unit (omega arith) j;
        trees = trees_at params (dealt_pads seed) pads made unit (omega arith) j;
      }) i;
}
  where
    keys_at : (unit : ℕ) → unit < params.total → piece (dealt_per_unit params) keys unit ≡ map (fitting_key (dealt_key seed)) (dealt_pairs params seed unit)
    keys_at unit below = (λ i. piece (dealt_per_unit params) (fit i) unit)
        ∙ piece_of_map (fitting_key key) (dealt_per_unit params) pairs unit
        ∙ (λ i. map (fitting_key (is i)) (pairs_at params seed pairs are unit below i))

-- the lists are whole
pub prover_whole : (params : Params) (seed : List ℕ) (pairs : List Pair) (transfers : List Transfer)
    → pairs ≡ flat_map (dealt_pairs params seed) (range_with_len 0 params.total)
    → transfers ≡ unit_by_unit params (dealt_transfer seed)
    → AreWhole params pairs transfers
prover_whole params seed pairs transfers are made = record {
  dealt = ap length are ∙ length_joined (dealt_pairs params seed) (dealt_per_unit params) 0 params.total
      (λ u. length-map-range_with_len (dealt_pair seed u) 0 (dealt_per_unit params));
  transfers = ap length made ∙ length_joined (λ u. map (dealt_transfer seed u) (range_with_len 0 (transfers_per_unit params)))
      (transfers_per_unit params) 0 params.total (λ u. length-map-range_with_len (dealt_transfer seed u) 0 (transfers_per_unit params));
}

pub verifier_whole : (params : Params) (seed : List ℕ) (key : ℕ) (pairs : List Pair) (keys : List ℕ) (pads : List LeftRight)
    → keys ≡ map (fitting_key key) pairs
    → pairs ≡ flat_map (dealt_pairs params seed) (range_with_len 0 params.total)
    → pads ≡ unit_by_unit params (dealt_pads seed)
    → AreWhole params keys pads
verifier_whole params seed key pairs keys pads fit are made = record {
  dealt = ap length fit ∙ length-map pairs (fitting_key key)
      ∙ ap length are ∙ length_joined (dealt_pairs params seed) (dealt_per_unit params) 0 params.total
      (λ u. length-map-range_with_len (dealt_pair seed u) 0 (dealt_per_unit params));
  transfers = ap length made ∙ length_joined (λ u. map (dealt_pads seed u) (range_with_len 0 (transfers_per_unit params)))
      (transfers_per_unit params) 0 params.total (λ u. length-map-range_with_len (dealt_pads seed u) 0 (transfers_per_unit params));
}

-- ---- spans

-- the pairs of a span are a range of the flat list
pub span_pairs_are : (version : FileVersion) (params : Params) (id coin_key code_seed : List ℕ) (pairs : List Pair) (transfers : List Transfer) (span : Span)
    → span.start ≤ span.end → span.end ≤ params.total
    → slice_range pairs (dealt_per_unit params * span.start) (dealt_per_unit params * span.end)
    ≡ span_pairs (flat_prover version params id coin_key code_seed pairs transfers) span
span_pairs_are version params id coin_key code_seed pairs transfers span order within =
    sym (joined_parts {A = Pair} {U = ProverUnit} (λ unit. unit.pairs) (flat_prover_unit params pairs transfers) (record { pairs = []; trees = [] })
    (dealt_per_unit params) params.total pairs span.start span.end (λ u. refl) order within)

-- and so are the keys
pub span_keys_are : (version : FileVersion) (params : Params) (id coin_key code_seed : List ℕ) (key : ℕ) (keys : List ℕ) (pads : List LeftRight) (span : Span)
    → span.start ≤ span.end → span.end ≤ params.total
    → slice_range keys (dealt_per_unit params * span.start) (dealt_per_unit params * span.end)
    ≡ span_dealt_keys (flat_verifier version params id coin_key code_seed key keys pads) span
span_keys_are version params id coin_key code_seed key keys pads span order within =
    sym (joined_parts {A = ℕ} {U = VerifierUnit} (λ unit. unit.keys) (flat_verifier_unit params keys pads) (record { keys = []; trees = [] })
    (dealt_per_unit params) params.total keys span.start span.end (λ u. refl) order within)

-- the transfers of a unit are a range of the flat list, and so are both pads
pub unit_transfers_are : (version : FileVersion) (params : Params) (id coin_key code_seed : List ℕ) (pairs : List Pair) (transfers : List Transfer) (unit : ℕ) → AreWhole params pairs transfers
    → unit < params.total
    → slice_range transfers (transfers_per_unit params * unit) (transfers_per_unit params * (unit + 1))
    ≡ unit_transfers (prover_unit (flat_prover version params id coin_key code_seed pairs transfers) unit)
unit_transfers_are version params id coin_key code_seed pairs transfers unit whole below =
    unit_items_are {A = Transfer} {U = ProverUnit} params (λ unit. unit.trees) (flat_prover_unit params pairs transfers)
    (record { pairs = []; trees = [] }) transfers unit whole.transfers below (λ u. refl)

pub unit_pads_are : (version : FileVersion) (params : Params) (id coin_key code_seed : List ℕ) (key : ℕ) (keys : List ℕ) (pads : List LeftRight) (unit : ℕ) → AreWhole params keys pads
    → unit < params.total
    → slice_range pads (transfers_per_unit params * unit) (transfers_per_unit params * (unit + 1))
    ≡ unit_pads (verifier_unit (flat_verifier version params id coin_key code_seed key keys pads) unit)
unit_pads_are version params id coin_key code_seed key keys pads unit whole below =
    unit_items_are {A = LeftRight} {U = VerifierUnit} params (λ unit. unit.trees) (flat_verifier_unit params keys pads)
    (record { keys = []; trees = [] }) pads unit whole.transfers below (λ u. refl)

-- and as long as its units say
pub range_length : {A : Type 0} (items : List A) (each start end total : ℕ) → length items ≡ each * total → start ≤ end → end ≤ total
    → length (slice_range items (each * start) (each * end)) ≡ each * (end - start)
range_length items each start end total whole order within =
    let most : each * end ≤ each * total = mul-le-mul_left each within in
    let least : each * start ≤ each * end = mul-le-mul_left each order in
    length-take-le (each * end - each * start) (drop (each * start) items) (omega (arith, length-drop (each * start) items))
    ∙ apart each start end (end - start) (omega arith)
  where
    apart : (each a b n : ℕ) → a + n ≡ b → each * b - each * a ≡ each * n
    apart each a b n at = rw (sym at) (omega arith)

-- what is read from one place of a flat list up to another
pub range_read : {A : Type 0} (items read : List A) (each start end first last : ℕ) → read ≡ items → first ≡ each * start → last ≡ each * end
    → take (last - first) (drop first read) ≡ slice_range items (each * start) (each * end)
range_read items read each start end first last is s e = λ i. take (e i - s i) (drop (s i) (is i))

-- of a span, the items of its units
pub span_read : {A : Type 0} (params : Params) (span : Span) (items read : List A) (first last : ℕ) → read ≡ items
    → first ≡ dealt_per_unit params * span.start → last ≡ dealt_per_unit params * span.end
    → take (last - first) (drop first read) ≡ slice_range items (dealt_per_unit params * span.start) (dealt_per_unit params * span.end)
span_read params span items read = range_read items read (dealt_per_unit params) span.start span.end

-- and how many there are
pub span_count : {A : Type 0} (params held : Params) (span : Span) (items read : List A) (first last : ℕ) → read ≡ items
    → first ≡ dealt_per_unit params * span.start → last ≡ dealt_per_unit params * span.end
    → params ≡ held → length items ≡ dealt_per_unit params * params.total → span.start ≤ span.end → span.end ≤ held.total
    → length (take (last - first) (drop first read)) ≡ dealt_per_unit held * (span.end - span.start)
span_count params held span items read first last is s e same whole order within =
    ap length (span_read params span items read first last is s e)
    ∙ range_length items (dealt_per_unit params) span.start span.end params.total whole order (omega (arith, within, ap (λ (p : Params). p.total) same))
    ∙ ap (λ (p : Params). dealt_per_unit p * (span.end - span.start)) same
