-- XORs of nodes.
use Rattle.std.proofs.Common.{◌≡◌, ℕ, ◌<◌, List, length, get_or, sym, ◌∙◌, ap, arith}
use Rattle.std.specs.Prelude.{slice_index, zip, bit_xor}
use Rattle.std.proofs.lemmas.List.{ext_get_or, get_or-map, length-map}
use Rattle.std.proofs.lemmas.Slice.Zip.{length-zip, get_or-zip}
use Rattle.zk_model.specs.Bytes.{xor_bytes}

-- bytes each of which is the XOR of two
pub xored : (left right bytes : List ℕ) → length left ≡ 16 → length right ≡ 16 → length bytes ≡ 16
    → ((j : ℕ) → j < 16 → slice_index bytes j ≡ bit_xor (slice_index left j) (slice_index right j)) → bytes ≡ xor_bytes left right
xored left right bytes long_left long_right long each =
    ext_get_or 0 bytes (xor_bytes left right) (long ∙ sym whole) (λ k below. at k (omega (arith, below, long)))
  where
    whole : length (xor_bytes left right) ≡ 16
    whole = length-map (zip left right) (λ q. bit_xor q.0 q.1) ∙ length-zip left right ∙ omega (arith, long_left, long_right)

    at : (k : ℕ) → k < 16 → get_or bytes k 0 ≡ get_or (xor_bytes left right) k 0
    at k within = each k within
        ∙ sym (get_or-map (λ q. bit_xor q.0 q.1) (zip left right) k (0, 0) 0 (omega (arith, length-zip left right, long_left, long_right, within))
        ∙ ap (λ (q : ℕ × ℕ). bit_xor q.0 q.1) (get_or-zip left right k (0, 0) (omega (arith, long_left, within)) (omega (arith, long_right, within))))
