-- Pads come off as they went on.
use Rattle.std.proofs.Common.{◌≡◌, ℕ, ◌+◌, ◌<◌, ◌≤◌, true, false, List, [], ◌∷◌, length, get_or, set, get_or-set_other, get_or-set_same, below_more, refl, sym, ◌∙◌, ap, arith}
use Rattle.std.specs.Prelude.{zip, bit_xor}
use Rattle.std.specs.Int.Bits.{xor_self, xor_zero_r, xor_assoc}
use Rattle.std.proofs.lemmas.List.{ext_get_or, length-set, get_or-map, length-map}
use Rattle.std.proofs.lemmas.Slice.Zip.{length-zip, get_or-zip}
use Rattle.zk_model.specs.Bytes.{xor_bytes}
use Rattle.pad_transfer.specs.Laws.{ChosenIsUnmasked}

-- a number that is XORed twice is gone
twice : (x z : ℕ) → bit_xor (bit_xor x z) z ≡ x
twice x z = xor_assoc x z z ∙ ap (bit_xor x) (xor_self z) ∙ xor_zero_r x

-- and so is a pad
pad_twice : (message pad : List ℕ) → length pad ≡ length message → xor_bytes (xor_bytes message pad) pad ≡ message
pad_twice [] pad same = refl
pad_twice (x ∷ message) [] same = absurd (omega (arith, same))
pad_twice (x ∷ message) (z ∷ pad) same = λ i. twice x z i ∷ pad_twice message pad (omega (arith, same)) i

-- the receiver gets what it chose
pub chosen_is_unmasked : ChosenIsUnmasked
chosen_is_unmasked pads messages false false pad message = pad_twice messages.left pads.left (pad.0.0 ∙ sym message.0.0)
chosen_is_unmasked pads messages false true pad message = pad_twice messages.right pads.left (pad.0.0 ∙ sym message.1.0)
chosen_is_unmasked pads messages true false pad message = pad_twice messages.left pads.right (pad.1.0 ∙ sym message.0.0)
chosen_is_unmasked pads messages true true pad message = pad_twice messages.right pads.right (pad.1.0 ∙ sym message.1.0)

-- ---- a XOR that is made place by place

-- bytes that are the XOR of two texts below an index, and those of the left one from there on
pub record IsXored (left right bytes : List ℕ) (index : ℕ) : Type 0 where
  pub long : length bytes ≡ length left
  pub written : (k : ℕ) → k < index → get_or bytes k 0 ≡ bit_xor (get_or left k 0) (get_or right k 0)
  pub kept : (k : ℕ) → index ≤ k → get_or bytes k 0 ≡ get_or left k 0

-- one byte more
pub xored_more : (left right bytes : List ℕ) (index : ℕ) → index < length bytes → IsXored left right bytes index
    → IsXored left right (set bytes index (bit_xor (get_or bytes index 0) (get_or right index 0))) (index + 1)
xored_more left right bytes index within so_far = record {
  long = length-set bytes index next ∙ so_far.long;
  written = below_more _ _
      (λ k below. get_or-set_other bytes index k next 0 (λ e. omega (arith, below, e)) ∙ so_far.written k below)
      (get_or-set_same bytes index next 0 within ∙ ap (λ n. bit_xor n (get_or right index 0)) (so_far.kept index (omega arith)));
  kept = λ k from. get_or-set_other bytes index k next 0 (λ e. omega (arith, from, e)) ∙ so_far.kept k (omega (arith, from));
}
  where
    next : ℕ
    next = bit_xor (get_or bytes index 0) (get_or right index 0)

-- all bytes
pub xored_all : (left right bytes : List ℕ) (index : ℕ) → length right ≡ length left → length left ≤ index
    → IsXored left right bytes index → bytes ≡ xor_bytes left right
xored_all left right bytes index same done so_far =
    ext_get_or 0 bytes (xor_bytes left right) (so_far.long ∙ sym whole) (λ k below. at k (omega (arith, below, so_far.long)))
  where
    whole : length (xor_bytes left right) ≡ length left
    whole = length-map (zip left right) (λ q. bit_xor q.0 q.1) ∙ length-zip left right ∙ omega (arith, same)

    at : (k : ℕ) → k < length left → get_or bytes k 0 ≡ get_or (xor_bytes left right) k 0
    at k within = so_far.written k (omega (arith, within, done))
        ∙ sym (get_or-map (λ q. bit_xor q.0 q.1) (zip left right) k (0, 0) 0 (omega (arith, length-zip left right, same, within))
        ∙ ap (λ (q : ℕ × ℕ). bit_xor q.0 q.1) (get_or-zip left right k (0, 0) within (omega (arith, same, within))))
