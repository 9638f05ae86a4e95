-- Entries as a noise vector.
use Rattle.std.proofs.Common.{◌≡◌, ℕ, ◌+◌, ◌-◌, ◌%◌, List, map, sum, sym, ◌∙◌, ap}
use Rattle.std.specs.List.{enumerate_from}
use Rattle.std.proofs.Math.Nat.{mod-mod}
use Rattle.zk_model.specs.Field.{prime, ◌-ₚ◌}
use Rattle.zk_model.specs.Mac.{Pair}
use Rattle.sparse_vole.specs.Noise.{IsNoise, entry_at}

-- to take away what a sum leaves is to take away the sum
pub minus_sum : (a s : ℕ) → a -ₚ (s % prime) ≡ a -ₚ s
minus_sum a s = ap (λ n. (a + (prime - n)) % prime) (mod-mod s prime)

-- entries with this hidden pair are the noise vector of whatever is corrected to the value and the MAC
pub noise_is : (alpha noise base_mac leaf_offset mac : ℕ) (leaves : List ℕ) (entries : List Pair)
    → mac ≡ base_mac -ₚ leaf_offset -ₚ (sum leaves % prime)
    → entries ≡ map (entry_at alpha (record { x = noise; m = mac })) (enumerate_from 0 leaves)
    → IsNoise alpha noise base_mac leaf_offset leaves entries
noise_is alpha noise base_mac leaf_offset mac leaves entries is made base correction same =
    made ∙ (λ i. map (entry_at alpha (record { x = noise; m = (is ∙ minus_sum (base_mac -ₚ leaf_offset) (sum leaves)) i })) (enumerate_from 0 leaves))
    ∙ (λ i. map (entry_at alpha (record { x = (sym same i).x; m = (sym same i).m -ₚ leaf_offset -ₚ sum leaves })) (enumerate_from 0 leaves))
