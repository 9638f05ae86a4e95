-- Outputs, one after another.
use Rattle.std.proofs.Common.{◌≡◌, ℕ, ◌+◌, ◌<◌, List, [], ◌∷◌, ◌++◌, length, map, get_or, below_more, sym, ◌∙◌, ap, arith, length-append}
use Rattle.std.specs.List.{enumerate_from}
use Rattle.std.proofs.Math.ListN.{get_or-append}
use Rattle.std.proofs.lemmas.List.{ext_get_or, get_or_push, get_or-map, length-map}
use Rattle.std.proofs.lemmas.List.FromFn.{length-enumerate_from, get_or-enumerate_from}

-- the first outputs, each of its place and its entry of noise
pub record AreOutputs (f : ℕ → ℕ → ℕ) (noise outputs : List ℕ) (j : ℕ) : Type 0 where
  pub count : length outputs ≡ j
  pub each : (k : ℕ) → k < j → get_or outputs k 0 ≡ f k (get_or noise k 0)

-- one output more
pub outputs_more : (f : ℕ → ℕ → ℕ) (noise before now : List ℕ) (j output : ℕ) → output ≡ f j (get_or noise j 0)
    → now ≡ before ++ output ∷ [] → AreOutputs f noise before j → AreOutputs f noise now (j + 1)
outputs_more f noise before now j output is pushed far = record {
  count = ap length pushed ∙ length-append before (output ∷ []) ∙ omega (arith, far.count);
  each = below_more _ _
      (λ k below. ap (λ l. get_or l k 0) pushed ∙ get_or-append before (output ∷ []) 0 k (omega (arith, below, far.count)) ∙ far.each k below)
      (ap (λ l. get_or l j 0) pushed ∙ get_or_push before output 0 j far.count ∙ is);
}

-- all outputs
pub outputs_all : (f : ℕ → ℕ → ℕ) (noise outputs : List ℕ) (j : ℕ) → j ≡ length noise → AreOutputs f noise outputs j
    → outputs ≡ map (λ entry. f entry.0 entry.1) (enumerate_from 0 noise)
outputs_all f noise outputs j end far =
    ext_get_or 0 outputs (map (λ entry. f entry.0 entry.1) entries) (far.count ∙ end ∙ sym whole)
    (λ k below. far.each k (omega (arith, below, far.count)) ∙ sym (at k (omega (arith, below, far.count, end))))
  where
    entries : List (ℕ × ℕ)
    entries = enumerate_from 0 noise

    long : length entries ≡ length noise
    long = length-enumerate_from 0 noise

    whole : length (map (λ (entry : ℕ × ℕ). f entry.0 entry.1) entries) ≡ length noise
    whole = length-map entries (λ (entry : ℕ × ℕ). f entry.0 entry.1) ∙ long

    from_zero : (k : ℕ) → 0 + k ≡ k
    from_zero k = omega arith

    at : (k : ℕ) → k < length noise → get_or (map (λ (entry : ℕ × ℕ). f entry.0 entry.1) entries) k 0 ≡ f k (get_or noise k 0)
    at k below = get_or-map (λ (entry : ℕ × ℕ). f entry.0 entry.1) entries k (0, 0) 0 (omega (arith, below, long))
        ∙ ap (λ (entry : ℕ × ℕ). f entry.0 entry.1) (get_or-enumerate_from 0 noise k (0, 0) below)
        ∙ ap (λ n. f n (get_or noise k 0)) (from_zero k)
