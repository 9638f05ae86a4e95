-- Keys that fit the inputs of the code fit its outputs.
use Rattle.std.proofs.Common.{◌≡◌, ℕ, zero, suc, ◌+◌, ◌*◌, ◌%◌, List, [], ◌∷◌, map, length, slice_index, drop, refl, sym, ◌∙◌, ap, arith, sum_by}
use Rattle.std.specs.List.{enumerate_from}
use Rattle.std.proofs.lemmas.List.{length-map}
use Rattle.std.proofs.lemmas.List.Sums.{sum_by-cons}
use Rattle.mersenne_field.proofs.Congruence.{same-+}
use Rattle.mersenne_field.proofs.FieldLaws.{fitting_key-mod}
use Rattle.mersenne_field.proofs.Flatten.{flatten}
use Rattle.zk_model.specs.Field.{prime, ◌+ₚ◌, ◌*ₚ◌}
use Rattle.zk_model.specs.Mac.{Pair, values_of, macs_of, fitting_key}
use Rattle.zk_model.specs.Extension.{code_column, code_outputs}

-- a key of sums, over plain numbers
pub sum_fits : (key m x : ℕ) → m % prime +ₚ x % prime *ₚ key ≡ (m + x * key) % prime
sum_fits key m x = simp flatten (omega arith)

-- a key fits at every place, beyond the end too
key_at : (key : ℕ) (pairs : List Pair) (i : ℕ) → slice_index (map (fitting_key key) pairs) i % prime
    ≡ (slice_index (macs_of pairs) i + slice_index (values_of pairs) i * key) % prime
key_at key [] i = ap (λ n. n % prime) none
  where
    none : 0 ≡ 0 + 0 * key
    none = omega arith
key_at key (pair ∷ pairs) zero = fitting_key-mod key pair
key_at key (pair ∷ pairs) (suc i) = key_at key pairs i

-- sums of keys fit sums of pairs
column_fits : (key : ℕ) (pairs : List Pair) (places : List ℕ) → sum_by (slice_index (map (fitting_key key) pairs)) places % prime
    ≡ (sum_by (slice_index (macs_of pairs)) places + sum_by (slice_index (values_of pairs)) places * key) % prime
column_fits key pairs [] = ap (λ n. n % prime) none
  where
    none : 0 ≡ 0 + 0 * key
    none = omega arith
column_fits key pairs (i ∷ places) =
    ap (λ n. n % prime) (sum_by-cons keys i places)
    ∙ same-+ prime (keys i) (macs i + values i * key) (sum_by keys places) (sum_by macs places + sum_by values places * key)
    (key_at key pairs i) (column_fits key pairs places)
    ∙ ap (λ n. n % prime) (regroup (macs i) (values i) (sum_by macs places) (sum_by values places)
    ∙ (λ j. sym (sum_by-cons macs i places) j + sym (sum_by-cons values i places) j * key))
  where
    keys : ℕ → ℕ
    keys = slice_index (map (fitting_key key) pairs)

    macs : ℕ → ℕ
    macs = slice_index (macs_of pairs)

    values : ℕ → ℕ
    values = slice_index (values_of pairs)

    regroup : (m x ms xs : ℕ) → m + x * key + (ms + xs * key) ≡ m + ms + (x + xs) * key
    regroup m x ms xs = omega arith

-- keys of entries, each with a sum added, fit the entries with their sums added
outputs_fit : (key a : ℕ) (keys macs values : ℕ → ℕ) (entries pairs : List Pair)
    → ((j : ℕ) → keys j % prime ≡ (macs j + values j * key) % prime)
    → values_of pairs ≡ map (λ entry. (values entry.0 + entry.1) % prime) (enumerate_from a (values_of entries))
    → macs_of pairs ≡ map (λ entry. (macs entry.0 + entry.1) % prime) (enumerate_from a (macs_of entries))
    → map (λ entry. (keys entry.0 + entry.1) % prime) (enumerate_from a (map (fitting_key key) entries)) ≡ map (fitting_key key) pairs
outputs_fit key a keys macs values [] [] sums xs ms = refl
outputs_fit key a keys macs values [] (pair ∷ pairs) sums xs ms = let count = ap length xs in absurd (omega (arith, count))
outputs_fit key a keys macs values (entry ∷ entries) [] sums xs ms = let count = ap length xs in absurd (omega (arith, count))
outputs_fit key a keys macs values (entry ∷ entries) (pair ∷ pairs) sums xs ms =
    λ i. first i ∷ outputs_fit key (a + 1) keys macs values entries pairs sums (ap (drop 1) xs) (ap (drop 1) ms) i
  where
    value : pair.x ≡ (values a + entry.x) % prime
    value = ap (λ l. slice_index l 0) xs

    mac : pair.m ≡ (macs a + entry.m) % prime
    mac = ap (λ l. slice_index l 0) ms

    regroup : (m x n y : ℕ) → m + x * key + (n + y * key) ≡ m + n + (x + y) * key
    regroup m x n y = omega arith

    first : (keys a + fitting_key key entry) % prime ≡ fitting_key key pair
    first = same-+ prime (keys a) (macs a + values a * key) (fitting_key key entry) (entry.m + entry.x * key) (sums a) (fitting_key-mod key entry)
        ∙ ap (λ n. n % prime) (regroup (macs a) (values a) entry.m entry.x)
        ∙ sym (sum_fits key (macs a + entry.m) (values a + entry.x))
        ∙ (λ i. sym mac i +ₚ sym value i *ₚ key)

-- the code's outputs over keys fit its outputs over pairs
pub code_keys_fit : (key : ℕ) (code_seed : List ℕ) (base entries pairs : List Pair)
    → values_of pairs ≡ code_outputs code_seed (values_of base) (values_of entries)
    → macs_of pairs ≡ code_outputs code_seed (macs_of base) (macs_of entries)
    → code_outputs code_seed (map (fitting_key key) base) (map (fitting_key key) entries) ≡ map (fitting_key key) pairs
code_keys_fit key code_seed base entries pairs xs ms =
    outputs_fit key 0 (sums (map (fitting_key key) base)) (sums (macs_of base)) (sums (values_of base)) entries pairs fit xs ms
  where
    sums : List ℕ → ℕ → ℕ
    sums elements j = sum_by (slice_index elements) (code_column code_seed (length elements) j)

    fit : (j : ℕ) → sums (map (fitting_key key) base) j % prime ≡ (sums (macs_of base) j + sums (values_of base) j * key) % prime
    fit j = ap (λ n. sum_by (slice_index (map (fitting_key key) base)) (code_column code_seed n j) % prime) (length-map base (fitting_key key))
        ∙ column_fits key base (code_column code_seed (length base) j)
        ∙ (λ i. (sum_by (slice_index (macs_of base)) (code_column code_seed (sym (length-map base (λ pair. pair.m)) i) j)
        + sum_by (slice_index (values_of base)) (code_column code_seed (sym (length-map base (λ pair. pair.x)) i) j) * key) % prime)
