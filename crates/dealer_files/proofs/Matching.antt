-- Unit by unit, whether two files are of one dealing.
use Rattle.std.proofs.Common.{◌≡◌, ℕ, ◌+◌, ◌-◌, ◌<◌, List, [], length, flat_map, take, ap, sym, ◌∙◌, arith, append-nil, length-take-le}
use Rattle.std.specs.List.{AllZip, range_with_len}
use Rattle.std.proofs.lemmas.List.{get_or-take}
use Rattle.zk_model.specs.Mac.{AreKeysOf}
use Rattle.zk_model.specs.Files.{ProverUnit, VerifierUnit, ProverFile, VerifierFile, IsProverFile, IsVerifierFile, UnitsMatch, AreDealt, prover_unit, verifier_unit, unit_transfers, unit_pads, span_pairs, span_dealt_keys}
use Rattle.dealer_files.specs.Dealt.{HeadsAgree, NamesItsPad, MatchAt, IsFirstUnmatched}
use Rattle.dealer_files.proofs.Zips.{all_zip_at, all_zip_more, all_zip_whole, zip_of_joined, joined_of_zip}

-- ---- one unit

one_of : {X : Type 0} (f : ℕ → List X) (unit : ℕ) → flat_map f (range_with_len unit (unit + 1 - unit)) ≡ f unit
one_of f unit = let one : unit + 1 - unit ≡ 1 = omega arith in ap (λ n. flat_map f (range_with_len unit n)) one ∙ append-nil (f unit)

-- the span of one unit
pub unit_pairs_are : (file : ProverFile) (unit : ℕ) → span_pairs file (record { start = unit; end = unit + 1 }) ≡ (prover_unit file unit).pairs
unit_pairs_are file unit = one_of (λ u. (prover_unit file u).pairs) unit

pub unit_keys_are : (file : VerifierFile) (unit : ℕ) → span_dealt_keys file (record { start = unit; end = unit + 1 }) ≡ (verifier_unit file unit).keys
unit_keys_are file unit = one_of (λ u. (verifier_unit file u).keys) unit

-- the halves of a unit fit where the keys do and each pad is the one that its bit names
pub unit_matches : (prover : ProverFile) (verifier : VerifierFile) (unit : ℕ) → IsProverFile prover → IsVerifierFile verifier
    → prover.params ≡ verifier.params → unit < prover.params.total
    → AreKeysOf verifier.key (prover_unit prover unit).pairs (verifier_unit verifier unit).keys
    → AllZip NamesItsPad (unit_transfers (prover_unit prover unit)) (unit_pads (verifier_unit verifier unit))
    → MatchAt prover verifier unit
unit_matches prover verifier unit left right same below keys pads =
    let half = left.units unit (record { pairs = []; trees = [] }) (omega (arith, left.count)) in
    let other = right.units unit (record { keys = []; trees = [] }) (omega (arith, right.count, ap (λ params. params.total) same)) in
    record {
      keys = keys;
      pads = joined_of_zip NamesItsPad prover.params.height (prover_unit prover unit).trees (verifier_unit verifier unit).trees
          (half.trees.0 ∙ ap (λ params. params.trees) same ∙ sym other.trees.0)
          (λ k d within. (half.trees.1 k d within).0)
          (λ k d within. (other.trees.1 k d within).0 ∙ sym (ap (λ params. params.height) same))
          pads;
    }

-- and only there
pub pads_of_match : (prover : ProverFile) (verifier : VerifierFile) (unit : ℕ) → MatchAt prover verifier unit
    → AllZip NamesItsPad (unit_transfers (prover_unit prover unit)) (unit_pads (verifier_unit verifier unit))
pads_of_match prover verifier unit match =
    zip_of_joined NamesItsPad (prover_unit prover unit).trees (verifier_unit verifier unit).trees match.pads

-- ---- all units

-- the units before this one match
pub record MatchBefore (prover : ProverFile) (verifier : VerifierFile) (n : ℕ) : Type 0 where
  pub units : AllZip (UnitsMatch verifier.key) (take n prover.units) (take n verifier.units)

same_count : (prover : ProverFile) (verifier : VerifierFile) → IsProverFile prover → IsVerifierFile verifier → HeadsAgree prover verifier
    → length prover.units ≡ length verifier.units
same_count prover verifier left right heads = left.count ∙ ap (λ params. params.total) heads.params ∙ sym right.count

pub match_more : (prover : ProverFile) (verifier : VerifierFile) (unit : ℕ) → IsProverFile prover → IsVerifierFile verifier → HeadsAgree prover verifier
    → unit < prover.params.total → MatchBefore prover verifier unit → MatchAt prover verifier unit → MatchBefore prover verifier (unit + 1)
match_more prover verifier unit left right heads below far here = record {
  units = all_zip_more (UnitsMatch verifier.key) prover.units verifier.units unit (record { pairs = []; trees = [] }) (record { keys = []; trees = [] })
      (omega (arith, left.count)) (same_count prover verifier left right heads) far.units here;
}

pub all_match : (prover : ProverFile) (verifier : VerifierFile) (n : ℕ) → IsProverFile prover → IsVerifierFile verifier → HeadsAgree prover verifier
    → n ≡ prover.params.total → MatchBefore prover verifier n → AreDealt prover verifier
all_match prover verifier n left right heads whole far = record {
  id = heads.id;
  params = heads.params;
  code_seed = heads.code_seed;
  key = right.key_set;
  units = all_zip_whole (UnitsMatch verifier.key) prover.units verifier.units n (left.count ∙ sym whole) (same_count prover verifier left right heads) far.units;
}

pub heads_of : (prover : ProverFile) (verifier : VerifierFile) → AreDealt prover verifier → HeadsAgree prover verifier
heads_of prover verifier are = record { id = are.id; params = are.params; code_seed = are.code_seed }

pub match_of : (prover : ProverFile) (verifier : VerifierFile) (unit : ℕ) → IsProverFile prover → unit < prover.params.total
    → AreDealt prover verifier → MatchAt prover verifier unit
match_of prover verifier unit left below are =
    all_zip_at (UnitsMatch verifier.key) prover.units verifier.units unit (record { pairs = []; trees = [] }) (record { keys = []; trees = [] })
    are.units (omega (arith, left.count))

-- the first unit that does not match
pub first_unmatched : (prover : ProverFile) (verifier : VerifierFile) (unit : ℕ) → IsProverFile prover → HeadsAgree prover verifier
    → unit < prover.params.total → MatchBefore prover verifier unit → ¬ MatchAt prover verifier unit → IsFirstUnmatched prover verifier unit
first_unmatched prover verifier unit left heads below far apart = record {
  heads = heads;
  within = below;
  earlier = λ u less.
      let none : ProverUnit = record { pairs = []; trees = [] } in
      let nil : VerifierUnit = record { keys = []; trees = [] } in
      let taken : length (take unit prover.units) ≡ unit = length-take-le unit prover.units (omega (arith, left.count)) in
      let at = all_zip_at (UnitsMatch verifier.key) (take unit prover.units) (take unit verifier.units) u none nil far.units (omega (arith, taken)) in
      rw (get_or-take unit prover.units u none less) at (rw (get_or-take unit verifier.units u nil less) at at);
  unmatched = apart;
}
