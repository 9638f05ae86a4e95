-- The pairs of a session over direct files.
use Rattle.std.proofs.Common.{ℕ, ◌+◌, ◌-◌, List, [], map, refl, sym, ◌∙◌, arith}
use Rattle.std.specs.List.{range_with_len}
use Rattle.std.proofs.lemmas.List.{length-map}
use Rattle.std.proofs.lemmas.List.Folds.{flat_map-map}
use Rattle.std.proofs.lemmas.List.FromFn.{length-range_with_len, get_or-map-range_with_len}
use Rattle.zk_model.specs.Mac.{Pair}
use Rattle.zk_model.specs.Files.{ProverFile, prover_unit, span_pairs}
use Rattle.zk_model.specs.Transcript.{Setup}
use Rattle.zk_model.specs.Correlations.{IsProverView}
use Rattle.zk_model.specs.View.{span_of}

-- without rounds the prover sees the pairs that are dealt in the units of the grant
pub pairs_seen : (file : ProverFile) (setup : Setup) → IsProverView file (record setup { rounds = [] }) (span_pairs file (span_of setup.grant))
pairs_seen file setup = record {
  units = map (λ unit. (prover_unit file unit).pairs) units;
  count = length-map units (λ unit. (prover_unit file unit).pairs) ∙ length-range_with_len setup.grant.start (setup.grant.start + setup.grant.count - setup.grant.start)
      ∙ omega arith;
  each = λ i below. get_or-map-range_with_len (λ unit. (prover_unit file unit).pairs) setup.grant.start (setup.grant.start + setup.grant.count - setup.grant.start) i
      (setup.grant.start + i) [] (omega (arith, below)) refl;
  joined = sym (flat_map-map (λ (pairs : List Pair). pairs) (λ unit. (prover_unit file unit).pairs) units);
}
  where
    units : List ℕ
    units = range_with_len setup.grant.start (setup.grant.start + setup.grant.count - setup.grant.start)
