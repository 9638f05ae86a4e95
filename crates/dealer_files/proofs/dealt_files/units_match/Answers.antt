use Rattle.std.proofs.Common.{refl}
use Rattle.zk_model.specs.Mac.{AreKeysOf}
use Rattle.zk_model.specs.Files.{prover_unit, verifier_unit}
use Rattle.dealer_files.proofs.Matching.{unit_pairs_are, unit_keys_are, unit_matches, pads_of_match}
use Rattle.dealer_files.proofs.dealt_files.units_match.Goals as goal

pub returns : goal.returns
returns c =
    let p = c.args.prover.now in
    let v = c.args.verifier.now in
    let unit = c.args.unit in
    let fits : AreKeysOf v.key (prover_unit p unit).pairs (verifier_unit v unit).keys =
    rw (← c.key.ensures.key, ← unit_pairs_are p unit, ← c.pairs.ensures.pairs, ← unit_keys_are v unit, ← c.keys.ensures.keys) (c.if-not-keys_fit.ensures.0 refl) in (
      λ yes. unit_matches p v unit c.requires.files.0 c.requires.files.1 c.requires.params c.requires.within fits
          (rw (← c.transfers.ensures.transfers, ← c.pads.ensures.pads) (c.pads_fit.ensures.0 yes)),
      λ match. c.pads_fit.ensures.1 (rw (c.transfers.ensures.transfers, c.pads.ensures.pads) (pads_of_match p v unit match)),
    )
