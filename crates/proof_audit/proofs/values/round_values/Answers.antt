use Rattle.std.proofs.Common.{◌≡◌, ◌+◌, ◌++◌, [], get_or, ap, ◌∙◌}
use Rattle.dealer_files.proofs.Pieces.{flat_map_range_more}
use Rattle.zk_model.specs.Files.{prover_unit}
use Rattle.zk_model.specs.Frames.{AreAsks}
use Rattle.session_core.specs.Extending.{asks_of}
use Rattle.session_core.proofs.Rounds.{asks_at}
use Rattle.proof_audit.specs.SeenValues.{unit_values}
use Rattle.proof_audit.proofs.values.round_values.Goals as goal

-- the asks of unit i
asked : (c : goal.After-asks_in) → (c.asks_in.result.now ≡ get_or (asks_of c.args.asked.now) c.loop-i.i [])
    × AreAsks c.args.file.now.params.height c.args.file.now.params.trees c.asks_in.result.now
asked c = asks_at (AreAsks c.args.file.now.params.height c.args.file.now.params.trees) c.args.asked.now c.loop-i.i c.index-asked-i.result
    c.asks_in.result.now c.requires.asks c.loop-i-test.true c.index-asked-i.is c.asks_in.ensures

pub unit_values-requires-clause-asks : goal.unit_values-requires-clause-asks
unit_values-requires-clause-asks c = (asked c).1

pub loop-i-preserved : goal.loop-i-preserved
loop-i-preserved c =
    let asked = (asks_at (AreAsks c.args.file.now.params.height c.args.file.now.params.trees) c.args.asked.now c.loop-i.i c.index-asked-i.result
    c.asks_in.result.now c.requires.asks c.loop-i-test.true c.index-asked-i.is c.asks_in.ensures).0 in
    flat_map_range_more (λ i. unit_values c.args.file.now.params c.args.file.now.code_seed (prover_unit c.args.file.now (c.args.start + i))
    (get_or (asks_of c.args.asked.now) i []))
    c.loop-i.values.items c.extend_from_slice.new.self.items c.in_ok-more.more.items c.loop-i.i
    (c.in_ok-extend_from_slice.ensures.items ∙ ap (λ more. c.loop-i.values.items ++ more) c.deref.ensures.value)
    (c.in_ok-more.ensures
    ∙ ap (unit_values c.args.file.now.params c.args.file.now.code_seed (prover_unit c.args.file.now (c.args.start + c.loop-i.i))) asked)
    c.loop-i.invariant
