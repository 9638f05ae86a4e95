use Rattle.std.specs.Prelude.{slice_index_or}
use Rattle.mult_check.proofs.Streaming.{given_item, some_item}
use Rattle.mult_check.proofs.walked.next_item.Goals as goal

pub unreachable-requires : goal.unreachable-requires
unreachable-requires g c =
    let item = some_item (g.W.Walk.all c.args.walk.now) (g.W.Walk.met c.args.walk.now) c.requires in
    c.in_default.not-Some (slice_index_or (g.W.Walk.all c.args.walk.now) (g.W.Walk.met c.args.walk.now) item) (c.give.ensures.item item c.requires)

pub returns-clause-item : goal.returns-clause-item
returns-clause-item g c = given_item (g.W.Walk.all c.args.walk.now) (g.W.Walk.met c.args.walk.now) c.in-Some.item c.give.result c.in-Some.is (c.give.ensures.item c.in-Some.item c.requires)
