use Rattle.std.proofs.Common.{◌+◌, rules, refl, arith}
use Rattle.node_grants.specs.Desks.{desk}
use Rattle.node_grants.specs.Grants.{ports_of}
use Rattle.node_grants.proofs.Grants.{draws_by, ends_by, errs_by, next_tried, none_by, still_tried}
use Rattle.node_grants.proofs.seeking.seek.Goals as goal

pub returns-in-Some : goal.returns-in-Some
returns-in-Some g c = record {
  tries = 0;
  few = omega arith;
  mid = desk c.args.node.now c.args.claims.now (g.D.Door.state c.args.door.now) c.args.tries.now.items;
  tried = refl;
  draws = draws_by c.args.count c.args.node.now c.draw.new.self c.args.claims.now (g.D.Door.state c.args.door.now) c.args.tries.now.items
      c.in-Some.span c.in-Some.ensures.some c.in-Some.ensures.drawn c.in-Some.ensures.left;
}

pub returns-in_err-try_once : goal.returns-in_err-try_once
returns-in_err-try_once g c =
    let ports = ports_of g.D.Link.Link.state g.B.Disk.state c.args.broker.now c.args.patience in
    let old = desk c.args.node.now c.args.claims.now (g.D.Door.state c.args.door.now) c.args.tries.now.items in
    let mid = desk c.tries.node c.tries.claims (g.D.Door.state c.tries.door) c.tries.tries.items in
    let new = desk c.try_once.new.node c.try_once.new.claims (g.D.Door.state c.try_once.new.door) c.try_once.new.tries.items in
    errs_by ports c.args.count c.from_residual.result c.in_err-try_once.field-0.0 old new c.from_residual.ensures.1
    (ends_by ports c.args.count c.tries.counter old mid new c.in_err-try_once.field-0.0 (omega (arith, c.tries-test.true))
    c.tries.invariant.tried c.tries.invariant.too_few c.in_err-try_once.ensures)

pub returns-in-Some-draw : goal.returns-in-Some-draw
returns-in-Some-draw g c =
    let ports = ports_of g.D.Link.Link.state g.B.Disk.state c.args.broker.now c.args.patience in
    let old = desk c.args.node.now c.args.claims.now (g.D.Door.state c.args.door.now) c.args.tries.now.items in
    let mid = desk c.tries.node c.tries.claims (g.D.Door.state c.tries.door) c.tries.tries.items in
    let new = desk c.try_once.new.node c.try_once.new.claims (g.D.Door.state c.try_once.new.door) c.try_once.new.tries.items in
    record {
      tries = c.tries.counter + 1;
      few = omega (arith, c.tries-test.true);
      mid = new;
      tried = next_tried ports c.args.count c.tries.counter old mid new c.tries.invariant.tried c.tries.invariant.too_few c.in_ok-try_once.ensures;
      draws = draws_by c.args.count c.try_once.new.node c.draw-in-tries.new.self c.try_once.new.claims (g.D.Door.state c.try_once.new.door)
          c.try_once.new.tries.items c.in-Some-draw.span c.in-Some-draw.ensures.some c.in-Some-draw.ensures.drawn c.in-Some-draw.ensures.left;
    }

pub tries-preserved : goal.tries-preserved
tries-preserved g c =
    let ports = ports_of g.D.Link.Link.state g.B.Disk.state c.args.broker.now c.args.patience in
    let old = desk c.args.node.now c.args.claims.now (g.D.Door.state c.args.door.now) c.args.tries.now.items in
    let mid = desk c.tries.node c.tries.claims (g.D.Door.state c.tries.door) c.tries.tries.items in
    let new = desk c.try_once.new.node c.try_once.new.claims (g.D.Door.state c.try_once.new.door) c.try_once.new.tries.items in
    let went = next_tried ports c.args.count c.tries.counter old mid new c.tries.invariant.tried c.tries.invariant.too_few c.in_ok-try_once.ensures in
    still_tried ports c.args.count (c.tries.counter + 1) old c.try_once.new.node c.draw-in-tries.new.self c.try_once.new.claims (g.D.Door.state c.try_once.new.door)
    c.try_once.new.tries.items (c.in_default-draw.ensures.kept refl) (c.in_default-draw.ensures.none refl) went

pub returns : goal.returns
returns g c =
    none_by (ports_of g.D.Link.Link.state g.B.Disk.state c.args.broker.now c.args.patience) c.args.count c.tries.counter
    (desk c.args.node.now c.args.claims.now (g.D.Door.state c.args.door.now) c.args.tries.now.items)
    (desk c.tries.node c.tries.claims (g.D.Door.state c.tries.door) c.tries.tries.items)
    (search rules) c.tries.invariant.tried c.tries.invariant.too_few
