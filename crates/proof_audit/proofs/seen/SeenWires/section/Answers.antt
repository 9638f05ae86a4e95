use Rattle.std.proofs.Common.{◌≡◌, ◌<◌, ◌*◌, length, arith}
use Rattle.proof_audit.proofs.Wires.{product_more, products_of}
use Rattle.proof_audit.proofs.seen.SeenWires.section.Goals as goal

pub loop-i-preserved : goal.loop-i-preserved
loop-i-preserved c =
    product_more c.args.self.now.program c.args.self.now.pairs (c.args.s * c.args.g) c.loop-i.i c.loop-i.triples.items c.push.new.self.items c.triple.result
    c.loop-i.auto.i below c.loop-i.invariant c.triple.ensures c.in_ok-push.ensures.items
  where
    count : c.products-products.result ≡ length c.args.self.now.program.products
    count = products_of c.products-products.ensures.count c.program.ensures c.self.view_is

    below : c.loop-i.i < length c.args.self.now.program.products
    below = let m = c.min-count.ensures in let t = c.loop-i-test.true in omega (arith, t, m, count)
