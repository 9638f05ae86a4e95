use Rattle.std.proofs.Common.{◌+◌, ◌*◌, arith, rules, refl}
use Rattle.dealer_files.specs.Reading.{a_pair}
use Rattle.dealer_files.proofs.ReadItems.{one_appended, two_good, two_8, element_good, element_fault}
use Rattle.dealer_files.proofs.reading.read_pairs.Goals as goal

pub loop-j-preserved : goal.loop-j-preserved
loop-j-preserved c = (
  one_appended a_pair c.args.pairs.now.items c.loop-j.pairs.items c.push.new.self.items (record { x = c.in_ok-x.x; m = c.in_ok-m.m }) c.loop-j.j
      c.args.bytes.now c.args.at c.in_ok-push.ensures.items
      (two_8 c.args.bytes.now c.args.at c.loop-j.j _ _ c.in_ok-x.ensures.read c.in_ok-m.ensures.read) (c.in_ok-x.ensures.element, c.in_ok-m.ensures.element) c.loop-j.invariant.0,
  two_good c.args.bytes.now c.args.at c.loop-j.j c.in_ok-x.ensures.good c.in_ok-m.ensures.good c.loop-j.invariant.1,
)

pub returns-in_err-m-clause-fault : goal.returns-in_err-m-clause-fault
returns-in_err-m-clause-fault c =
    let is = element_fault c.args.bytes.now c.args.at (2 * c.args.count) (2 * c.loop-j.j + 1) _ _ c.in_err-m.ensures.fault (omega arith) refl c.in_err-m.ensures.bad
    (element_good c.args.bytes.now c.args.at (2 * c.loop-j.j) c.in_ok-x.ensures.good c.loop-j.invariant.1) in
    search (rules, is)
