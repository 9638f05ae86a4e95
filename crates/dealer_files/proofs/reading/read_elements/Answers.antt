use Rattle.dealer_files.specs.Reading.{an_element}
use Rattle.dealer_files.proofs.ReadItems.{one_appended, element_good}
use Rattle.dealer_files.proofs.reading.read_elements.Goals as goal

pub loop-i-preserved : goal.loop-i-preserved
loop-i-preserved c = (
  one_appended an_element c.args.elements.now.items c.loop-i.elements.items c.push.new.self.items c.in_ok-element.element c.loop-i.i c.args.bytes.now c.args.at
      c.in_ok-push.ensures.items c.in_ok-element.ensures.read c.in_ok-element.ensures.element c.loop-i.invariant.0,
  element_good c.args.bytes.now c.args.at c.loop-i.i c.in_ok-element.ensures.good c.loop-i.invariant.1,
)
