use Rattle.std.proofs.Common.{subst, sym}
use Rattle.element_file.specs.Elements.{LacksElements, SaysElements}
use Rattle.element_file.specs.declared.fault.ElementsError.TheVariants.{Fault}
use Rattle.element_file.proofs.Exits.{raised}
use Rattle.element_file.proofs.OneReading.{lacks_any, lacks_count}
use Rattle.element_file.proofs.reader.read_counted.Goals as goal

pub returns-in_err-elements-clause-fault : goal.returns-in_err-elements-clause-fault
returns-in_err-elements-clause-fault c =
    raised (LacksElements c.args.need c.args.text.now) c.from_residual.result c.in_err-elements.field-0.0 c.from_residual.ensures.1
    (lacks_any c.args.need c.args.text.now c.in_err-elements.field-0.0 c.in_err-elements.ensures.fault)

pub returns-in_err-check_count-clause-fault : goal.returns-in_err-check_count-clause-fault
returns-in_err-check_count-clause-fault c =
    let text = c.args.text.now in
    raised (LacksElements c.args.need text) c.from_residual-in_err-check_count.result (Fault c.in_err-check_count.field-0.0) c.from_residual-in_err-check_count.ensures.1
    (lacks_count c.args.need text c.deref.result.now c.in_err-check_count.field-0.0 (subst (SaysElements text) (sym c.deref.ensures.value) c.in_ok-elements.ensures.elements)
    c.in_err-check_count.ensures.fault.0 c.in_err-check_count.ensures.fault.1)
