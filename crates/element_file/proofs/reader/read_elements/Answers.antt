use Rattle.std.proofs.Common.{sym, subst}
use Rattle.element_file.specs.Elements.{SaysNoElements}
use Rattle.element_file.specs.declared.fault.ElementsError.TheVariants.{Fault}
use Rattle.element_file.proofs.Reading.{IsReadSoFar, bad_value, none_read}
use Rattle.element_file.proofs.Exits.{raised}
use Rattle.element_file.proofs.reader.read_elements.Goals as goal

pub loop-elements-init : goal.loop-elements-init
loop-elements-init c =
    subst (IsReadSoFar c.args.text.now c.new-tokens.result) (sym c.new-elements.ensures.items) (none_read c.args.text.now c.new-tokens.result c.new-tokens.ensures)

pub returns-in_err-element-clause-fault : goal.returns-in_err-element-clause-fault
returns-in_err-element-clause-fault c =
    raised (SaysNoElements c.args.text.now) c.from_residual.result (Fault c.in_err-element.field-0.0) c.from_residual.ensures.1
    (bad_value c.args.text.now c.loop-elements.tokens c.loop-elements.elements.items c.in_err-element.field-0.0 c.loop-elements.invariant c.in_err-element.ensures.fault)
