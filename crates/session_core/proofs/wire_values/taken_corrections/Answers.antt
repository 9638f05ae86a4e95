use Rattle.std.proofs.Common.{All, sym, subst}
use Rattle.std.proofs.lemmas.Result.{IfOk-weaker}
use Rattle.zk_model.specs.Field.{IsElement}
use Rattle.wire_auth.proofs.Correcting.{bits_are_elements}
use Rattle.session_core.specs.Jobs.{given_by}
use Rattle.session_core.specs.declared.wire_values.WireValues.{WireValues}
use Rattle.session_core.proofs.wire_values.taken_corrections.Goals as goal

pub returns-in-Bits-clause-elements : goal.returns-in-Bits-clause-elements
returns-in-Bits-clause-elements c = IfOk-weaker c.bit_corrections.result _ _
    (λ v counted. subst (λ (w : WireValues). All IsElement (given_by c.args.program.now w)) (sym c.in-Bits.is)
    (bits_are_elements c.args.program.now.products c.in-Bits.bits.items))
    c.bit_corrections.ensures.one_each
