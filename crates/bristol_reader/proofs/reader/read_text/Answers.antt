use Rattle.std.proofs.Common.{subst}
use Rattle.bristol_reader.specs.TextFaults.{HeaderWants}
use Rattle.bristol_reader.specs.declared.fault.ReadError.TheVariants.{Fault}
use Rattle.bristol_reader.specs.Reads.{TextCause}
use Rattle.bristol_reader.specs.Wants.{IsFaultBehind}
use Rattle.zk_model.specs.ArithFaults.{Place}
use Rattle.bristol_reader.proofs.BodySteps.{header_fault}
use Rattle.bristol_reader.proofs.Exits.{raised}
use Rattle.bristol_reader.proofs.reader.read_text.Goals as goal

pub returns-in_err-header-clause-cause : goal.returns-in_err-header-clause-cause
returns-in_err-header-clause-cause c =
    raised (TextCause c.args.text.now) c.from_residual.result (Fault c.in_err-header.field-0.0) c.from_residual.ensures.1
    (header_fault c.args.text.now c.in_err-header.field-0.0
    (subst (λ (p : Place). IsFaultBehind HeaderWants p c.in_err-header.field-0.0) c.new-tokens.ensures c.in_err-header.ensures.fault))
