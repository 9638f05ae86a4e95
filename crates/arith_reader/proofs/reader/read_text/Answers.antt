use Rattle.std.proofs.Common.{ap, sym, ◌∙◌}
use Rattle.std.specs.Prelude.{Ok}
use Rattle.arith_reader.specs.declared.fault.ReadError.TheVariants.{Fault}
use Rattle.arith_reader.specs.Reads.{TextCause}
use Rattle.arith_reader.proofs.Exact.{text_said}
use Rattle.arith_reader.proofs.Exits.{raised}
use Rattle.arith_reader.proofs.Texts.{header_fault, rows_cause, rows_found}
use Rattle.arith_reader.proofs.reader.read_text.Goals as goal

pub returns-in_err-header-clause-cause : goal.returns-in_err-header-clause-cause
returns-in_err-header-clause-cause c =
    raised (TextCause c.args.text.now) c.from_residual.result (Fault c.in_err-header.field-0.0) c.from_residual.ensures.1
    (header_fault c.args.text.now c.new-tokens.result c.in_err-header.field-0.0 c.new-tokens.ensures c.in_err-header.ensures.fault)

pub returns-in_err-rows-clause-cause : goal.returns-in_err-rows-clause-cause
returns-in_err-rows-clause-cause c =
    raised (TextCause c.args.text.now) c.from_residual-in_err-rows.result c.in_err-rows.field-0.0 c.from_residual-in_err-rows.ensures.1
    (rows_cause c.args.text.now c.new-tokens.result c.read_header.new.tokens c.in_ok-header.header c.in_err-rows.field-0.0 c.new-tokens.ensures c.in_ok-header.ensures.header
    c.in_err-rows.ensures.cause)

pub new-requires : goal.new-requires
new-requires c =
    (text_said c.args.text.now _ (rows_found c.args.text.now c.new-tokens.result c.read_header.new.tokens c.in_ok-header.header c.in_ok-rows.rows c.new-tokens.ensures
    c.in_ok-header.ensures.header c.in_ok-rows.ensures.found)).is

pub returns-clause-found : goal.returns-clause-found
returns-clause-found c =
    rows_found c.args.text.now c.new-tokens.result c.read_header.new.tokens c.in_ok-header.header c.in_ok-rows.rows c.new-tokens.ensures c.in_ok-header.ensures.header
    c.in_ok-rows.ensures.found
    ∙ ap Ok (sym c.new.ensures)
