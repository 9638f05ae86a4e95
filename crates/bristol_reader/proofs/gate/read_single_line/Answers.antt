use Rattle.bristol_reader.proofs.PlainLines.{single_read}
use Rattle.bristol_reader.proofs.gate.read_single_line.Goals as goal

pub returns-clause-read : goal.returns-clause-read
returns-clause-read g c =
    single_read c.args.set.now c.args.tokens.now c.single_line.new.self c.in_ok-name.field-0 c.single_row.result c.requires.few c.in_ok-name.ensures.line
    c.single_row.ensures.row c.single_row.ensures.input c.single_row.ensures.fits c.single_row.ensures.fault
