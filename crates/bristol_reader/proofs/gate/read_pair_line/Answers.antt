use Rattle.bristol_reader.proofs.PlainLines.{pair_read}
use Rattle.bristol_reader.proofs.gate.read_pair_line.Goals as goal

pub returns-clause-read : goal.returns-clause-read
returns-clause-read g c =
    pair_read c.args.set.now c.args.tokens.now c.pair_line.new.self c.in_ok-name.field-0 c.pair_row.result c.requires.few c.in_ok-name.ensures.line
    c.pair_row.ensures.row c.pair_row.ensures.fits c.pair_row.ensures.fault
