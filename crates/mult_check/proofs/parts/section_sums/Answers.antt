use Rattle.std.proofs.Common.{[]}
use Rattle.mult_check.proofs.parts.section_sums.Goals as goal

pub returns : goal.returns
returns c = c.masked.ensures c.args.challenge c.args.triples.now (c.extend.ensures c.args.challenge [] c.new-part.ensures)
