use Rattle.bristol_reader.proofs.Lists.{AreSizes}
use Rattle.bristol_reader.proofs.header.value_list.Given as goal

abbrev pub invariant-sizes : goal.invariant-sizes
invariant-sizes l = AreSizes l.fn.tokens l.tokens l.values l.counter l.sum l.wires
