use Rattle.std.proofs.Common.{inl, inr, refl, sym, ◌∙◌, arith}
use Rattle.bristol_reader.proofs.gate.set_wire.Goals as goal

pub returns-then-number-len-clause-fault : goal.returns-then-number-len-clause-fault
returns-then-number-len-clause-fault c = inl (omega (arith, c.if-number-len.true, c.len.ensures), refl)

pub returns-then-contains-clause-fault : goal.returns-then-contains-clause-fault
returns-then-contains-clause-fault c = inr (sym c.contains.ensures ∙ c.if-contains.true, refl)
