use Rattle.std.proofs.Common.{sym, ap, inl}
use Rattle.zk_model.specs.Bristol.{gate_lexemes}
use Rattle.text_tokens.specs.Words.{Takes}
use Rattle.bristol_reader.specs.Wants.{inputs_of}
use Rattle.bristol_reader.specs.Gates.{IsGateFault}
use Rattle.bristol_reader.proofs.GateTokens.{gate_taken}
use Rattle.bristol_reader.proofs.Exits.{raised}
use Rattle.bristol_reader.proofs.gate.read_tokens.Goals as goal

pub returns-in_err-is_pair-clause-fault : goal.returns-in_err-is_pair-clause-fault
returns-in_err-is_pair-clause-fault c =
    raised (IsGateFault c.args.set.now c.args.tokens.now) c.from_residual.result c.in_err-is_pair.field-0.0 c.from_residual.ensures.1 (inl c.in_err-is_pair.ensures.fault)

pub returns-in_ok-gate-clause-gate : goal.returns-in_ok-gate-clause-gate
returns-in_ok-gate-clause-gate c =
    gate_taken 2 c.in_ok-is_pair.is_pair c.args.tokens.now c.read_numbers.new.tokens (λ start. Takes (gate_lexemes c.in_ok-gate.gate) start c.read_pair.new.tokens)
    (ap inputs_of (sym c.if-is_pair.true)) c.in_ok-is_pair.ensures.numbers c.in_ok-gate.ensures.gate

pub returns-in_ok-gate-2-clause-gate : goal.returns-in_ok-gate-2-clause-gate
returns-in_ok-gate-2-clause-gate c =
    gate_taken 1 c.in_ok-is_pair.is_pair c.args.tokens.now c.read_numbers.new.tokens (λ start. Takes (gate_lexemes c.in_ok-gate-2.gate) start c.read_single.new.tokens)
    (ap inputs_of (sym c.if-is_pair.false)) c.in_ok-is_pair.ensures.numbers c.in_ok-gate-2.ensures.gate
