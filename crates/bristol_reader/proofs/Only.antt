-- What is read of a text is all that there is to read.
use Rattle.std.proofs.Common.{List, ℕ, Result, Ok, Err, IfOk, IfErr}
use Rattle.zk_model.specs.Circuit.{Circuit}
use Rattle.zk_model.specs.Bristol.{IsText}
use Rattle.bristol_reader.specs.Laws.{FaultOrCircuit, OneCircuit, OneFirstFault}
use Rattle.bristol_reader.specs.Reads.{IsOnlyCircuit, ReadCause, TextCause}
use Rattle.bristol_reader.specs.declared.fault.ReadError.{ReadError}
use Rattle.bristol_reader.specs.declared.fault.ReadError.TheVariants.{Fault, NoMemory}

pub only_circuit : (text : List ℕ) (result : Result Circuit ReadError) → OneCircuit → FaultOrCircuit
    → IfOk result (λ circuit. IsText circuit text) → IfOk result (IsOnlyCircuit text)
only_circuit text (Ok circuit) one apart says = record {
  says = says;
  only = λ other is. one text other circuit is says;
  no_fault = λ fault first. apart text fault circuit first says;
}
only_circuit text (Err error) one apart says = tt

only_cause : (text : List ℕ) (error : ReadError) → OneFirstFault → FaultOrCircuit → TextCause text error → ReadCause text error
only_cause text (Fault fault) one apart first = record {
  first = first;
  only = λ other is. one text other fault is first;
  no_circuit = λ circuit says. apart text fault circuit first says;
}
only_cause text NoMemory one apart first = tt

pub only_fault : (text : List ℕ) (result : Result Circuit ReadError) → OneFirstFault → FaultOrCircuit
    → IfErr result (TextCause text) → IfErr result (ReadCause text)
only_fault text (Ok circuit) one apart cause = tt
only_fault text (Err error) one apart cause = only_cause text error one apart cause
