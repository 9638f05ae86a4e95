-- What the definitions of circuits promise.
use Rattle.std.specs.Prelude.{◌≡◌, ℕ, ◌↔◌, List, [], length, All}
use Rattle.zk_model.specs.Bytes.{AreBytes}
use Rattle.zk_model.specs.Field.{IsElement}
use Rattle.zk_model.specs.Program.{IsOrdered, IsProgram, IsSolvedBy}
use Rattle.zk_model.specs.ArithProgram.{arith_claims, arith_program}
use Rattle.zk_model.specs.Statement.{IsStatement, arith_statement}
use Rattle.zk_model.specs.Arithmetic.{Arith, IsFirstFailed, IsWellFormed, SatisfiesElements}

-- the input elements determine the outputs
abbrev pub OneList : Type 0
OneList = (circuit : Arith) (inputs some others : List ℕ) → IsWellFormed circuit
    → SatisfiesElements circuit inputs some → SatisfiesElements circuit inputs others → some ≡ others

-- where an assertion is not met, nothing satisfies the circuit
abbrev pub UnmetIsUnsatisfied : Type 0
UnmetIsUnsatisfied = (circuit : Arith) (inputs : List ℕ) (number value : ℕ) → IsWellFormed circuit
    → IsFirstFailed circuit inputs number value → (outputs : List ℕ) → ¬ SatisfiesElements circuit inputs outputs

-- the program of a circuit is solved, with these inputs and claims, exactly where they satisfy the circuit
abbrev pub SolvedIsSatisfied : Type 0
SolvedIsSatisfied = (circuit : Arith) (inputs outputs : List ℕ) → IsWellFormed circuit → All IsElement outputs → length outputs ≡ circuit.outputs
    → length inputs ≡ circuit.inputs
    → IsSolvedBy (arith_program circuit) [] inputs (arith_claims circuit outputs) ↔ SatisfiesElements circuit inputs outputs

-- a circuit's program is well formed
abbrev pub ArithIsProgram : Type 0
ArithIsProgram = (circuit : Arith) → IsWellFormed circuit → IsProgram (arith_program circuit)

-- whose steps take no product before its factors are set
abbrev pub ArithIsOrdered : Type 0
ArithIsOrdered = (circuit : Arith) → IsWellFormed circuit → IsOrdered (arith_program circuit)

-- claims of a circuit's outputs are a statement
abbrev pub ArithIsStatement : Type 0
ArithIsStatement = (circuit : Arith) (digest outputs : List ℕ) → IsWellFormed circuit → AreBytes 32 digest → All IsElement outputs
    → length outputs ≡ circuit.outputs → IsStatement (arith_statement circuit digest outputs)
