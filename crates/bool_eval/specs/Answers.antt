-- What an evaluation answers.
use Rattle.std.specs.Prelude.{◌≡◌, ◌≢◌, Bool, List, length}
use Rattle.zk_model.specs.Circuit.{Circuit, Satisfies}
use Rattle.bool_eval.specs.declared.EvalFault.{EvalFault}
use Rattle.bool_eval.specs.declared.EvalFault.TheVariants.{WrongLength, NoMemory}

-- no other outputs satisfy the circuit at these bits
abbrev pub AreOnlyOutputs : Circuit → List Bool → List Bool → Type 0
AreOnlyOutputs circuit bits outputs = (others : List Bool) → Satisfies circuit bits others → others ≡ outputs

-- a wrong length names the circuit's number of inputs and the number of bits, which differ; memory is missing only
-- where they agree
abbrev pub IsCause : Circuit → List Bool → EvalFault → Type 0
IsCause circuit bits (WrongLength need got) = (need ≡ circuit.inputs) × (got ≡ length bits) × (need ≢ got)
IsCause circuit bits NoMemory = length bits ≡ circuit.inputs
