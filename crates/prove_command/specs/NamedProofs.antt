-- What is to be proved of a circuit, as words name it.
use Rattle.std.specs.Prelude.{ℕ, List, Bool}

-- that a Boolean circuit gives these outputs: the file of the circuit, the public input bits, the private ones, and the outputs
pub record BitsProof : Type 0 where
  pub circuit : List ℕ
  pub public : List Bool
  pub bits : List Bool
  pub outputs : List Bool

abbrev pub bits_proof : List ℕ → List Bool → List Bool → List Bool → BitsProof
bits_proof circuit public bits outputs = record { circuit = circuit; public = public; bits = bits; outputs = outputs }

-- that an arithmetic circuit gives the elements of a file: the files of the circuit, of the input elements and of the outputs
pub record ElementsProof : Type 0 where
  pub circuit : List ℕ
  pub values : List ℕ
  pub outputs : List ℕ

abbrev pub elements_proof : List ℕ → List ℕ → List ℕ → ElementsProof
elements_proof circuit values outputs = record { circuit = circuit; values = values; outputs = outputs }
