use Rattle.std.proofs.Common.{◌≡◌, ◌∙◌, ◌+◌, ◌++◌, [], ◌∷◌, ℕ, List, ap, sym, append_assoc, min}
use Rattle.std.specs.Prelude.{codes}
use Rattle.std.specs.Fmt.{decimal}
use Rattle.std.proofs.lemmas.List.FromFn.{length-map-range_with_len}
use Rattle.circuit_gen.specs.Generated.{line, heading, generated_gate}
use Rattle.circuit_gen.proofs.heading.Goals as goal

-- three lines in one
three_lines : (gates wires inputs outputs : List ℕ) → gates ++ (codes " " ++ (wires ++ (codes "\n1 " ++ (inputs ++ (codes "\n1 " ++ (outputs ++ codes "\n"))))))
    ≡ (line (gates ∷ wires ∷ []) ++ line (codes "1" ∷ inputs ∷ [])) ++ line (codes "1" ∷ outputs ∷ [])
three_lines gates wires inputs outputs = simp append_assoc

pub returns : goal.returns
unfolding heading
returns c = λ number.
    let outputs : c.min-outputs.result ≡ min c.args.gates 32 = c.min-outputs.ensures in
    ap (λ v. v.items) c.into_bytes.ensures.value ∙ c.in_ok-text.ensures.ok
    ∙ three_lines (decimal c.args.gates) (decimal (64 + c.args.gates)) (decimal 64) (decimal c.min-outputs.result)
    ∙ (λ i. (line (decimal (sym (length-map-range_with_len (generated_gate number) 0 c.args.gates) i) ∷ decimal (64 + c.args.gates) ∷ []) ++ line (codes "1" ∷ decimal 64 ∷ []))
    ++ line (codes "1" ∷ decimal (outputs i) ∷ []))
