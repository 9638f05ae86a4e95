-- A text names one list of claims, or has a fault.
use Rattle.std.proofs.Common.{◌≡◌, ℕ, List, [], ◌∷◌, None, Some, length, map, refl, sym, ap, ◌∙◌, inl, inr, arith}
use Rattle.std.proofs.lemmas.List.{length-map}
use Rattle.statement_file.specs.Claims.{NamedClaim, NamesClaims, HasFault, claim_of_line, first_bad, lines_of}
use Rattle.statement_file.specs.declared.fault.StatementFault.{StatementFault}
use Rattle.statement_file.specs.declared.fault.StatementFault.TheVariants.{BadLine, Count}
use Rattle.statement_file.proofs.Reading.{none_first}

same_some : (some others : List NamedClaim) → map (λ (c : NamedClaim). Some c) some ≡ map (λ (c : NamedClaim). Some c) others → some ≡ others
same_some [] [] same = refl
same_some [] (other ∷ others) same = cc
same_some (one ∷ some) [] same = cc
same_some (one ∷ some) (other ∷ others) same =
    let first : one ≡ other = cc in
    let rest : some ≡ others = same_some some others (cc) in
    cc

pub one_list : (text : List ℕ) (some others : List NamedClaim) → NamesClaims text some → NamesClaims text others → some ≡ others
one_list text some others one other = same_some some others (sym one.named ∙ other.named)

pub no_fault : (text : List ℕ) (claims : List NamedClaim) → NamesClaims text claims → (fault : StatementFault) → HasFault text fault → ⊥
no_fault text claims says (BadLine line) has =
    let none : first_bad text ≡ None = none_first (lines_of text) claims says.named in
    let impossible : None ≡ Some line = sym none ∙ has in cc
no_fault text claims says (Count lines) has =
    let same : length (lines_of text) ≡ length claims =
    sym (length-map (lines_of text) claim_of_line) ∙ ap length says.named ∙ length-map claims (λ (c : NamedClaim). Some c) in
    let counted = has.1 in
    let some = says.some in
    let few = says.few in
    elim has.2 [ inl none ↦ omega (arith, same, counted, some, none) | inr many ↦ omega (arith, same, counted, few, many) ]
