-- The polynomials in the key are not zero, and have as a root each key with which the equation holds.
use Rattle.std.proofs.Common.{◌≡◌, ◌≢◌, ℕ, List, sym, subst, arith}
use Rattle.mersenne_field.proofs.FieldLaws.{minus-eq-zero}
use Rattle.zk_model.specs.Field.{IsElement}
use Rattle.zk_model.specs.Polynomial.{IsNonzero, IsRoot}
use Rattle.zk_model.specs.Mac.{Pair}
use Rattle.zk_model.specs.Check.{Triple, error_polynomial, key_polynomial, opening_polynomial}
use Rattle.zk_laws.proofs.Sections.{key_is_root, key_is_opening_root}
use Rattle.check_findings.specs.Findings.{IsSumRoot, IsMacRoot}

pub sum_root : (challenge : ℕ) (triples : List Triple) (mask : Pair) (sent : ℕ × ℕ) (polynomial : List ℕ)
    → ¬ IsRoot (error_polynomial triples) challenge → polynomial ≡ key_polynomial challenge triples mask sent
    → IsSumRoot challenge triples mask sent polynomial
sum_root challenge triples mask sent polynomial unmet is = record {
  unmet = unmet;
  polynomial_is = is;
  keys = record {
    nonzero = subst IsNonzero (sym is) (2, omega arith, unmet);
    roots = λ key meets. subst (λ (p : List ℕ). IsRoot p key) (sym is) (key_is_root key challenge triples mask sent meets);
  };
}

pub mac_root : (output : Pair) (mac claim : ℕ) (polynomial : List ℕ) → IsElement output.x → IsElement claim
    → output.x ≢ claim → polynomial ≡ opening_polynomial output mac claim → IsMacRoot output mac claim polynomial
mac_root output mac claim polynomial value claimed differs is = record {
  polynomial_is = is;
  keys = record {
    nonzero = subst IsNonzero (sym is) (1, omega arith, λ none. differs (minus-eq-zero output.x claim value claimed none));
    roots = λ key meets. subst (λ (p : List ℕ). IsRoot p key) (sym is) (key_is_opening_root key output mac claim meets);
  };
}
