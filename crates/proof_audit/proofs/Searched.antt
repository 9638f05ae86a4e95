-- What the first section with an error shows.
use Rattle.std.proofs.Common.{ℕ, ◌+◌, ◌<◌, ◌≤◌, inl, inr, List, sym, ◌∙◌, ap, subst, arith}
use Rattle.std.proofs.Math.Nat.{eq-or-lt_of_le}
use Rattle.zk_model.specs.Mac.{Pair}
use Rattle.zk_model.specs.Polynomial.{IsZero}
use Rattle.zk_model.specs.Check.{IsFirstFailure}
use Rattle.zk_model.specs.Program.{section_count}
use Rattle.proof_audit.specs.SeenWires.{SeenSide}
use Rattle.proof_audit.specs.Searches.{NoErrorsBefore, ShowsSectionAt, ShowsFirstSection, errors_at}
use Rattle.check_findings.specs.declared.finding.Finding.{Finding}
use Rattle.check_findings.specs.declared.finding.Finding.TheVariants.{Inputs, ChallengeRoot, KeyRoot, NotAccepted}
use Rattle.proof_audit.specs.declared.session.Session.{Session}

pub shows_first : (side : SeenSide) (pairs : List Pair) (s : Session) (i : ℕ) (shown : Finding) → ShowsSectionAt i side pairs s shown
    → NoErrorsBefore side s i → i < section_count side.program s.grant.section_length → ¬ IsZero (errors_at side s i)
    → ShowsFirstSection side pairs s shown
shows_first side pairs s i (Inputs inputs) shows before below fails = absurd shows
shows_first side pairs s i NotAccepted shows before below fails = absurd shows
shows_first side pairs s i (KeyRoot polynomial) shows before below fails = λ task greeting. record {
  section = i;
  first = record { below = below; fails = fails; before = before };
  unmet = shows.unmet;
  polynomial_is = shows.polynomial_is;
}
shows_first side pairs s i (ChallengeRoot section polynomial) shows before below fails = λ task greeting.
    let at = sym shows.0 in
    record {
      first = subst (λ n. IsFirstFailure (λ n. IsZero (errors_at side s n)) (section_count side.program s.grant.section_length) n) at
          (record { below = below; fails = fails; before = before });
      polynomial_is = shows.1.polynomial_is ∙ ap (errors_at side s) at;
      met = shows.1.met;
    }

-- one section more has no error
pub before_more : (side : SeenSide) (s : Session) (n : ℕ) → NoErrorsBefore side s n → IsZero (errors_at side s n) → NoErrorsBefore side s (n + 1)
before_more side s n before zero i below = let at : i ≤ n = omega (arith, below) in elim (eq-or-lt_of_le at) [
  | inl same ↦ subst (λ k. IsZero (errors_at side s k)) (sym same) zero
  | inr less ↦ before i less
]
