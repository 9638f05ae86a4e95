-- Ranges of some bodies, computed.
use Rattle.std.proofs.Common.{◌≡◌, [], ◌∷◌, refl, arith}
use Rattle.std.proofs.lemmas.Bool.Decides.{nat_tests}
use Rattle.claim_store.specs.ClaimedRanges.{AreMerged, claims_of}
use Rattle.lease_core.specs.Spans.{span}
use Rattle.claim_store.specs.Ranges.{with_span}

-- the third body fills the place between the others, so that all three are one range
pub filled : AreMerged (claims_of ((0, 2) ∷ (4, 6) ∷ (2, 4) ∷ [])) (span 0 6 ∷ [])
filled = record {
  rising = (omega arith, omega arith, tt);
  same = λ unit. grind (arith, nat_tests);
}

-- bodies that don't touch are ranges by themselves, whatever their order
pub apart : AreMerged (claims_of ((4, 6) ∷ (0, 2) ∷ [])) (span 0 2 ∷ span 4 6 ∷ [])
apart = record {
  rising = (omega arith, omega arith, (omega arith, omega arith, tt));
  same = λ unit. grind (arith, nat_tests);
}

-- and a body that meets another has its units once
pub overlapping : AreMerged (claims_of ((0, 4) ∷ (2, 6) ∷ [])) (span 0 6 ∷ [])
overlapping = record {
  rising = (omega arith, omega arith, tt);
  same = λ unit. grind (arith, nat_tests);
}

pub between : with_span (span 2 4) (span 0 2 ∷ span 4 6 ∷ []) ≡ span 0 6 ∷ []
between = refl

pub behind : with_span (span 8 10) (span 0 2 ∷ span 4 6 ∷ []) ≡ span 0 2 ∷ span 4 6 ∷ span 8 10 ∷ []
behind = refl

pub at_its_end : with_span (span 6 7) (span 0 2 ∷ span 4 6 ∷ []) ≡ span 0 2 ∷ span 4 7 ∷ []
at_its_end = refl

pub at_its_start : with_span (span 3 4) (span 0 2 ∷ span 4 6 ∷ []) ≡ span 0 2 ∷ span 3 6 ∷ []
at_its_start = refl
