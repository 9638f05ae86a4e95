use Rattle.std.proofs.Common.{◌≤◌, List, length, sym, subst}
use Rattle.wire_auth.specs.Held.{items_in}
use Rattle.zk_model.specs.Mac.{Pair}
use Rattle.session_claim.specs.Claims.{claim_needs}
use Rattle.claim_prover.proofs.AtPlaces.{enough_for, givens_for}
use Rattle.claim_prover.proofs.proving.commit.Goals as goal

pub corrections-requires : goal.corrections-requires
corrections-requires g c =
    let claim = g.W.Claim.claim c.args.witness.now in
    record {
      enough = givens_for claim.givens (claim.masks c.args.given.section_length) (length c.as_slice.result.now)
          (subst (λ (l : List Pair). claim_needs claim c.args.given.section_length ≤ length l) (sym c.as_slice.ensures)
          (enough_for claim c.args.file.now c.args.given (items_in c.in_ok-pairs.pairs) c.total-total.ensures.file c.requires.suits c.in_ok-pairs.ensures.count));
    }

pub returns-clause-enough : goal.returns-clause-enough
returns-clause-enough g c = enough_for (g.W.Claim.claim c.args.witness.now) c.args.file.now c.args.given (items_in c.in_ok-pairs.pairs) c.total-total.ensures.file c.requires.suits c.in_ok-pairs.ensures.count
