use Rattle.session_prover.specs.Stages.{ClaimantTells, claimant_tells}
use Rattle.claim_prover.specs.Telling.{Knowledge, knowledge_of}
use Rattle.claim_prover.proofs.Answered.{told_so}
use Rattle.claim_prover.proofs.Claimed.{moved_so, refusal_ends, refused_told}
use Rattle.claim_prover.proofs.prove.prove_claim.Given.{Over}
use Rattle.claim_prover.proofs.prove.prove_claim.Goals as goal

abbrev claims : (g : Over) → ClaimantTells g.row.O.Denot
claims g = claimant_tells g.O.Claimant.asked g.O.Claimant.answer g.O.Claimant.total g.O.Claimant.moves

abbrev knows : (g : Over) → g.row.W.Denot → Knowledge
knows g w = knowledge_of (g.W.Claim.claim w) (g.W.Witness.said w) (g.W.Witness.given w) (g.W.Witness.replying w)

pub returns-clause-moved : goal.returns-clause-moved
returns-clause-moved g c =
    moved_so (claims g) (knows g c.args.witness.now) c.args.file.now c.has_places.ensures c.total-total.ensures.file c.asks_are_in_range.ensures c.args.claimant.now
    c.requires.once c.requires.total c.lead_claim.new.claimant c.lead_claim.result _ _ c.lead_claim.ensures.leaves

pub returns-clause-told : goal.returns-clause-told
returns-clause-told g c none =
    told_so (claims g) (knows g c.args.witness.now) c.args.file.now c.args.claimant.now c.lead_claim.new.claimant c.lead_claim.result _ _ none c.requires.once
    c.lead_claim.ensures.leaves

pub returns-clause-refused : goal.returns-clause-refused
returns-clause-refused g c cause is =
    refused_told (claims g) (knows g c.args.witness.now) c.args.file.now c.args.claimant.now c.lead_claim.new.claimant c.lead_claim.result _ _
    c.lead_claim.ensures.leaves cause is

pub returns-clause-refusal : goal.returns-clause-refusal
returns-clause-refusal g c cause is =
    refusal_ends (claims g) (knows g c.args.witness.now) c.args.file.now c.has_places.ensures c.total-total.ensures.file c.asks_are_in_range.ensures c.args.claimant.now
    c.requires.once c.requires.total c.lead_claim.new.claimant c.lead_claim.result _ _ c.lead_claim.ensures.leaves cause is
