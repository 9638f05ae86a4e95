use Rattle.std.proofs.Common.{◌≡◌, ◌⊎◌, inl, inr, refl}
use Rattle.frame_link.specs.Lines.{LinkSnapshot, snapshot_of}
use Rattle.session_verifier.specs.Serving.{Grants, grants_of}
use Rattle.claim_verifier.specs.Hearing.{IsUnheard, known_of, nothing_heard, units_of}
use Rattle.claim_verifier.specs.Sessions.{IsUnbegun, VerifierLeaves}
use Rattle.claim_verifier.proofs.Answered.{told_so}
use Rattle.claim_verifier.proofs.Leased.{IsAsked, asked_count, asked_moved, asked_once}
use Rattle.claim_verifier.proofs.verify.verify_claim.Given.{Over}
use Rattle.claim_verifier.proofs.verify.verify_claim.Goals as goal

abbrev grants : (g : Over) → Grants g.row.G.Denot
grants g = grants_of g.G.Grantor.answer g.G.Grantor.asked g.G.Grantor.total g.G.Grantor.may g.G.Grantor.moves

-- the one who leases units was asked once at most
once : (g : Over) (c : goal.After-lead_claim-end g) → IsAsked (grants g) (g.C.Claim.claim c.args.claim.now) c.args.file.now c.args.section c.has_places.ensures
    c.total-total.ensures.file c.replies_are_in_range.ensures c.args.grantor.now c.lead_claim-end.new.grantor
once g c = by c.lead_claim-end.ensures.leaves
  where
    first : LinkSnapshot
    first = snapshot_of c.args.line.now

    now : LinkSnapshot
    now = snapshot_of c.lead_claim-end.new.line

    unheard : IsUnheard (grants g) (g.C.Claim.claim c.args.claim.now) c.args.file.now c.args.section (known_of nothing_heard c.args.grantor.now)
    unheard = record { heard = refl; unasked = c.requires.once; total = c.requires.total; few = c.requires.few; may = c.requires.may }

    by : IsUnbegun c.args.grantor.now c.lead_claim-end.new.grantor c.lead_claim-end.result first now
        ⊎ VerifierLeaves (grants g) (g.C.Claim.claim c.args.claim.now) c.args.file.now c.args.section c.args.grantor.now c.lead_claim-end.new.grantor
        c.lead_claim-end.result first now
        → IsAsked (grants g) (g.C.Claim.claim c.args.claim.now) c.args.file.now c.args.section c.has_places.ensures
        c.total-total.ensures.file c.replies_are_in_range.ensures c.args.grantor.now c.lead_claim-end.new.grantor
    by (inl unbegun) = inl unbegun.grantor
    by (inr leaves) = asked_once (grants g) (g.C.Claim.claim c.args.claim.now) c.args.file.now c.args.section c.has_places.ensures
        c.total-total.ensures.file c.replies_are_in_range.ensures c.args.grantor.now c.lead_claim-end.new.grantor leaves.heard leaves.outcome first now unheard
        leaves.leaves

pub returns-clause-moved : goal.returns-clause-moved
returns-clause-moved g c = asked_moved (grants g) (units_of (g.C.Claim.claim c.args.claim.now) c.args.file.now c.args.section) c.args.grantor.now
    c.lead_claim-end.new.grantor c.requires.once (once g c)

pub returns-clause-asked : goal.returns-clause-asked
returns-clause-asked g c = asked_count (grants g) (units_of (g.C.Claim.claim c.args.claim.now) c.args.file.now c.args.section) c.args.grantor.now
    c.lead_claim-end.new.grantor c.requires.once (once g c)

pub returns-clause-told : goal.returns-clause-told
returns-clause-told g c = told_so (grants g) (g.C.Claim.claim c.args.claim.now) c.args.file.now c.args.section c.args.grantor.now
    c.lead_claim-end.new.grantor c.lead_claim-end.result (snapshot_of c.args.line.now) (snapshot_of c.lead_claim-end.new.line) c.requires.once
    c.lead_claim-end.ensures.leaves
