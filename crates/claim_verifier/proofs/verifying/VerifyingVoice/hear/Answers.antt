use Rattle.std.proofs.Common.{refl, sym, subst}
use Rattle.std.specs.Prelude.{IsSome}
use Rattle.zk_model.specs.Frames.{Allows}
use Rattle.proof_frames.specs.Frames.{frame_value}
use Rattle.claim_verifier.specs.Rounds.{TakesAsks, round_stage}
use Rattle.session_verifier.specs.Serving.{Grants, grants_of}
use Rattle.claim_verifier.proofs.AtPlaces.{hello_at, asks_at, heard_coded}
use Rattle.claim_verifier.proofs.verifying.VerifyingVoice.hear.Given.{Over}
use Rattle.claim_verifier.proofs.verifying.VerifyingVoice.hear.Goals as goal

abbrev grants : (g : Over) → Grants g.row.O.Denot
grants g = grants_of g.O.Grantor.answer g.O.Grantor.asked g.O.Grantor.total g.O.Grantor.may g.O.Grantor.moves

pub difference-requires : goal.difference-requires
difference-requires g c = record {
  allowed = hello_at (grants g) (g.C.Claim.claim c.args.self.now.claim.now) c.args.self.now.file.now c.args.self.now.section
      c.has_places.ensures c.total-total.ensures.file c.replies_are_in_range.ensures _ c.args._place c.requires.reached.0 c.requires.reached.1 c.in-Hello.hello
      (subst (λ f. Allows c.args._place (frame_value f)) c.in-Hello.is c.requires.allowed);
}

pub the_grant-given-requires : goal.the_grant-given-requires
the_grant-given-requires g c =
    let at = asks_at (grants g) (g.C.Claim.claim c.args.self.now.claim.now) c.args.self.now.file.now c.args.self.now.section
    c.has_places.ensures c.total-total.ensures.file c.replies_are_in_range.ensures _ c.args._place c.requires.reached.0 c.requires.reached.1 c.in-ExtendAsk.trees.items
    (subst (λ f. Allows c.args._place (frame_value f)) c.in-ExtendAsk.is c.requires.allowed) in
    subst IsSome (sym at.granted_is) refl

pub take_asks-requires-clause-takes : goal.take_asks-requires-clause-takes
take_asks-requires-clause-takes g c κs within =
    let at = asks_at (grants g) (g.C.Claim.claim c.args.self.now.claim.now) c.args.self.now.file.now c.args.self.now.section
    c.has_places.ensures c.total-total.ensures.file c.replies_are_in_range.ensures _ c.args._place c.requires.reached.0 c.requires.reached.1 c.in-ExtendAsk.trees.items
    (subst (λ f. Allows c.args._place (frame_value f)) c.in-ExtendAsk.is c.requires.allowed) in
    subst (λ o. TakesAsks c.args.self.now.file.now o (round_stage c.args.self.now.rounds) c.in-ExtendAsk.trees.items) c.the_grant-given.ensures at

pub unreachable-requires : goal.unreachable-requires
unreachable-requires g c =
    heard_coded (grants g) (g.C.Claim.claim c.args.self.now.claim.now) c.args.self.now.file.now c.args.self.now.section
    c.has_places.ensures c.total-total.ensures.file c.replies_are_in_range.ensures _ c.args._place c.requires.reached.0 c.requires.reached.1 c.args.frame
    c.requires.peers c.requires.allowed c.in_default.not-Hello c.in_default.not-ExtendAsk c.in_default.not-Corrections c.in_default.not-Sums c.in_default.not-Openings c.in_default.not-PolySums
