use Rattle.std.proofs.Common.{◌≡◌, ◌∙◌, [], None, Some, map, sym, ap}
use Rattle.proof_frames.specs.Frames.{frame_value}
use Rattle.round_fan.specs.Fans.{lists_of}
use Rattle.session_prover.specs.Stages.{ClaimantTells, claimant_tells}
use Rattle.session_script.specs.Scripts.{Reached, stage_of}
use Rattle.session_script.proofs.Scripting.{reached_on}
use Rattle.claim_prover.specs.Telling.{Knowledge, Known, knowledge_of, known_of, nothing_told, prover_rules}
use Rattle.claim_prover.proofs.AtPlaces.{ended_at}
use Rattle.claim_prover.proofs.prove.lead_claim.Given.{Over}
use Rattle.claim_prover.proofs.prove.lead_claim.Goals as goal

abbrev claims : (g : Over) → ClaimantTells g.row.O.Denot
claims g = claimant_tells g.O.Claimant.asked g.O.Claimant.answer g.O.Claimant.total g.O.Claimant.moves

abbrev knows : (g : Over) → g.row.W.Denot → Knowledge
knows g w = knowledge_of (g.W.Claim.claim w) (g.W.Witness.said w) (g.W.Witness.given w) (g.W.Witness.replying w)

none_is_none : {A : Type 0} {x : A} → None ≡ Some x → ⊥
none_is_none is = cc

pub lead-requires-clause-reached : goal.lead-requires-clause-reached
lead-requires-clause-reached g c κs inside = record {
  start = known_of (record {
    given = None;
    asks = lists_of c.new.result.items;
    replies = lists_of c.new-2.result.items;
    pairs = c.new-3.result.items;
    challenge = None;
    answers = map frame_value c.new-4.result.items;
    verdict = None;
  }) c.args.claimant.now;
  begins = record {
    told = (λ i. record {
      given = None;
      asks = lists_of (c.new.ensures.items i);
      replies = lists_of (c.new-2.ensures.items i);
      pairs = c.new-3.ensures.items i;
      challenge = None;
      answers = map frame_value (c.new-4.ensures.items i);
      verdict = None;
    });
    unasked = c.requires.once;
    total = c.requires.total;
  };
  frames = [];
  passed = (λ i. stage_of (known_of (record {
    given = None;
    asks = lists_of c.new.result.items;
    replies = lists_of c.new-2.result.items;
    pairs = c.new-3.result.items;
    challenge = None;
    answers = map frame_value c.new-4.result.items;
    verdict = None;
  }) c.args.claimant.now) (c.in-Ok.ensures.places i));
}

pub unreachable-requires : goal.unreachable-requires
unreachable-requires g c =
    let leaves = c.in-Done.ensures.leaves in
    let rules = prover_rules (claims g) (knows g c.args.witness.now) c.args.file.now in
    let start : (record {
      given = None;
      asks = lists_of c.new.result.items;
      replies = lists_of c.new-2.result.items;
      pairs = c.new-3.result.items;
      challenge = None;
      answers = map frame_value c.new-4.result.items;
      verdict = None;
    }) ≡ nothing_told = (λ i. record {
      given = None;
      asks = lists_of (c.new.ensures.items i);
      replies = lists_of (c.new-2.ensures.items i);
      pairs = c.new-3.ensures.items i;
      challenge = None;
      answers = map frame_value (c.new-4.ensures.items i);
      verdict = None;
    }) in
    let begun : Reached rules (stage_of (known_of (record {
      given = None;
      asks = lists_of c.new.result.items;
      replies = lists_of c.new-2.result.items;
      pairs = c.new-3.result.items;
      challenge = None;
      answers = map frame_value c.new-4.result.items;
      verdict = None;
    }) c.args.claimant.now) c.in-Ok.left.items) = record {
      start = known_of (record {
        given = None;
        asks = lists_of c.new.result.items;
        replies = lists_of c.new-2.result.items;
        pairs = c.new-3.result.items;
        challenge = None;
        answers = map frame_value c.new-4.result.items;
        verdict = None;
      }) c.args.claimant.now;
      begins = record { told = start; unasked = c.requires.once; total = c.requires.total };
      frames = [];
      passed = (λ i. stage_of (known_of (record {
        given = None;
        asks = lists_of c.new.result.items;
        replies = lists_of c.new-2.result.items;
        pairs = c.new-3.result.items;
        challenge = None;
        answers = map frame_value c.new-4.result.items;
        verdict = None;
      }) c.args.claimant.now) (c.in-Ok.ensures.places i));
    } in
    let end = ended_at (claims g) (knows g c.args.witness.now) c.args.file.now c.has_places.ensures c.total-total.ensures.file c.asks_are_in_range.ensures
    leaves.stage.known leaves.stage.left
    (reached_on rules (stage_of (known_of (record {
      given = None;
      asks = lists_of c.new.result.items;
      replies = lists_of c.new-2.result.items;
      pairs = c.new-3.result.items;
      challenge = None;
      answers = map frame_value c.new-4.result.items;
      verdict = None;
    }) c.args.claimant.now) c.in-Ok.left.items) leaves.stage leaves.frames begun leaves.passed) leaves.stops.none in
    let none : None ≡ Some (end.code, end.number) = sym c.in-None.is ∙ ap (λ (k : Known g.row.O.Denot). k.told.verdict) leaves.stops.same ∙ end.read in absurd (none_is_none none)
