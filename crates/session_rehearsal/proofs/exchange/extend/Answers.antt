use Rattle.std.proofs.Common.{◌≡◌, ℕ, ◌*◌, ◌∙◌, ap, sym, refl, subst, map, length, List, Vec, Global}
use Rattle.std.proofs.lemmas.List.{length-map}
use Rattle.zk_model.specs.Frames as model
use Rattle.zk_model.specs.Files.{correlations_per_unit}
use Rattle.zk_model.specs.Transcript.{TreeAsk, TreeReply}
use Rattle.zk_model.specs.HonestProver.{round_asks}
use Rattle.zk_model.specs.ServedVerifier.{round_replies}
use Rattle.zk_model.specs.declared.Span.{Span}
use Rattle.round_fan.specs.Fans.{lists_of, replies_from, ArePairsFrom}
use Rattle.session_rehearsal.proofs.HeldRounds.{KnowsRound, granted_units, knows_round, asks_fit, replies_fit, asked_short, replied_short, round_held}
use Rattle.session_rehearsal.proofs.exchange.extend.Goals as goal
use Rattle.session_rehearsal.proofs.exchange.extend.Goals.{After-deref, After-deref-2}
use Rattle.session_rehearsal.proofs.exchange.extend.Given.{Over}

-- the asks are those of an honest prover
asks_are : (g : Over) (c : After-deref g) → lists_of c.deref.result.now ≡ round_asks c.args.prover.now c.args.grant
asks_are g c = ap lists_of c.deref.ensures.value ∙ c.in_ok-asks.ensures

knows : (g : Over) (c : After-deref g) → KnowsRound c.args.prover.now c.args.verifier.now c.args.grant
knows g c = knows_round c.args.prover.now c.args.verifier.now c.args.grant c.asks_are_in_range.ensures c.replies_are_in_range.ensures
    c.params-prover.ensures.file c.params-verifier.ensures.file c.requires.params c.requires.extended c.requires.within

asked_count : (g : Over) (c : After-deref g) → length c.deref.result.now ≡ c.args.grant.count
asked_count g c =
    sym (length-map c.deref.result.now (λ (v : Vec TreeAsk Global). v.items))
    ∙ (asks_fit c.args.prover.now c.args.verifier.now c.args.grant (lists_of c.deref.result.now) (knows g c) (asks_are g c)).0

pub fan_verifier-requires-clause-units : goal.fan_verifier-requires-clause-units
fan_verifier-requires-clause-units g c κs within = granted_units c.args.grant _ _ c.units_of-span.ensures (asked_count g c)

pub fan_verifier-requires-clause-fits : goal.fan_verifier-requires-clause-fits
fan_verifier-requires-clause-fits g c κs within =
    (asks_fit c.args.prover.now c.args.verifier.now c.args.grant (lists_of c.deref.result.now) (knows g c) (asks_are g c)).1

-- the replies are those of the verifier's file
replies_are : (g : Over) (c : After-deref-2 g) → lists_of c.in_ok-given.given.replies.items ≡ round_replies c.args.verifier.now c.args.grant (round_asks c.args.prover.now c.args.grant)
replies_are g c =
    let start = ap (λ (s : Span). s.start) c.units_of-span.ensures in
    let asks = ap lists_of c.deref.ensures.value ∙ c.in_ok-asks.ensures in
    c.in_ok-given.ensures.replies ∙ (λ i. replies_from c.args.verifier.now (start i) (asks i))

replies_there : (g : Over) (c : After-deref-2 g) → lists_of c.deref-2.result.now ≡ round_replies c.args.verifier.now c.args.grant (round_asks c.args.prover.now c.args.grant)
replies_there g c = ap lists_of c.deref-2.ensures.value ∙ replies_are g c

knows_too : (g : Over) (c : After-deref-2 g) → KnowsRound c.args.prover.now c.args.verifier.now c.args.grant
knows_too g c = knows_round c.args.prover.now c.args.verifier.now c.args.grant c.asks_are_in_range.ensures c.replies_are_in_range.ensures
    c.params-prover.ensures.file c.params-verifier.ensures.file c.requires.params c.requires.extended c.requires.within

replied_count : (g : Over) (c : After-deref-2 g) → length c.deref-2.result.now ≡ c.args.grant.count
replied_count g c =
    sym (length-map c.deref-2.result.now (λ (v : Vec TreeReply Global). v.items))
    ∙ (replies_fit c.args.prover.now c.args.verifier.now c.args.grant (lists_of c.deref-2.result.now) (knows_too g c) (replies_there g c)).0

pub fan_prover-requires-clause-units : goal.fan_prover-requires-clause-units
fan_prover-requires-clause-units g c κs within = granted_units c.args.grant _ _ c.units_of-span.ensures (replied_count g c)

pub fan_prover-requires-clause-fits : goal.fan_prover-requires-clause-fits
fan_prover-requires-clause-fits g c κs within =
    (replies_fit c.args.prover.now c.args.verifier.now c.args.grant (lists_of c.deref-2.result.now) (knows_too g c) (replies_there g c)).1

pub returns-clause-short : goal.returns-clause-short
returns-clause-short g c =
    let knows = knows_too g (goal.at.returns-clause-short g c).After-deref-2 in record {
      asks = asked_short c.args.prover.now c.args.verifier.now c.args.grant c.in_ok-asked.asked.items knows (c.in_ok-asked.ensures ∙ ap (map model.asks) c.in_ok-asks.ensures);
      replies = replied_short c.args.prover.now c.args.verifier.now c.args.grant c.in_ok-replied.replied.items knows
          (c.in_ok-replied.ensures ∙ ap (map model.replies) (replies_are g (goal.at.returns-clause-short g c).After-deref-2));
    }

pub returns-clause-held : goal.returns-clause-held
returns-clause-held g c =
    let at = (goal.at.returns-clause-held g c).After-deref-2 in
    let start = ap (λ (s : Span). s.start) c.units_of-span.ensures in
    let there = replies_there g at in
    round_held c.args.prover.now c.args.verifier.now c.args.grant c.in_ok-asked.asked.items c.in_ok-replied.replied.items c.in_ok-pairs.pairs.items
    _ _ _ c.requires.extended (knows_too g at).ranged
    (c.in_ok-asked.ensures ∙ ap (map model.asks) c.in_ok-asks.ensures)
    (c.in_ok-replied.ensures ∙ ap (map model.replies) (replies_are g at))
    (subst (λ (q : ℕ × List (List TreeReply)). ArePairsFrom c.args.prover.now q.0 q.1 c.in_ok-pairs.pairs.items) (λ i. (start i, there i)) c.in_ok-pairs.ensures.pairs)
    refl refl

pub returns-clause-pairs : goal.returns-clause-pairs
returns-clause-pairs g c =
    c.in_ok-pairs.ensures.count ∙ ap (λ n. n * correlations_per_unit c.args.prover.now.params) (replied_count g (goal.at.returns-clause-pairs g c).After-deref-2)

pub returns-clause-key_count : goal.returns-clause-key_count
returns-clause-key_count g c =
    c.in_ok-given.ensures.key_count ∙ ap (λ n. n * correlations_per_unit c.args.verifier.now.params) (asked_count g (goal.at.returns-clause-key_count g c).After-deref)

pub returns-clause-asked : goal.returns-clause-asked
returns-clause-asked g c = c.in_ok-asked.ensures ∙ ap (map model.asks) c.in_ok-asks.ensures

pub returns-clause-replied : goal.returns-clause-replied
returns-clause-replied g c =
    c.in_ok-replied.ensures ∙ ap (map model.replies) (replies_are g (goal.at.returns-clause-replied g c).After-deref-2)
