use Rattle.std.proofs.Common.{refl, sym, ◌∙◌}
use Rattle.session_driver.specs.Runs.{moves_of}
use Rattle.session_driver.specs.declared.drive.Outcome.TheVariants.{Cut}
use Rattle.frame_link.proofs.LineLemmas.{fails_at}
use Rattle.session_driver.proofs.Going.{runs_begin, runs_on, few_first, few_more}
use Rattle.session_driver.proofs.Left.{run_over, run_ungreeted, run_stops}
use Rattle.session_driver.proofs.drive.turns.Goals as goal

pub returns-in_err-greet-clause-stops : goal.returns-in_err-greet-clause-stops
returns-in_err-greet-clause-stops g c =
    fails_at _ c.from_residual.result (Cut c.in_err-greet.field-0.0) c.from_residual.ensures.1
    (run_ungreeted (moves_of g.P.Party.expects g.P.Party.lack_code g.P.Party.answers g.P.Party.refuses) (g.P.Party.greeting c.args.party.now)
    (c.args.party.now, c.args.asked.now) c.args.line.now (c.args.party.now, c.args.asked.now) c.in_err-greet.field-0.0 c.greet.new.line
    c.requires.fresh refl c.in_err-greet.ensures.fails)

pub turns-init : goal.turns-init
turns-init g c = record {
  runs = runs_begin (moves_of g.P.Party.expects g.P.Party.lack_code g.P.Party.answers g.P.Party.refuses) (g.P.Party.greeting c.args.party.now)
      (c.args.party.now, c.args.asked.now) c.args.line.now c.greet.new.line c.requires.fresh c.in_ok-greet.ensures.sends;
  holds = c.requires.holds;
  few = few_first (g.P.Party.greeting c.args.party.now) (g.P.Party.left c.args.party.now) c.args.line.now c.greet.new.line c.requires.fresh c.in_ok-greet.ensures.sends;
}

pub turns-preserved : goal.turns-preserved
turns-preserved g c = record {
  runs = runs_on (moves_of g.P.Party.expects g.P.Party.lack_code g.P.Party.answers g.P.Party.refuses) (g.P.Party.greeting c.args.party.now)
      (c.args.party.now, c.args.asked.now) (c.turns.party, c.turns.asked) (c.turn.new.party, c.turn.new.asked) c.args.line.now c.turns.line c.turn.new.line
      c.turns.invariant.runs c.in_ok-turn.ensures.goes;
  holds = c.in_ok-turn.ensures.holds;
  few = few_more (moves_of g.P.Party.expects g.P.Party.lack_code g.P.Party.answers g.P.Party.refuses) (c.turns.party, c.turns.asked) (c.turn.new.party, c.turn.new.asked)
      c.turns.line c.turn.new.line _ _ _ c.in_ok-turn.ensures.goes c.in_ok-turn.ensures.fewer c.turns.invariant.few;
}

pub returns-in_err-turn-clause-stops : goal.returns-in_err-turn-clause-stops
returns-in_err-turn-clause-stops g c =
    fails_at _ c.from_residual-in_err-turn.result c.in_err-turn.field-0.0 c.from_residual-in_err-turn.ensures.1
    (run_stops (moves_of g.P.Party.expects g.P.Party.lack_code g.P.Party.answers g.P.Party.refuses) (g.P.Party.greeting c.args.party.now)
    (c.args.party.now, c.args.asked.now) c.args.line.now (c.turns.party, c.turns.asked) (c.turn.new.party, c.turn.new.asked) c.in_err-turn.field-0.0 c.turns.line c.turn.new.line
    c.turns.invariant.runs c.in_err-turn.ensures.stops)

pub returns-clause-done : goal.returns-clause-done
returns-clause-done g c =
    run_over (moves_of g.P.Party.expects g.P.Party.lack_code g.P.Party.answers g.P.Party.refuses) (g.P.Party.greeting c.args.party.now)
    (c.args.party.now, c.args.asked.now) c.args.line.now (c.turns.party, c.turns.asked) c.turns.line c.turns.invariant.runs
    (sym c.expects.ensures.place ∙ c.in_default.is)
