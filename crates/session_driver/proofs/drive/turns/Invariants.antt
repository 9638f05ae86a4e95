use Rattle.std.proofs.Common.{◌+◌, ◌*◌, ◌^◌, ◌≤◌}
use Rattle.session_driver.specs.Runs.{Runs, moves_of}
use Rattle.session_driver.proofs.drive.turns.Given as goal

abbrev pub invariant-turns : goal.invariant-turns
invariant-turns g l = record {
  runs : Runs (moves_of g.P.Party.expects g.P.Party.lack_code g.P.Party.answers g.P.Party.refuses) (g.P.Party.greeting l.fn.party) (l.fn.party, l.fn.asked) (l.party, l.asked) l.fn.line l.line;
  holds : g.P.Party.holds l.party l.asked;
  few : l.line.reading.received + g.P.Party.left l.party * (2 ^ 28 + 5) ≤ g.P.Party.left l.fn.party * (2 ^ 28 + 5);
}

abbrev pub decreases-turns : goal.decreases-turns
decreases-turns g l = g.P.Party.left l.party
