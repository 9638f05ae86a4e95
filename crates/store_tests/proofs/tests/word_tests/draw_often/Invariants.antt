use Rattle.lease_words.specs.Calls.{IsPassOf}
use Rattle.store_tests.proofs.tests.word_tests.draw_often.Given as goal

abbrev pub invariant-loop : goal.invariant-loop
invariant-loop l = IsPassOf l.words l.pass
