use Rattle.store_tests.specs.declared.tests.disks.TheConstants.{ID}
use Rattle.store_tests.proofs.tests.lease_tests.played_over.Given as goal

abbrev pub ghosts-answers_of : goal.ghosts-answers_of
ghosts-answers_of g a =
    record { table = a.parts.table; total = a.parts.total; passes = 1; base = a.parts.base; id = ID; start = g.B.Disk.state a.parts.disk }
