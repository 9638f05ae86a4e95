use Rattle.store_tests.specs.declared.tests.disks.TheConstants.{ID}
use Rattle.store_tests.proofs.tests.lease_tests.leased_by_two.Given as goal

abbrev pub ghosts-lease_by_two : goal.ghosts-lease_by_two
ghosts-lease_by_two g a =
    record { table = a.parts.table; total = a.parts.total; passes = 2; base = a.parts.base; id = ID; start = g.B.Disk.state a.parts.disk }
