use Rattle.lease_store.specs.Storing.{Moved}
use Rattle.lease_store.proofs.Keeping.{keeps, moments, stores_asked}
use Rattle.lease_store.proofs.ceilings.CeilingJournalKeeper.store.Goals as goal

pub returns-clause-keeps : goal.returns-clause-keeps
returns-clause-keeps g c = λ ceiling stored.
    let k = c.args.self.now in
    let e = c.store_ceiling.ensures in
    let moved : Moved {D = g.row.B.Denot} g.B.Disk.state k.journal c.args.ceiling c.store_ceiling.result c.store_ceiling.new.journal = record {
      any_moment = e.any_moment;
      read = e.read;
      recovered = e.recovered;
      durable = e.durable;
      state_is = e.state;
      state_kept = e.state_kept;
      changes = e.changes;
      faults = e.faults;
      faults_grow = e.faults_grow;
      cause = e.cause;
      unserved = e.unserved;
      served = e.served;
    } in
    keeps g.B.Disk.state g.met.B.Disk.counts_now g.met.B.Disk.only_now k.total k.journal c.args.ceiling c.requires.1 c.store_ceiling.new.journal c.store_ceiling.result
    moved ceiling stored

pub returns-clause-moments : goal.returns-clause-moments
returns-clause-moments g c = λ ceiling stored.
    let k = c.args.self.now in
    let e = c.store_ceiling.ensures in
    let moved : Moved {D = g.row.B.Denot} g.B.Disk.state k.journal c.args.ceiling c.store_ceiling.result c.store_ceiling.new.journal = record {
      any_moment = e.any_moment;
      read = e.read;
      recovered = e.recovered;
      durable = e.durable;
      state_is = e.state;
      state_kept = e.state_kept;
      changes = e.changes;
      faults = e.faults;
      faults_grow = e.faults_grow;
      cause = e.cause;
      unserved = e.unserved;
      served = e.served;
    } in
    moments g.B.Disk.state g.met.B.Disk.counts_now g.met.B.Disk.only_now k.total k.journal c.args.ceiling c.requires.1 c.store_ceiling.new.journal c.store_ceiling.result
    moved ceiling stored

pub returns-clause-stored : goal.returns-clause-stored
returns-clause-stored g c =
    let k = c.args.self.now in
    let e = c.store_ceiling.ensures in
    let moved : Moved {D = g.row.B.Denot} g.B.Disk.state k.journal c.args.ceiling c.store_ceiling.result c.store_ceiling.new.journal = record {
      any_moment = e.any_moment;
      read = e.read;
      recovered = e.recovered;
      durable = e.durable;
      state_is = e.state;
      state_kept = e.state_kept;
      changes = e.changes;
      faults = e.faults;
      faults_grow = e.faults_grow;
      cause = e.cause;
      unserved = e.unserved;
      served = e.served;
    } in
    stores_asked g.B.Disk.state g.met.B.Disk.counts_now g.met.B.Disk.only_now k.total k.journal c.args.ceiling c.requires.1 c.store_ceiling.new.journal c.store_ceiling.result
    moved
