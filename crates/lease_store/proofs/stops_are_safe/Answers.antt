use Rattle.lease_store.proofs.Stopping.{stops_are_safe}
use Rattle.lease_store.proofs.stops_are_safe.Goals as goal

pub returns : goal.returns
returns g c = stops_are_safe g.B.Disk.state g.met.B.Disk.counts_now g.met.B.Disk.only_now
