use Rattle.node_sessions.proofs.Journals.{journals_say_grants}
use Rattle.node_sessions.proofs.laws.journals_say_grants.Goals as goal

pub returns : goal.returns
returns g c = journals_say_grants g.D.Link.Link.state g.B.Disk.state (record { counts = g.met.B.Disk.counts_now; only = g.met.B.Disk.only_now })
