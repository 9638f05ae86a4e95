use Rattle.std.proofs.Common.{inr}
use Rattle.status_command.specs.StatusRuns.{dealing_of, node_of}
use Rattle.status_command.proofs.Reporting.{has_asked, has_status, leaves_sessions, lacks_journal}
use Rattle.status_command.proofs.status_command.read_status.Goals as goal

pub returns-in-Ok-read_used-clause-status : goal.returns-in-Ok-read_used-clause-status
returns-in-Ok-read_used-clause-status g c =
    rw c.dealing-dealing.ensures.dealing (has_status _ _ _ (node_of c.in-Ok.asked.file) c.in-Ok.ensures.node (dealing_of c.in-Ok.asked.file)
    c.in-Ok.ensures.file c.in-Ok-read_used.ensures.opens _ c.in-Ok-read_used.ensures.says c.in-Ok-read_used.ensures.within _
    (leaves_sessions _ _ _ _ _ _ _ c.dealing-dealing.ensures.dealing c.in-Ok.ensures.session c.sessions_of-sessions.ensures))

pub returns-clause-stop : goal.returns-clause-stop
returns-clause-stop g c = inr (lacks_journal _ _ _ _ (node_of c.in-Ok.asked.file) c.in-Ok.ensures.node (dealing_of c.in-Ok.asked.file)
    c.in-Ok.ensures.file (has_asked _ _ _ _ c.in-Ok.ensures.session) c.in-Err-read_used.ensures.reads c.in-Err-read_used.ensures.stop)
