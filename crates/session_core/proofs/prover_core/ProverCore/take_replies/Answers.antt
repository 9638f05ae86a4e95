use Rattle.std.proofs.Common.{◌≡◌, ◌∷◌, ◌++◌, [], rules}
use Rattle.zk_model.specs.Frames.{AreReplies}
use Rattle.session_core.proofs.Rounds.{vector_pushed}
use Rattle.session_core.proofs.prover_core.ProverCore.take_replies.Goals as goal

pub go_on-requires-clause-each : goal.go_on-requires-clause-each
go_on-requires-clause-each g c =
    let pushed : c.push.new.self.items ≡ c.args.came.items ++ c.in-ExtendReply.trees ∷ [] = search rules in
    let one : AreReplies c.args.self.now.job.file.params.height c.args.self.now.job.file.params.trees c.in-ExtendReply.trees.items = search rules in
    vector_pushed (AreReplies c.args.self.now.job.file.params.height c.args.self.now.job.file.params.trees) c.args.came.items c.push.new.self.items c.in-ExtendReply.trees c.requires.growing.each one pushed
