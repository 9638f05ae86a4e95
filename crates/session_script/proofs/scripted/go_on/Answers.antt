use Rattle.std.proofs.Common.{sym, ◌∙◌, subst}
use Rattle.session_script.proofs.Scripting.{granting}
use Rattle.session_script.proofs.scripted.go_on.Goals as goal

pub behind-requires : goal.behind-requires
behind-requires g c =
    let q = c.requires.passed in
    record { passed = (q.1, q.2, subst (λ f. (g.V.Voice.rules (g.V.Voice.task c.args.voice.now)).passes q.1 f q.2) (granting q.0 c.in-Behind.grant (sym q.3 ∙ c.in-Behind.is)) q.4) }
