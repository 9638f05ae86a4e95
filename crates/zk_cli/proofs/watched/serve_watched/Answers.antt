use Rattle.std.proofs.Common.{ℕ, List, IfSome, All, sym, ap, subst}
use Rattle.lease_store.specs.Ceilings.{HasCeilingHeader}
use Rattle.session_core.specs.Jobs.{VerifierJobs}
use Rattle.session_pool.specs.Notes.{IsLeft, IsNoteOf, IsRefusedAmong, IsUnused}
use Rattle.session_verifier.specs.Outcomes.{grant_fault}
use Rattle.session_verifier.specs.Sessions.{IsAnsweredNote}
use Rattle.zk_cli.specs.ServeRuns.{units_of_note}
use Rattle.zk_cli.proofs.watched.serve_watched.Goals as goal

pub serve_all-served-requires-clause-header : goal.serve_all-served-requires-clause-header
serve_all-served-requires-clause-header g c = λ _ _ bytes known.
    subst (λ (id : List ℕ). HasCeilingHeader id c.args.parts.total bytes)
    (sym (ap (λ (j : VerifierJobs). j.first.task.file.id) c.new-session.ensures)) (c.requires.header bytes known)

pub returns-clause-notes : goal.returns-clause-notes
returns-clause-notes g c =
    subst (λ (j : VerifierJobs). All (IsNoteOf (IsAnsweredNote g.D.Link.Link.state j)) c.serve_all-served.result.notes.items) c.new-session.ensures
    c.serve_all-served.ensures.notes

pub returns-clause-left : goal.returns-clause-left
returns-clause-left g c =
    let served = c.serve_all-served.result in
    subst (λ (j : VerifierJobs). IsLeft (All IsUnused c.args.passes.items) (g.B.Disk.state c.args.parts.disk) (g.B.Disk.state served.disk)
    j.first.task.file.id c.args.parts.base c.args.parts.total c.args.parts.passes (units_of_note j) (λ n. n.granted) (λ n. grant_fault n.outcome)
    served.notes.items) c.new-session.ensures c.serve_all-served.ensures.left

pub returns-clause-refused : goal.returns-clause-refused
returns-clause-refused g c = λ unused.
    let notes = c.serve_all-served.result.notes.items in
    subst (λ (j : VerifierJobs). All (λ n. IfSome (grant_fault n.outcome)
    (IsRefusedAmong (units_of_note j) c.args.parts.base c.args.parts.total notes n)) notes) c.new-session.ensures
    (c.serve_all-served.ensures.refused unused)
