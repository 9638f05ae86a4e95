use Rattle.std.proofs.Common.{ℕ, List, subst, sym}
use Rattle.frame_link.proofs.LineLemmas.{fails_at}
use Rattle.zk_model.specs.Statement.{Statement}
use Rattle.zk_port.specs.Changes.{change}
use Rattle.zk_port.specs.Shelves.{ShelfState}
use Rattle.file_commands.specs.Effects.{IsName, OnlyLoads}
use Rattle.file_commands.specs.Stops.{IsLoaded, LoadStop}
use Rattle.proof_audit.specs.Audits.{AuditCause, AuditFinds, Fits, audit_task}
use Rattle.proof_audit.specs.AuditRuns.{AuditStop}
use Rattle.proof_audit.proofs.AuditOutcomes.{loads_log, lacks_log, lacks_finding}
use Rattle.proof_audit.proofs.Audits.{finds_of_claim}
use Rattle.proof_audit.proofs.audit_command.audit_files.Goals as goal

pub returns-in_err-log-clause-stop : goal.returns-in_err-log-clause-stop
returns-in_err-log-clause-stop g c =
    let files = c.in_ok-files.ensures.files in
    let why = c.in_err-log.field-0.0 in
    let now = g.F.Shelf.state c.load_file.new.shelf in
    fails_at _ c.from_residual-in_err-log.result why c.from_residual-in_err-log.ensures.1
    (lacks_log c.args.names.now (change (g.F.Shelf.state c.args.shelf.now) now) why (
      files.0,
      c.in_ok-files.files.prover,
      _,
      files.1,
      subst (λ (q : ShelfState × List ℕ). LoadStop q.1 (change q.0 now) why) (λ i. (c.in_ok-files.ensures.quiet i, c.log.ensures i)) c.in_err-log.ensures.stop,
    ))

pub returns-in-Ok-clause-found : goal.returns-in-Ok-clause-found
returns-in-Ok-clause-found g c =
    let files = c.in_ok-files.ensures.files in
    let made = c.in_ok-files.files in
    let task = audit_task made.claim made.verifier in
    record {
      claimed = files.0;
      prover = made.prover;
      task = task;
      log = c.deref.result.now;
      files = files.1;
      loaded = subst (λ (q : ShelfState × List ℕ × List ℕ). IsLoaded q.0.told q.1 q.2)
          (λ i. (c.in_ok-files.ensures.quiet i, c.log.ensures i, sym c.deref.ensures.value i)) c.in_ok-log.ensures.loaded;
      holds = finds_of_claim _ c.args.names.now.claim files.0 made.prover task c.deref.result.now c.in-Ok.finding files.1.claim
          (subst (λ (st : Statement). AuditFinds (Fits st) made.prover (audit_task st made.verifier) c.deref.result.now c.in-Ok.finding)
          c.statement.ensures c.in-Ok.ensures.finding);
    }

pub returns-clause-stop : goal.returns-clause-stop
returns-clause-stop g c =
    let files = c.in_ok-files.ensures.files in
    let made = c.in_ok-files.files in
    let shelf = change (g.F.Shelf.state c.args.shelf.now) (g.F.Shelf.state c.load_file.new.shelf) in
    subst (AuditStop c.args.names.now shelf) (sym c.refusal_of.ensures)
    (lacks_finding c.args.names.now shelf files.0 made.prover (audit_task made.claim made.verifier) c.deref.result.now files.1
    (subst (λ (q : ShelfState × List ℕ × List ℕ). IsLoaded q.0.told q.1 q.2)
    (λ i. (c.in_ok-files.ensures.quiet i, c.log.ensures i, sym c.deref.ensures.value i)) c.in_ok-log.ensures.loaded) c.in-Err.fault
    (subst (λ (st : Statement). AuditCause made.prover (audit_task st made.verifier) c.deref.result.now c.in-Err.fault)
    c.statement.ensures c.in-Err.ensures.fault))

pub returns-in_err-log-clause-kept : goal.returns-in_err-log-clause-kept
returns-in_err-log-clause-kept g c =
    let mid = g.F.Shelf.state c.load_audited.new.shelf in
    loads_log c.args.names.now _ mid _ c.load_audited.ensures.kept
    (subst (λ (name : List ℕ). OnlyLoads (IsName name) (change mid (g.F.Shelf.state c.load_file.new.shelf))) c.log.ensures c.load_file.ensures.kept)
