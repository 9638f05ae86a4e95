use Rattle.std.proofs.Common.{List, ℕ, inl, refl, sym, subst, inr}
use Rattle.std.proofs.lemmas.Result.{IfOk-weaker, IfErr-weaker}
use Rattle.zk_model.specs.Statement.{Statement}
use Rattle.wire_auth.specs.Values.{given_made}
use Rattle.session_core.specs.Jobs.{AreWitnessValues}
use Rattle.file_commands.proofs.Journals.{untouched}
use Rattle.prove_command.proofs.Jobs.{is_prove_job, witness_values}
use Rattle.prove_command.proofs.prove_command.prove_files.Goals as goal

pub with_wires-job-requires-clause-wires : goal.with_wires-job-requires-clause-wires
with_wires-job-requires-clause-wires g c =
    subst (λ (q : Statement × List ℕ). AreWitnessValues (given_made q.0.program q.0.public q.1) q.0.program c.in-Ok.loaded.0.wires)
    (λ i. (sym c.statement-statement.ensures i, sym c.deref.ensures.value i))
    (witness_values (g.F.Shelf.state c.args.shelf.now).told c.args.proof.now.names c.in-Ok.loaded.0.claim c.in-Ok.loaded.0.inputs.items
    c.in-Ok.loaded.0.wires c.in-Ok.loaded.1 c.in-Ok.ensures.witness)

pub returns-in-Err-clause-stop : goal.returns-in-Err-clause-stop
returns-in-Err-clause-stop g c = inl (c.in-Err.ensures.stop, untouched (g.B.Disk.state c.args.journal), refl)

pub returns-clause-holds : goal.returns-clause-holds
returns-clause-holds g c =
    let asked = is_prove_job (g.F.Shelf.state c.args.shelf.now).told c.args.proof.now c.in-Ok.loaded.0.claim c.statement-statement.result
    c.in-Ok.loaded.0.inputs.items c.deref.result.now c.in-Ok.loaded.0.wires c.in-Ok.loaded.1 c.with_wires-job.result
    c.in-Ok.ensures.witness c.in-Ok.ensures.file c.statement-statement.ensures c.deref.ensures.value c.with_wires-job.ensures.job
    c.with_wires-job.ensures.made in
    IfOk-weaker c.prove_job.result _ _ (λ r held. record { job = c.with_wires-job.result; proved = asked; holds = held }) c.prove_job.ensures.holds

pub returns-clause-stop : goal.returns-clause-stop
returns-clause-stop g c =
    let asked = is_prove_job (g.F.Shelf.state c.args.shelf.now).told c.args.proof.now c.in-Ok.loaded.0.claim c.statement-statement.result
    c.in-Ok.loaded.0.inputs.items c.deref.result.now c.in-Ok.loaded.0.wires c.in-Ok.loaded.1 c.with_wires-job.result
    c.in-Ok.ensures.witness c.in-Ok.ensures.file c.statement-statement.ensures c.deref.ensures.value c.with_wires-job.ensures.job
    c.with_wires-job.ensures.made in
    IfErr-weaker c.prove_job.result _ _ (λ r stopped. inr (c.with_wires-job.result, asked, stopped)) c.prove_job.ensures.stop
