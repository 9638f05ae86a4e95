use Rattle.std.proofs.Common.{◌≡◌, ◌≤◌, ◌-◌, List, All, map, length, take, drop, sym, ap, ◌∙◌, subst, inr, arith}
use Rattle.std.proofs.lemmas.List.{length-map}
use Rattle.zk_model.specs.Statement.{Statement}
use Rattle.zk_model.specs.declared.limits.TheConstants.{MAX_UNITS}
use Rattle.zk_port.specs.Changes.{change}
use Rattle.session_core.specs.Jobs.{VerifierJob, VerifierJobs, all_jobs, units_of_job}
use Rattle.claim_files.specs.NamedClaims.{IsStatementOf}
use Rattle.zk_cli.specs.ServeRuns.{TakeFewUnits, AreServeJobs, FitStop, ceilings_journal, service_of}
use Rattle.zk_cli.proofs.Loading.{are_jobs, job_over, lacks_jobs, err_then, lacks_memory, ok_then, parted_jobs}
use Rattle.zk_cli.proofs.Pairs.{zip_length}
use Rattle.zk_cli.proofs.serve_command.serve_files.Goals as goal

pub returns-in_default-clause-stop : goal.returns-in_default-clause-stop
returns-in_default-clause-stop g c =
    lacks_memory (ceilings_journal (service_of c.args.service.now)) (service_of c.args.service.now) (change (g.F.Shelf.state c.args.shelf.now) (g.F.Shelf.state c.load_files.new.shelf))
    (g.B.Disk.state c.args.ports.journal) (g.D.Door.state c.args.ports.door) c.requires.some

pub returns-in-Err-fit_jobs-clause-stop : goal.returns-in-Err-fit_jobs-clause-stop
returns-in-Err-fit_jobs-clause-stop g c =
    let service = service_of c.args.service.now in
    let file = c.in-Ok.files.file in
    let stated : c.deref-2.result.now ≡ c.in-Ok.files.claims.items = c.deref-2.ensures.value ∙ c.in-Ok-statements_of.ensures ∙ c.deref.ensures.value in
    lacks_jobs (ceilings_journal service) service (change (g.F.Shelf.state c.args.shelf.now) (g.F.Shelf.state c.load_files.new.shelf))
    (g.B.Disk.state c.args.ports.journal) (g.D.Door.state c.args.ports.door) file c.in-Ok.files.claims.items c.in-Ok.ensures.file c.in-Ok.ensures.claims
    c.requires.some c.requires.most c.requires.kind c.in-Err-fit_jobs.refusal
    (subst (λ (s : List Statement). FitStop (map (job_over service file) s) c.in-Err-fit_jobs.refusal) stated c.in-Err-fit_jobs.ensures.stop)

pub unreachable-requires : goal.unreachable-requires
unreachable-requires g c =
    let service = service_of c.args.service.now in
    let stated : c.deref-2.result.now ≡ c.in-Ok.files.claims.items = c.deref-2.ensures.value ∙ c.in-Ok-statements_of.ensures ∙ c.deref.ensures.value in
    let size : length c.as_slice.result.now ≡ length c.deref-2.result.now =
    ap length c.as_slice.ensures.value ∙ ap length c.in-Ok-fit_jobs.ensures.jobs ∙ length-map c.deref-2.result.now (job_over service c.in-Ok.files.file) in
    let same = zip_length (IsStatementOf (g.F.Shelf.state c.args.shelf.now).told) service.claims c.in-Ok.files.claims.items c.in-Ok.ensures.claims in
    let counted = ap length stated in
    omega (arith, size, same, counted, c.requires.some, c.in_default-as_slice.len_below)

pub new-jobs-requires : goal.new-jobs-requires
new-jobs-requires g c =
    let service = service_of c.args.service.now in
    let file = c.in-Ok.files.file in
    let stated : c.deref-2.result.now ≡ c.in-Ok.files.claims.items = c.deref-2.ensures.value ∙ c.in-Ok-statements_of.ensures ∙ c.deref.ensures.value in
    let jobs : VerifierJobs = record { first = c.first-item.result; others = take (length c.as_slice.result.now - 1) (drop 1 c.as_slice.result.now) } in
    let are : all_jobs jobs ≡ map (job_over service file) c.in-Ok.files.claims.items =
    parted_jobs c.as_slice.result.now c.first-item.result c.in-len1-up.len_at_least c.first-item.is ∙ c.as_slice.ensures.value
    ∙ c.in-Ok-fit_jobs.ensures.jobs ∙ ap (map (job_over service file)) stated in
    let served : AreServeJobs (g.F.Shelf.state c.args.shelf.now).told service jobs =
    are_jobs (g.F.Shelf.state c.args.shelf.now).told service file c.in-Ok.files.claims.items jobs c.in-Ok.ensures.file c.in-Ok.ensures.claims
    c.requires.most c.requires.kind are in
    served.are

pub serve_jobs-requires-clause-few : goal.serve_jobs-requires-clause-few
serve_jobs-requires-clause-few g c κs within =
    let jobs : VerifierJobs = record { first = c.first-item.result; others = take (length c.as_slice.result.now - 1) (drop 1 c.as_slice.result.now) } in
    let are : all_jobs jobs ≡ c.in-Ok-fit_jobs.jobs.items =
    parted_jobs c.as_slice.result.now c.first-item.result c.in-len1-up.len_at_least c.first-item.is ∙ c.as_slice.ensures.value in
    subst TakeFewUnits (sym c.new-jobs.ensures)
    (subst (λ (js : List VerifierJob). All (λ job. units_of_job job ≤ MAX_UNITS) js) (sym are) c.in-Ok-fit_jobs.ensures.few)

pub returns-clause-leads : goal.returns-clause-leads
returns-clause-leads g c =
    let service = service_of c.args.service.now in
    let file = c.in-Ok.files.file in
    let stated : c.deref-2.result.now ≡ c.in-Ok.files.claims.items = c.deref-2.ensures.value ∙ c.in-Ok-statements_of.ensures ∙ c.deref.ensures.value in
    let are : all_jobs c.new-jobs.result ≡ map (job_over service file) c.in-Ok.files.claims.items =
    ap all_jobs c.new-jobs.ensures ∙ parted_jobs c.as_slice.result.now c.first-item.result c.in-len1-up.len_at_least c.first-item.is
    ∙ c.as_slice.ensures.value ∙ c.in-Ok-fit_jobs.ensures.jobs ∙ ap (map (job_over service file)) stated in
    let served : AreServeJobs (g.F.Shelf.state c.args.shelf.now).told service c.new-jobs.result =
    are_jobs (g.F.Shelf.state c.args.shelf.now).told service file c.in-Ok.files.claims.items c.new-jobs.result c.in-Ok.ensures.file
    c.in-Ok.ensures.claims c.requires.most c.requires.kind are in
    ok_then _ _ c.serve_jobs.result (λ value leads. record { jobs = c.new-jobs.result; served = served; leads = leads }) c.serve_jobs.ensures.leads

pub returns-clause-stop : goal.returns-clause-stop
returns-clause-stop g c = let service = service_of c.args.service.now in let file = c.in-Ok.files.file in let stated : c.deref-2.result.now ≡ c.in-Ok.files.claims.items = c.deref-2.ensures.value ∙ c.in-Ok-statements_of.ensures ∙ c.deref.ensures.value in let are : all_jobs c.new-jobs.result ≡ map (job_over service file) c.in-Ok.files.claims.items = ap all_jobs c.new-jobs.ensures ∙ parted_jobs c.as_slice.result.now c.first-item.result c.in-len1-up.len_at_least c.first-item.is ∙ c.as_slice.ensures.value ∙ c.in-Ok-fit_jobs.ensures.jobs ∙ ap (map (job_over service file)) stated in let served : AreServeJobs (g.F.Shelf.state c.args.shelf.now).told service c.new-jobs.result = are_jobs (g.F.Shelf.state c.args.shelf.now).told service file c.in-Ok.files.claims.items c.new-jobs.result c.in-Ok.ensures.file c.in-Ok.ensures.claims c.requires.most c.requires.kind are in err_then _ _ c.serve_jobs.result (λ stopped opening. inr (c.new-jobs.result, served, opening)) c.serve_jobs.ensures.stop
