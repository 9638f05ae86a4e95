use Rattle.frame_link.proofs.LineLemmas.{fails_at}
use Rattle.file_commands.specs.declared.deal_command.Stored.TheVariants.{ProverFile, VerifierFile, ProverJournal, VerifierJournal}
use Rattle.file_commands.proofs.Storing.{only_stores, stops_behind, stops_behind_two, stops_first, stops_last, store_of, stored_all}
use Rattle.file_commands.proofs.deal_command.store_dealt.Goals as goal

pub returns-in_err-store_file-2-clause-stop : goal.returns-in_err-store_file-2-clause-stop
returns-in_err-store_file-2-clause-stop g c =
    let why = c.in_err-store_file-2.field-0.0 in
    let one = store_of c.args.name.now c.args.prover.now c.args.verifier.now in
    fails_at _ c.from_residual-in_err-store_file-2.result why c.from_residual-in_err-store_file-2.ensures.1
    (stops_behind (one ProverFile) _ why
    (g.F.Shelf.state c.args.shelf.now) (g.F.Shelf.state c.store_file.new.shelf) (g.F.Shelf.state c.store_file-2.new.shelf)
    c.in_ok-store_file.ensures.stored c.in_ok-store_file.ensures.quiet
    (stops_first (one VerifierFile) _ why (g.F.Shelf.state c.store_file.new.shelf) (g.F.Shelf.state c.store_file-2.new.shelf)
    c.in_err-store_file-2.ensures.others c.in_err-store_file-2.ensures.stop))

pub returns-in_err-store_file-3-clause-stop : goal.returns-in_err-store_file-3-clause-stop
returns-in_err-store_file-3-clause-stop g c =
    let why = c.in_err-store_file-3.field-0.0 in
    let one = store_of c.args.name.now c.args.prover.now c.args.verifier.now in
    fails_at _ c.from_residual-in_err-store_file-3.result why c.from_residual-in_err-store_file-3.ensures.1
    (stops_behind_two (one ProverFile) (one VerifierFile) _ why
    (g.F.Shelf.state c.args.shelf.now) (g.F.Shelf.state c.store_file.new.shelf) (g.F.Shelf.state c.store_file-2.new.shelf)
    (g.F.Shelf.state c.store_file-3.new.shelf)
    c.in_ok-store_file.ensures.stored c.in_ok-store_file.ensures.quiet
    c.in_ok-store_file-2.ensures.stored c.in_ok-store_file-2.ensures.quiet
    (stops_first (one ProverJournal) _ why (g.F.Shelf.state c.store_file-2.new.shelf) (g.F.Shelf.state c.store_file-3.new.shelf)
    c.in_err-store_file-3.ensures.others c.in_err-store_file-3.ensures.stop))

pub returns-clause-stored : goal.returns-clause-stored
returns-clause-stored g c =
    let one = store_of c.args.name.now c.args.prover.now c.args.verifier.now in
    stored_all c.store_file-4.result (one ProverFile) (one VerifierFile) (one ProverJournal) (one VerifierJournal)
    (g.F.Shelf.state c.args.shelf.now).told (g.F.Shelf.state c.store_file.new.shelf).told (g.F.Shelf.state c.store_file-2.new.shelf).told
    (g.F.Shelf.state c.store_file-3.new.shelf).told (g.F.Shelf.state c.store_file-4.new.shelf).told
    c.in_ok-store_file.ensures.stored c.in_ok-store_file-2.ensures.stored c.in_ok-store_file-3.ensures.stored
    c.store_file-4.ensures.stored

pub returns-clause-stop : goal.returns-clause-stop
returns-clause-stop g c =
    let one = store_of c.args.name.now c.args.prover.now c.args.verifier.now in
    stops_last c.store_file-4.result (one ProverFile) (one VerifierFile) (one ProverJournal) (one VerifierJournal)
    (g.F.Shelf.state c.args.shelf.now) (g.F.Shelf.state c.store_file.new.shelf) (g.F.Shelf.state c.store_file-2.new.shelf)
    (g.F.Shelf.state c.store_file-3.new.shelf) (g.F.Shelf.state c.store_file-4.new.shelf)
    c.in_ok-store_file.ensures.stored c.in_ok-store_file.ensures.quiet
    c.in_ok-store_file-2.ensures.stored c.in_ok-store_file-2.ensures.quiet
    c.in_ok-store_file-3.ensures.stored c.in_ok-store_file-3.ensures.quiet c.store_file-4.ensures.others c.store_file-4.ensures.stop

pub returns-in_err-store_file-2-clause-kept : goal.returns-in_err-store_file-2-clause-kept
returns-in_err-store_file-2-clause-kept g c =
    only_stores _ (g.F.Shelf.state c.args.shelf.now) (g.F.Shelf.state c.store_file.new.shelf) (g.F.Shelf.state c.store_file-2.new.shelf)
    c.store_file.ensures.kept c.store_file-2.ensures.kept

pub returns-in_err-store_file-3-clause-kept : goal.returns-in_err-store_file-3-clause-kept
returns-in_err-store_file-3-clause-kept g c =
    only_stores _ (g.F.Shelf.state c.args.shelf.now) (g.F.Shelf.state c.store_file-2.new.shelf) (g.F.Shelf.state c.store_file-3.new.shelf)
    (only_stores _ (g.F.Shelf.state c.args.shelf.now) (g.F.Shelf.state c.store_file.new.shelf) (g.F.Shelf.state c.store_file-2.new.shelf)
    c.store_file.ensures.kept c.store_file-2.ensures.kept)
    c.store_file-3.ensures.kept

pub returns-clause-kept : goal.returns-clause-kept
returns-clause-kept g c =
    only_stores _ (g.F.Shelf.state c.args.shelf.now) (g.F.Shelf.state c.store_file-3.new.shelf) (g.F.Shelf.state c.store_file-4.new.shelf)
    (only_stores _ (g.F.Shelf.state c.args.shelf.now) (g.F.Shelf.state c.store_file-2.new.shelf) (g.F.Shelf.state c.store_file-3.new.shelf)
    (only_stores _ (g.F.Shelf.state c.args.shelf.now) (g.F.Shelf.state c.store_file.new.shelf) (g.F.Shelf.state c.store_file-2.new.shelf)
    c.store_file.ensures.kept c.store_file-2.ensures.kept)
    c.store_file-3.ensures.kept)
    c.store_file-4.ensures.kept
