use Rattle.std.proofs.Common.{◌≡◌, length, rules}
use Rattle.session_pool.proofs.Runs.{IsRun, is_run, same_closed, none_left}
use Rattle.session_pool.proofs.serving.serve_named.Given.{Over}
use Rattle.session_pool.proofs.serving.serve_named.Goals as goal

pub returns-then-is_err-clause-left : goal.returns-then-is_err-clause-left
returns-then-is_err-clause-left g c =
    rw (c.close.ensures.notes, c.close.ensures.disk)
    (none_left g.N.LeaseName.start (g.B.Disk.state c.close-disk.result) g.N.LeaseName.id g.N.LeaseName.total c.args.passes.items
    g.W.Shift.fresh c.requires.fresh g.W.Shift.size g.W.Shift.granted g.W.Shift.refused c.new-notes.result.items c.reserve.new.self.items c.args.parts.base
    g.N.LeaseName.passes c.new-notes.ensures.items c.reserve.ensures.items c.requires.all
    (same_closed g.N.LeaseName.start (g.B.Disk.state c.close-disk.result) g.N.LeaseName.id g.N.LeaseName.total c.args.passes.items
    c.named-store.result.base c.args.parts.base c.named-store.ensures.base c.close-disk.ensures))

-- as many passes come back as there were
passes_back : (g : Over) (c : goal.After-close-2 g) → length c.take_all_back.new.passes.items ≡ g.N.LeaseName.passes
passes_back g c = search (rules, c.requires.all)

-- what the notes of all workers say
run_of : (g : Over) (c : goal.After-close-2 g) → IsRun g.W.Shift.granted g.W.Shift.refused g.W.Shift.fresh g.W.Shift.size c.take_all_back.new.notes.items
    g.N.LeaseName.start (g.B.Disk.state c.close-disk-2.result) g.N.LeaseName.id c.args.parts.base g.N.LeaseName.total g.N.LeaseName.passes
run_of g c =
    is_run g.W.Shift.granted g.W.Shift.refused g.W.Shift.is_note g.W.Shift.fresh g.W.Shift.size c.take_all_back.new.notes.items c.take_all_back.new.passes.items
    g.N.LeaseName.start (g.B.Disk.state c.close-disk-2.result) g.N.LeaseName.id c.args.parts.base g.N.LeaseName.total g.N.LeaseName.passes (passes_back g c) c.take_all_back.ensures.back.work c.take_all_back.ensures.back.faults
    (same_closed g.N.LeaseName.start (g.B.Disk.state c.close-disk-2.result) g.N.LeaseName.id g.N.LeaseName.total c.take_all_back.new.passes.items
    c.named-store.result.base c.args.parts.base c.named-store.ensures.base c.close-disk-2.ensures)

pub returns-clause-apart : goal.returns-clause-apart
returns-clause-apart g c = rw c.close-2.ensures.notes (run_of g c).apart

pub returns-clause-left : goal.returns-clause-left
returns-clause-left g c = rw (c.close-2.ensures.notes, c.close-2.ensures.disk) (run_of g c).left

pub returns-clause-refused : goal.returns-clause-refused
returns-clause-refused g c = rw c.close-2.ensures.notes (run_of g c).refusals
