use Rattle.broker_service.proofs.Services.{no_service, service_by}
use Rattle.broker_service.proofs.service.answer_from_none.Goals as goal

pub returns-in-Ok-clause-served : goal.returns-in-Ok-clause-served
returns-in-Ok-clause-served g c =
    service_by g.D.Link.Link.state g.B.Disk.state c.args.passes.now.items c.index_mut.result.now c.answer_links.new.pass c.in-Ok.core c.answer_links.new.core
    c.answer_links.new.notes.items c.requires.one c.index_mut.ensures.value c.in-Ok.ensures c.answer_links.ensures.notes

pub returns-in-Err-clause-served : goal.returns-in-Err-clause-served
returns-in-Err-clause-served g c = no_service g.D.Link.Link.state g.B.Disk.state c.args.passes.now.items c.args.notes.now.items c.requires.one c.requires.none
