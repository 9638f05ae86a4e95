use Rattle.std.proofs.Common.{ℕ, List, length, string_bytes, sym, subst}
use Rattle.zk_port.specs.Changes.{change}
use Rattle.zk_port.specs.Doors.{DoorState, after_listen}
use Rattle.lease_store.specs.Ceilings.{HasCeilingHeader}
use Rattle.session_pool.specs.Doors.{TakesLinks}
use Rattle.broker_service.specs.Left.{IsBrokered}
use Rattle.file_commands.specs.Journals.{OpensJournal, disk_change, own_journal}
use Rattle.command_words.specs.Commands.{broker_of}
use Rattle.broker_command.proofs.Opening.{answers_wants}
use Rattle.broker_command.proofs.broker_command.answer_over.Goals as goal

pub answer_all-left-requires-clause-header : goal.answer_all-left-requires-clause-header
answer_all-left-requires-clause-header g c κs within bytes known =
    subst (λ (id : List ℕ). HasCeilingHeader id c.in-Ok.opened.0.total bytes) (sym c.id-id.ensures.id) (c.in-Ok.ensures.header bytes known)

pub returns-in-Ok-listen-clause-answers : goal.returns-in-Ok-listen-clause-answers
returns-in-Ok-listen-clause-answers g c =
    let ask = broker_of c.args.ask.now in
    let left = c.answer_all-left.result in
    let old = g.B.Disk.state c.args.disk in
    let mid = g.B.Disk.state c.in-Ok.opened.0.disk in
    let new = g.B.Disk.state left.disk in
    let base : ℕ = c.in-Ok.opened.0.base in
    let id = c.id-id.ensures.id in
    let total = c.in-Ok.ensures.total in
    answers_wants g.D.Link.Link.state g.B.Disk.state ask c.args.file.now left.notes.items left.door_failed left.memory_failed old mid new
    (change (g.D.Door.state c.args.door) (g.D.Door.state left.door)) base c.in-Ok.opened.1.items c.in-Ok.ensures.since
    (subst (λ (name : List ℕ). OpensJournal (own_journal name) (disk_change old mid)) {y = string_bytes c.args.ask.now.file} c.deref.ensures c.in-Ok.ensures.opens)
    c.in-Ok.ensures.base
    (subst (λ (address : List ℕ). TakesLinks ask.asks (length left.notes.items) left.door_failed left.memory_failed
    (after_listen address ask.timeout ask.asks (g.D.Door.state c.args.door)) (g.D.Door.state left.door)) {y = string_bytes c.args.ask.now.address} c.deref-2.ensures
    (subst (λ (d : DoorState). TakesLinks ask.asks (length left.notes.items) left.door_failed left.memory_failed d (g.D.Door.state left.door))
    {y = after_listen c.deref-2.result.now c.args.ask.now.timeout c.args.ask.now.asks (g.D.Door.state c.args.door)} c.in-Ok-listen.ensures.listens
    c.answer_all-left.ensures.taken))
    c.in-Ok.ensures.unused
    (subst (λ (p : List ℕ × ℕ). IsBrokered g.D.Link.Link.state g.B.Disk.state mid new p.0 base p.1 c.in-Ok.opened.1.items left.notes.items)
    (λ i. (id i, total i)) c.answer_all-left.ensures.left)
