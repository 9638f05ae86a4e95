use Rattle.std.proofs.Common.{◌≡◌, ◌+◌, ℕ, length, sym, subst, arith}
use Rattle.session_verifier.specs.declared.service_logs.LogFaults.{LogFaults}
use Rattle.session_verifier.proofs.LogStores.{Settles, keeps_logs, note_at, settles_none, settles_granted, settles_ungranted}
use Rattle.session_verifier.proofs.service_logs.settle_each.Goals as goal
use Rattle.session_verifier.proofs.service_logs.settle_each.Goals.{in-Some, in_default}

pub loop-note-init : goal.loop-note-init
loop-note-init g c = settles_none c.args.prefix.now c.args.notes.now (g.F.Shelf.state c.args.shelf.now) c.args.before

pub loop-note-preserved : goal.loop-note-preserved
loop-note-preserved g c =
    let first = g.F.Shelf.state c.args.shelf.now in
    let at = note_at c.args.notes.now c.loop-note.note-index c.note-item.result c.loop-note-test.true c.note-item.is in
    let Next : g.row.F.Denot × LogFaults → Type 0 =
    λ now. Settles c.args.prefix.now c.args.notes.now (c.loop-note.note-index + 1) first (g.F.Shelf.state now.0) c.args.before now.1 in
    elim c.match-note.branch [
      | in-Some w ↦ subst Next (λ i. (sym w.shelf-is i, sym w.faults-is i))
          (settles_granted c.args.prefix.now c.args.notes.now c.loop-note.note-index c.note-item.result w.in-Some.span first
          (g.F.Shelf.state c.loop-note.shelf) (g.F.Shelf.state w.settle_log.new.shelf) c.args.before c.loop-note.faults w.settle_log.new.faults
          c.loop-note-test.true at w.in-Some.is c.requires.apart c.loop-note.invariant w.settle_log.ensures)
      | in_default w ↦ subst Next (λ i. (sym w.shelf-is i, sym w.faults-is i))
          (settles_ungranted c.args.prefix.now c.args.notes.now c.loop-note.note-index c.note-item.result first
          (g.F.Shelf.state c.loop-note.shelf) c.args.before c.loop-note.faults at w.in_default.is c.loop-note.invariant)
    ]

pub returns : goal.returns
returns g c = λ first tried.
    let whole : c.loop-note.note-index ≡ length c.args.notes.now = omega (arith, c.loop-note-test.false, c.loop-note.auto.note-index-end) in
    keeps_logs c.args.prefix.now c.args.notes.now first (g.F.Shelf.state c.args.shelf.now) (g.F.Shelf.state c.loop-note.shelf) c.args.before c.loop-note.faults
    (subst (λ (n : ℕ). Settles c.args.prefix.now c.args.notes.now n (g.F.Shelf.state c.args.shelf.now) (g.F.Shelf.state c.loop-note.shelf) c.args.before
    c.loop-note.faults) whole c.loop-note.invariant) tried
