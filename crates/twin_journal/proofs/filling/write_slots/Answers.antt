use Rattle.std.proofs.Common.{◌≡◌, ◌+◌, ◌*◌, ℕ, List, length, drop, ap, ◌∙◌, subst, arith}
use Rattle.std.proofs.lemmas.List.{drop-drop}
use Rattle.lease_journal.proofs.Keeping.{changes_then, changes_wider, changes_write, steps_written}
use Rattle.twin_journal.specs.Filling.{IsSlotFor, last_after, slot_bytes}
use Rattle.twin_journal.proofs.AreaFills.{last_more, slot_size, told_more, used_more}
use Rattle.twin_journal.proofs.filling.write_slots.Goals as goal

pub loop-slot-preserved : goal.loop-slot-preserved
loop-slot-preserved g c =
    let bodies = g.F.Bodies.rest c.args.next.now in
    let so_far = c.loop-slot.invariant in
    let slot_for : IsSlotFor (drop c.loop-slot.slot (g.F.Bodies.rest c.args.next.now)) c.next_slot-bytes.result =
    subst (λ (rest : List (ℕ × ℕ)). IsSlotFor rest c.next_slot-bytes.result) so_far.rest c.next_slot-bytes.ensures.slot in
    let size : length c.next_slot-bytes.result ≡ 32 = slot_size _ c.next_slot-bytes.result slot_for in
    let begun : drop 1 (g.F.Bodies.rest c.loop-slot.next) ≡ drop (c.loop-slot.slot + 1) (g.F.Bodies.rest c.args.next.now) =
    ap (drop 1) so_far.rest ∙ drop-drop 1 c.loop-slot.slot bodies in
    let counted = c.next_slot-bytes.ensures.used in
    let rest_is = ap length so_far.rest in
    record {
      rest = c.next_slot-bytes.ensures.rest ∙ begun;
      used = omega (arith, counted, so_far.used, rest_is, used_more bodies c.loop-slot.slot);
      last = c.next_slot-bytes.ensures.last ∙ ap (λ (last : ℕ × ℕ). last_after last (g.F.Bodies.rest c.loop-slot.next)) so_far.last
          ∙ ap (last_after _) so_far.rest ∙ last_more bodies c.loop-slot.slot;
      changes = changes_then c.args.at (32 * c.args.slots) so_far.changes
          (changes_wider (c.args.at + 32 * c.loop-slot.slot) (length c.next_slot-bytes.result) c.args.at (32 * c.args.slots) (omega arith) (omega (arith, size, c.loop-slot-test.true))
          (changes_write (c.args.at + 32 * c.loop-slot.slot) (length c.next_slot-bytes.result) (g.met.B.Disk.only_now c.loop-slot.disk) c.write_at.ensures.steps
          (steps_written (c.args.at + 32 * c.loop-slot.slot) c.next_slot-bytes.result _ _ c.in_ok-write_at.ensures.written)));
      filled = λ bytes is starts.
          told_more c.args.at c.loop-slot.slot bodies c.next_slot-bytes.result _ _ size slot_for (c.next_slot-bytes.ensures.exact ∙ ap slot_bytes so_far.rest)
          c.in_ok-write_at.ensures.written (so_far.filled bytes is starts);
      count = c.in_ok-write_at.ensures.cause.done ∙ so_far.count;
    }
