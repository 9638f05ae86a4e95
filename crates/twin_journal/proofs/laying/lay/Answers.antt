use Rattle.std.proofs.Common.{◌≡◌, ◌≤◌, ◌+◌, ◌*◌, ℕ, List, length, Some, IfSome, sym, subst, arith, rules}
use Rattle.lease_journal.specs.Twins.{twin_length}
use Rattle.lease_journal.specs.Keeps.{ChangesAt}
use Rattle.lease_journal.proofs.Keeping.{changes_sync, changes_then, changes_wider}
use Rattle.twin_journal.specs.Filling.{IsFilled}
use Rattle.twin_journal.specs.Laying.{HasAllBytes, IsLaid}
use Rattle.twin_journal.proofs.Laid.{told_all, told_laid}
use Rattle.twin_journal.proofs.laying.lay.Given.{Over}
use Rattle.twin_journal.proofs.laying.lay.Goals.{After-sync}
use Rattle.twin_journal.proofs.laying.lay.Goals as goal

-- the first bytes, the slots of the first area and those of the second are all that changed, up to the sync too
changed : (g : Over) (c : After-sync g) → ChangesAt c.args.twin.begin (twin_length c.args.twin.slots) (g.B.Disk.state c.args.disk.now) (g.B.Disk.state c.sync.new.self)
changed g c =
    let begin = c.args.twin.begin in
    let all = twin_length c.args.twin.slots in
    let first = changes_wider begin 96 begin all (omega arith) (omega arith) c.write_first_bytes.ensures.changes in
    let slots = changes_wider (begin + 96) (32 * c.args.twin.slots) begin all (omega arith) (omega arith) c.write_slots.ensures.changes in
    let second = changes_wider c.head_at-second.result (32 * (c.args.twin.slots + 1)) begin all (omega (arith, c.head_at-second.ensures)) (omega (arith, c.head_at-second.ensures))
    (changes_sync c.head_at-second.result (32 * (c.args.twin.slots + 1)) c.write_slots-2.ensures.changes c.sync.ensures.stays) in
    changes_then begin all first (changes_then begin all slots second)

pub returns-in_err-sync-clause-changes : goal.returns-in_err-sync-clause-changes
returns-in_err-sync-clause-changes g c = changed g (goal.at.returns-in_err-sync-clause-changes g c).After-sync

pub returns-clause-changes : goal.returns-clause-changes
returns-clause-changes g c = changed g (goal.at.returns-clause-changes g c).After-sync

pub returns-clause-laid : goal.returns-clause-laid
returns-clause-laid g c =
    let name = c.args.twin.name in
    let id_size : length c.args.twin.name.id ≡ 32 = search rules in
    let empty = subst (λ (bodies : List (ℕ × ℕ)). (b : List ℕ) → (g.B.Disk.state c.write_slots.new.disk).content ≡ Some b → c.head_at-second.result ≤ length b
    → IfSome (g.B.Disk.state c.write_slots-2.new.disk).content (IsFilled c.head_at-second.result (c.args.twin.slots + 1) bodies)) c.new.ensures c.in_ok-write_slots.ensures.filled in
    let told = told_laid name.kind name.id name.total c.args.twin.begin c.args.twin.slots c.head_at-second.result (g.F.Bodies.rest c.args.next.now)
    id_size c.requires.slots c.head_at-second.ensures c.requires.few
    (g.B.Disk.state c.write_first_bytes.new.disk).content (g.B.Disk.state c.write_slots.new.disk).content (g.B.Disk.state c.write_slots-2.new.disk).content
    c.in_ok-write_first_bytes.ensures.written c.write_slots.ensures.changes.content c.in_ok-filled.ensures.filled
    c.write_slots-2.ensures.changes.content empty in
    subst (λ o. IfSome o (IsLaid name.kind name.id name.total c.args.twin.begin c.args.twin.slots (g.F.Bodies.rest c.args.next.now))) (sym c.sync.ensures.stays.content) told

pub returns-clause-bytes : goal.returns-clause-bytes
returns-clause-bytes g c =
    let name = c.args.twin.name in
    let id_size : length c.args.twin.name.id ≡ 32 = search rules in
    let empty = subst (λ (bodies : List (ℕ × ℕ)). (b : List ℕ) → (g.B.Disk.state c.write_slots.new.disk).content ≡ Some b → c.head_at-second.result ≤ length b
    → IfSome (g.B.Disk.state c.write_slots-2.new.disk).content (IsFilled c.head_at-second.result (c.args.twin.slots + 1) bodies)) c.new.ensures c.in_ok-write_slots.ensures.filled in
    let told = told_all name.kind name.id name.total c.args.twin.begin c.args.twin.slots c.head_at-second.result (g.F.Bodies.rest c.args.next.now)
    id_size c.requires.slots c.head_at-second.ensures c.requires.few
    (g.B.Disk.state c.write_first_bytes.new.disk).content (g.B.Disk.state c.write_slots.new.disk).content (g.B.Disk.state c.write_slots-2.new.disk).content
    c.in_ok-write_first_bytes.ensures.written c.write_slots.ensures.changes.content c.in_ok-filled.ensures.filled
    c.write_slots-2.ensures.changes.content empty in
    subst (λ o. IfSome o (HasAllBytes name.kind name.id name.total c.args.twin.begin c.args.twin.slots (g.F.Bodies.rest c.args.next.now))) (sym c.sync.ensures.stays.content) told
