use Rattle.std.proofs.Common.{ℕ, List, sym, ap, ◌∙◌, subst}
use Rattle.std.specs.Prelude.{string_bytes}
use Rattle.zk_port.specs.Doors.{after_connect}
use Rattle.file_commands.specs.ClaimedUnits.{KeepsClaims}
use Rattle.file_commands.specs.Journals.{OpensJournal, disk_change, own_journal}
use Rattle.prove_command.proofs.Claiming.{by_store, keeps_claims}
use Rattle.prove_poly.proofs.poly_prover.prove_witness.Goals as goal

pub returns-clause-holds : goal.returns-clause-holds
returns-clause-holds g c =
    let old = g.B.Disk.state c.args.journal in
    let opened = c.in-Ok.ensures in
    let store = c.in-Ok.store in
    let later = c.into_store.result in
    let held = c.hold_session-note.ensures in
    let claimant = c.hold_session-note.new.claimant in
    let file = c.args.file.now in
    let name = own_journal (string_bytes c.args.ask.now.file) in
    record {
      claim = record { asked = claimant.asked; answer = claimant.answer };
      is_note = held.notes;
      connected = c.in-Ok-connect.ensures.connects
          ∙ ap (λ (address : List ℕ). after_connect address c.args.ask.now.timeout (g.D.Door.state c.args.door.now)) {y = string_bytes c.args.ask.now.address} c.deref-2.ensures;
      kept = subst (λ (d : g.row.B.Denot). KeepsClaims name file.id file.params.total claimant.asked claimant.answer
          (disk_change old (g.B.Disk.state d))) (sym c.close-2.ensures.disk)
          (keeps_claims g.B.Disk.state old store name file.id file.params.total opened.since
          (subst (λ (name : List ℕ). OpensJournal (own_journal name) (disk_change old (g.B.Disk.state store.disk))) {y = string_bytes c.args.ask.now.file} c.deref.ensures opened.opens)
          opened.holds opened.says opened.only later opened.whole opened.total opened.small opened.sound opened.rising opened.in_use
          c.close-2.ensures.sound (g.met.B.Disk.counts_now later.disk) claimant.asked claimant.answer
          (by_store (λ s. s.store) g.B.Disk.state c.new-claimant.result claimant store later claimant.asked claimant.answer c.new-claimant.ensures.store
          c.into_store.ensures held.moved));
    }
