use Rattle.std.proofs.Common.{◌≡◌, ℕ, List, Some, sym, ap, ◌∙◌, subst}
use Rattle.zk_model.specs.Files.{ProverFile}
use Rattle.lease_journal.specs.Twins.{HoldsTwin}
use Rattle.zk_model.specs.declared.JournalKind.TheVariants as kind
use Rattle.claim_store.specs.Claims.{AreClaims, SaysClaims}
use Rattle.zk_port.specs.Doors.{after_connect}
use Rattle.file_commands.specs.ClaimedUnits.{KeepsClaims}
use Rattle.file_commands.specs.Journals.{OpensJournal, disk_change, own_journal}
use Rattle.prove_command.proofs.Claiming.{by_store, keeps_claims}
use Rattle.prove_command.proofs.prove_command.prove_job.Goals as goal

pub returns-clause-holds : goal.returns-clause-holds
returns-clause-holds g c =
    let old = g.B.Disk.state c.args.journal in
    let opened = c.in-Ok.ensures in
    let store = c.in-Ok.store in
    let later = c.into_store.result in
    let held = c.prove_session-note.ensures in
    let claimant = c.prove_session-note.new.claimant in
    let file = c.args.job.now.file in
    let same = c.file-file.ensures.file in
    let name = own_journal c.args.proof.now.file in
    record {
      claim = record { asked = claimant.asked; answer = claimant.answer };
      is_note = record {
        first = g.D.Link.Link.state c.in-Ok-connect.link;
        fresh = c.in-Ok-connect.ensures.fresh;
        granted_is = held.granted;
        cause = held.outcome;
        answers = held.answers;
        verdict = held.verdict;
        honest = held.honest;
        claimed = held.claimed;
        related = held.related;
        told = held.logged;
        came = held.came;
        sends = held.sends;
        receives = held.receives;
        faults = held.faults;
        ended = held.ended;
        complete = held.complete;
      };
      connected = c.in-Ok-connect.ensures.connects
          ∙ (λ i. after_connect (c.address-address.ensures i) (c.timeout-timeout.ensures i) (g.D.Door.state c.args.door.now));
      kept = subst (λ (d : g.row.B.Denot). KeepsClaims name file.id file.params.total claimant.asked claimant.answer
          (disk_change old (g.B.Disk.state d))) (sym c.close-2.ensures.disk)
          (keeps_claims g.B.Disk.state old store name file.id file.params.total opened.since
          (subst (λ (name : List ℕ). OpensJournal (own_journal name) (disk_change old (g.B.Disk.state store.disk))) c.file-name.ensures opened.opens)
          (subst (λ (f : ProverFile). (bytes : List ℕ) → old.content ≡ Some bytes → HoldsTwin kind.Claims f.id f.params.total store.begin store.slots bytes) same opened.holds)
          (subst (λ (f : ProverFile). (bytes : List ℕ) → old.content ≡ Some bytes → SaysClaims f.params.total store.begin store.slots store.claims bytes) same opened.says)
          opened.only later opened.whole (opened.total ∙ ap (λ (f : ProverFile). f.params.total) same) opened.small
          (subst (λ (f : ProverFile). AreClaims f.params.total store.claims) same opened.sound) opened.rising opened.in_use
          c.close-2.ensures.sound (g.met.B.Disk.counts_now later.disk) claimant.asked claimant.answer
          (by_store (λ s. s.store) g.B.Disk.state c.new-claimant.result claimant store later claimant.asked claimant.answer c.new-claimant.ensures.store
          c.into_store.ensures held.moved));
    }
