use Rattle.std.proofs.Common.{◌≡◌, ℕ, List, Some, ap, sym, ◌∙◌, subst}
use Rattle.lease_words.specs.Calls.{base_of}
use Rattle.lease_store.specs.Ceilings.{HasCeilingHeader}
use Rattle.lease_store.specs.Desks.{Begins, IsLeaseDesk}
use Rattle.lease_store.specs.States.{PartsState}
use Rattle.lease_store.proofs.Starting.{named}
use Rattle.lease_store.proofs.parts.LeaseParts.named.Goals as goal

pub new-desk-requires : goal.new-desk-requires
new-desk-requires g c =
    let i = c.self.invariant in
    let p = c.self.inside in
    let k = p.seat.keeper in
    let j = k.journal in
    let v = p.seat.seat.me.0 in
    let is = c.self.view_is in
    let total : k.total ≡ g.N.LeaseName.total = ap (λ (p : PartsState g.row.B.Denot). p.total) is ∙ c.requires.total in
    let base : base_of p.words ≡ g.N.LeaseName.base = ap (λ (p : PartsState g.row.B.Denot). p.base) is ∙ c.requires.base in
    let header : (bytes : List ℕ) → (g.B.Disk.state j.disk).content ≡ Some bytes → HasCeilingHeader g.N.LeaseName.id k.total bytes =
    subst (λ n. (bytes : List ℕ) → (g.B.Disk.state j.disk).content ≡ Some bytes → HasCeilingHeader g.N.LeaseName.id n bytes) (sym total)
    (subst (λ (p : PartsState g.row.B.Denot). (bytes : List ℕ) → (g.B.Disk.state p.disk).content ≡ Some bytes → HasCeilingHeader g.N.LeaseName.id g.N.LeaseName.total bytes)
    (sym is) c.requires.header) in
    let begins : Begins g.N.LeaseName.start (g.B.Disk.state j.disk) =
    subst (λ (p : PartsState g.row.B.Denot). Begins g.N.LeaseName.start (g.B.Disk.state p.disk)) (sym is) c.requires.begins in
    record {
      few = i.few;
      total_is = total;
      named = i.named;
      own = i.own ∙ ap (λ (p : PartsState g.row.B.Denot). p.table) is ∙ c.requires.table;
      made = ap (λ (p : PartsState g.row.B.Denot). p.passes) is ∙ c.requires.passes;
      kept = subst (λ n. IsLeaseDesk g.B.Disk.state g.N.LeaseName.start g.N.LeaseName.id n g.N.LeaseName.base j v) total
          (subst (λ n. IsLeaseDesk g.B.Disk.state g.N.LeaseName.start g.N.LeaseName.id k.total n j v) base
          (named g.B.Disk.state g.N.LeaseName.start g.N.LeaseName.id k.total (base_of p.words) j v begins i.base_is (i.kept g.N.LeaseName.id header)));
      never = λ sure. i.whole;
    }
