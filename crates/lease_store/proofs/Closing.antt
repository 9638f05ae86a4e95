-- What is left of the desk once the store is closed.
use Rattle.std.proofs.Common.{ℕ, ◌+◌, ◌≤◌, max, List, IfSome, IsSomeAnd, arith, sym, ◌∙◌, subst}
use Rattle.zk_port.specs.Disks.{DiskState}
use Rattle.lease_core.specs.Machine.{ceiling_for}
use Rattle.lease_words.specs.Views.{units_drawn}
use Rattle.lease_words.specs.Calls.{all_entries, all_met_by, AreGathered}
use Rattle.lease_words.specs.declared.pass.Pass.{Pass}
use Rattle.lease_words.specs.declared.view.View.{View}
use Rattle.twin_journal.specs.States.{TwinState}
use Rattle.lease_store.specs.Ceilings.{AreFound, FindsCeiling, SaysCeiling}
use Rattle.lease_store.specs.Desks.{IsLeaseDesk}
use Rattle.lease_store.specs.Leases.{IsClosed}
use Rattle.lease_store.proofs.Contents.{if_known}
use Rattle.lease_store.proofs.Starting.{kept_says}

module _ {D : Type 0} (state : D → DiskState) (start : DiskState) (id : List ℕ) (total base : ℕ) (journal : TwinState D) (v : View) (desk : IsLeaseDesk state start id total base journal v) where
  -- what the desk keeps says that its ceiling is found
  pub found_of : AreFound start (state journal.disk) id total v.ceiling
  found_of = record {
    told = desk.told;
    read = λ first is. subst (λ n. IsSomeAnd (state journal.disk).content (FindsCeiling id total n first)) (sym desk.ceiling) (desk.read first is);
    durable = λ first is image left. subst (λ n. FindsCeiling id total n first image) (sym desk.ceiling) (desk.durable first is image left);
  }

  pub closed : (passes : List Pass) → AreGathered base v.ceiling v.own_mark passes
      → v.ceiling ≤ max base (ceiling_for v.total (base + units_drawn (all_entries passes)))
      → all_met_by passes ≤ 1 → IsClosed start (state journal.disk) id base total passes
  closed passes gathered most once = record {
    ceiling = v.ceiling;
    mark = v.own_mark;
    grows = omega (arith, desk.ceiling, desk.risen);
    gathered = gathered;
    once = once;
    most = subst (λ n. v.ceiling ≤ max base (ceiling_for n (base + units_drawn (all_entries passes)))) desk.total_is most;
    told = desk.told;
    read = found_of.read;
    durable = found_of.durable;
    any_moment = desk.any_moment;
    exact = λ none. subst (λ n. IfSome (state journal.disk).content (SaysCeiling id total n)) (sym desk.ceiling)
        (if_known (state journal.disk).content (λ bytes is. kept_says state id total journal bytes (desk.kept (sym desk.mark ∙ none) bytes is)));
    only = λ none. desk.only (sym desk.mark ∙ none);
    still = λ none. desk.still (sym desk.mark ∙ none);
    rose = λ some. let kept = desk.rose (λ none. some (omega (arith, desk.mark, none))) in (omega (arith, kept.0, desk.mark), omega (arith, kept.1, desk.mark));
    chosen = desk.chosen;
    room = desk.room;
  }
