-- What contracts see of a store, of its parts, and of what stands after its lock.
use Rattle.std.specs.Prelude.{◌≡◌, ℕ, ◌≤◌, List, Some, refl}
use Rattle.std.specs.Coded.{Coded, code_by, coded×, coded_ℕ}
use Rattle.atomic_table.specs.Seated.{TableId, table_id_coded}
use Rattle.zk_port.specs.Disks.{DiskState}
use Rattle.twin_journal.specs.States.{TwinState, state_code}
use Rattle.lease_words.specs.declared.view.View.{View}
use Rattle.lease_store.specs.Ceilings.{HasCeilingHeader, NeverFails}
use Rattle.lease_store.specs.Desks.{IsLeaseDesk}
use Rattle.zk_model.specs.declared.limits.TheConstants.{MAX_STORE_UNITS}

-- Parts of a store: its disk, the table of its words, the first unit of its era, the total of units, and how many passes there are
pub record PartsState (D : Type 0) : Type 0 where
  pub disk : D
  pub table : TableId
  pub base : ℕ
  pub total : ℕ
  pub passes : ℕ

abbrev pub parts_code : {D : Type 0} → Coded D → Coded (PartsState D)
parts_code {D} disk =
    code_by (D × (TableId × (ℕ × (ℕ × ℕ))))
    (coded× disk (coded× table_id_coded (coded× coded_ℕ (coded× coded_ℕ coded_ℕ))))
    (λ p. (p.disk, (p.table, (p.base, (p.total, p.passes)))))
    (λ p. record { disk = p.0; table = p.1.0; base = p.1.1.0; total = p.1.1.1.0; passes = p.1.1.1.1 })
    (λ _. refl)

-- the first unit of a store's era
pub record StoreState : Type 0 where
  pub base : ℕ

-- behind the lock: the journal, the ceiling that its seat shows, the mark that it set, or 0, how far it knows that units were drawn, and how
-- many faults it met and gave no word of
pub record DeskState (D : Type 0) : Type 0 where
  pub journal : TwinState D
  pub ceiling : ℕ
  pub mark : ℕ
  pub drawn : ℕ
  pub met : ℕ

abbrev pub desk_code : {D : Type 0} → Coded D → Coded (DeskState D)
desk_code {D} disk =
    code_by (TwinState D × (ℕ × (ℕ × (ℕ × ℕ))))
    (coded× (state_code disk) (coded× coded_ℕ (coded× coded_ℕ (coded× coded_ℕ coded_ℕ))))
    (λ d. (d.journal, (d.ceiling, (d.mark, (d.drawn, d.met)))))
    (λ p. record { journal = p.0; ceiling = p.1.0; mark = p.1.1.0; drawn = p.1.1.1.0; met = p.1.1.1.1 })
    (λ _. refl)

-- What parts keep: the seat is of these words, which begin at the journal's ceiling, and the journal and the seat are a desk that has
-- just started, for each id that the header has.
pub record AreParts {D : Type 0} (disk_state : D → DiskState) (total base : ℕ) (table seat : TableId) (journal : TwinState D) (name : List ℕ) (v : View) : Type 0 where
  pub few : total ≤ MAX_STORE_UNITS
  pub own : seat ≡ table
  pub named : name ≡ v.keeper
  pub base_is : base ≡ journal.last.0
  pub kept : (id : List ℕ)
      → ((bytes : List ℕ) → (disk_state journal.disk).content ≡ Some bytes → HasCeilingHeader id total bytes)
      → IsLeaseDesk disk_state (disk_state journal.disk) id total base journal v
  pub whole : journal.fault ≡ 0

-- what the desk keeps, of the store that has this table, total, number of passes, base, id, and disk at its start
pub record IsDeskOf {D : Type 0} (disk_state : D → DiskState) (table : TableId) (total passes base : ℕ) (id : List ℕ) (start : DiskState) (seat : TableId) (journal : TwinState D) (name : List ℕ) (own_total : ℕ) (v : View) : Type 0 where
  pub few : own_total ≤ MAX_STORE_UNITS
  pub total_is : own_total ≡ total
  pub own : seat ≡ table
  pub named : name ≡ v.keeper
  pub made : v.made ≡ passes
  pub kept : IsLeaseDesk disk_state start id total base journal v
  pub never : NeverFails disk_state → journal.fault ≡ 0
