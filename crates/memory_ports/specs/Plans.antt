-- What objects in memory tell, and what their calls do.
use Rattle.std.specs.Prelude.{◌≡◌, ◌<◌, ◌≤◌, ℕ, ◌+◌, ◌-◌, ◌^◌, ◌==◌, min, List, [], length, Bool, true, false, Option, Some, None, IsSomeAnd, Result, Ok, Err, Vec, String, if◌then◌else◌}
use Rattle.std.specs.Option.{option_map}
use Rattle.std.specs.List.{list_any}
use Rattle.std.specs.BTreeMap.{get_by_text, BTreeMap}
use Rattle.std.specs.declared.alloc.Global.{Global}
use Rattle.std.specs.Str.{bytes_eq}
use Rattle.zk_port.specs.Counts.{counted}
use Rattle.zk_port.specs.Files.{Files, stored}
use Rattle.zk_port.specs.declared.fault.LoadFault.{LoadFault}
use Rattle.zk_port.specs.declared.fault.LoadFault.TheVariants as load
use Rattle.zk_port.specs.declared.fault.PortFault.{PortFault}
use Rattle.zk_port.specs.declared.fault.PortFault.TheVariants as port

-- the numbers of the calls that are to fail, and of the one that is to find no memory, or 0; how many calls there were and have failed
pub record Schedule : Type 0 where
  pub numbers : List ℕ
  pub lacking : ℕ
  pub calls : ℕ
  pub faults : ℕ

-- under a plan one call more is over, which failed or did not; those that failed are counted
pub record UsesCall
    {P : Type 0}
    (coming : P → ℕ → Bool)
    (count : P → ℕ)
    (failed : Bool)
    (old new : P) : Type 0 where
  pub onward : (n : ℕ) → coming new n ≡ coming old (n + 1)
  pub counts : count new ≡ counted failed (count old)
  pub grows : count old ≤ count new

-- whether the call after n further ones is to fail; a count at the end of its type stands still there
abbrev pub is_to_fail : Schedule → ℕ → Bool
is_to_fail plan n = list_any (λ number. number == min (plan.calls + n + 1) (2 ^ 64 - 1)) plan.numbers

-- whether the next call is to find no memory, unless it fails
abbrev pub is_to_lack : Schedule → Bool
is_to_lack plan = plan.lacking == min (plan.calls + 1) (2 ^ 64 - 1)

-- what isn't there is read as empty where nothing may fail
abbrev pub found : Bool → Option (List ℕ) → Option (List ℕ)
found forgiving (Some bytes) = Some bytes
found true None = Some []
found false None = None

-- a load fails where the plan says so, and where nothing stands under the name
abbrev pub load_fails : Bool → Option (List ℕ) → Bool
load_fails listed (Some bytes) = listed
load_fails listed None = true

-- what a map of files has under a name
abbrev pub file_of : BTreeMap (String Global) (Vec ℕ Global) → List ℕ → Option (List ℕ)
file_of files name = option_map (λ v. v.items) (get_by_text files name)

-- the files with nothing under one name
abbrev pub without : List ℕ → Files → Files
without name files = λ other. if bytes_eq name other then None else files other

-- what each answer of a load says of what stands under the name; of a failed one the plan says when
abbrev pub LoadTells : ℕ → Option (List ℕ) → Result (Vec ℕ Global) LoadFault → Type 0
LoadTells limit stands (Ok v) = (stands ≡ Some v.items) × (length v.items ≤ limit)
LoadTells limit stands (Err load.Failed) = Unit {0}
LoadTells limit stands (Err load.NoMemory) = IsSomeAnd stands (λ bytes. length bytes ≤ limit)
LoadTells limit stands (Err (load.TooLong n)) = (n ≡ limit) × IsSomeAnd stands (λ bytes. limit < length bytes)

-- what a store leaves: the bytes under the name; nothing there, where it failed; all as it was, where memory
-- was missing
abbrev pub StoreLeaves : {T : Type 0} → List ℕ → List ℕ → Files → Files → Result T PortFault → Type 0
StoreLeaves name bytes old new (Ok u) = (other : List ℕ) → new other ≡ stored name bytes old other
StoreLeaves name bytes old new (Err port.Failed) = (other : List ℕ) → new other ≡ without name old other
StoreLeaves name bytes old new (Err port.NoMemory) = (other : List ℕ) → new other ≡ old other
