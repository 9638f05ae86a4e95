-- What every state of the code keeps, so that its numbers fit their types.
use Rattle.std.specs.Prelude.{◌≡◌, ℕ, ◌+◌, ◌*◌, ◌<◌, ◌≤◌, ◌&&◌, List, nat_eq, nat_lt, length, All}
use Rattle.std.specs.List.{count_by}
use Rattle.lease_core.specs.Machine.{last_of}
use Rattle.lease_core.specs.declared.event.Drawn.{Drawn}
use Rattle.zk_model.specs.declared.limits.TheConstants.{MAX_PASSES, MAX_STORE_UNITS, MAX_UNITS}

-- how many spans end above the total, and how many of these one pass drew
abbrev pub overshoots : ℕ → List Drawn → ℕ
overshoots total drawn = count_by (λ d. nat_lt total d.span.end) drawn

abbrev pub overshoots_of : ℕ → ℕ → List Drawn → ℕ
overshoots_of total pass drawn = count_by (λ d. nat_eq d.pass pass && nat_lt total d.span.end) drawn

-- a pass has at most one span that ends above the total, and so the next unit is bounded
pub record IsBounded (total passes base next : ℕ) (drawn : List Drawn) : Type 0 where
  pub base_low : base ≤ total
  pub next_low : next ≤ total + MAX_UNITS * overshoots total drawn
  pub below : All (λ d. d.pass < passes) drawn
  pub once : (pass : ℕ) → overshoots_of total pass drawn ≤ 1

-- the limits of the numbers
pub record IsLimited (total passes ceiling shown : ℕ) (slots known : List ℕ) : Type 0 where
  pub total_low : total ≤ MAX_STORE_UNITS
  pub passes_low : passes ≤ MAX_PASSES
  pub ceiling_low : ceiling ≤ total
  pub slots_low : last_of slots ≤ total
  pub known_all : length known ≡ passes
