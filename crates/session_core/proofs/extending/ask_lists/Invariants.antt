use Rattle.std.proofs.Common.{◌≡◌, ◌≤◌, ◌+◌, ◌-◌, map}
use Rattle.std.specs.List.{range_with_len}
use Rattle.zk_model.specs.HonestProver.{honest_asks}
use Rattle.round_fan.specs.Fans.{lists_of}
use Rattle.session_core.proofs.extending.ask_lists.Given as goal

-- the asks of the first units
abbrev pub invariant-loop-unit : goal.invariant-loop-unit
invariant-loop-unit l = (l.fn.grant.start ≤ l.unit)
    × (l.unit-end ≡ l.fn.grant.start + l.fn.grant.count)
    × (lists_of l.asks.items ≡ map (honest_asks l.fn.file) (range_with_len l.fn.grant.start (l.unit - l.fn.grant.start)))
