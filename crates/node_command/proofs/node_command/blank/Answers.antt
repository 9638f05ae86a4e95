use Rattle.std.proofs.Common.{◌≡◌, ℕ, List, subst}
use Rattle.std.specs.Prelude.{IfOk}
use Rattle.lease_journal.specs.Twins.{blank_twin_bytes}
use Rattle.zk_model.specs.declared.JournalKind.TheVariants.{Claims}
use Rattle.zk_model.specs.declared.limits.TheConstants.{MAX_CLAIM_SLOTS}
use Rattle.node_command.proofs.node_command.blank.Goals as goal

pub returns : goal.returns
returns c = subst (λ (n : List ℕ × ℕ). IfOk c.blank_twin.result (λ bytes. bytes.items ≡ blank_twin_bytes Claims n.0 n.1 MAX_CLAIM_SLOTS))
    (λ i. (c.id.ensures.id i, c.total.ensures.total i)) c.blank_twin.ensures
