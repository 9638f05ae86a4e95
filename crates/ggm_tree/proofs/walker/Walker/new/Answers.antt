use Rattle.ggm_tree.proofs.Pending.{left_first}
use Rattle.ggm_tree.proofs.walker.Walker.new.Goals as goal

pub returns : goal.returns
returns c = left_first c.args.root.now c.args.height _ _
