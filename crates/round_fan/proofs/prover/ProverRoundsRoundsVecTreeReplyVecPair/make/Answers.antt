use Rattle.std.proofs.Common.{◌≡◌, ◌*◌, ◌^◌, ◌∙◌, ap, subst, sym, length, rules}
use Rattle.zk_model.specs.Files.{correlations_per_unit}
use Rattle.vole_extend.specs.Rounds.{ProverTurn}
use Rattle.round_fan.specs.Fans.{AreRoundPairs}
use Rattle.round_fan.proofs.Units.{per_unit}
use Rattle.round_fan.proofs.Pairs.{one_unit}
use Rattle.round_fan.proofs.prover.ProverRoundsRoundsVecTreeReplyVecPair.make.Goals as goal

pub returns : goal.returns
returns c =
    let file = c.args.self.now.file.now in
    let pairs = c.in_ok-pairs.pairs.items in
    let trees = c.args.came.now.items in
    let are : AreRoundPairs file c.args.unit trees pairs =
    subst (λ (turn : ProverTurn). AreRoundPairs turn.file turn.unit trees pairs) c.new-round.ensures
    (subst (λ t. AreRoundPairs c.new-round.result.file c.new-round.result.unit t pairs) c.deref.ensures.value c.in_ok-pairs.ensures.pairs) in
    let counted : length pairs ≡ c.new-round.result.file.params.trees * 2 ^ c.new-round.result.file.params.height = search rules in
    let long : length pairs ≡ correlations_per_unit file.params =
    counted ∙ ap (λ (turn : ProverTurn). turn.file.params.trees * 2 ^ turn.file.params.height) c.new-round.ensures
    ∙ sym (per_unit file.params c.requires.fits.extended) in
    one_unit file c.args.unit c.args.came.now pairs are long
