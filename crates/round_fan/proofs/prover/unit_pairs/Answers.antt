use Rattle.zk_model.specs.Frames.{AreReplies}
use Rattle.round_fan.proofs.Units.{all_fit}
use Rattle.round_fan.proofs.prover.unit_pairs.Goals as goal

pub one_by_one-requires-clause-fits : goal.one_by_one-requires-clause-fits
one_by_one-requires-clause-fits c =
    all_fit AreReplies c.args.file.now.params c.args.file.now.code_seed c.args.columns.now c.args.start c.args.replies.now c.requires.extended
    c.requires.within c.requires.columns c.requires.fits
