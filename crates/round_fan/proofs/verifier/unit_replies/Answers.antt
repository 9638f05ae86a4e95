use Rattle.zk_model.specs.Frames.{AreAsks}
use Rattle.round_fan.proofs.Units.{all_fit}
use Rattle.round_fan.proofs.Replies.{replied_count}
use Rattle.round_fan.proofs.verifier.unit_replies.Goals as goal

pub one_by_one-requires-clause-fits : goal.one_by_one-requires-clause-fits
one_by_one-requires-clause-fits c =
    all_fit AreAsks c.args.file.now.params c.args.file.now.code_seed c.args.columns.now c.args.start c.args.asks.now c.requires.extended
    c.requires.within c.requires.columns c.requires.fits

pub returns-clause-reply_count : goal.returns-clause-reply_count
returns-clause-reply_count c =
    replied_count c.args.file.now c.args.start c.args.asks.now c.one_by_one.new.all.replies.items c.one_by_one.new.all.keys.items c.in_ok-one_by_one.ensures
