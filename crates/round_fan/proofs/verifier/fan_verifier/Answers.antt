use Rattle.std.proofs.Common.{arith}
use Rattle.zk_model.specs.Frames.{AreAsks}
use Rattle.round_fan.proofs.Units.{all_fit}
use Rattle.round_fan.proofs.Replies.{replied_count}
use Rattle.round_fan.proofs.verifier.fan_verifier.Goals as goal

pub some_at_a_time-requires-clause-fits : goal.some_at_a_time-requires-clause-fits
some_at_a_time-requires-clause-fits g c κs within =
    all_fit AreAsks c.args.file.now.params c.args.file.now.code_seed c.args.columns.now c.args.span.start c.args.asks.now c.requires.extended
    (omega (arith, c.requires.units, c.requires.within)) c.requires.columns c.requires.fits

pub returns-clause-reply_count : goal.returns-clause-reply_count
returns-clause-reply_count g c =
    replied_count c.args.file.now c.args.span.start c.args.asks.now c.some_at_a_time.new.all.replies.items c.some_at_a_time.new.all.keys.items c.in_ok-some_at_a_time.ensures
