use Rattle.std.proofs.Common.{◌+◌, ◌-◌, ◌*◌, drop, sym, ap, ◌∙◌, arith, subst}
use Rattle.std.specs.Prelude.{All}
use Rattle.std.proofs.lemmas.List.Elements.{All-push}
use Rattle.proof_frames.specs.Rows.{AreWithin}
use Rattle.proof_frames.proofs.FrameLemmas.{item_taken}
use Rattle.proof_frames.proofs.Spells.{within_rest}
use Rattle.proof_frames.proofs.TreeFrames.{one_level}
use Rattle.proof_frames.proofs.spelling.levels_of.Goals as goal

pub loop-preserved : goal.loop-preserved
loop-preserved g c =
    let left = c.args.height - (c.loop.counter + 1) in
    let fits = one_level g.L.Level.SIZE c.args.height c.loop.counter g.L.Level.most c.loop.rest.now c.loop-test.true c.loop.invariant.rest in
    record {
      bytes = item_taken g.L.Spelled.spelling c.loop.levels.items c.push_reserved.new.self.items _ c.split_at.result.0.now c.split_at.result.1.now c.loop.rest.now c.args.bytes.now
          c.SIZE.result c.push_reserved.ensures.items c.read.ensures.spelled c.split_at.ensures.front c.split_at.ensures.back c.loop.invariant.bytes;
      rest = subst (AreWithin (g.L.Level.SIZE * left) 0 g.L.Level.most) (sym (c.split_at.ensures.back ∙ ap (λ n. drop n c.loop.rest.now) c.SIZE.ensures)) (within_rest g.L.Level.SIZE (g.L.Level.SIZE * left) 0 g.L.Level.most c.loop.rest.now fits);
      each = subst (All g.L.Level.fits) (sym c.push_reserved.ensures.items) (All-push g.L.Level.fits c.loop.levels.items _ c.loop.invariant.each c.read.ensures.fits);
      count = omega arith;
      room = omega arith;
    }
