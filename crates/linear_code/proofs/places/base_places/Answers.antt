use Rattle.std.proofs.Common.{◌∙◌, ◌++◌, ◌%◌, map, ap, arith, sym}
use Rattle.zk_coins.specs.Words.{coin_words}
use Rattle.linear_code.specs.Codes.{places_of}
use Rattle.linear_code.proofs.Cuts.{places_more}
use Rattle.linear_code.proofs.places.base_places.Goals as goal

pub loop-coins-preserved : goal.loop-coins-preserved
loop-coins-preserved c = record {
  within = omega (arith, c.in_ok-draw_places.ensures.length, c.min-more.ensures, c.len-in-loop-coins.ensures, c.loop-coins.invariant.within);
  drawn = places_more c.args.code_seed.now c.args.base c.loop-coins.places.len c.min-more.result c.loop-coins.places.items
      c.draw_places.new.places.items c.loop-coins.invariant.drawn
      (c.in_ok-draw_places.ensures.places
      ∙ (λ i. c.loop-coins.places.items ++ map (λ word. word % c.args.base) (coin_words (c.new-coins.ensures i) 0 c.loop-coins.places.len c.min-more.result)))
      ∙ ap (places_of c.args.code_seed.now c.args.base) (sym c.in_ok-draw_places.ensures.length);
}
