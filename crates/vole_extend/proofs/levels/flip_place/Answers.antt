use Rattle.std.proofs.Common.{◌≡◌, ℕ, ◌+◌, ◌*◌, ◌<◌, ◌^◌, ◌∙◌, ap, sym, subst, Bool, false, not, add-one, pow-suc}
use Rattle.std.specs.Prelude.{slice_index_or}
use Rattle.zk_model.specs.Bits.{from_bit}
use Rattle.zk_model.specs.Extension.{flip_for}
use Rattle.zk_model.specs.Files.{Transfer}
use Rattle.vole_extend.specs.Levels.{flip_choice, transfer_at}
use Rattle.vole_extend.proofs.AskedAny.{side_is, digit_fits, place_more}
use Rattle.vole_extend.proofs.Ranges.{transfer_read}
use Rattle.vole_extend.proofs.levels.flip_place.Goals as goal

pub loop-level-preserved : goal.loop-level-preserved
loop-level-preserved c = record {
  place_is = place_more (λ level. not (flip_choice c.args.transfers.now c.args.flips.now level)) c.loop-level.level c.loop-level.place c.from.result
      c.loop-level.invariant.place_is (digit_is);
  inside = subst (λ (d : ℕ). 2 * c.loop-level.place + d < 2 ^ (c.loop-level.level + 1)) (sym digit_is)
      (digit_fits (not (flip_choice c.args.transfers.now c.args.flips.now c.loop-level.level)) c.loop-level.place (2 ^ c.loop-level.level) _ c.loop-level.invariant.inside
      (ap (λ n. 2 ^ n) (add-one c.loop-level.level) ∙ pow-suc 2 c.loop-level.level));
}
  where
    transfer : record { bit = c.transfer.inside.bit; pad = c.transfer.inside.pad } ≡ transfer_at c.args.transfers.now c.loop-level.level
    transfer = transfer_read c.args.transfers.now c.loop-level.level _ c.index-transfers-level.result c.transfer.view_is c.index-transfers-level.is c.loop-level-test.true

    choice : c.ask-choice.result ≡ flip_choice c.args.transfers.now c.args.flips.now c.loop-level.level
    choice = c.ask-choice.ensures ∙ ap (λ (t : Transfer). flip_for (slice_index_or c.args.flips.now c.loop-level.level false) t.bit) transfer

    digit_is : c.from.result ≡ from_bit (not (flip_choice c.args.transfers.now c.args.flips.now c.loop-level.level))
    digit_is = c.from.ensures ∙ side_is (not c.ask-choice.result) ∙ ap (λ (b : Bool). from_bit (not b)) choice
