use Rattle.std.proofs.Common.{refl, ap, ◌∙◌}
use Rattle.zk_model.specs.FileBytes.{prover_file_bytes}
use Rattle.dealer_files.proofs.ReadFiles.{header_is, prover_spelled, prover_is_read, units_in_range}
use Rattle.dealer_files.proofs.ReadBlocks.{prover_in_range}
use Rattle.zk_model.specs.declared.Side.TheVariants.{Prover}
use Rattle.dealer_files.proofs.decoding.decode_prover.Goals as goal

pub returns-then-not-has_digest-clause-fault : goal.returns-then-not-has_digest-clause-fault
returns-then-not-has_digest-clause-fault c = (
  c.in_ok-head.ensures.head,
  prover_in_range c.args.bytes.now (units_in_range _ _ _ _ _ _ _ c.in_ok-head.ensures.params c.in_ok-blocks.ensures.blocks),
  tt,
  λ is. let no = c.if-not-has_digest.ensures.1 is in cc,
)

pub new-requires-clause-file : goal.new-requires-clause-file
new-requires-clause-file c =
    prover_is_read c.args.bytes.now c.in_ok-head.head.version c.in_ok-head.head.params c.in_ok-head.head.id c.in_ok-head.head.coin_key c.in_ok-head.head.code_seed
    c.in_ok-blocks.blocks.pairs.items c.in_ok-blocks.blocks.transfers.items c.in_ok-head.ensures.head c.in_ok-head.ensures.version c.in_ok-head.ensures.params
    c.in_ok-head.ensures.octets.0 c.in_ok-head.ensures.octets.1 c.in_ok-head.ensures.code_seed c.in_ok-blocks.ensures.blocks

pub returns-clause-encoded : goal.returns-clause-encoded
returns-clause-encoded c =
    let header = header_is Prover c.args.bytes.now c.in_ok-head.head.version c.in_ok-head.head.params c.in_ok-head.head.id c.in_ok-head.head.coin_key c.in_ok-head.head.code_seed
    c.in_ok-head.ensures.head.head c.in_ok-head.ensures.version c.in_ok-head.ensures.params c.in_ok-head.ensures.spelled c.in_ok-head.ensures.id c.in_ok-head.ensures.coin_key c.in_ok-head.ensures.code_seed in
    ap prover_file_bytes c.new.ensures
    ∙ prover_spelled c.args.bytes.now c.in_ok-head.head.version c.in_ok-head.head.params c.in_ok-head.head.id c.in_ok-head.head.coin_key c.in_ok-head.head.code_seed
    c.in_ok-blocks.blocks.pairs.items c.in_ok-blocks.blocks.transfers.items c.in_ok-head.ensures.head (c.if-not-has_digest.ensures.0 refl) c.in_ok-head.ensures.params header c.in_ok-blocks.ensures.blocks

pub returns-clause-dealt : goal.returns-clause-dealt
returns-clause-dealt c = record {
  body = c.in_ok-head.ensures.head;
  in_range = prover_in_range c.args.bytes.now (units_in_range _ _ _ _ _ _ _ c.in_ok-head.ensures.params c.in_ok-blocks.ensures.blocks);
  key = tt;
  digest = c.if-not-has_digest.ensures.0 refl;
}
