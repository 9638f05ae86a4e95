use Rattle.std.proofs.Common.{refl, rules, ap, ◌∙◌, ◌≡◌, ◌≢◌}
use Rattle.zk_model.specs.FileBytes.{verifier_file_bytes}
use Rattle.dealer_files.proofs.ReadFiles.{header_is, verifier_spelled, verifier_is_read, units_in_range, not_set, is_set}
use Rattle.dealer_files.proofs.ReadBlocks.{verifier_in_range}
use Rattle.zk_model.specs.declared.Side.TheVariants.{Verifier}
use Rattle.dealer_files.proofs.decoding.decode_verifier.Goals as goal

pub new-requires-clause-file : goal.new-requires-clause-file
new-requires-clause-file c =
    verifier_is_read c.args.bytes.now c.in_ok-head.head.version c.in_ok-head.head.params c.in_ok-head.head.id c.in_ok-head.head.coin_key c.in_ok-head.head.code_seed
    c.in_ok-key.key c.in_ok-blocks.blocks.keys.items c.in_ok-blocks.blocks.pads.items c.in_ok-head.ensures.head c.in_ok-head.ensures.version c.in_ok-head.ensures.params
    c.in_ok-head.ensures.octets.0 c.in_ok-head.ensures.octets.1 c.in_ok-head.ensures.code_seed c.in_ok-key.ensures.element (search rules) c.in_ok-blocks.ensures.blocks

pub returns-clause-encoded : goal.returns-clause-encoded
returns-clause-encoded c =
    let header = header_is Verifier c.args.bytes.now c.in_ok-head.head.version c.in_ok-head.head.params c.in_ok-head.head.id c.in_ok-head.head.coin_key c.in_ok-head.head.code_seed
    c.in_ok-head.ensures.head.head c.in_ok-head.ensures.version c.in_ok-head.ensures.params c.in_ok-head.ensures.spelled c.in_ok-head.ensures.id c.in_ok-head.ensures.coin_key c.in_ok-head.ensures.code_seed in
    ap verifier_file_bytes c.new.ensures
    ∙ verifier_spelled c.args.bytes.now c.in_ok-head.head.version c.in_ok-head.head.params c.in_ok-head.head.id c.in_ok-head.head.coin_key c.in_ok-head.head.code_seed c.in_ok-key.key
    c.in_ok-blocks.blocks.keys.items c.in_ok-blocks.blocks.pads.items c.in_ok-head.ensures.head (c.if-not-has_digest.ensures.0 refl) c.in_ok-head.ensures.params header
    c.in_ok-key.ensures.spelled c.in_ok-blocks.ensures.blocks

pub returns-then-eq-clause-fault : goal.returns-then-eq-clause-fault
returns-then-eq-clause-fault c =
    let unset : c.in_ok-key.key ≡ 0 = search rules in (
      c.in_ok-head.ensures.head,
      verifier_in_range c.args.bytes.now c.in_ok-key.ensures.good (units_in_range _ _ _ _ _ _ _ c.in_ok-head.ensures.params c.in_ok-blocks.ensures.blocks),
      not_set c.in_ok-key.key _ c.in_ok-key.ensures.value unset,
    )

pub returns-then-not-has_digest-clause-fault : goal.returns-then-not-has_digest-clause-fault
returns-then-not-has_digest-clause-fault c =
    let set : c.in_ok-key.key ≢ 0 = search rules in (
      c.in_ok-head.ensures.head,
      verifier_in_range c.args.bytes.now c.in_ok-key.ensures.good (units_in_range _ _ _ _ _ _ _ c.in_ok-head.ensures.params c.in_ok-blocks.ensures.blocks),
      is_set c.in_ok-key.key _ c.in_ok-key.ensures.value set,
      λ is. let no = c.if-not-has_digest.ensures.1 is in cc,
    )

pub returns-clause-dealt : goal.returns-clause-dealt
returns-clause-dealt c =
    let set : c.in_ok-key.key ≢ 0 = search rules in record {
      body = c.in_ok-head.ensures.head;
      in_range = verifier_in_range c.args.bytes.now c.in_ok-key.ensures.good (units_in_range _ _ _ _ _ _ _ c.in_ok-head.ensures.params c.in_ok-blocks.ensures.blocks);
      key = is_set c.in_ok-key.key _ c.in_ok-key.ensures.value set;
      digest = c.if-not-has_digest.ensures.0 refl;
    }
