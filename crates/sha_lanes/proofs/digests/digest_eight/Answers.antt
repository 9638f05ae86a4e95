use Rattle.std.proofs.Common.{◌≡◌, ℕ, ◌<◌, List, [], slice_index_or, arith}
use Rattle.sha2.specs.Sha256.{digest_bytes, sha256}
use Rattle.sha_lanes.specs.Lanes.{lane}
use Rattle.sha_lanes.proofs.Block.{one_digest}
use Rattle.sha_lanes.proofs.LaneLemmas.{below_eight}
use Rattle.sha_lanes.proofs.digests.digest_eight.Goals as goal

pub returns : goal.returns
returns c = below_eight _
    (at 0 _ _ (omega arith) c.digest.ensures c.hash_value.ensures)
    (at 1 _ _ (omega arith) c.digest-2.ensures c.hash_value-2.ensures)
    (at 2 _ _ (omega arith) c.digest-3.ensures c.hash_value-3.ensures)
    (at 3 _ _ (omega arith) c.digest-4.ensures c.hash_value-4.ensures)
    (at 4 _ _ (omega arith) c.digest-5.ensures c.hash_value-5.ensures)
    (at 5 _ _ (omega arith) c.digest-6.ensures c.hash_value-6.ensures)
    (at 6 _ _ (omega arith) c.digest-7.ensures c.hash_value-7.ensures)
    (at 7 _ _ (omega arith) c.digest-8.ensures c.hash_value-8.ensures)
  where
    at : (j : ℕ) (bytes words : List ℕ) → j < 8 → bytes ≡ digest_bytes words 8 → words ≡ lane j c.hash_values-hashes.result
        → bytes ≡ sha256 (slice_index_or c.args.messages.now j [])
    at j bytes words low written same =
        one_digest (slice_index_or c.args.messages.now j []) bytes words (lane j c.hash_values-hashes.result)
        (c.hash_values-hashes.ensures.long j low) written same (c.hash_values-hashes.ensures.value j low)
