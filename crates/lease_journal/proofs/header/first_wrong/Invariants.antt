use Rattle.std.proofs.Common.{◌≡◌, ◌<◌, ℕ, false}
use Rattle.lease_journal.specs.Headers.{is_wrong_beside}
use Rattle.lease_journal.proofs.header.first_wrong.Given as goal

abbrev pub invariant-loop-place : goal.invariant-loop-place
invariant-loop-place l = record { right : (place : ℕ) → place < l.place → is_wrong_beside l.wanted l.fits l.header place ≡ false }
