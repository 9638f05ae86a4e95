use Rattle.std.proofs.Common.{refl}
use Rattle.session_verifier.proofs.laws.shown_is_accepted.Goals as goal

pub returns : goal.returns
returns c job granted log shown =
    (record { t = shown.t; in_order = shown.in_order; checks = shown.checks; said = shown.said }, refl)
