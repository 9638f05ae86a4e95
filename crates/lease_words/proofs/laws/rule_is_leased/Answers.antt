use Rattle.lease_words.proofs.PlainWords.{rule_is_leased}
use Rattle.lease_words.proofs.laws.rule_is_leased.Goals as goal

pub returns : goal.returns
returns c = rule_is_leased
