use Rattle.program_tests.proofs.given.dealt.Goals as goal

pub new_journal-requires : goal.new_journal-requires
new_journal-requires g c = c.requires
