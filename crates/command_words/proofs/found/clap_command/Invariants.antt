use Rattle.std.proofs.Common.{◌≡◌, map, take}
use Rattle.clap.specs.Simple.{app_of, new_rule}
use Rattle.command_words.specs.Found.{with_rules, valued_rule, flag_rule}
use Rattle.command_words.proofs.found.clap_command.Given as goal

-- each of these arguments so far
abbrev pub invariant-loop-column : goal.invariant-loop-column
invariant-loop-column l = app_of l.command ≡ with_rules (app_of l.initial.command) (map (λ p. new_rule p.0.now) (take l.column-index l.row.places.now))

abbrev pub invariant-loop-column-2 : goal.invariant-loop-column-2
invariant-loop-column-2 l = app_of l.command ≡ with_rules (app_of l.initial.command) (map (λ p. valued_rule p.0.now) (take l.column-index l.row.options.now))

abbrev pub invariant-loop-id : goal.invariant-loop-id
invariant-loop-id l = app_of l.command ≡ with_rules (app_of l.initial.command) (map (λ p. flag_rule p.now) (take l.id-index l.row.flags.now))
