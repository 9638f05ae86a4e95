use Rattle.std.proofs.Common.{rules, true, ap, ◌∙◌, ◌≡◌, ℕ, List, [], get_or, refl}
use Rattle.std.specs.Borrow.{Bor}
use Rattle.clap.specs.Walk.{rule_of}
use Rattle.clap.specs.Simple.{app_of, app_of_fields, new_rule, App}
use Rattle.command_words.specs.Found.{bare, flag_rule, valued_rule}
use Rattle.command_words.specs.Rows.{column_at, row_at}
use Rattle.command_words.specs.declared.table.Column.{Column}
use Rattle.command_words.specs.declared.table.Need.TheVariants.{Always}
use Rattle.command_words.specs.declared.table.WordKind.TheVariants.{Text}
use Rattle.command_words.proofs.Forms.{none_so_far, mapped, one_more, all_told, whole}
use Rattle.command_words.proofs.found.clap_command.Goals as goal

-- what indexing gives where there is nothing
abbrev nothing : Bor (List ℕ)
nothing = record { ref_ptr = (0, 0); now = [] }

abbrev no_column : Column (Bor (List ℕ))
no_column = record { 0 = nothing; 1 = Text; 2 = Always }

pub loop-column-init : goal.loop-column-init
loop-column-init c = none_so_far _

pub loop-column-2-init : goal.loop-column-2-init
loop-column-2-init c = none_so_far _

pub loop-id-init : goal.loop-id-init
loop-id-init c = none_so_far _

pub loop-column-preserved : goal.loop-column-preserved
loop-column-preserved c =
    one_more (λ p. new_rule p.0.now) _ _ _ c.args.row.now.places.now c.loop-column.column-index _ _ c.loop-column-test.true c.loop-column.invariant
    (c.in_ok-command.ensures.shape (search rules)) c.new-in-loop-column.ensures.rule

pub loop-column-2-preserved : goal.loop-column-2-preserved
loop-column-2-preserved c =
    let rule : rule_of c.long.result ≡ valued_rule (get_or c.args.row.now.options.now c.loop-column-2.column-index no_column).0.now = search rules in
    one_more (λ p. valued_rule p.0.now) _ _ _ c.args.row.now.options.now c.loop-column-2.column-index _ no_column c.loop-column-2-test.true c.loop-column-2.invariant
    (c.in_ok-command-2.ensures.shape (search rules)) rule

pub loop-id-preserved : goal.loop-id-preserved
loop-id-preserved c =
    let rule : rule_of c.action-flag.result ≡ flag_rule (get_or c.args.row.now.flags.now c.loop-id.id-index nothing).now = search rules in
    one_more (λ p. flag_rule p.now) _ _ _ c.args.row.now.flags.now c.loop-id.id-index _ nothing c.loop-id-test.true c.loop-id.invariant
    (c.in_ok-command-3.ensures.shape (search rules)) rule

pub returns : goal.returns
returns c =
    let without_help : app_of c.disable_help_flag-command.result ≡ bare =
    ap app_of_fields c.disable_help_flag-command.ensures ∙ ap (λ (a : App). record a { top = record a.top { disable_help_flag = true } }) c.new.ensures.app in
    whole (row_at c.args.row.now) _ _ _ _ without_help
    (all_told new_rule (λ x. x.0.now) _ _ c.args.row.now.places.now _ _ (mapped (λ p. p.0) column_at c.args.row.now.places.now) c.loop-column-test.false c.loop-column.invariant)
    (all_told valued_rule (λ x. x.0.now) _ _ c.args.row.now.options.now _ _ (mapped (λ p. p.0) column_at c.args.row.now.options.now) c.loop-column-2-test.false c.loop-column-2.invariant)
    (all_told flag_rule (λ x. x.now) _ _ c.args.row.now.flags.now _ _ refl c.loop-id-test.false c.loop-id.invariant)
