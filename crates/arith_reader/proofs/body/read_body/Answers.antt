use Rattle.std.proofs.Common.{◌-◌, arith, sym, subst, List, Bool, length}
use Rattle.arith_reader.specs.declared.fault.ReadError.TheVariants.{Fault}
use Rattle.arith_reader.specs.Rows.{AreSetFrom, GivesRow, IsFirstUnset, IsWithin, RefusesRow, RowsCause}
use Rattle.arith_reader.proofs.Exits.{raised}
use Rattle.arith_reader.proofs.BodySteps.{body_first, body_more, row_fault, extra_fault, output_fault, body_found}
use Rattle.arith_reader.proofs.body.read_body.Goals as goal

pub rows-init : goal.rows-init
rows-init c = body_first c.args.header c.args.tokens.now c.in_ok-set.set.items c.in_ok-rows.rows c.in_ok-rows.ensures c.in_ok-set.ensures

pub returns-in_err-row-clause-cause : goal.returns-in_err-row-clause-cause
returns-in_err-row-clause-cause c =
    raised (RowsCause c.args.header c.args.tokens.now) c.from_residual-in_err-row.result (Fault c.in_err-row.field-0.0) c.from_residual-in_err-row.ensures.1
    (row_fault c.args.header c.args.tokens.now c.rows.tokens c.rows.set.items c.rows.rows c.rows.counter c.in_err-row.field-0.0 (omega arith)
    (subst (λ (l : List Bool). RefusesRow l c.rows.tokens c.in_err-row.field-0.0) c.deref.ensures.value c.in_err-row.ensures.fault) c.rows.invariant)

pub rows-preserved : goal.rows-preserved
rows-preserved c =
    body_more c.args.header c.args.tokens.now c.rows.tokens c.read_row.new.tokens c.rows.set.items c.note.new.set.items c.rows.rows c.push.new.self
    c.in_ok-row.row c.rows.counter (subst (λ (l : List Bool). GivesRow l c.rows.tokens c.read_row.new.tokens c.in_ok-row.row) c.deref.ensures.value c.in_ok-row.ensures.row)
    (subst (λ (l : List Bool). IsWithin (length l) c.in_ok-row.row) c.deref.ensures.value c.in_ok-row.ensures.within)
    c.in_ok-push.ensures.pushed c.note.ensures c.rows.invariant

pub returns-in_err-end-clause-cause : goal.returns-in_err-end-clause-cause
returns-in_err-end-clause-cause c =
    raised (RowsCause c.args.header c.args.tokens.now) c.from_residual-in_err-end.result (Fault c.in_err-end.field-0.0) c.from_residual-in_err-end.ensures.1
    (extra_fault c.args.header c.args.tokens.now c.rows.tokens c.rows.set.items c.rows.rows c.rows.counter c.in_err-end.field-0.0 (omega arith) c.in_err-end.ensures.fault c.rows.invariant)

pub returns-in-Some-clause-cause : goal.returns-in-Some-clause-cause
returns-in-Some-clause-cause c =
    subst (RowsCause c.args.header c.args.tokens.now) (sym c.into.ensures)
    (output_fault c.args.header c.args.tokens.now c.rows.tokens c.rows.set.items c.rows.rows c.rows.counter c.in-Some.wire (omega arith) c.requires.outputs c.in_ok-end.ensures.none
    c.rows.invariant
    (subst (λ (l : List Bool). IsFirstUnset l (length l - c.args.header.outputs) c.in-Some.wire) c.deref-2.ensures.value c.in-Some.ensures.unset))

pub returns-clause-found : goal.returns-clause-found
returns-clause-found c =
    body_found c.args.header c.args.tokens.now c.rows.tokens c.rows.set.items c.rows.rows c.rows.counter (omega arith) c.requires.outputs c.in_ok-end.ensures.none
    (subst (λ (l : List Bool). AreSetFrom l (length l - c.args.header.outputs)) c.deref-2.ensures.value c.in_default.ensures.none) c.rows.invariant
