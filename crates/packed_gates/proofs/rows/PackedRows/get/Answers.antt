use Rattle.std.proofs.Common.{◌≡◌, ◌<◌, ◌∙◌, rules, List, arith, length, ap, subst, sym}
use Rattle.std.specs.Prelude.{Some, slice_get, slice_index_or}
use Rattle.std.proofs.lemmas.List.{length-map}
use Rattle.std.proofs.lemmas.List.Elements.{All-get_or}
use Rattle.zk_model.specs.declared.ArithRow.{ArithRow}
use Rattle.packed_gates.specs.PackedRows.{IsRowRule, lists_of, row_of}
use Rattle.packed_gates.proofs.RowPacking.{row_at, rows_within}
use Rattle.packed_gates.proofs.rows.PackedRows.get.Goals as goal

pub row_of-requires : goal.row_of-requires
row_of-requires c =
    let at : c.index.result.now ≡ slice_index_or c.self.inside.rules.items c.args.i c.index.result.now = search (rules, c.index.ensures) in
    let below : c.args.i < length c.self.inside.rules.items =
    omega (arith, c.requires, ap length c.self.view_is, length-map c.self.inside.rules.items (row_of (lists_of c.self.inside.tables))) in
    subst (IsRowRule (lists_of c.self.inside.tables)) (sym at)
    (All-get_or (IsRowRule (lists_of c.self.inside.tables)) c.self.inside.rules.items c.args.i c.index.result.now below
    (rows_within _ c.self.inside.rules.items c.self.inside.tables c.self.invariant))

pub returns : goal.returns
returns c =
    let at : c.index.result.now ≡ slice_index_or c.self.inside.rules.items c.args.i c.index.result.now = search (rules, c.index.ensures) in
    let below : c.args.i < length c.self.inside.rules.items =
    omega (arith, c.requires, ap length c.self.view_is, length-map c.self.inside.rules.items (row_of (lists_of c.self.inside.tables))) in
    ap (λ (l : List ArithRow). slice_get l c.args.i) (sym c.self.view_is)
    ∙ row_at (lists_of c.self.inside.tables) c.self.inside.rules.items c.args.i c.index.result.now below
    ∙ ap (λ r. Some (row_of (lists_of c.self.inside.tables) r)) (sym at)
    ∙ ap (λ (row : ArithRow). Some row) (sym c.row_of.ensures)
