use Rattle.std.proofs.Common.{◌≡◌, ◌∙◌, ap, sym, ◌∷◌, option_map, arith}
use Rattle.std.proofs.lemmas.Result.{err_from_is_err_and}
use Rattle.edit_language.specs.Lines.{pieces, is_line_feed}
use Rattle.edit_language.specs.Scripts.{script_of}
use Rattle.board_edit.specs.Scripts.{IsScriptRefusal}
use Rattle.board_edit.specs.Inner.Reading.{script_with, pieces_left}
use Rattle.board_edit.proofs.Errors.{err_kept}
use Rattle.board_edit.proofs.Readings.{begun, are_edits, refused, are_written}
use Rattle.board_edit.proofs.script.Script.read.Goals as goal

pub lines-init : goal.lines-init
lines-init c = (ap (λ e. script_with e 1 (pieces is_line_feed c.args.bytes.now)) c.new-edits.ensures.items ∙ begun c.args.bytes.now, omega arith)

pub returns-in_err-read_line-clause-refused : goal.returns-in_err-read_line-clause-refused
returns-in_err-read_line-clause-refused c =
    let p = err_from_is_err_and c.from_residual.result c.from_residual.ensures.1 in
    let left = pieces_left (option_map (λ t. t.now) c.first_line.result.1) in
    let said : script_with c.lines.edits.items c.lines.number (c.first_line.result.0.now ∷ left) ≡ script_of c.args.bytes.now =
    ap (script_with c.lines.edits.items c.lines.number) (sym c.first_line.ensures.lines ∙ ap (λ o. pieces_left (option_map (λ t. t.now) o)) (sym c.in-Some.is)) ∙ c.lines.invariant.0 in
    err_kept c.from_residual.result c.in_err-read_line.field-0.0 _ (IsScriptRefusal c.args.bytes.now) p.1 p.2
    (refused c.args.bytes.now (script_with c.lines.edits.items c.lines.number (c.first_line.result.0.now ∷ left)) c.in_err-read_line.field-0.0 said (c.in_err-read_line.ensures.refused left))

pub invariant_of-result : goal.invariant_of-result
invariant_of-result c =
    are_written c.args.bytes.now c.lines.edits.items
    (are_edits c.args.bytes.now c.lines.edits.items c.lines.number
    (ap (λ o. script_with c.lines.edits.items c.lines.number (pieces_left (option_map (λ t. t.now) o))) (sym c.in_default.is) ∙ c.lines.invariant.0))

pub returns-clause-edits : goal.returns-clause-edits
returns-clause-edits c =
    are_edits c.args.bytes.now c.lines.edits.items c.lines.number
    (ap (λ o. script_with c.lines.edits.items c.lines.number (pieces_left (option_map (λ t. t.now) o))) (sym c.in_default.is) ∙ c.lines.invariant.0)
