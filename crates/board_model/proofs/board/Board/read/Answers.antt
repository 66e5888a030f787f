use Rattle.std.proofs.Common.{◌∙◌}
use Rattle.std.proofs.lemmas.Result.{err_from_is_err_and}
use Rattle.board_model.specs.declared.error.BoardError.TheVariants.{Memory}
use Rattle.board_model.proofs.Running.{err_kept}
use Rattle.board_model.proofs.Whole.{root_of, refusal, read_so, sound_so}
use Rattle.board_model.proofs.board.Board.read.Goals as goal

pub returns-in_err-found-clause-refused : goal.returns-in_err-found-clause-refused
returns-in_err-found-clause-refused c =
    let p = err_from_is_err_and c.from_residual-in_err-found.result c.from_residual-in_err-found.ensures.1 in
    err_kept c.from_residual-in_err-found.result c.in_err-found.field-0.0 _ _ p.1 p.2
    (λ root at.
    refusal c.args.bytes.now root c.root-root.result c.in_ok-known.known c.in_err-found.field-0.0
    (root_of c.args.bytes.now root c.root-root.result c.in_ok-known.known c.root-root.ensures.bytes (c.root-root.ensures.root root at) c.in_ok-known.ensures) c.in_err-found.ensures.err)

pub returns-in_err-layers-clause-refused : goal.returns-in_err-layers-clause-refused
returns-in_err-layers-clause-refused c =
    let p = err_from_is_err_and c.from_residual-in_err-layers.result c.from_residual-in_err-layers.ensures.1 in
    err_kept c.from_residual-in_err-layers.result Memory _ _ p.1 p.2 (λ root at. tt)

pub returns-clause-board : goal.returns-clause-board
returns-clause-board c =
    λ root at.
    read_so c.args.bytes.now root c.root-root.result c.in_ok-known.known c.in_ok-version.version c.in_ok-layers.layers.items c.in_ok-found.found c.args.rules
    (root_of c.args.bytes.now root c.root-root.result c.in_ok-known.known c.root-root.ensures.bytes (c.root-root.ensures.root root at) c.in_ok-known.ensures)
    c.in_ok-version.ensures (c.in_ok-layers.ensures ∙ c.names.ensures) c.in_ok-found.ensures.ok

pub returns-in_err-version-clause-refused : goal.returns-in_err-version-clause-refused
returns-in_err-version-clause-refused c =
    let p = err_from_is_err_and c.from_residual.result c.from_residual.ensures.1 in
    err_kept c.from_residual.result Memory _ _ p.1 p.2 (λ root at. tt)

pub invariant_of-result : goal.invariant_of-result
invariant_of-result c =
    let root = c.requires.root in
    sound_so c.args.bytes.now root c.root-root.result c.in_ok-known.known c.in_ok-version.version c.in_ok-layers.layers.items c.in_ok-found.found c.args.rules
    (root_of c.args.bytes.now root c.root-root.result c.in_ok-known.known c.root-root.ensures.bytes (c.root-root.ensures.root root c.requires.is_tree) c.in_ok-known.ensures)
    c.in_ok-version.ensures (c.in_ok-layers.ensures ∙ c.names.ensures) c.in_ok-found.ensures.ok c.sound.ensures
