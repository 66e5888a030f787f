use Rattle.std.specs.Prelude.{map}
use Rattle.std.proofs.lemmas.Result.{IfOk-weaker, IfErr-weaker}
use Rattle.fill_text.specs.FillLists.{bad_fills, AreRingsRead}
use Rattle.fill_text.specs.Refused.{IsRefusedFor}
use Rattle.fill_text.proofs.ReadRings.{board_there, of_each_root}
use Rattle.fill_text.proofs.reading.read_fills.Goals as goal

pub read_all-requires : goal.read_all-requires
read_all-requires c =
    record {
      board = board_there c.args.text.now c.root-root.result c.args.board.now.board c.requires.tree.root c.requires.tree.is_tree.is_root c.root-root.ensures.bytes
          (c.root-root.ensures.root c.requires.tree.root c.requires.tree.is_tree) c.requires.board;
    }

pub returns-clause-read : goal.returns-clause-read
returns-clause-read c =
    IfOk-weaker c.read_all.result _ _
    (λ v h. of_each_root c.args.text.now c.root-root.result c.requires.tree.root (λ bytes root. AreRingsRead bytes root c.args.board.now.board (map (λ rings. rings.items) v.items))
    c.requires.tree.is_tree.is_root c.root-root.ensures.bytes (c.root-root.ensures.root c.requires.tree.root c.requires.tree.is_tree) h)
    c.read_all.ensures.read

pub returns-clause-refused : goal.returns-clause-refused
returns-clause-refused c =
    IfErr-weaker c.read_all.result _ _
    (λ e h. of_each_root c.args.text.now c.root-root.result c.requires.tree.root (λ bytes root. IsRefusedFor (bad_fills bytes root) e)
    c.requires.tree.is_tree.is_root c.root-root.ensures.bytes (c.root-root.ensures.root c.requires.tree.root c.requires.tree.is_tree) h)
    c.read_all.ensures.refused
