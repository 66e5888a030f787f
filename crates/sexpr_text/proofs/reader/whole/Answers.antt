use Rattle.std.proofs.Common.{subst, sym}
use Rattle.sexpr_text.specs.Trees.{IsTreeOf}
use Rattle.sexpr_text.proofs.Whole.{whole, more_behind}
use Rattle.sexpr_text.proofs.reader.whole.Goals as goal

pub returns-then-space_end-bytes-clause-none : goal.returns-then-space_end-bytes-clause-none
returns-then-space_end-bytes-clause-none c bad tree s =
    more_behind _ _ _ _ _ _ c.space_end-at.ensures.white c.space_end-at.ensures.longest c.in_ok-to.ensures.shape c.space_end.ensures.white c.space_end.ensures.longest c.if-space_end-bytes.true tree s

pub returns-clause-found : goal.returns-clause-found
returns-clause-found c =
    subst (λ nodes. IsTreeOf c.args.bytes.now nodes) (sym c.into_tree.ensures)
    (whole _ _ _ _ _ _ (c.is_utf8.ensures.yes c.if-not-is_utf8.false) c.space_end-at.ensures.white c.new-store.ensures.nodes c.in_ok-to.ensures.shape c.space_end.ensures.white c.if-space_end-bytes.false)
