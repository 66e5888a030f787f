use Rattle.std.proofs.Common.{◌∙◌}
use Rattle.sheet_union.proofs.Joined.{test_is, grown_is, kept_is}
use Rattle.sheet_union.proofs.merge.join.Goals as goal

pub returns-then-is_less-clause-value : goal.returns-then-is_less-clause-value
returns-then-is_less-clause-value c =
    grown_is c.args.a c.args.b c.requires.a c.requires.b
    (test_is c.args.a.right c.args.a.right_end c.args.b.right c.args.b.right_end c.is_less.result c.requires.a.right c.requires.a.right_end c.requires.b.right c.requires.b.right_end c.is_less.ensures
    ∙ c.if-is_less.true)

pub returns-else-is_less-clause-value : goal.returns-else-is_less-clause-value
returns-else-is_less-clause-value c =
    kept_is c.args.a c.args.b
    (test_is c.args.a.right c.args.a.right_end c.args.b.right c.args.b.right_end c.is_less.result c.requires.a.right c.requires.a.right_end c.requires.b.right c.requires.b.right_end c.is_less.ensures
    ∙ c.if-is_less.false)
