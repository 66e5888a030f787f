use Rattle.std.proofs.Common.{◌∙◌, refl, ap, subst, List, Bool, length}
use Rattle.fills.specs.declared.Task.{Task}
use Rattle.dirtied.specs.Dirtied.{AreTaskFlags}
use Rattle.dirtied.proofs.Flags.{ok_so}
use Rattle.refill.specs.Inner.Flags.{IsKeptOn}
use Rattle.refill.proofs.flags.next_flags.Goals as goal

pub kept_on-requires-clause-direct : goal.kept_on-requires-clause-direct
kept_on-requires-clause-direct c =
    let r = c.requires.read in
    ap (λ (fs : List Bool). length fs) c.deref-4.ensures.value
    ∙ (c.in_ok-direct.ensures r.text r.after c.args.old.now.board.rules r.before r.now refl r.rules).all

pub returns : goal.returns
returns c =
    ok_so c.kept_on.result _ _
    (λ next f. record {
      flagged = c.in_ok-flagged.flagged.items;
      direct = c.in_ok-direct.direct.items;
      were = c.in_ok-flagged.ensures;
      are = c.in_ok-direct.ensures;
      kept =
          subst (λ (ts : List Task). AreTaskFlags c.args.new.now.board (IsKeptOn c.args.new.now.board ts c.in_ok-direct.direct.items) next.items) c.deref-3.ensures.value
          (subst (λ (fs : List Bool). AreTaskFlags c.args.new.now.board (IsKeptOn c.args.new.now.board c.deref-3.result.now fs) next.items) c.deref-4.ensures.value f);
    })
    c.kept_on.ensures
