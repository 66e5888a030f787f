use Rattle.std.proofs.Common.{◌<◌, length, arith}
use Rattle.spreading.proofs.Flooding.{bare_first, read_is}
use Rattle.spreading.proofs.flood.with_class.Goals as goal

pub flooded-requires-clause-bare : goal.flooded-requires-clause-bare
flooded-requires-clause-bare g c =
    let m = c.requires.partly.many in
    let l : c.args.first < length c.args.labels.items = (let a = c.requires.first in omega (arith, a, m)) in
    let r = read_is c.args.labels.items c.args.first c.index.result.now l c.index.ensures in
    bare_first (g.L.Links.count_of c.args.links.now) (g.L.Links.are_linked c.args.links.now) c.args.first c.args.labels.items c.requires.first
    (λ h. omega (arith, h, r, m, c.if-index-len.false, c.len.ensures, c.args.labels.ok)) c.requires.partly
