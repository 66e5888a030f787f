use Rattle.std.proofs.Common.{◌≡◌, ◌∙◌, ap, ◌<◌, [], arith, length, get_or, subst, IfOk, IfErr}
use Rattle.fill_text.specs.FillLists.{bad_among, names_of_set}
use Rattle.fill_text.specs.Refused.{IsRefusedFor}
use Rattle.fill_text.proofs.ReadRings.{zones_many, bad_is}
use Rattle.fill_text.proofs.reading.try_zone_at.Goals as goal

pub offset_bounds-zones-k : goal.offset_bounds-zones-k
offset_bounds-zones-k c =
    let m = zones_many c.args.root.now.bytes c.args.root.now.item c.requires.board.0 c.args.board.now.board c.args.zones.now c.requires.board.1 c.requires.zones in
    let l = c.requires.there in
    let few = c.sound.ensures.outlines in
    omega (arith, l, m, few)

pub bounds-zones-k : goal.bounds-zones-k
bounds-zones-k c =
    let m = zones_many c.args.root.now.bytes c.args.root.now.item c.requires.board.0 c.args.board.now.board c.args.zones.now c.requires.board.1 c.requires.zones in
    let l : c.args.k < length c.args.board.now.board.zones = let h = c.requires.there in omega (arith, h, m) in
    rw c.zones.ensures l

pub returns-clause-read : goal.returns-clause-read
returns-clause-read c =
    subst (λ bad. IfOk c.try_zone.result (λ _. bad ≡ []))
    (ap (λ ls. bad_among c.index-zones-k-2.result.bytes (names_of_set ls c.index-zones-k.result.layers) c.index-zones-k-2.result.item) c.layers.ensures
    ∙ bad_is c.args.root.now.bytes c.args.root.now.item c.requires.board.0 c.args.board.now.board c.args.zones.now c.requires.board.1 c.requires.zones c.args.k c.requires.there
    c.index-zones-k-2.result c.index-zones-k-2.is c.index-zones-k.result (c.index-zones-k.is ∙ ap (λ zs. get_or zs c.args.k c.index-zones-k.result) c.zones.ensures))
    c.try_zone.ensures.read

pub returns-clause-refused : goal.returns-clause-refused
returns-clause-refused c =
    subst (λ bad. IfErr c.try_zone.result (IsRefusedFor bad))
    (ap (λ ls. bad_among c.index-zones-k-2.result.bytes (names_of_set ls c.index-zones-k.result.layers) c.index-zones-k-2.result.item) c.layers.ensures
    ∙ bad_is c.args.root.now.bytes c.args.root.now.item c.requires.board.0 c.args.board.now.board c.args.zones.now c.requires.board.1 c.requires.zones c.args.k c.requires.there
    c.index-zones-k-2.result c.index-zones-k-2.is c.index-zones-k.result (c.index-zones-k.is ∙ ap (λ zs. get_or zs c.args.k c.index-zones-k.result) c.zones.ensures))
    c.try_zone.ensures.bad
