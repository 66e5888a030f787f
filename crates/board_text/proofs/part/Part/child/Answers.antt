use Rattle.std.proofs.Common.{◌≡◌, ◌<◌, ℕ, List, length, arith, sym, subst, rules}
use Rattle.sexpr_text.specs.Items.{Item, children_of}
use Rattle.sexpr_text.specs.Flat.{Shown, IsNode, AreNodes}
use Rattle.sexpr_text.specs.Parts.{Part, IsPart, part_of, item_at}
use Rattle.board_text.proofs.AtPart.{children_count, child_is}
use Rattle.board_text.proofs.part.Part.child.Goals as goal

within : (bytes : List ℕ) (nodes : List Shown) (id place : ℕ) (ids : List ℕ) (p : Part) → IsPart bytes nodes id → part_of bytes (item_at nodes id) ≡ p
    → ((item : Item) → IsNode nodes id item → AreNodes nodes ids (children_of item)) → place < length (children_of p.item) → place < length ids
within bytes nodes id place ids p i v h l =
    let m : place < length (children_of (item_at nodes id)) = subst (λ q. place < length (children_of q.item)) (sym v) l in
    omega (arith, m, children_count bytes nodes id ids i h)

pub bounds-children-place : goal.bounds-children-place
bounds-children-place c = within c.self.inside.bytes.now c.self.inside.tree.now c.self.inside.id c.args.place c.children.result.now c.args.self.now c.self.invariant c.self.view_is c.children.ensures.item c.requires

pub offset_bounds-children-place : goal.offset_bounds-children-place
offset_bounds-children-place c =
    let l = within c.self.inside.bytes.now c.self.inside.tree.now c.self.inside.id c.args.place c.children.result.now c.args.self.now c.self.invariant c.self.view_is c.children.ensures.item c.requires in
    search rules

pub returns-clause-item : goal.returns-clause-item
returns-clause-item c = λ d.
    rw (← c.self.view_is) (child_is c.self.inside.bytes.now c.self.inside.tree.now c.self.inside.id c.children.result.now c.args.place d c.self.invariant c.children.ensures.item
    (within c.self.inside.bytes.now c.self.inside.tree.now c.self.inside.id c.args.place c.children.result.now c.args.self.now c.self.invariant c.self.view_is c.children.ensures.item c.requires))
