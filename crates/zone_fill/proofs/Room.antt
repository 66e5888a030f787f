-- How far the anchors of a task and the board's edges lie: as far as is asked where cells are kept.
use Rattle.std.proofs.Common.{refl, sym, subst, inl, inr, ℕ, arith, List, [], ◌∷◌}
use Rattle.std.specs.Prelude.{ℤ, ◌+ℤ◌, not, ◌&&◌, ◌==◌, ◌++◌, flat_map}
use Rattle.std.specs.List.{All}
use Rattle.std.proofs.lemmas.Int.{ints}
use Rattle.std.proofs.lemmas.List.Elements.{All-nil, All-cons}
use Rattle.touching.specs.Core.{Core, area, line}
use Rattle.plane.specs.Narrow.{IsNearZero}
use Rattle.cores.specs.Room.{IsCoreInRoom}
use Rattle.copper_shape.specs.Shapes.{Copper}
use Rattle.classes.specs.Classes.{IsOneOf}
use Rattle.islands.specs.Held.{IsAnchorInRoom}
use Rattle.islands.specs.Inside.{IsEdgeInRoom}
use Rattle.board_language.specs.Board.{Board}
use Rattle.board_language.specs.Facts.{IsSmallShape, IsSoundTrack, IsSoundVia, IsSoundPad, IsSoundBoard}
use Rattle.board_language.specs.Copper.{has_layer}
use Rattle.board_language.specs.declared.board.Track.{Track}
use Rattle.board_language.specs.declared.board.Via.{Via}
use Rattle.board_language.proofs.Members.{one_of_append, one_of_flat, all_one_of}
use Rattle.fill_rules.specs.Tasks.{Task, Settings, settings_of, task_zone}
use Rattle.fill_rules.specs.Needs.{role, is_on, track_copper, via_copper}
use Rattle.fill_rules.specs.Anchors.{is_joined, pad_anchors, via_anchors, track_anchors, anchors_of}
use Rattle.fill_rules.proofs.Members.{one_of_when}
use Rattle.knockouts.specs.OfTask.{task_anchors}

-- ---- edges
pub edges_near : (b : Board) → IsSoundBoard b → All IsEdgeInRoom b.edges
edges_near b s k d l = let e = s.edges k d l in record { from = e.from; to = e.to }

-- ---- anchors, one by one
doubled : (z : ℤ) → IsNearZero 500000000 z → IsNearZero 1200000000 (z +ℤ z)
doubled z h = record { low = omega (arith, ints, h.low, h.high); high = omega (arith, ints, h.low, h.high) }

wider : (z : ℤ) → IsNearZero 1100000000 z → IsNearZero 1200000000 z
wider z h = record { low = omega (arith, ints, h.low); high = omega (arith, ints, h.high) }

core_near : (c : Core) → IsCoreInRoom 1100000000 c → IsCoreInRoom 1200000000 c
unfolding IsCoreInRoom
core_near (area o) h = record {
  left = omega (arith, ints, h.left);
  right = omega (arith, ints, h.right);
  top = omega (arith, ints, h.top);
  bottom = omega (arith, ints, h.bottom);
}
core_near (line s t) h = record { sx = wider s.x h.sx; sy = wider s.y h.sy; tx = wider t.x h.tx; ty = wider t.y h.ty }

shape_near : (c : Copper) → IsSmallShape c → IsAnchorInRoom c
shape_near c h = record { core = core_near c.core h.within; radius = omega (arith, h.radius) }

via_near : (layers : ℕ) (v : Via) → IsSoundVia layers v → IsAnchorInRoom (via_copper v)
unfolding IsCoreInRoom
via_near layers v h =
    let x = doubled v.at.x h.at.x in
    let y = doubled v.at.y h.at.y in
    record {
      core = record { left = x.low; right = x.high; top = y.low; bottom = y.high };
      radius = omega (arith, h.size.most);
    }

track_near : (layers : ℕ) (t : Track) → IsSoundTrack layers t → IsAnchorInRoom (track_copper t)
unfolding IsCoreInRoom
track_near layers t h = record {
  core = record { sx = doubled t.from.x h.from.x; sy = doubled t.from.y h.from.y; tx = doubled t.to.x h.to.x; ty = doubled t.to.y h.to.y };
  radius = omega (arith, h.width.most);
}

-- ---- all anchors of a task
only : (P : Copper → Type 0) (c o : Copper) → IsOneOf o (c ∷ []) → P c → P o
unfolding IsOneOf
only P c o (inl e) h = subst P (sym e) h
only P c o (inr none) h = absurd none

each_near : (b : Board) (z : Settings) (l : ℕ) → IsSoundBoard b → (o : Copper) → IsOneOf o (anchors_of b z l) → IsAnchorInRoom o
unfolding anchors_of
each_near b z l s o i =
    elim (one_of_append o (flat_map (pad_anchors z l) b.pads) (flat_map (via_anchors z l) b.vias ++ flat_map (track_anchors z l) b.tracks) (one_of_when (not (z.net == 0)) o _ i)) [
      | inl pads ↦
          let p = one_of_flat (pad_anchors z l) o b.pads pads in
          only IsAnchorInRoom p.0.shape o (one_of_when (is_on l p.0 && is_joined (role z p.0)) o (p.0.shape ∷ []) p.2)
          (shape_near p.0.shape (all_one_of (IsSoundPad _) b.pads p.0 s.pads p.1).shape)
      | inr rest ↦ elim (one_of_append o (flat_map (via_anchors z l) b.vias) (flat_map (track_anchors z l) b.tracks) rest) [
        | inl vias ↦
            let v = one_of_flat (via_anchors z l) o b.vias vias in
            only IsAnchorInRoom (via_copper v.0) o (one_of_when (has_layer v.0.layers l && (v.0.net == z.net)) o (via_copper v.0 ∷ []) v.2)
            (via_near _ v.0 (all_one_of (IsSoundVia _) b.vias v.0 s.vias v.1))
        | inr tracks ↦
            let t = one_of_flat (track_anchors z l) o b.tracks tracks in
            only IsAnchorInRoom (track_copper t.0) o (one_of_when ((t.0.layer == l) && (t.0.net == z.net)) o (track_copper t.0 ∷ []) t.2)
            (track_near _ t.0 (all_one_of (IsSoundTrack _) b.tracks t.0 s.tracks t.1))
      ]
    ]

one_all : {A : Type 0} (P : A → Type 0) (xs : List A) → ((x : A) → IsOneOf x xs → P x) → All P xs
unfolding IsOneOf
one_all P [] f = All-nil P
one_all P (x ∷ xs) f = All-cons P x xs (f x (inl refl)) (one_all P xs (λ y i. f y (inr i)))

pub anchors_near : (b : Board) (t : Task) → IsSoundBoard b → All IsAnchorInRoom (task_anchors b t)
anchors_near b t s = one_all IsAnchorInRoom (task_anchors b t) (each_near b (settings_of (task_zone b t)) t.layer s)
