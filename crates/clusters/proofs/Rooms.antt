-- How far the pieces of fills and the copper of nodes reach.
use Rattle.std.proofs.Common.{◌≡◌, refl, sym, subst, ℕ, ◌<◌, arith, inl, inr, Bool, true, false, cond, List, [], ◌∷◌, length, map, get_or}
use Rattle.std.specs.Prelude.{slice_get, Option, Some, None, ◌==◌}
use Rattle.std.specs.List.{All}
use Rattle.std.proofs.lemmas.Int.{ints}
use Rattle.std.proofs.lemmas.Bool.{cases_lt}
use Rattle.std.proofs.lemmas.Option.{slice_get_within, get_or_from_slice_get}
use Rattle.std.proofs.lemmas.List.{get_or_past}
use Rattle.std.proofs.lemmas.List.Elements.{All-nil, All-cons}
use Rattle.plane.specs.Plane.{Bounds, IsTight}
use Rattle.octagon.specs.Room.{IsAround}
use Rattle.touching.specs.Core.{Core, area, line}
use Rattle.classes.specs.Classes.{IsOneOf}
use Rattle.cores.specs.Room.{IsCoreInRoom}
use Rattle.copper_shape.specs.Shapes.{Copper}
use Rattle.islands.specs.Held.{IsAnchorInRoom}
use Rattle.islands.proofs.Members.{all_of, of_all}
use Rattle.board_language.specs.declared.board.Track.{Track}
use Rattle.board_language.specs.declared.board.Via.{Via}
use Rattle.board_language.specs.declared.board.Pad.{Pad}
use Rattle.board_language.specs.Board.{Board}
use Rattle.board_language.specs.Facts.{IsSoundBoard, IsSoundTrack, IsSoundVia, IsSoundPad, IsSmallShape}
use Rattle.board_language.proofs.Members.{one_of_map}
use Rattle.fill_rules.specs.Tasks.{Task, ranked}
use Rattle.fill_rules.specs.Needs.{track_copper, via_copper}
use Rattle.fill_rules.specs.Made.{Made, no_fill}
use Rattle.fill_rules.specs.Nodes.{made_of, rank_in}
use Rattle.fill_rules.specs.Clusters.{option_list, labelled, part_pieces, octagon_copper}
use Rattle.fill_rules.proofs.Sound.{fillable}
use Rattle.fills.specs.Fills.{AreBoardFills}
use Rattle.clusters.specs.declared.fill_stacks.FillStacks.{FillStacks}
use Rattle.clusters.specs.Inner.Stacks.{AreNearStacks}
use Rattle.knockouts.proofs.PieceRange.{piece_near, pieces_tight}

-- ---- the pieces of fills

-- tight, and within half a metre
pub record IsNearPiece (o : Bounds) : Type 0 where
  pub tight : IsTight o
  pub near : IsAround 250000000 o

module _ (b : Board) (s : IsSoundBoard b) (fills : List Made) (h : AreBoardFills b fills) where
  pub fill_pieces : (r : ℕ) → (o : Bounds) → IsOneOf o (get_or fills r no_fill).pieces → IsNearPiece o
  unfolding IsOneOf
  fill_pieces r o i = elim (cases_lt r (length fills)) [
    | inl l ↦ (
        let w = h.each r l in
        let m : r < length (ranked b) = (let c = h.count in omega (arith, c, l)) in
        record {
          tight = pieces_tight b (fillable b s) r (get_or fills r no_fill).pieces (get_or fills r no_fill).spokes w.pieces o i;
          near = of_all (IsAround 250000000) (get_or fills r no_fill).pieces (piece_near b s r m (get_or fills r no_fill) w).0 o i;
        })
    | inr l ↦ (let e : get_or fills r no_fill ≡ no_fill = get_or_past fills r no_fill l in absurd (subst (λ (m : Made). IsOneOf o m.pieces) e i))
  ]

  -- as they are read
  pub read_near : (r : ℕ) (f : Made) → f ≡ get_or fills r no_fill → All (IsAround 250000000) f.pieces
  read_near r f e = subst (λ (m : Made). All (IsAround 250000000) m.pieces) (sym e)
      (all_of (IsAround 250000000) (get_or fills r no_fill).pieces (λ o i. (fill_pieces r o i).near))

  pub read_count : (r : ℕ) (f : Made) → r < length fills → f ≡ get_or fills r no_fill → length f.parts ≡ length f.pieces
  read_count r f l e = subst (λ (m : Made). length m.parts ≡ length m.pieces) (sym e) (h.each r l).parts.each

-- ---- the pieces of a part

one_of_picked : (t : Bool) (o p : Bounds) (os picked : List Bounds) → (IsOneOf o picked → IsOneOf o os) → IsOneOf o (cond t (p ∷ picked) picked) → IsOneOf o (p ∷ os)
unfolding IsOneOf
one_of_picked true o p os picked h (inl e) = inl e
one_of_picked true o p os picked h (inr j) = inr (h j)
one_of_picked false o p os picked h j = inr (h j)

labelled_of : (first : ℕ) (os : List Bounds) (labels : List ℕ) (o : Bounds) → IsOneOf o (labelled first os labels) → IsOneOf o os
unfolding IsOneOf
labelled_of first [] labels o i = i
labelled_of first (p ∷ os) [] o i = absurd i
labelled_of first (p ∷ os) (label ∷ labels) o i = one_of_picked (label == first) o p os (labelled first os labels) (λ j. labelled_of first os labels o j) i

pub part_near : (b : Board) → IsSoundBoard b → (fills : List Made) → AreBoardFills b fills → (t : Task) (first : ℕ) (o : Bounds) → IsOneOf o (part_pieces b fills t first) → IsNearPiece o
unfolding part_pieces
part_near b s fills h t first o i =
    fill_pieces b s fills h (rank_in t (ranked b)) o (labelled_of first (made_of b fills t).pieces (made_of b fills t).parts o i)

-- ---- the copper of nodes

track_room : (n : ℕ) (t : Track) → IsSoundTrack n t → IsAnchorInRoom (track_copper t)
unfolding IsCoreInRoom
track_room n t s = record {
  core = record {
    sx = record { low = omega (arith, ints, s.from.x.low); high = omega (arith, ints, s.from.x.high) };
    sy = record { low = omega (arith, ints, s.from.y.low); high = omega (arith, ints, s.from.y.high) };
    tx = record { low = omega (arith, ints, s.to.x.low); high = omega (arith, ints, s.to.x.high) };
    ty = record { low = omega (arith, ints, s.to.y.low); high = omega (arith, ints, s.to.y.high) };
  };
  radius = let w = s.width.most in omega (arith, w);
}

via_room : (n : ℕ) (v : Via) → IsSoundVia n v → IsAnchorInRoom (via_copper v)
unfolding IsCoreInRoom
via_room n v s = record {
  core = record {
    left = omega (arith, ints, s.at.x.low);
    right = omega (arith, ints, s.at.x.high);
    top = omega (arith, ints, s.at.y.low);
    bottom = omega (arith, ints, s.at.y.high);
  };
  radius = let w = s.size.most in omega (arith, w);
}

core_wider : (c : Core) → IsCoreInRoom 1100000000 c → IsCoreInRoom 1200000000 c
unfolding IsCoreInRoom
core_wider (area b) h = record {
  left = omega (arith, ints, h.left);
  right = omega (arith, ints, h.right);
  top = omega (arith, ints, h.top);
  bottom = omega (arith, ints, h.bottom);
}
core_wider (line s t) h = record {
  sx = record { low = omega (arith, ints, h.sx.low); high = omega (arith, ints, h.sx.high) };
  sy = record { low = omega (arith, ints, h.sy.low); high = omega (arith, ints, h.sy.high) };
  tx = record { low = omega (arith, ints, h.tx.low); high = omega (arith, ints, h.tx.high) };
  ty = record { low = omega (arith, ints, h.ty.low); high = omega (arith, ints, h.ty.high) };
}

wider : (c : Copper) → IsSmallShape c → IsAnchorInRoom c
wider c h = record { core = core_wider c.core h.within; radius = let r = h.radius in omega (arith, r) }

octagon_room : (o : Bounds) → IsAround 250000000 o → IsAnchorInRoom (octagon_copper o)
unfolding IsCoreInRoom
octagon_room o h = record {
  core = record {
    left = let a = h.x_low in omega (arith, ints);
    right = let a = h.x_high in omega (arith, ints);
    top = let a = h.y_low in omega (arith, ints);
    bottom = let a = h.y_high in omega (arith, ints);
  };
  radius = omega arith;
}

of_some : {X : Type 0} (Q : Copper → Type 0) (f : X → Copper) (o : Option X) → ((x : X) → o ≡ Some x → Q (f x)) → All Q (option_list (λ x. f x ∷ []) o)
of_some Q f None h = All-nil Q
of_some Q f (Some x) h = All-cons Q (f x) [] (h x refl) (All-nil Q)

of_option : {X : Type 0} (P : X → Type 0) (Q : Copper → Type 0) (f : X → Copper) (xs : List X) (k : ℕ) → All P xs → ((x : X) → P x → Q (f x)) → All Q (option_list (λ x. f x ∷ []) (slice_get xs k))
of_option P Q f xs k all go = of_some Q f (slice_get xs k) (λ x e. go x (subst P (get_or_from_slice_get xs k x x e) (all k x (slice_get_within xs k x e))))

-- the copper of stacks
stacks_room : (first : ℕ) (s : FillStacks) → AreNearStacks s → All IsAnchorInRoom (map octagon_copper (labelled first s.stacks.items s.parts.items))
stacks_room first s h =
    all_of IsAnchorInRoom (map octagon_copper (labelled first s.stacks.items s.parts.items))
    (λ c i. let r = one_of_map octagon_copper c (labelled first s.stacks.items s.parts.items) i in
    subst IsAnchorInRoom (sym r.2) (octagon_room r.0 (of_all (IsAround 250000000) s.stacks.items h.near r.0 (labelled_of first s.stacks.items s.parts.items r.0 r.1))))

pub parts_room : (first : ℕ) (all : List FillStacks) (k : ℕ) → All AreNearStacks all
    → All IsAnchorInRoom (option_list (λ (s : FillStacks). map octagon_copper (labelled first s.stacks.items s.parts.items)) (slice_get all k))
parts_room first all k h = go (slice_get all k) refl
  where
    go : (o : Option FillStacks) → slice_get all k ≡ o → All IsAnchorInRoom (option_list (λ (s : FillStacks). map octagon_copper (labelled first s.stacks.items s.parts.items)) o)
    go None e = All-nil IsAnchorInRoom
    go (Some s) e = stacks_room first s (subst AreNearStacks (get_or_from_slice_get all k s s e) (h k s (slice_get_within all k s e)))

pub pads_room : (b : Board) → IsSoundBoard b → (k : ℕ) → All IsAnchorInRoom (option_list (λ (p : Pad). p.shape ∷ []) (slice_get b.pads k))
pads_room b s k = of_option (IsSoundPad (length b.layers)) IsAnchorInRoom (λ (p : Pad). p.shape) b.pads k s.pads (λ p i. wider p.shape i.shape)

pub tracks_room : (b : Board) → IsSoundBoard b → (k : ℕ) → All IsAnchorInRoom (option_list (λ (t : Track). track_copper t ∷ []) (slice_get b.tracks k))
tracks_room b s k = of_option (IsSoundTrack (length b.layers)) IsAnchorInRoom track_copper b.tracks k s.tracks (λ t i. track_room (length b.layers) t i)

pub vias_room : (b : Board) → IsSoundBoard b → (k : ℕ) → All IsAnchorInRoom (option_list (λ (v : Via). via_copper v ∷ []) (slice_get b.vias k))
vias_room b s k = of_option (IsSoundVia (length b.layers)) IsAnchorInRoom via_copper b.vias k s.vias (λ v i. via_room (length b.layers) v i)
