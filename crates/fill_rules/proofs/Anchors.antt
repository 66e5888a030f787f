-- The list of anchors, in words.
use Rattle.std.proofs.Common.{◌≡◌, refl, sym, ap, subst, ℕ, ◌⊎◌, inl, inr, arith, [], ◌∷◌, ◌++◌}
use Rattle.std.specs.Prelude.{Bool, true, false, not, cond, ◌&&◌, ◌||◌, ◌==◌, flat_map, unwrap_or}
use Rattle.std.proofs.lemmas.Bool.{and_parts, true≢false}
use Rattle.std.proofs.lemmas.Bool.Decides.{nat_tests}
use Rattle.copper_shape.specs.Shapes.{Copper}
use Rattle.classes.specs.Classes.{IsOneOf}
use Rattle.board_language.specs.declared.Join.{Join}
use Rattle.board_language.specs.declared.Join.TheVariants.{Thermal, Solid, Apart, PlatedThermal}
use Rattle.board_language.specs.declared.PadKind.{PadKind}
use Rattle.board_language.specs.declared.PadKind.TheVariants.{Plated, Surface, Hole}
use Rattle.board_language.specs.declared.board.Track.{Track}
use Rattle.board_language.specs.declared.board.Via.{Via}
use Rattle.board_language.specs.declared.board.Pad.{Pad}
use Rattle.board_language.specs.Board.{Board}
use Rattle.board_language.specs.Copper.{has_layer}
use Rattle.fill_rules.specs.Tasks.{Settings}
use Rattle.fill_rules.specs.Needs.{is_foreign, Foreign, role_by, role_of_kind, role, stands, is_on, track_copper, via_copper}
use Rattle.fill_rules.specs.Anchors.{is_joined, pad_anchors, via_anchors, track_anchors, anchors_of}
use Rattle.fill_rules.specs.InWords.{ForeignLaw, IsSolidPad, IsAnchor, AnchorsLaw}
use Rattle.board_language.proofs.Members.{one_of_append, append_left, append_right, one_of_flat, flat_one_of}
use Rattle.fill_rules.proofs.Members.{when_is, is_when}

pub eq_true : (a b : ℕ) → (a == b) ≡ true → a ≡ b
eq_true a b e = grind (arith, nat_tests)

eq_false : (a b : ℕ) → (a == b) ≡ false → a ≡ b → ⊥
eq_false a b e f = grind (arith, nat_tests)

true_eq : (a b : ℕ) → a ≡ b → (a == b) ≡ true
true_eq a b e = grind (arith, nat_tests)

false_eq : (a b : ℕ) → (a ≡ b → ⊥) → (a == b) ≡ false
false_eq a b n = go (a == b) refl
  where
    go : (x : Bool) → (a == b) ≡ x → (a == b) ≡ false
    go true e = absurd (n (eq_true a b e))
    go false e = e

both : (x y : Bool) → x ≡ true → y ≡ true → (x && y) ≡ true
both true y e f = f
both false y e f = absurd (true≢false (sym e))

-- ---- foreign
either_true : (x y : Bool) → (not x || y) ≡ true → (x ≡ false) ⊎ (y ≡ true)
either_true true y e = inr e
either_true false y e = inl refl

true_either : (x y : Bool) → (x ≡ false) ⊎ (y ≡ true) → (not x || y) ≡ true
true_either true y (inl e) = absurd (true≢false e)
true_either true y (inr e) = e
true_either false y h = refl

pub foreign_law : ForeignLaw
foreign_law m n = (
  λ e. elim (either_true (m == n) (m == 0) e) [ inl f ↦ inl (eq_false m n f) | inr g ↦ inr (eq_true m 0 g) ],
  λ h. true_either (m == n) (m == 0) (elim h [ inl f ↦ inl (false_eq m n f) | inr g ↦ inr (true_eq m 0 g) ]),
)

own_parts : (m n : ℕ) → is_foreign m n ≡ false → m ≡ n
own_parts m n e = eq_true m n (go (m == n) (m == 0) e)
  where
    go : (x y : Bool) → (not x || y) ≡ false → x ≡ true
    go true y e = refl
    go false y e = absurd (true≢false e)

own_from : (m n : ℕ) → (m ≡ 0 → ⊥) → m ≡ n → is_foreign m n ≡ false
own_from m n z e = go (m == n) (m == 0) (true_eq m n e) (false_eq m 0 z)
  where
    go : (x y : Bool) → x ≡ true → y ≡ false → (not x || y) ≡ false
    go true y e f = f
    go false y e f = absurd (true≢false (sym e))

-- ---- solid pads, by what they are
record IsSolidBy (k : PadKind) (copper foreign : Bool) (j : Join) : Type 0 where
  on : copper ≡ true
  net : foreign ≡ false
  kind : k ≡ Hole → ⊥
  join : (j ≡ Solid) ⊎ ((j ≡ PlatedThermal) × (k ≡ Surface))

abbrev test : PadKind → Bool → Bool → Join → Bool
test k c f j = stands k c && is_joined (role_of_kind k (cond f Foreign (role_by k j)))

is_hole : PadKind → Bool
is_hole Hole = true
is_hole Plated = false
is_hole Surface = false

plated_no_hole : Plated ≡ Hole → ⊥
unfolding is_hole
plated_no_hole e = true≢false (sym (ap is_hole e))

surface_no_hole : Surface ≡ Hole → ⊥
unfolding is_hole
surface_no_hole e = true≢false (sym (ap is_hole e))

solid_from : (k : PadKind) (c f : Bool) (j : Join) → test k c f j ≡ true → IsSolidBy k c f j
solid_from Hole c f j e = absurd (true≢false (sym e))
solid_from Plated false f j e = absurd (true≢false (sym e))
solid_from Plated true true j e = absurd (true≢false (sym e))
solid_from Plated true false Thermal e = absurd (true≢false (sym e))
solid_from Plated true false Solid e = record { on = refl; net = refl; kind = plated_no_hole; join = inl refl }
solid_from Plated true false Apart e = absurd (true≢false (sym e))
solid_from Plated true false PlatedThermal e = absurd (true≢false (sym e))
solid_from Surface false f j e = absurd (true≢false (sym e))
solid_from Surface true true j e = absurd (true≢false (sym e))
solid_from Surface true false Thermal e = absurd (true≢false (sym e))
solid_from Surface true false Solid e = record { on = refl; net = refl; kind = surface_no_hole; join = inl refl }
solid_from Surface true false Apart e = absurd (true≢false (sym e))
solid_from Surface true false PlatedThermal e = record { on = refl; net = refl; kind = surface_no_hole; join = inr (refl, refl) }

solid_of_solid : (k : PadKind) (c f : Bool) → (k ≡ Hole → ⊥) → c ≡ true → f ≡ false → test k c f Solid ≡ true
solid_of_solid Hole c f n e g = absurd (n refl)
solid_of_solid Plated true false n e g = refl
solid_of_solid Plated false f n e g = absurd (true≢false (sym e))
solid_of_solid Plated true true n e g = absurd (true≢false g)
solid_of_solid Surface true false n e g = refl
solid_of_solid Surface false f n e g = absurd (true≢false (sym e))
solid_of_solid Surface true true n e g = absurd (true≢false g)

solid_of_surface : (c f : Bool) → c ≡ true → f ≡ false → test Surface c f PlatedThermal ≡ true
solid_of_surface true false e g = refl
solid_of_surface false f e g = absurd (true≢false (sym e))
solid_of_surface true true e g = absurd (true≢false g)

from_solid : (k : PadKind) (c f : Bool) (j : Join) → IsSolidBy k c f j → test k c f j ≡ true
from_solid k c f j s = elim s.join [
  | inl e ↦ subst (λ (x : Join). test k c f x ≡ true) (sym e) (solid_of_solid k c f s.kind s.on s.net)
  | inr e ↦ subst (λ (x : Join). test k c f x ≡ true) (sym e.0)
      (subst (λ (x : PadKind). test x c f PlatedThermal ≡ true) (sym e.1) (solid_of_surface c f s.on s.net))
]

-- ---- the list
one_of_one : {A : Type 0} (x y : A) → IsOneOf x (y ∷ []) → x ≡ y
unfolding IsOneOf
one_of_one x y (inl e) = e
one_of_one x y (inr n) = absurd n

one : {A : Type 0} (x y : A) → x ≡ y → IsOneOf x (y ∷ [])
unfolding IsOneOf
one x y e = inl e

abbrev HasNet : Settings → Type 0
HasNet z = z.net ≡ 0 → ⊥

net_of : (n : ℕ) → not (n == 0) ≡ true → n ≡ 0 → ⊥
net_of n e f = go (n == 0) e (true_eq n 0 f)
  where
    go : (x : Bool) → not x ≡ true → x ≡ true → ⊥
    go true e f = true≢false (sym e)
    go false e f = true≢false (sym f)

of_net : (n : ℕ) → (n ≡ 0 → ⊥) → not (n == 0) ≡ true
of_net n h = ap not (false_eq n 0 h)

module _ (b : Board) (z : Settings) (l : ℕ) (c : Copper) where
  pad_is : (p : Pad) → IsOneOf c (pad_anchors z l p) → IsSolidPad z l p × (c ≡ p.shape)
  pad_is p i =
      let w = when_is (is_on l p && is_joined (role z p)) c (p.shape ∷ []) i in
      let s = solid_from p.kind (has_layer p.layers l) (is_foreign z.net p.net) (unwrap_or p.join z.join) w.0 in (
        record { on = s.on; net = sym (own_parts z.net p.net s.net); copper = s.kind; join = s.join },
        one_of_one c p.shape w.1,
      )

  is_pad : HasNet z → (p : Pad) → IsSolidPad z l p → c ≡ p.shape → IsOneOf c (pad_anchors z l p)
  is_pad n p s e =
      is_when (is_on l p && is_joined (role z p)) c (p.shape ∷ [])
      (from_solid p.kind (has_layer p.layers l) (is_foreign z.net p.net) (unwrap_or p.join z.join)
      (record { on = s.on; net = own_from z.net p.net n (sym s.net); kind = s.copper; join = s.join }))
      (one c p.shape e)

  via_is : (v : Via) → IsOneOf c (via_anchors z l v) → (has_layer v.layers l ≡ true) × (v.net ≡ z.net) × (c ≡ via_copper v)
  via_is v i =
      let w = when_is (has_layer v.layers l && (v.net == z.net)) c (via_copper v ∷ []) i in
      let a = and_parts (has_layer v.layers l) (v.net == z.net) w.0 in
      (a.0, eq_true v.net z.net a.1, one_of_one c (via_copper v) w.1)

  track_is : (t : Track) → IsOneOf c (track_anchors z l t) → (t.layer ≡ l) × (t.net ≡ z.net) × (c ≡ track_copper t)
  track_is t i =
      let w = when_is ((t.layer == l) && (t.net == z.net)) c (track_copper t ∷ []) i in
      let a = and_parts (t.layer == l) (t.net == z.net) w.0 in
      (eq_true t.layer l a.0, eq_true t.net z.net a.1, one_of_one c (track_copper t) w.1)

  anchor_is : IsOneOf c (anchors_of b z l) → IsAnchor b z l c
  unfolding anchors_of IsAnchor
  anchor_is i =
      let pads = flat_map (pad_anchors z l) b.pads in
      let vias = flat_map (via_anchors z l) b.vias in
      let tracks = flat_map (track_anchors z l) b.tracks in
      let w = when_is (not (z.net == 0)) c (pads ++ (vias ++ tracks)) i in (
        net_of z.net w.0,
        elim (one_of_append c pads (vias ++ tracks) w.1) [
          | inl j ↦ let f = one_of_flat (pad_anchors z l) c b.pads j in let r = pad_is f.0 f.2 in inl (f.0, f.1, r.0, r.1)
          | inr j ↦ elim (one_of_append c vias tracks j) [
            | inl k ↦ let f = one_of_flat (via_anchors z l) c b.vias k in let r = via_is f.0 f.2 in inr (inl (f.0, f.1, r.0, r.1, r.2))
            | inr k ↦ let f = one_of_flat (track_anchors z l) c b.tracks k in let r = track_is f.0 f.2 in inr (inr (f.0, f.1, r.0, r.1, r.2))
          ]
        ],
      )

  is_anchor : IsAnchor b z l c → IsOneOf c (anchors_of b z l)
  unfolding anchors_of IsAnchor
  is_anchor (n, h) =
      let pads = flat_map (pad_anchors z l) b.pads in
      let vias = flat_map (via_anchors z l) b.vias in
      let tracks = flat_map (track_anchors z l) b.tracks in
      is_when (not (z.net == 0)) c (pads ++ (vias ++ tracks)) (of_net z.net n)
      (elim h [
        | inl p ↦ append_left c pads (vias ++ tracks) (flat_one_of (pad_anchors z l) c p.0 b.pads p.1 (is_pad n p.0 p.2 p.3))
        | inr q ↦ append_right c pads (vias ++ tracks) (elim q [
          | inl v ↦ append_left c vias tracks (flat_one_of (via_anchors z l) c v.0 b.vias v.1
              (is_when (has_layer v.0.layers l && (v.0.net == z.net)) c (via_copper v.0 ∷ []) (both _ _ v.2 (true_eq v.0.net z.net v.3)) (one c (via_copper v.0) v.4)))
          | inr t ↦ append_right c vias tracks (flat_one_of (track_anchors z l) c t.0 b.tracks t.1
              (is_when ((t.0.layer == l) && (t.0.net == z.net)) c (track_copper t.0 ∷ []) (both _ _ (true_eq t.0.layer l t.2) (true_eq t.0.net z.net t.3)) (one c (track_copper t.0) t.4)))
        ])
      ])

pub anchors_law : AnchorsLaw
anchors_law b z l c = (anchor_is b z l c, is_anchor b z l c)
