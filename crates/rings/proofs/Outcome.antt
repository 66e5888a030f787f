-- The program's loops, slits and rings are right.
use Rattle.std.proofs.Common.{◌≡◌, refl, sym, subst, ap, ◌∙◌, ◌⊎◌, inl, inr, arith, List, [], ◌∷◌, Bool, true, false, not}
use Rattle.std.specs.Prelude.{ℤ, ◌<ℤ◌, ◌≤ℤ◌, ◌&&◌, ◌||◌, int_lt, map, IsTrue, ◌↔◌}
use Rattle.std.specs.List.{AllZip}
use Rattle.std.specs.Ordering.{int_eq}
use Rattle.std.specs.List.Sorted.{IsPermutation}
use Rattle.std.proofs.lemmas.List.Sorted.{IsPermutation-refl}
use Rattle.std.proofs.lemmas.Int.{ints, by_lt_z}
use Rattle.std.proofs.lemmas.Bool.{false≢true}
use Rattle.std.proofs.lemmas.Bool.Decides.{Decides-int_eq}
use Rattle.plane.specs.Plane.{grid_point}
use Rattle.grid_num.specs.declared.Point.{Point}
use Rattle.plane.specs.Covering.{Edge, IsOn}
use Rattle.plane.proofs.Counts.{less_true, less_false}
use Rattle.plane.proofs.CoverLaws.{start_on}
use Rattle.strips.specs.declared.Strip.{Strip}
use Rattle.rings.specs.Walks.{Visit, visits, AreContours}
use Rattle.rings.specs.Loops.{Loop, IsHole, AreLoopsOf}
use Rattle.rings.specs.Slits.{IsSlit}
use Rattle.rings.specs.Rings.{holes_of, with_slits, AreRingsOf}
use Rattle.rings.specs.Boundary.{side_edges, IsCorner, AreBoundary}
use Rattle.rings.specs.Inner.Tracing.{is_less_point, Drawing, drawings_of, is_open_left, some_visit, loop_of, loops_by, Reach, reach_more, slit_reach, slit_by, slits_by, rings_by}
use Rattle.rings.proofs.Lists.{Has, has_left}
use Rattle.rings.proofs.Order.{point_same}
use Rattle.rings.proofs.Unique.{AreSame, and_both, edge_same}
use Rattle.rings.proofs.Slits.{has_any, any_has}
use Rattle.rings.proofs.Checks.{less_point, is_hole, hole_exact, is_open_left as open_checked, some_visit as some_checked}
use Rattle.rings.proofs.Sides.{AreOrdered}
use Rattle.rings.proofs.Rings.{AreTidy, tidy_with}
use Rattle.rings.proofs.Near.{Alternate, boundary_alternate}
use Rattle.rings.proofs.Program.{drawings_are}
use Rattle.rings.proofs.Permuted.{permuted_same, tidy_permuted, alternate_permuted, contours_permuted, loops_permuted}
use Rattle.rings.proofs.Slitted.{HasSlitCopper, AllSlits, slits_of, tidy, slits_alternate}

bool_cases : (b : Bool) → (b ≡ true) ⊎ (b ≡ false)
bool_cases true = inl refl
bool_cases false = inr refl

-- ---- loops
some_same : (p q : Visit → Bool) (vs : List Visit) → ((v : Visit) → p v ≡ q v) → some_visit p vs ≡ some_checked q vs
unfolding some_visit some_checked
some_same p q [] f = refl
some_same p q (v ∷ vs) f = ap (λ b. b || some_visit p vs) (f v) ∙ ap (λ b. q v || b) (some_same p q vs f)

open_same : (w : List Edge) (v : Visit) → is_open_left w v ≡ open_checked w v
unfolding is_open_left open_checked is_less_point less_point
open_same w v = refl

hole_same : (w : List Edge) → some_visit (is_open_left w) (visits w) ≡ is_hole w
unfolding is_hole
hole_same w = some_same (is_open_left w) (open_checked w) (visits w) (open_same w)

pub loops_corners : (ds : List Drawing) → map (λ l. l.corners) (map loop_of ds) ≡ map (λ d. d.corners) ds
unfolding loop_of
loops_corners [] = refl
loops_corners (d ∷ ds) = ap (λ cs. d.corners ∷ cs) (loops_corners ds)

loops_holes : (ds : List Drawing) → AllZip (λ w l. IsTrue l.hole ↔ IsHole w) (map (λ d. d.walk) ds) (map loop_of ds)
unfolding loop_of
loops_holes [] = tt
loops_holes (d ∷ ds) = (subst (λ b. IsTrue b ↔ IsHole d.walk) (sym (hole_same d.walk)) (hole_exact d.walk), loops_holes ds)

pub loops_are : (es : List Edge) → AreTidy es → Alternate es → AreLoopsOf es (loops_by es)
unfolding loops_by
loops_are es t a = record {
  walks = map (λ d. d.walk) (drawings_of es);
  contours = subst (AreContours es (map (λ d. d.walk) (drawings_of es))) (sym (loops_corners (drawings_of es))) (drawings_are es t a);
  holes = loops_holes (drawings_of es);
}

-- ---- slits
lt_told : (a b : ℤ) → int_lt a b ≡ true → a <ℤ b
lt_told a b h = by_lt_z {P = a <ℤ b} a b (λ l. l) (λ l. absurd (false≢true (sym (less_false a b l) ∙ h)))

-- what is known of the reach after some edges
record IsReach (es seen : List Edge) (h : Point) (r : Reach) : Type 0 where
  found : r.some ≡ true → (e : Edge) × Has es e × (e.start.y ≡ h.y) × (e.start.x <ℤ h.x) × (e.start.x ≡ r.x)
  most : (e : Edge) → Has seen e → e.start.y ≡ h.y → e.start.x <ℤ h.x → (r.some ≡ true) × (e.start.x ≤ℤ r.x)

abbrev reaches : Point → Reach → Edge → Bool
reaches h r e = (int_eq e.start.y h.y && int_lt e.start.x h.x) && (not r.some || int_lt r.x e.start.x)

more_yes : (h : Point) (r : Reach) (e : Edge) → reaches h r e ≡ true → reach_more h r e ≡ record { some = true; x = e.start.x }
unfolding reach_more
more_yes h r e k = rw k refl

more_no : (h : Point) (r : Reach) (e : Edge) → reaches h r e ≡ false → reach_more h r e ≡ r
unfolding reach_more
more_no h r e k = rw k refl

not_reached : (h : Point) (r : Reach) (e : Edge) → reaches h r e ≡ false → e.start.y ≡ h.y → e.start.x <ℤ h.x → (r.some ≡ true) × (e.start.x ≤ℤ r.x)
not_reached h r e k y x = at r.some refl (int_lt r.x e.start.x) refl
  where
    front : (int_eq e.start.y h.y && int_lt e.start.x h.x) ≡ true
    front = ap (λ b. b && int_lt e.start.x h.x) ((Decides-int_eq e.start.y h.y).1 y) ∙ less_true e.start.x h.x x

    at : (b : Bool) → r.some ≡ b → (c : Bool) → int_lt r.x e.start.x ≡ c → (r.some ≡ true) × (e.start.x ≤ℤ r.x)
    at true p false q = (p, by_lt_z {P = e.start.x ≤ℤ r.x} r.x e.start.x (λ l. absurd (false≢true (sym q ∙ less_true r.x e.start.x l))) (λ l. l))
    at true p true q = absurd (false≢true (sym k ∙ (ap (λ b. b && (not r.some || int_lt r.x e.start.x)) front ∙ (ap (λ b. not b || int_lt r.x e.start.x) p ∙ q))))
    at false p c q = absurd (false≢true (sym k ∙ (ap (λ b. b && (not r.some || int_lt r.x e.start.x)) front ∙ ap (λ b. not b || int_lt r.x e.start.x) p)))

further : (e f : Edge) (r : Reach) → r.some ≡ true → f.start.x ≤ℤ r.x → (not r.some || int_lt r.x e.start.x) ≡ true → f.start.x ≤ℤ e.start.x
further e f r s m k = let l = lt_told r.x e.start.x (sym (ap (λ b. not b || int_lt r.x e.start.x) s) ∙ k) in omega (arith, ints, l, m)

more_is : (es seen : List Edge) (h : Point) (r : Reach) (e : Edge) → Has es e → IsReach es seen h r → IsReach es (e ∷ seen) h (reach_more h r e)
unfolding Has
more_is es seen h r e i s = at (bool_cases (reaches h r e))
  where
    at : (reaches h r e ≡ true) ⊎ (reaches h r e ≡ false) → IsReach es (e ∷ seen) h (reach_more h r e)
    at (inl k) =
        let a = and_both (int_eq e.start.y h.y && int_lt e.start.x h.x) (not r.some || int_lt r.x e.start.x) k in
        let b = and_both (int_eq e.start.y h.y) (int_lt e.start.x h.x) a.0 in
        subst (IsReach es (e ∷ seen) h) (sym (more_yes h r e k)) (record {
          found = λ q. (e, i, (Decides-int_eq e.start.y h.y).0 b.0, lt_told e.start.x h.x b.1, refl);
          most = λ f j y x. elim j [
            | inl q ↦ (refl, (let z = ap (λ g. g.start.x) q in omega (arith, ints, z)))
            | inr j ↦ (refl, (let m = s.most f j y x in further e f r m.0 m.1 a.1))
          ];
        })
    at (inr k) = subst (IsReach es (e ∷ seen) h) (sym (more_no h r e k)) (record {
      found = s.found;
      most = λ f j y x. elim j [
        | inl q ↦ not_again f q y x k
        | inr j ↦ s.most f j y x
      ];
    })
      where
        not_again : (f : Edge) → e ≡ f → f.start.y ≡ h.y → f.start.x <ℤ h.x → reaches h r e ≡ false → (r.some ≡ true) × (f.start.x ≤ℤ r.x)
        not_again f q y x k = not_reached h r f (subst (λ z. reaches h r z ≡ false) q k) y x

reach_is : (es seen : List Edge) (h : Point) (r : Reach) (gs : List Edge) → ((e : Edge) → Has gs e → Has es e) → IsReach es seen h r
    → ((f : Edge) → Has seen f ⊎ Has gs f → f.start.y ≡ h.y → f.start.x <ℤ h.x → ((slit_reach h r gs).some ≡ true) × (f.start.x ≤ℤ (slit_reach h r gs).x))
    × ((slit_reach h r gs).some ≡ true → (e : Edge) × Has es e × (e.start.y ≡ h.y) × (e.start.x <ℤ h.x) × (e.start.x ≡ (slit_reach h r gs).x))
unfolding slit_reach Has
reach_is es seen h r [] i s = (λ f j y x. elim j [ inl j ↦ s.most f j y x | inr j ↦ absurd j ], s.found)
reach_is es seen h r (e ∷ gs) i s =
    let t = reach_is es (e ∷ seen) h (reach_more h r e) gs (λ f j. i f (inr j)) (more_is es seen h r e (i e (inl refl)) s) in (
      λ f j y x. elim j [
        | inl j ↦ t.0 f (inl (inr j)) y x
        | inr j ↦ elim j [ inl q ↦ t.0 f (inl (inl q)) y x | inr j ↦ t.0 f (inr j) y x ]
      ],
      t.1,
    )

-- each corner is the start of a boundary edge
corner_start : (ss : List Strip) (es : List Edge) (c : Point) → AreOrdered ss → AreBoundary ss es → IsCorner ss c → (e : Edge) × Has es e × (e.start ≡ c)
unfolding IsCorner Alternate
corner_start ss es c o b i =
    let r = any_has (λ e. (c ≡ e.start) ⊎ (c ≡ e.finish)) (side_edges ss) i in
    let h = subst (λ zs. Has zs r.0) (sym b.all) (has_left (side_edges ss) b.parts r.0 r.1) in
    elim r.2 [
      | inl k ↦ (r.0, h, sym k)
      | inr k ↦ (let n = boundary_alternate ss es o b r.0 h in (n.0, (n.1).one, (n.1).joins ∙ sym k))
    ]

slit_same : (ss : List Strip) (es fs : List Edge) (cs : List Point) (s : Edge) → AreOrdered ss → AreBoundary ss es → AreSame es fs → IsSlit es cs s → HasSlitCopper ss s → slit_by fs s.start ≡ s
unfolding slit_by Has
slit_same ss es fs cs s o b a t c =
    let h = s.start in
    let none : Reach = record { some = false; x = h.x } in
    let r = reach_is fs [] h none fs (λ e j. j) (record { found = λ q. absurd (false≢true q); most = λ e j y x. absurd j }) in
    let k = corner_start ss es s.finish o b c.finish in
    let ky = ap (λ z. z.y) k.2 in
    let kx = ap (λ z. z.x) k.2 in
    let ty = t.level in
    let tl = t.left in
    let m = r.0 k.0 (inr (a.there k.0 k.1)) (ky ∙ ty) (omega (arith, ints, kx, tl)) in
    let f = r.1 m.0 in
    let m1 = m.1 in
    let fy = f.2 in let fx = f.3 in let fr = f.4 in
    let same : (slit_reach h none fs).x ≡ s.finish.x = by_lt_z {P = (slit_reach h none fs).x ≡ s.finish.x} s.finish.x (slit_reach h none fs).x
    (λ l. absurd (t.first (grid_point f.0.start.x f.0.start.y) (omega (arith, ints, fy)) (omega (arith, ints, l, fr)) (omega (arith, ints, fx))
    (has_any (λ e. IsOn e (grid_point f.0.start.x f.0.start.y)) es f.0 (a.back f.0 f.1) (start_on (grid_point f.0.start.x f.0.start.y) f.0 (omega (arith, ints)) (omega (arith, ints))))))
    (λ l. omega (arith, ints, l, m1, kx)) in
    edge_same (record { start = h; finish = record { x = (slit_reach h none fs).x; y = h.y } }) s refl (point_same (record { x = (slit_reach h none fs).x; y = h.y }) s.finish same (sym ty))

slits_same : (ss : List Strip) (es fs : List Edge) (holes : List (List Point)) (slits : List Edge) → AreOrdered ss → AreBoundary ss es → AreSame es fs → AllZip (IsSlit es) holes slits → AllSlits ss slits → slits_by fs holes ≡ slits
unfolding AllSlits Has slits_by
slits_same ss es fs [] [] o b n z a = refl
slits_same ss es fs [] (s ∷ slits) o b n z a = absurd z
slits_same ss es fs (c ∷ holes) [] o b n z a = absurd z
slits_same ss es fs (c ∷ holes) (s ∷ slits) o b n z a =
    ap (λ d. slits_by fs (d ∷ holes)) (z.0).from
    ∙ (ap (λ e. e ∷ slits_by fs holes) (slit_same ss es fs c s o b n z.0 (a s (inl refl))) ∙ ap (λ ts. s ∷ ts) (slits_same ss es fs holes slits o b n z.1 (λ t h. a t (inr h))))

pub slits_right : (ss : List Strip) (es fs : List Edge) (loops : List Loop) → AreOrdered ss → AreBoundary ss es → IsPermutation es fs → AreLoopsOf es loops → AllZip (IsSlit es) (holes_of loops) (slits_by fs (holes_of loops))
slits_right ss es fs loops o b p a =
    let s = slits_of ss es loops o b a in
    subst (AllZip (IsSlit es) (holes_of loops)) (sym (slits_same ss es fs (holes_of loops) s.slits o b (permuted_same es fs p) s.each s.copper)) s.each

-- ---- loops and rings
pub loops_right : (ss : List Strip) (es fs : List Edge) → AreOrdered ss → AreBoundary ss es → IsPermutation es fs → AreLoopsOf es (loops_by fs)
loops_right ss es fs o b p = loops_permuted es fs (loops_by fs) p (loops_are fs (tidy_permuted es fs p (tidy ss es o b)) (alternate_permuted es fs p (boundary_alternate ss es o b)))

pub rings_drawn : (ss : List Strip) (es : List Edge) (loops : List Loop) (slits gs : List Edge) → AreOrdered ss → AreBoundary ss es → AreLoopsOf es loops
    → AllZip (IsSlit es) (holes_of loops) slits → IsPermutation (with_slits es slits) gs → AreRingsOf es (map (λ d. d.corners) (drawings_of gs))
rings_drawn ss es loops slits gs o b a z p =
    let all = with_slits es slits in
    record {
      loops = loops;
      are = a;
      slits = slits;
      each = z;
      walks = map (λ d. d.walk) (drawings_of gs);
      contours = contours_permuted all gs _ _ p
          (drawings_are gs (tidy_permuted all gs p (tidy_with es loops slits (tidy ss es o b) a z)) (alternate_permuted all gs p (slits_alternate ss es loops slits o b a z).0));
    }

pub rings_right : (ss : List Strip) (es : List Edge) → AreOrdered ss → AreBoundary ss es → AreRingsOf es (rings_by es)
unfolding rings_by
rings_right ss es o b =
    let p = IsPermutation-refl es in
    let a = loops_right ss es es o b p in
    let slits = slits_by es (holes_of (loops_by es)) in
    rings_drawn ss es (loops_by es) slits (with_slits es slits) o b a (slits_right ss es es (loops_by es) o b p a) (IsPermutation-refl (with_slits es slits))
