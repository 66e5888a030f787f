-- The outline of a zone or rule area in which nothing offends keeps the rules of outlines, in units too.
use Rattle.std.proofs.Common.{◌≡◌, refl, sym, ap, subst, ◌∙◌, ℕ, suc, ◌+◌, ◌*◌, ◌/◌, ◌≤◌, arith, false, List, [], ◌∷◌, map, length, Some}
use Rattle.std.specs.Prelude.{ℤ, pos, negsuc, ◌+ℤ◌, ◌*ℤ◌, nat_lt}
use Rattle.std.specs.Int.{int_div_euclid}
use Rattle.std.specs.List.{All}
use Rattle.std.proofs.lemmas.Int.{ints}
use Rattle.std.proofs.lemmas.List.{length-map}
use Rattle.std.proofs.lemmas.Bool.Decides.{nat_tests}
use Rattle.grid_num.specs.declared.Point.{Point}
use Rattle.plane.specs.Units.{finer}
use Rattle.sexpr_text.specs.Items.{Item}
use Rattle.outline_slab.specs.Rules.{IsEven, IsOnGrid, IsInSpan, IsOutline}
use Rattle.outline_slab.proofs.Halves.{kept}
use Rattle.board_text.specs.Items.{point_at}
use Rattle.board_language.specs.Zones.{corner_lists, corners_read, outline_of, corner_in_units}
use Rattle.board_language.specs.Offences.{is_long_outline}
use Rattle.board_language.proofs.Members.{one_of_map}
use Rattle.board_language.specs.Facts.{IsSoundOutline}
use Rattle.board_facts.proofs.Near.{point_near, span_near}
use Rattle.board_facts.proofs.Tried.{all_of_members}

-- ---- nanometres and units

half : (z : ℤ) → int_div_euclid (z +ℤ z) (pos 2) ≡ z
half (pos n) = ap pos (even n)
  where
    even : (n : ℕ) → (n + n) / 2 ≡ n
    even n = omega arith
half (negsuc n) =
    let e : negsuc n +ℤ negsuc n ≡ negsuc (2 * n + 1) = omega (arith, ints) in
    let d : (2 * n + 1) / 2 ≡ n = omega arith in
    ap (λ z. int_div_euclid z (pos 2)) e ∙ ap negsuc d

halved : (z : ℤ) → IsEven z → pos 2 *ℤ int_div_euclid z (pos 2) ≡ z
halved z h =
    let e : int_div_euclid z (pos 2) ≡ h.0 = ap (λ w. int_div_euclid w (pos 2)) h.1 ∙ half h.0 in
    let d : z ≡ h.0 +ℤ h.0 = h.1 in
    ap (λ w. pos 2 *ℤ w) e ∙ twice h.0 ∙ sym d
  where
    twice : (w : ℤ) → pos 2 *ℤ w ≡ w +ℤ w
    twice w = omega (arith, ints)

in_nanometres : (cs : List Point) → All IsOnGrid cs → map (finer 2) (map corner_in_units cs) ≡ cs
in_nanometres [] h = refl
in_nanometres (c ∷ cs) h =
    let g : IsOnGrid c = h 0 c (omega arith) in
    let x : pos 2 *ℤ int_div_euclid c.x (pos 2) ≡ c.x = halved c.x g.x in
    let y : pos 2 *ℤ int_div_euclid c.y (pos 2) ≡ c.y = halved c.y g.y in
    rw (x, y) (ap (λ ds. c ∷ ds) (in_nanometres cs (λ k d l. h (suc k) d (omega (arith, l)))))

-- ---- the outline

span_all : (bytes : List ℕ) (zone : Item) → All IsInSpan (corners_read bytes zone)
unfolding corners_read
span_all bytes zone =
    all_of_members IsInSpan (corners_read bytes zone) (λ p i.
    (let r = one_of_map (λ (list : Item). point_at bytes (Some list)) p (corner_lists bytes zone) i in
    subst IsInSpan (sym r.2) (span_near (point_at bytes (Some r.0)) (point_near bytes (Some r.0)))))

no_more : (n : ℕ) → nat_lt 20000 n ≡ false → n ≤ 20000
no_more n e = grind (arith, nat_tests)

few_corners : (bytes : List ℕ) (zone : Item) → is_long_outline bytes zone ≡ false → length (outline_of bytes zone) ≤ 20000
unfolding corners_read
few_corners bytes zone e =
    let a = length-map (corner_lists bytes zone) (λ (list : Item). point_at bytes (Some list)) in
    let b = length-map (corners_read bytes zone) corner_in_units in
    subst (λ n. n ≤ 20000) (sym (b ∙ a)) (no_more (length (corner_lists bytes zone)) e)

pub outline_sound : (bytes : List ℕ) (zone : Item) → IsOutline (corners_read bytes zone) → is_long_outline bytes zone ≡ false → IsSoundOutline (outline_of bytes zone)
outline_sound bytes zone o short =
    let e : map (finer 2) (outline_of bytes zone) ≡ corners_read bytes zone = in_nanometres (corners_read bytes zone) o.grid in
    record {
      rules = subst IsOutline (sym e) o;
      kept = kept (outline_of bytes zone) (corners_read bytes zone) e (span_all bytes zone) o.simple;
      few = few_corners bytes zone short;
    }
