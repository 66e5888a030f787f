-- A board's text as a spelling, with the old fills of some of its lists taken out and rings put in.
use Rattle.std.proofs.Common.{◌≡◌, ◌∙◌, refl, ap, sym, subst, ℕ, suc, ◌-◌, ◌<◌, ◌≤◌, Bool, true, false, ◌&&◌, ◌||◌, not, ◌==◌, cond, List, [], ◌∷◌, ◌++◌, length, codes, arith, append_assoc, Option, None, Some, inl, inr}
use Rattle.std.specs.List.{list_all, flat_map, All}
use Rattle.std.specs.Str.{IsUtf8, all_scalars, encode_utf8_all}
use Rattle.std.specs.Char.{encode_utf8}
use Rattle.std.proofs.lemmas.Bool.{and_parts, false≢true, true≢false}
use Rattle.std.proofs.lemmas.Bool.Decides.{nat_tests}
use Rattle.std.proofs.lemmas.Str.{IsUtf8-append, IsUtf8-encode, IsUtf8-nil, encode_ascii}
use Rattle.grid_num.specs.declared.Point.{Point}
use Rattle.grid_num.specs.Length.{IsInRange}
use Rattle.grid_num.specs.Written.{mm_of}
use Rattle.sexpr_text.specs.Grammar.{is_word}
use Rattle.sexpr_text.specs.Items.{unescaped}
use Rattle.sexpr_text.proofs.Finish.{Highs}
use Rattle.sexpr_text.proofs.Numbers.{below_or_past}
use Rattle.sexpr_text.proofs.Utf8Ends.{scalar_first}
use Rattle.rings.specs.Rings.{IsRingInRange}
use Rattle.output_rules.specs.Rings.{quoted, corner_text, ring_text}
use Rattle.text_shapes.specs.Shapes.{Shape}
use Rattle.text_shapes.specs.Shapes.Shape.{Over, Bare, Quoted, Inside}
use Rattle.text_shapes.specs.Layouts.{is_plain}
use Rattle.text_shapes.specs.Seen.{is_named}
use Rattle.text_shapes.specs.Spellings.{Spelling, spelt_bytes, contents, is_string_inside, is_apart, IsTextSpelling}
use Rattle.text_shapes.specs.Spellings.Spelling.{Ends, Named, Strung, Nested}
use Rattle.text_shapes.proofs.Numbers.{mm_word}
use Rattle.text_shapes.proofs.Layouts.{word_of_plain, some_length}
use Rattle.text_shapes.proofs.Utf8.{AreUtf8, ascii_before, highs_encode}
use Rattle.same_boards.specs.Contents.{fill_heads, is_named_among, without, unfilled, board_contents}

-- ---- rings as spellings

-- a ring with the name of its layer
pub record Ring : Type 0 where
  pub layer : List ℕ
  pub corners : List Point

abbrev pub corners_spelt : List Point → Spelling
corners_spelt [] = Ends (codes "\n      ")
corners_spelt (p ∷ ps) =
    Nested (codes "\n        ") (Named [] (codes "xy") (Named (codes " ") (mm_of p.x) (Named (codes " ") (mm_of p.y) (Ends [])))) (corners_spelt ps)

abbrev pub inside_ring : Ring → Spelling
inside_ring r =
    Named [] (codes "filled_polygon")
    (Nested (codes "\n      ") (Named [] (codes "layer") (Strung (codes " ") (quoted r.layer) (Ends [])))
    (Nested (codes "\n      ") (Named [] (codes "pts") (corners_spelt r.corners)) (Ends (codes "\n    "))))

abbrev pub rings_before : List Ring → Spelling → Spelling
rings_before [] rest = rest
rings_before (r ∷ rs) rest = Nested (codes "\n    ") (inside_ring r) (rings_before rs rest)

-- the rings go behind the last item
abbrev pub put_rings : List Ring → Spelling → Spelling
put_rings rs (Ends w) = rings_before rs (Ends w)
put_rings rs (Named w t rest) = Named w t (put_rings rs rest)
put_rings rs (Strung w t rest) = Strung w t (put_rings rs rest)
put_rings rs (Nested w inner rest) = Nested w inner (put_rings rs rest)

abbrev pub is_old : Spelling → Bool
is_old inner = is_named_among fill_heads (contents inner)

-- the old fills go, with the white space before them
abbrev pub drop_fills : Spelling → Spelling
drop_fills (Ends w) = Ends w
drop_fills (Named w t rest) = Named w t (drop_fills rest)
drop_fills (Strung w t rest) = Strung w t (drop_fills rest)
drop_fills (Nested w inner rest) = cond (is_old inner) (drop_fills rest) (Nested w inner (drop_fills rest))

-- of each list of a board: whether it is filled, and by which rings
abbrev pub Plan : Type 0
Plan = List (Option (List Ring))

abbrev pub refill_list : Option (List Ring) → Spelling → Spelling
refill_list None inner = inner
refill_list (Some rs) inner = put_rings rs (drop_fills inner)

abbrev pub refill : Plan → Spelling → Spelling
refill plan (Ends w) = Ends w
refill plan (Named w t rest) = Named w t (refill plan rest)
refill plan (Strung w t rest) = Strung w t (refill plan rest)
refill [] (Nested w inner rest) = Nested w inner (refill [] rest)
refill (o ∷ plan) (Nested w inner rest) = Nested w (refill_list o inner) (refill plan rest)

-- ---- the bytes

abbrev pub ring_bytes : Ring → List ℕ
ring_bytes r = ring_text r.layer r.corners

-- some bytes put behind the last item
abbrev pub bytes_with : List ℕ → Spelling → List ℕ
bytes_with put (Ends w) = put ++ w
bytes_with put (Named w t rest) = w ++ (t ++ bytes_with put rest)
bytes_with put (Strung w t rest) = w ++ 34 ∷ (t ++ 34 ∷ bytes_with put rest)
bytes_with put (Nested w inner rest) = w ++ 40 ∷ (spelt_bytes inner ++ 41 ∷ bytes_with put rest)

corner_bytes : (x y back : List ℕ) → ((codes "xy" ++ (codes " " ++ (x ++ (codes " " ++ (y ++ []))))) ++ 41 ∷ back) ≡ codes "xy " ++ (x ++ (codes " " ++ (y ++ 41 ∷ back)))
corner_bytes x y back =
    ap (λ z. codes "xy " ++ z) (append_assoc x (32 ∷ (y ++ [])) (41 ∷ back) ∙ ap (λ z. x ++ 32 ∷ z) (append_assoc y [] (41 ∷ back)))

corner_front : (p : Point) (back : List ℕ) → corner_text p ++ back ≡ codes "\n        (xy " ++ (mm_of p.x ++ (codes " " ++ (mm_of p.y ++ 41 ∷ back)))
corner_front p back =
    ap (λ z. codes "\n        (xy " ++ z) (append_assoc (mm_of p.x) (32 ∷ (mm_of p.y ++ 41 ∷ [])) back ∙ ap (λ z. mm_of p.x ++ 32 ∷ z) (append_assoc (mm_of p.y) (41 ∷ []) back))

corners_bytes : (ps : List Point) → spelt_bytes (corners_spelt ps) ≡ flat_map corner_text ps ++ codes "\n      "
corners_bytes [] = refl
corners_bytes (p ∷ ps) =
    ap (λ z. codes "\n        (" ++ z) (corner_bytes (mm_of p.x) (mm_of p.y) (spelt_bytes (corners_spelt ps)) ∙ ap (λ z. codes "xy " ++ (mm_of p.x ++ (codes " " ++ (mm_of p.y ++ 41 ∷ z)))) (corners_bytes ps))
    ∙ sym (corner_front p (flat_map corner_text ps ++ codes "\n      "))
    ∙ sym (append_assoc (corner_text p) (flat_map corner_text ps) (codes "\n      "))

ring_front : (q c back : List ℕ) → (codes "\n    (filled_polygon\n      (layer \"" ++ (q ++ (codes "\")\n      (pts" ++ (c ++ codes "\n      )\n    )")))) ++ back
    ≡ codes "\n    (filled_polygon\n      (layer \"" ++ (q ++ (codes "\")\n      (pts" ++ (c ++ (codes "\n      )\n    )" ++ back))))
ring_front q c back =
    ap (λ z. codes "\n    (filled_polygon\n      (layer \"" ++ z)
    (append_assoc q (codes "\")\n      (pts" ++ (c ++ codes "\n      )\n    )")) back ∙ ap (λ z. q ++ (codes "\")\n      (pts" ++ z)) (append_assoc c (codes "\n      )\n    )") back))

ring_back : (q c back : List ℕ)
    → (codes "filled_polygon" ++ (codes "\n      " ++ 40 ∷ ((codes "layer" ++ (codes " " ++ 34 ∷ (q ++ 34 ∷ []))) ++ 41 ∷ (codes "\n      " ++ 40 ∷ ((codes "pts" ++ c) ++ 41 ∷ codes "\n    "))))) ++ 41 ∷ back
    ≡ codes "filled_polygon\n      (layer \"" ++ (q ++ (codes "\")\n      (pts" ++ (c ++ (41 ∷ codes "\n    )" ++ back))))
ring_back q c back =
    ap (λ z. codes "filled_polygon\n      (layer \"" ++ (z ++ 41 ∷ back)) (append_assoc q (34 ∷ []) (41 ∷ (codes "\n      (pts" ++ (c ++ 41 ∷ codes "\n    "))))
    ∙ ap (λ z. codes "filled_polygon\n      (layer \"" ++ z)
    (append_assoc q (codes "\")\n      (pts" ++ (c ++ 41 ∷ codes "\n    ")) (41 ∷ back) ∙ ap (λ z. q ++ (codes "\")\n      (pts" ++ z)) (append_assoc c (41 ∷ codes "\n    ") (41 ∷ back)))

ring_whole : (r : Ring) (back : List ℕ) → codes "\n    (" ++ (spelt_bytes (inside_ring r) ++ 41 ∷ back) ≡ ring_bytes r ++ back
ring_whole r back =
    ap (λ z. codes "\n    (" ++ z) (ring_back (quoted r.layer) (spelt_bytes (corners_spelt r.corners)) back)
    ∙ ap (λ z. codes "\n    (filled_polygon\n      (layer \"" ++ (quoted r.layer ++ (codes "\")\n      (pts" ++ (z ++ (41 ∷ codes "\n    )" ++ back))))) (corners_bytes r.corners)
    ∙ ap (λ z. codes "\n    (filled_polygon\n      (layer \"" ++ (quoted r.layer ++ (codes "\")\n      (pts" ++ z)))
    (append_assoc (flat_map corner_text r.corners) (codes "\n      ") (41 ∷ codes "\n    )" ++ back))
    ∙ sym (ring_front (quoted r.layer) (flat_map corner_text r.corners) back)

rings_bytes : (rs : List Ring) (rest : Spelling) → spelt_bytes (rings_before rs rest) ≡ flat_map ring_bytes rs ++ spelt_bytes rest
rings_bytes [] rest = refl
rings_bytes (r ∷ rs) rest =
    ap (λ z. codes "\n    (" ++ (spelt_bytes (inside_ring r) ++ 41 ∷ z)) (rings_bytes rs rest) ∙ ring_whole r (flat_map ring_bytes rs ++ spelt_bytes rest)
    ∙ sym (append_assoc (ring_bytes r) (flat_map ring_bytes rs) (spelt_bytes rest))

pub put_bytes : (rs : List Ring) (s : Spelling) → spelt_bytes (put_rings rs s) ≡ bytes_with (flat_map ring_bytes rs) s
put_bytes rs (Ends w) = rings_bytes rs (Ends w)
put_bytes rs (Named w t rest) = ap (λ z. w ++ (t ++ z)) (put_bytes rs rest)
put_bytes rs (Strung w t rest) = ap (λ z. w ++ 34 ∷ (t ++ 34 ∷ z)) (put_bytes rs rest)
put_bytes rs (Nested w inner rest) = ap (λ z. w ++ 40 ∷ (spelt_bytes inner ++ 41 ∷ z)) (put_bytes rs rest)

-- ---- the contents

drop_contents : (s : Spelling) → contents (drop_fills s) ≡ without fill_heads (contents s)
drop_contents (Ends w) = refl
drop_contents (Named w t rest) = ap (Bare t) (drop_contents rest)
drop_contents (Strung w t rest) = ap (Quoted (unescaped false t)) (drop_contents rest)
drop_contents (Nested w inner rest) = pick (is_old inner) (drop_contents rest)
  where
    pick : (b : Bool) → contents (drop_fills rest) ≡ without fill_heads (contents rest)
        → contents (cond b (drop_fills rest) (Nested w inner (drop_fills rest))) ≡ cond b (without fill_heads (contents rest)) (Inside (contents inner) (without fill_heads (contents rest)))
    pick true e = e
    pick false e = ap (Inside (contents inner)) e

without_twice : (names : List (List ℕ)) (s : Shape) → without names (without names s) ≡ without names s
without_twice names Over = refl
without_twice names (Bare t rest) = ap (Bare t) (without_twice names rest)
without_twice names (Quoted t rest) = ap (Quoted t) (without_twice names rest)
without_twice names (Inside inner rest) = pick (is_named_among names inner) refl (without_twice names rest)
  where
    pick : (b : Bool) → is_named_among names inner ≡ b → without names (without names rest) ≡ without names rest
        → without names (cond b (without names rest) (Inside inner (without names rest))) ≡ cond b (without names rest) (Inside inner (without names rest))
    pick true h e = e
    pick false h e = ap (λ z. cond z (without names (without names rest)) (Inside inner (without names (without names rest)))) h ∙ ap (Inside inner) e

rings_contents : (rs : List Ring) (rest : Spelling) → without fill_heads (contents (rings_before rs rest)) ≡ without fill_heads (contents rest)
rings_contents [] rest = refl
rings_contents (r ∷ rs) rest = rings_contents rs rest

put_contents : (rs : List Ring) (s : Spelling) → without fill_heads (contents (put_rings rs s)) ≡ without fill_heads (contents s)
put_contents rs (Ends w) = rings_contents rs (Ends w)
put_contents rs (Named w t rest) = ap (Bare t) (put_contents rs rest)
put_contents rs (Strung w t rest) = ap (Quoted (unescaped false t)) (put_contents rs rest)
put_contents rs (Nested w inner rest) =
    ap (λ z. cond (is_named_among fill_heads (contents inner)) z (Inside (contents inner) z)) (put_contents rs rest)

pub list_contents : (rs : List Ring) (s : Spelling) → without fill_heads (contents (put_rings rs (drop_fills s))) ≡ without fill_heads (contents s)
list_contents rs s = put_contents rs (drop_fills s) ∙ ap (without fill_heads) (drop_contents s) ∙ without_twice fill_heads (contents s)

-- the head of a zone stays
zone_stays : (rs : List Ring) (s : Spelling) → is_named (codes "zone") (contents s) ≡ true → is_named (codes "zone") (contents (put_rings rs (drop_fills s))) ≡ true
zone_stays rs (Ends w) h = absurd (false≢true h)
zone_stays rs (Named w t rest) h = h
zone_stays rs (Strung w t rest) h = absurd (false≢true h)
zone_stays rs (Nested w inner rest) h = absurd (false≢true h)

unfilled_zone : (s : Shape) → is_named (codes "zone") s ≡ true → unfilled s ≡ without fill_heads s
unfilled_zone s h = ap (λ z. cond z (without fill_heads s) s) h

-- no word comes directly behind an old fill among the items
abbrev pub is_bare : Spelling → Bool
is_bare (Named [] t rest) = true
is_bare (Named (c ∷ w) t rest) = false
is_bare (Ends w) = false
is_bare (Strung w t rest) = false
is_bare (Nested w inner rest) = false

abbrev pub AreApart : Spelling → Type 0
AreApart (Ends w) = Unit {0}
AreApart (Named w t rest) = AreApart rest
AreApart (Strung w t rest) = AreApart rest
AreApart (Nested w inner rest) = (is_old inner ≡ true → is_bare rest ≡ false) × AreApart rest

-- a list that is filled is a zone, and no word comes directly behind its old fills
abbrev pub Suits : Option (List Ring) → Spelling → Type 0
Suits None inner = Unit {0}
Suits (Some rs) inner = (is_named (codes "zone") (contents inner) ≡ true) × AreApart inner

abbrev pub Fits : Plan → Spelling → Type 0
Fits plan (Ends w) = Unit {0}
Fits plan (Named w t rest) = Fits plan rest
Fits plan (Strung w t rest) = Fits plan rest
Fits [] (Nested w inner rest) = Fits [] rest
Fits (o ∷ plan) (Nested w inner rest) = Suits o inner × Fits plan rest

listed_contents : (o : Option (List Ring)) (inner : Spelling) → Suits o inner → unfilled (contents (refill_list o inner)) ≡ unfilled (contents inner)
listed_contents None inner f = refl
listed_contents (Some rs) inner f =
    unfilled_zone (contents (put_rings rs (drop_fills inner))) (zone_stays rs inner f.0) ∙ list_contents rs inner ∙ sym (unfilled_zone (contents inner) f.0)

pub refill_contents : (plan : Plan) (s : Spelling) → Fits plan s → board_contents (contents (refill plan s)) ≡ board_contents (contents s)
refill_contents plan (Ends w) f = refl
refill_contents plan (Named w t rest) f = ap (Bare t) (refill_contents plan rest f)
refill_contents plan (Strung w t rest) f = ap (Quoted (unescaped false t)) (refill_contents plan rest f)
refill_contents [] (Nested w inner rest) f = ap (Inside (unfilled (contents inner))) (refill_contents [] rest f)
refill_contents (o ∷ plan) (Nested w inner rest) f =
    ap (λ z. Inside z (board_contents (contents (refill plan rest)))) (listed_contents o inner f.0) ∙ ap (Inside (unfilled (contents inner))) (refill_contents plan rest f.1)

-- ---- a second time nothing changes

rings_dropped : (rs : List Ring) (w : List ℕ) → drop_fills (rings_before rs (Ends w)) ≡ Ends w
rings_dropped [] w = refl
rings_dropped (r ∷ rs) w = rings_dropped rs w

put_dropped : (rs : List Ring) (s : Spelling) → drop_fills (put_rings rs s) ≡ drop_fills s
put_dropped rs (Ends w) = rings_dropped rs w
put_dropped rs (Named w t rest) = ap (Named w t) (put_dropped rs rest)
put_dropped rs (Strung w t rest) = ap (Strung w t) (put_dropped rs rest)
put_dropped rs (Nested w inner rest) = ap (λ z. cond (is_old inner) z (Nested w inner z)) (put_dropped rs rest)

dropped_twice : (s : Spelling) → drop_fills (drop_fills s) ≡ drop_fills s
dropped_twice (Ends w) = refl
dropped_twice (Named w t rest) = ap (Named w t) (dropped_twice rest)
dropped_twice (Strung w t rest) = ap (Strung w t) (dropped_twice rest)
dropped_twice (Nested w inner rest) = pick (is_old inner) refl (dropped_twice rest)
  where
    pick : (b : Bool) → is_old inner ≡ b → drop_fills (drop_fills rest) ≡ drop_fills rest
        → drop_fills (cond b (drop_fills rest) (Nested w inner (drop_fills rest))) ≡ cond b (drop_fills rest) (Nested w inner (drop_fills rest))
    pick true h e = e
    pick false h e = ap (λ z. cond z (drop_fills (drop_fills rest)) (Nested w inner (drop_fills (drop_fills rest)))) h ∙ ap (Nested w inner) e

listed_twice : (o : Option (List Ring)) (inner : Spelling) → refill_list o (refill_list o inner) ≡ refill_list o inner
listed_twice None inner = refl
listed_twice (Some rs) inner = ap (put_rings rs) (put_dropped rs (drop_fills inner) ∙ dropped_twice inner)

pub refill_twice : (plan : Plan) (s : Spelling) → refill plan (refill plan s) ≡ refill plan s
refill_twice plan (Ends w) = refl
refill_twice plan (Named w t rest) = ap (Named w t) (refill_twice plan rest)
refill_twice plan (Strung w t rest) = ap (Strung w t) (refill_twice plan rest)
refill_twice [] (Nested w inner rest) = ap (Nested w inner) (refill_twice [] rest)
refill_twice (o ∷ plan) (Nested w inner rest) =
    ap (λ z. Nested w z (refill plan (refill plan rest))) (listed_twice o inner) ∙ ap (Nested w (refill_list o inner)) (refill_twice plan rest)

-- ---- it is a spelling

apart_dropped : (s : Spelling) → is_apart s ≡ true → AreApart s → is_apart (drop_fills s) ≡ true
apart_dropped (Ends w) a f = refl
apart_dropped (Named [] t rest) a f = absurd (false≢true a)
apart_dropped (Named (c ∷ w) t rest) a f = refl
apart_dropped (Strung w t rest) a f = refl
apart_dropped (Nested w inner rest) a f = pick (is_old inner) f.0 (λ h. apart_dropped rest (not_bare rest h) f.1)
  where
    not_bare : (s : Spelling) → is_bare s ≡ false → is_apart s ≡ true
    not_bare (Ends w) h = refl
    not_bare (Named [] t rest) h = absurd (true≢false h)
    not_bare (Named (c ∷ w) t rest) h = refl
    not_bare (Strung w t rest) h = refl
    not_bare (Nested w inner rest) h = refl

    pick : (b : Bool) → (b ≡ true → is_bare rest ≡ false) → (is_bare rest ≡ false → is_apart (drop_fills rest) ≡ true) → is_apart (cond b (drop_fills rest) (Nested w inner (drop_fills rest))) ≡ true
    pick true h k = k (h refl)
    pick false h k = refl

drop_good : (room : ℕ) (s : Spelling) → IsTextSpelling room s → AreApart s → IsTextSpelling room (drop_fills s)
drop_good room (Ends w) g f = g
drop_good room (Named w t rest) g f = (g.0, g.1, g.2, apart_dropped rest g.3 f, drop_good room rest g.4 f)
drop_good room (Strung w t rest) g f = (g.0, g.1, drop_good room rest g.2 f)
drop_good room (Nested w inner rest) g f = pick (is_old inner) (drop_good room rest g.3 f.1)
  where
    pick : (b : Bool) → IsTextSpelling room (drop_fills rest) → IsTextSpelling room (cond b (drop_fills rest) (Nested w inner (drop_fills rest)))
    pick true k = k
    pick false k = (g.0, g.1, g.2, k)

apart_put : (rs : List Ring) (s : Spelling) → is_apart s ≡ true → is_apart (put_rings rs s) ≡ true
apart_put [] (Ends w) a = refl
apart_put (r ∷ rs) (Ends w) a = refl
apart_put rs (Named [] t rest) a = absurd (false≢true a)
apart_put rs (Named (c ∷ w) t rest) a = refl
apart_put rs (Strung w t rest) a = refl
apart_put rs (Nested w inner rest) a = refl

-- a ring whose corners lie within 500 mm, on a layer whose name is UTF-8
pub record IsWritable (r : Ring) : Type 0 where
  pub near : IsRingInRange r.corners
  pub name : IsUtf8 r.layer

abbrev pub AreWritable : List Ring → Type 0
AreWritable [] = Unit {0}
AreWritable (r ∷ rs) = IsWritable r × AreWritable rs

quote_kept : (c : ℕ) (rest : List ℕ) (b : Bool) → (c == 34 || c == 92) ≡ b → is_string_inside false rest ≡ true → is_string_inside false (cond b (92 ∷ c ∷ rest) (c ∷ rest)) ≡ true
quote_kept c rest true e h = h
quote_kept c rest false e h = by_byte (c == 34) (c == 92) e
  where
    by_byte : (p q : Bool) → (p || q) ≡ false → (not p && is_string_inside q rest) ≡ true
    by_byte true q e = absurd (true≢false e)
    by_byte false true e = absurd (true≢false e)
    by_byte false false e = h

pub quoted_inside : (t : List ℕ) → is_string_inside false (quoted t) ≡ true
quoted_inside [] = refl
quoted_inside (c ∷ t) = quote_kept c (quoted t) (c == 34 || c == 92) refl (quoted_inside t)

corners_good : (room : ℕ) (ps : List Point) → 0 < room → IsRingInRange ps → IsTextSpelling room (corners_spelt ps)
corners_good room [] l r = refl
corners_good room (p ∷ ps) l r =
    let x = mm_word p.x (r 0 p (omega arith)).0 in
    let y = mm_word p.y (r 0 p (omega arith)).1 in
    let a = and_parts _ (list_all is_plain (mm_of p.x)) x in
    let b = and_parts _ (list_all is_plain (mm_of p.y)) y in (
      refl,
      l,
      (
        refl,
        omega arith,
        refl,
        refl,
        (
          refl,
          some_length (length (mm_of p.x)) a.0,
          word_of_plain (mm_of p.x) a.1,
          refl,
          (refl, some_length (length (mm_of p.y)) b.0, word_of_plain (mm_of p.y) b.1, refl, refl),
        ),
      ),
      corners_good room ps l (λ k d m. r (suc k) d (omega (arith, m))),
    )

ring_good : (room : ℕ) (r : Ring) → 2 ≤ room → IsWritable r → IsTextSpelling room (inside_ring r)
ring_good room r l w = (
  refl,
  omega arith,
  refl,
  refl,
  (
    refl,
    omega (arith, l),
    (refl, omega arith, refl, refl, (refl, quoted_inside r.layer, refl)),
    (refl, omega (arith, l), (refl, omega arith, refl, corners_apart r.corners, corners_good (room - 1) r.corners (omega (arith, l)) w.near), refl),
  ),
)
  where
    corners_apart : (ps : List Point) → is_apart (corners_spelt ps) ≡ true
    corners_apart [] = refl
    corners_apart (p ∷ ps) = refl

rings_good : (room : ℕ) (rs : List Ring) (rest : Spelling) → 3 ≤ room → AreWritable rs → IsTextSpelling room rest → IsTextSpelling room (rings_before rs rest)
rings_good room [] rest l w g = g
rings_good room (r ∷ rs) rest l w g = (refl, omega (arith, l), ring_good (room - 1) r (omega (arith, l)) w.0, rings_good room rs rest l w.1 g)

put_good : (room : ℕ) (rs : List Ring) (s : Spelling) → 3 ≤ room → AreWritable rs → IsTextSpelling room s → IsTextSpelling room (put_rings rs s)
put_good room rs (Ends w) l h g = rings_good room rs (Ends w) l h g
put_good room rs (Named w t rest) l h g = (g.0, g.1, g.2, apart_put rs rest g.3, put_good room rs rest l h g.4)
put_good room rs (Strung w t rest) l h g = (g.0, g.1, put_good room rs rest l h g.2)
put_good room rs (Nested w inner rest) l h g = (g.0, g.1, g.2, put_good room rs rest l h g.3)

abbrev pub PlanWritable : Plan → Type 0
PlanWritable [] = Unit {0}
PlanWritable (None ∷ plan) = PlanWritable plan
PlanWritable (Some rs ∷ plan) = AreWritable rs × PlanWritable plan

apart_refilled : (plan : Plan) (s : Spelling) → is_apart s ≡ true → is_apart (refill plan s) ≡ true
apart_refilled plan (Ends w) a = refl
apart_refilled plan (Named [] t rest) a = absurd (false≢true a)
apart_refilled plan (Named (c ∷ w) t rest) a = refl
apart_refilled plan (Strung w t rest) a = refl
apart_refilled [] (Nested w inner rest) a = refl
apart_refilled (o ∷ plan) (Nested w inner rest) a = refl

pub refill_good : (room : ℕ) (plan : Plan) (s : Spelling) → 4 ≤ room → Fits plan s → PlanWritable plan → IsTextSpelling room s → IsTextSpelling room (refill plan s)
refill_good room plan (Ends w) l f p g = g
refill_good room plan (Named w t rest) l f p g = (g.0, g.1, g.2, apart_refilled plan rest g.3, refill_good room plan rest l f p g.4)
refill_good room plan (Strung w t rest) l f p g = (g.0, g.1, refill_good room plan rest l f p g.2)
refill_good room [] (Nested w inner rest) l f p g = (g.0, g.1, g.2, refill_good room [] rest l f p g.3)
refill_good room (None ∷ plan) (Nested w inner rest) l f p g = (g.0, g.1, g.2, refill_good room plan rest l f.1 p g.3)
refill_good room (Some rs ∷ plan) (Nested w inner rest) l f p g =
    (g.0, g.1, put_good (room - 1) rs (drop_fills inner) (omega (arith, l)) p.0 (drop_good (room - 1) inner g.2 f.0.1), refill_good room plan rest l f.1 p.1 g.3)

-- ---- it is UTF-8

small_quoted : (c : ℕ) (ys : List ℕ) → c < 128 → IsUtf8 (quoted ys) → IsUtf8 (quoted (c ∷ ys))
small_quoted c ys l h = pick (c == 34 || c == 92)
  where
    pick : (b : Bool) → IsUtf8 (cond b (92 ∷ c ∷ quoted ys) (c ∷ quoted ys))
    pick true = ascii_before 92 (c ∷ quoted ys) (omega arith) (ascii_before c (quoted ys) l h)
    pick false = ascii_before c (quoted ys) l h

no_mark : (c : ℕ) → 128 ≤ c → (c == 34 || c == 92) ≡ false
no_mark c l = grind (arith, nat_tests)

high_quoted : (xs ys : List ℕ) → Highs xs → quoted (xs ++ ys) ≡ xs ++ quoted ys
high_quoted [] ys h = refl
high_quoted (c ∷ xs) ys h = rw (no_mark c h.0) (ap (λ z. c ∷ z) (high_quoted xs ys h.1))

quoted_chars : (cs : List ℕ) → all_scalars cs ≡ true → IsUtf8 (quoted (encode_utf8_all cs))
quoted_chars [] s = IsUtf8-nil
quoted_chars (c ∷ cs) s = elim (below_or_past c 128) [
  | inl l ↦ subst (λ z. IsUtf8 (quoted (z ++ encode_utf8_all cs))) (sym (encode_ascii c l)) (small_quoted c (encode_utf8_all cs) l (quoted_chars cs (scalar_first c cs s).1))
  | inr l ↦ subst IsUtf8 (sym (high_quoted (encode_utf8 c) (encode_utf8_all cs) (highs_encode c l)))
      (IsUtf8-append (encode_utf8 c) (quoted (encode_utf8_all cs)) (IsUtf8-encode c (scalar_first c cs s).0) (quoted_chars cs (scalar_first c cs s).1))
]

quoted_utf8 : (t : List ℕ) → IsUtf8 t → IsUtf8 (quoted t)
quoted_utf8 t u = subst (λ z. IsUtf8 (quoted z)) u.1.1 (quoted_chars u.0 u.1.0)

small_there : (c : ℕ) → is_plain c ≡ true → c < 128
small_there c h = below c (and_parts (is_word c) _ h).1
  where
    below : (c : ℕ) → Rattle.std.specs.Prelude.nat_lt c 128 ≡ true → c < 128
    below c h = grind (arith, nat_tests)

plain_utf8 : (t : List ℕ) → list_all is_plain t ≡ true → IsUtf8 t
plain_utf8 [] h = IsUtf8-nil
plain_utf8 (c ∷ t) h = let a = and_parts (is_plain c) (list_all is_plain t) h in ascii_before c t (small_there c a.0) (plain_utf8 t a.1)

mm_utf8 : (z : Rattle.std.specs.Prelude.ℤ) → IsInRange z → IsUtf8 (mm_of z)
mm_utf8 z r = plain_utf8 (mm_of z) (and_parts _ (list_all is_plain (mm_of z)) (mm_word z r)).1

corners_utf8 : (ps : List Point) → IsRingInRange ps → AreUtf8 (corners_spelt ps)
corners_utf8 [] r = tt
corners_utf8 (p ∷ ps) r =
    let h = r 0 p (omega arith) in
    ((plain_utf8 (codes "xy") refl, (mm_utf8 p.x h.0, (mm_utf8 p.y h.1, tt))), corners_utf8 ps (λ k d m. r (suc k) d (omega (arith, m))))

rings_utf8 : (rs : List Ring) (rest : Spelling) → AreWritable rs → AreUtf8 rest → AreUtf8 (rings_before rs rest)
rings_utf8 [] rest w u = u
rings_utf8 (r ∷ rs) rest w u = (
  (
    plain_utf8 (codes "filled_polygon") refl,
    ((plain_utf8 (codes "layer") refl, (quoted_utf8 r.layer w.0.name, tt)), ((plain_utf8 (codes "pts") refl, corners_utf8 r.corners w.0.near), tt)),
  ),
  rings_utf8 rs rest w.1 u,
)

put_utf8 : (rs : List Ring) (s : Spelling) → AreWritable rs → AreUtf8 s → AreUtf8 (put_rings rs s)
put_utf8 rs (Ends w) h u = rings_utf8 rs (Ends w) h tt
put_utf8 rs (Named w t rest) h u = (u.0, put_utf8 rs rest h u.1)
put_utf8 rs (Strung w t rest) h u = (u.0, put_utf8 rs rest h u.1)
put_utf8 rs (Nested w inner rest) h u = (u.0, put_utf8 rs rest h u.1)

drop_utf8 : (s : Spelling) → AreUtf8 s → AreUtf8 (drop_fills s)
drop_utf8 (Ends w) u = tt
drop_utf8 (Named w t rest) u = (u.0, drop_utf8 rest u.1)
drop_utf8 (Strung w t rest) u = (u.0, drop_utf8 rest u.1)
drop_utf8 (Nested w inner rest) u = pick (is_old inner) (drop_utf8 rest u.1)
  where
    pick : (b : Bool) → AreUtf8 (drop_fills rest) → AreUtf8 (cond b (drop_fills rest) (Nested w inner (drop_fills rest)))
    pick true k = k
    pick false k = (u.0, k)

pub refill_utf8 : (plan : Plan) (s : Spelling) → PlanWritable plan → AreUtf8 s → AreUtf8 (refill plan s)
refill_utf8 plan (Ends w) p u = tt
refill_utf8 plan (Named w t rest) p u = (u.0, refill_utf8 plan rest p u.1)
refill_utf8 plan (Strung w t rest) p u = (u.0, refill_utf8 plan rest p u.1)
refill_utf8 [] (Nested w inner rest) p u = (u.0, refill_utf8 [] rest p u.1)
refill_utf8 (None ∷ plan) (Nested w inner rest) p u = (u.0, refill_utf8 plan rest p u.1)
refill_utf8 (Some rs ∷ plan) (Nested w inner rest) p u = (put_utf8 rs (drop_fills inner) p.0 (drop_utf8 inner u.0), refill_utf8 plan rest p.1 u.1)
