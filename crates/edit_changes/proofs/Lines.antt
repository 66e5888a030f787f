-- The lines of new tracks and vias, as spellings.
use Rattle.std.proofs.Common.{◌≡◌, ◌∙◌, refl, ap, ℕ, ◌-◌, ◌<◌, Bool, true, false, ◌&&◌, ◌||◌, not, ◌==◌, cond, nat_le, List, [], ◌∷◌, ◌++◌, length, codes, decimal, arith, Option, Some, option_and_then}
use Rattle.std.specs.Prelude.{find, ℤ, pos, if◌then◌else◌}
use Rattle.std.specs.List.{list_all}
use Rattle.std.proofs.lemmas.Bool.{and_parts}
use Rattle.std.proofs.lemmas.Bool.Decides.{nat_tests}
use Rattle.std.proofs.lemmas.Int.{ints}
use Rattle.grid_num.specs.declared.Point.{Point}
use Rattle.grid_num.specs.Length.{IsInRange}
use Rattle.grid_num.specs.Written.{mm_of}
use Rattle.grid_num.proofs.Digits.{decimal_some}
use Rattle.sexpr_text.specs.Grammar.{is_word}
use Rattle.sexpr_text.specs.Items.{Item, unescaped}
use Rattle.board_text.specs.Fields.{text_at}
use Rattle.board_text.specs.Items.{is_stamp_list, stamp_list, stamp_in}
use Rattle.text_shapes.specs.Seen.{ItemSeen, item_seen, parts}
use Rattle.text_shapes.specs.Spellings.{Spelling, contents, is_string_inside, IsTextSpelling}
use Rattle.text_shapes.proofs.Numbers.{mm_word, decimal_plain}
use Rattle.text_shapes.proofs.Layouts.{word_of_plain, some_length}
use Rattle.text_shapes.proofs.Seen.{same_or, find_map, then_map, said_at, said_seen, heads, heads_seen, parts_seen}
use Rattle.edit_language.specs.Forms.{is_name_byte}
use Rattle.edit_language.specs.Scripts.{IsPointInRange, IsSize, IsWholeNumber, IsName}
use Rattle.edit_language.specs.Splices.{list_text, between_quotes, has_uuids, track_line, via_line}
use Rattle.same_boards.proofs.Fields.{also}
use Rattle.edit_changes.proofs.Holes.{list_seen}
use Rattle.edit_changes.proofs.Lists.{Value, Word, Text, Lists, value_bytes, list_spelt, list_is, IsGoodValue, list_good}

-- ---- words

name_word : (c : ℕ) → is_name_byte c ≡ true → is_word c ≡ true
name_word c h = grind (arith, nat_tests, h)

name_unquoted : (c : ℕ) → is_name_byte c ≡ true → (c == 34) ≡ false
name_unquoted c h = grind (arith, nat_tests, h)

name_unescaped : (c : ℕ) → is_name_byte c ≡ true → (c == 92) ≡ false
name_unescaped c h = grind (arith, nat_tests, h)

named_words : (t : List ℕ) → list_all is_name_byte t ≡ true → list_all is_word t ≡ true
named_words [] h = refl
named_words (c ∷ t) h =
    let p = and_parts (is_name_byte c) (list_all is_name_byte t) h in
    ap (λ b. b && list_all is_word t) (name_word c p.0) ∙ named_words t p.1

named_inside : (t : List ℕ) → list_all is_name_byte t ≡ true → is_string_inside false t ≡ true
named_inside [] h = refl
named_inside (c ∷ t) h =
    let p = and_parts (is_name_byte c) (list_all is_name_byte t) h in
    ap (λ b. not b && is_string_inside (c == 92) t) (name_unquoted c p.0) ∙ ap (λ b. is_string_inside b t) (name_unescaped c p.0) ∙ named_inside t p.1

pub named_same : (t : List ℕ) → list_all is_name_byte t ≡ true → unescaped false t ≡ t
named_same [] h = refl
named_same (c ∷ t) h =
    let p = and_parts (is_name_byte c) (list_all is_name_byte t) h in
    ap (λ b. if b then unescaped true t else c ∷ unescaped false t) (name_unescaped c p.0) ∙ ap (λ z. c ∷ z) (named_same t p.1)

pub name_bytes : (t : List ℕ) → IsName t → list_all is_name_byte t ≡ true
name_bytes t h = (and_parts (list_all is_name_byte t) _ h).0

name_some : (t : List ℕ) → IsName t → 0 < length t
name_some t h = some_length (length t) (and_parts (not (length t == 0)) (nat_le (length t) 64) (and_parts (list_all is_name_byte t) _ h).1).0

name_text : (t : List ℕ) → IsName t → (room : ℕ) → IsGoodValue room (Text t)
name_text t h room = named_inside t (name_bytes t h)

name_bare : (t : List ℕ) → IsName t → (room : ℕ) → IsGoodValue room (Word t)
name_bare t h room = (name_some t h, named_words t (name_bytes t h))

mm_value : (z : ℤ) → IsInRange z → (room : ℕ) → IsGoodValue room (Word (mm_of z))
mm_value z r room =
    let p = and_parts (not (length (mm_of z) == 0)) _ (mm_word z r) in
    (some_length (length (mm_of z)) p.0, word_of_plain (mm_of z) p.1)

pub size_value : (n : ℕ) → IsSize n → (room : ℕ) → IsGoodValue room (Word (mm_of (pos n)))
size_value n s room = mm_value (pos n) (omega (arith, ints, s), omega (arith, ints, s)) room

pub whole_value : (n : ℕ) → IsWholeNumber n → (room : ℕ) → IsGoodValue room (Word (decimal n))
whole_value n l room = (decimal_some n (omega (arith, l)), word_of_plain (decimal n) (decimal_plain n (omega (arith, l))))

-- ---- stamps

abbrev stamp_spelt : Bool → List ℕ → Spelling
stamp_spelt uuids stamp = cond uuids (list_spelt (codes "uuid") (Text stamp ∷ [])) (list_spelt (codes "tstamp") (Word stamp ∷ []))

stamp_kind : (uuids : Bool) (stamp : List ℕ) → cond uuids (list_text (codes "uuid") (between_quotes stamp ∷ [])) (list_text (codes "tstamp") (stamp ∷ [])) ≡ value_bytes (Lists (stamp_spelt uuids stamp))
stamp_kind true stamp = list_is (codes "uuid") (Text stamp ∷ [])
stamp_kind false stamp = list_is (codes "tstamp") (Word stamp ∷ [])

stamp_good : (uuids : Bool) (stamp : List ℕ) (room : ℕ) → IsName stamp → IsTextSpelling room (stamp_spelt uuids stamp)
stamp_good true stamp room h = list_good room (codes "uuid") (Text stamp ∷ []) (omega arith) refl (name_text stamp h room, tt)
stamp_good false stamp room h = list_good room (codes "tstamp") (Word stamp ∷ []) (omega arith) refl (name_bare stamp h room, tt)

-- the stamp of an item, by what is seen of it
abbrev pub stamp_seen : ItemSeen → Option (List ℕ)
stamp_seen s = option_and_then (said_at 0) (find (λ x. heads (codes "tstamp") x || heads (codes "uuid") x) (parts s.inner))

pub stamp_is : (text : List ℕ) (item : Item) → stamp_in text item ≡ stamp_seen (item_seen text item)
stamp_is text item =
    then_map (item_seen text) (text_at text 0) (said_at 0) (said_seen text 0) (stamp_list text item)
    ∙ ap (option_and_then (said_at 0))
    (find_map (item_seen text) (is_stamp_list text) (λ x. heads (codes "tstamp") x || heads (codes "uuid") x)
    (λ x. same_or _ _ _ _ (heads_seen text (codes "tstamp") x) (heads_seen text (codes "uuid") x)) (Rattle.sexpr_text.specs.Items.children_of item)
    ∙ ap (find (λ x. heads (codes "tstamp") x || heads (codes "uuid") x)) (parts_seen text item.inner))

-- ---- tracks

abbrev point_spelt : List ℕ → Point → Spelling
point_spelt name p = list_spelt name (Word (mm_of p.x) ∷ Word (mm_of p.y) ∷ [])

abbrev length_spelt : List ℕ → ℕ → Spelling
length_spelt name n = list_spelt name (Word (mm_of (pos n)) ∷ [])

point_good : (room : ℕ) (name : List ℕ) (p : Point) → 0 < length name → list_all is_word name ≡ true → IsPointInRange p → IsTextSpelling room (point_spelt name p)
point_good room name p l a h = list_good room name (Word (mm_of p.x) ∷ Word (mm_of p.y) ∷ []) l a (mm_value p.x h.0 room, (mm_value p.y h.1 room, tt))

pub length_good : (room : ℕ) (name : List ℕ) (n : ℕ) → 0 < length name → list_all is_word name ≡ true → IsSize n → IsTextSpelling room (length_spelt name n)
length_good room name n l a h = list_good room name (Word (mm_of (pos n)) ∷ []) l a (size_value n h room, tt)

pub whole_good : (room : ℕ) (name : List ℕ) (n : ℕ) → 0 < length name → list_all is_word name ≡ true → IsWholeNumber n → IsTextSpelling room (list_spelt name (Word (decimal n) ∷ []))
whole_good room name n l a h = list_good room name (Word (decimal n) ∷ []) l a (whole_value n h room, tt)

abbrev track_values : Bool → Point → Point → ℕ → List ℕ → ℕ → List ℕ → List Value
track_values uuids from to width layer net stamp =
    Lists (point_spelt (codes "start") from) ∷ Lists (point_spelt (codes "end") to) ∷ Lists (length_spelt (codes "width") width) ∷ Lists (list_spelt (codes "layer") (Text layer ∷ []))
    ∷ Lists (list_spelt (codes "net") (Word (decimal net) ∷ [])) ∷ Lists (stamp_spelt uuids stamp) ∷ []

-- inside the list of a new track
abbrev pub track_spelt : Bool → Point → Point → ℕ → List ℕ → ℕ → List ℕ → Spelling
track_spelt uuids from to width layer net stamp = list_spelt (codes "segment") (track_values uuids from to width layer net stamp)

pub track_is : (version : ℕ) (from to : Point) (width : ℕ) (layer : List ℕ) (net : ℕ) (stamp : List ℕ)
    → track_line version from to width layer net stamp ≡ codes "  " ++ (value_bytes (Lists (track_spelt (has_uuids version) from to width layer net stamp)) ++ codes "\n")
unfolding track_line
track_is version from to width layer net stamp =
    ap (λ z. codes "  " ++ (list_text (codes "segment") z ++ codes "\n"))
    (also (list_is (codes "start") (Word (mm_of from.x) ∷ Word (mm_of from.y) ∷ [])) (also (list_is (codes "end") (Word (mm_of to.x) ∷ Word (mm_of to.y) ∷ []))
    (also (list_is (codes "width") (Word (mm_of (pos width)) ∷ [])) (also (list_is (codes "layer") (Text layer ∷ [])) (also (list_is (codes "net") (Word (decimal net) ∷ []))
    (also (stamp_kind (has_uuids version) stamp) refl))))))
    ∙ ap (λ z. codes "  " ++ (z ++ codes "\n")) (list_is (codes "segment") (track_values (has_uuids version) from to width layer net stamp))

pub track_good : (room : ℕ) (uuids : Bool) (from to : Point) (width : ℕ) (layer : List ℕ) (net : ℕ) (stamp : List ℕ) → 0 < room → IsPointInRange from → IsPointInRange to → IsSize width
    → IsName layer → IsWholeNumber net → IsName stamp → IsTextSpelling room (track_spelt uuids from to width layer net stamp)
track_good room uuids from to width layer net stamp l f t w y n s =
    list_good room (codes "segment") (track_values uuids from to width layer net stamp) (omega arith) refl (
      (l, point_good (room - 1) (codes "start") from (omega arith) refl f),
      (
        (l, point_good (room - 1) (codes "end") to (omega arith) refl t),
        (
          (l, length_good (room - 1) (codes "width") width (omega arith) refl w),
          (
            (l, list_good (room - 1) (codes "layer") (Text layer ∷ []) (omega arith) refl (name_text layer y (room - 1), tt)),
            (
              (l, whole_good (room - 1) (codes "net") net (omega arith) refl n),
              (
                (l, stamp_good uuids stamp (room - 1) s),
                tt,
              ),
            ),
          ),
        ),
      ),
    )

pub track_stamp : (uuids : Bool) (from to : Point) (width : ℕ) (layer : List ℕ) (net : ℕ) (stamp : List ℕ) → IsName stamp
    → stamp_seen (list_seen (contents (track_spelt uuids from to width layer net stamp))) ≡ Some stamp
track_stamp true from to width layer net stamp h = ap Some (named_same stamp (name_bytes stamp h))
track_stamp false from to width layer net stamp h = refl

-- ---- vias

abbrev via_values : Bool → Point → ℕ → ℕ → List ℕ → List ℕ → ℕ → List ℕ → List Value
via_values uuids at size drill top bottom net stamp =
    Lists (point_spelt (codes "at") at) ∷ Lists (length_spelt (codes "size") size) ∷ Lists (length_spelt (codes "drill") drill) ∷ Lists (list_spelt (codes "layers") (Text top ∷ Text bottom ∷ []))
    ∷ Lists (list_spelt (codes "net") (Word (decimal net) ∷ [])) ∷ Lists (stamp_spelt uuids stamp) ∷ []

-- inside the list of a new via
abbrev pub via_spelt : Bool → Point → ℕ → ℕ → List ℕ → List ℕ → ℕ → List ℕ → Spelling
via_spelt uuids at size drill top bottom net stamp = list_spelt (codes "via") (via_values uuids at size drill top bottom net stamp)

pub via_is : (version : ℕ) (at : Point) (size drill : ℕ) (top bottom : List ℕ) (net : ℕ) (stamp : List ℕ)
    → via_line version at size drill top bottom net stamp ≡ codes "  " ++ (value_bytes (Lists (via_spelt (has_uuids version) at size drill top bottom net stamp)) ++ codes "\n")
unfolding via_line
via_is version at size drill top bottom net stamp =
    ap (λ z. codes "  " ++ (list_text (codes "via") z ++ codes "\n"))
    (also (list_is (codes "at") (Word (mm_of at.x) ∷ Word (mm_of at.y) ∷ [])) (also (list_is (codes "size") (Word (mm_of (pos size)) ∷ []))
    (also (list_is (codes "drill") (Word (mm_of (pos drill)) ∷ [])) (also (list_is (codes "layers") (Text top ∷ Text bottom ∷ [])) (also (list_is (codes "net") (Word (decimal net) ∷ []))
    (also (stamp_kind (has_uuids version) stamp) refl))))))
    ∙ ap (λ z. codes "  " ++ (z ++ codes "\n")) (list_is (codes "via") (via_values (has_uuids version) at size drill top bottom net stamp))

pub via_good : (room : ℕ) (uuids : Bool) (at : Point) (size drill : ℕ) (top bottom : List ℕ) (net : ℕ) (stamp : List ℕ) → 0 < room → IsPointInRange at → IsSize size → IsSize drill
    → IsName top → IsName bottom → IsWholeNumber net → IsName stamp → IsTextSpelling room (via_spelt uuids at size drill top bottom net stamp)
via_good room uuids at size drill top bottom net stamp l p z w t y n s =
    list_good room (codes "via") (via_values uuids at size drill top bottom net stamp) (omega arith) refl (
      (l, point_good (room - 1) (codes "at") at (omega arith) refl p),
      (
        (l, length_good (room - 1) (codes "size") size (omega arith) refl z),
        (
          (l, length_good (room - 1) (codes "drill") drill (omega arith) refl w),
          (
            (l, list_good (room - 1) (codes "layers") (Text top ∷ Text bottom ∷ []) (omega arith) refl (name_text top t (room - 1), (name_text bottom y (room - 1), tt))),
            (
              (l, whole_good (room - 1) (codes "net") net (omega arith) refl n),
              (
                (l, stamp_good uuids stamp (room - 1) s),
                tt,
              ),
            ),
          ),
        ),
      ),
    )

pub via_stamp : (uuids : Bool) (at : Point) (size drill : ℕ) (top bottom : List ℕ) (net : ℕ) (stamp : List ℕ) → IsName stamp
    → stamp_seen (list_seen (contents (via_spelt uuids at size drill top bottom net stamp))) ≡ Some stamp
via_stamp true at size drill top bottom net stamp h = ap Some (named_same stamp (name_bytes stamp h))
via_stamp false at size drill top bottom net stamp h = refl
