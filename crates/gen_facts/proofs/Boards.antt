-- The text of a board that is made is that of a layout.
use Rattle.std.proofs.Common.{◌≡◌, ◌∙◌, refl, ap, sym, ℕ, suc, ◌+◌, ◌-◌, ◌*◌, ◌^◌, ◌<◌, ◌≤◌, Bool, true, false, List, [], ◌∷◌, ◌++◌, length, codes, decimal, arith, append_assoc}
use Rattle.std.specs.Prelude.{pos}
use Rattle.grid_num.specs.Written.{mm_of}
use Rattle.board_gen.specs.Generated.{rows_text, opening_lines, front_text, back_text, settings_text, zone_text, generated}
use Rattle.text_shapes.specs.Layouts.{Layout, render, is_good, is_plain_word}
use Rattle.text_shapes.specs.Layouts.Layout.{End, Name, Listed}
use Rattle.gen_facts.proofs.Numbers.{stamp_of, stamp_plain}
use Rattle.text_shapes.proofs.Numbers.{mm_plain}
use Rattle.gen_facts.proofs.Lines.{lone, via_line, track_line, zone_line, layers_line, net_line}
use Rattle.gen_facts.proofs.CopperKind.{net_text}
use Rattle.gen_facts.proofs.Entries.{Entry, entry_text, entries_text, IsPlaced, ArePlaced}
use Rattle.gen_facts.proofs.Entries.Entry.{ViaAt, TrackAt}

abbrev pub mm : ℕ → List ℕ
mm n = mm_of (pos n)

-- ---- vias and tracks

abbrev pub entry_line : Entry → ℕ → Layout
entry_line (ViaAt second x y) i = via_line (net_text second) (mm x) (mm y) (stamp_of i)
entry_line (TrackAt x y) i = track_line (mm (x - 500000)) (mm y) (mm (x + 500000)) (mm (y + 250000)) (stamp_of i)

abbrev pub entries_layout : ℕ → List Entry → Layout → Layout
entries_layout i [] rest = rest
entries_layout i (e ∷ es) rest = Listed (codes "\n  ") (entry_line e i) (entries_layout (suc i) es rest)

via_words : (net x y d t : List ℕ)
    → (codes "  (via (at " ++ ((x ++ (codes " " ++ y)) ++ (codes ") (size 0.6) (drill 0.3) (layers \"F.Cu\" \"B.Cu\") (net " ++ (net ++ (codes ")" ++ (codes " (tstamp g" ++ (d ++ codes "))\n"))))))) ++ t
    ≡ 32 ∷ 32 ∷ 40 ∷ render (via_line net x y (103 ∷ d)) (41 ∷ 10 ∷ t)
via_words net x y d t =
    let z : List ℕ = codes ")" ++ (codes " (tstamp g" ++ (d ++ codes "))\n")) in
    let q : List ℕ = codes ") (size 0.6) (drill 0.3) (layers \"F.Cu\" \"B.Cu\") (net " ++ (net ++ (codes ")" ++ (codes " (tstamp g" ++ (d ++ codes "))\n")))) in
    ap (λ r. codes "  (via (at " ++ r) (
    append_assoc (x ++ (codes " " ++ y)) q t
    ∙ append_assoc x (codes " " ++ y) (q ++ t)
    ∙ ap (λ r. x ++ (codes " " ++ (y ++ (codes ") (size 0.6) (drill 0.3) (layers \"F.Cu\" \"B.Cu\") (net " ++ r)))) (
    append_assoc net z t ∙ ap (λ r. net ++ (codes ")" ++ (codes " (tstamp g" ++ r))) (append_assoc d (codes "))\n") t)))

track_words : (a b c e d t : List ℕ)
    → (codes "  (segment (start " ++ ((a ++ (codes " " ++ b)) ++ (codes ") (end " ++ ((c ++ (codes " " ++ e)) ++ (codes ") (width 0.25) (layer \"F.Cu\") (net 2)" ++ (codes " (tstamp g" ++ (d ++ codes "))\n"))))))) ++ t
    ≡ 32 ∷ 32 ∷ 40 ∷ render (track_line a b c e (103 ∷ d)) (41 ∷ 10 ∷ t)
track_words a b c e d t =
    let z : List ℕ = codes ") (width 0.25) (layer \"F.Cu\") (net 2)" ++ (codes " (tstamp g" ++ (d ++ codes "))\n")) in
    let q : List ℕ = codes ") (end " ++ ((c ++ (codes " " ++ e)) ++ (codes ") (width 0.25) (layer \"F.Cu\") (net 2)" ++ (codes " (tstamp g" ++ (d ++ codes "))\n")))) in
    ap (λ r. codes "  (segment (start " ++ r) (
    append_assoc (a ++ (codes " " ++ b)) q t
    ∙ append_assoc a (codes " " ++ b) (q ++ t)
    ∙ ap (λ r. a ++ (codes " " ++ (b ++ (codes ") (end " ++ r)))) (
    append_assoc (c ++ (codes " " ++ e)) z t
    ∙ append_assoc c (codes " " ++ e) (z ++ t)
    ∙ ap (λ r. c ++ (codes " " ++ (e ++ (codes ") (width 0.25) (layer \"F.Cu\") (net 2)" ++ (codes " (tstamp g" ++ r))))) (append_assoc d (codes "))\n") t)))

entry_is : (e : Entry) (i : ℕ) (t : List ℕ) → entry_text e i ++ t ≡ 32 ∷ 32 ∷ 40 ∷ render (entry_line e i) (41 ∷ 10 ∷ t)
entry_is (ViaAt second x y) i t = via_words (net_text second) (mm x) (mm y) (decimal i) t
entry_is (TrackAt x y) i t = track_words (mm (x - 500000)) (mm y) (mm (x + 500000)) (mm (y + 250000)) (decimal i) t

-- their lines, and what stands behind them
entries_are : (es : List Entry) (i : ℕ) (rest : Layout) (tail more : List ℕ) → render rest tail ≡ 10 ∷ more → render (entries_layout i es rest) tail ≡ 10 ∷ (entries_text i es ++ more)
entries_are [] i rest tail more h = h
entries_are (e ∷ es) i rest tail more h =
    ap (λ r. 10 ∷ 32 ∷ 32 ∷ 40 ∷ render (entry_line e i) (41 ∷ r)) (entries_are es (suc i) rest tail more h)
    ∙ ap (λ r. 10 ∷ r) (sym (entry_is e i (entries_text (suc i) es ++ more)) ∙ sym (append_assoc (entry_text e i) (entries_text (suc i) es) more))

-- ---- the zones

square_words : (m t : List ℕ)
    → (m ++ (codes " 0) (xy " ++ ((m ++ (codes " " ++ m)) ++ (codes ") (xy 0 " ++ (m ++ codes ")))\n  )\n"))))) ++ t
    ≡ m ++ (codes " 0) (xy " ++ (m ++ (codes " " ++ (m ++ (codes ") (xy 0 " ++ (m ++ (codes ")))\n  )\n" ++ t)))))))
square_words m t =
    let f : List ℕ = codes ")))\n  )\n" in
    let z : List ℕ = codes ") (xy 0 " ++ (m ++ codes ")))\n  )\n") in
    let q : List ℕ = codes " 0) (xy " ++ ((m ++ (codes " " ++ m)) ++ (codes ") (xy 0 " ++ (m ++ codes ")))\n  )\n"))) in
    append_assoc m q t
    ∙ ap (λ r. m ++ (codes " 0) (xy " ++ r)) (
    append_assoc (m ++ (codes " " ++ m)) z t
    ∙ append_assoc m (codes " " ++ m) (z ++ t)
    ∙ ap (λ r. m ++ (codes " " ++ (m ++ (codes ") (xy 0 " ++ r)))) (append_assoc m f t))

abbrev pub front_line : ℕ → Layout
front_line e = zone_line (codes "1") (codes "GND") (codes "F.Cu") (codes "zf") (mm e)

abbrev pub back_line : ℕ → Layout
back_line e = zone_line (codes "2") (codes "VCC") (codes "B.Cu") (codes "zb") (mm e)

front_is : (size : ℕ) (t : List ℕ) → zone_text front_text size ++ t ≡ 32 ∷ 32 ∷ 40 ∷ render (front_line (2000000 * size)) (41 ∷ 10 ∷ t)
front_is size t = ap (λ r. front_text ++ (settings_text ++ r)) (square_words (mm (2000000 * size)) t)

back_is : (size : ℕ) (t : List ℕ) → zone_text back_text size ++ t ≡ 32 ∷ 32 ∷ 40 ∷ render (back_line (2000000 * size)) (41 ∷ 10 ∷ t)
back_is size t = ap (λ r. back_text ++ (settings_text ++ r)) (square_words (mm (2000000 * size)) t)

abbrev pub zones_layout : ℕ → Layout
zones_layout e = Listed (codes "\n  ") (front_line e) (Listed (codes "\n  ") (back_line e) (End (codes "\n")))

zones_are : (size : ℕ) → render (zones_layout (2000000 * size)) (codes ")\n") ≡ 10 ∷ ((zone_text front_text size ++ zone_text back_text size) ++ codes ")\n")
zones_are size =
    ap (λ r. 10 ∷ 32 ∷ 32 ∷ 40 ∷ render (front_line (2000000 * size)) (41 ∷ 10 ∷ r)) (sym (back_is size (codes ")\n")))
    ∙ ap (λ r. 10 ∷ r) (sym (front_is size (zone_text back_text size ++ codes ")\n")) ∙ sym (append_assoc (zone_text front_text size) (zone_text back_text size) (codes ")\n")))

-- ---- the whole

abbrev pub head_layout : Layout → Layout
head_layout rest =
    Name [] (codes "kicad_pcb")
    (lone (codes "version") (codes "20221018")
    (lone (codes "generator") (codes "zonefill")
    (Listed (codes "\n  ") layers_line
    (Listed (codes "\n  ") (net_line (codes "0") [])
    (Listed (codes "\n  ") (net_line (codes "1") (codes "GND"))
    (Listed (codes "\n  ") (net_line (codes "2") (codes "VCC")) rest))))))

-- of the entries and the width of the zones
abbrev pub board_layout : List Entry → ℕ → Layout
board_layout es e = Listed [] (head_layout (entries_layout 1 es (zones_layout e))) (End (codes "\n"))

head_is : (rest : Layout) (tail more : List ℕ) → render rest tail ≡ 10 ∷ more → 40 ∷ render (head_layout rest) tail ≡ opening_lines ++ more
head_is rest tail more h =
    ap (λ r. codes "(kicad_pcb (version 20221018) (generator zonefill)\n  (layers (0 \"F.Cu\" signal) (31 \"B.Cu\" signal))\n  (net 0 \"\")\n  (net 1 \"GND\")\n  (net 2 \"VCC\")" ++ r) h

pub generated_is : (seed size : ℕ) (es : List Entry) → rows_text size 0 seed 1 size ≡ entries_text 1 es → generated seed size ≡ render (board_layout es (2000000 * size)) []
generated_is seed size es h =
    ap (λ r. opening_lines ++ (r ++ ((zone_text front_text size ++ zone_text back_text size) ++ codes ")\n"))) h
    ∙ sym (head_is (entries_layout 1 es (zones_layout (2000000 * size))) (codes ")\n") (entries_text 1 es ++ ((zone_text front_text size ++ zone_text back_text size) ++ codes ")\n"))
    (entries_are es 1 (zones_layout (2000000 * size)) (codes ")\n") ((zone_text front_text size ++ zone_text back_text size) ++ codes ")\n") (zones_are size)))

-- ---- it is well put together

via_good : (net x y stamp : List ℕ) → is_plain_word net ≡ true → is_plain_word x ≡ true → is_plain_word y ≡ true → is_plain_word stamp ≡ true → is_good 62 (via_line net x y stamp) ≡ true
via_good net x y stamp a b c d = rw (a, b, c, d) refl

track_good : (a b c e stamp : List ℕ) → is_plain_word a ≡ true → is_plain_word b ≡ true → is_plain_word c ≡ true → is_plain_word e ≡ true → is_plain_word stamp ≡ true
    → is_good 62 (track_line a b c e stamp) ≡ true
track_good a b c e stamp p q r s t = rw (p, q, r, s, t) refl

net_good : (second : Bool) → is_plain_word (net_text second) ≡ true
net_good true = refl
net_good false = refl

entry_good : (e : Entry) (i : ℕ) → IsPlaced e → i < 2 ^ 64 → is_good 62 (entry_line e i) ≡ true
entry_good (ViaAt second x y) i p l =
    via_good (net_text second) (mm x) (mm y) (stamp_of i) (net_good second) (mm_plain x (omega (arith, p.across))) (mm_plain y (omega (arith, p.down))) (stamp_plain i l)
entry_good (TrackAt x y) i p l =
    track_good (mm (x - 500000)) (mm y) (mm (x + 500000)) (mm (y + 250000)) (stamp_of i) (mm_plain (x - 500000) (omega (arith, p.across))) (mm_plain y (omega (arith, p.down)))
    (mm_plain (x + 500000) (omega (arith, p.across))) (mm_plain (y + 250000) (omega (arith, p.down))) (stamp_plain i l)

listed_good : (inner rest : Layout) → is_good 62 inner ≡ true → is_good 63 rest ≡ true → is_good 63 (Listed (codes "\n  ") inner rest) ≡ true
listed_good inner rest a b = rw (a, b) refl

entries_good : (es : List Entry) (i : ℕ) (rest : Layout) → ArePlaced es → i + length es < 2 ^ 64 → is_good 63 rest ≡ true → is_good 63 (entries_layout i es rest) ≡ true
entries_good [] i rest p l h = h
entries_good (e ∷ es) i rest p l h =
    listed_good (entry_line e i) (entries_layout (suc i) es rest) (entry_good e i p.0 (omega (arith, l))) (entries_good es (suc i) rest p.1 (omega (arith, l)) h)

front_good : (m : List ℕ) → is_plain_word m ≡ true → is_good 62 (zone_line (codes "1") (codes "GND") (codes "F.Cu") (codes "zf") m) ≡ true
front_good m h = rw h refl

back_good : (m : List ℕ) → is_plain_word m ≡ true → is_good 62 (zone_line (codes "2") (codes "VCC") (codes "B.Cu") (codes "zb") m) ≡ true
back_good m h = rw h refl

zones_good : (e : ℕ) → e ≤ 500000000 → is_good 63 (zones_layout e) ≡ true
zones_good e l =
    listed_good (front_line e) (Listed (codes "\n  ") (back_line e) (End (codes "\n"))) (front_good (mm e) (mm_plain e l))
    (listed_good (back_line e) (End (codes "\n")) (back_good (mm e) (mm_plain e l)) refl)

head_good : (rest : Layout) → is_good 63 rest ≡ true → is_good 64 (Listed [] (head_layout rest) (End (codes "\n"))) ≡ true
head_good rest h = rw h refl

pub board_good : (es : List Entry) (e : ℕ) → ArePlaced es → length es ≤ 40000 → e ≤ 500000000 → is_good 64 (board_layout es e) ≡ true
board_good es e p l m = head_good (entries_layout 1 es (zones_layout e)) (entries_good es 1 (zones_layout e) p (omega (arith, l)) (zones_good e m))
