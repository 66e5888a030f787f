-- Bytes that leave a reader where it stands in a list.
use Rattle.std.proofs.Common.{◌≡◌, ◌∙◌, refl, ap, sym, subst, ℕ, suc, ◌+◌, ◌≤◌, ◌<◌, true, false, ◌==◌, cond, List, [], ◌∷◌, ◌++◌, length, take, arith, length-append, append_assoc}
use Rattle.std.specs.List.{list_all}
use Rattle.std.proofs.lemmas.Bool.{and_parts}
use Rattle.std.proofs.lemmas.List.{append-nil}
use Rattle.std.proofs.Math.Seq.{take-append_seam}
use Rattle.std.specs.Str.{IsUtf8}
use Rattle.text_splices.specs.Splice.{IsSplice}
use Rattle.sexpr_text.specs.Grammar.{Forest, Spelt, is_word}
use Rattle.sexpr_text.specs.Inner.Spot.{TextSpot, step, text_spot, closed}
use Rattle.sexpr_text.specs.Inner.Spot.TextSpot.{Inside, Quoted, Behind}
use Rattle.sexpr_text.specs.Inner.Cut.{lead, cuts}
use Rattle.sexpr_text.specs.Inner.Cut.Cut.{Full}
use Rattle.sexpr_text.specs.Faults.{IsUtf8Front}
use Rattle.sexpr_text.proofs.Spots.{word_inside, spelt_behind}
use Rattle.sexpr_text.proofs.Finish.{run, spot_local, spot_run}
use Rattle.sexpr_text.proofs.Cuts.{lead1}
use Rattle.sexpr_text.proofs.CutLaws.{cuts-append, utf8_whole}
use Rattle.sexpr_text.proofs.CutExact.{utf8_front}
use Rattle.sexpr_text.proofs.Fronts.{behind_tree}
use Rattle.edit_language.specs.Forms.{is_name_byte}
use Rattle.edit_language.specs.Splices.{values_text, list_text, between_quotes}

-- read inside a list with so much room, the bytes lead back there, and they are whole characters
pub record IsSteady (room : ℕ) (bytes : List ℕ) : Type 0 where
  pub spot : run (Inside room) bytes ≡ Inside room
  pub cut : cuts Full bytes ≡ Full

run-append : (xs ys : List ℕ) (s : TextSpot) → run s (xs ++ ys) ≡ run (run s xs) ys
unfolding run
run-append [] ys s = refl
run-append (x ∷ xs) ys s = run-append xs ys (step s x)

pub steady_both : (room : ℕ) (xs ys : List ℕ) → IsSteady room xs → IsSteady room ys → IsSteady room (xs ++ ys)
steady_both room xs ys a b = record {
  spot = run-append xs ys (Inside room) ∙ ap (λ s. run s ys) a.spot ∙ b.spot;
  cut = cuts-append xs ys Full ∙ ap (λ s. cuts s ys) a.cut ∙ b.cut;
}

pub steady_nothing : (room : ℕ) → IsSteady room []
unfolding run cuts
steady_nothing room = record { spot = refl; cut = refl }

pub steady_space : (room : ℕ) → IsSteady room (32 ∷ [])
unfolding run cuts
steady_space room = record { spot = refl; cut = refl }

pub steady_line_end : (room : ℕ) → IsSteady room (10 ∷ [])
unfolding run cuts
steady_line_end room = record { spot = refl; cut = refl }

-- ---- names, numbers

name_small : (c : ℕ) → is_name_byte c ≡ true → c < 128
name_small c h = grind (arith, h)

name_no_quote : (c : ℕ) → is_name_byte c ≡ true → (c == 34) ≡ false
name_no_quote c h = grind (arith, h)

name_no_slash : (c : ℕ) → is_name_byte c ≡ true → (c == 92) ≡ false
name_no_slash c h = grind (arith, h)

name_not_32 : (c : ℕ) → is_name_byte c ≡ true → (c == 32) ≡ false
name_not_32 c h = grind (arith, h)

name_not_9 : (c : ℕ) → is_name_byte c ≡ true → (c == 9) ≡ false
name_not_9 c h = grind (arith, h)

name_not_13 : (c : ℕ) → is_name_byte c ≡ true → (c == 13) ≡ false
name_not_13 c h = grind (arith, h)

name_not_10 : (c : ℕ) → is_name_byte c ≡ true → (c == 10) ≡ false
name_not_10 c h = grind (arith, h)

name_not_40 : (c : ℕ) → is_name_byte c ≡ true → (c == 40) ≡ false
name_not_40 c h = grind (arith, h)

name_not_41 : (c : ℕ) → is_name_byte c ≡ true → (c == 41) ≡ false
name_not_41 c h = grind (arith, h)

name_word : (c : ℕ) → is_name_byte c ≡ true → is_word c ≡ true
name_word c h = rw (name_not_32 c h, name_not_9 c h, name_not_13 c h, name_not_10 c h, name_not_40 c h, name_not_41 c h, name_no_quote c h) refl

lead_small : (c : ℕ) → c < 128 → lead c ≡ Full
lead_small c h = lead1 c h

-- letters, digits, points, minuses and underscores
abbrev pub IsNamed : List ℕ → Type 0
IsNamed bytes = list_all is_name_byte bytes ≡ true

pub steady_name : (room : ℕ) (bytes : List ℕ) → IsNamed bytes → IsSteady room bytes
unfolding run cuts
steady_name room [] h = record { spot = refl; cut = refl }
steady_name room (c ∷ bytes) h =
    let p = and_parts (is_name_byte c) (list_all is_name_byte bytes) h in
    let more = steady_name room bytes p.1 in
    record {
      spot = ap (λ s. run s bytes) (word_inside room c (name_word c p.0)) ∙ more.spot;
      cut = ap (λ s. cuts s bytes) (lead_small c (name_small c p.0)) ∙ more.cut;
    }

in_quotes : (room : ℕ) (bytes : List ℕ) → IsNamed bytes → run (Quoted room false) (bytes ++ 34 ∷ []) ≡ Inside room
unfolding run
in_quotes room [] h = refl
in_quotes room (c ∷ bytes) h =
    let p = and_parts (is_name_byte c) (list_all is_name_byte bytes) h in
    ap (λ b. run (cond b (Inside room) (Quoted room (c == 92))) (bytes ++ 34 ∷ [])) (name_no_quote c p.0)
    ∙ ap (λ b. run (Quoted room b) (bytes ++ 34 ∷ [])) (name_no_slash c p.0)
    ∙ in_quotes room bytes p.1

quote_cut : cuts Full (34 ∷ []) ≡ Full
unfolding cuts
quote_cut = refl

pub steady_quoted : (room : ℕ) (bytes : List ℕ) → IsNamed bytes → IsSteady room (between_quotes bytes)
unfolding run cuts
steady_quoted room bytes h =
    record { spot = in_quotes room bytes h; cut = cuts-append bytes (34 ∷ []) Full ∙ ap (λ s. cuts s (34 ∷ [])) (steady_name room bytes h).cut }

-- ---- lists

abbrev pub AreSteady : ℕ → List (List ℕ) → Type 0
AreSteady room [] = Unit {0}
AreSteady room (value ∷ values) = IsSteady room value × AreSteady room values

steady_values : (room : ℕ) (values : List (List ℕ)) → AreSteady room values → IsSteady room (values_text values)
unfolding values_text
steady_values room [] h = steady_nothing room
steady_values room (value ∷ values) h = steady_both room (32 ∷ []) (value ++ values_text values) (steady_space room) (steady_both room value (values_text values) h.0 (steady_values room values h.1))

closing : (room : ℕ) → room < 63 → closed room ≡ Inside (suc room)
closing room h =
    let e : (room == 63) ≡ false = grind (arith, h) in
    ap (λ b. cond b Behind (Inside (room + 1))) e ∙ ap (λ k. Inside k) (omega arith)

pub steady_list : (room : ℕ) (name : List ℕ) (values : List (List ℕ)) → room < 63 → IsNamed name → AreSteady room values → IsSteady (suc room) (list_text name values)
unfolding run cuts list_text
steady_list room name values low n v =
    let inner : IsSteady room (name ++ values_text values) = steady_both room name (values_text values) (steady_name room name n) (steady_values room values v) in
    let e : name ++ (values_text values ++ 41 ∷ []) ≡ (name ++ values_text values) ++ 41 ∷ [] = sym (append_assoc name (values_text values) (41 ∷ [])) in
    record {
      spot = ap (run (Inside room)) e ∙ run-append (name ++ values_text values) (41 ∷ []) (Inside room) ∙ ap (λ s. run s (41 ∷ [])) inner.spot ∙ closing room low;
      cut = ap (cuts Full) e ∙ cuts-append (name ++ values_text values) (41 ∷ []) Full ∙ ap (λ s. cuts s (41 ∷ [])) inner.cut;
    }

-- ---- a text with a splice

-- a place in a list with so much room, outside strings and between characters
pub record IsPlaceIn (text : List ℕ) (room n : ℕ) : Type 0 where
  pub within : n ≤ length text
  pub spot : text_spot text n ≡ Inside room
  pub cut : cuts Full (take n text) ≡ Full

front_spot : (text front behind : List ℕ) (n : ℕ) → text ≡ front ++ behind → length front ≡ n → text_spot text n ≡ text_spot front (length front)
front_spot text front behind n e l = ap (λ t. text_spot t n) e ∙ ap (text_spot (front ++ behind)) (sym l) ∙ spot_local front behind (length front) (omega arith)

front_cut : (text front behind : List ℕ) (n : ℕ) → text ≡ front ++ behind → length front ≡ n → take n text ≡ front
front_cut text front behind n e l = ap (take n) e ∙ ap (λ k. take k (front ++ behind)) (sym l) ∙ take-append_seam front behind

pub spliced_spells : (text new put : List ℕ) (room from to : ℕ) (tree : Forest) → Spelt text tree → IsPlaceIn text room from → IsPlaceIn text room to → IsSteady room put
    → IsSplice text from to put new → (other : Forest) × Spelt new other
spliced_spells text new put room from to tree s a b p h =
    let whole : text ≡ (h.front ++ h.out) ++ h.tail = h.text_is ∙ sym (append_assoc h.front h.out h.tail) in
    let fresh : new ≡ (h.front ++ put) ++ h.tail = h.new_is ∙ sym (append_assoc h.front put h.tail) in
    let l : length (h.front ++ h.out) ≡ to = length-append h.front h.out ∙ ap (λ k. k + length h.out) h.from_is ∙ h.to_is in
    let start : text_spot h.front (length h.front) ≡ Inside room = sym (front_spot text h.front (h.out ++ h.tail) from h.text_is h.from_is) ∙ a.spot in
    let end : text_spot (h.front ++ h.out) (length (h.front ++ h.out)) ≡ Inside room = sym (front_spot text (h.front ++ h.out) h.tail to whole l) ∙ b.spot in
    let last : run (Inside room) h.tail ≡ Behind =
    ap (λ q. run q h.tail) (sym end) ∙ sym (spot_run h.tail (h.front ++ h.out)) ∙ ap (λ t. text_spot t (length t)) (sym whole) ∙ spelt_behind text tree s in
    let mid : text_spot (h.front ++ put) (length (h.front ++ put)) ≡ Inside room = spot_run put h.front ∙ ap (λ q. run q put) start ∙ p.spot in
    let done : text_spot new (length new) ≡ Behind = ap (λ t. text_spot t (length t)) fresh ∙ spot_run h.tail (h.front ++ put) ∙ ap (λ q. run q h.tail) mid ∙ last in
    let first : cuts Full h.front ≡ Full = ap (cuts Full) (sym (front_cut text h.front (h.out ++ h.tail) from h.text_is h.from_is)) ∙ a.cut in
    let second : cuts Full (h.front ++ h.out) ≡ Full = ap (cuts Full) (sym (front_cut text (h.front ++ h.out) h.tail to whole l)) ∙ b.cut in
    let old : cuts Full text ≡ cuts Full h.tail = ap (cuts Full) whole ∙ cuts-append (h.front ++ h.out) h.tail Full ∙ ap (λ q. cuts q h.tail) second in
    let now : cuts Full new ≡ cuts Full h.tail =
    ap (cuts Full) fresh ∙ cuts-append (h.front ++ put) h.tail Full ∙ ap (λ q. cuts q h.tail) (cuts-append h.front put Full ∙ ap (λ q. cuts q put) first ∙ p.cut) in
    behind_tree new (utf8_front new (λ e. utf8_whole text (front_of text s.utf8) (old ∙ sym now ∙ e))) done
  where
    front_of : (t : List ℕ) → IsUtf8 t → IsUtf8Front t
    front_of t u = ([], subst IsUtf8 (sym (append-nil t)) u)
