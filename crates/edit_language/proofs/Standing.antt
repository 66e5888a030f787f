-- Where a reader stands at the lists of a text.
use Rattle.std.proofs.Common.{◌≡◌, ◌∙◌, refl, ap, sym, subst, ℕ, zero, suc, ◌+◌, ◌-◌, ◌≤◌, ◌<◌, ◌⊎◌, inl, inr, Bool, true, false, ◌==◌, ◌&&◌, cond, List, [], ◌∷◌, ◌++◌, length, take, drop, slice_index, arith, add-one, take-suc}
use Rattle.std.specs.Prelude.{nat_le, nat_lt, if◌then◌else◌}
use Rattle.std.specs.Str.{IsUtf8}
use Rattle.std.proofs.Math.Seq.{drop-cons}
use Rattle.std.proofs.lemmas.Bool.{false≢true}
use Rattle.std.proofs.lemmas.List.{append-nil, take-append-drop}
use Rattle.classes.specs.Classes.{IsOneOf}
use Rattle.sexpr_text.specs.Grammar.{Forest, Items, IsBracket, is_space}
use Rattle.sexpr_text.specs.Grammar.Forest.{Nil, Word, Text, Group}
use Rattle.sexpr_text.specs.Items.{Item, items_of, is_headed}
use Rattle.sexpr_text.specs.Trees.{IsRoot}
use Rattle.sexpr_text.specs.declared.NodeKind.{NodeKind}
use Rattle.sexpr_text.specs.declared.NodeKind.TheVariants as kinds
use Rattle.sexpr_text.specs.Inner.Spot.{TextSpot, step, text_spot}
use Rattle.sexpr_text.specs.Inner.Spot.TextSpot.{Before, Inside, Quoted, Behind, Lost}
use Rattle.sexpr_text.specs.Inner.Cut.{Cut, lead, cut_step, follows, cuts}
use Rattle.sexpr_text.specs.Inner.Cut.Cut.{Full, Next, Broken}
use Rattle.sexpr_text.proofs.Spots.{next, stays, other_than, space_before, space_inside, space_behind, white_inside, word_over, string_over, opened_some, closed_some, items_over}
use Rattle.sexpr_text.proofs.Cuts.{lead1}
use Rattle.sexpr_text.proofs.CutLaws.{cuts-append, broken_on, utf8_whole}
use Rattle.board_text.specs.Items.{solid_end}
use Rattle.edit_language.proofs.Steady.{IsPlaceIn}

-- ---- between characters

-- the next byte of a cut character is no ASCII
abbrev HasHigh : Cut → Type 0
HasHigh Full = Unit {0}
HasHigh (Next low high left) = 128 ≤ low
HasHigh Broken = Unit {0}

high_cond : (b : Bool) (s t : Cut) → HasHigh s → HasHigh t → HasHigh (cond b s t)
high_cond true s t h i = h
high_cond false s t h i = i

high_follows : (left : ℕ) → HasHigh (follows left)
high_follows zero = tt
high_follows (suc left) = omega arith

high_lead : (c : ℕ) → HasHigh (lead c)
high_lead c =
    high_cond (nat_lt c 128) Full _ tt (high_cond (nat_lt c 194) Broken _ tt (high_cond (nat_lt c 224) (Next 128 191 0) _ (omega arith) (high_cond (c == 224) (Next 160 191 1) _ (omega arith)
    (high_cond (c == 237) (Next 128 159 1) _ (omega arith) (high_cond (nat_lt c 240) (Next 128 191 1) _ (omega arith) (high_cond (c == 240) (Next 144 191 2) _ (omega arith)
    (high_cond (nat_lt c 244) (Next 128 191 2) _ (omega arith) (high_cond (c == 244) (Next 128 143 2) Broken (omega arith) tt))))))))

high_step : (s : Cut) (c : ℕ) → HasHigh s → HasHigh (cut_step s c)
high_step Full c h = high_lead c
high_step (Next low high left) c h = high_cond (nat_le low c && nat_le c high) (follows left) Broken (high_follows left) tt
high_step Broken c h = tt

high_cuts : (bytes : List ℕ) (s : Cut) → HasHigh s → HasHigh (cuts s bytes)
unfolding cuts
high_cuts [] s h = h
high_cuts (c ∷ bytes) s h = high_cuts bytes (cut_step s c) (high_step s c h)

-- an ASCII byte stands between characters, or breaks one
before_small : (s : Cut) (c : ℕ) → HasHigh s → c < 128 → (s ≡ Full) ⊎ (cut_step s c ≡ Broken)
before_small Full c h l = inl refl
before_small Broken c h l = inr refl
before_small (Next low high left) c h l =
    let e : nat_le low c ≡ false = grind (arith, h, l) in
    inr (ap (λ b. cond (b && nat_le c high) (follows left) Broken) e)

one_byte : (text : List ℕ) (n : ℕ) → n < length text → text ≡ take n text ++ (slice_index text n ∷ drop (suc n) text)
one_byte text n l = sym (take-append-drop n text) ∙ ap (λ t. take n text ++ t) (drop-cons text n 0 l)

not_broken : (text : List ℕ) → IsUtf8 text → cuts Full text ≡ Broken → ⊥
not_broken text u e = utf8_whole text ([], subst IsUtf8 (sym (append-nil text)) u) e

cuts_next : (s : Cut) (c : ℕ) (more : List ℕ) → cuts s (c ∷ more) ≡ cuts (cut_step s c) more
unfolding cuts
cuts_next s c more = refl

pub clean : (text : List ℕ) (n c : ℕ) → IsUtf8 text → n < length text → slice_index text n ≡ c → c < 128 → cuts Full (take n text) ≡ Full
clean text n c u l e small = elim (before_small (cuts Full (take n text)) (slice_index text n) (high_cuts (take n text) Full tt) (omega (arith, e, small))) [
  | inl f ↦ f
  | inr b ↦ absurd (not_broken text u (
      ap (cuts Full) (one_byte text n l) ∙ cuts-append (take n text) (slice_index text n ∷ drop (suc n) text) Full
      ∙ cuts_next (cuts Full (take n text)) (slice_index text n) (drop (suc n) text)
      ∙ ap (λ s. cuts s (drop (suc n) text)) b ∙ broken_on (drop (suc n) text)))
]

clean_next : (text : List ℕ) (n c : ℕ) → cuts Full (take n text) ≡ Full → n < length text → slice_index text n ≡ c → c < 128 → cuts Full (take (n + 1) text) ≡ Full
unfolding cuts
clean_next text n c f l e small =
    ap (cuts Full) (ap (λ k. take k text) (add-one n) ∙ take-suc text n 0 l)
    ∙ cuts-append (take n text) (slice_index text n ∷ []) Full
    ∙ ap (λ s. cuts s (slice_index text n ∷ [])) f
    ∙ ap lead e ∙ lead1 c small

-- ---- lists

-- a list stands whole among the items of a list with so much room
pub record IsListIn (text : List ℕ) (room : ℕ) (item : Item) : Type 0 where
  pub bracket : IsBracket text room item.from item.to
  pub inner : Items text (room - 1) (item.from + 1) (item.to - 1) item.inner
  pub before : text_spot text item.from ≡ Inside room
  pub begun : text_spot text (item.from + 1) ≡ Inside (room - 1)
  pub ended : text_spot text (item.to - 1) ≡ Inside (room - 1)
  pub after : text_spot text item.to ≡ Inside room

abbrev list_item : ℕ → ℕ → Forest → Item
list_item from to inner = record { kind = kinds.List; from = from; to = to; inner = inner }

group : (text : List ℕ) (room from to : ℕ) (inner : Forest) → room < 64 → IsBracket text room from to → Items text (room - 1) (from + 1) (to - 1) inner
    → text_spot text from ≡ Inside room → IsListIn text room (list_item from to inner)
group text room from to inner low b h s =
    let o : text_spot text (from + 1) ≡ Inside (room - 1) = next text from (from + 1) refl ∙ ap (λ t. step t (slice_index text from)) s ∙ ap (step (Inside room)) b.opening ∙ opened_some room b.deep in
    let i : text_spot text (to - 1) ≡ Inside (room - 1) = items_over text (room - 1) (from + 1) (to - 1) inner (omega (arith, low)) h o in
    let g : (room == 64) ≡ false = grind (arith, low) in
    let c : text_spot text to ≡ Inside room =
    next text (to - 1) to (omega (arith, b.order)) ∙ ap (λ t. step t (slice_index text (to - 1))) i ∙ ap (step (Inside (room - 1))) b.closing
    ∙ closed_some room b.deep low ∙ ap (λ k. cond k Behind (Inside room)) g in
    record { bracket = b; inner = h; before = s; begun = o; ended = i; after = c }

abbrev pub IsListKind : NodeKind → Type 0
IsListKind kinds.List = Unit {0}
IsListKind kinds.Word = ⊥
IsListKind kinds.Text = ⊥

pub in_list : (text : List ℕ) (room at end : ℕ) (f : Forest) → room < 64 → Items text room at end f → text_spot text at ≡ Inside room
    → (item : Item) → IsOneOf item (items_of f) → IsListKind item.kind → IsListIn text room item
unfolding IsOneOf
in_list text room at end Nil low h s item m k = absurd m
in_list text room at end (Word from to rest) low h s item (inl e) k = absurd (subst (λ (x : Item). IsListKind x.kind) e k)
in_list text room at end (Word from to rest) low h s item (inr m) k =
    in_list text room to end rest low h.2 (word_over text room from to h.1 (white_inside text room at from h.0 s)) item m k
in_list text room at end (Text from to rest) low h s item (inl e) k = absurd (subst (λ (x : Item). IsListKind x.kind) e k)
in_list text room at end (Text from to rest) low h s item (inr m) k =
    in_list text room to end rest low h.2 (string_over text room from to h.1 (white_inside text room at from h.0 s)) item m k
in_list text room at end (Group from to inner rest) low h s item (inl e) k =
    subst (λ (x : Item). IsListIn text room x) (sym e) (group text room from to inner low h.1 h.2 (white_inside text room at from h.0 s))
in_list text room at end (Group from to inner rest) low h s item (inr m) k =
    in_list text room to end rest low h.3 (group text room from to inner low h.1 h.2 (white_inside text room at from h.0 s)).after item m k

-- what has a head is a list
pub headed_kind : (text name : List ℕ) (f : Forest) (item : Item) → IsOneOf item (items_of f) → is_headed text name item ≡ true → IsListKind item.kind
unfolding IsOneOf
headed_kind text name Nil item m h = absurd m
headed_kind text name (Word from to rest) item (inl e) h = absurd (false≢true (sym (ap (is_headed text name) e) ∙ h))
headed_kind text name (Word from to rest) item (inr m) h = headed_kind text name rest item m h
headed_kind text name (Text from to rest) item (inl e) h = absurd (false≢true (sym (ap (is_headed text name) e) ∙ h))
headed_kind text name (Text from to rest) item (inr m) h = headed_kind text name rest item m h
headed_kind text name (Group from to inner rest) item (inl e) h = subst (λ (x : Item). IsListKind x.kind) (sym e) tt
headed_kind text name (Group from to inner rest) item (inr m) h = headed_kind text name rest item m h

-- the board's own list
pub record IsBoardList (text : List ℕ) (root : Item) : Type 0 where
  pub bracket : IsBracket text 64 root.from root.to
  pub inner : Items text 63 (root.from + 1) (root.to - 1) root.inner
  pub begun : text_spot text (root.from + 1) ≡ Inside 63
  pub ended : text_spot text (root.to - 1) ≡ Inside 63

pub board_list : (text : List ℕ) (root : Item) → IsRoot text root → IsBoardList text root
board_list text root r =
    let h : Items text 64 0 (length text) (Group root.from root.to root.inner Nil) = r.spelt.items in
    let b : text_spot text root.from ≡ Before = stays is_space Before space_before text 0 root.from root.from (omega arith) h.0.each refl in
    let o : text_spot text (root.from + 1) ≡ Inside 63 = next text root.from (root.from + 1) refl ∙ ap (λ t. step t (slice_index text root.from)) b ∙ ap (step Before) h.1.opening in
    record { bracket = h.1; inner = h.2; begun = o; ended = items_over text 63 (root.from + 1) (root.to - 1) root.inner (omega arith) h.2 o }

-- ---- places

-- before a list's closing parenthesis
pub close_place : (text : List ℕ) (room deep from to : ℕ) → IsUtf8 text → IsBracket text deep from to → text_spot text (to - 1) ≡ Inside room → IsPlaceIn text room (to - 1)
close_place text room deep from to u b s =
    record { within = omega (arith, b.within); spot = s; cut = clean text (to - 1) 41 u (omega (arith, b.within, b.order)) b.closing (omega arith) }

-- before a list
pub open_place : (text : List ℕ) (room : ℕ) (item : Item) → IsUtf8 text → IsListIn text room item → IsPlaceIn text room item.from
open_place text room item u l =
    record { within = omega (arith, l.bracket.within, l.bracket.order); spot = l.before; cut = clean text item.from 40 u (omega (arith, l.bracket.within, l.bracket.order)) l.bracket.opening (omega arith) }

-- behind it
pub end_place : (text : List ℕ) (room : ℕ) (item : Item) → IsUtf8 text → IsListIn text room item → IsPlaceIn text room item.to
end_place text room item u l =
    let e : item.to - 1 + 1 ≡ item.to = omega (arith, l.bracket.order) in
    record {
      within = l.bracket.within;
      spot = l.after;
      cut = ap (λ k. cuts Full (take k text)) (sym e)
          ∙ clean_next text (item.to - 1) 41 (clean text (item.to - 1) 41 u (omega (arith, l.bracket.within, l.bracket.order)) l.bracket.closing (omega arith))
          (omega (arith, l.bracket.within, l.bracket.order)) l.bracket.closing (omega arith);
    }

-- ---- tails

abbrev IsInside : TextSpot → Type 0
IsInside (Inside room) = Unit {0}
IsInside Before = ⊥
IsInside (Quoted room escaped) = ⊥
IsInside Behind = ⊥
IsInside Lost = ⊥

-- white space comes into a list from nowhere else
space_back : (s : TextSpot) (room c : ℕ) → is_space c ≡ true → step s c ≡ Inside room → s ≡ Inside room
space_back Before room c h e = absurd (subst IsInside (sym (sym (space_before c h) ∙ e)) tt)
space_back (Inside other) room c h e = sym (space_inside other c h) ∙ e
space_back (Quoted other true) room c h e = absurd (subst IsInside (sym e) tt)
space_back (Quoted other false) room c h e =
    absurd (subst IsInside (sym e ∙ ap (λ b. cond b (Inside other) (Quoted other (c == 92))) (other_than c 34 h refl)) tt)
space_back Behind room c h e = absurd (subst IsInside (sym (sym (space_behind c h) ∙ e)) tt)
space_back Lost room c h e = absurd (subst IsInside (sym e) tt)

space_small : (c : ℕ) → is_space c ≡ true → c < 128
space_small c h = grind (arith, h)

tail_step : (text : List ℕ) (room n : ℕ) (b : Bool) → IsUtf8 text → is_space (slice_index text n) ≡ b → IsPlaceIn text room (suc n)
    → (IsPlaceIn text room n → IsPlaceIn text room (solid_end text n)) → IsPlaceIn text room (if b then solid_end text n else suc n)
tail_step text room n false u e p ih = p
tail_step text room n true u e p ih =
    ih (record {
      within = omega (arith, p.within);
      spot = space_back (text_spot text n) room (slice_index text n) e p.spot;
      cut = clean text n (slice_index text n) u (omega (arith, p.within)) refl (space_small (slice_index text n) e);
    })

-- behind the last byte before a place that isn't white space
pub solid_place : (text : List ℕ) (room n : ℕ) → IsUtf8 text → IsPlaceIn text room n → IsPlaceIn text room (solid_end text n)
unfolding solid_end
solid_place text room zero u p = p
solid_place text room (suc n) u p = tail_step text room n (is_space (slice_index text n)) u refl p (solid_place text room n u)
