-- A text as the spelling of one list, and the text with another piece in a place of it.
use Rattle.std.proofs.Common.{◌≡◌, ◌∙◌, refl, ap, sym, ℕ, ◌+◌, ◌-◌, List, [], ◌++◌, length, slice_range, arith, append-nil}
use Rattle.std.proofs.lemmas.List.{take_all}
use Rattle.sexpr_text.specs.declared.NodeKind.TheVariants as kinds
use Rattle.sexpr_text.specs.Grammar.Forest.{Nil, Group}
use Rattle.sexpr_text.specs.Items.{Item}
use Rattle.sexpr_text.specs.Trees.{IsRoot}
use Rattle.text_splices.specs.Splice.{IsSplice}
use Rattle.text_splices.proofs.Splices.{one_law}
use Rattle.text_shapes.specs.Shapes.{Shape, forest_shape}
use Rattle.text_shapes.specs.Shapes.Shape.{Over, Bare, Quoted, Inside}
use Rattle.text_shapes.specs.Spellings.{Spelling, spelt_bytes, width, contents, placed, IsTextSpelling}
use Rattle.text_shapes.specs.Spellings.Spelling.{Ends, Nested}
use Rattle.text_shapes.proofs.Spellings.{Spells, spells, length-bytes}
use Rattle.text_shapes.proofs.Spelled.{spell, spell_bytes, spell_contents, spell_placed, spell_good, length-piece}
use Rattle.edit_language.proofs.OneRoot.{one_root}

-- a text is spelt by what stands before its list, inside it, and behind it
pub record IsSpelt (text : List ℕ) (root : Item) : Type 0 where
  pub before : List ℕ
  pub inner : Spelling
  pub behind : List ℕ
  pub is : text ≡ spelt_bytes (Nested before inner (Ends behind))
  pub good : IsTextSpelling 64 (Nested before inner (Ends behind))
  pub from_is : root.from ≡ length before
  pub to_is : root.to ≡ length before + 1 + width inner + 1
  pub root_is : root.inner ≡ placed (length before + 1) inner
  pub shaped : forest_shape text root.inner ≡ contents inner

all_of : (text : List ℕ) → slice_range text 0 (length text) ≡ text
all_of text = take_all (length text - 0) text (omega arith)

pub spelt : (text : List ℕ) (root : Item) → IsRoot text root → IsSpelt text root
spelt text root r =
    let i = r.spelt.items in
    let l : length (slice_range text 0 root.from) ≡ root.from = omega (arith, length-piece text 0 root.from i.0.order i.0.within, i.0.order) in
    let n : length (slice_range text 0 root.from) + 1 ≡ root.from + 1 = omega (arith, l) in
    let w : root.from + 1 + width (spell text (root.from + 1) (root.to - 1) root.inner) ≡ root.to - 1 = Rattle.text_shapes.proofs.Spelled.width_is text 63 (root.from + 1) (root.to - 1) root.inner i.2 in
    let o = i.1.order in
    record {
      before = slice_range text 0 root.from;
      inner = spell text (root.from + 1) (root.to - 1) root.inner;
      behind = slice_range text root.to (length text);
      is = sym (spell_bytes text 64 0 (length text) (Group root.from root.to root.inner Nil) i ∙ all_of text);
      good = spell_good text 64 0 (length text) (Group root.from root.to root.inner Nil) i;
      from_is = sym l;
      to_is = omega (arith, l, w, o);
      root_is = sym (ap (λ m. placed m (spell text (root.from + 1) (root.to - 1) root.inner)) n ∙ spell_placed text 63 (root.from + 1) (root.to - 1) root.inner i.2);
      shaped = sym (spell_contents text (root.from + 1) (root.to - 1) root.inner);
    }

inner_of : Shape → Shape
inner_of Over = Over
inner_of (Bare t rest) = Over
inner_of (Quoted t rest) = Over
inner_of (Inside inner rest) = inner

inner_inside : {a b x y : Shape} → Inside a x ≡ Inside b y → a ≡ b
unfolding inner_of
inner_inside e = ap inner_of e

-- the list of a spelling
list_of : List ℕ → Spelling → Item
list_of w s = record { kind = kinds.List; from = 0 + length w; to = 0 + length w + 1 + width s + 1; inner = placed (0 + length w + 1) s }

-- a text that is spelt so has these contents
pub root_contents : (text w v : List ℕ) (s : Spelling) (root : Item) → text ≡ spelt_bytes (Nested w s (Ends v)) → IsTextSpelling 64 (Nested w s (Ends v)) → IsRoot text root
    → forest_shape text root.inner ≡ contents s
unfolding list_of
root_contents text w v s root e g r =
    let f : text ≡ spelt_bytes (Nested w s (Ends v)) ++ [] = e ∙ sym (append-nil (spelt_bytes (Nested w s (Ends v)))) in
    let n : 0 + width (Nested w s (Ends v)) ≡ length text = omega (arith, length-bytes (Nested w s (Ends v)), ap length e) in
    let h : Spells text 64 0 (length text) (Nested w s (Ends v)) = spells (Nested w s (Ends v)) text [] [] 64 0 (length text) f refl n g tt in
    let o : IsRoot text (list_of w s) = record { list = refl; spelt = record { utf8 = r.spelt.utf8; list = tt; items = h.items } } in
    ap (λ (x : Item). forest_shape text x.inner) (one_root text root (list_of w s) r o) ∙ inner_inside h.shaped

-- a splice is told by what stands before it and behind it
pub splice_is : (text new put x y z : List ℕ) (from to : ℕ) → text ≡ x ++ (y ++ z) → length x ≡ from → from + length y ≡ to → IsSplice text from to put new → new ≡ x ++ (put ++ z)
splice_is text new put x y z from to e l m s =
    one_law text from to put new (x ++ (put ++ z)) s (record { front = x; out = y; tail = z; from_is = l; to_is = m; text_is = e; new_is = refl })
