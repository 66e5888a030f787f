-- Splices are one, and can be undone.
use Rattle.std.proofs.Common.{◌≡◌, ◌∙◌, refl, ap, sym, ℕ, ◌+◌, List, ◌++◌, take, drop, length, length-append, arith}
use Rattle.std.proofs.Math.Seq.{take-append_seam, drop-append_seam}
use Rattle.text_splices.specs.Laws.{OneLaw, SizeLaw, UndoLaw}

-- what stands before a seam, and what behind it
before : (xs ys all : List ℕ) (n : ℕ) → all ≡ xs ++ ys → length xs ≡ n → take n all ≡ xs
before xs ys all n e l = ap (take n) e ∙ ap (λ k. take k (xs ++ ys)) (sym l) ∙ take-append_seam xs ys

behind : (xs ys all : List ℕ) (n : ℕ) → all ≡ xs ++ ys → length xs ≡ n → drop n all ≡ ys
behind xs ys all n e l = ap (drop n) e ∙ ap (λ k. drop k (xs ++ ys)) (sym l) ∙ drop-append_seam xs ys

pub one_law : OneLaw
one_law text from to put new other h g =
    let front : h.front ≡ g.front = sym (before h.front (h.out ++ h.tail) text from h.text_is h.from_is) ∙ before g.front (g.out ++ g.tail) text from g.text_is g.from_is in
    let rest : h.out ++ h.tail ≡ g.out ++ g.tail = sym (behind h.front (h.out ++ h.tail) text from h.text_is h.from_is) ∙ behind g.front (g.out ++ g.tail) text from g.text_is g.from_is in
    let size : length h.out ≡ length g.out = omega (arith, h.to_is, g.to_is) in
    let tail : h.tail ≡ g.tail = sym (behind h.out h.tail (g.out ++ g.tail) (length g.out) (sym rest) size) ∙ behind g.out g.tail (g.out ++ g.tail) (length g.out) refl refl in
    h.new_is ∙ ap (λ xs. xs ++ (put ++ h.tail)) front ∙ ap (λ xs. g.front ++ (put ++ xs)) tail ∙ sym g.new_is

three : (xs ys zs : List ℕ) → length (xs ++ (ys ++ zs)) ≡ length xs + (length ys + length zs)
three xs ys zs = length-append xs (ys ++ zs) ∙ ap (λ k. length xs + k) (length-append ys zs)

pub size_law : SizeLaw
size_law text from to put new h =
    let old : length text ≡ length h.front + (length h.out + length h.tail) = ap length h.text_is ∙ three h.front h.out h.tail in
    let now : length new ≡ length h.front + (length put + length h.tail) = ap length h.new_is ∙ three h.front put h.tail in
    omega (arith, old, now, h.from_is, h.to_is)

pub undo_law : UndoLaw
undo_law text from to put new h = record {
  front = h.front;
  out = put;
  tail = h.tail;
  from_is = h.from_is;
  to_is = refl;
  text_is = h.new_is;
  new_is = h.text_is;
}
