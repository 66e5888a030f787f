-- The text as a whole.
use Rattle.std.proofs.Common.{◌≡◌, ℕ, ◌+◌, ◌-◌, ◌<◌, ◌≤◌, true, false, List, [], ◌++◌, length, slice_index, refl, sym, ◌∙◌, ap, subst, arith}
use Rattle.std.specs.Str.{IsUtf8}
use Rattle.sexpr_text.specs.Grammar.{Forest, Items, IsWhite, IsOneList, Spelt, is_space}
use Rattle.sexpr_text.specs.Grammar.Forest.{Nil, Group}
use Rattle.sexpr_text.specs.Flat.{flat}
use Rattle.sexpr_text.specs.Inner.Built.{Built}
use Rattle.sexpr_text.specs.Inner.Run.{TakesList, Stops, NoItems}
use Rattle.sexpr_text.specs.Trees.{IsTreeOf}
use Rattle.sexpr_text.specs.declared.NodeKind.TheVariants as kinds
use Rattle.sexpr_text.proofs.Unique.{one_reading, inner_stops, same_start}
use Rattle.sexpr_text.proofs.Steps.{narrowed, white_joined, white_at}

-- the end of a text
pub text_stops : (bytes : List ℕ) → Stops bytes (length bytes)
text_stops bytes less = absurd (omega (arith, less))

pub one_tree : (bytes : List ℕ) (tree other : Forest) → Spelt bytes tree → Spelt bytes other → tree ≡ other
one_tree bytes tree other a b = (one_reading bytes 64 0 (length bytes) (length bytes) tree other a.items (text_stops bytes) b.items (text_stops bytes)).0

pub whole : (bytes : List ℕ) (at to end : ℕ) (old new : Built) → IsUtf8 bytes → IsWhite bytes 0 at → old.nodes ≡ [] → TakesList bytes 64 at to old new → IsWhite bytes to end → length bytes ≤ end → IsTreeOf bytes new.nodes
whole bytes at to end old new u w o r v e =
    let d : end ≡ length bytes = omega (arith, v.within) in
    record {
      root = record { kind = kinds.List; from = at; to = to; inner = r.inner };
      is_tree = record {
        is_root = record {
          list = refl;
          spelt = record { utf8 = u; list = tt; items = (white_joined bytes 0 at at w (white_at bytes at w.within), r.items.1, r.items.2, subst (λ x. IsWhite bytes to x) d v) };
        };
        same = r.nodes ∙ ap (λ xs. xs ++ flat (length xs) (Group at to r.inner Nil)) o;
      };
    }

-- where the list of a text begins
list_place : (bytes : List ℕ) (at : ℕ) (tree : Forest) → IsWhite bytes 0 at → is_space (slice_index bytes at) ≡ false → IsOneList tree → Items bytes 64 0 (length bytes) tree → (at < length bytes) × (slice_index bytes at ≡ 40)
list_place bytes at (Group p q inner Nil) w solid one h =
    let e : at ≡ p = same_start bytes 0 at p w h.0 solid (rw h.1.opening refl) in
    (omega (arith, h.1.order, h.1.within), rw e h.1.opening)
list_place bytes at tree w solid one h = elim one [ ]

pub not_list : (bytes : List ℕ) (at : ℕ) → IsWhite bytes 0 at → is_space (slice_index bytes at) ≡ false → (at < length bytes → slice_index bytes at ≡ 40 → ⊥) → (tree : Forest) → Spelt bytes tree → ⊥
not_list bytes at w solid none tree s = let p = list_place bytes at tree w solid s.list s.items in none p.0 p.1

pub nothing_there : (bytes : List ℕ) (at : ℕ) → IsWhite bytes 0 at → is_space (slice_index bytes at) ≡ false → NoItems bytes 64 at → (tree : Forest) → Spelt bytes tree → ⊥
nothing_there bytes at w solid none tree s = none tree (length bytes) (narrowed bytes 64 0 at (length bytes) tree w solid s.items (text_stops bytes)) (text_stops bytes)

behind_list : (bytes : List ℕ) (at to : ℕ) (old new : Built) (tree : Forest) → IsWhite bytes 0 at → is_space (slice_index bytes at) ≡ false → TakesList bytes 64 at to old new → IsOneList tree → Items bytes 64 0 (length bytes) tree → IsWhite bytes to (length bytes)
behind_list bytes at to old new (Group p q inner Nil) w solid r one h =
    let e : at ≡ p = same_start bytes 0 at p w h.0 solid (rw h.1.opening refl) in
    let i : Items bytes 63 (at + 1) (q - 1) inner = subst (λ x. Items bytes 63 (x + 1) (q - 1) inner) (sym e) h.2 in
    let d : to - 1 ≡ q - 1 = (one_reading bytes 63 (at + 1) (to - 1) (q - 1) r.inner inner r.items.2 (inner_stops bytes 64 at to r.items.1) i (inner_stops bytes 64 p q h.1)).1 in
    let f : q ≡ to = omega (arith, d, h.1.order, r.items.1.order) in
    subst (λ x. IsWhite bytes x (length bytes)) f h.3
behind_list bytes at to old new tree w solid r one h = elim one [ ]

pub more_behind : (bytes : List ℕ) (at to end : ℕ) (old new : Built) → IsWhite bytes 0 at → is_space (slice_index bytes at) ≡ false → TakesList bytes 64 at to old new → IsWhite bytes to end → is_space (slice_index bytes end) ≡ false → end < length bytes → (tree : Forest) → Spelt bytes tree → ⊥
more_behind bytes at to end old new w solid r v solid' less tree s =
    let x : IsWhite bytes to (length bytes) = behind_list bytes at to old new tree w solid r s.list s.items in
    let e : is_space (slice_index bytes end) ≡ true = x.each end v.order less in cc
