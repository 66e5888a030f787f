-- A new track or via stands behind all others.
use Rattle.std.proofs.Common.{◌≡◌, ◌∙◌, refl, ap, sym, subst, ℕ, ◌+◌, ◌-◌, ◌<◌, false, List, [], ◌∷◌, ◌++◌, length, codes, arith, append-nil, append_assoc, length-append}
use Rattle.std.specs.Prelude.{filter}
use Rattle.sexpr_text.specs.Grammar.{is_space}
use Rattle.sexpr_text.specs.Items.{Item}
use Rattle.sexpr_text.specs.Trees.{IsRoot}
use Rattle.text_splices.specs.Splice.{IsSplice}
use Rattle.text_shapes.specs.Seen.{ItemSeen, item_seen}
use Rattle.text_shapes.specs.Spellings.{Spelling, spelt_bytes, width, contents, IsTextSpelling}
use Rattle.text_shapes.specs.Spellings.Spelling.{Ends, Nested}
use Rattle.text_shapes.proofs.Layouts.{all_both}
use Rattle.text_shapes.proofs.Seen.{heads, heads_seen, groups}
use Rattle.text_shapes.proofs.Spellings.{length-bytes}
use Rattle.edit_changes.proofs.Holes.{Hole, Into, plug, front, back, deep, plug_bytes, good_plug, list_seen, lists_before, lists_in, lists_plug, last_hole, last_white, last_is, last_flat, back_flat, deep_flat}
use Rattle.edit_changes.proofs.Texts.{IsSpelt, spelt, root_contents, splice_is}
use Rattle.edit_changes.proofs.Lists.{Lists, value_bytes}
use Rattle.edit_changes.proofs.Patches.{ArePatched}

-- a list with what stands before and behind it
pub list_put : (w v z : List ℕ) (inner : Spelling) → spelt_bytes (Nested (w ++ v) inner (Ends z)) ≡ w ++ (v ++ (value_bytes (Lists inner) ++ z))
list_put w v z inner =
    append_assoc w v (40 ∷ (spelt_bytes inner ++ 41 ∷ z)) ∙ ap (λ y. w ++ (v ++ 40 ∷ y)) (sym (append_assoc (spelt_bytes inner) (41 ∷ []) z))

-- ---- a list before the close of the board
module _ (text new : List ℕ) (root last : Item) (inner : Spelling) (r : IsRoot text root) (l : IsRoot new last) (good : (room : ℕ) → 0 < room → IsTextSpelling room inner)
    (s : IsSplice text (root.to - 1) (root.to - 1) (codes "  " ++ (value_bytes (Lists inner) ++ codes "\n")) new)
  where
    p : IsSpelt text root
    p = spelt text root r

    put : Spelling
    put = Nested (last_white p.inner ++ codes "  ") inner (Ends (codes "\n"))

    hole : Hole
    hole = Into p.before (last_hole p.inner) (Ends p.behind)

    whole : plug hole (Ends (last_white p.inner)) ≡ Nested p.before p.inner (Ends p.behind)
    unfolding hole
    whole = ap (λ z. Nested p.before z (Ends p.behind)) (last_is p.inner)

    text_is : text ≡ (front hole ++ last_white p.inner) ++ ([] ++ back hole)
    text_is = p.is ∙ ap spelt_bytes (sym whole) ∙ plug_bytes hole (Ends (last_white p.inner)) ∙ sym (append_assoc (front hole) (last_white p.inner) (back hole))

    inner_length : width p.inner ≡ length (front (last_hole p.inner)) + length (last_white p.inner)
    inner_length =
        sym (length-bytes p.inner) ∙ ap (λ z. length (spelt_bytes z)) (sym (last_is p.inner)) ∙ ap length (plug_bytes (last_hole p.inner) (Ends (last_white p.inner)))
        ∙ ap (λ z. length (front (last_hole p.inner) ++ (last_white p.inner ++ z))) (back_flat (last_hole p.inner) (last_flat p.inner))
        ∙ ap (λ z. length (front (last_hole p.inner) ++ z)) (append-nil (last_white p.inner)) ∙ length-append (front (last_hole p.inner)) (last_white p.inner)

    place_is : length (front hole ++ last_white p.inner) ≡ root.to - 1
    unfolding hole
    place_is =
        omega (arith, length-append (p.before ++ 40 ∷ front (last_hole p.inner)) (last_white p.inner), length-append p.before (40 ∷ front (last_hole p.inner)), inner_length, p.to_is)

    new_is : new ≡ spelt_bytes (plug hole put)
    unfolding put
    new_is =
        splice_is text new (codes "  " ++ (value_bytes (Lists inner) ++ codes "\n")) (front hole ++ last_white p.inner) [] (back hole) (root.to - 1) (root.to - 1) text_is place_is (omega arith) s
        ∙ append_assoc (front hole) (last_white p.inner) ((codes "  " ++ (value_bytes (Lists inner) ++ codes "\n")) ++ back hole)
        ∙ ap (λ z. front hole ++ z)
        (sym (append_assoc (last_white p.inner) (codes "  " ++ (value_bytes (Lists inner) ++ codes "\n")) (back hole))
        ∙ ap (λ z. z ++ back hole) (sym (list_put (last_white p.inner) (codes "  ") (codes "\n") inner)))
        ∙ sym (plug_bytes hole (Nested (last_white p.inner ++ codes "  ") inner (Ends (codes "\n"))))

    put_good : (m : ℕ) → m + deep hole ≡ 64 → IsTextSpelling m (Ends (last_white p.inner)) → IsTextSpelling m put
    unfolding put hole
    put_good m e g =
        let z : deep (last_hole p.inner) ≡ 0 = deep_flat (last_hole p.inner) (last_flat p.inner) in
        (all_both is_space (last_white p.inner) (codes "  ") g refl, omega (arith, e, z), good (m - 1) (omega (arith, e, z)), refl)

    new_good : IsTextSpelling 64 (plug hole put)
    unfolding put
    new_good =
        good_plug hole (Ends (last_white p.inner)) (Nested (last_white p.inner ++ codes "  ") inner (Ends (codes "\n"))) 64 refl (subst (IsTextSpelling 64) (sym whole) p.good) put_good

    new_lists : groups (item_seen new last) ≡ groups (item_seen text root) ++ list_seen (contents inner) ∷ []
    unfolding hole put
    new_lists =
        ap (λ z. filter Rattle.text_shapes.proofs.Seen.is_group (Rattle.text_shapes.specs.Seen.parts z))
        (root_contents new p.before p.behind (plug (last_hole p.inner) (Nested (last_white p.inner ++ codes "  ") inner (Ends (codes "\n")))) last new_is new_good l)
        ∙ lists_plug (last_hole p.inner) (Nested (last_white p.inner ++ codes "  ") inner (Ends (codes "\n"))) (last_flat p.inner)
        ∙ ap (λ z. z ++ list_seen (contents inner) ∷ []) (sym old_lists)
      where
        old_lists : groups (item_seen text root) ≡ lists_before (last_hole p.inner)
        old_lists =
            ap (λ z. filter Rattle.text_shapes.proofs.Seen.is_group (Rattle.text_shapes.specs.Seen.parts z)) p.shaped
            ∙ ap lists_in (sym (last_is p.inner)) ∙ lists_plug (last_hole p.inner) (Ends (last_white p.inner)) (last_flat p.inner) ∙ append-nil (lists_before (last_hole p.inner))

    -- the boards' lists are the same, and one more
    pub appended : heads (codes "layers") (list_seen (contents inner)) ≡ false → heads (codes "net") (list_seen (contents inner)) ≡ false
        → ArePatched text new root last (groups (item_seen text root)) [] (list_seen (contents inner) ∷ []) []
    appended e f = record {
      old = sym (append-nil (groups (item_seen text root)));
      new = new_lists;
      out_layers = tt;
      put_layers = (e, tt);
      out_nets = tt;
      put_nets = (f, tt);
    }
