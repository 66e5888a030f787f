-- The text of a board in which one list of a zone is another.
use Rattle.std.proofs.Common.{◌≡◌, ◌∙◌, refl, ap, sym, subst, ℕ, ◌+◌, ◌-◌, ◌<◌, true, List, [], ◌∷◌, ◌++◌, length, codes, arith, append-nil, append_assoc, length-append, Some}
use Rattle.std.specs.Prelude.{find}
use Rattle.sexpr_text.specs.Items.{Item}
use Rattle.text_splices.specs.Splice.{IsSplice}
use Rattle.board_text.specs.Items.{solid_end, tail_of}
use Rattle.text_shapes.specs.Seen.{parts, is_named}
use Rattle.text_shapes.specs.Spellings.{Spelling, spelt_bytes, contents, IsTextSpelling}
use Rattle.text_shapes.specs.Spellings.Spelling.{Ends, Nested}
use Rattle.text_shapes.proofs.Seen.{heads}
use Rattle.text_shapes.proofs.Spellings.{length-bytes}
use Rattle.same_boards.specs.Contents.{without}
use Rattle.edit_changes.proofs.Holes.{Hole, Into, plug, under, plug_under, front, back, deep, plug_bytes, good_there, deep_flat, list_seen, lists_before, lists_in, lists_plug, last_hole, last_white, last_is, last_flat, front_under, deep_under}
use Rattle.edit_changes.proofs.Texts.{IsSpelt}
use Rattle.edit_changes.proofs.Lists.{Lists, value_bytes}
use Rattle.edit_changes.proofs.Found.{IsListHole}
use Rattle.edit_changes.proofs.InPlace.{place, whole, place_good, from_there}
use Rattle.edit_changes.proofs.Patches.{AllFail, find_lists}
use Rattle.edit_changes.proofs.Inside.{IsListIn, first_there}
use Rattle.edit_changes.proofs.Inserts.{replaced, put_before, replaced_good, before_good, named_plug, without_plug, without_replaced, without_put, last_width}
use Rattle.edit_changes.proofs.Tails.{EndsSolid, last_solid, opened_solid, solid_is}

module _ (text : List ℕ) (root : Item) (p : IsSpelt text root) (xs ys : List Item) (i : Item) (h : IsListHole (length p.before + 1) p.inner xs i) where
  abbrev pub round : Hole
  round = place text root p xs ys i h

  -- a place in the list
  abbrev pub within : Hole → Hole
  within k = under round (Into h.white k h.rest)

  pub within_plug : (k : Hole) (s : Spelling) → plug (within k) s ≡ plug round (Nested h.white (plug k s) h.rest)
  within_plug k s = plug_under round (Into h.white k h.rest) s

  pub within_is : (k : Hole) (s : Spelling) → h.inner ≡ plug k s → plug (within k) s ≡ Nested p.before p.inner (Ends p.behind)
  within_is k s e = within_plug k s ∙ ap (λ z. plug round (Nested h.white z h.rest)) (sym e) ∙ whole text root p xs ys i h

  pub within_text : (k : Hole) (s : Spelling) → h.inner ≡ plug k s → text ≡ spelt_bytes (plug (within k) s)
  within_text k s e = p.is ∙ ap spelt_bytes (sym (within_is k s e))

  pub within_good : (k : Hole) (s : Spelling) → h.inner ≡ plug k s → IsTextSpelling 64 (plug (within k) s)
  within_good k s e = subst (IsTextSpelling 64) (sym (within_is k s e)) p.good

  pub within_front : (k : Hole) → length (front (within k)) ≡ i.from + 1 + length (front k)
  within_front k =
      omega (
        arith,
        ap length (front_under round (Into h.white k h.rest)),
        length-append (front round) (h.white ++ 40 ∷ front k),
        length-append h.white (40 ∷ front k),
        length-append (front round) h.white,
        from_there text root p xs ys i h,
      )

  pub within_deep : (k : Hole) → deep (within k) ≡ deep k + 2
  within_deep k = omega (arith, deep_under round (Into h.white k h.rest), deep_flat h.hole h.flat)

  -- ---- the new text, and what stays of the zone's contents

  -- the text is spelt with this in the list
  pub record IsTextWith (new : List ℕ) (inner : Spelling) : Type 0 where
    pub is : new ≡ spelt_bytes (plug round (Nested h.white inner h.rest))
    pub good : IsTextSpelling 64 (plug round (Nested h.white inner h.rest))

  -- the list has these contents in its first list of the head, and all else in it is the same
  pub record IsSetTo (name : List ℕ) (inner y : Spelling) : Type 0 where
    pub same : without (name ∷ []) (contents h.inner) ≡ without (name ∷ []) (contents inner)
    pub heads_are : (other : List ℕ) → is_named other (contents inner) ≡ is_named other (contents h.inner)
    pub found : find (heads name) (parts (contents inner)) ≡ Some (list_seen (contents y))

  module _ (new : List ℕ) (name head : List ℕ) (y : Spelling) (z : is_named head (contents h.inner) ≡ true) (n : is_named name (contents y) ≡ true) where
    -- ---- a list for the one that is there
    module _ (x : Item) (q : IsListIn text name (i.from + 1) h.inner x) where
      pub set_to : IsSetTo name (plug q.hole (Nested q.white y q.rest)) y
      set_to = record {
        same = ap (λ s. without (name ∷ []) (contents s)) q.is
            ∙ without_plug (name ∷ []) q.hole (Nested q.white q.inner q.rest) (Nested q.white y q.rest) q.flat (without_replaced name q.white q.inner y q.rest q.named n);
        heads_are = λ other. named_plug q.hole (Nested q.white q.inner q.rest) (Nested q.white y q.rest) head other (ap (λ s. is_named head (contents s)) (sym q.is) ∙ z) refl
            ∙ ap (λ s. is_named other (contents s)) (sym q.is);
        found = find_lists name (contents (plug q.hole (Nested q.white y q.rest))) ∙ ap (find (heads name)) (lists_plug q.hole (Nested q.white y q.rest) q.flat)
            ∙ first_there (heads name) (lists_before q.hole) (lists_in q.rest) (list_seen (contents y)) q.none n;
      }

      pub replaced_text : (good : (room : ℕ) → 0 < room → IsTextSpelling room y) → IsSplice text x.from x.to (value_bytes (Lists y)) new → IsTextWith new (plug q.hole (Nested q.white y q.rest))
      replaced_text good s =
          let f = q.from_is in
          let t = q.to_is in
          record {
            is = replaced text new (within q.hole) q.white q.inner y q.rest x.from x.to (within_text q.hole (Nested q.white q.inner q.rest) q.is) (omega (arith, f, within_front q.hole))
                (omega (arith, t, length-append (spelt_bytes q.inner) (41 ∷ []), length-bytes q.inner)) s
                ∙ ap spelt_bytes (within_plug q.hole (Nested q.white y q.rest));
            good = subst (IsTextSpelling 64) (within_plug q.hole (Nested q.white y q.rest))
                (replaced_good (within q.hole) q.white q.inner y q.rest 64 (within_good q.hole (Nested q.white q.inner q.rest) q.is)
                (λ m e. good (m - 1) (omega (arith, e, within_deep q.hole, deep_flat q.hole q.flat))));
          }

    -- ---- a list at the tail
    abbrev pub at_tail : Spelling
    at_tail = plug (last_hole h.inner) (Nested (codes " ") y (Ends (last_white h.inner)))

    pub put_to : AllFail (heads name) (lists_in h.inner) → IsSetTo name at_tail y
    put_to f = record {
      same = ap (λ s. without (name ∷ []) (contents s)) (sym (last_is h.inner))
          ∙ without_plug (name ∷ []) (last_hole h.inner) (Ends (last_white h.inner)) (Nested (codes " ") y (Ends (last_white h.inner))) (last_flat h.inner)
          (without_put name (codes " ") (last_white h.inner) (last_white h.inner) y n);
      heads_are = λ other. named_plug (last_hole h.inner) (Ends (last_white h.inner)) (Nested (codes " ") y (Ends (last_white h.inner))) head other
          (ap (λ s. is_named head (contents s)) (last_is h.inner) ∙ z) refl ∙ ap (λ s. is_named other (contents s)) (last_is h.inner);
      found = find_lists name (contents at_tail) ∙ ap (find (heads name)) (lists_plug (last_hole h.inner) (Nested (codes " ") y (Ends (last_white h.inner))) (last_flat h.inner))
          ∙ first_there (heads name) (lists_before (last_hole h.inner)) [] (list_seen (contents y))
          (subst (AllFail (heads name)) (ap lists_in (sym (last_is h.inner)) ∙ lists_plug (last_hole h.inner) (Ends (last_white h.inner)) (last_flat h.inner) ∙ append-nil (lists_before (last_hole h.inner))) f) n;
    }

    inner_good : (m : ℕ) × (m + deep (within (last_hole h.inner)) ≡ 64) × IsTextSpelling m (Ends (last_white h.inner))
    inner_good = good_there (within (last_hole h.inner)) (Ends (last_white h.inner)) 64 (within_good (last_hole h.inner) (Ends (last_white h.inner)) (sym (last_is h.inner)))

    solid_front : EndsSolid (front (within (last_hole h.inner)))
    solid_front =
        let g = good_there round (Nested h.white h.inner h.rest) 64 (place_good text root p xs ys i h) in
        let k = g.2 in
        subst EndsSolid
        (append_assoc (front round ++ h.white) (40 ∷ []) (front (last_hole h.inner)) ∙ append_assoc (front round) h.white (40 ∷ front (last_hole h.inner)) ∙ sym (front_under round (Into h.white (last_hole h.inner) h.rest)))
        (last_solid h.inner (g.0 - 1) ((front round ++ h.white) ++ 40 ∷ []) k.2 (opened_solid (front round ++ h.white)))

    pub tail_there : tail_of text i ≡ length (front (within (last_hole h.inner)))
    tail_there =
        let t = h.to_is in
        let e : i.to - 1 ≡ length (front (within (last_hole h.inner))) + length (last_white h.inner) = omega (arith, t, last_width h.inner, within_front (last_hole h.inner)) in
        ap (solid_end text) e
        ∙ solid_is text (front (within (last_hole h.inner))) (last_white h.inner) (back (within (last_hole h.inner))) (length (front (within (last_hole h.inner))))
        (within_text (last_hole h.inner) (Ends (last_white h.inner)) (sym (last_is h.inner)) ∙ plug_bytes (within (last_hole h.inner)) (Ends (last_white h.inner))) refl solid_front inner_good.2

    pub put_text : (good : (room : ℕ) → 0 < room → IsTextSpelling room y) → IsSplice text (tail_of text i) (tail_of text i) (codes " " ++ value_bytes (Lists y)) new → IsTextWith new at_tail
    put_text good s = record {
      is = put_before text new (within (last_hole h.inner)) (last_white h.inner) y (tail_of text i) (within_text (last_hole h.inner) (Ends (last_white h.inner)) (sym (last_is h.inner))) (sym tail_there) s
          ∙ ap spelt_bytes (within_plug (last_hole h.inner) (Nested (codes " ") y (Ends (last_white h.inner))));
      good = subst (IsTextSpelling 64) (within_plug (last_hole h.inner) (Nested (codes " ") y (Ends (last_white h.inner))))
          (before_good (within (last_hole h.inner)) (last_white h.inner) y 64 (omega (arith, within_deep (last_hole h.inner), deep_flat (last_hole h.inner) (last_flat h.inner)))
          (within_good (last_hole h.inner) (Ends (last_white h.inner)) (sym (last_is h.inner)))
          (λ m e. good (m - 1) (omega (arith, e, within_deep (last_hole h.inner), deep_flat (last_hole h.inner) (last_flat h.inner)))));
    }
