-- The first thing of a board's stamps is the first item that has the stamp.
use Rattle.std.proofs.Common.{◌≡◌, ◌∙◌, ap, sym, refl, ℕ, suc, ◌+◌, Bool, true, false, not, cond, List, [], ◌∷◌, ◌++◌, append_assoc, append-nil, take, find, Option, None, Some, option_map, arith}
use Rattle.std.specs.List.{prefix_len}
use Rattle.std.specs.Option.{option_or}
use Rattle.std.specs.Str.{bytes_eq}
use Rattle.sexpr_text.specs.Items.{Item}
use Rattle.board_text.specs.Fields.{is_text}
use Rattle.board_text.specs.Layers.{Name}
use Rattle.board_text.specs.Items.{Context, context_of}
use Rattle.board_text.specs.Things.{Placed, items_of_board}
use Rattle.board_text.specs.declared.stamped.Stamped.{Stamped}
use Rattle.board_language.specs.Offences.{stamp_of_placed}
use Rattle.board_language.specs.Stamps.{has_stamp, bearer_in, before_bearer, stamped_behind, stamped_in, stamp_of}
use Rattle.board_items.specs.Stamps.{Table, stamped}
use Rattle.board_items.proofs.StampTables.{found_all}
use Rattle.board_model.specs.Whole.{stamp_with, stamp_at, stamps_after, stamps_of_board}
use Rattle.board_model.specs.Laws.{StampLaw}

stamped_append : (xs ys : Table) (q : Name) → stamped (xs ++ ys) q ≡ option_or (stamped xs q) (stamped ys q)
stamped_append [] ys q = refl
stamped_append (p ∷ xs) ys q = by_test (bytes_eq p.0 q) (stamped_append xs ys q)
  where
    by_test : (b : Bool) → stamped (xs ++ ys) q ≡ option_or (stamped xs q) (stamped ys q)
        → cond b (Some p.1) (stamped (xs ++ ys) q) ≡ option_or (cond b (Some p.1) (stamped xs q)) (stamped ys q)
    by_test true e = refl
    by_test false e = e

stamped_with : (name : Option (List ℕ)) (thing : Stamped) (q : Name) → stamped (stamp_with name thing) q ≡ cond (is_text q name) (Some thing) None
stamped_with None thing q = refl
stamped_with (Some name) thing q = refl

module _ (c : Context) (q : List ℕ) where
  abbrev has : Placed → Bool
  has p = has_stamp c.bytes q p

  abbrev found_behind : List Placed → List Placed → Option Stamped
  found_behind before ps = option_map (stamped_behind c (before ++ take (prefix_len (λ p. not (has p)) ps) ps)) (find has ps)

  step : (before ps : List Placed) (p : Placed) (n : ℕ) (b : Bool) → option_or (cond b (Some (stamped_behind c before p)) None) (option_map (stamped_behind c ((before ++ p ∷ []) ++ take n ps)) (find has ps))
      ≡ option_map (stamped_behind c (before ++ take (cond (not b) (1 + n) 0) (p ∷ ps))) (cond b (Some p) (find has ps))
  step before ps p n true = ap (λ l. Some (stamped_behind c l p)) (sym (append-nil before))
  step before ps p n false =
      let m : suc n ≡ 1 + n = omega arith in
      ap (λ l. option_map (stamped_behind c l) (find has ps)) (append_assoc before (p ∷ []) (take n ps) ∙ ap (λ k. before ++ take k (p ∷ ps)) m)

  behind : (before ps : List Placed) → stamped (stamps_after c before ps) q ≡ found_behind before ps
  unfolding stamps_after
  behind before [] = refl
  behind before (p ∷ ps) =
      stamped_append (stamp_at c before p) (stamps_after c (before ++ p ∷ []) ps) q
      ∙ ap (λ o. option_or o (stamped (stamps_after c (before ++ p ∷ []) ps) q)) (stamped_with (stamp_of_placed c.bytes p) (stamped_behind c before p) q)
      ∙ ap (option_or (cond (has p) (Some (stamped_behind c before p)) None)) (behind (before ++ p ∷ []) ps)
      ∙ step before ps p (prefix_len (λ r. not (has r)) ps) (has p)

pub stamps_are : StampLaw
unfolding stamps_of_board stamp_of bearer_in before_bearer
stamps_are text root stamp =
    found_all [] (stamps_after (context_of text root) [] (items_of_board text root)) stamp
    ∙ behind (context_of text root) stamp [] (items_of_board text root)
