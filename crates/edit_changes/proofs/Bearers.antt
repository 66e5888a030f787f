-- What has a stamp in an accepted board, by one item that has it.
use Rattle.std.proofs.Common.{◌≡◌, ◌∙◌, refl, ap, ℕ, Bool, true, false, not, cond, List, [], ◌∷◌, ◌++◌, take, Some, option_map}
use Rattle.std.specs.Prelude.{find}
use Rattle.std.specs.List.{prefix_len}
use Rattle.sexpr_text.specs.Items.{Item}
use Rattle.board_text.specs.Things.{Placed, items_of_board}
use Rattle.board_text.specs.Items.{context_of}
use Rattle.board_language.specs.Reading.{IsAccepted}
use Rattle.board_language.specs.Stamps.{has_stamp, bearer_in, before_bearer, stamped_behind, stamp_of, bearer_of}
use Rattle.edit_language.proofs.Stamps.{found}
use Rattle.edit_language.proofs.OneBearer.{one_bearer}

some_found : {X : Type 0} (p : X → Bool) (xs ys : List X) (x : X) → p x ≡ true → (q : X) × (find p (xs ++ x ∷ ys) ≡ Some q)
some_found p [] ys x e = (x, ap (λ b. cond b (Some x) (find p ys)) e)
some_found p (y ∷ xs) ys x e = pick (p y) (some_found p xs ys x e)
  where
    pick : (b : Bool) → (q : _) × (find p (xs ++ x ∷ ys) ≡ Some q) → (q : _) × (cond b (Some y) (find p (xs ++ x ∷ ys)) ≡ Some q)
    pick true f = (y, refl)
    pick false f = f

pub record IsBearer (text : List ℕ) (root : Item) (stamp : List ℕ) (before : List Placed) (q : Placed) : Type 0 where
  pub stamped : stamp_of text root stamp ≡ Some (stamped_behind (context_of text root) before q)
  pub bearer : bearer_of text root stamp ≡ Some q

pub bearer_there : (text : List ℕ) (root : Item) (stamp : List ℕ) (before behind : List Placed) (q : Placed) → IsAccepted text root → items_of_board text root ≡ before ++ q ∷ behind
    → has_stamp text stamp q ≡ true → IsBearer text root stamp before q
unfolding stamp_of bearer_of bearer_in before_bearer context_of
bearer_there text root stamp before behind q ok e h =
    let s = some_found (has_stamp text stamp) before behind q h in
    let g : find (has_stamp text stamp) (items_of_board text root) ≡ Some s.0 = ap (find (has_stamp text stamp)) e ∙ s.1 in
    let f = found (has_stamp text stamp) (items_of_board text root) s.0 g in
    let n = prefix_len (λ p. not (has_stamp text stamp p)) (items_of_board text root) in
    let o = one_bearer text root stamp (take n (items_of_board text root)) f.after before behind s.0 q ok f.is e f.passes h in
    record {
      stamped = ap (option_map (stamped_behind (context_of text root) (take n (items_of_board text root)))) g
          ∙ ap (λ z. Some (stamped_behind (context_of text root) z s.0)) o.0 ∙ ap (λ z. Some (stamped_behind (context_of text root) before z)) o.1;
      bearer = g ∙ ap Some o.1;
    }
