-- The pieces of the worked rows.
use Rattle.std.proofs.Common.{◌≡◌, refl, sym, ◌∙◌, ap, ℕ, suc, arith, List, [], ◌∷◌, length}
use Rattle.std.specs.Prelude.{map, pos, negsuc}
use Rattle.std.proofs.lemmas.Int.{ints}
use Rattle.grid_num.specs.Roots.{up2_of}
use Rattle.plane.specs.Plane.{ball_of}
use Rattle.grid_num.proofs.Roots.{up2_above}
use Rattle.grid_sets.specs.Rows.{Run}
use Rattle.grid_sets.specs.Bands.{run_down}
use Rattle.grid_sets.specs.declared.Slant.{Slant}
use Rattle.fills.specs.Rows.{PiecesRow}

length_map : (k : ℕ) (ss : List Slant) → length (map (run_down k) ss) ≡ length ss
length_map k [] = refl
length_map k (s ∷ ss) = ap suc (length_map k ss)

-- a row with two runs joins no band with one
two_join_none : (k : ℕ) (ss : List Slant) (one two more : Run) → map (run_down 0) ss ≡ one ∷ [] → map (run_down 1) ss ≡ two ∷ more ∷ [] → ⊥
two_join_none k ss one two more e f =
    let a : length ss ≡ 1 = sym (length_map 0 ss) ∙ ap length e in
    let b : length ss ≡ 2 = sym (length_map 1 ss) ∙ ap length f in
    omega (arith, a, b)

diagonal : up2_of 250 ≡ 354
diagonal = sym (up2_above 250 353 (omega arith) (omega arith))

pub pieces_row : PiecesRow
unfolding ball_of
pieces_row = record {
  rows = record {
    top = pos 10;
    descending = (
      omega (arith, ints),
      (pos 0, (omega (arith, ints), omega (arith, ints), tt)),
      (
        omega (arith, ints),
        (negsuc 0, (omega (arith, ints), omega (arith, ints), tt)),
        (omega (arith, ints), (pos 1, (omega (arith, ints), omega (arith, ints), (omega (arith, ints), omega (arith, ints), tt))), tt),
      ),
    );
  };
  bands = (_, refl, (λ h. two_join_none 0 h.steps _ _ _ h.last h.new), (_, refl, tt, refl, λ e. (refl, refl, (refl, refl, tt))), λ e. absurd (omega (arith, e)));
  pieces = rw diagonal refl;
}
