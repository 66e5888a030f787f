-- An octagon in the frame is clear exactly where it keeps the needs of all entries before the gaps.
use Rattle.std.proofs.Common.{◌≡◌, refl, ◌∙◌, sym, ap, subst, ℕ, inl, inr, List, [], ◌∷◌, flat_map}
use Rattle.plane.specs.Plane.{PlanePoint, Bounds, In, IsNear, AreNear}
use Rattle.classes.specs.Classes.{IsOneOf}
use Rattle.hulls.specs.Cells.{around}
use Rattle.board_language.specs.Board.{Board}
use Rattle.board_language.specs.Facts.{IsSoundBoard}
use Rattle.board_language.proofs.Members.{one_of_append, append_left, append_right, one_of_flat, flat_one_of, one_of_map, map_one_of}
use Rattle.fill_rules.specs.Tasks.{Task, settings_of, task_zone, zone_at, task_at}
use Rattle.fill_rules.specs.Needs.{Need, item_needs, zone_need}
use Rattle.fill_rules.specs.Reach.{IsReaching}
use Rattle.fill_rules.specs.Fill.{IsClear, fill_of, fills_below}
use Rattle.fill_rules.specs.Made.{Made}
use Rattle.fill_rules.proofs.Fills.{below_is, below_from, fills_meet}
use Rattle.fill_rules.proofs.Reach.{fill_in_frame}
use Rattle.fill_rules.proofs.Sound.{fillable}
use Rattle.fills.specs.Fills.{IsFillOf}
use Rattle.fills.specs.Above.{AreFillsOfTasks, AreFillsAbove}
use Rattle.fills.proofs.Points.{fill_points}
use Rattle.knockouts.specs.Obstacles.{fill_needs, bars_of}
use Rattle.centres.specs.Needs.{KeepsAll}
use Rattle.knockouts.specs.Clear.{ClearByBarsLaw}

-- ---- the fills above, one by one

-- one of the fills is that of one of the tasks
pub whose : (b : Board) (js : List ℕ) (fs : List Made) → AreFillsOfTasks b js fs → (f : Made) → IsOneOf f fs → (j : ℕ) × IsOneOf j js × IsFillOf b j f
unfolding IsOneOf
whose b [] [] h f i = absurd i
whose b [] (g ∷ fs) h f i = absurd h
whose b (j ∷ js) [] h f i = absurd h
whose b (j ∷ js) (g ∷ fs) h f (inl e) = (j, inl refl, subst (IsFillOf b j) (sym e) h.0)
whose b (j ∷ js) (g ∷ fs) h f (inr i) = let r = whose b js fs h.1 f i in (r.0, inr r.1, r.2)

-- and one of the tasks has one of the fills
has_fill : (b : Board) (js : List ℕ) (fs : List Made) → AreFillsOfTasks b js fs → (j : ℕ) → IsOneOf j js → (f : Made) × IsOneOf f fs × IsFillOf b j f
unfolding IsOneOf
has_fill b [] [] h j i = absurd i
has_fill b [] (g ∷ fs) h j i = absurd h
has_fill b (k ∷ js) [] h j i = absurd h
has_fill b (k ∷ js) (g ∷ fs) h j (inl e) = (g, inl refl, subst (λ (n : ℕ). IsFillOf b n g) (sym e) h.0)
has_fill b (k ∷ js) (g ∷ fs) h j (inr i) = let r = has_fill b js fs h.1 j i in (r.0, inr r.1, r.2)

-- ---- the entries

abbrev items_of : Board → ℕ → List Need
items_of b i = item_needs b (settings_of (task_zone b (task_at b i))) (task_at b i).layer

abbrev fills_of : Board → ℕ → List Made → List Need
fills_of b i above = flat_map (fill_needs b (settings_of (task_zone b (task_at b i)))) above

-- the need to an entry is that to its task
need_at : (b : Board) (i j : ℕ) (f : Made) → f.task ≡ task_at b j
    → zone_need b (settings_of (task_zone b f.task)) (settings_of (task_zone b (task_at b i))) ≡ zone_need b (zone_at b j) (zone_at b i)
unfolding zone_at
need_at b i j f e = ap (λ (t : Task). zone_need b (settings_of (task_zone b t)) (settings_of (task_zone b (task_at b i)))) e

forward : (b : Board) (i : ℕ) (above : List Made) (o : Bounds) → IsSoundBoard b → AreFillsAbove b i above → IsClear b (fills_below b i) i o → KeepsAll (bars_of b (task_at b i) above) o
unfolding zone_at AreNear bars_of KeepsAll
forward b i above o sound w c n k near = elim (one_of_append n (items_of b i) (fills_of b i above) k) [
  | inl h ↦ c.items n h near
  | inr h ↦
      let r = one_of_flat (fill_needs b (settings_of (task_zone b (task_at b i)))) n above h in
      let f = r.0 in
      let s = whose b w.tasks above w.each f r.1 in
      let j = s.0 in
      let reaching : IsReaching b j i = (w.reaching.same j).0 s.1 in
      let m = one_of_map (λ (x : Bounds). record { oct = x; need = zone_need b (settings_of (task_zone b f.task)) (settings_of (task_zone b (task_at b i))) }) n f.pieces r.2 in
      let d : ℕ = zone_need b (zone_at b j) (zone_at b i) in
      let e : n.need ≡ d = ap (λ (x : Need). x.need) m.2 ∙ need_at b i j f s.2.task in
      let g : n.oct ≡ m.0 = ap (λ (x : Need). x.oct) m.2 in
      let q : PlanePoint = near.1 in
      let inside : fill_of b j q = (fill_points b sound j f s.2 q).0 (m.0, m.1, subst (λ (x : Bounds). In x q) g near.3) in
      c.fills j reaching.above reaching.layer reaching.foreign near.0 q near.2 (below_from b i j q reaching.above inside) (subst (λ (x : ℕ). IsNear x near.0 q) e near.4)
]

back : (b : Board) (i : ℕ) (above : List Made) (o : Bounds) → IsSoundBoard b → AreFillsAbove b i above
    → ((p : PlanePoint) → In o p → In (around (zone_at b i).outline) p) → KeepsAll (bars_of b (task_at b i) above) o → IsClear b (fills_below b i) i o
unfolding zone_at AreNear bars_of KeepsAll
back b i above o sound w inside k = record {
  items = λ n h near. k n (append_left n (items_of b i) (fills_of b i above) h) near;
  fills = λ j less layer foreign p q at above_q near.
      let fill : fill_of b j q = (below_is b i j q above_q).1 in
      let framed : In (around (zone_at b j).outline) q = fill_in_frame b (fillable b sound) (fill_of b) j q ((fills_meet b j q).0 fill) in
      let reaching : IsReaching b j i = record { above = less; layer = layer; foreign = foreign; near = (p, q, inside p at, framed, near) } in
      let s = has_fill b w.tasks above w.each j ((w.reaching.same j).1 reaching) in
      let f = s.0 in
      let piece = (fill_points b sound j f s.2 q).1 fill in
      let need : ℕ = zone_need b (settings_of (task_zone b f.task)) (settings_of (task_zone b (task_at b i))) in
      let n : Need = record { oct = piece.0; need = need } in
      let one : IsOneOf n (fill_needs b (settings_of (task_zone b (task_at b i))) f) = map_one_of (λ (x : Bounds). record { oct = x; need = need }) piece.0 f.pieces piece.1 in
      k n (append_right n (items_of b i) (fills_of b i above) (flat_one_of (fill_needs b (settings_of (task_zone b (task_at b i)))) n f above s.1 one))
      (p, q, at, piece.2, subst (λ (x : ℕ). IsNear x p q) (sym (need_at b i j f s.2.task)) near);
}

pub clear_law : ClearByBarsLaw
clear_law b i above o sound w inside = (forward b i above o sound w, back b i above o sound w inside)
