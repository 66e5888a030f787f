-- Copper beside a task, by its rank.
use Rattle.std.proofs.Common.{◌≡◌, ◌∙◌, sym, subst, ℕ, Bool, true, false, List, arith}
use Rattle.std.specs.Prelude.{◌↔◌, IsTrue, nat_eq}
use Rattle.std.proofs.lemmas.Bool.{false≢true}
use Rattle.plane.specs.Plane.{Bounds, AreNear}
use Rattle.hulls.specs.Cells.{around}
use Rattle.islands.proofs.Members.{any_one}
use Rattle.board_language.specs.declared.board.Track.{Track}
use Rattle.board_language.specs.declared.board.Via.{Via}
use Rattle.board_language.specs.Board.{Board}
use Rattle.board_language.specs.Copper.{has_layer, hulls_round}
use Rattle.fill_rules.specs.Tasks.{Task, settings_of, task_zone, task_at, zone_at}
use Rattle.fill_rules.specs.Needs.{item_need, track_copper, via_copper}
use Rattle.fill_rules.specs.Edits.{IsBeside, IsTrackDirtying, IsViaDirtying}
use Rattle.dirtied.specs.Inner.Beside.{IsSomeNear, IsBesideTask}

pub beside_task : (b : Board) (t : Task) (hulls : List Bounds) (need : ℕ) (frame : Bounds) (r : Bool) → need ≡ item_need b (settings_of (task_zone b t)) 0 → frame ≡ around (task_zone b t).outline
    → IsTrue r ↔ IsSomeNear need frame hulls → IsTrue r ↔ IsBesideTask b t hulls
unfolding IsBesideTask
beside_task b t hulls need frame r n f h =
    subst (λ x. IsTrue r ↔ IsSomeNear (item_need b (settings_of (task_zone b t)) 0) x hulls) f (subst (λ x. IsTrue r ↔ IsSomeNear x frame hulls) n h)

pub by_rank : (b : Board) (k : ℕ) (hulls : List Bounds) → IsBesideTask b (task_at b k) hulls ↔ IsBeside b k hulls
unfolding IsBesideTask zone_at
by_rank b k hulls = any_one (λ h. AreNear (item_need b (settings_of (task_zone b (task_at b k))) 0) (around (task_zone b (task_at b k)).outline) h) hulls

at_rank : (b : Board) (k : ℕ) (t : Task) (hulls other : List Bounds) (r : Bool) → t ≡ task_at b k → hulls ≡ other → IsTrue r ↔ IsBesideTask b t hulls → IsTrue r ↔ IsBeside b k other
at_rank b k t hulls other r e h i =
    let j : IsTrue r ↔ IsBesideTask b (task_at b k) other = subst (λ hs. IsTrue r ↔ IsBesideTask b (task_at b k) hs) h (subst (λ x. IsTrue r ↔ IsBesideTask b x hulls) e i) in
    let n = by_rank b k other in
    (λ x. n.0 (j.0 x), λ x. j.1 (n.1 x))

nat_same : (m n : ℕ) → nat_eq m n ≡ true → m ≡ n
nat_same m n e = grind (arith)

-- ---- tracks

pub track_on : (b : Board) (k : ℕ) (t : Task) (track : Track) (hulls : List Bounds) (r : Bool) → t ≡ task_at b k → hulls ≡ hulls_round (track_copper track) → track.layer ≡ t.layer
    → IsTrue r ↔ IsBesideTask b t hulls → IsTrue r ↔ IsTrackDirtying b k track
track_on b k t track hulls r e h l i =
    let n = at_rank b k t hulls (hulls_round (track_copper track)) r e h i in
    (λ x. record { layer = subst (λ (y : Task). track.layer ≡ y.layer) e l; beside = n.0 x }, λ d. n.1 d.beside)

pub track_off : (b : Board) (k : ℕ) (t : Task) (track : Track) → t ≡ task_at b k → (track.layer ≡ t.layer → ⊥) → IsTrue (nat_eq track.layer t.layer) ↔ IsTrackDirtying b k track
track_off b k t track e l =
    (λ x. absurd (l (nat_same track.layer t.layer x)), λ d. absurd (l (subst (λ (y : Task). track.layer ≡ y.layer) (sym e) d.layer)))

-- ---- vias

pub via_on : (b : Board) (k : ℕ) (t : Task) (via : Via) (hulls : List Bounds) (h r : Bool) → t ≡ task_at b k → hulls ≡ hulls_round (via_copper via) → h ≡ has_layer via.layers t.layer → h ≡ true
    → IsTrue r ↔ IsBesideTask b t hulls → IsTrue r ↔ IsViaDirtying b k via
via_on b k t via hulls h r e c l y i =
    let n = at_rank b k t hulls (hulls_round (via_copper via)) r e c i in
    (λ x. record { layer = subst (λ (u : Task). has_layer via.layers u.layer ≡ true) e (sym l ∙ y); beside = n.0 x }, λ d. n.1 d.beside)

pub via_off : (b : Board) (k : ℕ) (t : Task) (via : Via) (h : Bool) → t ≡ task_at b k → h ≡ has_layer via.layers t.layer → h ≡ false → IsTrue h ↔ IsViaDirtying b k via
via_off b k t via h e l y =
    (λ x. absurd (false≢true (sym y ∙ x)), λ d. l ∙ subst (λ (u : Task). has_layer via.layers u.layer ≡ true) (sym e) d.layer)
