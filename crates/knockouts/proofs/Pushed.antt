-- One more octagon at its need, and the whole list of needs.
use Rattle.std.proofs.Common.{◌≡◌, ℕ, ◌+◌, ◌<◌, List, [], ◌∷◌, ◌++◌, length, map, flat_map, drop, get_or, sym, ap, ◌∙◌, append_assoc}
use Rattle.std.proofs.lemmas.List.{map-append}
use Rattle.plane.specs.Plane.{Bounds}
use Rattle.board_language.specs.declared.board.Pad.{Pad}
use Rattle.board_language.specs.declared.board.Zone.{Zone}
use Rattle.board_language.specs.Board.{Board}
use Rattle.fill_rules.specs.Tasks.{Task, settings_of, task_zone}
use Rattle.fill_rules.specs.Needs.{Need, at_need, item_needs}
use Rattle.fill_rules.specs.Reliefs.{thermal_needs}
use Rattle.fill_rules.specs.Made.{Made}
use Rattle.knockouts.specs.Obstacles.{gap_needs, fill_needs, bars_of, needs_of}
use Rattle.knockouts.proofs.Walks.{drop_here}

pub need_more : {V : Type 0} (f : V → Need) (n : ℕ) (os : List Bounds) (k : ℕ) (o : Bounds) (done : List V) (t : V) (all : List Need) → k < length os → o ≡ get_or os k o → f t ≡ record { oct = o; need = n }
    → map f done ++ at_need n (drop k os) ≡ all → map f (done ++ t ∷ []) ++ at_need n (drop (k + 1) os) ≡ all
need_more f n os k o done t all l same e h =
    ap (λ ns. ns ++ at_need n (drop (k + 1) os)) (map-append f done (t ∷ []))
    ∙ append_assoc (map f done) (f t ∷ []) (at_need n (drop (k + 1) os))
    ∙ ap (λ (m : Need). map f done ++ m ∷ at_need n (drop (k + 1) os)) e
    ∙ ap (λ ps. map f done ++ at_need n ps) (sym (drop_here os k o l same)) ∙ h

pub all_needs : {V : Type 0} (f : V → Need) (b : Board) (t : Task) (z : Zone) (above : List Made) (ps : List Pad) (items fills gaps : List V) → z ≡ task_zone b t → ps ≡ b.pads
    → map f items ≡ item_needs b (settings_of z) t.layer → map f fills ≡ flat_map (fill_needs b (settings_of z)) above → map f gaps ≡ flat_map (gap_needs (settings_of z) t.layer) ps
    → map f (items ++ (fills ++ gaps)) ≡ needs_of b t above
unfolding bars_of needs_of thermal_needs
all_needs f b t z above ps items fills gaps e ep hi hf hg =
    map-append f items (fills ++ gaps)
    ∙ ap (λ ns. map f items ++ ns) (map-append f fills gaps)
    ∙ ap (λ ns. ns ++ (map f fills ++ map f gaps)) hi
    ∙ ap (λ ns. item_needs b (settings_of z) t.layer ++ (ns ++ map f gaps)) hf
    ∙ ap (λ ns. item_needs b (settings_of z) t.layer ++ (flat_map (fill_needs b (settings_of z)) above ++ ns)) (hg ∙ ap (flat_map (gap_needs (settings_of z) t.layer)) ep)
    ∙ ap (λ (y : Zone). item_needs b (settings_of y) t.layer ++ (flat_map (fill_needs b (settings_of y)) above ++ flat_map (gap_needs (settings_of y) t.layer) b.pads)) e
    ∙ sym (append_assoc (item_needs b (settings_of (task_zone b t)) t.layer) (flat_map (fill_needs b (settings_of (task_zone b t))) above) (flat_map (gap_needs (settings_of (task_zone b t)) t.layer) b.pads))
