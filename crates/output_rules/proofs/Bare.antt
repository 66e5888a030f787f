-- Where no rings are put in, only the old fills go.
use Rattle.std.proofs.Common.{◌≡◌, ◌∙◌, refl, ap, sym, subst, ℕ, zero, suc, ◌+◌, ◌-◌, arith, List, [], ◌∷◌, ◌++◌, map, take, drop, length, get_or, append_assoc}
use Rattle.std.specs.List.{flat_map}
use Rattle.std.proofs.Math.Seq.{take-add}
use Rattle.std.proofs.lemmas.List.{take-append-drop, drop-drop}
use Rattle.board_language.specs.declared.board.Zone.{Zone}
use Rattle.board_language.specs.Board.{Board}
use Rattle.fill_rules.specs.Tasks.{layers_below, ranked}
use Rattle.fill_rules.specs.Nodes.{rank_in}
use Rattle.output_rules.specs.Pieces.{Piece, ArePiecesInOrder, replaced}
use Rattle.output_rules.specs.Rings.{ring_text}
use Rattle.rings.specs.Rings.{Traced, not_traced}
use Rattle.output_rules.specs.Output.{layer_name, old_fill, old_fills, rings_text, zone_pieces, pieces_from, board_pieces, text_without_fills, text_with_rings}
use Rattle.output_rules.specs.Laws.{BareLaw}
use Rattle.output_rules.proofs.Placing.{weaken}

-- ---- a piece that takes out nothing and puts in nothing

abbrev bare : ℕ → Piece
bare b = record { from = b; to = b; put = [] }

bare_first : (at b end : ℕ) (ps : List Piece) (old : List ℕ) → ArePiecesInOrder at end (bare b ∷ ps) → replaced at (bare b ∷ ps) old ≡ replaced at ps old
unfolding ArePiecesInOrder replaced
bare_first at b end [] old h = take-append-drop (b - at) old
bare_first at b end (p ∷ ps) old h =
    let from : (b - at) + (p.from - b) ≡ p.from - at = omega (arith, h.0, h.2.0) in
    let to : (b - at) + (p.to - b) ≡ p.to - at = omega (arith, h.0, h.2.0, h.2.1) in
    let front : take (b - at) old ++ take (p.from - b) (drop (b - at) old) ≡ take (p.from - at) old = sym (take-add (b - at) (p.from - b) old) ∙ ap (λ n. take n old) from in
    let rest : drop (p.to - b) (drop (b - at) old) ≡ drop (p.to - at) old = drop-drop (p.to - b) (b - at) old ∙ ap (λ n. drop n old) to in
    sym (append_assoc (take (b - at) old) (take (p.from - b) (drop (b - at) old)) (p.put ++ replaced p.to ps (drop (p.to - b) (drop (b - at) old))))
    ∙ ap (λ t. t ++ (p.put ++ replaced p.to ps (drop (p.to - b) (drop (b - at) old)))) front
    ∙ ap (λ t. take (p.from - at) old ++ (p.put ++ replaced p.to ps t)) rest

bare_inside : (at b end : ℕ) (xs ys : List Piece) (old : List ℕ) → ArePiecesInOrder at end (xs ++ bare b ∷ ys) → replaced at (xs ++ bare b ∷ ys) old ≡ replaced at (xs ++ ys) old
unfolding ArePiecesInOrder replaced
bare_inside at b end [] ys old h = bare_first at b end ys old h
bare_inside at b end (x ∷ xs) ys old h = ap (λ t. take (x.from - at) old ++ (x.put ++ t)) (bare_inside x.to b end xs ys (drop (x.to - at) old) h.2)

without_bare : (at b end : ℕ) (xs ys : List Piece) → ArePiecesInOrder at end (xs ++ bare b ∷ ys) → ArePiecesInOrder at end (xs ++ ys)
unfolding ArePiecesInOrder
without_bare at b end [] ys h = weaken at b end end ys h.0 (omega arith) h.2
without_bare at b end (x ∷ xs) ys h = (h.0, h.1, without_bare x.to b end xs ys h.2)

-- what stands behind the first pieces may be exchanged for what makes the same
behind_same : (at end : ℕ) (xs ys zs : List Piece) (old : List ℕ) → ((n : ℕ) (o : List ℕ) → ArePiecesInOrder n end ys → replaced n ys o ≡ replaced n zs o)
    → ArePiecesInOrder at end (xs ++ ys) → replaced at (xs ++ ys) old ≡ replaced at (xs ++ zs) old
unfolding ArePiecesInOrder replaced
behind_same at end [] ys zs old f h = f at old h
behind_same at end (x ∷ xs) ys zs old f h = ap (λ t. take (x.from - at) old ++ (x.put ++ t)) (behind_same x.to end xs ys zs (drop (x.to - at) old) f h.2)

-- ---- zones without rings

flat_none : (f : ℕ → List ℕ) → ((l : ℕ) → f l ≡ []) → (ls : List ℕ) → flat_map f ls ≡ []
flat_none f h [] = refl
flat_none f h (l ∷ ls) = ap (λ t. t ++ flat_map f ls) (h l) ∙ flat_none f h ls

nothing_there : (n : ℕ) → get_or [] n not_traced ≡ not_traced
nothing_there zero = refl
nothing_there (suc n) = refl

no_rings : (b : Board) (z : ℕ) (zone : Zone) → rings_text b [] z zone ≡ []
no_rings b z zone =
    flat_none (λ (l : ℕ). flat_map (ring_text (layer_name b l)) (get_or [] (rank_in (record { zone = z; layer = l }) (ranked b)) not_traced).rings)
    (λ l. ap (λ (t : Traced). flat_map (ring_text (layer_name b l)) t.rings) (nothing_there (rank_in (record { zone = z; layer = l }) (ranked b))))
    (layers_below zone.layers (length b.layers))

zones_bare : (text : List ℕ) (b : Board) (end z : ℕ) (zones : List Zone) (at : ℕ) (old : List ℕ) → ArePiecesInOrder at end (pieces_from text b [] z zones)
    → replaced at (pieces_from text b [] z zones) old ≡ replaced at (old_fills text zones) old
zones_bare text b end z [] at old h = refl
zones_bare text b end z (zone ∷ zones) at old h =
    let fills = map (old_fill text) zone.spans.fills in
    let rest = pieces_from text b [] (suc z) zones in
    let tail = zone.spans.tail in
    let same : zone_pieces text zone.spans (rings_text b [] z zone) ++ rest ≡ fills ++ bare tail ∷ rest =
    ap (λ rings. zone_pieces text zone.spans rings ++ rest) (no_rings b z zone) ∙ append_assoc fills (bare tail ∷ []) rest in
    let k : ArePiecesInOrder at end (fills ++ bare tail ∷ rest) = subst (ArePiecesInOrder at end) same h in
    ap (λ ps. replaced at ps old) same
    ∙ bare_inside at tail end fills rest old k
    ∙ behind_same at end fills rest (old_fills text zones) old (λ n o i. zones_bare text b end (suc z) zones n o i) (without_bare at tail end fills rest k)

pub bare_law : BareLaw
unfolding board_pieces text_with_rings text_without_fills
bare_law text b h = zones_bare text b (length text) 0 b.zones 0 text h
