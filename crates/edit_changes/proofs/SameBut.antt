-- Boards that a track or via more or less leads to are the same but for it.
use Rattle.std.proofs.Common.{◌≡◌, ◌∙◌, refl, ap, sym, subst, ℕ, zero, suc, ◌⊎◌, inl, inr, List, [], ◌∷◌, ◌++◌, map, length, slice_get, get_or, Some, option_map}
use Rattle.std.proofs.lemmas.Option.{same_Some}
use Rattle.classes.specs.Classes.{IsOneOf}
use Rattle.board_language.specs.declared.board.Zone.{Zone}
use Rattle.board_language.specs.Board.{Board}
use Rattle.board_language.proofs.Members.{map_one_of, one_of_append, append_left}
use Rattle.fill_rules.specs.Tasks.{settings_of, no_zone}
use Rattle.fill_rules.specs.Edits.{unplaced, unplaced_via, counting, placing, AreAmong}
use Rattle.dirty_rules.specs.Dirty.{layers_of}
use Rattle.text_shapes.proofs.Seen.{map_map, get_map}
use Rattle.same_boards.specs.Alike.{unplaced_zone}
use Rattle.edit_changes.specs.Changes.{changed_at, left_without, with_priority, with_clearance}
use Rattle.edit_changes.specs.Laws.{TrackAddedLaw, ViaAddedLaw, TrackDroppedLaw, ViaDroppedLaw, PrioritySetLaw, ClearanceSetLaw}
use Rattle.edit_changes.proofs.AddedLaws.{board_at}

-- ---- lists of which one has one more at its end

among_front : {X : Type 0} (s : X → X) (xs ys : List X) (t : X) → map s ys ≡ map s xs ++ s t ∷ [] → AreAmong s (t ∷ []) xs ys
among_front s xs ys t e x m = inl (subst (λ (zs : List _). IsOneOf (s x) zs) (sym e) (append_left (s x) (map s xs) (s t ∷ []) (map_one_of s x xs m)))

among_back : {X : Type 0} (s : X → X) (xs ys : List X) (t : X) → map s ys ≡ map s xs ++ s t ∷ [] → AreAmong s (t ∷ []) ys xs
among_back s xs ys t e x m = one_of_append (s x) (map s xs) (s t ∷ []) (subst (λ (zs : List _). IsOneOf (s x) zs) e (map_one_of s x ys m))

pub among_same : {X : Type 0} (s : X → X) (xs ys ts : List X) → map s xs ≡ map s ys → AreAmong s ts xs ys
among_same s xs ys ts e x m = inl (subst (λ (zs : List _). IsOneOf (s x) zs) e (map_one_of s x xs m))

pub counting_same : (xs ys : List Zone) → map unplaced_zone xs ≡ map unplaced_zone ys → map counting xs ≡ map counting ys
counting_same xs ys e =
    map_map unplaced_zone counting counting (λ z. refl) xs ∙ ap (map counting) e ∙ sym (map_map unplaced_zone counting counting (λ z. refl) ys)

pub added_track : TrackAddedLaw
added_track new rules stamp named b d h = record {
  layers = ap length h.rest.layers;
  tracks = among_front unplaced b.tracks d.tracks h.track (h.tracks ∙ ap (λ z. map unplaced b.tracks ++ z ∷ []) (sym h.is_named));
  tracks_back = among_back unplaced b.tracks d.tracks h.track (h.tracks ∙ ap (λ z. map unplaced b.tracks ++ z ∷ []) (sym h.is_named));
  vias = among_same unplaced_via b.vias d.vias [] h.vias;
  vias_back = among_same unplaced_via d.vias b.vias [] (sym h.vias);
  pads = h.rest.pads;
  zones = counting_same b.zones d.zones h.zones;
  areas = h.rest.areas;
  edges = h.rest.edges;
  rules = h.rest.rules;
}

pub added_via : ViaAddedLaw
added_via new rules stamp named b d h = record {
  layers = ap length h.rest.layers;
  tracks = among_same unplaced b.tracks d.tracks [] h.tracks;
  tracks_back = among_same unplaced d.tracks b.tracks [] (sym h.tracks);
  vias = among_front unplaced_via b.vias d.vias h.via (h.vias ∙ ap (λ z. map unplaced_via b.vias ++ z ∷ []) (sym h.is_named));
  vias_back = among_back unplaced_via b.vias d.vias h.via (h.vias ∙ ap (λ z. map unplaced_via b.vias ++ z ∷ []) (sym h.is_named));
  pads = h.rest.pads;
  zones = counting_same b.zones d.zones h.zones;
  areas = h.rest.areas;
  edges = h.rest.edges;
  rules = h.rest.rules;
}

-- ---- lists of which one lacks an element of the other

left_there : {X : Type 0} (x : X) (n : ℕ) (xs : List X) → IsOneOf x (left_without n xs) → IsOneOf x xs
unfolding IsOneOf
left_there x n [] h = absurd (nothing n h)
  where
    nothing : (n : ℕ) → IsOneOf x (left_without n []) → ⊥
    nothing zero h = h
    nothing (suc n) h = h
left_there x zero (y ∷ xs) h = inr h
left_there x (suc n) (y ∷ xs) (inl e) = inl e
left_there x (suc n) (y ∷ xs) (inr h) = inr (left_there x n xs h)

-- an element is left, or is the one that is left out
left_or : {X : Type 0} (x t : X) (n : ℕ) (xs : List X) → slice_get xs n ≡ Some t → IsOneOf x xs → IsOneOf x (left_without n xs) ⊎ (x ≡ t)
unfolding IsOneOf
left_or x t n [] e h = absurd h
left_or x t zero (y ∷ xs) e (inl h) = inr (h ∙ same_Some y t e)
left_or x t zero (y ∷ xs) e (inr h) = inl h
left_or x t (suc n) (y ∷ xs) e (inl h) = inl (inl h)
left_or x t (suc n) (y ∷ xs) e (inr h) = elim (left_or x t n xs e h) [ inl k ↦ inl (inr k) | inr k ↦ inr k ]

one_alone : {X : Type 0} (x t : X) → x ≡ t → IsOneOf x (t ∷ [])
unfolding IsOneOf
one_alone x t e = inl e

gone_front : {X : Type 0} (s : X → X) (xs ys : List X) (n : ℕ) (t : X) → map s ys ≡ left_without n (map s xs) → slice_get xs n ≡ Some t → AreAmong s (t ∷ []) xs ys
gone_front s xs ys n t e g x m =
    elim (left_or (s x) (s t) n (map s xs) (sym (get_map s xs n) ∙ ap (option_map s) g) (map_one_of s x xs m)) [
      | inl k ↦ inl (subst (λ (zs : List _). IsOneOf (s x) zs) (sym e) k)
      | inr k ↦ inr (one_alone (s x) (s t) k)
    ]

gone_back : {X : Type 0} (s : X → X) (xs ys ts : List X) (n : ℕ) → map s ys ≡ left_without n (map s xs) → AreAmong s ts ys xs
gone_back s xs ys ts n e x m = inl (left_there (s x) n (map s xs) (subst (λ (zs : List _). IsOneOf (s x) zs) e (map_one_of s x ys m)))

pub dropped_track : TrackDroppedLaw
dropped_track text rules stamp b d o h =
    let g : slice_get b.tracks h.is.number ≡ Some h.track = ap (λ (x : Board). slice_get x.tracks h.is.number) (board_at text rules b h.is.root o h.is.is_root) ∙ h.is.is in
    record {
      layers = ap length h.rest.layers;
      tracks = gone_front unplaced b.tracks d.tracks h.is.number h.track h.tracks g;
      tracks_back = gone_back unplaced b.tracks d.tracks (h.track ∷ []) h.is.number h.tracks;
      vias = among_same unplaced_via b.vias d.vias [] h.vias;
      vias_back = among_same unplaced_via d.vias b.vias [] (sym h.vias);
      pads = h.rest.pads;
      zones = counting_same b.zones d.zones h.zones;
      areas = h.rest.areas;
      edges = h.rest.edges;
      rules = h.rest.rules;
    }

pub dropped_via : ViaDroppedLaw
dropped_via text rules stamp b d o h =
    let g : slice_get b.vias h.is.number ≡ Some h.via = ap (λ (x : Board). slice_get x.vias h.is.number) (board_at text rules b h.is.root o h.is.is_root) ∙ h.is.is in
    record {
      layers = ap length h.rest.layers;
      tracks = among_same unplaced b.tracks d.tracks [] h.tracks;
      tracks_back = among_same unplaced d.tracks b.tracks [] (sym h.tracks);
      vias = gone_front unplaced_via b.vias d.vias h.is.number h.via h.vias g;
      vias_back = gone_back unplaced_via b.vias d.vias (h.via ∷ []) h.is.number h.vias;
      pads = h.rest.pads;
      zones = counting_same b.zones d.zones h.zones;
      areas = h.rest.areas;
      edges = h.rest.edges;
      rules = h.rest.rules;
    }

-- ---- zones of which one is changed

map_changed : {X Y : Type 0} (g : X → Y) (f : X → X) → ((x : X) → g (f x) ≡ g x) → (n : ℕ) (xs : List X) → map g (changed_at n f xs) ≡ map g xs
map_changed g f h zero [] = refl
map_changed g f h (suc n) [] = refl
map_changed g f h zero (x ∷ xs) = ap (λ z. z ∷ map g xs) (h x)
map_changed g f h (suc n) (x ∷ xs) = ap (λ z. g x ∷ z) (map_changed g f h n xs)

get_other : {X : Type 0} (f : X → X) (o : X) (n m : ℕ) (xs : List X) → (m ≡ n → ⊥) → get_or (changed_at n f xs) m o ≡ get_or xs m o
get_other f o zero m [] d = refl
get_other f o (suc n) m [] d = refl
get_other f o zero zero (x ∷ xs) d = absurd (d refl)
get_other f o zero (suc m) (x ∷ xs) d = refl
get_other f o (suc n) zero (x ∷ xs) d = refl
get_other f o (suc n) (suc m) (x ∷ xs) d = get_other f o n m xs (λ e. d (ap suc e))

get_map_or : {X : Type 0} (s : X → X) (o : X) (xs : List X) (m : ℕ) → get_or (map s xs) m (s o) ≡ s (get_or xs m o)
get_map_or s o [] m = refl
get_map_or s o (x ∷ xs) zero = refl
get_map_or s o (x ∷ xs) (suc m) = get_map_or s o xs m

-- what a change leaves of each zone
kept_of : {Y : Type 0} (g : Zone → Y) (f : Zone → Zone) → ((z : Zone) → g z ≡ g (unplaced_zone z)) → ((z : Zone) → g (f z) ≡ g z) → (n : ℕ) (xs ys : List Zone)
    → map unplaced_zone ys ≡ changed_at n f (map unplaced_zone xs) → map g xs ≡ map g ys
kept_of g f u h n xs ys e =
    map_map unplaced_zone g g u xs ∙ sym (map_changed g f h n (map unplaced_zone xs)) ∙ ap (map g) (sym e) ∙ sym (map_map unplaced_zone g g u ys)

-- and of the other zones
others_of : {Y : Type 0} (g : Zone → Y) (f : Zone → Zone) → ((z : Zone) → g z ≡ g (unplaced_zone z)) → (n : ℕ) (xs ys : List Zone)
    → map unplaced_zone ys ≡ changed_at n f (map unplaced_zone xs) → (m : ℕ) → (m ≡ n → ⊥) → g (get_or xs m no_zone) ≡ g (get_or ys m no_zone)
others_of g f u n xs ys e m d =
    u (get_or xs m no_zone) ∙ ap g (sym (get_map_or unplaced_zone no_zone xs m) ∙ sym (get_other f (unplaced_zone no_zone) n m (map unplaced_zone xs) d)
    ∙ ap (λ zs. get_or zs m (unplaced_zone no_zone)) (sym e) ∙ get_map_or unplaced_zone no_zone ys m) ∙ sym (u (get_or ys m no_zone))

pub priority_set : PrioritySetLaw
priority_set text stamp value b d h = record {
  layers = ap length h.rest.layers;
  tracks = h.tracks;
  vias = h.vias;
  pads = h.rest.pads;
  settings = kept_of settings_of (with_priority value) (λ z. refl) (λ z. refl) h.number b.zones d.zones h.zones;
  zone_layers = kept_of layers_of (with_priority value) (λ z. refl) (λ z. refl) h.number b.zones d.zones h.zones;
  others = others_of (λ z. z.priority) (with_priority value) (λ z. refl) h.number b.zones d.zones h.zones;
  areas = h.rest.areas;
  edges = h.rest.edges;
  rules = h.rest.rules;
}

pub clearance_set : ClearanceSetLaw
clearance_set text stamp value b d h = record {
  layers = ap length h.rest.layers;
  tracks = h.tracks;
  vias = h.vias;
  pads = h.rest.pads;
  places = kept_of placing (with_clearance value) (λ z. refl) (λ z. refl) h.number b.zones d.zones h.zones;
  others = others_of settings_of (with_clearance value) (λ z. refl) h.number b.zones d.zones h.zones;
  areas = h.rest.areas;
  edges = h.rest.edges;
  rules = h.rest.rules;
}
