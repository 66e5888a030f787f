-- A task of another zone that none of a zone's tasks reaches is untouched by the zone's settings.
use Rattle.std.proofs.Common.{◌≡◌, refl, sym, subst, ℕ, ◌≤◌, ◌⊎◌, inl, inr, arith, [], List, map}
use Rattle.std.specs.Prelude.{max}
use Rattle.plane.specs.Plane.{PlanePoint, Bounds, In, AreNear}
use Rattle.copper_shape.specs.Shapes.{Copper}
use Rattle.hulls.specs.Cells.{around}
use Rattle.classes.specs.Classes.{IsOneOf}
use Rattle.board_language.specs.declared.board.Rules.{Rules}
use Rattle.board_language.specs.Board.{Board}
use Rattle.fill_rules.specs.Tasks.{Settings, task_at, zone_at, layer_at}
use Rattle.fill_rules.specs.Needs.{units, item_need, Need, item_needs}
use Rattle.islands.specs.Held.{IsTouching}
use Rattle.fill_rules.specs.Anchors.{anchors_of}
use Rattle.fill_rules.specs.Reach.{IsReaching}
use Rattle.fill_rules.specs.Dirty.{unlined, IsUntouched}
use Rattle.fill_rules.specs.Edits.{unplaced, unplaced_via, AreAmong, IsSameButZone, SettingsLaw}
use Rattle.board_language.proofs.Members.{map_one_of}
use Rattle.fill_rules.proofs.SameTasks.{layer_by, need_by, reach_by, other_same}
use Rattle.fill_rules.proofs.Beside.{items_to, anchors_to}

-- ---- a zone's settings
among_same : {A : Type 0} (alike : A → A) (xs ys : List A) → map alike xs ≡ map alike ys → AreAmong alike [] xs ys
among_same alike xs ys e x i = inl (subst (IsOneOf (alike x)) e (map_one_of alike x xs i))

none : {A : Type 0} (x : A) → IsOneOf x [] → ⊥
unfolding IsOneOf
none x i = i

-- two boards whose copper differs at most in where it stands in the text, under the same rules
pub record HasSameItems (b d : Board) : Type 0 where
  pub rules : b.rules ≡ d.rules
  pub tracks : map unplaced b.tracks ≡ map unplaced d.tracks
  pub vias : map unplaced_via b.vias ≡ map unplaced_via d.vias
  pub pads : map unlined b.pads ≡ map unlined d.pads
  pub edges : b.edges ≡ d.edges

-- what a zone of these settings keeps away from there, near its frame, and what anchors it there
module _ (b d : Board) (s : HasSameItems b d) (one : 1 ≤ d.rules.floor) (z : Settings) (l : ℕ) where
  positive : 1 ≤ item_need d z 0
  positive = omega (arith, one)

  positive_before : 1 ≤ item_need b z 0
  positive_before = subst (λ (r : Rules). 1 ≤ units (max (max z.clearance 0) r.floor)) (sym s.rules) positive

  pub items_there : (m : Need) → AreNear m.need (around z.outline) m.oct → IsOneOf m (item_needs b z l) → IsOneOf m (item_needs d z l)
  items_there m w i =
      items_to b d [] [] s.rules (among_same unplaced b.tracks d.tracks s.tracks) (among_same unplaced_via b.vias d.vias s.vias) s.pads s.edges
      z l (around z.outline) (λ t i. absurd (none t i)) (λ v i. absurd (none v i)) m w i

  pub items_back : (m : Need) → AreNear m.need (around z.outline) m.oct → IsOneOf m (item_needs d z l) → IsOneOf m (item_needs b z l)
  items_back m w i =
      items_to d b [] [] (sym s.rules) (among_same unplaced d.tracks b.tracks (sym s.tracks)) (among_same unplaced_via d.vias b.vias (sym s.vias)) (sym s.pads) (sym s.edges)
      z l (around z.outline) (λ t i. absurd (none t i)) (λ v i. absurd (none v i)) m w i

  pub anchors_there : (c : Copper) (o : Bounds) → IsTouching c o → ((p : PlanePoint) → In o p → In (around z.outline) p) → IsOneOf c (anchors_of b z l) → IsOneOf c (anchors_of d z l)
  anchors_there c o t inside i =
      anchors_to b d [] [] s.rules (among_same unplaced b.tracks d.tracks s.tracks) (among_same unplaced_via b.vias d.vias s.vias) s.pads s.edges
      z l (around z.outline) (λ t i. absurd (none t i)) (λ v i. absurd (none v i)) positive_before c o t inside i

  pub anchors_back : (c : Copper) (o : Bounds) → IsTouching c o → ((p : PlanePoint) → In o p → In (around z.outline) p) → IsOneOf c (anchors_of d z l) → IsOneOf c (anchors_of b z l)
  anchors_back c o t inside i =
      anchors_to d b [] [] (sym s.rules) (among_same unplaced d.tracks b.tracks (sym s.tracks)) (among_same unplaced_via d.vias b.vias (sym s.vias)) (sym s.pads) (sym s.edges)
      z l (around z.outline) (λ t i. absurd (none t i)) (λ v i. absurd (none v i)) positive c o t inside i

module _ (b d : Board) (n : ℕ) (s : IsSameButZone b d n) (one : 1 ≤ d.rules.floor) (k : ℕ) (other : (task_at d k).zone ≡ n → ⊥)
    (clean : (j : ℕ) → (task_at d j).zone ≡ n → IsReaching b j k ⊎ IsReaching d j k → ⊥)
  where
    zone_as : zone_at b k ≡ zone_at d k
    zone_as = other_same b d n s k other

    layer_as : (j : ℕ) → layer_at b j ≡ layer_at d j
    layer_as j = layer_by b d s.layers s.places j

    as_to : (P : Settings → ℕ → Type 0) → P (zone_at b k) (layer_at b k) → P (zone_at d k) (layer_at d k)
    as_to P h = subst (λ (l : ℕ). P (zone_at d k) l) (layer_as k) (subst (λ (z : Settings). P z (layer_at b k)) zone_as h)

    as_back : (P : Settings → ℕ → Type 0) → P (zone_at d k) (layer_at d k) → P (zone_at b k) (layer_at b k)
    as_back P h = subst (λ (l : ℕ). P (zone_at b k) l) (sym (layer_as k)) (subst (λ (z : Settings). P z (layer_at d k)) (sym zone_as) h)

    items : HasSameItems b d
    items = record { rules = s.rules; tracks = s.tracks; vias = s.vias; pads = s.pads; edges = s.edges }

    -- what reaches the task is of another zone
    reacher_as : (j : ℕ) → IsReaching b j k ⊎ IsReaching d j k → zone_at b j ≡ zone_at d j
    reacher_as j r = other_same b d n s j (λ e. clean j e r)

    pub untouched_by : IsUntouched b d (λ (j : ℕ). j) k
    untouched_by = record {
      like = record { zone = zone_as; layer = layer_as k; pads = s.pads; areas = s.areas; edges = s.edges };
      items = λ m w. (
        λ i. items_there b d items one (zone_at d k) (layer_at d k) m w (as_to (λ (z : Settings) (l : ℕ). IsOneOf m (item_needs b z l)) i),
        λ i. as_back (λ (z : Settings) (l : ℕ). IsOneOf m (item_needs b z l)) (items_back b d items one (zone_at d k) (layer_at d k) m w i),
      );
      anchors = λ c o t inside. (
        λ i. anchors_there b d items one (zone_at d k) (layer_at d k) c o t inside (as_to (λ (z : Settings) (l : ℕ). IsOneOf c (anchors_of b z l)) i),
        λ i. as_back (λ (z : Settings) (l : ℕ). IsOneOf c (anchors_of b z l)) (anchors_back b d items one (zone_at d k) (layer_at d k) c o t inside i),
      );
      reach_to = λ j r.
          let z = reacher_as j (inl r) in
          (j, refl, reach_by b d s.rules j k z zone_as (layer_as j) (layer_as k) r, need_by b d s.rules j k z zone_as);
      reach_from = λ j r.
          let z = reacher_as j (inr r) in
          (reach_by d b (sym s.rules) j k (sym z) (sym zone_as) (sym (layer_as j)) (sym (layer_as k)) r, need_by d b (sym s.rules) j k (sym z) (sym zone_as));
    }

pub settings_law : SettingsLaw
settings_law b d n s one k other clean = untouched_by b d n s one k other clean
