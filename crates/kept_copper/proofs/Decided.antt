-- What the flags at the first cells of parts say of all cells.
use Rattle.std.proofs.Common.{◌≡◌, refl, sym, ◌∙◌, ap, subst, ℕ, zero, suc, ◌<◌, ◌≤◌, ◌*◌, inl, inr, arith, Bool, true, false, List, [], ◌∷◌, length, get_or}
use Rattle.std.specs.Prelude.{◌↔◌, ℤ, ◌^◌, Result, Ok, Err, IfOk}
use Rattle.std.specs.List.{All}
use Rattle.std.proofs.lemmas.Int.{ints}
use Rattle.plane.specs.Plane.{Bounds}
use Rattle.classes.proofs.Reaching.{reaches_self, reaches_back}
use Rattle.grid_sets.specs.Points.{HasPoint, IsCount}
use Rattle.copper_shape.specs.Shapes.{Copper}
use Rattle.copper_shape.specs.declared.edge.Edge.{Edge}
use Rattle.islands.specs.Parts.{AreParts, IsMeetingAt}
use Rattle.islands.specs.Held.{IsHeld}
use Rattle.islands.proofs.PartLaws.{meeting_at_back, parts_same}
use Rattle.board_language.specs.declared.IslandMode.{IslandMode}
use Rattle.board_language.specs.declared.IslandMode.TheVariants.{Below}
use Rattle.components.specs.Kept.{IsStaying, IsSparedPart, with_label}
use Rattle.components.specs.Laws.{SparedCountLaw}
use Rattle.plane.specs.Plane.{IsOct}
use Rattle.cores.specs.Room.{IsInRoom}
use Rattle.open_laws.specs.Open.{top_left}
use Rattle.kept_copper.specs.Stays.{AreStaying, IsBegun, IsSparedAt}
use Rattle.kept_copper.proofs.Flags.{IsFlagged}

-- ---- labels
label_most : (octs : List Bounds) (labels : List ℕ) → AreParts octs labels → (k : ℕ) → k < length octs → get_or labels k 0 ≤ k
label_most octs labels a k l = (a.least k l).least k (reaches_self (IsMeetingAt octs) k)

-- the label of a part's first is its own
label_own : (octs : List Bounds) (labels : List ℕ) → AreParts octs labels → (k : ℕ) → k < length octs → get_or labels (get_or labels k 0) 0 ≡ get_or labels k 0
label_own octs labels a k l =
    let m = get_or labels k 0 in
    let most = label_most octs labels a k l in
    (parts_same octs labels a m k (omega (arith, most, l)) l).1 (reaches_back (IsMeetingAt octs) (meeting_at_back octs) k m (a.least k l).reached)

get_or_same : {A : Type 0} (xs : List A) (k : ℕ) (d e : A) → k < length xs → get_or xs k d ≡ get_or xs k e
get_or_same [] k d e l = absurd (omega (arith, l))
get_or_same (x ∷ xs) zero d e l = refl
get_or_same (x ∷ xs) (suc k) d e l = get_or_same xs k d e (omega (arith, l))

pub labels_within : (octs : List Bounds) (labels : List ℕ) → AreParts octs labels → All (λ label. label < length labels) labels
labels_within octs labels a k d l =
    let m : k < length octs = omega (arith, l, a.each) in
    let most = label_most octs labels a k m in
    subst (λ (x : ℕ). x < length labels) (get_or_same labels k 0 d l) (omega (arith, most, l))

-- ---- cells
pub staying_is : (edges : List Edge) (anchors : List Copper) (live : List Bounds) (mode : IslandMode) (cells pieces : List Bounds) (labels : List ℕ)
    (held begun spared : List Bool) → AreParts pieces labels → length pieces ≡ length cells
    → ((k : ℕ) → k < length pieces → (get_or held k false ≡ true) ↔ IsHeld pieces anchors live k)
    → ((m : ℕ) → m < length cells → (get_or begun m false ≡ true) ↔ IsBegun edges cells labels m)
    → ((m : ℕ) → m < length pieces → (get_or spared m false ≡ true) ↔ IsSparedAt mode pieces labels m)
    → (k : ℕ) → k < length cells → IsFlagged labels held begun spared k ↔ IsStaying edges anchors live mode cells pieces labels k
staying_is edges anchors live mode cells pieces labels held begun spared a same h b s k l =
    let m = get_or labels k 0 in
    let in_pieces : k < length pieces = omega (arith, l, same) in
    let most = label_most pieces labels a k in_pieces in
    let own = label_own pieces labels a k in_pieces in
    let label_in_cells : m < length cells = omega (arith, most, l) in
    let label_in_pieces : m < length pieces = omega (arith, most, in_pieces) in (
      λ f. let w = (b m label_in_cells).0 f.0 in
          record {
            first = w.cell;
            there = w.there;
            inside = w.inside;
            stays = elim f.1 [ inl t ↦ inl ((h k in_pieces).0 t) | inr t ↦ inr ((s m label_in_pieces).0 t).spared ];
          },
      λ w. (
        (b m label_in_cells).1 (record { own = own; cell = w.first; there = w.there; inside = w.inside }),
        elim w.stays [ inl t ↦ inl ((h k in_pieces).1 t) | inr t ↦ inr ((s m label_in_pieces).1 (record { own = own; spared = t })) ],
      ),
    )

-- ---- areas
count_alike : (P Q : ℤ → ℤ → Type 0) (n : ℕ) → ((x y : ℤ) → P x y ↔ Q x y) → IsCount P n → IsCount Q n
count_alike P Q n f a = record {
  spots = a.spots;
  are = record {
    distinct = a.are.distinct;
    same = λ x y. (λ h. (f x y).0 ((a.are.same x y).0 h), λ h. (a.are.same x y).1 ((f x y).1 h));
  };
  count = a.count;
}

pub large_is : SparedCountLaw → (rows octs : List Bounds) (area wide n : ℕ) (flag : Bool) → ((x y : ℤ) → HasPoint rows x y ↔ HasPoint octs x y) → IsCount (HasPoint rows) n
    → wide ≡ area → (flag ≡ true) ↔ (250000 * wide ≤ n) → (flag ≡ true) ↔ IsSparedPart octs (Below area)
large_is law rows octs area wide n flag f a same t =
    let c = law octs n area (count_alike (HasPoint rows) (HasPoint octs) n f a) in (
      λ e. let l = t.0 e in c.1 (omega (arith, l, same)),
      λ s. let l = c.0 s in t.1 (omega (arith, l, same)),
    )

-- the left end of an octagon's top side is in reach
pub first_room : (o : Bounds) → IsOct o → IsInRoom (2 ^ 40) (top_left o)
first_room o h =
    let t = h.tight in
    record {
      x = record { low = omega (arith, ints, t.top_left, h.x_low); high = omega (arith, ints, t.top, t.top_right, h.x_high) };
      y = record { low = omega (arith, ints, h.y_low); high = omega (arith, ints, t.top_left, t.left, t.bottom_left, h.y_high) };
    }

pub if_ok : {A E : Type 0} (P Q : A → Type 0) (r : Result A E) → ((x : A) → P x → Q x) → IfOk r P → IfOk r Q
if_ok P Q (Ok x) f h = f x h
if_ok P Q (Err e) f h = tt

-- all cells at once
pub are_staying : (edges : List Edge) (anchors : List Copper) (live : List Bounds) (mode : IslandMode) (cells pieces : List Bounds) (labels : List ℕ)
    (held begun spared : List Bool) → AreParts pieces labels → length pieces ≡ length cells
    → ((k : ℕ) → k < length pieces → (get_or held k false ≡ true) ↔ IsHeld pieces anchors live k)
    → ((m : ℕ) → m < length cells → (get_or begun m false ≡ true) ↔ IsBegun edges cells labels m)
    → ((m : ℕ) → m < length pieces → (get_or spared m false ≡ true) ↔ IsSparedAt mode pieces labels m)
    → (v : List Bool) → (length v ≡ length labels) × ((k : ℕ) → k < length labels → (get_or v k false ≡ true) ↔ IsFlagged labels held begun spared k)
    → AreStaying edges anchors live mode cells pieces v
are_staying edges anchors live mode cells pieces labels held begun spared a same h b s v f =
    let each = a.each in
    record {
      labels = labels;
      parts = a;
      count = omega (arith, f.0, each, same);
      each = λ k l.
          let t = f.1 k (omega (arith, l, each, same)) in
          let u = staying_is edges anchors live mode cells pieces labels held begun spared a same h b s k l in
          (λ e. u.0 (t.0 e), λ w. t.1 (u.1 w));
    }

-- the piece that is its part's first is spared where its part is
pub spared_at : (mode : IslandMode) (pieces : List Bounds) (labels : List ℕ) (m label : ℕ) (flag : Bool) → label ≡ get_or labels m 0 → label ≡ m
    → (flag ≡ true) ↔ IsSparedPart (with_label labels label pieces) mode → (flag ≡ true) ↔ IsSparedAt mode pieces labels m
spared_at mode pieces labels m label flag at own h = (
  λ e. record { own = sym at ∙ own; spared = subst (λ (x : ℕ). IsSparedPart (with_label labels x pieces) mode) own (h.0 e) },
  λ s. h.1 (subst (λ (x : ℕ). IsSparedPart (with_label labels x pieces) mode) (sym own) s.spared),
)
