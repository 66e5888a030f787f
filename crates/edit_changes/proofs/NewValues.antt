-- What is read of a new track or via is what the edit says of it.
use Rattle.std.proofs.Common.{◌≡◌, ◌∙◌, refl, ap, ℕ, Bool, List, codes}
use Rattle.std.specs.Prelude.{ℤ, pos}
use Rattle.grid_num.specs.declared.Point.{Point}
use Rattle.sexpr_text.specs.Items.{Item}
use Rattle.board_text.specs.Fields.{list_of}
use Rattle.board_text.specs.Numbers.{value_at, length_of, whole_number}
use Rattle.board_text.specs.Layers.{Name, name_at, names_of, layer_number, layers_between}
use Rattle.board_text.specs.Items.{Context, size_of}
use Rattle.board_language.specs.declared.board.Track.{Track}
use Rattle.board_language.specs.declared.board.Via.{Via}
use Rattle.board_language.specs.Tracks.{track_of, via_of}
use Rattle.fill_rules.specs.Edits.{unplaced, unplaced_via}
use Rattle.text_shapes.specs.Seen.{ItemSeen, item_seen}
use Rattle.text_shapes.specs.Spellings.{contents}
use Rattle.text_shapes.proofs.Seen.{sub, sub_seen, value_in, value_seen, texts_there, texts_there_seen}
use Rattle.edit_language.specs.Scripts.{IsPointInRange, IsSize, IsWholeNumber, IsName}
use Rattle.edit_changes.specs.Changes.{track_named, via_named}
use Rattle.edit_changes.proofs.Holes.{list_seen}
use Rattle.edit_changes.proofs.Lines.{named_same, name_bytes, track_spelt, via_spelt}
use Rattle.edit_changes.proofs.Numbers.{mm_read, size_read, whole_read}

-- a value of the list with a head, by what is seen of the item
value_read : {X : Type 0} (read : List ℕ → X) (bytes name : List ℕ) (place : ℕ) (absent : X) (i : Item) (s : ItemSeen) (x : X) → item_seen bytes i ≡ s → value_in read place absent (sub name s) ≡ x
    → value_at read bytes place absent (list_of bytes name i) ≡ x
value_read read bytes name place absent i s x e f =
    value_seen read bytes place absent (list_of bytes name i) ∙ ap (value_in read place absent) (sub_seen bytes name i ∙ ap (sub name) e) ∙ f

names_read : (bytes name : List ℕ) (place : ℕ) (i : Item) (s : ItemSeen) (x : Name) → item_seen bytes i ≡ s → name_at place (texts_there (sub name s)) ≡ x
    → name_at place (names_of bytes (list_of bytes name i)) ≡ x
names_read bytes name place i s x e f =
    ap (name_at place) (texts_there_seen bytes (list_of bytes name i) ∙ ap texts_there (sub_seen bytes name i ∙ ap (sub name) e)) ∙ f

point_at : ℤ → ℤ → Point
point_at x y = record { x = x; y = y }

point_is : (p : Point) (x y : ℤ) → x ≡ p.x → y ≡ p.y → point_at x y ≡ p
unfolding point_at
point_is p x y e f = ap (λ z. point_at z y) e ∙ ap (point_at p.x) f

abbrev track_by : Point → Point → ℕ → ℕ → ℕ → Track
track_by f t w l n = record { from = f; to = t; width = w; layer = l; net = n; span = record { from = 0; to = 0 }; line = 0 }

track_parts : {f g t u : Point} {w x l m n o : ℕ} → f ≡ g → t ≡ u → w ≡ x → l ≡ m → n ≡ o → track_by f t w l n ≡ track_by g u x m o
track_parts a b c d e = rw (a, b, c, d, e) refl

abbrev via_by : Point → ℕ → ℕ → ℕ → Via
via_by p s l n = record { at = p; size = s; layers = l; net = n; span = record { from = 0; to = 0 }; line = 0 }

via_parts : {p q : Point} {s t l m n o : ℕ} → p ≡ q → s ≡ t → l ≡ m → n ≡ o → via_by p s l n ≡ via_by q t m o
via_parts a b c d = rw (a, b, c, d) refl

pub track_read : (c : Context) (i : Item) (uuids : Bool) (from to : Point) (width : ℕ) (layer : List ℕ) (net : ℕ) (stamp : List ℕ)
    → item_seen c.bytes i ≡ list_seen (contents (track_spelt uuids from to width layer net stamp)) → IsPointInRange from → IsPointInRange to → IsSize width → IsName layer → IsWholeNumber net
    → unplaced (track_of c i) ≡ track_named c.copper from to width layer net
unfolding track_of point_at
track_read c i uuids from to width layer net stamp e f t w y n =
    let s : ItemSeen = list_seen (contents (track_spelt uuids from to width layer net stamp)) in
    track_parts
    (point_is from _ _ (value_read length_of c.bytes (codes "start") 0 (pos 0) i s from.x e (mm_read from.x f.0)) (value_read length_of c.bytes (codes "start") 1 (pos 0) i s from.y e (mm_read from.y f.1)))
    (point_is to _ _ (value_read length_of c.bytes (codes "end") 0 (pos 0) i s to.x e (mm_read to.x t.0)) (value_read length_of c.bytes (codes "end") 1 (pos 0) i s to.y e (mm_read to.y t.1)))
    (ap size_of (value_read length_of c.bytes (codes "width") 0 (pos 0) i s (pos width) e (size_read width w)))
    (ap (layer_number c.copper) (names_read c.bytes (codes "layer") 0 i s layer e (named_same layer (name_bytes layer y))))
    (value_read whole_number c.bytes (codes "net") 0 0 i s net e (whole_read net n))

pub via_read : (c : Context) (i : Item) (uuids : Bool) (at : Point) (size drill : ℕ) (top bottom : List ℕ) (net : ℕ) (stamp : List ℕ)
    → item_seen c.bytes i ≡ list_seen (contents (via_spelt uuids at size drill top bottom net stamp)) → IsPointInRange at → IsSize size → IsName top → IsName bottom → IsWholeNumber net
    → unplaced_via (via_of c i) ≡ via_named c.copper at size top bottom net
unfolding via_of point_at
via_read c i uuids at size drill top bottom net stamp e f w t y n =
    let s : ItemSeen = list_seen (contents (via_spelt uuids at size drill top bottom net stamp)) in
    via_parts
    (point_is at _ _ (value_read length_of c.bytes (codes "at") 0 (pos 0) i s at.x e (mm_read at.x f.0)) (value_read length_of c.bytes (codes "at") 1 (pos 0) i s at.y e (mm_read at.y f.1)))
    (ap size_of (value_read length_of c.bytes (codes "size") 0 (pos 0) i s (pos size) e (size_read size w)))
    (ap (λ z. layers_between c.copper z (name_at 1 (names_of c.bytes (list_of c.bytes (codes "layers") i)))) (names_read c.bytes (codes "layers") 0 i s top e (named_same top (name_bytes top t)))
    ∙ ap (layers_between c.copper top) (names_read c.bytes (codes "layers") 1 i s bottom e (named_same bottom (name_bytes bottom y))))
    (value_read whole_number c.bytes (codes "net") 0 0 i s net e (whole_read net n))
