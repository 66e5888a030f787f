-- What is tried item by item is what the board's definition says: none offends, or the first that does.
use Rattle.std.proofs.Common.{◌≡◌, inl, inr, ◌∙◌, ap, sym, refl, subst, ℕ, Bool, true, false, cond, List, [], ◌∷◌, ◌++◌, ◌||◌, append_assoc, append-nil, get_or, drop, length, Option, None, Some}
use Rattle.std.specs.Prelude.{sum_by}
use Rattle.std.proofs.Math.Nat.{suc-ne-zero}
use Rattle.board_text.specs.Layers.{Name}
use Rattle.board_items.specs.Stamps.{stamps_of}
use Rattle.outline_slab.specs.declared.error.OutlineFault.{OutlineFault}
use Rattle.board_language.specs.declared.offence.OffenceKind.{OffenceKind}
use Rattle.board_text.specs.Things.{Placed, Thing, Board, Layers, Net, Track, CurvedTrack, Via, Footprint, RuleArea, Zone, Drawing, Pad, FootprintDrawing, FootprintZone, Other, thing_of}
use Rattle.board_text.specs.Items.{Context, stamp_in, declared_net, line_of}
use Rattle.board_language.specs.Pads.{is_read_pad}
use Rattle.board_language.specs.Zones.{is_read_zone, is_read_area}
use Rattle.board_language.specs.Counts.{things_of, things_as, outlines_of, outlines_as, is_first_over, is_one_too_many}
use Rattle.board_language.specs.Offences.{kind_as, kind_with, IsKindOf, layers_kind, net_kind, track_kind, via_kind, pad_kind, zone_kind, area_kind, stamp_kind, drawing_kind, is_double_net, is_double_stamp, is_declared_among, is_stamped_among, stamps_among}
use Rattle.board_language.specs.Reading.{AreSound, IsFirstOffence}
use Rattle.board_language.specs.declared.offence.Offence.{Offence}
use Rattle.board_model.specs.State.{State, nothing_read_yet}
use Rattle.board_model.specs.Steps.{kind_by, is_over, is_double, IsKindBy}
use Rattle.board_model.specs.Run.{after, AreSoundFrom, OffendsFirst}
use Rattle.board_model.proofs.Marked.{Marked, none_marked, next_marked}

-- ---- one item

module _ (c : Context) (s : State) (before : List Placed) (p : Placed) (h : Marked c s before) where
  double_net : is_declared_among s.nets (declared_net c.bytes p.item) ≡ is_double_net c before p.item
  double_net = ap (λ ns. is_declared_among ns (declared_net c.bytes p.item)) h.nets

  double_stamp : is_double c s p.item ≡ is_double_stamp c before p.item
  double_stamp = by_name (stamp_in c.bytes p.item)
    where
      by_name : (o : Option Name) → is_stamped_among (stamps_of s.stamps) o ≡ is_stamped_among (stamps_among c.bytes before) o
      by_name None = refl
      by_name (Some name) = h.stamps name

  over_as : (t : Thing) → thing_of c.bytes p ≡ t → is_over s (things_as c p.item t) (outlines_as c p.item t) ≡ is_one_too_many c before p
  unfolding is_one_too_many things_of outlines_of
  over_as t e =
      ap (λ u. is_over s (things_as c p.item u) (outlines_as c p.item u)) (sym e)
      ∙ ap (λ n. is_first_over 200000 n (things_as c p.item (thing_of c.bytes p)) || is_first_over 2000 s.outlines (outlines_as c p.item (thing_of c.bytes p))) h.things
      ∙ ap (λ n. is_first_over 200000 (sum_by (things_of c) before) (things_as c p.item (thing_of c.bytes p)) || is_first_over 2000 n (outlines_as c p.item (thing_of c.bytes p))) h.outlines

  -- where an item is read, it counts
  if_read : {X : Type 0} (b : Bool) (f : ℕ → X) (x : X) → cond b (f 1) x ≡ cond b (f (cond b 1 0)) x
  if_read true f x = refl
  if_read false f x = refl

  if_both : {X : Type 0} (b : Bool) (x x' y y' : X) → x ≡ x' → y ≡ y' → cond b x y ≡ cond b x' y'
  if_both true x x' y y' e g = e
  if_both false x x' y y' e g = g

  same_kind : (outline : Option OutlineFault) (t : Thing) → thing_of c.bytes p ≡ t → kind_by c s p.item outline t ≡ kind_as c before p outline t
  same_kind outline Board e = refl
  same_kind outline Layers e = ap (λ b. cond b None (layers_kind c p.item)) h.layers
  same_kind outline Net e = ap (λ d. net_kind c p.item d (is_over s 1 0)) double_net ∙ ap (net_kind c p.item (is_double_net c before p.item)) (over_as Net e)
  same_kind outline Track e = ap (λ d. track_kind c p.item d (is_over s 1 0)) double_stamp ∙ ap (track_kind c p.item (is_double_stamp c before p.item)) (over_as Track e)
  same_kind outline CurvedTrack e = refl
  same_kind outline Via e = ap (λ d. via_kind c p.item d (is_over s 1 0)) double_stamp ∙ ap (via_kind c p.item (is_double_stamp c before p.item)) (over_as Via e)
  same_kind outline Footprint e = refl
  same_kind outline RuleArea e =
      let read = is_read_area c p.item in
      if_read read (λ n. area_kind c p.item outline (is_double c s p.item) (is_over s 0 n)) (stamp_kind (is_double c s p.item))
      ∙ if_both read _ _ _ _
      (ap (λ d. area_kind c p.item outline d (is_over s 0 (cond read 1 0))) double_stamp ∙ ap (area_kind c p.item outline (is_double_stamp c before p.item)) (over_as RuleArea e))
      (ap stamp_kind double_stamp)
  same_kind outline Zone e =
      let read = is_read_zone c p.item in
      if_read read (λ n. zone_kind c p.item outline (is_double c s p.item) (is_over s n n)) (stamp_kind (is_double c s p.item))
      ∙ if_both read _ _ _ _
      (ap (λ d. zone_kind c p.item outline d (is_over s (cond read 1 0) (cond read 1 0))) double_stamp ∙ ap (zone_kind c p.item outline (is_double_stamp c before p.item)) (over_as Zone e))
      (ap stamp_kind double_stamp)
  same_kind outline Drawing e = ap (drawing_kind c p.item) (over_as Drawing e)
  same_kind outline (Pad footprint) e =
      let read = is_read_pad c p.item in
      if_read read (λ n. pad_kind c footprint p.item (is_over s n 0)) None
      ∙ if_both read _ _ _ _ (ap (pad_kind c footprint p.item) (over_as (Pad footprint) e)) refl
  same_kind outline FootprintDrawing e = refl
  same_kind outline FootprintZone e = refl
  same_kind outline Other e = refl

  pub kind_is : (kind : Option OffenceKind) → IsKindBy c s p.item (thing_of c.bytes p) kind → IsKindOf c before p kind
  unfolding kind_with
  kind_is kind k =
      record {
        outline = k.outline;
        is_outline = k.is_outline;
        is_kind = k.is_kind ∙ same_kind k.outline (thing_of c.bytes p) refl;
      }

-- ---- a list of items

head_is : {X : Type 0} (x y : X) (xs ys : List X) → x ∷ xs ≡ y ∷ ys → (x ≡ y) × (xs ≡ ys)
head_is x y xs ys e = (ap (λ l. get_or l 0 x) e, ap (drop 1) e)

no_split : {X : Type 0} (front tail : List X) (q : X) → [] ≡ front ++ q ∷ tail → ⊥
no_split [] tail q e = suc-ne-zero (length tail) (sym (ap length e))
no_split (x ∷ xs) tail q e = suc-ne-zero (length (xs ++ q ∷ tail)) (sym (ap length e))

longer : (before mid : List Placed) (q : Placed) → (before ++ q ∷ []) ++ mid ≡ before ++ q ∷ mid
longer before mid q = append_assoc before (q ∷ []) mid

each_sound : (c : Context) (s : State) (before rest : List Placed) → Marked c s before → AreSoundFrom c s rest
    → (mid behind : List Placed) (p : Placed) → rest ≡ mid ++ p ∷ behind → IsKindOf c (before ++ mid) p None
unfolding AreSoundFrom
each_sound c s before [] h sound mid behind p e = absurd (no_split mid behind p e)
each_sound c s before (x ∷ xs) h sound [] behind p e =
    let is = head_is x p xs behind e in
    subst (λ b. IsKindOf c b p None) (sym (append-nil before)) (subst (λ q. IsKindOf c before q None) is.0 (kind_is c s before x h None sound.0))
each_sound c s before (x ∷ xs) h sound (q ∷ mid) behind p e =
    let is = head_is x q xs (mid ++ p ∷ behind) e in
    let next = each_sound c (after c s x) (before ++ x ∷ []) xs (next_marked c s before x h) sound.1 mid behind p is.1 in
    subst (λ y. IsKindOf c (before ++ y ∷ mid) p None) is.0 (subst (λ b. IsKindOf c b p None) (longer before mid x) next)

-- nothing offends, where nothing does item by item
pub all_sound : (c : Context) (items : List Placed) → AreSoundFrom c nothing_read_yet items → AreSound c items
all_sound c items sound before behind p e = each_sound c nothing_read_yet [] items (none_marked c) sound before behind p e

-- of a list behind others, the first item that offends
record IsFirst (c : Context) (before rest : List Placed) (o : Offence) : Type 0 where
  mid : List Placed
  behind : List Placed
  item : Placed
  stands : rest ≡ mid ++ item ∷ behind
  sound : (front tail : List Placed) (q : Placed) → mid ≡ front ++ q ∷ tail → IsKindOf c (before ++ front) q None
  is_kind : IsKindOf c (before ++ mid) item (Some o.kind)
  at_item : o.at ≡ item.item.from
  on_line : o.line ≡ line_of c.bytes o.at

first_is : (c : Context) (s : State) (before rest : List Placed) (o : Offence) → Marked c s before → OffendsFirst c s rest o → IsFirst c before rest o
unfolding OffendsFirst
first_is c s before [] o h f = absurd f
first_is c s before (x ∷ xs) o h (inl f) =
    record {
      mid = [];
      behind = xs;
      item = x;
      stands = refl;
      sound = λ front tail q e. absurd (no_split front tail q e);
      is_kind = subst (λ b. IsKindOf c b x (Some o.kind)) (sym (append-nil before)) (kind_is c s before x h (Some o.kind) f.is_kind);
      at_item = f.at_item;
      on_line = f.on_line;
    }
first_is c s before (x ∷ xs) o h (inr f) =
    let r = first_is c (after c s x) (before ++ x ∷ []) xs o (next_marked c s before x h) f.1 in
    record {
      mid = x ∷ r.mid;
      behind = r.behind;
      item = r.item;
      stands = ap (λ ys. x ∷ ys) r.stands;
      sound = earlier r.mid r.sound;
      is_kind = subst (λ b. IsKindOf c b r.item (Some o.kind)) (longer before r.mid x) r.is_kind;
      at_item = r.at_item;
      on_line = r.on_line;
    }
  where
    earlier : (mid : List Placed) → ((front tail : List Placed) (q : Placed) → mid ≡ front ++ q ∷ tail → IsKindOf c ((before ++ x ∷ []) ++ front) q None)
        → (front tail : List Placed) (q : Placed) → x ∷ mid ≡ front ++ q ∷ tail → IsKindOf c (before ++ front) q None
    earlier mid r [] tail q e =
        subst (λ b. IsKindOf c b q None) (sym (append-nil before)) (subst (λ y. IsKindOf c before y None) (head_is x q mid tail e).0 (kind_is c s before x h None f.0))
    earlier mid r (y ∷ ys) tail q e =
        let is = head_is x y mid (ys ++ q ∷ tail) e in
        subst (λ z. IsKindOf c (before ++ z ∷ ys) q None) is.0 (subst (λ b. IsKindOf c b q None) (longer before ys x) (r ys tail q is.1))

-- the first item that offends, where it does item by item
pub first_offence : (c : Context) (items : List Placed) (o : Offence) → OffendsFirst c nothing_read_yet items o → IsFirstOffence c items o.at o.line o.kind
first_offence c items o f =
    let r = first_is c nothing_read_yet [] items o (none_marked c) f in
    record {
      before = r.mid;
      after = r.behind;
      item = r.item;
      stands = r.stands;
      sound = λ front tail q e. r.sound front tail q e;
      is_kind = r.is_kind;
      at_item = r.at_item;
      on_line = r.on_line;
    }
