-- What stamps stand for on a board that is read is what they stand for in its text.
use Rattle.std.proofs.Common.{◌≡◌, ◌∙◌, refl, ap, sym, ℕ, List, slice_get, Option, None, Some}
use Rattle.std.specs.Prelude.{◌↔◌}
use Rattle.std.proofs.lemmas.Option.{none-some, same_Some}
use Rattle.sexpr_text.specs.Items.{Item}
use Rattle.sexpr_text.specs.Trees.{IsRoot}
use Rattle.board_text.specs.declared.stamped.Stamped.{Stamped}
use Rattle.board_text.specs.declared.stamped.Stamped.TheVariants as things
use Rattle.board_language.specs.declared.board.Track.{Track}
use Rattle.board_language.specs.declared.board.Via.{Via}
use Rattle.board_language.specs.declared.board.Rules.{Rules}
use Rattle.board_language.specs.Stamps.{stamp_of}
use Rattle.board_items.specs.Stamps.{stamped}
use Rattle.board_model.specs.Whole.{Whole, whole_board}
use Rattle.board_model.proofs.OneStamp.{stamps_are}
use Rattle.edit_language.proofs.OneRoot.{one_root}
use Rattle.board_edit.specs.Edited.{IsReadOf}
use Rattle.board_edit.proofs.Boards.{rules_so}
use Rattle.dirty_rules.specs.Dirty.{HasTrack, HasVia, HasZone}
use Rattle.dirtied.specs.Inner.Named.{track_in, via_in, zone_number_in}

-- the board at the root of its text, under its rules
at_root : (text : List ℕ) (root : Item) (rules : Rules) (w : Whole) → IsReadOf text w → w.board.rules ≡ rules → IsRoot text root → w ≡ whole_board text root rules
at_root text root rules w h e r =
    let k : h.rules ≡ rules = sym (rules_so text h.root h.rules w h.board_is) ∙ e in
    h.board_is ∙ ap (λ x. whole_board text x h.rules) (one_root text h.root root h.is_root r) ∙ ap (whole_board text root) k

stamp_is : (text : List ℕ) (root : Item) (rules : Rules) (w : Whole) (stamp : List ℕ) → w ≡ whole_board text root rules → stamped w.stamps stamp ≡ stamp_of text root stamp
stamp_is text root rules w stamp e = ap (λ k. stamped k.stamps stamp) e ∙ stamps_are text root stamp

-- ---- tracks

track_so : (text : List ℕ) (rules : Rules) (w : Whole) (stamp : List ℕ) (track : Track) → IsReadOf text w → w.board.rules ≡ rules → HasTrack text rules stamp track
    → track_in w.board (stamped w.stamps stamp) ≡ Some track
track_so text rules w stamp track h e t =
    let a = at_root text t.root rules w h e t.is_root in
    ap (track_in w.board) (stamp_is text t.root rules w stamp a ∙ t.stamped) ∙ ap (λ k. slice_get k.board.tracks t.number) a ∙ t.is

track_from : (text : List ℕ) (rules : Rules) (w : Whole) (stamp : List ℕ) (track : Track) (o : Option Stamped) → IsReadOf text w → w.board.rules ≡ rules → stamped w.stamps stamp ≡ o
    → track_in w.board o ≡ Some track → HasTrack text rules stamp track
track_from text rules w stamp track None h e s t = absurd (none-some track t)
track_from text rules w stamp track (Some (things.Track n)) h e s t =
    let a = at_root text h.root rules w h e h.is_root in
    record {
      root = h.root;
      is_root = h.is_root;
      number = n;
      stamped = sym (stamp_is text h.root rules w stamp a) ∙ s;
      is = ap (λ k. slice_get k.board.tracks n) (sym a) ∙ t;
    }
track_from text rules w stamp track (Some (things.Via n)) h e s t = absurd (none-some track t)
track_from text rules w stamp track (Some (things.Zone n)) h e s t = absurd (none-some track t)
track_from text rules w stamp track (Some things.Other) h e s t = absurd (none-some track t)

pub track_is : (text : List ℕ) (rules : Rules) (w : Whole) (stamp : List ℕ) (track : Track) → IsReadOf text w → w.board.rules ≡ rules
    → (track_in w.board (stamped w.stamps stamp) ≡ Some track) ↔ HasTrack text rules stamp track
track_is text rules w stamp track h e = (λ t. track_from text rules w stamp track (stamped w.stamps stamp) h e refl t, λ t. track_so text rules w stamp track h e t)

-- ---- vias

via_so : (text : List ℕ) (rules : Rules) (w : Whole) (stamp : List ℕ) (via : Via) → IsReadOf text w → w.board.rules ≡ rules → HasVia text rules stamp via
    → via_in w.board (stamped w.stamps stamp) ≡ Some via
via_so text rules w stamp via h e v =
    let a = at_root text v.root rules w h e v.is_root in
    ap (via_in w.board) (stamp_is text v.root rules w stamp a ∙ v.stamped) ∙ ap (λ k. slice_get k.board.vias v.number) a ∙ v.is

via_from : (text : List ℕ) (rules : Rules) (w : Whole) (stamp : List ℕ) (via : Via) (o : Option Stamped) → IsReadOf text w → w.board.rules ≡ rules → stamped w.stamps stamp ≡ o
    → via_in w.board o ≡ Some via → HasVia text rules stamp via
via_from text rules w stamp via None h e s v = absurd (none-some via v)
via_from text rules w stamp via (Some (things.Track n)) h e s v = absurd (none-some via v)
via_from text rules w stamp via (Some (things.Via n)) h e s v =
    let a = at_root text h.root rules w h e h.is_root in
    record {
      root = h.root;
      is_root = h.is_root;
      number = n;
      stamped = sym (stamp_is text h.root rules w stamp a) ∙ s;
      is = ap (λ k. slice_get k.board.vias n) (sym a) ∙ v;
    }
via_from text rules w stamp via (Some (things.Zone n)) h e s v = absurd (none-some via v)
via_from text rules w stamp via (Some things.Other) h e s v = absurd (none-some via v)

pub via_is : (text : List ℕ) (rules : Rules) (w : Whole) (stamp : List ℕ) (via : Via) → IsReadOf text w → w.board.rules ≡ rules
    → (via_in w.board (stamped w.stamps stamp) ≡ Some via) ↔ HasVia text rules stamp via
via_is text rules w stamp via h e = (λ v. via_from text rules w stamp via (stamped w.stamps stamp) h e refl v, λ v. via_so text rules w stamp via h e v)

-- ---- zones

zone_so : (text : List ℕ) (rules : Rules) (w : Whole) (stamp : List ℕ) (n : ℕ) → IsReadOf text w → w.board.rules ≡ rules → HasZone text stamp n → zone_number_in (stamped w.stamps stamp) ≡ Some n
zone_so text rules w stamp n h e z = ap zone_number_in (stamp_is text z.root rules w stamp (at_root text z.root rules w h e z.is_root) ∙ z.stamped)

zone_from : (text : List ℕ) (rules : Rules) (w : Whole) (stamp : List ℕ) (n : ℕ) (o : Option Stamped) → IsReadOf text w → w.board.rules ≡ rules → stamped w.stamps stamp ≡ o
    → zone_number_in o ≡ Some n → HasZone text stamp n
zone_from text rules w stamp n None h e s z = absurd (none-some n z)
zone_from text rules w stamp n (Some (things.Track m)) h e s z = absurd (none-some n z)
zone_from text rules w stamp n (Some (things.Via m)) h e s z = absurd (none-some n z)
zone_from text rules w stamp n (Some (things.Zone m)) h e s z =
    record {
      root = h.root;
      is_root = h.is_root;
      stamped = sym (stamp_is text h.root rules w stamp (at_root text h.root rules w h e h.is_root)) ∙ s ∙ ap (λ k. Some (things.Zone k)) (same_Some m n z);
    }
zone_from text rules w stamp n (Some things.Other) h e s z = absurd (none-some n z)

pub zone_is : (text : List ℕ) (rules : Rules) (w : Whole) (stamp : List ℕ) (n : ℕ) → IsReadOf text w → w.board.rules ≡ rules
    → (zone_number_in (stamped w.stamps stamp) ≡ Some n) ↔ HasZone text stamp n
zone_is text rules w stamp n h e = (λ z. zone_from text rules w stamp n (stamped w.stamps stamp) h e refl z, λ z. zone_so text rules w stamp n h e z)
