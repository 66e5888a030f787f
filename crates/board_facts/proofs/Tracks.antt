-- Tracks and vias of an accepted board.
use Rattle.std.proofs.Common.{◌≡◌, sym, subst, ℕ, ◌≤◌, arith, Bool, false, List, length, Option, None, Some}
use Rattle.std.specs.Prelude.{ℤ, nat_lt, codes, ◌==◌}
use Rattle.std.proofs.lemmas.Bool.Decides.{nat_tests}
use Rattle.sexpr_text.specs.Items.{Item}
use Rattle.outline_slab.specs.declared.error.OutlineFault.{OutlineFault}
use Rattle.board_language.specs.declared.board.Track as tracks
use Rattle.board_language.specs.declared.board.Via as vias
use Rattle.board_text.specs.Fields.{list_of}
use Rattle.board_text.specs.Things.{Placed, Thing, Track, Via, thing_of}
use Rattle.board_text.specs.Items.{Context, size_of, is_no_length, is_no_size, is_below_zero, length_in}
use Rattle.board_language.specs.Tracks.{track_layer, via_layer, track_of, via_of}
use Rattle.board_language.specs.Counts.{is_one_too_many}
use Rattle.board_language.specs.Offences.{is_double_stamp, kind_as}
use Rattle.board_language.specs.Reading.{track_from, via_from}
use Rattle.board_language.specs.Facts.{IsCopperSize, IsSoundTrack, IsSoundVia}
use Rattle.board_facts.proofs.Near.{point_near}
use Rattle.board_facts.proofs.Layers.{number_below, between_below}
use Rattle.board_facts.proofs.Passed.{no_some, of_some, or_front, or_back, IsPassedCopper, IsPassedTrack, track_passed, via_passed}
use Rattle.board_facts.proofs.Tried.{IsTried}

-- ---- lengths and sizes that are read

no_more : (n : ℕ) → nat_lt 100000000 n ≡ false → n ≤ 100000000
no_more n e = grind (arith, nat_tests)

some_size : (n : ℕ) → (n == 0) ≡ false → 1 ≤ n
some_size n e = grind (arith, nat_tests)

pub length_read : (z : ℤ) → is_no_length z ≡ false → size_of z ≤ 100000000
length_read z e = no_more (size_of z) (or_back (is_below_zero z) (nat_lt 100000000 (size_of z)) e)

pub size_read : (z : ℤ) → is_no_size z ≡ false → IsCopperSize (size_of z)
size_read z e =
    record {
      least = some_size (size_of z) (or_back (is_no_length z) (size_of z == 0) e);
      most = length_read z (or_front (is_no_length z) (size_of z == 0) e);
    }

-- ---- tracks

track_sized : (c : Context) (item : Item) (double many : Bool) → IsPassedTrack c item double many → IsSoundTrack (length c.copper) (track_of c item)
unfolding track_of
track_sized c item double many h =
    record {
      from = point_near c.bytes (list_of c.bytes (codes "start") item);
      to = point_near c.bytes (list_of c.bytes (codes "end") item);
      width = size_read (length_in c.bytes (codes "width") item) h.both.size;
      layer = number_below c.copper (track_layer c.bytes item) h.known;
    }

track_by : (c : Context) (before : List Placed) (p : Placed) (outline : Option OutlineFault) (y : tracks.Track) (t : Thing) → track_from c p.item t ≡ Some y → None ≡ kind_as c before p outline t → IsSoundTrack (length c.copper) y
track_by c before p outline y Track e k =
    let double = is_double_stamp c before p.item in
    let many = is_one_too_many c before p in
    subst (IsSoundTrack (length c.copper)) (of_some (track_of c p.item) y e) (track_sized c p.item double many (track_passed c p.item double many (sym k)))
track_by c before p outline y _ e k = no_some y e

pub track_read : (c : Context) (items : List Placed) (y : tracks.Track) → IsTried c items track_from y → IsSoundTrack (length c.copper) y
track_read c items y r = track_by c r.before r.item r.outline y (thing_of c.bytes r.item) r.got r.none

-- ---- vias

via_sized : (c : Context) (item : Item) (double many : Bool) → IsPassedCopper c (codes "size") item double many → IsSoundVia (length c.copper) (via_of c item)
unfolding via_of
via_sized c item double many h =
    record {
      at = point_near c.bytes (list_of c.bytes (codes "at") item);
      size = size_read (length_in c.bytes (codes "size") item) h.size;
      among = between_below c.copper (via_layer c.bytes 0 item) (via_layer c.bytes 1 item);
    }

via_by : (c : Context) (before : List Placed) (p : Placed) (outline : Option OutlineFault) (y : vias.Via) (t : Thing) → via_from c p.item t ≡ Some y → None ≡ kind_as c before p outline t → IsSoundVia (length c.copper) y
via_by c before p outline y Via e k =
    let double = is_double_stamp c before p.item in
    let many = is_one_too_many c before p in
    subst (IsSoundVia (length c.copper)) (of_some (via_of c p.item) y e) (via_sized c p.item double many (via_passed c p.item double many (sym k)))
via_by c before p outline y _ e k = no_some y e

pub via_read : (c : Context) (items : List Placed) (y : vias.Via) → IsTried c items via_from y → IsSoundVia (length c.copper) y
via_read c items y r = via_by c r.before r.item r.outline y (thing_of c.bytes r.item) r.got r.none
