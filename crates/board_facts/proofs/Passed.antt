-- What holds of an item in which nothing offends, kind by kind: each kind of offence was tried, and doesn't hold.
use Rattle.std.proofs.Common.{◌≡◌, refl, ap, ℕ, zero, suc, Bool, true, false, not, List, [], ◌∷◌, ◌||◌, ◌&&◌, cond, get_or, Option, None, Some, is_some}
use Rattle.std.specs.Prelude.{nat_lt, filter, is_none, length, codes}
use Rattle.std.specs.List.{list_any}
use Rattle.std.specs.Option.{option_or}
use Rattle.std.proofs.lemmas.Bool.{false≢true, true≢false}
use Rattle.grid_num.specs.declared.read.NumFault.{NumFault}
use Rattle.sexpr_text.specs.Items.{Item, is_headed}
use Rattle.outline_slab.specs.declared.error.OutlineFault.{OutlineFault}
use Rattle.board_language.specs.declared.offence.OffenceKind.{OffenceKind}
use Rattle.board_language.specs.declared.offence.OffenceKind.TheVariants as kinds
use Rattle.board_text.specs.Fields.{list_of, has_list}
use Rattle.board_text.specs.Numbers.{first_of, is_short, whole_fault_at}
use Rattle.board_text.specs.Layers.{is_among, has_double, is_copper, layers_in, name_of_layer, has_unknown, layers_fault, layer_names_in}
use Rattle.board_text.specs.Items.{Context, size_of, is_no_size, length_in, net_of, is_unknown_net, has_bad_size, has_bad_length, version_of}
use Rattle.board_language.specs.Tracks.{track_fault, via_fault, track_layer, via_layer}
use Rattle.board_language.specs.Pads.{is_type, is_shape, pad_fault, has_read_pad, footprint_fault}
use Rattle.board_language.specs.Zones.{layer_list, thickness_in, corners_fault, zone_fault}
use Rattle.board_language.specs.Edges.{is_edge, is_on_copper, is_curved, lacks_points, edge_fault}
use Rattle.board_language.specs.Offences.{first_kind, when, number_offence, is_version, board_kind, layers_kind, net_kind, track_lacks, via_lacks, track_kind, via_kind, footprint_lacks, has_angle, is_bad_connect, footprint_kind, pad_types, pad_shapes, is_chamfered, is_off_hole, pad_lacks, pad_is_bad, pad_kind, has_teardrop, is_hatched, is_smoothed, has_other_mode, has_two_outlines, has_arc, outline_lacks, zone_lacks, zone_is_bad, bad_outline, is_long_outline, zone_kind, area_kind, drawing_kind}

-- ---- options and tests

pub no_some : {X Y : Type 0} (y : Y) → None ≡ Some y → X
no_some y e = absurd (false≢true (ap is_some e))

pub of_some : {Y : Type 0} (x y : Y) → Some x ≡ Some y → x ≡ y
of_some {Y} x y e = ap (λ (o : Option Y). from o) e
  where
    from : Option Y → Y
    from None = x
    from (Some z) = z

pub or_front : (a b : Bool) → (a || b) ≡ false → a ≡ false
or_front true b e = e
or_front false b e = refl

pub or_back : (a b : Bool) → (a || b) ≡ false → b ≡ false
or_back true b e = absurd (true≢false e)
or_back false b e = e

-- ---- where no kind holds, none at any place does

front : {K : Type 0} (a b : Option K) → option_or a b ≡ None → a ≡ None
front None b e = refl
front (Some k) b e = e

rest : {K : Type 0} (a b : Option K) → option_or a b ≡ None → b ≡ None
rest None b e = e
rest (Some k) b e = absurd (true≢false (ap is_some e))

none_at : (n : ℕ) (kinds : List (Option OffenceKind)) → first_kind kinds ≡ None → get_or kinds n None ≡ None
none_at n [] e = refl
none_at zero (k ∷ ks) e = front k (first_kind ks) e
none_at (suc n) (k ∷ ks) e = none_at n ks (rest k (first_kind ks) e)

pub no_fault_at : (n : ℕ) (faults : List (Option NumFault)) → first_of faults ≡ None → get_or faults n None ≡ None
no_fault_at n [] e = refl
no_fault_at zero (k ∷ ks) e = front k (first_of ks) e
no_fault_at (suc n) (k ∷ ks) e = no_fault_at n ks (rest k (first_of ks) e)

pub no_test : (kind : OffenceKind) (b : Bool) → when kind b ≡ None → b ≡ false
no_test kind true e = absurd (true≢false (ap is_some e))
no_test kind false e = refl

no_number : (fault : Option NumFault) → number_offence fault ≡ None → fault ≡ None
no_number None e = refl
no_number (Some fault) e = absurd (true≢false (ap is_some e))

no_outline_fault : (fault : Option OutlineFault) → bad_outline fault ≡ None → fault ≡ None
no_outline_fault None e = refl
no_outline_fault (Some fault) e = absurd (true≢false (ap is_some e))

pub no_not : (b : Bool) → not b ≡ false → b ≡ true
no_not true e = refl
no_not false e = absurd (true≢false e)

-- ---- the board and its layers

pub board_passed : (c : Context) (board : Item) → board_kind c board ≡ None → has_list c.bytes (codes "layers") board ≡ true
unfolding board_kind
board_passed c board e =
    let ks =
    when kinds.NotBoard (not (is_headed c.bytes (codes "kicad_pcb") board))
    ∷ when kinds.Version (not (is_version (version_of c.bytes board)))
    ∷ when kinds.MissingPart (not (has_list c.bytes (codes "layers") board))
    ∷ [] in
    no_not (has_list c.bytes (codes "layers") board) (no_test kinds.MissingPart (not (has_list c.bytes (codes "layers") board)) (none_at 2 ks e))

pub layers_passed : (c : Context) (layers : Item) → layers_kind c layers ≡ None → nat_lt 32 (length (filter is_copper (layer_names_in c.bytes layers))) ≡ false
unfolding layers_kind
layers_passed c layers e =
    let ks =
    when kinds.MissingPart (list_any (λ layer. is_none (name_of_layer c.bytes layer)) (layers_in layers))
    ∷ number_offence (layers_fault c.bytes layers)
    ∷ when kinds.DoubleLayer (has_double (layer_names_in c.bytes layers))
    ∷ when kinds.TooMany (nat_lt 32 (length (filter is_copper (layer_names_in c.bytes layers))))
    ∷ [] in
    no_test kinds.TooMany (nat_lt 32 (length (filter is_copper (layer_names_in c.bytes layers)))) (none_at 3 ks e)

-- ---- nets, tracks and vias

pub net_fits : (c : Context) (net : Item) (double many : Bool) → net_kind c net double many ≡ None → many ≡ false
unfolding net_kind
net_fits c net double many e =
    let ks = when kinds.MissingPart (is_short 1 (Some net)) ∷ number_offence (whole_fault_at c.bytes 0 (Some net)) ∷ when kinds.DoubleNet double ∷ when kinds.TooMany many ∷ [] in
    no_test kinds.TooMany many (none_at 3 ks e)

-- the width or size that this list says, another thing with the same stamp, and how many there are
pub record IsPassedCopper (c : Context) (name : List ℕ) (item : Item) (double many : Bool) : Type 0 where
  pub size : is_no_size (length_in c.bytes name item) ≡ false
  pub single : double ≡ false
  pub fits : many ≡ false

pub record IsPassedTrack (c : Context) (item : Item) (double many : Bool) : Type 0 where
  pub both : IsPassedCopper c (codes "width") item double many
  pub known : is_among c.copper (track_layer c.bytes item) ≡ true

pub track_passed : (c : Context) (item : Item) (double many : Bool) → track_kind c item double many ≡ None → IsPassedTrack c item double many
unfolding track_kind
track_passed c item double many e =
    let ks =
    when kinds.MissingPart (track_lacks c.bytes item)
    ∷ number_offence (track_fault c.bytes item)
    ∷ when kinds.BadSize (has_bad_size c.bytes (codes "width") item)
    ∷ when kinds.UnknownLayer (not (is_among c.copper (track_layer c.bytes item)))
    ∷ when kinds.UnknownNet (is_unknown_net c (net_of c.bytes item))
    ∷ when kinds.DoubleStamp double
    ∷ when kinds.TooMany many
    ∷ [] in
    record {
      both = record {
        size = no_test kinds.BadSize (has_bad_size c.bytes (codes "width") item) (none_at 2 ks e);
        single = no_test kinds.DoubleStamp double (none_at 5 ks e);
        fits = no_test kinds.TooMany many (none_at 6 ks e);
      };
      known = no_not (is_among c.copper (track_layer c.bytes item)) (no_test kinds.UnknownLayer (not (is_among c.copper (track_layer c.bytes item))) (none_at 3 ks e));
    }

pub via_passed : (c : Context) (item : Item) (double many : Bool) → via_kind c item double many ≡ None → IsPassedCopper c (codes "size") item double many
unfolding via_kind
via_passed c item double many e =
    let ks =
    when kinds.MissingPart (via_lacks c.bytes item)
    ∷ number_offence (via_fault c.bytes item)
    ∷ when kinds.BadSize (has_bad_size c.bytes (codes "size") item)
    ∷ when kinds.UnknownLayer (not (is_among c.copper (via_layer c.bytes 0 item) && is_among c.copper (via_layer c.bytes 1 item)))
    ∷ when kinds.UnknownNet (is_unknown_net c (net_of c.bytes item))
    ∷ when kinds.DoubleStamp double
    ∷ when kinds.TooMany many
    ∷ [] in
    record {
      size = no_test kinds.BadSize (has_bad_size c.bytes (codes "size") item) (none_at 2 ks e);
      single = no_test kinds.DoubleStamp double (none_at 5 ks e);
      fits = no_test kinds.TooMany many (none_at 6 ks e);
    }

-- ---- footprints and pads

-- the lengths that a footprint says for its pads
pub record IsPassedFootprint (bytes : List ℕ) (footprint : Item) : Type 0 where
  pub lengths : has_bad_length bytes (codes "clearance" ∷ codes "thermal_gap" ∷ codes "thermal_width" ∷ []) footprint ≡ false

pub footprint_passed : (c : Context) (item : Item) → footprint_kind c item ≡ None → IsPassedFootprint c.bytes item
unfolding footprint_kind
footprint_passed c item e =
    let ks =
    when kinds.MissingPart (footprint_lacks c item)
    ∷ number_offence (footprint_fault c.bytes item)
    ∷ when kinds.Angle (has_read_pad c item && not (has_angle c.bytes item))
    ∷ when kinds.BadSize (has_bad_length c.bytes (codes "clearance" ∷ codes "thermal_gap" ∷ codes "thermal_width" ∷ []) item || is_bad_connect c.bytes item)
    ∷ [] in
    record { lengths = or_front _ (is_bad_connect c.bytes item) (no_test kinds.BadSize _ (none_at 3 ks e)) }

-- its numbers, its sizes, and how many things there are
pub record IsPassedPad (bytes : List ℕ) (footprint pad : Item) (many : Bool) : Type 0 where
  pub numbers : pad_fault bytes footprint pad ≡ None
  pub sizes : pad_is_bad bytes pad ≡ false
  pub fits : many ≡ false

pub pad_passed : (c : Context) (footprint pad : Item) (many : Bool) → pad_kind c footprint pad many ≡ None → IsPassedPad c.bytes footprint pad many
unfolding pad_kind
pad_passed c footprint pad many e =
    let ks =
    when kinds.PadType (not (list_any (λ name. is_type c.bytes name pad) pad_types))
    ∷ when kinds.PadShape (not (list_any (λ name. is_shape c.bytes name pad) pad_shapes) || is_chamfered c.bytes pad)
    ∷ when kinds.PadOffset (is_off_hole c.bytes pad)
    ∷ when kinds.MissingPart (pad_lacks c.bytes pad)
    ∷ number_offence (pad_fault c.bytes footprint pad)
    ∷ when kinds.Angle (not (has_angle c.bytes pad))
    ∷ when kinds.BadSize (pad_is_bad c.bytes pad)
    ∷ when kinds.UnknownLayer (has_unknown c.bytes c.copper (list_of c.bytes (codes "layers") pad))
    ∷ when kinds.UnknownNet (is_unknown_net c (net_of c.bytes pad))
    ∷ when kinds.TooMany many
    ∷ [] in
    record {
      numbers = no_number (pad_fault c.bytes footprint pad) (none_at 4 ks e);
      sizes = no_test kinds.BadSize (pad_is_bad c.bytes pad) (none_at 6 ks e);
      fits = no_test kinds.TooMany many (none_at 9 ks e);
    }

-- ---- zones and rule areas

-- what both have: layers that are declared, a stamp, an outline that is an outline, and how many there are
pub record IsPassedOutline (c : Context) (zone : Item) (outline : Option OutlineFault) (double many : Bool) : Type 0 where
  pub known : has_unknown c.bytes c.copper (layer_list c.bytes zone) ≡ false
  pub single : double ≡ false
  pub right : outline ≡ None
  pub fits : many ≡ false
  pub short : is_long_outline c.bytes zone ≡ false

pub record IsPassedZone (c : Context) (zone : Item) (outline : Option OutlineFault) (double many : Bool) : Type 0 where
  pub both : IsPassedOutline c zone outline double many
  pub lengths : zone_is_bad c.bytes zone ≡ false
  pub thick : nat_lt (size_of (thickness_in c.bytes zone)) 1000 ≡ false

pub zone_passed : (c : Context) (zone : Item) (outline : Option OutlineFault) (double many : Bool) → zone_kind c zone outline double many ≡ None → IsPassedZone c zone outline double many
unfolding zone_kind
zone_passed c zone outline double many e =
    let ks =
    when kinds.Teardrop (has_teardrop c.bytes zone)
    ∷ when kinds.HatchFill (is_hatched c.bytes zone)
    ∷ when kinds.Smoothing (is_smoothed c.bytes zone)
    ∷ when kinds.IslandArea (has_other_mode c.bytes zone)
    ∷ when kinds.ManyOutlines (has_two_outlines c.bytes zone)
    ∷ when kinds.PolygonArc (has_arc c.bytes zone)
    ∷ when kinds.MissingPart (zone_lacks c.bytes zone)
    ∷ number_offence (zone_fault c.bytes zone)
    ∷ when kinds.BadSize (zone_is_bad c.bytes zone)
    ∷ when kinds.Thin (nat_lt (size_of (thickness_in c.bytes zone)) 1000)
    ∷ when kinds.UnknownLayer (has_unknown c.bytes c.copper (layer_list c.bytes zone))
    ∷ when kinds.UnknownNet (is_unknown_net c (net_of c.bytes zone))
    ∷ when kinds.DoubleStamp double
    ∷ bad_outline outline
    ∷ when kinds.TooMany (many || is_long_outline c.bytes zone)
    ∷ [] in
    let few : (many || is_long_outline c.bytes zone) ≡ false = no_test kinds.TooMany (many || is_long_outline c.bytes zone) (none_at 14 ks e) in
    record {
      both = record {
        known = no_test kinds.UnknownLayer (has_unknown c.bytes c.copper (layer_list c.bytes zone)) (none_at 10 ks e);
        single = no_test kinds.DoubleStamp double (none_at 12 ks e);
        right = no_outline_fault outline (none_at 13 ks e);
        fits = or_front many (is_long_outline c.bytes zone) few;
        short = or_back many (is_long_outline c.bytes zone) few;
      };
      lengths = no_test kinds.BadSize (zone_is_bad c.bytes zone) (none_at 8 ks e);
      thick = no_test kinds.Thin (nat_lt (size_of (thickness_in c.bytes zone)) 1000) (none_at 9 ks e);
    }

pub area_passed : (c : Context) (zone : Item) (outline : Option OutlineFault) (double many : Bool) → area_kind c zone outline double many ≡ None → IsPassedOutline c zone outline double many
unfolding area_kind
area_passed c zone outline double many e =
    let ks =
    when kinds.ManyOutlines (has_two_outlines c.bytes zone)
    ∷ when kinds.PolygonArc (has_arc c.bytes zone)
    ∷ when kinds.MissingPart (outline_lacks c.bytes zone)
    ∷ number_offence (corners_fault c.bytes zone)
    ∷ when kinds.UnknownLayer (has_unknown c.bytes c.copper (layer_list c.bytes zone))
    ∷ when kinds.DoubleStamp double
    ∷ bad_outline outline
    ∷ when kinds.TooMany (many || is_long_outline c.bytes zone)
    ∷ [] in
    let few : (many || is_long_outline c.bytes zone) ≡ false = no_test kinds.TooMany (many || is_long_outline c.bytes zone) (none_at 7 ks e) in
    record {
      known = no_test kinds.UnknownLayer (has_unknown c.bytes c.copper (layer_list c.bytes zone)) (none_at 4 ks e);
      single = no_test kinds.DoubleStamp double (none_at 5 ks e);
      right = no_outline_fault outline (none_at 6 ks e);
      fits = or_front many (is_long_outline c.bytes zone) few;
      short = or_back many (is_long_outline c.bytes zone) few;
    }

-- ---- drawings

pub drawing_fits : (c : Context) (item : Item) (many : Bool) → drawing_kind c item many ≡ None → many ≡ false
unfolding drawing_kind
drawing_fits c item many e =
    let ks =
    when kinds.CopperGraphic (is_on_copper c.bytes item)
    ∷ when kinds.EdgeCurve (is_edge c.bytes item && is_curved c.bytes item)
    ∷ when kinds.MissingPart (is_edge c.bytes item && lacks_points c.bytes item)
    ∷ number_offence (cond (is_edge c.bytes item) (edge_fault c.bytes item) None)
    ∷ when kinds.TooMany many
    ∷ [] in
    no_test kinds.TooMany many (none_at 4 ks e)
