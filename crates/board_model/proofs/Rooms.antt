-- An item that doesn't offend isn't one too many.
use Rattle.std.proofs.Common.{◌≡◌, ◌∙◌, sym, ap, refl, Bool, true, false, Option, None, Some, is_some}
use Rattle.std.proofs.lemmas.Bool.{false≢true}
use Rattle.std.specs.Prelude.{not}
use Rattle.sexpr_text.specs.Items.{Item}
use Rattle.outline_slab.specs.declared.error.OutlineFault.{OutlineFault}
use Rattle.board_language.specs.declared.offence.OffenceKind.TheVariants as kinds
use Rattle.board_text.specs.Items.{Context}
use Rattle.board_language.specs.Offences.{net_kind, net_kinds, track_kind, track_kinds, via_kind, via_kinds, pad_kind, pad_kinds, area_kind, area_kinds, zone_kind, zone_kinds, drawing_kind, drawing_kinds}
use Rattle.board_language.proofs.NoneOffends.{some_at}

pub none_is : {X : Type 0} (o : Option X) (r : Bool) → is_some o ≡ not r → r ≡ true → o ≡ None
none_is None r e t = refl
none_is (Some x) r e t = absurd (false≢true (sym (e ∙ ap not t)))

pub net_room : (c : Context) (net : Item) (double : Bool) (many : Bool) → net_kind c net double many ≡ None → many ≡ false
unfolding net_kind
net_room c net double true e = some_at 3 (net_kinds c net double true) kinds.TooMany refl e
net_room c net double false e = refl

pub track_room : (c : Context) (item : Item) (double : Bool) (many : Bool) → track_kind c item double many ≡ None → many ≡ false
unfolding track_kind
track_room c item double true e = some_at 6 (track_kinds c item double true) kinds.TooMany refl e
track_room c item double false e = refl

pub via_room : (c : Context) (item : Item) (double : Bool) (many : Bool) → via_kind c item double many ≡ None → many ≡ false
unfolding via_kind
via_room c item double true e = some_at 6 (via_kinds c item double true) kinds.TooMany refl e
via_room c item double false e = refl

pub pad_room : (c : Context) (footprint pad : Item) (many : Bool) → pad_kind c footprint pad many ≡ None → many ≡ false
unfolding pad_kind
pad_room c footprint pad true e = some_at 9 (pad_kinds c footprint pad true) kinds.TooMany refl e
pad_room c footprint pad false e = refl

pub drawing_room : (c : Context) (item : Item) (many : Bool) → drawing_kind c item many ≡ None → many ≡ false
unfolding drawing_kind
drawing_room c item true e = some_at 4 (drawing_kinds c item true) kinds.TooMany refl e
drawing_room c item false e = refl

pub zone_room : (c : Context) (zone : Item) (outline : Option OutlineFault) (double : Bool) (many : Bool) → zone_kind c zone outline double many ≡ None → many ≡ false
unfolding zone_kind
zone_room c zone outline double true e = some_at 14 (zone_kinds c zone outline double true) kinds.TooMany refl e
zone_room c zone outline double false e = refl

pub area_room : (c : Context) (zone : Item) (outline : Option OutlineFault) (double : Bool) (many : Bool) → area_kind c zone outline double many ≡ None → many ≡ false
unfolding area_kind
area_room c zone outline double true e = some_at 7 (area_kinds c zone outline double true) kinds.TooMany refl e
area_room c zone outline double false e = refl
