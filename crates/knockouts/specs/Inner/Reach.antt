-- Tracks and vias whose copper the calls of `copper_shape` take.
use Rattle.board_language.specs.declared.board.Track.{Track}
use Rattle.board_language.specs.declared.board.Via.{Via}
use Rattle.board_language.specs.declared.board.Pad.{Pad}
use Rattle.board_language.specs.Copper.{HasPad}
use Rattle.board_language.specs.Facts.{IsPlaceInReach, IsCopperSize}

-- the track's ends lie within reach, and its width is one of copper
pub record IsTrackInReach (t : Track) : Type 0 where
  pub from : IsPlaceInReach t.from
  pub to : IsPlaceInReach t.to
  pub width : IsCopperSize t.width

-- the via lies within reach, and its size is one of copper
pub record IsViaInReach (v : Via) : Type 0 where
  pub at : IsPlaceInReach v.at
  pub size : IsCopperSize v.size

-- the pad lies within reach, and its copper has the core of a pad
pub record IsPadInReach (p : Pad) : Type 0 where
  pub at : IsPlaceInReach p.at
  pub pad : HasPad p
