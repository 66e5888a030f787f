use Rattle.std.proofs.Common.{◌≡◌, ◌∙◌, sym, ap, refl, subst}
use Rattle.board_language.specs.Pads.{pad_of}
use Rattle.grid_num.specs.Length.{IsInRange}
use Rattle.board_items.specs.Known.{context}
use Rattle.board_pads.specs.Ranges.{IsInRanges}
use Rattle.board_pads.proofs.Ranges.{in_ranges}
use Rattle.board_pads.proofs.pad.pad_of.Goals as goal

pub copper_at-requires-clause-x : goal.copper_at-requires-clause-x
copper_at-requires-clause-x c =
    rw c.in_ok-at.ensures.value (in_ranges (context c.args.pad.now.bytes c.args.known.now) c.args.footprint.now.item c.args.pad.now.item c.requires.sound.0 c.requires.sound.1).x

pub copper_at-requires-clause-y : goal.copper_at-requires-clause-y
copper_at-requires-clause-y c =
    rw c.in_ok-at.ensures.value (in_ranges (context c.args.pad.now.bytes c.args.known.now) c.args.footprint.now.item c.args.pad.now.item c.requires.sound.0 c.requires.sound.1).y

pub copper_at-requires-clause-width : goal.copper_at-requires-clause-width
copper_at-requires-clause-width c = (in_ranges (context c.args.pad.now.bytes c.args.known.now) c.args.footprint.now.item c.args.pad.now.item c.requires.sound.0 c.requires.sound.1).width

pub copper_at-requires-clause-height : goal.copper_at-requires-clause-height
copper_at-requires-clause-height c = (in_ranges (context c.args.pad.now.bytes c.args.known.now) c.args.footprint.now.item c.args.pad.now.item c.requires.sound.0 c.requires.sound.1).height

pub copper_at-requires-clause-ratio : goal.copper_at-requires-clause-ratio
copper_at-requires-clause-ratio c = (in_ranges (context c.args.pad.now.bytes c.args.known.now) c.args.footprint.now.item c.args.pad.now.item c.requires.sound.0 c.requires.sound.1).ratio

pub returns-clause-value : goal.returns-clause-value
unfolding pad_of
returns-clause-value c =
    rw (
      c.in_ok-copper_at.ensures.value,
      c.in_ok-at.ensures.value,
      c.in_ok-layers_of.ensures,
      c.in_ok-whole_in.ensures,
      c.in_ok-kind_of.ensures,
      c.in_ok-clearance_of.ensures,
      c.in_ok-join_of.ensures,
      c.in_ok-gap_of.ensures,
      c.in_ok-bridge_of.ensures,
      c.requires.line,
      c.requires.same,
    ) refl
