-- A zone is the one that is read of an item where each of its parts is.
use Rattle.std.proofs.Common.{◌≡◌, ℕ, List, refl, sym}
use Rattle.std.specs.Prelude.{codes}
use Rattle.grid_num.specs.declared.Point.{Point}
use Rattle.sexpr_text.specs.Items.{Item}
use Rattle.sexpr_text.specs.declared.Span.{Span}
use Rattle.board_text.specs.Fields.{list_of}
use Rattle.board_text.specs.Layers.{layer_set}
use Rattle.board_text.specs.Items.{Context, line_of, span_of, size_of, whole_in, net_of}
use Rattle.board_language.specs.declared.IslandMode.{IslandMode}
use Rattle.board_language.specs.declared.Join.{Join}
use Rattle.board_language.specs.declared.board.Zone.{Zone}
use Rattle.board_language.specs.declared.board.ZoneSpans.{ZoneSpans}
use Rattle.board_language.specs.Zones.{outline_of, layer_list, join_in, clearance_in, thickness_in, gap_in, bridge_in, islands_in, spans_of, zone_of}

pub span_is : (s : Span) (item : Item) → s.from ≡ item.from → s.to ≡ item.to → s ≡ span_of item
span_is s item e f = rw (sym e, sym f) refl

pub zone_is : (c : Context) (item : Item) (outline : List Point) (layers net priority : ℕ) (join : Join) (clearance thickness gap bridge : ℕ)
    (islands : IslandMode) (spans : ZoneSpans) (span : Span) (line : ℕ)
    → outline ≡ outline_of c.bytes item
    → layers ≡ layer_set c.bytes c.copper (layer_list c.bytes item)
    → net ≡ net_of c.bytes item
    → priority ≡ whole_in c.bytes (codes "priority") item
    → join ≡ join_in c.bytes (list_of c.bytes (codes "connect_pads") item)
    → clearance ≡ size_of (clearance_in c.bytes item)
    → thickness ≡ size_of (thickness_in c.bytes item)
    → gap ≡ size_of (gap_in c.bytes item)
    → bridge ≡ size_of (bridge_in c.bytes item)
    → islands ≡ islands_in c.bytes item
    → spans ≡ spans_of c.bytes item
    → span ≡ span_of item
    → line ≡ line_of c.bytes item.from
    → record {
      outline = outline;
      layers = layers;
      net = net;
      priority = priority;
      join = join;
      clearance = clearance;
      thickness = thickness;
      gap = gap;
      bridge = bridge;
      islands = islands;
      spans = spans;
      span = span;
      line = line;
    } ≡ zone_of c item
unfolding zone_of
zone_is c item outline layers net priority join clearance thickness gap bridge islands spans span line e1 e2 e3 e4 e5 e6 e7 e8 e9 e10 e11 e12 e13 =
    rw (e1, e2, e3, e4, e5, e6, e7, e8, e9, e10, e11, e12, e13) refl
