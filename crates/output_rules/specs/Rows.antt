-- Small boards worked by hand: what is written of them, and what is said.
use Rattle.std.specs.Prelude.{◌≡◌, ℕ, pos, negsuc, List, [], ◌∷◌}
use lib.Chars.{codes}
use Rattle.sexpr_text.specs.declared.Span.{Span}
use Rattle.board_language.specs.declared.board.Zone.{Zone}
use Rattle.board_language.specs.Board.{Board}
use Rattle.fill_rules.specs.Tasks.{no_zone}
use Rattle.output_rules.specs.declared.report.Copper.TheVariants as copper
use Rattle.output_rules.specs.Rings.{quoted}
use Rattle.rings.specs.Rings.{Traced}
use Rattle.output_rules.specs.Output.{text_without_fills, text_with_rings}
use Rattle.output_rules.specs.Report.{report_text}
use Rattle.output_rules.specs.Reported.{numbers_in_order, members_of, task_lines}

-- ---- a text of two zones, each with an old fill; the second zone has the greater priority, and a layer more

-- two zones with an old fill each: the one before a line feed, the other among its lists
abbrev pub two_zones_text : List ℕ
two_zones_text = codes "(b(zone (n) (filled_polygon x)\n)(zone (filled_polygon y) (m)\t))"

-- from one byte to before another
abbrev pub span : ℕ → ℕ → Span
span from to = record { from = from; to = to }

-- a zone of net 1 with an old fill and its tail at these places
abbrev pub zone_filled_before : ℕ → ℕ → Span → ℕ → Zone
zone_filled_before layers priority fill tail =
    record no_zone { layers = layers; net = 1; priority = priority; spans = record no_zone.spans { tail = tail; fills = fill ∷ [] }; line = 7 }

-- the board of that text
abbrev pub two_zones : Board
two_zones =
    record {
      layers = codes "F.Cu" ∷ codes "B\".Cu" ∷ [];
      nets = 0 ∷ 1 ∷ [];
      tracks = [];
      vias = [];
      pads = [];
      zones = zone_filled_before 1 0 (span 12 30) 30 ∷ zone_filled_before 3 1 (span 38 56) 60 ∷ [];
      areas = [];
      edges = [];
      rules = record { floor = 200000; edge = 500000 };
    }

-- rings of one corner each, for the second zone's two layers and then for the first zone: that is the rank order
abbrev pub three_rings : List Traced
three_rings =
    record { rings = (record { x = pos 3000000; y = pos 0 } ∷ []) ∷ []; area2 = 5 }
    ∷ record { rings = (record { x = negsuc 499999; y = pos 0 } ∷ []) ∷ []; area2 = 6 }
    ∷ record { rings = (record { x = pos 1000000; y = pos 2000000 } ∷ []) ∷ []; area2 = 7 }
    ∷ []

-- what is written of that board and of a name with quotes
pub record OutputRows : Type 0 where
  -- a backslash stands before each quote and each backslash
  pub quotes : quoted (codes "a\"b\\c") ≡ codes "a\\\"b\\\\c"
  -- the old fills are gone, with the white space before them and not that behind them
  pub without : text_without_fills two_zones_text two_zones ≡ codes "(b(zone (n)\n)(zone (m)\t))"
  -- the rings stand in their zones, by layer
  pub written : text_with_rings two_zones_text two_zones three_rings ≡ codes "(b(zone (n)\n    (filled_polygon\n      (layer \"F.Cu\")\n      (pts\n        (xy 1 2)\n      )\n    )\n)(zone (m)\n    (filled_polygon\n      (layer \"F.Cu\")\n      (pts\n        (xy 3 0)\n      )\n    )\n    (filled_polygon\n      (layer \"B\\\".Cu\")\n      (pts\n        (xy -0.5 0)\n      )\n    )\t))"
  -- lines of zones stand in file order
  pub zones : report_text (record { tasks = task_lines two_zones [] three_rings; nodes = []; nets = [] })
      ≡ codes "zone 1 line 7 F.Cu parts 0 polygons 1 area2 7\nzone 2 line 7 F.Cu parts 0 polygons 1 area2 5\nzone 2 line 7 B\".Cu parts 0 polygons 1 area2 6\nunjoined 0\n"
  -- two nodes of two clusters, and the line between them
  pub nets : report_text (record {
    tasks = [];
    nodes = record { copper = copper.Track 7; net = 2 } ∷ record { copper = copper.Via 8; net = 2 } ∷ [];
    nets = record {
      net = 2;
      clusters = (0 ∷ []) ∷ (1 ∷ []) ∷ [];
      lines = record { from = record { x = pos 2000000; y = pos 1000000 }; to = record { x = pos 2300001; y = pos 1400000 }; square = 250000600001 } ∷ [];
    } ∷ [];
  })
      ≡ codes "node 0 track line 7 net 2\nnode 1 via line 8 net 2\nnet 2 clusters 2\ncluster 0\ncluster 1\nline 2 1 2.300001 1.4 d2 250000600001\nunjoined 1\n"
  -- numbers in order, each once
  pub order : numbers_in_order (3 ∷ 1 ∷ 3 ∷ 2 ∷ []) ≡ 1 ∷ 2 ∷ 3 ∷ []
  -- the nodes of the cluster that node 1 names
  pub members : members_of (0 ∷ 1 ∷ 0 ∷ 1 ∷ []) 1 ≡ 1 ∷ 3 ∷ []
