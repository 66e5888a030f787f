-- The lines of a board that is made, as layouts.
use Rattle.std.proofs.Common.{ℕ, List, [], codes}
use Rattle.text_shapes.specs.Layouts.{Layout}
use Rattle.text_shapes.specs.Layouts.Layout.{End, Name, Said, Listed}

-- ---- lists with one word, with two, with a string

abbrev pub lone : List ℕ → List ℕ → Layout → Layout
lone name value rest = Listed (codes " ") (Name [] name (Name (codes " ") value (End []))) rest

abbrev pub pair : List ℕ → List ℕ → List ℕ → Layout → Layout
pair name a b rest = Listed (codes " ") (Name [] name (Name (codes " ") a (Name (codes " ") b (End [])))) rest

abbrev pub quote : List ℕ → List ℕ → Layout → Layout
quote name value rest = Listed (codes " ") (Name [] name (Said (codes " ") value (End []))) rest

-- ---- vias and tracks

abbrev pub via_line : (net x y stamp : List ℕ) → Layout
via_line net x y stamp =
    Name [] (codes "via")
    (pair (codes "at") x y
    (lone (codes "size") (codes "0.6")
    (lone (codes "drill") (codes "0.3")
    (Listed (codes " ") (Name [] (codes "layers") (Said (codes " ") (codes "F.Cu") (Said (codes " ") (codes "B.Cu") (End []))))
    (lone (codes "net") net (lone (codes "tstamp") stamp (End [])))))))

abbrev pub track_line : (x0 y0 x1 y1 stamp : List ℕ) → Layout
track_line x0 y0 x1 y1 stamp =
    Name [] (codes "segment")
    (pair (codes "start") x0 y0
    (pair (codes "end") x1 y1
    (lone (codes "width") (codes "0.25")
    (quote (codes "layer") (codes "F.Cu")
    (lone (codes "net") (codes "2") (lone (codes "tstamp") stamp (End [])))))))

-- ---- zones

abbrev pub points_line : List ℕ → Layout
points_line e =
    Name [] (codes "pts")
    (pair (codes "xy") (codes "0") (codes "0")
    (pair (codes "xy") e (codes "0")
    (pair (codes "xy") e e
    (pair (codes "xy") (codes "0") e (End [])))))

abbrev pub fill_line : Layout
fill_line =
    Name [] (codes "fill")
    (Name (codes " ") (codes "yes")
    (lone (codes "thermal_gap") (codes "0.5")
    (lone (codes "thermal_bridge_width") (codes "0.5")
    (lone (codes "island_removal_mode") (codes "1") (End [])))))

abbrev pub settings_line : List ℕ → Layout
settings_line e =
    Listed (codes "\n    ") (Name [] (codes "connect_pads") (lone (codes "clearance") (codes "0.2") (End [])))
    (Listed (codes "\n    ") (Name [] (codes "min_thickness") (Name (codes " ") (codes "0.25") (End [])))
    (Listed (codes "\n    ") fill_line
    (Listed (codes "\n    ") (Name [] (codes "polygon") (Listed (codes " ") (points_line e) (End []))) (End (codes "\n  ")))))

abbrev pub zone_line : (net name layer stamp e : List ℕ) → Layout
zone_line net name layer stamp e =
    Name [] (codes "zone")
    (lone (codes "net") net
    (quote (codes "net_name") name
    (quote (codes "layer") layer
    (lone (codes "tstamp") stamp
    (pair (codes "hatch") (codes "edge") (codes "0.5") (settings_line e))))))

-- ---- the head

abbrev pub layers_line : Layout
layers_line =
    Name [] (codes "layers")
    (Listed (codes " ") (Name [] (codes "0") (Said (codes " ") (codes "F.Cu") (Name (codes " ") (codes "signal") (End []))))
    (Listed (codes " ") (Name [] (codes "31") (Said (codes " ") (codes "B.Cu") (Name (codes " ") (codes "signal") (End [])))) (End [])))

abbrev pub net_line : List ℕ → List ℕ → Layout
net_line number name = Name [] (codes "net") (Name (codes " ") number (Said (codes " ") name (End [])))
