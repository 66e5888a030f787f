-- The tasks of a board, in the order in which they are filled, and what each is filled by. A task is a zone together with
-- one of its copper layers.
use Rattle.std.specs.Prelude.{ℕ, zero, suc, cond, nat_le, List, [], ◌∷◌, ◌++◌, map, length, get_or, None}
use Rattle.grid_num.specs.declared.Point.{Point}
use Rattle.board_language.specs.declared.Join.{Join}
use Rattle.board_language.specs.declared.Join.TheVariants.{Apart}
use Rattle.board_language.specs.declared.IslandMode.{IslandMode}
use Rattle.board_language.specs.declared.IslandMode.TheVariants.{Remove}
use Rattle.board_language.specs.declared.board.Zone.{Zone}
use Rattle.board_language.specs.Board.{Board}
use Rattle.board_language.specs.Copper.{has_layer}

-- a zone together with one of its copper layers
pub record Task : Type 0 where
  -- the place of the zone among the board's zones
  pub zone : ℕ
  pub layer : ℕ

-- What a zone is filled by on each of its layers. Its layers and its priority decide which tasks it has and when they are
-- filled; where its lists stand in the file decides nothing.
pub record Settings : Type 0 where
  pub outline : List Point
  pub net : ℕ
  pub join : Join
  pub clearance : ℕ
  pub thickness : ℕ
  pub gap : ℕ
  pub bridge : ℕ
  pub islands : IslandMode

-- what a zone says that counts for its fill
abbrev pub settings_of : Zone → Settings
settings_of z =
    record {
      outline = z.outline;
      net = z.net;
      join = z.join;
      clearance = z.clearance;
      thickness = z.thickness;
      gap = z.gap;
      bridge = z.bridge;
      islands = z.islands;
    }

-- what stands past the end of a board's zones and tasks; it has no outline, so it is never filled
abbrev pub no_zone : Zone
no_zone =
    record {
      outline = [];
      layers = 0;
      net = 0;
      priority = 0;
      join = Apart;
      clearance = 0;
      thickness = 1000;
      gap = 0;
      bridge = 0;
      islands = Remove;
      spans = record { priority = None; connect = None; clearance = None; tail = 0; fills = [] };
      span = record { from = 0; to = 0 };
      line = 0;
    }

-- what stands past the last rank: a task of no zone
abbrev pub no_task : Board → Task
no_task b = record { zone = length b.zones; layer = 0 }

-- ---- rank

-- the layers below n in the set, upward
abbrev pub layers_below : ℕ → ℕ → List ℕ
layers_below layers zero = []
layers_below layers (suc l) = layers_below layers l ++ cond (has_layer layers l) (l ∷ []) []

-- the tasks of the zones from number z on, in file order and then by layer
abbrev pub tasks_from : ℕ → ℕ → List Zone → List Task
tasks_from count z [] = []
tasks_from count z (zone ∷ zones) = map (λ (l : ℕ). record { zone = z; layer = l }) (layers_below zone.layers count) ++ tasks_from count (suc z) zones

-- the zone of a task; one without an outline where it has none
unfoldable pub task_zone : Board → Task → Zone
task_zone b t = get_or b.zones t.zone no_zone

-- the task is put before those of no greater priority
abbrev pub put_by_priority : Board → Task → List Task → List Task
put_by_priority b t [] = t ∷ []
put_by_priority b t (u ∷ us) = cond (nat_le (task_zone b u).priority (task_zone b t).priority) (t ∷ u ∷ us) (u ∷ put_by_priority b t us)

-- the tasks, each put before those of no greater priority that stand behind it in the file
abbrev pub put_all : Board → List Task → List Task
put_all b [] = []
put_all b (t ∷ ts) = put_by_priority b t (put_all b ts)

-- all tasks in rank order: by priority downward, then by file order of the zones, then by layer. What it says stands, as
-- a relation, in `Ranking`.
unfoldable pub ranked : Board → List Task
ranked b = put_all b (tasks_from (length b.layers) 0 b.zones)

-- the task of rank i
unfoldable pub task_at : Board → ℕ → Task
task_at b i = get_or (ranked b) i (no_task b)

-- its zone's settings, and its layer
unfoldable pub zone_at : Board → ℕ → Settings
zone_at b i = settings_of (task_zone b (task_at b i))

-- the layer of the task of rank i
abbrev pub layer_at : Board → ℕ → ℕ
layer_at b i = (task_at b i).layer
