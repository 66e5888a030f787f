-- Blocks in the order of a walk: each has a run of octagons; behind one that is no leaf stand those of its two halves, and then those of what
-- follows its run.
--
--     octagons   0 1 2 3 4 5 6 7 8 ..             block   run     skip
--                [------------------ ..  ]          0    0..n     the number of blocks
--                [--------- ..  ]                    1    0..n/2   the block that begins at n/2
use Rattle.std.specs.Prelude.{◌≡◌, ℕ, ◌+◌, ◌<◌, ◌≤◌, false, nat_lt, cond, pos, List, length, get_or, slice_get, Some}
use Rattle.plane.specs.Plane.{Bounds}
use Rattle.bins.specs.declared.frame.Frame.{Frame}
use Rattle.bins.specs.declared.block.Block.{Block}
use Rattle.bins.specs.Inner.Frames.{IsInFrame}
use Rattle.bins.specs.Meeting.{AreThoseMeetingAmong}

-- the octagons from one place to before another lie in the rectangle
abbrev pub AreInFrame : Frame → List Bounds → ℕ → ℕ → Type 0
AreInFrame f octs first end = (j : ℕ) (o : Bounds) → first ≤ j → j < end → slice_get octs j ≡ Some o → IsInFrame f o

-- what stands where no block is
abbrev pub no_block : Block
no_block = record { frame = record { x0 = pos 0; x1 = pos 0; y0 = pos 0; y1 = pos 0 }; first = 0; end = 0; skip = 0; is_leaf = false }

-- the block at the place
abbrev pub block_at : List Block → ℕ → Block
block_at blocks i = get_or blocks i no_block

-- the octagon at which the block begins; behind the last block, the place behind the last octagon
unfoldable pub start_at : List Block → ℕ → ℕ → ℕ → ℕ
start_at blocks count last i = cond (nat_lt i count) (block_at blocks i).first last

-- what the block behind begins with: what follows a leaf's run, or the first half of a run
abbrev pub next_start : Block → ℕ
next_start n = cond n.is_leaf n.end n.first

-- the block at the place is right, where the first `count` blocks are those of the octagons before `last`
pub record IsBlock (octs : List Bounds) (blocks : List Block) (count last i : ℕ) : Type 0 where
  pub onward : i < (block_at blocks i).skip
  pub within : (block_at blocks i).skip ≤ count
  pub order : (block_at blocks i).first ≤ (block_at blocks i).end
  pub inside : (block_at blocks i).end ≤ length octs
  pub framed : AreInFrame (block_at blocks i).frame octs (block_at blocks i).first (block_at blocks i).end
  pub skipped : start_at blocks count last (block_at blocks i).skip ≡ (block_at blocks i).end
  pub next : start_at blocks count last (i + 1) ≡ next_start (block_at blocks i)

-- the blocks from one place to before another are those of the octagons from `first` to before `last`
pub record AreBlocksOf (octs : List Bounds) (blocks : List Block) (from count first last : ℕ) : Type 0 where
  pub some : from < count
  pub begins : (block_at blocks from).first ≡ first
  pub each : (i : ℕ) → from ≤ i → i < count → IsBlock octs blocks count last i

-- they are the blocks of all octagons
pub record AreBlocks (octs : List Bounds) (blocks : List Block) : Type 0 where
  pub begins : start_at blocks (length blocks) (length octs) 0 ≡ 0
  pub each : (i : ℕ) → i < length blocks → IsBlock octs blocks (length blocks) (length octs) i

-- behind the blocks that were there stand those of the octagons from `first` to before `last`
pub record AreBlocksMore (octs : List Bounds) (first last : ℕ) (old new : List Block) : Type 0 where
  pub longer : length old < length new
  pub kept : (i : ℕ) → i < length old → block_at new i ≡ block_at old i
  pub more : AreBlocksOf octs new (length old) (length new) first last

-- a walk that stands at the block has found all that meet o before the block's run
abbrev pub IsWalked : List Bounds → List Block → Bounds → ℕ → List ℕ → Type 0
IsWalked octs blocks o at js = AreThoseMeetingAmong octs o (start_at blocks (length blocks) (length octs) at) js
