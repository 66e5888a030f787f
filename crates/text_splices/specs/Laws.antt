-- The laws of splices.
use Rattle.std.specs.Prelude.{◌≡◌, ℕ, ◌+◌, List, length}
use Rattle.text_splices.specs.Splice.{IsSplice}

-- a splice makes one text
abbrev pub OneLaw : Type 0
OneLaw = (text : List ℕ) (from to : ℕ) (put new other : List ℕ) → IsSplice text from to put new → IsSplice text from to put other → new ≡ other

-- the new text is as much longer as what is put in is longer than what comes out
abbrev pub SizeLaw : Type 0
SizeLaw = (text : List ℕ) (from to : ℕ) (put new : List ℕ) → IsSplice text from to put new → length new + to ≡ length text + (from + length put)

-- what was taken out, put back over what was put in
abbrev pub UndoLaw : Type 0
UndoLaw = (text : List ℕ) (from to : ℕ) (put new : List ℕ) (h : IsSplice text from to put new) → IsSplice new from (from + length put) h.out text
