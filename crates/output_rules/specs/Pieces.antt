-- Some pieces of a text are replaced, and all other bytes stay, each in its order.
--
--     text     ( z o n e _ ( f i l l ) _ )
--     pieces           |- goes -|| rings
--     new      ( z o n e rings _ )
use Rattle.std.specs.Prelude.{◌≡◌, ℕ, ◌+◌, ◌-◌, ◌≤◌, List, [], ◌∷◌, ◌++◌, length, take, drop}

-- the bytes from one place to another, and what stands for them
pub record Piece : Type 0 where
  pub from : ℕ
  pub to : ℕ
  pub put : List ℕ

-- The text that is left from a place on begins with the bytes that are kept before the piece and those that it takes out;
-- the new one begins with the same kept bytes and those that are put in.
pub record IsPieceReplaced (at : ℕ) (p : Piece) (old rest new more : List ℕ) : Type 0 where
  pub kept : List ℕ
  pub out : List ℕ
  pub from_is : at + length kept ≡ p.from
  pub to_is : p.from + length out ≡ p.to
  pub old_is : old ≡ kept ++ (out ++ rest)
  pub new_is : new ≡ kept ++ (p.put ++ more)

-- of the text from a place on, the pieces are replaced one after another, and what stands behind the last one stays
unfoldable pub AreReplaced : ℕ → List Piece → List ℕ → List ℕ → Type 0
AreReplaced at [] old new = new ≡ old
AreReplaced at (p ∷ ps) old new = (rest : List ℕ) × (more : List ℕ) × IsPieceReplaced at p old rest new more × AreReplaced p.to ps rest more

-- the pieces lie between these places, in order, none inside another
unfoldable pub ArePiecesInOrder : ℕ → ℕ → List Piece → Type 0
ArePiecesInOrder at end [] = at ≤ end
ArePiecesInOrder at end (p ∷ ps) = (at ≤ p.from) × (p.from ≤ p.to) × ArePiecesInOrder p.to end ps

-- the text from a place on, with the pieces replaced
unfoldable pub replaced : ℕ → List Piece → List ℕ → List ℕ
replaced at [] old = old
replaced at (p ∷ ps) old = take (p.from - at) old ++ (p.put ++ replaced p.to ps (drop (p.to - at) old))

-- how many bytes the pieces take out, and how many they put in
unfoldable pub out_size : List Piece → ℕ
out_size [] = 0
out_size (p ∷ ps) = (p.to - p.from) + out_size ps

-- how many bytes are put in
unfoldable pub put_size : List Piece → ℕ
put_size [] = 0
put_size (p ∷ ps) = length p.put + put_size ps
