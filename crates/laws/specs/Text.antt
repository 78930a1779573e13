-- Texts in worked examples, as the bytes that a program reads and writes.
-- Assumes nothing: these are definitions.
use Rattle.std.specs.Prelude.{ℕ, List, [] as none, ◌∷◌ as ◌before◌}
use Prim.Native.Char.{code}
use Prim.Native.String.{String, [], ◌∷◌}

-- the bytes of a text of plain characters, each of which is one byte
unfoldable pub bytes_of : String → List ℕ
bytes_of [] = none
bytes_of (c ∷ text) = code c before bytes_of text
