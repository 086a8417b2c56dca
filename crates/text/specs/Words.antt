-- The bytes of fixed words.
use Rattle.std.specs.Prelude.{ℕ}
use Prim.Native.Char.{code}
use Prim.Native.String.{String, [], ◌∷◌}
use mathlib.Core.List as List

-- one byte for each character; all that are printed are below 128
unfoldable pub bytes : String → List.List ℕ
bytes [] = List.[]
bytes (c ∷ s) = List.◌∷◌ (code c) (bytes s)
