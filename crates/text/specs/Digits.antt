-- Numbers as digits, the highest first.
use Rattle.std.specs.Prelude.{List, [], ◌∷◌, ◌++◌, ℕ, zero, suc, ◌+◌, ◌/◌, ◌%◌, ltb}
use Rattle.std.specs.Prelude.{if◌then◌else◌}

-- the byte of a digit: 0 to 9, then a to f
abbrev pub digit : ℕ → ℕ
digit d = if ltb d 10 then 48 + d else 87 + d

-- the last n digits at most, without leading zeros
unfoldable pub decimal_of : ℕ → ℕ → List ℕ
decimal_of zero x = []
decimal_of (suc n) x = if ltb x 10 then (digit x ∷ []) else decimal_of n (x / 10) ++ (digit (x % 10) ∷ [])

-- a number below 2^64 has at most 20 decimal digits
abbrev pub decimal : ℕ → List ℕ
decimal x = decimal_of 20 x

-- n digits in a base
unfoldable pub digits_of : ℕ → ℕ → ℕ → List ℕ
digits_of base zero x = []
digits_of base (suc n) x = digits_of base n (x / base) ++ (digit (x % base) ∷ [])

-- n hex digits
abbrev pub hex_of : ℕ → ℕ → List ℕ
hex_of n x = digits_of 16 n x

-- a word of 64 bits as 16 lower-case hex digits
abbrev pub hex : ℕ → List ℕ
hex x = hex_of 16 x
