-- Tests in their order, each with the refusal that it gives.
use Rattle.std.specs.Prelude.{Bool, true, false, ℕ, zero, suc}

infix 20 ◌unless◌
infixr 15 ◌⨾◌
-- `3 unless t ⨾ rest`: 3 where the test t fails, and otherwise the rest
abbrev pub ◌unless◌ : ℕ → Bool → ℕ → ℕ
◌unless◌ n true rest = rest
◌unless◌ n false rest = n

-- `refusal n ⨾ rest`: n where it is a refusal, and otherwise the rest
abbrev pub refusal : ℕ → ℕ → ℕ
refusal zero rest = rest
refusal (suc n) rest = suc n

abbrev pub ◌⨾◌ : (ℕ → ℕ) → ℕ → ℕ
f ⨾ rest = f rest

abbrev pub ok : ℕ
ok = 0
