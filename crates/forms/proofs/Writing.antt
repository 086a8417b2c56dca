-- The three answers of a writer of numbers. Assumes nothing.
use mathlib.Core.Path.{◌≡◌}
use mathlib.Core.Bool.{true, false}
use mathlib.Core.List.{List}
use Prim.Native.Nat.{ℕ, ◌+◌, ◌<◌, ◌≤◌}
use native.Mathlib.Omega.{arith}
use lib.ListN.{length}
use Rattle.numbers.specs.Coding.{}
use Rattle.numbers.specs.declared.Limit.{Limit}
use Rattle.numbers.proofs.Ends.{Ends}
use Rattle.numbers.proofs.Puts as put
use Rattle.numbers.proofs.Puts.{Puts}
use Rattle.std.specs.Prelude.{Ok, Err}
use Rattle.forms.specs.Forms.{forms, all_within, limits_no}

module _ (limit : Limit) (vs : List ℕ) where
  pub limits-within : all_within limit vs ≡ true → limits_no limit vs ≡ 0
  unfolding limits_no
  limits-within h = rw h

  pub limits-above : all_within limit vs ≡ false → limits_no limit vs ≡ 12
  unfolding limits_no
  limits-above h = rw h

module _ (limit : Limit) (vs d : List ℕ) (at : ℕ) where
  -- a number is above the limit
  pub too_large : all_within limit vs ≡ false → Puts (limits_no limit vs) (forms vs) d at (Err 12) d
  too_large h = rw (limits-above limit vs h) (put.refuses 12 (forms vs) d at (λ z. omega arith))

  -- no room for the forms
  pub no_room : all_within limit vs ≡ true → length d < at + length (forms vs) → Puts (limits_no limit vs) (forms vs) d at (Err 8) d
  no_room h l = put.no_room (limits_no limit vs) (forms vs) d at (limits-within limit vs h) l

  -- the forms are written
  pub wrote : {m : ℕ} {e : List ℕ} → all_within limit vs ≡ true → at + length (forms vs) ≤ length d → Ends (forms vs) d at m e → Puts (limits_no limit vs) (forms vs) d at (Ok m) e
  wrote h l p = put.put-wrote (limits_no limit vs) (forms vs) d at (limits-within limit vs h) l p
