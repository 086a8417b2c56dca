-- What bytes that follow change: nothing of a row that is read, or that is refused otherwise than with 11. And where 11 is given. Assumes nothing.
use mathlib.Core.Path.{◌≡◌, refl, sym, ap, ◌∙◌}
use mathlib.Core.List.{List, [], ◌∷◌, ◌++◌}
use Prim.Native.Nat.{ℕ, zero, suc, ◌+◌, ◌*◌, ◌<◌}
use native.Mathlib.Omega.{arith}
use lib.ListN.{length, length-drop}
use Rattle.numbers.specs.Coding.{groups_of, read_number}
use Rattle.numbers.specs.declared.Limit.{Limit}
use Rattle.numbers.proofs.CodingLaws.{read-form, form-groups, eleven}
use Rattle.numbers.proofs.Following.{number_more}
use Rattle.forms.specs.Forms.{Outcome, got, refused, Test, test_read, prepend, and_then, row, rows, untested, plain}
use Rattle.forms.proofs.Outcomes.{refused-got, refused-prepend, times, rows_row}
use Rattle.std.specs.Prelude.{Ok, Err}
use Rattle.numbers.specs.Coding.{Read}
use Rattle.forms.proofs.FormLaws.{Bytes}

-- ---- bytes that follow

-- what follows a piece, told in other words where it is not the refusal
then-more : (o : Outcome) (f g : ℕ → Outcome) (r : ℕ) → (and_then o f ≡ refused r → ⊥) → ((n : ℕ) → (f n ≡ refused r → ⊥) → g n ≡ f n) → and_then o g ≡ and_then o f
unfolding and_then prepend
then-more (got vs next) f g r h same = ap (prepend vs) (same next (λ e. h (rw e)))
then-more (refused q) f g r h same = refl

-- unless the bytes end before the row does, what is read does not depend on the bytes that follow
pub row_more : (tests : List Test) (limit : Limit) (s t : List ℕ) (at : ℕ) → (row tests limit s at ≡ refused 11 → ⊥) → row tests limit (s ++ t) at ≡ row tests limit s at
unfolding row and_then test_read
row_more [] limit s t at h = refl
row_more (test ∷ tests) limit s t at h =
    ap (λ (a : Read). and_then (test_read test a) (λ n. row tests limit (s ++ t) n)) (number_more limit s t at (λ e. h (rw e)))
    ∙ then-more (test_read test (read_number limit s at)) (λ n. row tests limit s n) (λ n. row tests limit (s ++ t) n) 11 h (λ n. row_more tests limit s t n)

-- so it is with n rows
pub rows_more : (n : ℕ) (tests : List Test) (limit : Limit) (s t : List ℕ) (at : ℕ) → (rows n tests limit s at ≡ refused 11 → ⊥) → rows n tests limit (s ++ t) at ≡ rows n tests limit s at
rows_more n tests limit s t at h =
    rows_row n tests limit (s ++ t) at
    ∙ row_more (times n tests) limit s t at (λ e. h (rows_row n tests limit s at ∙ e))
    ∙ sym (rows_row n tests limit s at)

-- ---- where the bytes end

-- numbers that are not tested are refused with 11 only where fewer bytes are left than so many numbers can take
pub plain-short : (n : ℕ) (limit : Limit) (s : List ℕ) (at : ℕ) → Bytes s → plain n limit s at ≡ refused 11 → length s < at + groups_of limit * n
unfolding row and_then test_read
plain-short zero limit s at b e = absurd (refused-got (sym e))
plain-short (suc n) limit s at b e = go (read_number limit s at) refl e (λ next. plain-short n limit s next b)
  where
    go : (a : Read) → read_number limit s at ≡ a → and_then (test_read untested a) (λ next. plain n limit s next) ≡ refused 11
        → ((next : ℕ) → plain n limit s next ≡ refused 11 → length s < next + groups_of limit * n) → length s < at + groups_of limit * suc n
    go (Ok m) q h more =
        let f = read-form limit s at m.value m.next b q in
        omega (arith, more m.next (refused-prepend (m.value ∷ []) (plain n limit s m.next) h), f.place, form-groups limit m.value f.within)
    go (Err r) q h more =
        let p : r ≡ 11 = cc in
        let c = (eleven limit s at).0 (q ∙ ap {B = Read} Err p) in
        omega (arith, c.few, length-drop at s)
