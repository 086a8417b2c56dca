-- The events of a log, one after the other. Assumes nothing.
use Rattle.std.proofs.Common.{◌≡◌, refl, sym, ap, ◌∙◌, ℕ, zero, suc, ◌+◌, ◌-◌, ◌^◌, ◌≤◌, ◌<◌, Bool, true, false, List, [], ◌∷◌, ◌++◌, map, append_assoc, append-nil, length, length-append, eqb, arith, add-one}
use native.Mathlib.Nat.{add-zero, add-suc, suc-add}
use Rattle.std.proofs.lemmas.List.{map-append}
use mir.Val.{bool_byte}
use Rattle.std.specs.Prelude.{if◌then◌else◌}
use Rattle.model.specs.Table.{from}
use Rattle.model.specs.Step.{Answered, answer_no}
use Rattle.machine.specs.Log.{answer_at, answers_in}
use Rattle.printer.specs.Text.{lines, lines_from, ok_count, refused_count, end_with, run_text}
use Rattle.printer.proofs.Lengths.{lines-from-most, end-most}

-- ---- one event more

from-more : (i n : ℕ) → from i (suc n) ≡ from i n ++ (i + n) ∷ []
unfolding from
from-more i zero = rw (add-zero i) refl
from-more i (suc n) = rw (add-suc i n, ← suc-add i n) (ap (λ l. i ∷ l) (from-more (suc i) n))

lines-append : (s place : ℕ) (ws : List Answered) (w : Answered) → lines_from s place (ws ++ w ∷ []) ≡ lines_from s place ws ++ lines s (place + length ws) w
unfolding lines_from
lines-append s place [] w = rw (add-zero place) (append-nil (lines s place w))
lines-append s place (v ∷ ws) w =
    rw (add-suc place (length ws), ← suc-add place (length ws))
    (ap (λ t. lines s place v ++ t) (lines-append s (suc place) ws w) ∙ sym (append_assoc (lines s place v) (lines_from s (suc place) ws) (lines s (suc place + length ws) w)))

ok-append : (ws : List Answered) (w : Answered) → ok_count (ws ++ w ∷ []) ≡ ok_count ws + bool_byte (eqb (answer_no w) 0)
unfolding ok_count
ok-append [] w = go (eqb (answer_no w) 0)
  where
    go : (t : Bool) → (if t then 1 else 0) ≡ 0 + bool_byte t
    go true = refl
    go false = refl
ok-append (v ∷ ws) w = go (eqb (answer_no v) 0) (ok-append ws w)
  where
    go : (t : Bool) → ok_count (ws ++ w ∷ []) ≡ ok_count ws + bool_byte (eqb (answer_no w) 0)
        → (if t then suc (ok_count (ws ++ w ∷ [])) else ok_count (ws ++ w ∷ [])) ≡ (if t then suc (ok_count ws) else ok_count ws) + bool_byte (eqb (answer_no w) 0)
    go true h = omega (arith, h)
    go false h = h

from-length : (f : ℕ → Answered) (i n : ℕ) → length (map f (from i n)) ≡ n
unfolding from
from-length f i zero = refl
from-length f i (suc n) = ap suc (from-length f (suc i) n)

module _ (log : List ℕ) (k : ℕ) where
  pub answers-length : length (answers_in log k) ≡ k
  answers-length = from-length (answer_at log) 0 k

  answers-more : answers_in log (k + 1) ≡ answers_in log k ++ answer_at log k ∷ []
  answers-more =
      let last : 0 + k ≡ k = omega arith in
      rw (add-one k) (ap (map (answer_at log)) (from-more 0 k ∙ ap (λ n. from 0 k ++ n ∷ []) last) ∙ map-append (answer_at log) (from 0 k) (k ∷ []))

  pub lines-more : (s : ℕ) → lines_from s 1 (answers_in log (k + 1)) ≡ lines_from s 1 (answers_in log k) ++ lines s (k + 1) (answer_at log k)
  lines-more s =
      let place : 1 + length (answers_in log k) ≡ k + 1 = omega (arith, answers-length) in
      ap (lines_from s 1) answers-more ∙ lines-append s 1 (answers_in log k) (answer_at log k) ∙ ap (λ n. lines_from s 1 (answers_in log k) ++ lines s n (answer_at log k)) place

  pub ok-more : ok_count (answers_in log (k + 1)) ≡ ok_count (answers_in log k) + bool_byte (eqb (answer_no (answer_at log k)) 0)
  ok-more = ap ok_count answers-more ∙ ok-append (answers_in log k) (answer_at log k)

module _ (log : List ℕ) where
  pub no-lines : (s : ℕ) → lines_from s 1 (answers_in log 0) ≡ []
  unfolding from lines_from
  no-lines s = refl

  pub no-ok : ok_count (answers_in log 0) ≡ 0
  unfolding from ok_count
  no-ok = refl

-- ---- every event is ok or refused

pub counts : (ws : List Answered) → ok_count ws + refused_count ws ≡ length ws
unfolding ok_count refused_count
counts [] = refl
counts (w ∷ ws) = go (eqb (answer_no w) 0) (counts ws)
  where
    go : (t : Bool) → ok_count ws + refused_count ws ≡ length ws → (if t then suc (ok_count ws) else ok_count ws) + (if t then refused_count ws else suc (refused_count ws)) ≡ suc (length ws)
    go true h = omega arith
    go false h = omega arith

module _ (log : List ℕ) (n : ℕ) where
  pub ok-most : ok_count (answers_in log n) ≤ n
  ok-most = omega (arith, counts (answers_in log n), answers-length log n)

module _ (s : ℕ) (log : List ℕ) (n : ℕ) where
  -- the text of a run, by how many events it has and how many are ok
  pub run-text : {ok : ℕ} → ok ≡ ok_count (answers_in log n) → run_text s (answers_in log n) ≡ lines_from s 1 (answers_in log n) ++ end_with n ok (n - ok)
  unfolding run_text
  run-text {ok} e =
      let r : refused_count (answers_in log n) ≡ n - ok = omega (arith, counts (answers_in log n), answers-length log n) in
      rw (answers-length log n, r, ← e)

  -- 64 bits hold its length
  pub run-short : n < 2 ^ 16 → length (run_text s (answers_in log n)) < 2 ^ 64
  run-short h =
      let lines = lines_from s 1 (answers_in log n) in
      let ok = ok_count (answers_in log n) in
      let whole = ap length (run-text refl) ∙ length-append lines (end_with n ok (n - ok)) in
      omega (arith, h, whole, lines-from-most s 1 (answers_in log n), answers-length log n, end-most n ok (n - ok))
