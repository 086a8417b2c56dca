-- How long the texts are. Assumes nothing.
use mathlib.Core.Path.{◌≡◌}
use mathlib.Core.List.{List, [], ◌∷◌}
use Prim.Native.Nat.{ℕ, suc, ◌+◌, ◌*◌, ◌^◌, ◌≤◌, ◌<◌}
use native.Mathlib.Omega.{arith}
use lib.ListN.{length, length-append}
use Rattle.sets.specs.declared.LearnerId.{LearnerId}
use Rattle.sets.specs.declared.ProposerId.{ProposerId}
use Rattle.sets.specs.Scans.{first_word}
use Rattle.sets.specs.declared.scans.Scans.{Scans}
use Rattle.std.specs.Prelude.{Ok, Err}
use Rattle.model.specs.Step.{Answered}
use Rattle.model.specs.declared.Answer.TheVariants.{Done, Learnt, Decided}
use Rattle.text.specs.Words.{bytes}
use Rattle.text.specs.Digits.{decimal}
use Rattle.text.proofs.DigitLaws.{decimal-most, hex-length}
use Rattle.printer.specs.Text.{set_width, set_text, widest_set, lines, lines_from, end_with, refused_text}

-- ---- a set

pub set-length : (s : ℕ) (v : Scans) → length (set_text s v) ≡ set_width s
unfolding set_text
set-length s v = hex-length (set_width s) (first_word v)

pub width-most : (s : ℕ) → set_width s ≤ widest_set
unfolding set_width
width-most s = omega arith

-- ---- one event

module _ (s place : ℕ) where
  pub ok-length : length (lines s place (Ok Done)) ≡ length (decimal place) + 4
  unfolding lines bytes
  ok-length = simp length-append

  pub learnt-length : (l : LearnerId) (v : Scans) → length (lines s place (Ok (Learnt l v))) ≡ 2 * length (decimal place) + 14 + set_width s + length (decimal l.0)
  unfolding lines bytes
  learnt-length l v = simp (length-append, set-length) (omega arith)

  pub decided-length : (p : ProposerId) (v : Scans) → length (lines s place (Ok (Decided p v))) ≡ 2 * length (decimal place) + 15 + set_width s + length (decimal p.0)
  unfolding lines bytes
  decided-length p v = simp (length-append, set-length) (omega arith)

  pub refused-length : (n : ℕ) → length (lines s place (Err n)) ≡ length (decimal place) + 10 + length (decimal n)
  unfolding lines bytes
  refused-length n = simp length-append (omega arith)

-- at most 75 bytes and a set, whatever the numbers are
pub lines-most : (s place : ℕ) (w : Answered) → length (lines s place w) ≤ 75 + widest_set
lines-most s place (Ok Done) = omega (arith, ok-length s place, decimal-most 20 place)
lines-most s place (Ok (Learnt l v)) = omega (arith, learnt-length s place l v, width-most s, decimal-most 20 place, decimal-most 20 l.0)
lines-most s place (Ok (Decided p v)) = omega (arith, decided-length s place p v, width-most s, decimal-most 20 place, decimal-most 20 p.0)
lines-most s place (Err n) = omega (arith, refused-length s place n, decimal-most 20 place, decimal-most 20 n)

pub lines-from-most : (s place : ℕ) (ws : List Answered) → length (lines_from s place ws) ≤ (75 + widest_set) * length ws
unfolding lines_from
lines-from-most s place [] = omega arith
lines-from-most s place (w ∷ ws) = rw (length-append (lines s place w) (lines_from s (suc place) ws)) (omega (arith, lines-most s place w, lines-from-most s (suc place) ws))

-- ---- the other texts

pub end-length : (events ok refused : ℕ) → length (end_with events ok refused) ≡ 7 + length (decimal events) + length (decimal ok) + length (decimal refused)
unfolding bytes
end-length events ok refused = simp length-append (omega arith)

pub end-most : (events ok refused : ℕ) → length (end_with events ok refused) ≤ 67
end-most events ok refused = omega (arith, end-length events ok refused, decimal-most 20 events, decimal-most 20 ok, decimal-most 20 refused)

pub refusal-length : (n : ℕ) → length (refused_text n) ≡ 18 + length (decimal n)
unfolding refused_text bytes
refusal-length n = simp length-append (omega arith)

-- 64 bits hold it
pub refusal-short : (n : ℕ) → length (refused_text n) < 2 ^ 64
refusal-short n = omega (arith, refusal-length n, decimal-most 20 n)
