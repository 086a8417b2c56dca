-- How long the text of a run can be. Assumes nothing.
use mathlib.Core.List.{List}
use Prim.Native.Nat.{ℕ, suc, ◌+◌, ◌*◌, ◌≤◌, ◌<◌}
use native.Mathlib.Omega.{arith}
use lib.ListN.{length, length-append}
use Rattle.model.proofs.Lists.{All, none, also}
use Rattle.std.specs.Prelude.{Ok, Err}
use Rattle.model.specs.Step.{Answered}
use Rattle.model.specs.declared.Answer.TheVariants.{Done, Learnt, Decided}
use Rattle.text.proofs.DigitLaws.{decimal-short}
use Rattle.printer.specs.Text.{widest_set, lines, lines_from, ok_count, refused_count, end_line, run_text, longest_text}
use Rattle.printer.proofs.Lengths.{width-most, ok-length, learnt-length, decided-length, refused-length, end-length}
use Rattle.printer.proofs.Events.{counts}

-- an answer of a run: a party below 8, a refusal below 100
abbrev pub Short : Answered → Type 0
Short (Ok Done) = Unit {0}
Short (Ok (Learnt l v)) = l.0 < 8
Short (Ok (Decided p v)) = p.0 < 8
Short (Err n) = n < 100

-- the lines of an event before the 10,000th
lines-short : (s place : ℕ) (w : Answered) → place < 10000 → Short w → length (lines s place w) ≤ 24 + widest_set
lines-short s place (Ok Done) h x = omega (arith, ok-length s place, decimal-short 3 20 place h)
lines-short s place (Ok (Learnt l v)) h x = omega (arith, learnt-length s place l v, width-most s, decimal-short 3 20 place h, decimal-short 0 20 l.0 (omega arith))
lines-short s place (Ok (Decided p v)) h x = omega (arith, decided-length s place p v, width-most s, decimal-short 3 20 place h, decimal-short 0 20 p.0 (omega arith))
lines-short s place (Err n) h x = omega (arith, refused-length s place n, decimal-short 3 20 place h, decimal-short 1 20 n x)

lines-from-short : (s place : ℕ) {ws : List Answered} → place + length ws ≤ 10000 → All Short ws → length (lines_from s place ws) ≤ (24 + widest_set) * length ws
unfolding lines_from
lines-from-short s place h none = omega arith
lines-from-short s place h (also {x = w} {xs = ws} x xs) =
    rw (length-append (lines s place w) (lines_from s (suc place) ws)) (omega (arith, lines-short s place w (omega arith) x, lines-from-short s (suc place) (omega arith) xs))

-- the text of a run of at most 4,096 events
pub longest : (s : ℕ) (ws : List Answered) → length ws ≤ 4096 → All Short ws → length (run_text s ws) ≤ longest_text
unfolding run_text
longest s ws h xs =
    let c = counts ws in
    rw
    (length-append (lines_from s 1 ws) (end_line ws))
    (omega (
      arith,
      lines-from-short s 1 (omega arith) xs,
      end-length (length ws) (ok_count ws) (refused_count ws),
      decimal-short 3 20 (length ws) (omega arith),
      decimal-short 3 20 (ok_count ws) (omega arith),
      decimal-short 3 20 (refused_count ws) (omega arith),
    ))
