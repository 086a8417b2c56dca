-- How much of a file decides what is printed.
use mathlib.Core.Path.{◌≡◌, ap}
use mathlib.Core.List.{List}
use Prim.Native.Nat.{ℕ}
use native.Mathlib.Omega.{arith}
use lib.ListN.{take}
use Rattle.schedule.proofs.ScheduleLaws.{Bytes}
use Rattle.schedule.proofs.Following.{schedule-decided}
use Rattle.printer.specs.Printing.{text_of_read, text}

-- a program that reads a file up to one byte past the longest schedule prints the text of the whole file
pub text-decided : (bytes : List ℕ) → Bytes bytes → text (take 36_873 bytes) ≡ text bytes
text-decided bytes b = ap text_of_read (schedule-decided 36_873 bytes (omega arith) b)
