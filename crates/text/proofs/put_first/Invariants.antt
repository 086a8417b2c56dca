-- What is left of the word, put from its place on, makes the whole. Assumes nothing.
use Rattle.std.proofs.Common.{◌≡◌, drop}
use lib.Seq.{sets}
use Rattle.text.proofs.put_first.Given as goal

abbrev pub invariant-loop-i : goal.invariant-loop-i
invariant-loop-i l = sets l.room l.i (drop l.i l.word) ≡ sets l.initial.room 0 l.word
