use mathlib.Core.Path.{refl, sym}
use borrow.Author.Rules.{rules}
use Rattle.sets.specs.Scans.{holds, word, word_of, digit_of}
use Rattle.sets.proofs.Masks.{no_member}
use Rattle.sets.proofs.scans.Scans.holds.Goals as goal

pub returns-then-k-lt-MOST_SCANS : goal.returns-then-k-lt-MOST_SCANS
unfolding holds word word_of digit_of
returns-then-k-lt-MOST_SCANS c = refl

pub returns : goal.returns
unfolding holds word word_of digit_of
returns c = sym (no_member 64 c.args.scan.0 (search rules) (search rules))
