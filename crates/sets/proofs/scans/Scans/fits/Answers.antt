use mathlib.Core.Path.{sym}
use borrow.Author.Rules.{rules}
use Rattle.sets.specs.Scans.{fits, every, word, digits_below}
use Rattle.sets.proofs.Masks.{shifted-out, power-above}
use Rattle.sets.proofs.scans.Scans.fits.Goals as goal

pub returns-then-scans-lt-MOST_SCANS : goal.returns-then-scans-lt-MOST_SCANS
unfolding fits every word digits_below
returns-then-scans-lt-MOST_SCANS c = shifted-out c.args.self.bits c.args.scans

pub returns : goal.returns
unfolding fits every word digits_below
returns c = sym (power-above 64 c.args.scans (search rules) (search rules))
