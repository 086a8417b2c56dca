use mathlib.Core.Path.{sym}
use borrow.Author.Rules.{rules}
use Rattle.sets.specs.Acceptors.{fits_run}
use Rattle.sets.proofs.Masks.{shifted-out, power-above}
use Rattle.sets.proofs.acceptors.Acceptors.fits.Goals as goal

pub returns-then-acceptors-lt8 : goal.returns-then-acceptors-lt8
unfolding fits_run
returns-then-acceptors-lt8 c = shifted-out c.args.self.bits c.args.acceptors

pub returns : goal.returns
unfolding fits_run
returns c = sym (power-above 8 c.args.acceptors (search rules) (search rules))
