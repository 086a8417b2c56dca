use borrow.Author.Rules.{rules}
use borrow.Author.Tests.{lt-ltb, le-ltb}
use Rattle.sets.specs.Acceptors.{most_acceptors, with_one}
use Rattle.sets.proofs.Masks.{one_shifted}
use Rattle.sets.proofs.acceptors.Acceptors.with.Goals as goal

pub returns-then-k-lt-MOST_ACCEPTORS : goal.returns-then-k-lt-MOST_ACCEPTORS
unfolding most_acceptors with_one
returns-then-k-lt-MOST_ACCEPTORS c = let k = c.args.acceptor.0 in
    simp (lt-ltb k 7 (search rules), one_shifted 8 k (search rules))

pub returns : goal.returns
unfolding most_acceptors with_one
returns c = simp (le-ltb c.args.acceptor.0 7 (search rules))
