-- How the calls test what they are given and count what they do: contracts of private functions.
use Rattle.std.specs.Prelude.{Bool, ◌&&◌, List, ℕ, eqb, leb, length}
use Rattle.choice.specs.Tests.{◌unless◌, ◌⨾◌, ok}
use Rattle.sizes.specs.Sizes.{sizes_in_range}
use Rattle.sizes.specs.Events.{most_events}
use Rattle.sizes.specs.declared.Sizes.{Sizes}
use Rattle.model.specs.Ranges.{all, proposer_in_range, acceptor_in_range, learner_in_range, message_in_range}
use Rattle.model.specs.declared.Proposer.{Proposer}
use Rattle.model.specs.declared.Acceptor.{Acceptor}
use Rattle.model.specs.declared.Learner.{Learner}
use Rattle.model.specs.declared.Message.{Message}
use Rattle.machine.specs.Calls.{enough_of}

-- how many there are of each
abbrev pub lengths_are : Sizes → ℕ → ℕ → ℕ → ℕ → Bool
lengths_are z p a l m = eqb p z.proposers && eqb a z.acceptors && eqb l z.learners && eqb m z.slots

-- the sizes, how many there are of each, and what they hold, are in range
abbrev pub are_sound : Sizes → List Proposer → List Acceptor → List Learner → List Message → Bool
are_sound z ps acs ls t =
    sizes_in_range z
    && lengths_are z (length ps) (length acs) (length ls) (length t)
    && all (proposer_in_range z) ps
    && all (acceptor_in_range z) acs
    && all (learner_in_range z) ls
    && all (message_in_range z) t

-- the refusal of n events, where there are e numbers and l places of the log
abbrev pub events_no : ℕ → ℕ → ℕ → ℕ
events_no e l n = 3 unless leb n most_events ⨾ 8 unless enough_of e l n ⨾ ok
