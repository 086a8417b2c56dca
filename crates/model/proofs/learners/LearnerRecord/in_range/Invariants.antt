use Rattle.std.proofs.Common.{◌≡◌, drop}
use lib.ListN.{take}
use Rattle.model.specs.Ranges.{all, heard_in_range, learner_in_range}
use Rattle.model.proofs.learners.LearnerRecord.in_range.Given as goal

-- what is left to say is said by the places that are left
abbrev pub invariant-loop-place : goal.invariant-loop-place
invariant-loop-place l = learner_in_range l.z l.self ≡ all (heard_in_range l.z) (drop l.place (take l.z.proposers l.self.heard))
