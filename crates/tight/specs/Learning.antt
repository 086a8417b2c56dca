-- Document 01, the run printer: "A Deliver that changes a learnt set adds place, learnt, learner, the set". A step says `Learnt` exactly then.
use Rattle.std.specs.Prelude.{◌≡◌, ℕ, Ok}
use Rattle.sizes.specs.declared.Sizes.{Sizes}
use Rattle.sets.specs.declared.LearnerId.{LearnerId}
use Rattle.sets.specs.declared.scans.Scans.{Scans}
use Rattle.model.specs.Records.{State, learner_of}
use Rattle.model.specs.Step.{step_no, step}
use Rattle.model.specs.declared.Event.{Event}
use Rattle.model.specs.declared.Answer.TheVariants.{Learnt}

module _ (z : Sizes) (s : State) (e : Event) where
  -- what a learner has learnt before the step, and after it
  abbrev pub before : ℕ → Scans
  before l = (learner_of s l).learnt

  abbrev pub after : ℕ → Scans
  after l = (learner_of (step z s e).state l).learnt

  pub record TellsLearnt : Type 0 where
    -- said of an accepted event, it is what that learner has learnt now, and had not before
    pub accepted : (l : LearnerId) (v : Scans) → (step z s e).answer ≡ Ok (Learnt l v) → step_no z s e ≡ 0
    pub now : (l : LearnerId) (v : Scans) → (step z s e).answer ≡ Ok (Learnt l v) → after l.0 ≡ v
    pub new : (l : LearnerId) (v : Scans) → (step z s e).answer ≡ Ok (Learnt l v) → before l.0 ≡ v → ⊥
    -- no other learner's set changes
    pub others : (l : LearnerId) (v : Scans) → (step z s e).answer ≡ Ok (Learnt l v) → (k : ℕ) → (k ≡ l.0 → ⊥) → after k ≡ before k
    -- and where a learner's set changes, it is said
    pub said : (l : LearnerId) → (after l.0 ≡ before l.0 → ⊥) → (step z s e).answer ≡ Ok (Learnt l (after l.0))
