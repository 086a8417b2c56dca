-- What the text of a schedule that is read tells: the answers of a run from fresh of the events that stand there, a run of which demand 3 holds.
use Rattle.std.specs.Prelude.{◌≡◌, List, [], ◌∷◌, ℕ, suc, ◌<◌, get_or, Ok, Err}
use Rattle.sizes.specs.declared.Sizes.{Sizes}
use Rattle.schedule.specs.Schedule.{schedule_form}
use Rattle.model.specs.Records.{State, fresh, proposer_of, learner_of}
use Rattle.model.specs.Step.{Answered, answers}
use Rattle.model.specs.Safety.{moment, Safe}
use Rattle.model.specs.declared.Event.{Event}
use Rattle.model.specs.declared.Answer.TheVariants.{Done, Learnt, Decided}
use Rattle.printer.specs.Text.{run_text}
use Rattle.printer.specs.Printing.{text}

-- the numbers of events as a schedule has them: code, a, b
unfoldable pub event_numbers : List Event → List ℕ
event_numbers [] = []
event_numbers (e ∷ es) = e.code ∷ e.a ∷ e.b ∷ event_numbers es

-- what an answer says is so, where its event left the state s: the party that it names is one of the run's, and that party has exactly the set
unfoldable pub IsSo : Sizes → State → Answered → Type 0
IsSo z s (Ok Done) = Unit
IsSo z s (Ok (Learnt l v)) = (l.0 < z.learners) × ((learner_of s l.0).learnt ≡ v)
IsSo z s (Ok (Decided p v)) = (p.0 < z.proposers) × ((proposer_of s p.0).decided ≡ v)
IsSo z s (Err n) = Unit

pub record Tells (bytes : List ℕ) (z : Sizes) (es : List Event) : Type 0 where
  -- the bytes are the written form of these sizes and these events, and nothing else
  pub written : bytes ≡ schedule_form z (event_numbers es)
  -- the text is the lines of what a run of these events from fresh answers
  pub printed : text bytes ≡ run_text z.scans (answers z (fresh z) es)
  -- of this run demand 3 holds
  pub safe : Safe z es
  -- a set that a line says is learnt or decided is so right after that line's event
  pub so : (i : ℕ) → IsSo z (moment z es (suc i)) (get_or (answers z (fresh z) es) i (Ok Done))
