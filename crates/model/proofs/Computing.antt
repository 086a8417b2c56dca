-- Runs computed by the checker: what is opened for it, and a run that settles each state before it goes on.
use mathlib.Core.Path.{◌≡◌, refl, sym, ap, ◌∙◌}
use mathlib.Core.List.{List, [], ◌∷◌}
use Rattle.sizes.specs.Sizes.{scans_in_range, sizes_in_range}
use Rattle.sizes.specs.declared.Sizes.{Sizes}
use Rattle.sets.proofs.Computing.{open_sets}
use Rattle.model.specs.declared.Event.{Event}
use Rattle.model.specs.Records.{State, fresh}
use Rattle.model.specs.Rules.{buffering, is_current, acknowledging, rejecting, may_propose, propose_no, proposing, may_refine, refine_no, refining, may_decide, decide_no, deciding, crashed_proposer, accepts, accepting, gaining, crashed_acceptor, hearing, learns, listening, crashed_learner}
use Rattle.model.specs.Table.{free_slots, place, post, from, without}
use Rattle.model.specs.Events.{delivery, proposes, crashed, effect, tests}
use Rattle.model.specs.Ranges.{all, proposer_in_range, acceptor_in_range, heard_in_range, learner_in_range, fields_in_range, message_in_range, lengths_in_range, records_in_range}
use Rattle.model.specs.Step.{Answered, stepped, step_no, step, run, answers}

-- ---- `unfolding` one of these opens all that it names

unfoldable pub the_sets : Unit {0}
unfolding open_sets scans_in_range sizes_in_range
the_sets = open_sets

unfoldable pub the_step : Unit {0}
unfolding the_sets fresh buffering is_current acknowledging rejecting may_propose propose_no proposing may_refine refine_no refining may_decide decide_no deciding crashed_proposer accepts accepting gaining crashed_acceptor hearing learns listening crashed_learner free_slots place post from without delivery proposes crashed effect tests all proposer_in_range acceptor_in_range heard_in_range learner_in_range fields_in_range message_in_range lengths_in_range records_in_range stepped step_no step
the_step = the_sets

-- ---- a settled state: its lists are walked to their ends, so that they are computed once

walked : {B R : Type 0} → List B → (List B → R) → R
walked [] k = k []
walked (x ∷ xs) k = walked xs (λ ys. k (x ∷ ys))

walked_same : {B R : Type 0} (l : List B) (k : List B → R) → walked l k ≡ k l
unfolding walked
walked_same [] k = refl
walked_same (x ∷ xs) k = walked_same xs (λ ys. k (x ∷ ys))

settled : {R : Type 0} → State → (State → R) → R
settled s k =
    walked s.proposers (λ p. walked s.acceptors (λ q. walked s.learners (λ l. walked s.slots (λ t.
    k (record { proposers = p; acceptors = q; learners = l; slots = t })))))

settled_same : {R : Type 0} (s : State) (k : State → R) → settled s k ≡ k s
unfolding settled
settled_same s k =
    walked_same s.proposers _ ∙ walked_same s.acceptors _ ∙ walked_same s.learners _ ∙ walked_same s.slots _

-- ---- the run and its answers, each state settled

unfoldable pub settled_run : Sizes → State → List Event → State
unfolding settled walked
settled_run z s [] = s
settled_run z s (e ∷ es) = settled (step z s e).state (λ t. settled_run z t es)

pub run_settled : (z : Sizes) (s : State) (es : List Event) → run z s es ≡ settled_run z s es
unfolding run settled_run
run_settled z s [] = refl
run_settled z s (e ∷ es) = run_settled z (step z s e).state es ∙ sym (settled_same (step z s e).state (λ t. settled_run z t es))

unfoldable pub settled_answers : Sizes → State → List Event → List Answered
unfolding settled walked
settled_answers z s [] = []
settled_answers z s (e ∷ es) = (step z s e).answer ∷ settled (step z s e).state (λ t. settled_answers z t es)

pub answers-settled : (z : Sizes) (s : State) (es : List Event) → answers z s es ≡ settled_answers z s es
unfolding answers settled_answers
answers-settled z s [] = refl
answers-settled z s (e ∷ es) =
    ap (λ (l : List Answered). (step z s e).answer ∷ l)
    (answers-settled z (step z s e).state es ∙ sym (settled_same (step z s e).state (λ t. settled_answers z t es)))
