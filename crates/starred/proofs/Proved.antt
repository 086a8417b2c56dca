-- Every starred example holds, by computing the rules. Assumes nothing.
use mathlib.Core.Path.{◌≡◌, refl, ap, ◌∙◌}
use mathlib.Core.List.{List, ◌++◌}
use Prim.Native.Nat.{ℕ}
use Rattle.sizes.specs.declared.Sizes.{Sizes}
use Rattle.sets.specs.Scans.{first_word}
use Rattle.sets.proofs.Computing.{open_sets}
use Rattle.numbers.specs.Coding.{groups_of, most_of, last_group, groups_from, read_number}
use Rattle.clock.specs.Clock.{age, clock_rule_no, clock_rule}
use Rattle.model.specs.declared.Event.{Event}
use Rattle.model.specs.Records.{State, slot_of}
use Rattle.model.specs.Step.{run, answers}
use Rattle.model.proofs.Computing.{the_step, settled_run, run_settled, settled_answers, answers-settled}
use Rattle.starred.specs.Starred.{Answer, value, last_of, Example, majorities, acceptor_answers, counted_once, decided_set, last_number, no_room, scan_times, coded_numbers, starred, Hold, nothing, also}

-- what a run leaves in slot 0, and what its last event answers, by settled states
kind-is : (z : Sizes) (s : State) (es : List Event) (n : ℕ) → (slot_of (settled_run z s es) 0).kind ≡ n → value (slot_of (run z s es) 0).kind ≡ value n
kind-is z s es n h = ap (λ (t : State). value (slot_of t 0).kind) (run_settled z s es) ∙ ap value h

set_is : (z : Sizes) (s : State) (es : List Event) (n : ℕ) → first_word (slot_of (settled_run z s es) 0).set ≡ n → value (first_word (slot_of (run z s es) 0).set) ≡ value n
set_is z s es n h = ap (λ (t : State). value (first_word (slot_of t 0).set)) (run_settled z s es) ∙ ap value h

last-is : (z : Sizes) (s : State) (es : List Event) (w : Answer) → last_of (settled_answers z s es) ≡ w → last_of (answers z s es) ≡ w
last-is z s es w h = ap last_of (answers-settled z s es) ∙ h

-- ---- each group, and all of them

majorities-hold : Hold majorities
unfolding open_sets
majorities-hold = also refl (also refl (also refl (also refl nothing)))

acceptor-answers-hold : Hold acceptor_answers
unfolding the_step settled_run
acceptor-answers-hold = also (kind-is _ _ _ _ refl) (also (kind-is _ _ _ _ refl) (also (set_is _ _ _ _ refl) nothing))

counted-once-hold : Hold counted_once
unfolding the_step settled_answers
counted-once-hold = also (last-is _ _ _ _ refl) nothing

decided-set-hold : Hold decided_set
unfolding the_step settled_answers
decided-set-hold = also (last-is _ _ _ _ refl) nothing

last-number-hold : Hold last_number
unfolding the_step settled_answers
last-number-hold = also (last-is _ _ _ _ refl) (also (last-is _ _ _ _ refl) nothing)

no-room-hold : Hold no_room
unfolding the_step settled_answers
no-room-hold = also (last-is _ _ _ _ refl) nothing

scan-times-hold : Hold scan_times
unfolding age clock_rule_no clock_rule
scan-times-hold = also refl (also refl nothing)

coded-numbers-hold : Hold coded_numbers
unfolding groups_of most_of last_group groups_from read_number
coded-numbers-hold = also refl (also refl nothing)

joined : {xs ys : List Example} → Hold xs → Hold ys → Hold (xs ++ ys)
joined nothing hs = hs
joined (also h gs) hs = also h (joined gs hs)

pub starred-hold : Hold starred
starred-hold =
    joined majorities-hold
    (joined acceptor-answers-hold
    (joined counted-once-hold
    (joined decided-set-hold (joined last-number-hold (joined no-room-hold (joined scan-times-hold coded-numbers-hold))))))
