-- How many slots are free after a step: its messages fill exactly as many as they are.
use mathlib.Core.Path.{◌≡◌, refl, ap}
use mathlib.Core.Bool.{Bool, true, false}
use mathlib.Core.List.{List, [], ◌∷◌}
use Prim.Native.Nat.{ℕ, suc, ◌+◌, ◌≤◌}
use native.Mathlib.Omega.{arith}
use lib.ListN.{length}
use borrow.Author.Tests.{leb-true, not-true}
use Rattle.sizes.specs.declared.Sizes.{Sizes}
use Rattle.sets.specs.Scans.{only}
use Rattle.model.specs.declared.Message.{Message}
use Rattle.model.specs.declared.Event.{Event}
use Rattle.model.specs.Records.{State, Kind, free, internal, proposal, acknowledgement, rejection, announcement, no_kind, kind_of, proposer_of, acceptor_of, slot_of, freeing}
use Rattle.model.specs.Rules.{is_current, accepts}
use Rattle.model.specs.Table.{is_free, free_slots, place, post, Announcement, Proposal, Internal}
use Rattle.model.specs.Events.{Code, receive, deliver, drop, duplicate, propose, refine, decide, crash, no_code, code_of, Effect, effect, delivery, proposes, tests}
use Rattle.model.specs.Step.{step_no, step}
use Rattle.choice.proofs.Tests.{if-ind, test-passed, rest-passed, rest-unrefused}
use Rattle.model.proofs.Lists.{All, none, also, map-all, every-one-below, every-other-below}
use Rattle.model.proofs.Steps.{does, ok_tests, ok_step}

-- a message takes the slot that it stands in
abbrev pub Taken : Message → Type 0
Taken m = is_free m ≡ false

-- ---- the table, first slot free or taken

count-free : (x : Message) (t : List Message) → is_free x ≡ true → free_slots (x ∷ t) ≡ suc (free_slots t)
unfolding free_slots
count-free x t q = rw q

count-taken : (x : Message) (t : List Message) → is_free x ≡ false → free_slots (x ∷ t) ≡ free_slots t
unfolding free_slots
count-taken x t q = rw q

place-free : (m x : Message) (t : List Message) → is_free x ≡ true → place m (x ∷ t) ≡ m ∷ t
unfolding place
place-free m x t q = rw q

place-taken : (m x : Message) (t : List Message) → is_free x ≡ false → place m (x ∷ t) ≡ x ∷ place m t
unfolding place
place-taken m x t q = rw q

-- a message into the lowest free slot leaves one fewer
place-fills : (m : Message) (t : List Message) → is_free m ≡ false → 1 ≤ free_slots t → free_slots (place m t) + 1 ≡ free_slots t
unfolding free_slots
place-fills m [] e h = absurd (omega arith)
place-fills m (x ∷ t) e h = by (place-fills m t e) (is_free x) refl
  where
    by : (1 ≤ free_slots t → free_slots (place m t) + 1 ≡ free_slots t) → (b : Bool) → is_free x ≡ b → free_slots (place m (x ∷ t)) + 1 ≡ free_slots (x ∷ t)
    by rest true q = omega (arith, ap free_slots (place-free m x t q), count-taken m t e, count-free x t q)
    by rest false q =
        let n : 1 ≤ free_slots t = omega (arith, count-taken x t q) in
        omega (arith, ap free_slots (place-taken m x t q), count-taken x (place m t) q, count-taken x t q, rest n)

-- several messages, with room for them
pub post-fills : {ms : List Message} → All Taken ms → (t : List Message) → length ms ≤ free_slots t
    → free_slots (post ms t) + length ms ≡ free_slots t
unfolding post
post-fills none t h = omega arith
post-fills (also {x = m} {xs = ms} e es) t h =
    let n : free_slots (place m t) + 1 ≡ free_slots t = place-fills m t e (omega arith) in
    omega (arith, post-fills es (place m t) (omega arith))

-- ---- what an event sends fills slots, and finds room

abbrev SendsTaken : Effect → Type 0
SendsTaken e = All Taken e.sends

delivery-taken : (z : Sizes) (s : State) (m : Message) (k : Kind) → SendsTaken (delivery z s m k)
unfolding delivery
delivery-taken z s m free = none
delivery-taken z s m internal = none
delivery-taken z s m proposal =
    if-ind SendsTaken (accepts (acceptor_of s m.addressee) m.set) _ _
    (λ e. also refl (map-all Taken (Announcement m.proposer.0 m.addressee m.number m.set) (λ l h. refl) (every-one-below z.learners)))
    (λ e. also refl none)
delivery-taken z s m acknowledgement =
    if-ind SendsTaken (is_current (proposer_of s m.addressee) m.number) _ _ (λ e. none) (λ e. none)
delivery-taken z s m rejection =
    if-ind SendsTaken (is_current (proposer_of s m.addressee) m.number) _ _ (λ e. none) (λ e. none)
delivery-taken z s m announcement = none
delivery-taken z s m no_kind = none

duplicate-passed : (z : Sizes) (s : State) (a b : ℕ) → tests z s duplicate a b ≡ 0 → is_free (slot_of s a) ≡ false
unfolding tests
duplicate-passed z s a b t = not-true (is_free (slot_of s a)) (search (rest-passed 2, test-passed 3))

effect-taken : (z : Sizes) (s : State) (c : Code) (a b : ℕ) → tests z s c a b ≡ 0 → SendsTaken (effect z s c a b)
unfolding effect proposes
effect-taken z s receive a b t =
    map-all Taken (Internal (only b)) (λ i h. refl) (every-other-below a z.proposers)
effect-taken z s deliver a b t = delivery-taken z (freeing s a) (slot_of s a) (kind_of (slot_of s a).kind)
effect-taken z s drop a b t = none
effect-taken z s duplicate a b t = also (duplicate-passed z s a b t) none
effect-taken z s propose a b t = map-all Taken (Proposal a _ _) (λ j h. refl) (every-one-below z.acceptors)
effect-taken z s refine a b t = map-all Taken (Proposal a _ _) (λ j h. refl) (every-one-below z.acceptors)
effect-taken z s decide a b t = none
effect-taken z s crash a b t = none
effect-taken z s no_code a b t = none

effect-room : (z : Sizes) (s : State) (c : Code) (a b : ℕ) → tests z s c a b ≡ 0 → length (effect z s c a b).sends ≤ free_slots (effect z s c a b).left.slots
unfolding tests effect
effect-room z s receive a b t = search (leb-true, rest-passed 2, rest-passed 4, test-passed 7)
effect-room z s deliver a b t = search (leb-true, rest-passed 2, rest-passed 3, rest-passed 4, test-passed 7)
effect-room z s drop a b t = omega arith
effect-room z s duplicate a b t = search (leb-true, rest-passed 2, rest-passed 3, test-passed 7)
effect-room z s propose a b t = search (leb-true, rest-passed 2, rest-unrefused, test-passed 7)
effect-room z s refine a b t = search (leb-true, rest-passed 2, rest-unrefused, test-passed 7)
effect-room z s decide a b t = omega arith
effect-room z s crash a b t = omega arith
effect-room z s no_code a b t = omega arith

-- the free slots that an accepted event leaves are those that its messages take and those that stay free
pub free-after : (z : Sizes) (s : State) (e : Event) → step_no z s e ≡ 0
    → free_slots (step z s e).state.slots + length (does z s e).sends ≡ free_slots (does z s e).left.slots
free-after z s e ok =
    let t = ok_tests z s e ok in
    rw (ok_step z s e ok) (post-fills (effect-taken z s (code_of e.code) e.a e.b t) (does z s e).left.slots (effect-room z s (code_of e.code) e.a e.b t))
