-- What an event that is not refused sends takes its slots, and a slot that it frees is taken. This is the one law that goes by the events.
use mathlib.Core.Path.{◌≡◌, refl, ◌∙◌, ap}
use mathlib.Core.Bool.{Bool, true, false, ◌&&◌}
use mathlib.Core.List.{map}
use Prim.Native.Nat.{ℕ, zero, suc, ◌-◌}
use native.Mathlib.Omega.{arith}
use lib.Dec.{T as Holds, eqb, ltb}
use Rattle.std.specs.Prelude.{if◌then◌else◌}
use Rattle.sets.specs.declared.scans.Scans.{Scans}
use Rattle.sizes.specs.declared.Sizes.{Sizes}
use Rattle.model.specs.Records.{kind_of, role_of, addressed}
use Rattle.model.specs.declared.Kind.{Kind}
use Rattle.model.specs.declared.Kind.TheVariants.{Free as free, Internal as internal, Proposal as proposal, Acknowledgement as acknowledgement, Rejection as rejection, Announcement as announcement, NoKind as no_kind}
use Rattle.model.specs.declared.Role.{Role}
use Rattle.model.specs.declared.Role.TheVariants.{Proposer as a_proposer, Acceptor as an_acceptor, Learner as a_learner, NoRole as no_role}
use Rattle.model.specs.Rules.{accepts, answering}
use Rattle.model.specs.Table.{from}
use Rattle.choice.specs.Tests.{◌unless◌, ◌⨾◌, ok}
use Rattle.choice.proofs.Tests.{no-refusal}
use Rattle.model.specs.Ranges.{all}
use Rattle.model.specs.declared.Code.{Code}
use Rattle.model.specs.declared.Code.TheVariants.{Receive as receive, Deliver as deliver, Drop as drop, Duplicate as duplicate, Propose as propose, Refine as refine, Decide as decide, Crash as crash, NoCode as no_code}
use Rattle.model.specs.declared.Proposer.{Proposer}
use Rattle.model.specs.declared.Acceptor.{Acceptor}
use Rattle.model.specs.declared.Message.{Message}
use Rattle.decisions.specs.declared.sending.Send.{Send}
use Rattle.decisions.specs.declared.sending.Send.TheVariants.{Nothing, One, Everyone, Others, Acknowledgements}
use Rattle.decisions.specs.Sending.{is_taken, silence, addressed_to, to_proposer, item_of, items_of}
use Rattle.decisions.specs.Change.{Changes, acceptor_sends, answering_of, delivering_of, crashing_of, receiving_of, change_of}
use Rattle.decisions.specs.Refusals.{alive_in, slot_no, test_no}

pub record Sendable (m : Message) (d : Changes) : Type 0 where
  pub takes : all is_taken (items_of d.send) ≡ true
  pub frees-taken : Holds d.frees → Holds (is_taken m)

-- ---- each message that is sent takes its slot, where the one that they are made of does

made_of : Send → Type 0
made_of Nothing = Unit {0}
made_of (One m) = Holds (is_taken m)
made_of (Everyone n m) = Holds (is_taken m)
made_of (Others n a m) = Holds (is_taken m)
made_of (Acknowledgements n m) = Holds (is_taken m)

either-taken : (t : Bool) (x y : Message) → Holds (is_taken x) → Holds (is_taken y) → Holds (is_taken (if t then x else y))
either-taken true x y h k = h
either-taken false x y h k = k

and-by : (t u : Bool) → Holds t → u ≡ true → (t && u) ≡ true
and-by true u h e = e
and-by false u h e = absurd h

items-by : (s : Send) → ((k : ℕ) → Holds (is_taken (item_of s k))) → (i n : ℕ) → all is_taken (map (item_of s) (from i n)) ≡ true
unfolding all from
items-by s h i zero = refl
items-by s h i (suc n) = and-by (is_taken (item_of s i)) (all is_taken (map (item_of s) (from (suc i) n))) (h i) (items-by s h (suc i) n)

items-taken : (s : Send) → made_of s → all is_taken (items_of s) ≡ true
unfolding items_of item_of made_of all from
items-taken Nothing h = refl
items-taken (One m) h = items-by (One m) (λ k. h) 0 1
items-taken (Everyone n m) h = items-by (Everyone n m) (λ k. h) 0 n
items-taken (Others n a m) h = items-by (Others n a m) (λ k. h) 0 n
items-taken (Acknowledgements n m) h =
    items-by (Acknowledgements n m) (λ k. either-taken (eqb k 0) (to_proposer m) (addressed_to m (k - 1)) tt h) 0 n

pub silent : all is_taken (items_of silence) ≡ true
unfolding items_of all from
silent = refl

-- ---- the slot of codes 2 to 4 is taken

not_none : (n : ℕ) → suc n ≡ 0 → ⊥
not_none n e = omega arith

slot-by : (t u : Bool) → (3 unless t ⨾ 4 unless u ⨾ ok) ≡ 0 → Holds u
slot-by true true e = tt
slot-by true false e = absurd (not_none 3 e)
slot-by false u e = absurd (not_none 2 e)

slot-taken : (z : Sizes) (a b : ℕ) (m : Message) → slot_no z a b m ≡ 0 → Holds (is_taken m)
slot-taken z a b m e = slot-by (ltb a z.slots && eqb b 0) (is_taken m) e

-- ---- by event

quiet : {m : Message} {d : Changes} → d.send ≡ silence → (Holds d.frees → Holds (is_taken m)) → Sendable m d
quiet {m} {d} e h = record { takes = ap (λ (s : Send). all is_taken (items_of s)) e ∙ silent; frees-taken = h }

loud : {m : Message} {d : Changes} → made_of d.send → (Holds d.frees → Holds (is_taken m)) → Sendable m d
loud {m} {d} t h = record { takes = items-taken d.send t; frees-taken = h }

acceptor-sends : (z : Sizes) (m : Message) (t : Bool) (v : Scans) → made_of (acceptor_sends z m t v)
unfolding acceptor_sends made_of
acceptor-sends z m true v = tt
acceptor-sends z m false v = tt

delivery : (z : Sizes) (m : Message) (q : Proposer) (c : Acceptor) (k : Kind) → Holds (is_taken m) → Sendable m (delivering_of z m q c k)
unfolding delivering_of answering_of
delivery z m q c free h = quiet refl (λ f. h)
delivery z m q c internal h = quiet refl (λ f. h)
delivery z m q c proposal h = loud (acceptor-sends z m (accepts c m.set) (answering c m.set).accepted) (λ f. h)
delivery z m q c acknowledgement h = quiet refl (λ f. h)
delivery z m q c rejection h = quiet refl (λ f. h)
delivery z m q c announcement h = quiet refl (λ f. h)
delivery z m q c no_kind h = quiet refl (λ f. h)

crashes : (m : Message) (q : Proposer) (c : Acceptor) (r : Role) → Sendable m (crashing_of q c r)
unfolding crashing_of
crashes m q c a_proposer = quiet refl (λ f. absurd f)
crashes m q c an_acceptor = quiet refl (λ f. absurd f)
crashes m q c a_learner = quiet refl (λ f. absurd f)
crashes m q c no_role = quiet refl (λ f. absurd f)

pub sendable : (z : Sizes) (a b : ℕ) (m : Message) (q : Proposer) (c : Acceptor) (x y : Bool) (code : Code) → test_no z a b m q x y code ≡ 0 → Sendable m (change_of z a b m q c code)
unfolding change_of test_no receiving_of made_of
sendable z a b m q c x y receive e = loud tt (λ f. absurd f)
sendable z a b m q c x y deliver e = delivery z m q c (kind_of m.kind) (slot-taken z a b m (no-refusal (slot_no z a b m) (5 unless alive_in (addressed (kind_of m.kind)) q.alive x y ⨾ ok) e))
sendable z a b m q c x y drop e = quiet refl (λ f. slot-taken z a b m e)
sendable z a b m q c x y duplicate e = loud (slot-taken z a b m e) (λ f. absurd f)
sendable z a b m q c x y propose e = loud tt (λ f. absurd f)
sendable z a b m q c x y refine e = loud tt (λ f. absurd f)
sendable z a b m q c x y decide e = quiet refl (λ f. absurd f)
sendable z a b m q c x y crash e = crashes m q c (role_of a)
sendable z a b m q c x y no_code e = quiet refl (λ f. absurd f)
