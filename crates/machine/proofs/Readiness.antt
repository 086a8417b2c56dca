-- Laws of a step: the records that it finds are there, and where the room that it asks for is found, what is decided can be sent.
use mathlib.Core.Path.{◌≡◌, refl, sym, ◌∙◌, ap, subst}
use Prim.Native.Nat.{ℕ, zero, suc, ◌-◌, ◌<◌, ◌≤◌}
use native.Mathlib.Nat.{not-suc-le-zero, le_of_suc-le-suc}
use native.Mathlib.Omega.{arith}
use mathlib.Core.Bool.{Bool, true, false, not}
use mathlib.Core.List.{List, [], ◌∷◌}
use lib.Dec.{T as Holds, eqb, ltb, eqb→eq, ltb→lt}
use lib.ListN.{length, get_or, set}
use Rattle.std.specs.Prelude.{if◌then◌else◌}
use Rattle.sizes.specs.declared.Sizes.{Sizes}
use Rattle.model.specs.Records.{free_slot}
use Rattle.model.specs.Table.{is_free, free_slots}
use Rattle.model.specs.Events.{code_of}
use Rattle.model.specs.declared.Proposer.{Proposer}
use Rattle.model.specs.declared.Acceptor.{Acceptor}
use Rattle.model.specs.declared.Learner.{Learner}
use Rattle.model.specs.declared.Message.{Message}
use Rattle.model.specs.declared.Event.{Event}
use Rattle.decisions.specs.Change.{Changes}
use Rattle.decisions.specs.Sending.{is_taken, count_of, lacking}
use Rattle.decisions.specs.Change.{unchanged, change_of, slot_after}
use Rattle.decisions.specs.Refusals.{test_no}
use Rattle.sizes.proofs.SizeLaws.{bounds}
use Rattle.decisions.proofs.Sendable.{Sendable, silent, sendable}
use Rattle.machine.specs.Slots.{Ready}
use Rattle.machine.specs.Stepping.{index_in, Fits}
use Rattle.decisions.specs.Arms.{Decision, need_of, decide_of, refused_of, finish_of}

-- ---- the records that an event finds are there

within_by : (t : Bool) (i n k : ℕ) → (Holds t → i < n) → n ≤ k → 1 ≤ n → (if t then i else 0) < k
within_by true i n k h e l = omega (arith, h tt)
within_by false i n k h e l = omega arith

pub within_in : (i n k : ℕ) → n ≤ k → 1 ≤ n → index_in i n < k
unfolding index_in
within_in i n k e l = within_by (ltb i n) i n k (ltb→lt i n) e l

-- a number in a type of so many values
small-by : (t : Bool) (i n k : ℕ) → (Holds t → i < n) → n ≤ k → 0 < k → (if t then i else 0) < k
small-by true i n k h e l = omega (arith, h tt)
small-by false i n k h e l = l

pub small-in : (i n k : ℕ) → n ≤ k → 0 < k → index_in i n < k
unfolding index_in
small-in i n k e l = small-by (ltb i n) i n k (ltb→lt i n) e l

-- the record of a party's number
pub index-there : {B : Type 0} (l : List B) (p n : ℕ) {r : ℕ} → n ≤ length l → 1 ≤ n → r ≡ index_in p n → r < length l
index-there l p n many some index = subst (λ (k : ℕ). k < length l) (sym index) (within_in p n (length l) many some)

module _ (z : Sizes) (ps : List Proposer) (acs : List Acceptor) (ls : List Learner) (t : List Message) (fit : Fits z ps acs ls t) where
  pub proposer-there : (i : ℕ) → index_in i z.proposers < length ps
  proposer-there i = within_in i z.proposers (length ps) fit.1.0 (bounds z fit.0).some-proposers

  pub acceptor-there : (i : ℕ) → index_in i z.acceptors < length acs
  acceptor-there i = within_in i z.acceptors (length acs) fit.1.1.0 (bounds z fit.0).some-acceptors

  pub learner-there : (i : ℕ) → index_in i z.learners < length ls
  learner-there i = within_in i z.learners (length ls) fit.1.1.1.0 (bounds z fit.0).some-learners

  pub slot-there : (i : ℕ) → index_in i z.slots < length t
  slot-there i = within_in i z.slots (length t) fit.1.1.1.1 (omega (arith, (bounds z fit.0).some-slots))

-- ---- room

-- a record stored as it was
pub same : {B : Type 0} (d : B) (l : List B) (k : ℕ) → set l k (get_or l k d) ≡ l
same d [] k = refl
same d (x ∷ l) zero = refl
same {B} d (x ∷ l) (suc k) = ap (λ (r : List B). x ∷ r) (same d l k)

-- one slot more is free where a taken one is freed
more_by : (t : Bool) (f g : ℕ) → g ≡ suc f → (if t then suc g else g) ≡ suc (if t then suc f else f)
more_by true f g e = ap suc e
more_by false f g e = e

taken-by : (t : Bool) (f : ℕ) → Holds (not t) → suc f ≡ suc (if t then suc f else f)
taken-by true f h = absurd h
taken-by false f h = refl

pub freed : (l : List Message) (k : ℕ) → k < length l → Holds (is_taken (get_or l k free_slot)) → free_slots (set l k free_slot) ≡ suc (free_slots l)
unfolding free_slots
freed [] k i tk = absurd (not-suc-le-zero i)
freed (x ∷ l) zero i tk = taken-by (is_free x) (free_slots l) tk
freed (x ∷ l) (suc k) i tk = more_by (is_free x) (free_slots l) (free_slots (set l k free_slot)) (freed l k (le_of_suc-le-suc i) tk)

one-there : (c f g : ℕ) → g ≡ suc f → (c - 1) - f ≡ 0 → c - g ≡ 0
one-there c f g e h = omega arith

room_by : (frees : Bool) (c k : ℕ) (t : List Message) → k < length t → (Holds frees → Holds (is_taken (get_or t k free_slot))) → lacking (if frees then c - 1 else c) t ≡ 0 → lacking c (set t k (if frees then free_slot else get_or t k free_slot)) ≡ 0
room_by true c k t i tk h = one-there c (free_slots t) (free_slots (set t k free_slot)) (freed t k i (tk tt)) h
room_by false c k t i tk h = ap (lacking c) (same free_slot t k) ∙ h

-- ---- what is decided can be sent

abbrev pub After : (t : List Message) (k : ℕ) → Changes → Type 0
After t k d = Ready d.send (set t k (slot_after d.frees (get_or t k free_slot)))

none-lacking : (f : ℕ) → 0 - f ≡ 0
none-lacking f = omega arith

unchanged-ready : (t : List Message) (k : ℕ) (q : Proposer) (c : Acceptor) → After t k (unchanged q c)
unchanged-ready t k q c = (none-lacking (free_slots (set t k (slot_after false (get_or t k free_slot)))), silent)

change-ready : (t : List Message) (k : ℕ) (d : Changes) → k < length t → Sendable (get_or t k free_slot) d → lacking (if d.frees then (count_of d.send) - 1 else (count_of d.send)) t ≡ 0 → After t k d
unfolding slot_after
change-ready t k d i s h = (room_by d.frees (count_of d.send) k t i s.frees-taken h, s.takes)

-- the three ways that a decision is finished
finish-by : (a b : Bool) (t : List Message) (k : ℕ) (d : Decision) (q : Proposer) (c : Acceptor) → (Holds a → Holds b → After t k d.change) → After t k (if a then (if b then d else refused_of 8 q c) else refused_of d.no q c).change
finish-by true true t k d q c f = f tt tt
finish-by true false t k d q c f = unchanged-ready t k q c
finish-by false b t k d q c f = unchanged-ready t k q c

pub need-none : (n : ℕ) (frees : Bool) (c : ℕ) → n ≡ 0 → need_of n frees c ≡ (if frees then c - 1 else c)
unfolding need_of
need-none n frees c e = ap (λ (k : ℕ). if eqb k 0 then (if frees then c - 1 else c) else 0) e

decided-ready : (z : Sizes) (e : Event) (t : List Message) (k : ℕ) (q : Proposer) (c : Acceptor) (l : Learner) → k < length t → (decide_of z e (get_or t k free_slot) q c l).no ≡ 0 → lacking (decide_of z e (get_or t k free_slot) q c l).need t ≡ 0 → After t k (decide_of z e (get_or t k free_slot) q c l).change
unfolding decide_of
decided-ready z e t k q c l i o h =
    change-ready t k d i (sendable z e.a e.b m q c c.alive l.alive (code_of e.code) o) (ap (λ (n : ℕ). lacking n t) (sym (need-none (test_no z e.a e.b m q c.alive l.alive (code_of e.code)) d.frees (count_of d.send) o)) ∙ h)
  where
    m : Message
    m = get_or t k free_slot

    d : Changes
    d = change_of z e.a e.b m q c (code_of e.code)

pub ready-after : (z : Sizes) (e : Event) (t : List Message) (k : ℕ) (q : Proposer) (c : Acceptor) (l : Learner) → k < length t
    → After t k (finish_of (decide_of z e (get_or t k free_slot) q c l) (lacking (decide_of z e (get_or t k free_slot) q c l).need t) q c).change
unfolding finish_of
ready-after z e t k q c l i = finish-by (eqb d.no 0) (eqb (lacking d.need t) 0) t k d q c (λ o h. decided-ready z e t k q c l i (eqb→eq d.no 0 o) (eqb→eq (lacking d.need t) 0 h))
  where
    d : Decision
    d = decide_of z e (get_or t k free_slot) q c l
