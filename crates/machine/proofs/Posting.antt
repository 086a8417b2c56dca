-- Laws of sending: a message goes into the lowest free slot, which takes one free slot away and leaves none free below the next.
use mathlib.Core.Path.{◌≡◌, refl, sym, ◌∙◌, ap, subst}
use Prim.Native.Nat.{ℕ, suc, ◌+◌, ◌-◌, ◌<◌, ◌≤◌}
use native.Mathlib.Nat.{not-suc-le-zero}
use native.Mathlib.Omega.{arith}
use native.Mathlib.Numerals.{add-one}
use mathlib.Core.Bool.{Bool, true, false, not}
use mathlib.Core.List.{List, [], ◌∷◌, map}
use lib.Dec.{T as Holds}
use lib.ListN.{length, set, drop}
use Rattle.std.specs.Prelude.{if◌then◌else◌}
use Rattle.choice.proofs.Tests.{and_l, and_r}
use Rattle.model.specs.Table.{is_free, free_slots, place, post, from}
use Rattle.model.specs.Ranges.{all}
use Rattle.model.specs.declared.Message.{Message}
use Rattle.decisions.specs.declared.sending.Send.{Send}
use Rattle.decisions.specs.Sending.{is_taken, count_of, item_of, items_of, lacking}
use Rattle.machine.specs.Slots.{lowest, lowest_from, FreeFrom, Ready}

-- ---- the lowest free slot

-- it is where a message is placed
place-by : (t : Bool) (x m : Message) (l : List Message) → place m l ≡ set l (lowest l) m → (if t then (m ∷ l) else (x ∷ place m l)) ≡ set (x ∷ l) (if t then 0 else suc (lowest l)) m
place-by true x m l e = refl
place-by false x m l e = ap (λ (r : List Message). x ∷ r) e

placed : (m : Message) (l : List Message) → place m l ≡ set l (lowest l) m
unfolding place lowest
placed m [] = refl
placed m (x ∷ l) = place-by (is_free x) x m l (placed m l)

-- where a slot is free, it is inside
inside-by : (t : Bool) (f n x : ℕ) → (0 < f → x < n) → 0 < (if t then suc f else f) → (if t then 0 else suc x) < suc n
inside-by true f n x g h = omega arith
inside-by false f n x g h = omega (arith, g h)

lowest-inside : (l : List Message) → 0 < free_slots l → lowest l < length l
unfolding free_slots lowest
lowest-inside [] h = h
lowest-inside (x ∷ l) h = inside-by (is_free x) (free_slots l) (length l) (lowest l) (lowest-inside l) h

-- a message that takes its slot takes one free slot away
first_taken : (m : Message) (l : List Message) → Holds (is_taken m) → free_slots (m ∷ l) ≡ free_slots l
unfolding free_slots
first_taken m l h = by-test (is_free m) (free_slots l) h
  where
    by-test : (t : Bool) (f : ℕ) → Holds (not t) → (if t then suc f else f) ≡ f
    by-test true f h = absurd h
    by-test false f h = refl

fewer-by : (t : Bool) (x m : Message) (l : List Message) → t ≡ is_free x → Holds (is_taken m) → (0 < free_slots l → suc (free_slots (set l (lowest l) m)) ≡ free_slots l)
    → 0 < (if t then suc (free_slots l) else free_slots l) → suc (free_slots (set (x ∷ l) (if t then 0 else suc (lowest l)) m)) ≡ (if t then suc (free_slots l) else free_slots l)
fewer-by true x m l e tk g h = ap suc (first_taken m l tk)
fewer-by false x m l e tk g h = ap suc (first_taken x (set l (lowest l) m) (subst (λ (t : Bool). Holds (not t)) e tt)) ∙ g h

one_fewer : (l : List Message) (m : Message) → Holds (is_taken m) → 0 < free_slots l → suc (free_slots (set l (lowest l) m)) ≡ free_slots l
unfolding free_slots lowest
one_fewer [] m tk h = absurd (not-suc-le-zero h)
one_fewer (x ∷ l) m tk h = fewer-by (is_free x) x m l refl tk (one_fewer l m tk) h

-- at the slot that was the lowest, and below it, none is free then
first-passed : (m : Message) (l : List Message) → Holds (is_taken m) → lowest (m ∷ l) ≡ suc (lowest l)
unfolding lowest
first-passed m l h = by-test (is_free m) (lowest l) h
  where
    by-test : (t : Bool) (k : ℕ) → Holds (not t) → (if t then 0 else suc k) ≡ suc k
    by-test true k h = absurd h
    by-test false k h = refl

abbrev Passed : List Message → ℕ → Message → Type 0
Passed l i m = lowest (set l i m) ≡ suc i + lowest (drop (suc i) (set l i m))

shift : (a b : ℕ) → suc (suc a + b) ≡ suc (suc a) + b
shift a b = omega arith

one_more : (a : ℕ) → suc a ≡ 1 + a
one_more a = omega arith

passed-by : (t : Bool) (x m : Message) (l : List Message) → t ≡ is_free x → Holds (is_taken m) → (lowest l < length l → Passed l (lowest l) m) → (if t then 0 else suc (lowest l)) < suc (length l) → Passed (x ∷ l) (if t then 0 else suc (lowest l)) m
passed-by true x m l e tk g h = first-passed m l tk ∙ one_more (lowest l)
passed-by false x m l e tk g h = first-passed x (set l (lowest l) m) (subst (λ (t : Bool). Holds (not t)) e tt) ∙ ap suc (g (omega (arith, h))) ∙ shift (lowest l) (lowest (drop (suc (lowest l)) (set l (lowest l) m)))

passed-at : (l : List Message) (m : Message) → Holds (is_taken m) → lowest l < length l → Passed l (lowest l) m
unfolding lowest
passed-at [] m tk h = absurd (not-suc-le-zero h)
passed-at (x ∷ l) m tk h = passed-by (is_free x) x m l refl tk (passed-at l m tk) h

passed_on : (l : List Message) (m : Message) → Holds (is_taken m) → lowest l < length l → lowest (set l (lowest l) m) ≡ lowest_from (lowest l + 1) (set l (lowest l) m)
passed_on l m tk h = passed-at l m tk h ∙ ap (λ (j : ℕ). j + lowest (drop j (set l (lowest l) m))) (sym (add-one (lowest l)))

-- ---- what is still to be sent

-- c messages from message j on
abbrev items_from : Send → ℕ → ℕ → List Message
items_from s j c = map (item_of s) (from j c)

peel : (j c : ℕ) → j < c → c - j ≡ suc (c - (j + 1))
peel j c h = omega arith

items-on : (s : Send) (j c : ℕ) → items_from s j (suc c) ≡ item_of s j ∷ items_from s (j + 1) c
unfolding from
items-on s j c = ap (λ (k : ℕ). item_of s j ∷ items_from s k c) (sym (add-one j))

unrolled : (s : Send) (j c : ℕ) → j < c → items_from s j (c - j) ≡ item_of s j ∷ items_from s (j + 1) (c - (j + 1))
unrolled s j c h = ap (items_from s j) (peel j c h) ∙ items-on s j (c - (j + 1))

left-none : (j c : ℕ) → c ≤ j → c - j ≡ 0
left-none j c h = omega arith

all-sent : (s : Send) (j c : ℕ) → c ≤ j → items_from s j (c - j) ≡ []
unfolding from
all-sent s j c h = ap (items_from s j) (left-none j c h)

all_left : (c : ℕ) → c - 0 ≡ c
all_left c = omega arith

none-sent : (s : Send) → items_from s 0 (count_of s - 0) ≡ items_of s
unfolding items_of
none-sent s = ap (items_from s 0) (all_left (count_of s))

first-takes : (m : Message) (ms : List Message) → all is_taken (m ∷ ms) ≡ true → Holds (is_taken m)
unfolding all
first-takes m ms e = subst Holds (sym (and_l (is_taken m) (all is_taken ms) e)) tt

pub others-take : (m : Message) (ms : List Message) → all is_taken (m ∷ ms) ≡ true → all is_taken ms ≡ true
unfolding all
others-take m ms e = and_r (is_taken m) (all is_taken ms) e

some-free : (j c f : ℕ) → j < c → (c - j) - f ≡ 0 → 0 < f
some-free j c f h e = omega arith

still-room : (j c f g : ℕ) → j < c → suc g ≡ f → (c - j) - f ≡ 0 → (c - (j + 1)) - g ≡ 0
still-room j c f g h e r = omega arith

post-on : (m : Message) (ms l : List Message) → post (m ∷ ms) l ≡ post ms (set l (lowest l) m)
unfolding post
post-on m ms l = ap (post ms) (placed m l)

post-none : (l : List Message) → post [] l ≡ l
unfolding post
post-none l = refl

plus : (a : ℕ) → a ≡ 0 + a
plus a = omega arith

-- ---- a turn of `send_all`

-- what holds before message j is sent from place i on, of the table ys that was lent and the table ws as it stands
pub record Sends (s : Send) (ys : List Message) (j i : ℕ) (ws : List Message) : Type 0 where
  pub passed : lowest ws ≡ lowest_from i ws
  pub roomy : lacking (count_of s - j) ws ≡ 0
  pub taken : all is_taken (items_from s j (count_of s - j)) ≡ true
  pub leaves : post (items_from s j (count_of s - j)) ws ≡ post (items_of s) ys

pub begin : (s : Send) (ys : List Message) → Ready s ys → Sends s ys 0 0 ys
begin s ys h = record {
  passed = plus (lowest ys);
  roomy = ap (λ (k : ℕ). lacking k ys) (all_left (count_of s)) ∙ h.0;
  taken = ap (all is_taken) (none-sent s) ∙ h.1;
  leaves = ap (λ (ms : List Message). post ms ys) (none-sent s);
}

module _ {s : Send} {ys : List Message} {j i : ℕ} {ws : List Message} (h : Sends s ys j i ws) where
  pub last : count_of s ≤ j → ws ≡ post (items_of s) ys
  last l = sym (ap (λ (ms : List Message). post ms ws) (all-sent s j (count_of s) l) ∙ post-none ws) ∙ h.leaves

  module _ (l : j < count_of s) where
    abbrev rest : List Message
    rest = items_from s (j + 1) (count_of s - (j + 1))

    taking : all is_taken (item_of s j ∷ rest) ≡ true
    taking = ap (all is_taken) (sym (unrolled s j (count_of s) l)) ∙ h.taken

    free-there : 0 < free_slots ws
    free-there = some-free j (count_of s) (free_slots ws) l h.roomy

    pub free : FreeFrom i ws
    free = subst (λ (k : ℕ). k < length ws) h.passed (lowest-inside ws free-there)

    lower : Sends s ys (j + 1) (lowest ws + 1) (set ws (lowest ws) (item_of s j))
    lower = record {
      passed = passed_on ws (item_of s j) (first-takes (item_of s j) rest taking) (lowest-inside ws free-there);
      roomy = still-room j (count_of s) (free_slots ws) (free_slots (set ws (lowest ws) (item_of s j))) l (one_fewer ws (item_of s j) (first-takes (item_of s j) rest taking) free-there) h.roomy;
      taken = others-take (item_of s j) rest taking;
      leaves = sym (ap (λ (ms : List Message). post ms ws) (unrolled s j (count_of s) l) ∙ post-on (item_of s j) rest ws) ∙ h.leaves;
    }

    pub next : Sends s ys (j + 1) (lowest_from i ws + 1) (set ws (lowest_from i ws) (item_of s j))
    next = subst (λ (k : ℕ). Sends s ys (j + 1) (k + 1) (set ws k (item_of s j))) h.passed lower
