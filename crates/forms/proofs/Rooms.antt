-- A whole form, and what reading it into room gives. Assumes nothing.
use mathlib.Core.Path.{◌≡◌, refl, sym, ap, ◌∙◌}
use mathlib.Core.Bool.{Bool, true, false}
use mathlib.Core.List.{List, []}
use mathlib.Core.Logic.{◌⊎◌, inl, inr}
use Prim.Native.Nat.{ℕ, zero, suc, ◌<◌, ◌≤◌}
use native.Mathlib.Omega.{arith}
use lib.Dec.{eqb, leb, ltb}
use lib.ListN.{length, get_or}
use lib.Seq.{sets}
use borrow.Author.Tests.{ltb-false, leb-true, leb-false, lt-leb, le-leb}
use Rattle.std.specs.Prelude.{if◌then◌else◌}
use Rattle.choice.specs.Tests.{◌unless◌, refusal, ◌⨾◌, ok}
use Rattle.numbers.proofs.Puts.{sets-stays}
use Rattle.std.specs.Prelude.{Ok, Err}
use Rattle.forms.specs.Forms.{Place, Outcome, got, refused, FormRead, read_as, unread, whole, form_no, numbers_in, room_no, into_room, after_room, place_of, ended_at}

-- a form that was read and a refusal are not the same
pub unread-read : {H : Type 0} {r : ℕ} {h : H} {vs : List ℕ} → unread r ≡ read_as h vs → ⊥
unread-read e = let z : ◌≡◌ {A = ℕ} 0 1 = cc in omega arith

-- ---- the end

-- the numbers of a form that ends, and nothing follows them
pub record Ends {H : Type 0} (bytes : List ℕ) (header : H) (o : Outcome) (f : FormRead H) : Type 0 where
  pub numbers : List ℕ
  pub next : ℕ
  pub body : o ≡ got numbers next
  pub ends : length bytes ≤ next
  pub reads : f ≡ read_as header numbers

module _ {H : Type 0} (bytes : List ℕ) (header : H) where
  -- it ends at a place
  pub whole-next : (o : Outcome) {n : ℕ} → ended_at (length bytes) (place_of o) ≡ Ok n → Ends bytes header o (whole bytes header o)
  unfolding whole
  whole-next (refused r) e = absurd (let z : ◌≡◌ {A = ℕ} 0 1 = cc in omega arith)
  whole-next (got vs next) {n} e = go (ltb next (length bytes)) refl e
    where
      go : (t : Bool) → ltb next (length bytes) ≡ t → ◌≡◌ {A = Place} (if t then Err 13 else Ok next) (Ok n)
          → Ends bytes header (got vs next) (if t then unread 13 else read_as header vs)
      go true q h = absurd (let z : ◌≡◌ {A = ℕ} 0 1 = cc in omega arith)
      go false q h = record { numbers = vs; next = next; body = refl; ends = ltb-false next (length bytes) q; reads = refl }

  -- it does not
  pub whole-stops : (o : Outcome) {r : ℕ} → ended_at (length bytes) (place_of o) ≡ Err r → whole bytes header o ≡ unread r
  unfolding whole
  whole-stops (refused q) e = cc
  whole-stops (got vs next) {r} e = go (ltb next (length bytes)) e
    where
      go : (t : Bool) → ◌≡◌ {A = Place} (if t then Err 13 else Ok next) (Err r) → (if t then unread 13 else read_as header vs) ≡ unread r
      go true h = cc
      go false h = absurd (let z : ◌≡◌ {A = ℕ} 0 1 = cc in omega arith)

  -- a form is read only so
  pub whole-got : (o : Outcome) {h : H} {vs : List ℕ} → whole bytes header o ≡ read_as h vs → Ends bytes header o (read_as h vs)
  unfolding whole
  whole-got (refused r) e = absurd (unread-read e)
  whole-got (got ws next) {h} {vs} e = go (ltb next (length bytes)) refl e
    where
      go : (t : Bool) → ltb next (length bytes) ≡ t → (if t then unread 13 else read_as header ws) ≡ read_as h vs → Ends bytes header (got ws next) (read_as h vs)
      go true q f = absurd (unread-read f)
      go false q f = record { numbers = ws; next = next; body = refl; ends = ltb-false next (length bytes) q; reads = sym f }

-- ---- into room

-- reading o into room gives f and leaves e; f has the number of the refusal
abbrev pub Fills : {H : Type 0} → FormRead H → List ℕ → FormRead H → List ℕ → Type 0
Fills o room f e = (f ≡ into_room o room) × (e ≡ after_room o room) × (form_no f ≡ room_no o room)

module _ (H : Type 0) (room : List ℕ) where
  -- the number of a refused form is its own
  refused-no : (r : ℕ) → room_no {H = H} (unread r) room ≡ r
  unfolding room_no form_no numbers_in
  refused-no r = go r
    where
      go : (n : ℕ) → (refusal n ⨾ 8 unless leb 0 (length room) ⨾ ok) ≡ n
      go zero = rw (le-leb 0 (length room) (omega arith))
      go (suc n) = refl

  -- the form is refused
  pub form-refused : (r : ℕ) → Fills {H = H} (unread r) room (unread r) room
  unfolding into_room after_room form_no numbers_in
  form-refused r = (rw (refused-no r) (go (eqb r 0)), rw (refused-no r) (left (eqb r 0)), sym (refused-no r))
    where
      go : (t : Bool) → ◌≡◌ {A = FormRead H} (unread r) (if t then unread r else unread r)
      go true = refl
      go false = refl

      left : (t : Bool) → room ≡ (if t then sets room 0 [] else room)
      left true = refl
      left false = refl

  -- the room is smaller than the numbers
  pub room-short : (header : H) (vs : List ℕ) → length room < length vs → Fills (read_as header vs) room (unread 8) room
  unfolding into_room after_room room_no form_no numbers_in
  room-short header vs h = let e = lt-leb (length vs) (length room) h in (rw e, rw e, rw e)

  -- the numbers have room
  pub room-enough : (header : H) (vs : List ℕ) → length vs ≤ length room → Fills (read_as header vs) room (read_as header vs) (sets room 0 vs)
  unfolding into_room after_room room_no form_no numbers_in
  room-enough header vs h = let e = le-leb (length vs) (length room) h in (rw e, rw e, rw e)

module _ {H : Type 0} (o : FormRead H) (room : List ℕ) where
  -- what is given, each with what leads to it
  data Answer : Type 0 where
    unformed : (r : ℕ) → o ≡ unread r → Fills o room (unread r) room → Answer
    narrow : (header : H) (vs : List ℕ) → o ≡ read_as header vs → length room < length vs → Fills o room (unread 8) room → Answer
    stored : (header : H) (vs : List ℕ) → o ≡ read_as header vs → length vs ≤ length room → Fills o room (read_as header vs) (sets room 0 vs) → Answer

  -- all that is given is one of them
  answers : Answer
  answers = go o refl
    where
      held : (header : H) (vs : List ℕ) → o ≡ read_as header vs → (t : Bool) → leb (length vs) (length room) ≡ t → Answer
      held header vs e true q = let l = leb-true (length vs) (length room) q in stored header vs e l (rw e (room-enough H room header vs l))
      held header vs e false q = let l = leb-false (length vs) (length room) q in narrow header vs e l (rw e (room-short H room header vs l))

      go : (p : FormRead H) → o ≡ p → Answer
      go (unread r) e = unformed r e (rw e (form-refused H room r))
      go (read_as header vs) e = held header vs e (leb (length vs) (length room)) refl

  -- what is given has the number of the refusal
  pub room-number : form_no (into_room o room) ≡ room_no o room
  room-number = go answers
    where
      go : Answer → form_no (into_room o room) ≡ room_no o room
      go (Answer.unformed r h w) = ap form_no (sym w.0) ∙ w.2
      go (Answer.narrow header vs h l w) = ap form_no (sym w.0) ∙ w.2
      go (Answer.stored header vs h l w) = ap form_no (sym w.0) ∙ w.2

  -- the form was read, and the room is smaller than its numbers
  pub record Narrow : Type 0 where
    pub header : H
    pub numbers : List ℕ
    pub accepted : o ≡ read_as header numbers
    pub short : length room < length numbers

  -- a form that is not read into room is refused by itself, or with 8, after all else, where the room is smaller than its numbers
  pub room-refusals : (r : ℕ) → into_room o room ≡ unread r → (o ≡ unread r) ⊎ ((r ≡ 8) × Narrow)
  unfolding form_no
  room-refusals r e = go answers
    where
      go : Answer → (o ≡ unread r) ⊎ ((r ≡ 8) × Narrow)
      go (Answer.unformed q h w) = inl (h ∙ w.0 ∙ e)
      go (Answer.narrow header vs h l w) = inr (sym (ap form_no (w.0 ∙ e)), record { header = header; numbers = vs; accepted = h; short = l })
      go (Answer.stored header vs h l w) = absurd (unread-read (sym (w.0 ∙ e)))

  -- a refusal leaves the room as it was
  pub room-refused : (r : ℕ) → into_room o room ≡ unread r → after_room o room ≡ room
  room-refused r e = go answers
    where
      go : Answer → after_room o room ≡ room
      go (Answer.unformed q h w) = sym w.1
      go (Answer.narrow header vs h l w) = sym w.1
      go (Answer.stored header vs h l w) = absurd (unread-read (sym (w.0 ∙ e)))

  -- a form that is read into room: its numbers have room, and fill its first places
  pub record Filled (header : H) (vs : List ℕ) : Type 0 where
    pub accepted : o ≡ read_as header vs
    pub fits : length vs ≤ length room
    pub filled : after_room o room ≡ sets room 0 vs

  pub room-filled : (header : H) (vs : List ℕ) → into_room o room ≡ read_as header vs → Filled header vs
  room-filled header vs e = go answers
    where
      go : Answer → Filled header vs
      go (Answer.unformed q h w) = absurd (unread-read (w.0 ∙ e))
      go (Answer.narrow g us h l w) = absurd (unread-read (w.0 ∙ e))
      go (Answer.stored g us h l w) =
          let q : read_as g us ≡ read_as header vs = w.0 ∙ e in
          let p : us ≡ vs = cc in
          record { accepted = h ∙ q; fits = rw (← p) l; filled = rw (← p) (sym w.1) }

  -- places past those of the numbers stay as they were
  pub room-stays : (header : H) (vs : List ℕ) (i : ℕ) → into_room o room ≡ read_as header vs → length vs ≤ i → get_or (after_room o room) i 0 ≡ get_or room i 0
  room-stays header vs i e h =
      let f = room-filled header vs e in
      rw f.filled (sets-stays vs room 0 i (inr (omega arith)))
