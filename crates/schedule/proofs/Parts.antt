-- A schedule as it is read, part by part: the six numbers, the events, the end. Assumes nothing.
use mathlib.Core.Path.{◌≡◌, refl, sym, ap, ◌∙◌}
use mathlib.Core.Bool.{Bool, true, false}
use mathlib.Core.List.{List}
use Prim.Native.Nat.{ℕ, ◌*◌, ◌≤◌, ◌<◌}
use native.Mathlib.Omega.{arith}
use lib.Dec.{eqb, ltb}
use lib.ListN.{length, get_or}
use lib.Seq.{sets}
use borrow.Author.Tests.{eqb-true, eqb-false, eq-eqb, ne_eqb, ltb-true, ltb-false}
use Rattle.std.specs.Prelude.{if◌then◌else◌}
use Rattle.numbers.specs.Coding.{most_of}
use Rattle.numbers.specs.declared.Limit.TheVariants as limit
use Rattle.forms.specs.Forms.{Outcome, got, refused, plain, FormRead, read_as, unread, whole, place_of, ended_at, numbers_at}
use Rattle.forms.proofs.FormLaws.{Bytes}
use Rattle.schedule.specs.Schedule.{header_of, header_no, after_six, read_schedule}
use Rattle.schedule.specs.Steps.{formed_at, checked_after, checked}
use Rattle.schedule.specs.declared.Header.{Header}
use Rattle.std.specs.Prelude.{Ok, Err}
use Rattle.forms.specs.Forms.{Place}
use Rattle.schedule.specs.Steps.{Checked, formed}
use Rattle.schedule.proofs.Sixes.{plain-count, plain-numbers, plain-within, within-at, sets-whole}

-- ---- what the check passes over, and what it takes

-- a place after numbers: they were read
pub record Passed (o : Outcome) (next : ℕ) : Type 0 where
  pub vs : List ℕ
  pub was : o ≡ got vs next

pub place-got : (o : Outcome) {next : ℕ} → place_of o ≡ Ok next → Passed o next
place-got (got vs n) e = record { vs = vs; was = cc }
place-got (refused r) e = absurd (let z : ◌≡◌ {A = ℕ} 0 1 = cc in omega arith)

pub place-refused : (o : Outcome) {r : ℕ} → place_of o ≡ Err r → o ≡ refused r
place-refused (got vs n) e = absurd (let z : ◌≡◌ {A = ℕ} 0 1 = cc in omega arith)
place-refused (refused r) e = cc

-- the six that are taken into room for six are those that were passed over
pub six-taken : (bytes room : List ℕ) {first : ℕ} → length room ≡ 6 → place_of (plain 6 limit.Schedule bytes 0) ≡ Ok first
    → plain 6 limit.Schedule bytes 0 ≡ got (sets room 0 (numbers_at 6 limit.Schedule bytes 0)) first
six-taken bytes room {first} l e =
    let p = place-got (plain 6 limit.Schedule bytes 0) e in
    let n = plain-numbers 6 limit.Schedule bytes 0 p.was in
    let k = plain-count 6 limit.Schedule bytes 0 p.was in
    rw (n, sets-whole room p.vs (k ∙ sym l)) p.was

-- the same, by the place after those that were passed over and by what was taken
pub six-passed : (bytes room : List ℕ) {six : List ℕ} {first : ℕ} → length room ≡ 6 → ◌≡◌ {A = Place} (Ok first) (place_of (plain 6 limit.Schedule bytes 0))
    → six ≡ sets room 0 (numbers_at 6 limit.Schedule bytes 0) → plain 6 limit.Schedule bytes 0 ≡ got six first
six-passed bytes room l e g = rw g (six-taken bytes room l (sym e))

-- each of the six is below 65,536
pub six-small : (bytes : List ℕ) {six : List ℕ} {first : ℕ} → Bytes bytes → plain 6 limit.Schedule bytes 0 ≡ got six first → (k : ℕ) → get_or six k 0 < 65536
unfolding most_of
six-small bytes {six} b e k = omega (arith, within-at limit.Schedule six (plain-within 6 limit.Schedule bytes 0 b e) k)

-- ---- what the check answers

module _ (bytes : List ℕ) where
  -- the six cannot be read
  pub check-no-six : {r : ℕ} → plain 6 limit.Schedule bytes 0 ≡ refused r → checked bytes ≡ Err r
  unfolding checked checked_after
  check-no-six e = rw e

  -- the header is refused
  pub check-no-header : {six : List ℕ} {first : ℕ} → plain 6 limit.Schedule bytes 0 ≡ got six first → (header_no (header_of six) ≡ 0 → ⊥)
      → checked bytes ≡ Err (header_no (header_of six))
  unfolding checked checked_after
  check-no-header {six} e h = rw (e, ne_eqb (header_no (header_of six)) 0 h)

  -- the events and the end
  pub check-events : {six : List ℕ} {first : ℕ} {end : Place} → plain 6 limit.Schedule bytes 0 ≡ got six first → header_no (header_of six) ≡ 0
      → ended_at (length bytes) (place_of (plain ((header_of six).events * 3) limit.Schedule bytes first)) ≡ end → checked bytes ≡ formed_at end (header_of six) first
  unfolding checked checked_after
  check-events {six} e h f = rw (e, eq-eqb (header_no (header_of six)) 0 h, f)

-- ---- the steps of reading

-- what the check answers and what reading gives, with what leads to it
pub data Reading (bytes : List ℕ) : Checked → FormRead Header → Type 0 where
  no_six : {r : ℕ} → plain 6 limit.Schedule bytes 0 ≡ refused r → Reading bytes (Err r) (unread r)
  no_header : {six : List ℕ} {first : ℕ} → plain 6 limit.Schedule bytes 0 ≡ got six first → (header_no (header_of six) ≡ 0 → ⊥)
      → Reading bytes (Err (header_no (header_of six))) (unread (header_no (header_of six)))
  no-events : {six : List ℕ} {first : ℕ} {r : ℕ} → plain 6 limit.Schedule bytes 0 ≡ got six first → header_no (header_of six) ≡ 0
      → plain ((header_of six).events * 3) limit.Schedule bytes first ≡ refused r → Reading bytes (Err r) (unread r)
  follows : {six ws : List ℕ} {first next : ℕ} → plain 6 limit.Schedule bytes 0 ≡ got six first → header_no (header_of six) ≡ 0
      → plain ((header_of six).events * 3) limit.Schedule bytes first ≡ got ws next → next < length bytes → Reading bytes (Err 13) (unread 13)
  right : {six ws : List ℕ} {first next : ℕ} → plain 6 limit.Schedule bytes 0 ≡ got six first → header_no (header_of six) ≡ 0
      → plain ((header_of six).events * 3) limit.Schedule bytes first ≡ got ws next → length bytes ≤ next → Reading bytes (formed (header_of six) first) (read_as (header_of six) ws)

-- every reading is one of these
pub reading : (bytes : List ℕ) → Reading bytes (checked bytes) (read_schedule bytes)
unfolding checked checked_after read_schedule after_six whole
reading bytes = go (plain 6 limit.Schedule bytes 0) refl
  where
    ends : {six ws : List ℕ} {first next : ℕ} → plain 6 limit.Schedule bytes 0 ≡ got six first → header_no (header_of six) ≡ 0 → plain ((header_of six).events * 3) limit.Schedule bytes first ≡ got ws next
        → (t : Bool) → ltb next (length bytes) ≡ t
        → Reading bytes (formed_at (if t then Err 13 else Ok next) (header_of six) first) (if t then unread 13 else read_as (header_of six) ws)
    ends {next = next} e h f true q = follows e h f (ltb-true next (length bytes) q)
    ends {next = next} e h f false q = right e h f (ltb-false next (length bytes) q)

    rest : {six : List ℕ} {first : ℕ} → plain 6 limit.Schedule bytes 0 ≡ got six first → header_no (header_of six) ≡ 0
        → (o : Outcome) → plain ((header_of six).events * 3) limit.Schedule bytes first ≡ o
        → Reading bytes (formed_at (ended_at (length bytes) (place_of o)) (header_of six) first) (whole bytes (header_of six) o)
    rest e h (got ws next) f = ends e h f (ltb next (length bytes)) refl
    rest e h (refused r) f = no-events e h f

    tested : {six : List ℕ} {first : ℕ} → plain 6 limit.Schedule bytes 0 ≡ got six first → (t : Bool) → eqb (header_no (header_of six)) 0 ≡ t
        → Reading bytes (if t then formed_at (ended_at (length bytes) (place_of (plain ((header_of six).events * 3) limit.Schedule bytes first))) (header_of six) first else Err (header_no (header_of six))) (if t then whole bytes (header_of six) (plain ((header_of six).events * 3) limit.Schedule bytes first) else unread (header_no (header_of six)))
    tested {six} {first} e true q = rest e (eqb-true (header_no (header_of six)) 0 q) (plain ((header_of six).events * 3) limit.Schedule bytes first) refl
    tested {six} e false q = no_header e (eqb-false (header_no (header_of six)) 0 q)

    go : (o : Outcome) → plain 6 limit.Schedule bytes 0 ≡ o → Reading bytes (checked_after bytes o) (after_six bytes o)
    go (got six first) e = tested e (eqb (header_no (header_of six)) 0) refl
    go (refused r) e = no_six e

-- a form that is right: what is read, and the numbers that are taken from the first event on
pub record Formed (bytes : List ℕ) (h : Header) (first : ℕ) : Type 0 where
  pub fields : List ℕ
  pub read : read_schedule bytes ≡ read_as h fields
  pub count : length fields ≡ h.events * 3
  pub taken : numbers_at (h.events * 3) limit.Schedule bytes first ≡ fields

-- the parts of what the check answers, or others
abbrev header_in : Header → Checked → Header
header_in h (Ok f) = f.header
header_in h (Err r) = h

abbrev first_in : ℕ → Checked → ℕ
first_in n (Ok f) = f.first
first_in n (Err r) = n

-- what the check says of a form that is right
pub check-form : (bytes : List ℕ) {h : Header} {first : ℕ} → checked bytes ≡ formed h first → Formed bytes h first
check-form bytes {h} {first} e = go (reading bytes) e refl
  where
    go : {k : Checked} {o : FormRead Header} → Reading bytes k o → k ≡ formed h first → read_schedule bytes ≡ o → Formed bytes h first
    go (no_six a) q s = absurd (let z : ◌≡◌ {A = ℕ} 0 1 = cc in omega arith)
    go (no_header a b) q s = absurd (let z : ◌≡◌ {A = ℕ} 0 1 = cc in omega arith)
    go (no-events a b d) q s = absurd (let z : ◌≡◌ {A = ℕ} 0 1 = cc in omega arith)
    go (follows a b d l) q s = absurd (let z : ◌≡◌ {A = ℕ} 0 1 = cc in omega arith)
    go (right {six = six} {ws = ws} {first = f} a b d l) q s =
        let p : header_of six ≡ h = ap (header_in h) q in
        let g : f ≡ first = ap (first_in first) q in
        record {
          fields = ws;
          read = rw (← p) s;
          count = rw (← p) (plain-count ((header_of six).events * 3) limit.Schedule bytes f d);
          taken = rw (← p, ← g) (plain-numbers ((header_of six).events * 3) limit.Schedule bytes f d);
        }

-- a refusal of the check is that of the reading
pub check-refused : (bytes : List ℕ) {r : ℕ} → checked bytes ≡ Err r → read_schedule bytes ≡ unread r
check-refused bytes {r} e = go (reading bytes) e
  where
    go : {k : Checked} {o : FormRead Header} → Reading bytes k o → k ≡ Err r → o ≡ unread r
    go (no_six a) q = cc
    go (no_header a b) q = cc
    go (no-events a b d) q = cc
    go (follows a b d l) q = cc
    go (right a b d l) q = absurd (let z : ◌≡◌ {A = ℕ} 0 1 = cc in omega arith)
