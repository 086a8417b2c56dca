-- The laws of the shelf question. Only the order's own laws look into the order. Assumes nothing.
use mathlib.Core.Path.{◌≡◌, refl, sym, ap, ◌∙◌}
use mathlib.Core.Bool.{Bool, true, false, ◌&&◌, ◌||◌, false≢true}
use mathlib.Core.List.{List}
use mathlib.Core.Logic.{◌⊎◌, inl, inr, ⊎_elim, ⊎_map}
use Prim.Native.Nat.{ℕ, zero, suc, ◌-◌, ◌^◌, ◌<◌, ◌≤◌}
use native.Mathlib.Omega.{arith}
use lib.Dec.{eqb, ltb, leb}
use borrow.Author.Tests.{leb-true, ltb-true, ltb-false, lt-ltb, le-ltb, eqb-true, eqb-false, eq-eqb}
use Rattle.std.specs.Prelude.{Option, Some, None, Ok, Err, if◌then◌else◌}
use Rattle.choice.specs.Refusals.{no_in}
use Rattle.choice.specs.Tests.{◌unless◌, ◌⨾◌, ok}
use Rattle.sets.specs.Scans.{holds, ◌∈◌, ◌⊆◌, fits}
use Rattle.sets.specs.declared.ScanId.{ScanId}
use Rattle.sets.specs.declared.scans.Scans.{Scans}
use Rattle.sets.proofs.ScanLaws.{∈-⊆}
use Rattle.forms.specs.Forms.{FormRead, read_as, unread}
use Rattle.choice.proofs.Tests.{and_l, and_r, test-passed, no-refusal, rest-unrefused}
use Rattle.scan_table.specs.Table.{tag_no, scan_tests, scans_in, table_no, read_table, table_answer}
use Rattle.scan_table.proofs.Refusals.{gives_one, gives-first}
use Rattle.scan_table.proofs.Testing.{rows_pass}
use Rattle.scan_table.proofs.Tables.{table_got, table-tested}
use Rattle.scan_table.proofs.TableLaws.{ReadRefusal, scan-gives, table-gives, table-refusals}
use Rattle.shelf.specs.declared.Seen.{Seen}
use Rattle.shelf.specs.declared.Shown.{Shown}
use Rattle.shelf.specs.Shelf.{Shelf, shows, seen_at, comes_before, is_candidate, better, newest, shown, question_no, asked_with, ask, where_is, where_is_no, where_is_written}
use Rattle.shelf.proofs.Asking.{ask-newest, where-asked}

-- ---- the order

-- of two times, and two numbers: the first time is lower, or they are equal and the first number is lower
abbrev Below : (s t i j : ℕ) → Type 0
Below s t i j = (s < t) ⊎ ((s ≡ t) × (i < j))

abbrev Before : Seen → Seen → Type 0
Before a b = Below a.scan.time b.scan.time a.number.0 b.number.0

-- what the test says
before-true : (a b : Seen) → comes_before a b ≡ true → Before a b
unfolding comes_before
before-true a b e = go (ltb a.scan.time b.scan.time) refl e
  where
    go : (p : Bool) → ltb a.scan.time b.scan.time ≡ p → (p || eqb a.scan.time b.scan.time && ltb a.number.0 b.number.0) ≡ true → Before a b
    go true q h = inl (ltb-true a.scan.time b.scan.time q)
    go false q h =
        let t = eqb a.scan.time b.scan.time in
        let n = ltb a.number.0 b.number.0 in
        inr (eqb-true a.scan.time b.scan.time (and_l t n h), ltb-true a.number.0 b.number.0 (and_r t n h))

-- and back
true-before : (a b : Seen) → Before a b → comes_before a b ≡ true
unfolding comes_before
true-before a b (inl h) = rw (lt-ltb a.scan.time b.scan.time h)
true-before a b (inr (e, h)) =
    let l = le-ltb a.scan.time b.scan.time (omega arith) in
    rw (l, eq-eqb a.scan.time b.scan.time e, lt-ltb a.number.0 b.number.0 h)

-- no scan comes before itself
pub before-irreflexive : (a : Seen) → comes_before a a ≡ false
unfolding comes_before
before-irreflexive a =
    rw (le-ltb a.scan.time a.scan.time (omega arith), eq-eqb a.scan.time a.scan.time refl, le-ltb a.number.0 a.number.0 (omega arith))

-- what comes before what comes before a scan comes before it
pub before-transitive : (a b c : Seen) → comes_before a b ≡ true → comes_before b c ≡ true → comes_before a c ≡ true
before-transitive a b c p q = true-before a c (go (before-true a b p) (before-true b c q))
  where
    go : Before a b → Before b c → Before a c
    go (inl h) (inl k) = inl (omega arith)
    go (inl h) (inr k) = inl (omega arith)
    go (inr h) (inl k) = inl (omega arith)
    go (inr h) (inr k) = inr (omega arith, omega arith)

-- of two different numbers, one is the lower, after the times
either : (s t i j : ℕ) → (i ≡ j → ⊥) → Below s t i j ⊎ Below t s j i
either s t i j h = go (ltb s t) refl (ltb t s) refl (ltb i j) refl
  where
    go : (p : Bool) → ltb s t ≡ p → (q : Bool) → ltb t s ≡ q → (r : Bool) → ltb i j ≡ r → Below s t i j ⊎ Below t s j i
    go true e q f r g = inl (inl (ltb-true s t e))
    go false e true f r g = inr (inl (ltb-true t s f))
    go false e false f true g = inl (inr (omega (arith, ltb-false s t e, ltb-false t s f), ltb-true i j g))
    go false e false f false g = inr (inr (omega (arith, ltb-false s t e, ltb-false t s f), omega (arith, ltb-false i j g, h)))

-- of two scans of one table, one comes before the other
pub before-total : (fields : List ℕ) (i j : ℕ) → (i ≡ j → ⊥)
    → (comes_before (seen_at fields i) (seen_at fields j) ≡ true) ⊎ (comes_before (seen_at fields j) (seen_at fields i) ≡ true)
before-total fields i j h =
    let a = seen_at fields i in
    let b = seen_at fields j in
    ⊎_map (true-before a b) (true-before b a) (either a.scan.time b.scan.time i j h)

-- what does not come before a scan is not earlier
pub not-before-time : (a b : Seen) → comes_before b a ≡ false → a.scan.time ≤ b.scan.time
not-before-time a b e = go (ltb b.scan.time a.scan.time) refl
  where
    go : (t : Bool) → ltb b.scan.time a.scan.time ≡ t → a.scan.time ≤ b.scan.time
    go true q = absurd (false≢true (sym e ∙ true-before b a (inl (ltb-true b.scan.time a.scan.time q))))
    go false q = ltb-false b.scan.time a.scan.time q

-- a test that cannot give true gives false
is_false : (t : Bool) → (t ≡ true → ⊥) → t ≡ false
is_false true h = absurd (h refl)
is_false false h = refl

-- of two scans not both come before the other
pub before-antisymmetric : (a b : Seen) → comes_before a b ≡ true → comes_before b a ≡ false
before-antisymmetric a b e =
    is_false (comes_before b a) (λ q. false≢true (sym (before-irreflexive a) ∙ before-transitive a b a e q))

-- what comes after a scan comes before nothing that the scan does not come before
before-behind : (a b c : Seen) → comes_before a b ≡ true → comes_before a c ≡ false → comes_before b c ≡ false
before-behind a b c p q = is_false (comes_before b c) (λ r. false≢true (sym q ∙ before-transitive a b c p r))

-- ---- candidates

module _ (seen : Seen) (set : Scans) (tag : ℕ) where
  -- a candidate has the tag and is in the set
  pub candidate-true : is_candidate seen set tag ≡ true → (seen.scan.tag ≡ tag) × (seen.number.0 ∈ set)
  unfolding is_candidate
  candidate-true e =
      let t = eqb seen.scan.tag tag in
      let s = holds set seen.number.0 in
      (eqb-true seen.scan.tag tag (and_l t s e), record { held = and_r t s e })

  -- and what has the tag and is in the set is one
  pub true-candidate : seen.scan.tag ≡ tag → seen.number.0 ∈ set → is_candidate seen set tag ≡ true
  unfolding is_candidate
  true-candidate e m = rw (eq-eqb seen.scan.tag tag e, m.held)

-- a candidate of a set is one of every set that contains it
pub candidate-⊆ : (seen : Seen) {a b : Scans} (tag : ℕ) → a ⊆ b → is_candidate seen a tag ≡ true → is_candidate seen b tag ≡ true
candidate-⊆ seen {a} {b} tag h e =
    let c = candidate-true seen a tag e in
    true-candidate seen b tag c.0 (∈-⊆ c.1 h)

-- ---- the newest

-- what holds of each number below n, and of n, holds of each below n + 1
below_suc : {P : ℕ → Type 0} {n : ℕ} → ((i : ℕ) → i < n → P i) → P n → (i : ℕ) → i < suc n → P i
below_suc {P} {n} h l i k = go (ltb i n) refl
  where
    go : (t : Bool) → ltb i n ≡ t → P i
    go true e = h i (ltb-true i n e)
    go false e =
        let q : i ≡ n = omega (arith, ltb-false i n e) in
        rw q l

nothing-found : {s : Seen} → None ≡ Some s → ⊥
nothing-found e = let z : ◌≡◌ {A = ℕ} 0 1 = cc in omega arith

module _ (fields : List ℕ) (set : Scans) (tag : ℕ) where
  -- no scan below n is a candidate
  abbrev pub NoCandidate : ℕ → Type 0
  NoCandidate n = (i : ℕ) → i < n → is_candidate (seen_at fields i) set tag ≡ false

  -- s is the last in the order of the candidates below n: one of them, and none comes after it
  pub record Last (n : ℕ) (s : Seen) : Type 0 where
    pub place : ℕ
    pub below : place < n
    pub is : s ≡ seen_at fields place
    pub candidate : is_candidate (seen_at fields place) set tag ≡ true
    pub last : (j : ℕ) → j < n → is_candidate (seen_at fields j) set tag ≡ true → comes_before s (seen_at fields j) ≡ false

  -- nothing was found: one scan more is the last
  first-last : {n : ℕ} → NoCandidate n → is_candidate (seen_at fields n) set tag ≡ true → Last (suc n) (seen_at fields n)
  first-last {n} h e =
      record {
        place = n;
        below = omega arith;
        is = refl;
        candidate = e;
        last = below_suc (λ j l c. absurd (false≢true (sym (h j l) ∙ c))) (λ c. before-irreflexive (seen_at fields n));
      }

  -- one scan more comes after the last: it is the last
  next_last : {n : ℕ} {s : Seen} → Last n s → is_candidate (seen_at fields n) set tag ≡ true → comes_before s (seen_at fields n) ≡ true → Last (suc n) (seen_at fields n)
  next_last {n} {s} p e b =
      record {
        place = n;
        below = omega arith;
        is = refl;
        candidate = e;
        last = below_suc (λ j l c. before-behind s (seen_at fields n) (seen_at fields j) b (p.last j l c)) (λ c. before-irreflexive (seen_at fields n));
      }

  -- one scan more does not come after the last, where it is a candidate: the last stays
  same-last : {n : ℕ} {s : Seen} → Last n s → (is_candidate (seen_at fields n) set tag ≡ true → comes_before s (seen_at fields n) ≡ false) → Last (suc n) s
  same-last {n} {s} p b =
      record {
        place = p.place;
        below = omega (arith, p.below);
        is = p.is;
        candidate = p.candidate;
        last = below_suc p.last b;
      }

  -- nothing, where there is no candidate; or the last of the candidates
  data Of (n : ℕ) : Option Seen → Type 0 where
    none : NoCandidate n → Of n None
    one : {s : Seen} → Last n s → Of n (Some s)

  -- a candidate more
  of-better : {n : ℕ} {found : Option Seen} → Of n found → is_candidate (seen_at fields n) set tag ≡ true → Of (suc n) (better found (seen_at fields n))
  unfolding better
  of-better (none h) e = one (first-last h e)
  of-better {n} (one {s = s} p) e = go (comes_before s (seen_at fields n)) refl
    where
      go : (t : Bool) → comes_before s (seen_at fields n) ≡ t → Of (suc n) (if t then Some (seen_at fields n) else Some s)
      go true q = one (next_last p e q)
      go false q = one (same-last p (λ c. q))

  -- any other scan more
  of-same : {n : ℕ} {found : Option Seen} → Of n found → is_candidate (seen_at fields n) set tag ≡ false → Of (suc n) found
  of-same (none h) e = none (below_suc h e)
  of-same (one p) e = one (same-last p (λ c. absurd (false≢true (sym e ∙ c))))

  -- and so the newest is
  of-newest : (n : ℕ) → Of n (newest n fields set tag)
  unfolding newest
  of-newest zero = none (λ i l. absurd (omega arith))
  of-newest (suc n) = go (of-newest n) (is_candidate (seen_at fields n) set tag) refl
    where
      go : Of n (newest n fields set tag) → (t : Bool) → is_candidate (seen_at fields n) set tag ≡ t → Of (suc n) (if t then better (newest n fields set tag) (seen_at fields n) else newest n fields set tag)
      go o true e = of-better o e
      go o false e = of-same o e

  -- what is found is the last of the candidates
  pub newest-found : (n : ℕ) {s : Seen} → newest n fields set tag ≡ Some s → Last n s
  newest-found n {s} e = go (of-newest n) e
    where
      go : {found : Option Seen} → Of n found → found ≡ Some s → Last n s
      go (none h) q = absurd (nothing-found q)
      go (one {s = t} p) q = let r : t ≡ s = cc in rw (← r) p

  -- nothing is found only where there is no candidate
  pub newest-nothing : (n : ℕ) → newest n fields set tag ≡ None → NoCandidate n
  newest-nothing n e = go (of-newest n) e
    where
      go : {found : Option Seen} → Of n found → found ≡ None → NoCandidate n
      go (none h) q = h
      go (one p) q = absurd (nothing-found (sym q))

  -- and where there is no candidate nothing is found
  pub nothing-newest : (n : ℕ) → NoCandidate n → newest n fields set tag ≡ None
  nothing-newest n h = go (newest n fields set tag) refl
    where
      go : (found : Option Seen) → newest n fields set tag ≡ found → found ≡ None
      go None e = refl
      go (Some s) e = let p = newest-found n e in absurd (false≢true (sym (h p.place p.below) ∙ p.candidate))

  -- there is one last candidate
  last-unique : {n : ℕ} {s t : Seen} → Last n s → Last n t → s ≡ t
  last-unique {n} {s} {t} p q = go (eqb p.place q.place) refl
    where
      go : (b : Bool) → eqb p.place q.place ≡ b → s ≡ t
      go true e = p.is ∙ ap (seen_at fields) (eqb-true p.place q.place e) ∙ sym q.is
      go false e =
          ⊎_elim
          (λ h. absurd (false≢true (sym (p.last q.place q.below q.candidate) ∙ rw p.is h)))
          (λ h. absurd (false≢true (sym (q.last p.place p.below p.candidate) ∙ rw q.is h)))
          (before-total fields p.place q.place (eqb-false p.place q.place e))

  -- the last of the candidates is what is found
  pub newest-unique : (n : ℕ) {s : Seen} → Last n s → newest n fields set tag ≡ Some s
  newest-unique n {s} p = go (newest n fields set tag) refl
    where
      go : (found : Option Seen) → newest n fields set tag ≡ found → found ≡ Some s
      go None e = absurd (false≢true (sym (newest-nothing n e p.place p.below) ∙ p.candidate))
      go (Some t) e = ap Some (last-unique (newest-found n e) p)

-- ---- scan times never fall

-- in the set a scan is found, and it is not earlier than s
pub record FoundLater (n : ℕ) (fields : List ℕ) (set : Scans) (tag : ℕ) (s : Seen) : Type 0 where
  pub seen : Seen
  pub found : newest n fields set tag ≡ Some seen
  pub later : s.scan.time ≤ seen.scan.time

-- a larger set never shows an earlier scan
pub found-later : (n : ℕ) (fields : List ℕ) {a b : Scans} (tag : ℕ) {s : Seen} → a ⊆ b → newest n fields a tag ≡ Some s → FoundLater n fields b tag s
found-later n fields {a} {b} tag {s} h e = go (newest n fields b tag) refl
  where
    p : Last fields a tag n s
    p = newest-found fields a tag n e

    c : is_candidate (seen_at fields p.place) b tag ≡ true
    c = candidate-⊆ (seen_at fields p.place) tag h p.candidate

    go : (found : Option Seen) → newest n fields b tag ≡ found → FoundLater n fields b tag s
    go None q = absurd (false≢true (sym (newest-nothing fields b tag n q p.place p.below) ∙ c))
    go (Some t) q =
        record {
          seen = t;
          found = q;
          later = not-before-time s t (rw p.is ((newest-found fields b tag n q).last p.place p.below c));
        }

-- ---- the answers

refused-shown : {r : ℕ} {i : ScanId} {s t : ℕ} → Err r ≡ shows i s t → ⊥
refused-shown e = let z : ◌≡◌ {A = ℕ} 0 1 = cc in omega arith

-- a question without a refusal: the tag is in range, and the set holds only scans below n
question-zero : (n : ℕ) (set : Scans) (tag : ℕ) → question_no n set tag ≡ 0 → (tag ≤ 2 ^ 32 - 1) × (fits set n ≡ true)
unfolding question_no tag_no
question-zero n set tag e =
    let rest : ℕ = 3 unless fits set n ⨾ ok in
    let tagged = leb-true tag (2 ^ 32 - 1) (test-passed 2 (leb tag (2 ^ 32 - 1)) 0 (no-refusal (tag_no tag) rest e)) in
    (tagged, test-passed 2 (fits set n) 0 (rest-unrefused (tag_no tag) rest e))

-- a scan as the answer: the tag and the set are in range, and it is the newest
pub record Asked (n : ℕ) (fields : List ℕ) (set : Scans) (tag : ℕ) (i : ScanId) (s t : ℕ) : Type 0 where
  pub tagged : tag ≤ 2 ^ 32 - 1
  pub fitting : fits set n ≡ true
  pub seen : Seen
  pub found : newest n fields set tag ≡ Some seen
  pub number : i ≡ seen.number
  pub shelf : s ≡ seen.scan.shelf
  pub time : t ≡ seen.scan.time

-- a scan is shown only where nothing refuses, and it is the newest
pub record ShownBy (r n : ℕ) (fields : List ℕ) (set : Scans) (tag : ℕ) (i : ScanId) (s t : ℕ) : Type 0 where
  pub passes : r ≡ 0
  pub seen : Seen
  pub found : newest n fields set tag ≡ Some seen
  pub number : i ≡ seen.number
  pub shelf : s ≡ seen.scan.shelf
  pub time : t ≡ seen.scan.time

answer-shown : (r n : ℕ) (fields : List ℕ) (set : Scans) (tag : ℕ) {i : ScanId} {s t : ℕ} → asked_with r n fields set tag ≡ shows i s t → ShownBy r n fields set tag i s t
unfolding asked_with shown
answer-shown r n fields set tag {i} {s} {t} e = go (eqb r 0) refl (newest n fields set tag) refl e
  where
    go : (b : Bool) → eqb r 0 ≡ b → (x : Option Seen) → newest n fields set tag ≡ x → (if b then shown x else Err r) ≡ shows i s t → ShownBy r n fields set tag i s t
    go false z x q h = absurd (refused-shown h)
    go true z None q h = absurd (let z : ◌≡◌ {A = ℕ} 0 1 = cc in omega arith)
    go true z (Some seen) q h =
        let p : ◌≡◌ {A = Shown} (record { scan = i; shelf = s; time = t }) (record { scan = seen.number; shelf = seen.scan.shelf; time = seen.scan.time }) = cc in
        record {
          passes = eqb-true r 0 z;
          seen = seen;
          found = q;
          number = ap (λ (x : Shown). x.scan) p;
          shelf = ap (λ (x : Shown). x.shelf) p;
          time = ap (λ (x : Shown). x.time) p;
        }

-- what the question says by a scan
pub ask-shown : (n : ℕ) (fields : List ℕ) (set : Scans) (tag : ℕ) {i : ScanId} {s t : ℕ} → ask n fields set tag ≡ shows i s t → Asked n fields set tag i s t
unfolding ask
ask-shown n fields set tag e =
    let p = answer-shown (question_no n set tag) n fields set tag e in
    let z = question-zero n set tag p.passes in
    record { tagged = z.0; fitting = z.1; seen = p.seen; found = p.found; number = p.number; shelf = p.shelf; time = p.time }

-- what the question on a table says by a scan: the table is not refused either
pub where-shown : (fields : List ℕ) (set : Scans) (tag : ℕ) {i : ScanId} {s t : ℕ} → where_is fields set tag ≡ shows i s t
    → (table_no scan_tests fields ≡ 0) × Asked (scans_in fields) fields set tag i s t
unfolding where_is where_is_no
where-shown fields set tag e =
    let p = answer-shown (where_is_no fields set tag) (scans_in fields) fields set tag e in
    let z = no-refusal (table_no scan_tests fields) (question_no (scans_in fields) set tag) p.passes in
    (z, ask-shown (scans_in fields) fields set tag (sym (where-asked fields set tag z) ∙ e))

-- an answer shows a scan that is not earlier than the time t
pub record ShownLater (w : Shelf) (t : ℕ) : Type 0 where
  pub number : ScanId
  pub shelf : ℕ
  pub time : ℕ
  pub shown : w ≡ shows number shelf time
  pub later : t ≤ time

-- a larger set that is in range shows no earlier scan
ask-later : (n : ℕ) (fields : List ℕ) {a b : Scans} (tag : ℕ) {i : ScanId} {s t : ℕ} → a ⊆ b → fits b n ≡ true → ask n fields a tag ≡ shows i s t → ShownLater (ask n fields b tag) t
unfolding shown
ask-later n fields {a} {b} tag h f e =
    let p = ask-shown n fields a tag e in
    let q = found-later n fields tag h p.found in
    record {
      number = q.seen.number;
      shelf = q.seen.scan.shelf;
      time = q.seen.scan.time;
      shown = ask-newest n fields b tag p.tagged f ∙ ap shown q.found;
      later = omega (arith, p.time, q.later);
    }

-- so it is with the question on a table that has been read
pub where-later : (fields : List ℕ) {a b : Scans} (tag : ℕ) {i : ScanId} {s t : ℕ} → a ⊆ b → fits b (scans_in fields) ≡ true → where_is fields a tag ≡ shows i s t
    → ShownLater (where_is fields b tag) t
where-later fields {a} {b} tag h f e =
    let z = (where-shown fields a tag e).0 in
    rw (where-asked fields b tag z) (ask-later (scans_in fields) fields tag h f (sym (where-asked fields a tag z) ∙ e))

-- and with the question on the written form of a table of n scans
pub written-later : (o : FormRead ℕ) (n : ℕ) {a b : Scans} (tag : ℕ) {i : ScanId} {s t : ℕ} → table_answer o ≡ Ok n → a ⊆ b → fits b n ≡ true → where_is_written o a tag ≡ shows i s t
    → ShownLater (where_is_written o b tag) t
unfolding where_is_written table_answer
written-later (read_as m fields) n {a} {b} tag c h f e =
    let z : n ≡ m = cc in
    ask-later m fields tag h (rw (← z) f) e
written-later (unread r) n tag c h f e = absurd (refused-shown e)

-- ---- refusals

-- a refusal of an answer is the one that refused it
answer-refused : (k n : ℕ) (fields : List ℕ) (set : Scans) (tag : ℕ) (r : ℕ) → asked_with k n fields set tag ≡ Err r → (r ≡ k) × (k ≡ 0 → ⊥)
unfolding asked_with shown
answer-refused k n fields set tag r e = go (eqb k 0) refl (newest n fields set tag) e
  where
    go : (b : Bool) → eqb k 0 ≡ b → (x : Option Seen) → (if b then shown x else Err k) ≡ Err r → (r ≡ k) × (k ≡ 0 → ⊥)
    go true z None h = absurd (let z : ◌≡◌ {A = ℕ} 0 1 = cc in omega arith)
    go true z (Some seen) h = absurd (refused-shown (sym h))
    go false z x h = (sym (ap no_in h), eqb-false k 0 z)

-- the question refuses with 3
question-gives : (P : ℕ → Type 0) (n : ℕ) (set : Scans) (tag : ℕ) → P 3 → (question_no n set tag ≡ 0 → ⊥) → P (question_no n set tag)
unfolding question_no tag_no
question-gives P n set tag three =
    gives-first P (tag_no tag) (3 unless fits set n ⨾ ok) (gives_one P 3 (leb tag (2 ^ 32 - 1)) three) (gives_one P 3 (fits set n) three)

-- what the question on a table refuses with: 1 for its size, 3 for a tag, a shelf or the set, 10 for a device, 12 for a time
abbrev pub ShelfRefusal : ℕ → Type 0
ShelfRefusal n = (n ≡ 1) ⊎ (n ≡ 3) ⊎ (n ≡ 10) ⊎ (n ≡ 12)

module _ (fields : List ℕ) (set : Scans) (tag : ℕ) where
  -- a question that is refused is refused so
  pub where-refusals : (r : ℕ) → where_is fields set tag ≡ Err r → ShelfRefusal r
  unfolding where_is where_is_no
  where-refusals r e =
      let three = inr (inl refl) in
      let tests = scan-gives ShelfRefusal three (inr (inr (inl refl))) (inr (inr (inr refl))) in
      let n = scans_in fields in
      let p = answer-refused (where_is_no fields set tag) n fields set tag r e in
      rw p.0 (gives-first ShelfRefusal (table_no scan_tests fields) (question_no n set tag) (table-gives ShelfRefusal (inl refl) tests fields) (question-gives ShelfRefusal n set tag three) p.1)

module _ (bytes : List ℕ) (set : Scans) (tag : ℕ) where
  -- a question on the written form is refused so, or with 11 or 13: with what its reader refuses
  pub written-refusals : (r : ℕ) → where_is_written (read_table bytes) set tag ≡ Err r → ReadRefusal r
  unfolding where_is_written ask
  written-refusals r e = go (read_table bytes) refl e
    where
      go : (o : FormRead ℕ) → read_table bytes ≡ o → where_is_written o set tag ≡ Err r → ReadRefusal r
      go (read_as n fields) q h =
          let p = answer-refused (question_no n set tag) n fields set tag r h in
          rw p.0 (question-gives ReadRefusal n set tag (inr (inl refl)) p.1)
      go (unread s) q h =
          let p : s ≡ r = cc in
          rw (← p) (table-refusals bytes s q)

-- ---- the two questions are one

-- a table that was read is not refused
read-passes : (bytes : List ℕ) {n : ℕ} {fields : List ℕ} → read_table bytes ≡ read_as n fields → (scans_in fields ≡ n) × (table_no scan_tests fields ≡ 0)
read-passes bytes {n} {fields} e =
    let p = table-tested bytes e in
    let l = p.0 in
    (omega arith, rows_pass scan_tests fields n l (table_got bytes e).ranged p.1)

-- the question on the written form is the question on the table that was read
pub written_read : (bytes : List ℕ) {n : ℕ} {fields : List ℕ} (set : Scans) (tag : ℕ) → read_table bytes ≡ read_as n fields → where_is_written (read_table bytes) set tag ≡ where_is fields set tag
unfolding where_is_written
written_read bytes {fields = fields} set tag e =
    let p = read-passes bytes e in
    rw (where-asked fields set tag p.1, e, p.0)
