-- What the tests of a schedule's values say: 0 where each is in its range. Assumes nothing.
use mathlib.Core.Path.{◌≡◌, refl}
use mathlib.Core.Bool.{Bool, true, false}
use mathlib.Core.List.{List}
use mathlib.Core.Logic.{◌⊎◌, inl, inr}
use Prim.Native.Nat.{ℕ, zero, suc, ◌%◌, ◌≤◌}
use native.Mathlib.Omega.{arith}
use lib.Dec.{eqb, leb}
use lib.ListN.{length}
use borrow.Author.Tests.{eqb-true, eq-eqb, leb-true, le-leb}
use Rattle.choice.specs.Tests.{◌unless◌, refusal, ◌⨾◌, ok}
use Rattle.choice.proofs.Tests.{test-passed, rest-passed, no-refusal, rest-unrefused}
use Rattle.sizes.specs.Sizes.{sizes_in_range}
use Rattle.sizes.specs.declared.Sizes.{Sizes}
use Rattle.numbers.specs.Coding.{most_of}
use Rattle.numbers.specs.declared.Limit.TheVariants as limit
use Rattle.forms.specs.Forms.{all_within}
use Rattle.sizes.proofs.SizeLaws.{bounds}
use Rattle.schedule.specs.Schedule.{numbers_of, header_no, event_count, header_for, schedule_no}
use Rattle.schedule.specs.declared.Header.{Header}

-- ---- the header

-- a header whose sizes are in range and that has at most 4,096 events
pub record Right (h : Header) : Type 0 where
  pub sizes : sizes_in_range h.sizes ≡ true
  pub count : h.events ≤ 4096

-- no refusal: the header is right
pub no-right : (h : Header) → header_no h ≡ 0 → Right h
unfolding header_no
no-right h e =
    let few = leb h.events 4_096 in
    let rest : ℕ = 3 unless few ⨾ ok in
    record {
      sizes = test-passed 0 (sizes_in_range h.sizes) rest e;
      count = leb-true h.events 4_096 (test-passed 2 few 0 (rest-passed 0 (sizes_in_range h.sizes) rest e));
    }

-- and the other way round
pub right-no : (h : Header) → Right h → header_no h ≡ 0
unfolding header_no
right-no h r = rw (r.sizes, le-leb h.events 4_096 r.count)

-- a header is refused with 1 or 3
pub header-refusals : (h : Header) → (header_no h ≡ 0 → ⊥) → (header_no h ≡ 1) ⊎ (header_no h ≡ 3)
unfolding header_no
header-refusals h = go (sizes_in_range h.sizes) (leb h.events 4_096)
  where
    go : (t u : Bool) → let n : ℕ = 1 unless t ⨾ 3 unless u ⨾ ok in (n ≡ 0 → ⊥) → (n ≡ 1) ⊎ (n ≡ 3)
    go false u e = inl refl
    go true false e = inr refl
    go true true e = absurd (e refl)

-- the six numbers of a right header are within the limit
pub six-within : (h : Header) → Right h → all_within limit.Schedule (numbers_of h) ≡ true
unfolding all_within numbers_of most_of
six-within h r =
    let z = bounds h.sizes r.sizes in
    let n = r.count in
    rw (
      le-leb h.sizes.proposers 65_535 (omega arith),
      le-leb h.sizes.acceptors 65_535 (omega arith),
      le-leb h.sizes.learners 65_535 (omega arith),
      le-leb h.sizes.slots 65_535 (omega arith),
      le-leb h.sizes.scans 65_535 (omega arith),
      le-leb h.events 65_535 (omega arith),
    )

-- ---- the events

-- sizes and whole events that may be written
pub record Valid (z : Sizes) (fields : List ℕ) : Type 0 where
  pub header : Right (header_for z fields)
  pub three : length fields % 3 ≡ 0
  pub within : all_within limit.Schedule fields ≡ true

-- no refusal: the values are valid
pub no-valid : (z : Sizes) (fields : List ℕ) → schedule_no z fields ≡ 0 → Valid z fields
unfolding schedule_no
no-valid z fields e =
    let header = header_no (header_for z fields) in
    let even = eqb (length fields % 3) 0 in
    let last : ℕ = 12 unless all_within limit.Schedule fields ⨾ ok in
    let third : ℕ = refusal header ⨾ last in
    let a = rest-passed 11 (leb (event_count fields) (most_of limit.Schedule)) (1 unless even ⨾ third) e in
    let b = rest-passed 0 even third a in
    record {
      header = no-right (header_for z fields) (no-refusal header last b);
      three = eqb-true (length fields % 3) 0 (test-passed 0 even third a);
      within = test-passed 11 (all_within limit.Schedule fields) 0 (rest-unrefused header last b);
    }

-- and the other way round
pub valid-no : (z : Sizes) (fields : List ℕ) → Valid z fields → schedule_no z fields ≡ 0
unfolding schedule_no most_of
valid-no z fields v =
    let n = v.header.count in
    rw (
      le-leb (event_count fields) 65_535 (omega arith),
      eq-eqb (length fields % 3) 0 v.three,
      right-no (header_for z fields) v.header,
      v.within,
    )

-- values are refused with 1, 3 or 12
pub schedule-refusals : (z : Sizes) (fields : List ℕ) → (schedule_no z fields ≡ 0 → ⊥) → (schedule_no z fields ≡ 1) ⊎ (schedule_no z fields ≡ 3) ⊎ (schedule_no z fields ≡ 12)
unfolding schedule_no
schedule-refusals z fields = go (leb (event_count fields) (most_of limit.Schedule)) (eqb (length fields % 3) 0) (header_no (header_for z fields)) (header-refusals (header_for z fields)) (all_within limit.Schedule fields)
  where
    header : {n : ℕ} → (n ≡ 1) ⊎ (n ≡ 3) → (n ≡ 1) ⊎ (n ≡ 3) ⊎ (n ≡ 12)
    header (inl p) = inl p
    header (inr p) = inr (inl p)

    go : (s t : Bool) (k : ℕ) → ((k ≡ 0 → ⊥) → (k ≡ 1) ⊎ (k ≡ 3)) → (v : Bool)
        → let n : ℕ = 12 unless s ⨾ 1 unless t ⨾ refusal k ⨾ 12 unless v ⨾ ok in
        (n ≡ 0 → ⊥) → (n ≡ 1) ⊎ (n ≡ 3) ⊎ (n ≡ 12)
    go false t k h v e = inr (inr refl)
    go true false k h v e = inl refl
    go true true (suc k) h v e = header (h e)
    go true true zero h false e = inr (inr refl)
    go true true zero h true e = absurd (e refl)
