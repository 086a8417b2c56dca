use Rattle.std.proofs.Common.{ℕ, refl, sym, ap, ◌∙◌, ◌≡◌, ◌*◌, drop, false, ◌&&◌, inl, inr, eqb, ltb}
use native.Mathlib.Omega.{arith}
use native.Mathlib.Nat.{sub-zero, add-zero, pow-suc, add_assoc}
use native.Mathlib.Numerals.{add-one}
use lib.ListN.{length-drop, get_or}
use lib.Seq.{take_all}
use borrow.Author.Tests.{lt-ltb, le-ltb, eq-eqb, ne_eqb}
use Rattle.numbers.specs.Coding.{groups_of, read_number, last_group}
use Rattle.numbers.proofs.Groups.{too_large, Small, small, ended, group-last, group-more, done, groups-few, past_end}
use Rattle.numbers.proofs.read_number.Goals as goal
use Rattle.numbers.proofs.read_number.Goals.{After-from-group, Joined-else-group-eq0, else-group-eq0-via-then-group-eq0+else-earlier-gt0, else-group-eq0-via-else-group-eq0}

-- the weight of the group, and their products
bounds : (c : After-from-group) → Small c.from-group.result c.loop-earlier.weight
bounds c =
    let l = c.loop-earlier in
    small c.from-group.result l.earlier l.weight (omega (arith, c.from-group.ensures)) (omega (arith, groups-few c.args.limit)) l.invariant.0

-- the group is the byte that many places on
same : (c : After-from-group) → c.from-group.result ≡ get_or c.in-Some.rest.now c.loop-earlier.earlier 0
same c = c.from-group.ensures ∙ c.in-Some-get.ensures.lookup.3.1 0

-- it is not a padding 0
first : (c : Joined-else-group-eq0) → (eqb c.from-group.result 0 && ltb 0 c.loop-earlier.earlier) ≡ false
first c =
    elim c.else-group-eq0.branch [
      | else-group-eq0-via-then-group-eq0+else-earlier-gt0 w ↦ simp (eq-eqb _ _ w.if-group-eq0.true, le-ltb 0 c.loop-earlier.earlier (omega arith))
      | else-group-eq0-via-else-group-eq0 w ↦ simp (ne_eqb _ _ w.if-group-eq0.false)
    ]

pub loop-earlier-init : goal.loop-earlier-init
loop-earlier-init c =
    let a = c.args in
    let r : c.in-Some.rest.now ≡ drop a.at a.bytes.now = c.in-Some.ensures.lookup.0.2 ∙ take_all _ (drop a.at a.bytes.now) (omega (arith, length-drop a.at a.bytes.now)) in
    (refl, omega arith, rw (r, add-zero a.at, sub-zero (groups_of a.limit)))

pub returns-in_default : goal.returns-in_default
returns-in_default c =
    let a = c.args in
    sym (past_end a.limit a.bytes.now a.at (elim c.in_default.ensures.lookup.0 [ inl h ↦ omega arith | inr h ↦ omega arith ]))

pub returns-in_default-get : goal.returns-in_default-get
unfolding read_number
returns-in_default-get c =
    let l = c.loop-earlier in
    sym (l.invariant.2 ∙ ended (groups_of c.args.limit) l.earlier _ _ l.low l.weight c.in-Some.rest.now _ (omega arith) c.in_default-get.ensures.lookup.3)

pub returns-then-earlier-gt0 : goal.returns-then-earlier-gt0
unfolding read_number last_group
returns-then-earlier-gt0 c =
    let l = c.loop-earlier in
    let e = same (goal.at.returns-then-earlier-gt0 c).After-from-group in
    sym (l.invariant.2 ∙ group-last (groups_of c.args.limit) l.earlier _ _ l.low l.weight c.in-Some.rest.now _ (omega arith) c.in-Some-get.ensures.lookup.3.0 (omega arith) ∙ rw (← e, c.if-group-eq0.true, lt-ltb 0 l.earlier c.if-earlier-gt0.true))

pub overflow_mul-value : goal.overflow_mul-value
overflow_mul-value c = omega (arith, (bounds (goal.at.overflow_mul-value c).After-from-group).whole)

pub overflow_add-value : goal.overflow_add-value
overflow_add-value c = let s = bounds (goal.at.overflow_add-value c).After-from-group in omega (arith, s.whole, s.alone)

pub returns-then-most-value : goal.returns-then-most-value
unfolding read_number
returns-then-most-value c =
    let l = c.loop-earlier in
    let e = same (goal.at.returns-then-most-value c).After-from-group in
    sym (l.invariant.2 ∙ group-last (groups_of c.args.limit) l.earlier _ _ l.low l.weight c.in-Some.rest.now _ (omega arith) c.in-Some-get.ensures.lookup.3.0 (omega arith) ∙ rw (← e, ← c.most.ensures) (too_large _ _ _ _ _ _ c.if-most-value.true))

pub returns-then-group-lt128 : goal.returns-then-group-lt128
unfolding read_number last_group
returns-then-group-lt128 c =
    let l = c.loop-earlier in
    let e = same (goal.at.returns-then-group-lt128 c).After-from-group in
    let f = first (goal.at.returns-then-group-lt128 c).Joined-else-group-eq0 in
    sym (l.invariant.2 ∙ group-last (groups_of c.args.limit) l.earlier _ _ l.low l.weight c.in-Some.rest.now _ (omega arith) c.in-Some-get.ensures.lookup.3.0 (omega arith) ∙ rw (← e, f, ← c.most.ensures, le-ltb _ _ c.if-most-value.false))

pub overflow_mul-low : goal.overflow_mul-low
overflow_mul-low c = omega (arith, (bounds (goal.at.overflow_mul-low c).After-from-group).seven)

pub overflow_add-low : goal.overflow_add-low
overflow_add-low c = let s = bounds (goal.at.overflow_add-low c).After-from-group in omega (arith, s.seven, s.alone)

pub overflow_mul-weight : goal.overflow_mul-weight
overflow_mul-weight c = omega (arith, (bounds (goal.at.overflow_mul-weight c).After-from-group).alone)

pub loop-earlier-preserved : goal.loop-earlier-preserved
loop-earlier-preserved c =
    let a = c.args in
    let l = c.loop-earlier in
    let at = (goal.at.loop-earlier-preserved c).After-from-group in
    let e = same at in (
      rw (add-one l.earlier, pow-suc 128 l.earlier) (ap (λ (x : ℕ). x * 128) l.invariant.0),
      omega (arith, (bounds at).below),
      rw (e, ← add_assoc a.at l.earlier 1) (l.invariant.2 ∙ group-more (groups_of a.limit) l.earlier _ _ l.low l.weight c.in-Some.rest.now _ (omega arith) c.in-Some-get.ensures.lookup.3.0 (omega arith)),
    )

pub returns : goal.returns
unfolding read_number
returns c =
    let l = c.loop-earlier in
    sym (l.invariant.2 ∙ done (groups_of c.args.limit) l.earlier _ _ l.low l.weight _ _ (omega arith))
