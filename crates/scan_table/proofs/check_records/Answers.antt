use mathlib.Core.Path.{◌≡◌, sym, ap, ◌∙◌}
use Prim.Native.Nat.{ℕ}
use native.Mathlib.Omega.{arith}
use borrow.Author.Rules.{rules}
use Rattle.choice.specs.Tests.{refusal, ◌⨾◌}
use Rattle.choice.specs.Refusals.{number}
use Rattle.choice.proofs.Tests.{stands}
use Rattle.choice.proofs.RefusalLaws.{number-some}
use Rattle.forms.specs.Forms.{rows_no}
use Rattle.scan_table.specs.Table.{tests_of, scans_in}
use Rattle.scan_table.proofs.Testing.{four-tests, rows-chunk}
use Rattle.scan_table.proofs.check_records.Goals as goal

pub loop-four-preserved : goal.loop-four-preserved
loop-four-preserved c = let a = c.args in
    let l = c.loop-four in
    let s = c.in-Some.ensures.steps in
    let t = c.next.new.self.rest.now in
    let more : ℕ → ℕ = λ n. refusal n ⨾ rows_no (scans_in t) (tests_of a.tests) t in
    let e = rows-chunk (tests_of a.tests) (four-tests a.tests) c.in-Some.four.now t l.four-iterator.rest.now s.1.0 (s.1.1 ∙ l.invariant.0) in
    (s.0 ∙ l.invariant.0, l.invariant.1 ∙ e ∙ ap more (sym c.in_ok-check.ensures))

pub returns-in_err-check : goal.returns-in_err-check
returns-in_err-check c = let a = c.args in
    let l = c.loop-four in
    let s = c.in-Some.ensures.steps in
    let t = c.next.new.self.rest.now in
    let rest = rows_no (scans_in t) (tests_of a.tests) t in
    let more : ℕ → ℕ = λ n. refusal n ⨾ rest in
    let e = rows-chunk (tests_of a.tests) (four-tests a.tests) c.in-Some.four.now t l.four-iterator.rest.now s.1.0 (s.1.1 ∙ l.invariant.0) in
    let r = c.in_err-check.field-0.0 in
    let q = l.invariant.1 ∙ e ∙ ap more (sym c.in_err-check.ensures) ∙ stands (number r) rest (number-some r) in
    search (rules, sym q)

pub returns : goal.returns
unfolding rows_no
returns c = let a = c.args in
    let l = c.loop-four in
    let s = c.in-None.ensures.steps in
    let z : scans_in l.four-iterator.rest.now ≡ 0 = omega arith in
    sym (l.invariant.1 ∙ rw z)
