use Rattle.std.proofs.Common.{◌≡◌, sym, ◌∙◌, ◌+◌}
use native.Mathlib.Omega.{arith}
use lib.ListN.{length, drop}
use borrow.Author.Tests.{le-leb, lt-leb}
use Rattle.forms.specs.Forms.{forms}
use Rattle.forms.proofs.Steps.{forms-next-length, forms-none, leb-less}
use Rattle.forms.proofs.fit_in.Goals as goal

pub returns-then-left-n : goal.returns-then-left-n
returns-then-left-n c =
    let a = c.args in
    let l = c.loop-value in
    let n = forms-next-length a.values.now l.value-index (omega arith) in
    sym (l.invariant ∙ lt-leb (length (forms (drop l.value-index a.values.now))) l.left (omega arith))

pub loop-value-preserved : goal.loop-value-preserved
loop-value-preserved c =
    let a = c.args in
    let l = c.loop-value in
    let w = c.width-n.result in
    let rest = length (forms (drop (l.value-index + 1) a.values.now)) in
    let n : length (forms (drop l.value-index a.values.now)) ≡ w + rest = omega (arith, forms-next-length a.values.now l.value-index (omega arith), c.width-n.ensures) in
    l.invariant ∙ rw n (leb-less w rest l.left (omega arith))

pub returns : goal.returns
returns c =
    let a = c.args in
    let l = c.loop-value in
    sym (l.invariant ∙ rw (forms-none a.values.now l.value-index (omega arith)) (le-leb 0 l.left (omega arith)))
