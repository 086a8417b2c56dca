use Rattle.std.proofs.Common.{rules, ◌≡◌, sym, ◌∙◌, Err}
use native.Mathlib.Omega.{arith}
use Rattle.forms.proofs.Steps.{plain-number, plain-refused, plain-none}
use Rattle.forms.proofs.skip_numbers.Goals as goal

pub returns-in_err-next : goal.returns-in_err-next
returns-in_err-next c =
    let a = c.args in
    let l = c.loop in
    let e : c.from_residual.result ≡ Err c.in_err-next.field-0.0 = search rules in
    rw e (sym (l.invariant ∙ plain-refused a.limit a.bytes.now a.count l.counter l.next (omega arith) (sym c.in_err-next.ensures)))

pub loop-preserved : goal.loop-preserved
loop-preserved c =
    let a = c.args in
    let l = c.loop in
    l.invariant ∙ plain-number a.limit a.bytes.now a.count l.counter l.next (omega arith) (sym c.in_ok-next.ensures)

pub returns : goal.returns
returns c =
    let a = c.args in
    let l = c.loop in
    sym (l.invariant ∙ plain-none a.limit a.bytes.now a.count l.counter l.next (omega arith))
