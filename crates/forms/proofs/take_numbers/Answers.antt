use Rattle.std.proofs.Common.{leb, ◌≡◌, refl, Bool, true, false, sym, ap, ◌∙◌, ◌-◌}
use native.Mathlib.Omega.{arith}
use lib.Seq.{sets}
use borrow.Author.Tests.{leb-true, leb-false}
use Rattle.forms.specs.Forms.{numbers_at}
use Rattle.forms.proofs.Steps.{stored-number, taken_refused, taken_none, sets-out}
use Rattle.forms.proofs.take_numbers.Goals as goal

pub returns-in_default : goal.returns-in_default
returns-in_default c =
    let a = c.args in
    let l = c.loop-i in
    sym (l.invariant ∙ ap (sets l.room l.i) (taken_refused a.limit a.bytes.now a.count l.i l.next (omega arith) (sym c.in_default.ensures)))

pub loop-i-preserved : goal.loop-i-preserved
loop-i-preserved c =
    let a = c.args in
    let l = c.loop-i in
    l.invariant ∙ stored-number a.limit a.bytes.now a.count l.i l.next l.room (omega arith) (sym c.in-Ok.ensures)

pub returns : goal.returns
returns c = go (leb c.args.count c.loop-i.i) refl
  where
    go : (t : Bool) → leb c.args.count c.loop-i.i ≡ t → c.loop-i.room ≡ sets c.args.room.now 0 (numbers_at c.args.count c.args.limit c.args.bytes.now c.args.at)
    go true e =
        let a = c.args in
        let l = c.loop-i in
        sym (l.invariant ∙ ap (sets l.room l.i) (taken_none a.limit a.bytes.now a.count l.i l.next (leb-true a.count l.i e)))
    go false e =
        let a = c.args in
        let l = c.loop-i in
        sym (l.invariant ∙ sets-out (numbers_at (a.count - l.i) a.limit a.bytes.now l.next) l.room l.i (omega (arith, leb-false a.count l.i e)))
