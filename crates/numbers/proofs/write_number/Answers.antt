use Rattle.std.proofs.Common.{rules, sym, ◌∙◌, ◌<◌, ◌≤◌, ◌+◌}
use native.Mathlib.Omega.{arith}
use lib.ListN.{length}
use borrow.Author.Tests.{leb-true, leb-false}
use Rattle.choice.proofs.Tests.{test-passed}
use Rattle.choice.proofs.RefusalLaws.{refused-unless}
use Rattle.numbers.specs.Coding.{form, limit_no}
use Rattle.numbers.proofs.Puts.{writes-refused, put-wrote}
use Rattle.numbers.proofs.CodingLaws.{limit-within}
use Rattle.numbers.proofs.Writing.{too_large, no_room}
use Rattle.numbers.proofs.write_number.Goals as goal
use Rattle.numbers.proofs.write_number.Goals.{In_ok-refuse_unless, then-n-room, else-n-room}

-- the number is within the limit
within : (c : In_ok-refuse_unless) → c.args.value ≤ c.most.result
within c = omega (arith, leb-true _ _ (test-passed 11 _ 0 (sym c.in_ok-refuse_unless.ensures)))

pub returns-in_err-refuse_unless : goal.returns-in_err-refuse_unless
returns-in_err-refuse_unless c =
    let a = c.args in
    let f = refused-unless 12 _ c.in_err-refuse_unless.field-0.0 c.in_err-refuse_unless.ensures in
    writes-refused (limit_no a.limit a.value) (form a.value) a.buffer.now a.at (search rules) f.1 (too_large a.limit a.value a.buffer.now a.at (omega (arith, leb-false _ _ f.0)))

pub returns-in_err-refuse_unless-2 : goal.returns-in_err-refuse_unless-2
returns-in_err-refuse_unless-2 c =
    let a = c.args in
    let w = within (goal.at.returns-in_err-refuse_unless-2 c).In_ok-refuse_unless in
    let f = refused-unless 8 _ c.in_err-refuse_unless-2.field-0.0 c.in_err-refuse_unless-2.ensures in
    let short : length a.buffer.now < a.at + length (form a.value) = elim c.if-n-room.branch [
      | then-n-room w ↦ omega (arith, leb-false _ _ (sym w.refuse_unless-is ∙ f.0))
      | else-n-room w ↦ omega arith
    ] in
    writes-refused (limit_no a.limit a.value) (form a.value) a.buffer.now a.at (search rules) f.1 (no_room a.limit a.value a.buffer.now a.at (omega arith) short)

pub returns : goal.returns
returns c =
    let a = c.args in
    let w = within (goal.at.returns c).In_ok-refuse_unless in
    let f = test-passed 7 _ 0 (sym c.in_ok-refuse_unless-2.ensures) in
    let room : a.at + length (form a.value) ≤ length a.buffer.now = elim c.if-n-room.branch [
      | then-n-room w ↦ omega (arith, leb-true _ _ (sym w.refuse_unless-is ∙ f))
      | else-n-room w ↦ omega (arith, leb-true _ _ (sym w.refuse_unless-is ∙ f))
    ] in
    put-wrote (limit_no a.limit a.value) (form a.value) a.buffer.now a.at (limit-within a.limit a.value (omega arith)) room c.put_number.ensures
