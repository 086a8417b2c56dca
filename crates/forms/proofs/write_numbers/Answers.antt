use Rattle.std.proofs.Common.{rules, ◌≡◌, true, sym, ◌∙◌, ◌<◌, ◌≤◌, ◌+◌}
use native.Mathlib.Omega.{arith}
use lib.ListN.{length}
use borrow.Author.Tests.{leb-true, leb-false}
use Rattle.choice.proofs.Tests.{test-passed}
use Rattle.choice.proofs.RefusalLaws.{refused-unless}
use Rattle.numbers.proofs.Puts.{writes-refused}
use Rattle.forms.specs.Forms.{forms, all_within, limits_no}
use Rattle.forms.proofs.Writing.{too_large, no_room, wrote}
use Rattle.forms.proofs.write_numbers.Goals as goal
use Rattle.forms.proofs.write_numbers.Goals.{In_ok-refuse_unless, then-at-length, else-at-length}

-- the numbers are within the limit
within : (c : In_ok-refuse_unless) → all_within c.args.limit c.args.values.now ≡ true
within c = sym c.all_within.ensures ∙ test-passed 11 _ 0 (sym c.in_ok-refuse_unless.ensures)

pub returns-in_err-refuse_unless : goal.returns-in_err-refuse_unless
returns-in_err-refuse_unless c =
    let a = c.args in
    let f = refused-unless 12 _ c.in_err-refuse_unless.field-0.0 c.in_err-refuse_unless.ensures in
    writes-refused (limits_no a.limit a.values.now) (forms a.values.now) a.buffer.now a.at (search rules) f.1 (too_large a.limit a.values.now a.buffer.now a.at (sym c.all_within.ensures ∙ f.0))

pub returns-in_err-refuse_unless-2 : goal.returns-in_err-refuse_unless-2
returns-in_err-refuse_unless-2 c =
    let a = c.args in
    let w = within (goal.at.returns-in_err-refuse_unless-2 c).In_ok-refuse_unless in
    let f = refused-unless 8 _ c.in_err-refuse_unless-2.field-0.0 c.in_err-refuse_unless-2.ensures in
    let short : length a.buffer.now < a.at + length (forms a.values.now) = elim c.if-at-length.branch [
      | then-at-length w ↦ omega (arith, leb-false _ _ (sym w.fit_in.ensures ∙ sym w.refuse_unless-is ∙ f.0))
      | else-at-length w ↦ omega arith
    ] in
    writes-refused (limits_no a.limit a.values.now) (forms a.values.now) a.buffer.now a.at (search rules) f.1 (no_room a.limit a.values.now a.buffer.now a.at w short)

pub returns : goal.returns
returns c =
    let a = c.args in
    let w = within (goal.at.returns c).In_ok-refuse_unless in
    let f = test-passed 7 _ 0 (sym c.in_ok-refuse_unless-2.ensures) in
    let room : a.at + length (forms a.values.now) ≤ length a.buffer.now = elim c.if-at-length.branch [
      | then-at-length w ↦ omega (arith, leb-true _ _ (sym w.fit_in.ensures ∙ sym w.refuse_unless-is ∙ f))
      | else-at-length w ↦ omega (arith, leb-true _ _ (sym w.refuse_unless-is ∙ f))
    ] in
    wrote a.limit a.values.now a.buffer.now a.at w room c.put_numbers.ensures
