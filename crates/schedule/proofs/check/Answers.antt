use Rattle.std.proofs.Common.{rules, ◌≡◌, refl, sym, ap, ◌∙◌, length, arith, replicate, Err}
use Rattle.choice.specs.Refusals.{number}
use Rattle.choice.proofs.RefusalLaws.{number-some}
use Rattle.numbers.specs.declared.Limit.TheVariants as limit
use Rattle.forms.specs.Forms.{got, plain, ended_at}
use Rattle.schedule.specs.Schedule.{header_of, header_no}
use Rattle.schedule.specs.declared.Header.{Header}
use Rattle.schedule.proofs.Parts.{place-refused, six-passed, six-small, check-no-six, check-no-header, check-events}
use Rattle.schedule.proofs.check.Goals as goal
use Rattle.schedule.proofs.check.Goals.{After-take_numbers, In_ok-check_header, After-skip_numbers-2}

-- the six numbers and the place after them
six : (c : After-take_numbers) → plain 6 limit.Schedule c.args.bytes.now 0 ≡ got c.take_numbers.new.room c.in_ok-first.first
six c = six-passed c.args.bytes.now (replicate 6 0) refl c.in_ok-first.ensures c.take_numbers.ensures

-- their header is not refused
passed : (c : In_ok-check_header) → header_no (header_of c.take_numbers.new.room) ≡ 0
passed c = ap header_no (sym c.header_of-header.ensures) ∙ sym c.in_ok-check_header.ensures

-- how many numbers follow it
count : (c : After-skip_numbers-2) → c.from-count.result ≡ (header_of c.take_numbers.new.room).events
count c = c.from-count.ensures ∙ ap (λ (h : Header). h.events) c.header_of-header.ensures

pub returns-in_err-first : goal.returns-in_err-first
returns-in_err-first c =
    let bytes = c.args.bytes.now in
    let e : c.from_residual.result ≡ Err c.in_err-first.field-0.0 = search rules in
    rw e (sym (check-no-six bytes (place-refused (plain 6 limit.Schedule bytes 0) (sym c.in_err-first.ensures))))

pub header_of-header-requires : goal.header_of-header-requires
header_of-header-requires c = six-small c.args.bytes.now (λ i. omega (arith, c.type_inv.bytes i)) (six (goal.at.header_of-header-requires c).After-take_numbers)

pub returns-in_err-check_header : goal.returns-in_err-check_header
returns-in_err-check_header c =
    let bytes = c.args.bytes.now in
    let e : c.from_residual-in_err-check_header.result ≡ Err c.in_err-check_header.field-0.0 = search rules in
    let n : number c.in_err-check_header.field-0.0 ≡ header_no (header_of c.take_numbers.new.room) = c.in_err-check_header.ensures ∙ ap header_no c.header_of-header.ensures in
    rw (e, n) (sym (check-no-header bytes (six (goal.at.returns-in_err-check_header c).After-take_numbers) (λ z. number-some c.in_err-check_header.field-0.0 (n ∙ z))))

pub returns-in_err-next : goal.returns-in_err-next
returns-in_err-next c =
    let bytes = c.args.bytes.now in
    let w = goal.at.returns-in_err-next c in
    let e : c.from_residual-in_err-next.result ≡ Err c.in_err-next.field-0.0 = search rules in
    let q = rw (count w.After-skip_numbers-2) at c.in_err-next.ensures in
    rw e (sym (check-events bytes (six w.After-take_numbers) (passed w.In_ok-check_header) (ap (ended_at (length bytes)) (sym q))))

pub returns-in_err-ended : goal.returns-in_err-ended
returns-in_err-ended c =
    let bytes = c.args.bytes.now in
    let w = goal.at.returns-in_err-ended c in
    let e : c.from_residual-in_err-ended.result ≡ Err c.in_err-ended.field-0.0 = search rules in
    let q = rw (count w.After-skip_numbers-2) at c.in_ok-next.ensures in
    rw e (sym (check-events bytes (six w.After-take_numbers) (passed w.In_ok-check_header) (ap (ended_at (length bytes)) (sym q) ∙ sym c.in_err-ended.ensures)))

pub returns : goal.returns
returns c =
    let bytes = c.args.bytes.now in
    let w = goal.at.returns c in
    let q = rw (count w.After-skip_numbers-2) at c.in_ok-next.ensures in
    rw c.header_of-header.ensures (sym (check-events bytes (six w.After-take_numbers) (passed w.In_ok-check_header) (ap (ended_at (length bytes)) (sym q) ∙ sym c.in_ok-ended.ensures)))
