-- Document 01's example: what its bytes print, computed.
use mathlib.Core.Path.{◌≡◌, refl, ap, ◌∙◌}
use mathlib.Core.List.{List, [], ◌∷◌}
use Prim.Native.Nat.{ℕ}
use lib.ListN.{drop}
use Rattle.sizes.specs.Sizes.{scans_in_range, sizes_in_range}
use Rattle.sizes.specs.declared.Sizes.{Sizes}
use Rattle.sets.proofs.Computing.{open_sets}
use Rattle.numbers.specs.Coding.{groups_of, most_of, last_group, groups_from, read_number}
use Rattle.forms.specs.Forms.{test_read, prepend, and_then, row, FormRead, read_as, whole}
use Rattle.schedule.specs.Schedule.{header_of, header_no, after_six, read_schedule}
use Rattle.schedule.specs.declared.Header.{Header}
use Rattle.text.specs.Words.{bytes}
use Rattle.text.specs.Digits.{decimal_of, digits_of}
use Rattle.model.specs.Records.{fresh}
use Rattle.model.specs.Table.{from}
use Rattle.model.proofs.Computing.{the_step, settled_answers, answers-settled}
use Rattle.machine.specs.Calls.{events_in}
use Rattle.printer.specs.Text.{set_width, set_text, lines, lines_from, ok_count, refused_count, run_text}
use Rattle.printer.specs.Printing.{text_of_read, text}

abbrev example : List ℕ
example =
    0x02 ∷ 0x01 ∷ 0x01 ∷ 0x10 ∷ 0x02 ∷ 0x07
    ∷ 0x01 ∷ 0x00 ∷ 0x00 ∷ 0x05 ∷ 0x00 ∷ 0x00 ∷ 0x02 ∷ 0x01 ∷ 0x00 ∷ 0x07 ∷ 0x00 ∷ 0x00
    ∷ 0x02 ∷ 0x02 ∷ 0x00 ∷ 0x02 ∷ 0x01 ∷ 0x00 ∷ 0x07 ∷ 0x00 ∷ 0x00 ∷ []

-- its six numbers, as a header
abbrev sizes : Sizes
sizes = record { proposers = 2; acceptors = 1; learners = 1; slots = 16; scans = 2 }

abbrev read : FormRead Header
read = read_as (record { sizes = sizes; events = 7 }) (drop 6 example)

numbers-read : read_schedule example ≡ read
unfolding open_sets scans_in_range sizes_in_range groups_of most_of last_group groups_from read_number test_read prepend and_then row whole header_of header_no after_six read_schedule
numbers-read = refl

printed : text_of_read read
    ≡ bytes "1 ok\n2 ok\n3 ok\n4 refused 6\n5 ok\n5 learnt 0 0000000000000001\n6 ok\n7 ok\n7 decided 0 0000000000000001\nend 7 6 1\n"
unfolding text_of_read from the_step settled_answers set_width set_text lines lines_from ok_count refused_count run_text decimal_of digits_of bytes
printed = ap (run_text 2) (answers-settled sizes (fresh sizes) (events_in (drop 6 example) 7))

pub example-text : text example
    ≡ bytes "1 ok\n2 ok\n3 ok\n4 refused 6\n5 ok\n5 learnt 0 0000000000000001\n6 ok\n7 ok\n7 decided 0 0000000000000001\nend 7 6 1\n"
example-text = ap text_of_read numbers-read ∙ printed
