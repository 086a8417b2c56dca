-- The scan table of document 01, "Clock and shelf" and "Written forms".
use Rattle.std.specs.Prelude.{Bool, ◌&&◌, Result, Ok, Err, List, [], ◌∷◌, map, ℕ, ◌+◌, ◌-◌, ◌*◌, ◌/◌, ◌%◌, ◌^◌, eqb, leb, length, get_or}
use Rattle.choice.specs.Tests.{◌unless◌, ◌⨾◌, ok}
use Rattle.sizes.specs.Sizes.{between, scans_in_range}
use Rattle.numbers.specs.Coding.{read_number, put_no, put_answer, after_put}
use Rattle.numbers.specs.declared.Limit.TheVariants.{Table}
use Rattle.numbers.specs.declared.Number.{Number}
use Rattle.forms.specs.Forms.{Test, rows, FormRead, read_as, unread, read_unless, whole, forms, rows_no, as_read}
use Rattle.scan_table.specs.declared.Scan.{Scan}
use Rattle.scan_table.specs.declared.Tests.{Tests}
use Rattle.scan_table.specs.declared.Tests.TheVariants.{Reading, Writing}

-- ---- the ranges

-- S 1 to 64
unfoldable pub size_no : Test
size_no s = 1 unless scans_in_range s ⨾ ok

-- tag to 2 ^ 32 - 1
unfoldable pub tag_no : Test
tag_no tag = 3 unless leb tag (2 ^ 32 - 1) ⨾ ok

-- shelf to 65,535
unfoldable pub shelf_no : Test
shelf_no shelf = 3 unless leb shelf 65_535 ⨾ ok

-- device 1 to 255
unfoldable pub device_no : Test
device_no device = 10 unless between 1 255 device ⨾ ok

-- time to 2 ^ 48 - 1
unfoldable pub time_no : Test
time_no time = 12 unless leb time (2 ^ 48 - 1) ⨾ ok

-- the tests of one record, in the order of its fields
abbrev pub scan_tests : List Test
scan_tests = tag_no ∷ shelf_no ∷ device_no ∷ time_no ∷ []

-- the four numbers of a scan
abbrev pub fields_of : Scan → List ℕ
fields_of s = s.tag ∷ s.shelf ∷ s.device ∷ s.time ∷ []

-- scan i of a table's numbers
unfoldable pub scan_at : List ℕ → ℕ → Scan
scan_at fields i =
    record {
      tag = get_or fields (i * 4) 0;
      shelf = get_or fields (i * 4 + 1) 0;
      device = get_or fields (i * 4 + 2) 0;
      time = get_or fields (i * 4 + 3) 0;
    }

-- how many scans a table's numbers are
abbrev pub scans_in : List ℕ → ℕ
scans_in fields = length fields / 4

-- the records of whole scans, S of them
unfoldable pub whole_table : List ℕ → Bool
whole_table fields = eqb (length fields % 4) 0 && scans_in_range (scans_in fields)

-- the first refusal of a table's numbers: of their count, and then of each record by the tests
unfoldable pub table_no : List Test → List ℕ → ℕ
table_no tests fields =
    1 unless whole_table fields
    ⨾ rows_no (scans_in fields) tests fields

-- ---- reading

-- S is tested at once; then per record tag, shelf, device, time, each range tested when read; then the end
unfoldable pub after_size : List ℕ → Result Number ℕ → FormRead ℕ
after_size bytes (Ok s) =
    read_unless (size_no s.value) (whole bytes s.value (rows s.value scan_tests Table bytes s.next))
after_size bytes (Err n) = unread n

-- what reading a table gives: S and the numbers of its records, or a refusal
unfoldable pub read_table : List ℕ → FormRead ℕ
read_table bytes = after_size bytes (read_number Table bytes 0)

-- what it answers: S, or the refusal
unfoldable pub table_answer : FormRead ℕ → Result ℕ ℕ
table_answer (read_as scans fields) = Ok scans
table_answer (unread n) = Err n

-- ---- writing

-- a writer tests its values as the reader would
abbrev pub written_tests : List Test
written_tests = map (as_read Table) scan_tests

-- the tests of one record: of a table that is to be written, and of one that has been read
abbrev pub tests_of : Tests → List Test
tests_of Writing = written_tests
tests_of Reading = scan_tests

-- the written form
unfoldable pub table_form : List ℕ → List ℕ
table_form fields = forms (scans_in fields ∷ fields)

-- a table at the start of a buffer: the refusal, the answer, the buffer after it
abbrev pub table_written_no : List ℕ → List ℕ → ℕ
table_written_no fields buffer = put_no (table_no written_tests fields) (table_form fields) buffer 0

abbrev pub table_written : List ℕ → List ℕ → Result ℕ ℕ
table_written fields buffer = put_answer (table_no written_tests fields) (table_form fields) buffer 0

abbrev pub after_table : List ℕ → List ℕ → List ℕ
after_table fields buffer = after_put (table_no written_tests fields) (table_form fields) buffer 0

-- ---- an answer as a number

-- the number of scans that an answer gives, or what stood there before
abbrev pub table_scans : Result ℕ ℕ → ℕ → ℕ
table_scans (Ok n) old = n
table_scans (Err r) old = old
