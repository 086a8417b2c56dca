-- What the reader does in one step after another: the contracts of its private functions.
use Rattle.std.specs.Prelude.{List, ℕ, ◌*◌, eqb, length, Result, Ok, Err}
use Rattle.std.specs.Prelude.{if◌then◌else◌}
use Rattle.numbers.specs.declared.Limit.TheVariants as limit
use Rattle.forms.specs.Forms.{Outcome, Place, got, refused, plain, place_of, ended_at}
use Rattle.schedule.specs.Schedule.{header_of, header_no}
use Rattle.schedule.specs.declared.Header.{Header}
use Rattle.schedule.specs.declared.Form.{Form}

-- what the check answers: a header and the place of the first event, or a refusal
abbrev pub Checked : Type 0
Checked = Result Form ℕ

abbrev pub formed : Header → ℕ → Checked
formed h first = Ok (record { header = h; first = first })

-- a header and the place of the first event, where the form ends as it should
abbrev pub formed_at : Place → Header → ℕ → Checked
formed_at (Ok next) h first = formed h first
formed_at (Err r) h first = Err r

-- the events after a header
unfoldable pub checked_after : List ℕ → Outcome → Checked
checked_after bytes (got six next) =
    if eqb (header_no (header_of six)) 0
    then formed_at (ended_at (length bytes) (place_of (plain ((header_of six).events * 3) limit.Schedule bytes next))) (header_of six) next
    else Err (header_no (header_of six))
checked_after bytes (refused r) = Err r

-- the whole form
unfoldable pub checked : List ℕ → Checked
checked bytes = checked_after bytes (plain 6 limit.Schedule bytes 0)
