-- Where a text goes, part by part: what a text adds to a count of bytes, and to a page.
use Rattle.std.specs.Prelude.{◌≡◌, List, ℕ, ◌+◌, ◌*◌, ◌^◌, ◌<◌, ◌≤◌, length}
use Rattle.std.proofs.lemmas.List.Edits.{sets}
use Rattle.choice.specs.Refusals.{number}
use Rattle.numbers.specs.Coding.{put_end}
use Rattle.machine.specs.Log.{per_answer, answers_in}
use Rattle.printer.specs.Text.{run_text, refused_text}
use Rattle.printer.specs.declared.Run.{Run}
use Rattle.printer.specs.declared.RefusedSchedule.{RefusedSchedule}
use Rattle.printer.specs.declared.sinks.Count.{Count}
use Rattle.printer.specs.declared.sinks.Page.{Page}

-- the count goes up by the text's length, where 64 bits hold it
abbrev pub AddsToCount : List ℕ → Count → Count → Type 0
AddsToCount text c d = c.bytes + length text < 2 ^ 64 → d.bytes ≡ c.bytes + length text

-- the text stands in the buffer from the page's place on, as far as the buffer goes, and the place is after it
pub record AddsToPage (text : List ℕ) (p q : Page) : Type 0 where
  pub same : q.buffer.ghost_name ≡ p.buffer.ghost_name
  pub place : q.at ≡ put_end text p.buffer.now p.at
  pub bytes : q.buffer.now ≡ sets p.buffer.now p.at text

-- ---- the texts

-- of a run whose answers stand in a log
abbrev pub run : Run → List ℕ
run r = run_text r.scans (answers_in r.log.now r.events)

abbrev pub HasAnswers : Run → Type 0
HasAnswers r = per_answer * r.events ≤ length r.log.now

abbrev pub refused : RefusedSchedule → List ℕ
refused r = refused_text (number r.refusal)
