-- What the bytes of a schedule print: the text of its run from fresh, or of its refusal.
use Rattle.std.specs.Prelude.{List, ℕ}
use Rattle.forms.specs.Forms.{FormRead, read_as, unread}
use Rattle.sizes.specs.declared.Sizes.{Sizes}
use Rattle.schedule.specs.Schedule.{read_schedule}
use Rattle.schedule.specs.declared.Header.{Header}
use Rattle.model.specs.Records.{fresh}
use Rattle.model.specs.Step.{answers}
use Rattle.machine.specs.Calls.{events_in}
use Rattle.printer.specs.Text.{run_text, refused_text}

-- the text of a run of n events, three numbers each, from fresh
abbrev pub text_of_run : Sizes → List ℕ → ℕ → List ℕ
text_of_run z ns n = run_text z.scans (answers z (fresh z) (events_in ns n))

-- of a schedule that is read, by its header and the numbers of its events; or of its refusal
unfoldable pub text_of_read : FormRead Header → List ℕ
text_of_read (read_as h fields) = text_of_run h.sizes fields h.events
text_of_read (unread r) = refused_text r

abbrev pub text : List ℕ → List ℕ
text bytes = text_of_read (read_schedule bytes)
