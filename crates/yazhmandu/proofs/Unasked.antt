-- The shelf question with a set of another length, by what its table's reader answers.
use mathlib.Core.Path.{◌≡◌, refl}
use Prim.Native.Nat.{ℕ}
use Rattle.std.specs.Prelude.{Ok, Err}
use Rattle.forms.specs.Forms.{FormRead, read_as, unread}
use Rattle.scan_table.specs.Table.{table_answer}
use Rattle.yazhmandu.specs.Calls.{unasked}

-- a table that is read: 3
pub unasked_read : (o : FormRead ℕ) {n : ℕ} → Ok n ≡ table_answer o → unasked o ≡ Err 3
unfolding table_answer unasked
unasked_read (read_as s fields) e = refl
unasked_read (unread r) e = cc

-- a table that is refused: its refusal
pub unasked_refused : (o : FormRead ℕ) {r : ℕ} → Err r ≡ table_answer o → unasked o ≡ Err r
unfolding table_answer unasked
unasked_refused (read_as s fields) e = cc
unasked_refused (unread n) e = cc
