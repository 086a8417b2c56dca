-- The table searched for free slots, as the code searches it: contracts of private functions.
use Rattle.std.specs.Prelude.{◌≡◌, Bool, true, ◌&&◌, List, [], ◌∷◌, ℕ, suc, ◌+◌, ◌-◌, ◌<◌, ltb, length, drop}
use Rattle.std.specs.Prelude.{if◌then◌else◌}
use Rattle.sets.specs.Scans.{empty}
use Rattle.model.specs.Table.{is_free}
use Rattle.model.specs.Ranges.{all}
use Rattle.model.specs.declared.Message.{Message}
use Rattle.decisions.specs.declared.sending.Send.{Send}
use Rattle.decisions.specs.Sending.{is_taken, count_of, items_of, lacking}

-- a slot that no run uses: it is never free
abbrev pub taken_slot : Message
taken_slot = record {
  kind = 1;
  addressee = 0;
  proposer = record { 0 = 0 };
  acceptor = record { 0 = 0 };
  number = 0;
  set = empty;
}

-- of k free slots still to be found, those left after a slot
abbrev pub left_after : Message → ℕ → ℕ
left_after m k = if is_free m then k - 1 else k

-- whether the search goes on at place i of n, with k slots still to be found
abbrev pub searching : ℕ → ℕ → ℕ → Bool
searching i n k = ltb 0 k && ltb i n

-- the lowest free place, or the length of the table
unfoldable pub lowest : List Message → ℕ
lowest [] = 0
lowest (x ∷ t) = if is_free x then 0 else suc (lowest t)

-- the lowest free place from i on
abbrev pub lowest_from : ℕ → List Message → ℕ
lowest_from i t = i + lowest (drop i t)

abbrev pub FreeFrom : ℕ → List Message → Type 0
FreeFrom i t = lowest_from i t < length t

-- there is room for all that is to be sent, and each message takes its slot
abbrev pub Ready : Send → List Message → Type 0
Ready s t = (lacking (count_of s) t ≡ 0) × (all is_taken (items_of s) ≡ true)
