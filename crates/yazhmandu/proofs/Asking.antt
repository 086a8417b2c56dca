-- Demand 3's last sentence over two calls of ymd_where_is: with a larger set of a run a tag is found too, at a time no earlier.
use mathlib.Core.Path.{◌≡◌, refl, sym, ap, ◌∙◌}
use mathlib.Core.Bool.{Bool, true, false}
use mathlib.Core.List.{List}
use mathlib.Core.Logic.{inl, inr}
use Prim.Native.Nat.{ℕ, ◌≤◌}
use native.Mathlib.Omega.{arith}
use lib.Dec.{eqb}
use lib.ListN.{length, get_or}
use borrow.Author.Tests.{eq-eqb}
use Rattle.std.specs.Prelude.{if◌then◌else◌, Ok, Err, Some, None}
use Rattle.choice.specs.Refusals.{no_in}
use Rattle.forms.specs.Forms.{FormRead, read_as, unread}
use Rattle.sizes.specs.declared.Sizes.{Sizes}
use Rattle.sets.specs.Scans.{◌⊆◌}
use Rattle.sets.specs.declared.ScanId.{ScanId}
use Rattle.scan_table.specs.Table.{read_table, table_answer}
use Rattle.scan_table.proofs.TableLaws.{ReadRefusal, table-refusals}
use Rattle.shelf.specs.Shelf.{Shelf, shows, where_is_written, shelf_numbers}
use Rattle.shelf.proofs.ShelfLaws.{written-later, written-refusals}
use Rattle.model.specs.Safety.{moment, Given, ShowsBy}
use Rattle.model.specs.declared.Event.{Event}
use Rattle.model.proofs.InRange.{given-fits}
use Rattle.layouts.specs.Layout.{set_size, set_at}
use Rattle.yazhmandu.specs.Calls.{unasked, where_is_bytes}
use Rattle.yazhmandu.specs.Asking.{WhereIsCall, ShowsScan, time_in}

-- ---- what the call's question answers

-- a set of another length is never asked about
unasked-refuses : (table : List ℕ) {r : ℕ} → unasked (read_table table) ≡ Err r → ReadRefusal r
unfolding unasked
unasked-refuses table {r} e = go (read_table table) refl e
  where
    go : (o : FormRead ℕ) → read_table table ≡ o → unasked o ≡ Err r → ReadRefusal r
    go (read_as n fields) q h = inr (inl (sym (ap no_in h)))
    go (unread s) q h = table-refusals table r (q ∙ ap unread (let p : s ≡ r = cc in p))

-- and so shows nothing
unasked-shown : (o : FormRead ℕ) {scan : ScanId} {place time : ℕ} → unasked o ≡ shows scan place time → ⊥
unfolding unasked
unasked-shown (read_as n fields) e = let z : ◌≡◌ {A = ℕ} 0 1 = cc in omega arith
unasked-shown (unread r) e = let z : ◌≡◌ {A = ℕ} 0 1 = cc in omega arith

module _ (table set : List ℕ) (tag : ℕ) where
  -- the call refuses with a number that the table's reader gives, and 3 is one of them
  pub where-bytes-refusals : (r : ℕ) → where_is_bytes table set tag ≡ Err r → ReadRefusal r
  unfolding where_is_bytes
  where-bytes-refusals r e = go (eqb (length set) set_size) e
    where
      go : (whole : Bool) → (if whole then where_is_written (read_table table) (set_at set 0) tag else unasked (read_table table)) ≡ Err r → ReadRefusal r
      go true h = written-refusals table (set_at set 0) tag r h
      go false h = unasked-refuses table h

  -- what it shows is what the question on the written form shows
  bytes-shown : {scan : ScanId} {place time : ℕ} → where_is_bytes table set tag ≡ shows scan place time → where_is_written (read_table table) (set_at set 0) tag ≡ shows scan place time
  unfolding where_is_bytes
  bytes-shown {scan} {place} {time} e = go (eqb (length set) set_size) e
    where
      go : (whole : Bool) → (if whole then where_is_written (read_table table) (set_at set 0) tag else unasked (read_table table)) ≡ shows scan place time
          → where_is_written (read_table table) (set_at set 0) tag ≡ shows scan place time
      go true h = h
      go false h = absurd (unasked-shown (read_table table) h)

-- ---- a larger set

not-zero : {n : ℕ} → ReadRefusal n → n ≡ 0 → ⊥
not-zero (inl p) e = omega arith
not-zero (inr (inl p)) e = omega arith
not-zero (inr (inr (inl p))) e = omega arith
not-zero (inr (inr (inr (inl p)))) e = omega arith
not-zero (inr (inr (inr (inr (inl p))))) e = omega arith
not-zero (inr (inr (inr (inr (inr p))))) e = omega arith

-- a table of the run's size, the bytes of a set that the run has learnt or decided, and bytes of any set within it
module _ (z : Sizes) (es : List Event) (i : ℕ) (table small large : List ℕ) (tag : ℕ)
    (size : table_answer (read_table table) ≡ Ok z.scans) (whole : length large ≡ set_size) (given : Given (moment z es i) (set_at large 0)) (within : set_at small 0 ⊆ set_at large 0) where
  -- where the smaller set shows a scan, so does the larger, at a time no earlier
  pub bytes-later : {scan : ScanId} {place time : ℕ} → where_is_bytes table small tag ≡ shows scan place time → ShowsBy time (where_is_bytes table large tag)
  unfolding where_is_bytes
  bytes-later e =
      let w = written-later (read_table table) z.scans tag size within (given-fits z es i (set_at large 0) given) (bytes-shown table small tag e) in
      rw (eq-eqb (length large) set_size whole) (record { scan = w.number; place = w.shelf; time = w.time; shown = w.shown; later = w.later })

  -- so it is with what two calls give, whatever stood where they leave it
  pub asked-later : (old old' found found' : List ℕ) (r r' : ℕ) → WhereIsCall table small tag old r found → WhereIsCall table large tag old' r' found'
      → ShowsScan r found → ShowsScan r' found' × (time_in found ≤ time_in found')
  asked-later old old' found found' r r' c c' s = go (where_is_bytes table small tag) refl (sym c.0 ∙ s.0) c.1
    where
      go : (w : Shelf) → where_is_bytes table small tag ≡ w → no_in w ≡ 0 → found ≡ shelf_numbers w old → ShowsScan r' found' × (time_in found ≤ time_in found')
      go (Ok None) e n f = absurd (let x : ◌≡◌ {A = ℕ} 1 0 = sym s.1 ∙ ap (λ (l : List ℕ). get_or l 0 0) f in omega arith)
      go (Err q) e n f = absurd (not-zero (where-bytes-refusals table small tag q e) n)
      go (Ok (Some shown)) e n f =
          let w = bytes-later {scan = shown.scan} {place = shown.shelf} {time = shown.time} e in
          let f' = c'.1 ∙ ap (λ (x : Shelf). shelf_numbers x old') w.shown in
          let t = ap time_in f in
          let t' = ap time_in f' in
          ((c'.0 ∙ ap no_in w.shown, ap (λ (l : List ℕ). get_or l 0 0) f'), omega (arith, w.later))
