-- The laws of counts and pages: no text, and two texts one after the other. Assumes nothing.
use Rattle.std.proofs.Common.{◌≡◌, refl, ℕ, ◌+◌, ◌-◌, List, [], ◌++◌, arith, min, length, ap, ◌∙◌, length-append}
use Rattle.std.proofs.lemmas.List.Edits.{sets}
use lib.Seq.{length-sets}
use Rattle.numbers.specs.Coding.{put_end}
use Rattle.numbers.proofs.Ends.{ends-append}
use Rattle.printer.specs.declared.sinks.Count.{Count}
use Rattle.printer.specs.declared.sinks.Page.{Page}
use Rattle.printer.specs.Sinks.{AddsToCount, AddsToPage}

pub counts_none : (a : Count) → AddsToCount [] a a
counts_none a h = omega arith

pub counts_joined : (t u : List ℕ) (a b c : Count) → AddsToCount t a b → AddsToCount u b c → AddsToCount (t ++ u) a c
counts_joined t u a b c p q h =
    let n : length (t ++ u) ≡ length t + length u = length-append t u in
    let first = p (omega (arith, n)) in
    omega (arith, n, first, q (omega (arith, n, first)))

pub adds_none : (a : Page) → AddsToPage [] a a
unfolding put_end
adds_none a = record { same = refl; place = omega arith; bytes = refl }

pub adds_joined : (t u : List ℕ) (a b c : Page) → AddsToPage t a b → AddsToPage u b c → AddsToPage (t ++ u) a c
adds_joined t u a b c p q =
    let e = ends-append t u a.buffer.now a.at (p.place, p.bytes) (q.place, q.bytes) in
    record { same = q.same ∙ p.same; place = e.0; bytes = e.1 }

-- a text's bytes put, and the place moved by its length
pub added : (text : List ℕ) (p q : Page) {m : List ℕ} {n : ℕ} → n ≡ length text → m ≡ sets p.buffer.now p.at text
    → q.buffer.ghost_name ≡ p.buffer.ghost_name → q.buffer.now ≡ m → q.at ≡ p.at + min n (length m - p.at) → AddsToPage text p q
unfolding put_end
added text p q {m} {n} size put same bytes place =
    let kept : length m ≡ length p.buffer.now = ap length put ∙ length-sets p.buffer.now p.at text in
    record { same = same; place = place ∙ rw (size, kept) refl; bytes = bytes ∙ put }
