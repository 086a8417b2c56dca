-- A text counted, and then put where it has room: the answers of a printer. Assumes nothing.
use Rattle.std.proofs.Common.{◌≡◌, refl, sym, ap, ◌∙◌, ℕ, ◌^◌, ◌≤◌, ◌<◌, List, ◌++◌, append_assoc, length, arith}
use Rattle.std.specs.Prelude.{Result, Ok, Err}
use Rattle.choice.specs.Refusals.{number, numbered, no, no_in}
use Rattle.choice.specs.declared.refusals.Refusal.{Refusal}
use Rattle.choice.proofs.RefusalLaws.{no-numbered}
use Rattle.numbers.specs.Coding.{Written}
use Rattle.numbers.proofs.Ends.{Ends}
use Rattle.numbers.proofs.Puts as put
use Rattle.printer.specs.declared.sinks.Count.{Count}
use Rattle.printer.specs.declared.sinks.Page.{Page}
use Rattle.printer.specs.Sinks.{AddsToCount, AddsToPage}
use Rattle.printer.specs.Text.{text_written_no, text_written, after_text}

-- a text and then two as one
pub and_both : {S : Type 0} (adds : List ℕ → S → S → Type 0) → ((t u : List ℕ) (a b c : S) → adds t a b → adds u b c → adds (t ++ u) a c)
    → (t u v : List ℕ) (a b c : S) → adds t a b → adds (u ++ v) b c → adds (t ++ u ++ v) a c
and_both adds joined t u v a b c p q = rw (append_assoc t u v) (joined t (u ++ v) a b c p q)

module _ (text : List ℕ) (short : length text < 2 ^ 64) (none count : Count) (zero : none.bytes ≡ 0) (counted : AddsToCount text none count) where
  size : count.bytes ≡ length text
  size = omega (arith, zero, counted (omega (arith, zero, short)))

  -- the buffer is shorter than the text
  pub no_room : (d : List ℕ) {r : Result ℕ Refusal} {q : Refusal} → r ≡ Err q → number q ≡ 8 → length d < count.bytes → (numbered r ≡ text_written text d) × (d ≡ after_text text d)
  no_room d p e h = let w = put.no_room 0 text d 0 refl (omega (arith, size)) in (rw (p, e) w.0, w.1)

  -- the text is put from the buffer's start on, and the buffer is left so
  pub printed : (d : List ℕ) {p q : Page} {e : List ℕ} → p.at ≡ 0 → p.buffer.now ≡ d → count.bytes ≤ length d → AddsToPage text p q → e ≡ q.buffer.now
      → (◌≡◌ {A = Written} (Ok q.at) (text_written text d)) × (e ≡ after_text text d)
  printed d {p} {q} start at_start h a left =
      let ends : Ends text d 0 q.at q.buffer.now = (rw (at_start, start) at a.place, rw (at_start, start) at a.bytes) in
      let w = put.put-wrote 0 text d 0 refl (omega (arith, size)) ends in
      (w.0, left ∙ w.1)

-- what is answered has the number of the refusal
pub with-number : (text d : List ℕ) (r : Result ℕ Refusal) {e : List ℕ} → numbered r ≡ text_written text d → e ≡ after_text text d
    → (numbered r ≡ text_written text d) × (e ≡ after_text text d) × (no r ≡ text_written_no text d)
with-number text d r p q = (p, q, sym (no-numbered r) ∙ ap no_in p ∙ put.put-number 0 text d 0)
