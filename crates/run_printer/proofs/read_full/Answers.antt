-- `read_full` meets its contract: each read adds to what the buffer begins with, and takes that from the reader.
use Rattle.std.proofs.Common.{◌≡◌, ℕ, ◌+◌, ◌-◌, ◌≤◌, List, ◌++◌, rules, length, take, drop, sym, ap, ◌∙◌, subst, le_refl, drop_at, length-take-le}
use Rattle.std.proofs.lemmas.Slice.{take-put_mid_below}
use Rattle.std.specs.Io.KnownBytes.{Consumes}
use Rattle.std.proofs.KnownBytes.{Consumes-trans}
use borrow.Rule.Slice.PartMut.{put_mid, post_of}
use lib.Seq.{take-add, take-append-le}
use Rattle.run_printer.proofs.read_full.Goals as goal

-- the buffer begins with what it began with, and then with what the read gave
longer : (a k n : ℕ) (xs ys : List ℕ) → a ≤ length xs → n ≤ length ys → take a xs ++ take n ys ≡ take (a + n) (put_mid a k xs ys)
longer a k n xs ys within fits =
    let whole = put_mid a k xs ys in
    let after = post_of a k xs in
    let front : take a whole ≡ take a xs = take-put_mid_below a k xs ys a (le_refl a) within in
    let rest : take n (drop a whole) ≡ take n ys = ap (take n) (drop_at (take a xs) (ys ++ after) a (length-take-le a xs within)) ∙ take-append-le n ys after fits in
    sym (take-add a n whole ∙ ap (λ l. l ++ take n (drop a whole)) front ∙ ap (λ l. take a xs ++ l) rest)

pub loop-got-preserved : goal.loop-got-preserved
loop-got-preserved g c =
    let buffer = c.loop-got.buffer in
    let got = c.loop-got.got in
    let joined = longer got (length buffer - got) c.in_ok-n.n buffer c.read.new.buf c.loop-got.invariant.0 c.in_ok-n.ensures.bound.0 in
    (search rules, subst (Consumes _ _) joined (Consumes-trans _ _ _ _ _ c.loop-got.invariant.1 c.in_ok-n.ensures.bytes.0))
