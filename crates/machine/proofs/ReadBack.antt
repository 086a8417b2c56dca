-- The answers that a log says are read back from it. Assumes nothing.
use mathlib.Core.Path.{◌≡◌, refl, ap, ◌∙◌}
use mathlib.Core.List.{List, ◌++◌, map}
use Prim.Native.Nat.{ℕ, suc, ◌+◌, ◌*◌, ◌%◌, ◌<◌, ◌≤◌}
use native.Mathlib.Omega.{arith}
use lib.ListN.{length, drop}
use lib.Seq.{drop-drop}
use borrow.Author.Tests.{ne_eqb, lt-ltb, le-ltb}
use Rattle.model.proofs.Lists.{All, none, also}
use Rattle.model.specs.Table.{from}
use Rattle.model.specs.declared.Answer.TheVariants.{Done, Learnt, Decided}
use Rattle.model.specs.Step.{Answered}
use Rattle.std.specs.Prelude.{Ok, Err}
use Rattle.machine.specs.Log.{per_answer, said_no, said_set, said_numbers, read_answer_of, read_numbers, said, answer_at, answers_in}

-- an answer that a log can say: a party below 256, a refusal from 1 to 255
abbrev pub Small : Answered → Type 0
Small (Ok Done) = Unit {0}
Small (Ok (Learnt l v)) = l.0 < 256
Small (Ok (Decided p v)) = p.0 < 256
Small (Err n) = (1 ≤ n) × (n < 256)

-- one answer
answer_back : (w : Answered) → Small w → read_numbers (said_numbers w) ≡ w
unfolding read_answer_of said_no said_set
answer_back (Ok Done) s = refl
answer_back (Ok (Learnt l v)) s =
    let m : (256 + l.0) % 256 ≡ l.0 = omega arith in
    rw (ne_eqb (256 + l.0) 0 (omega arith), le-ltb (256 + l.0) 256 (omega arith), lt-ltb (256 + l.0) 512 (omega arith), m)
answer_back (Ok (Decided p v)) s =
    let m : (512 + p.0) % 256 ≡ p.0 = omega arith in
    rw (ne_eqb (512 + p.0) 0 (omega arith), le-ltb (512 + p.0) 256 (omega arith), le-ltb (512 + p.0) 512 (omega arith), m)
answer_back (Err n) s = rw (ne_eqb n 0 (omega arith), lt-ltb n 256 s.1)

-- the answers from k on, where the log says them there
back_from : (log : List ℕ) (k : ℕ) (rest : List ℕ) {ws : List Answered} → All Small ws → drop (per_answer * k) log ≡ said ws ++ rest → map (answer_at log) (from k (length ws)) ≡ ws
unfolding from said
back_from log k rest none e = refl
back_from log k rest (also {x = w} {xs = ws} s ss) e =
    let first : answer_at log k ≡ w = ap read_numbers e ∙ answer_back w s in
    let q : per_answer * k + per_answer ≡ per_answer * suc k = omega arith in
    let r : drop (per_answer * suc k) log ≡ said ws ++ rest = rw (← q, ← drop-drop per_answer (per_answer * k) log) (ap (drop per_answer) e) in
    rw (first, back_from log (suc k) rest ss r)

pub read_back : (ws : List Answered) (rest : List ℕ) → All Small ws → answers_in (said ws ++ rest) (length ws) ≡ ws
read_back ws rest s = back_from (said ws ++ rest) 0 rest s refl
