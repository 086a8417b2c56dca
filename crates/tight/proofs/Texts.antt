-- A text is read back: which of its events are ok, and its last line. Assumes nothing.
use mathlib.Core.Path.{◌≡◌, refl, sym, ap, ap₂, ◌∙◌}
use mathlib.Core.Logic.{◌⊎◌, inl, inr}
use mathlib.Core.Bool.{Bool}
use mathlib.Core.List.{List, [], ◌∷◌, ◌++◌, map, append_assoc, append-nil}
use Prim.Native.Nat.{ℕ, zero, suc, ◌+◌, ◌/◌, ◌%◌, ◌<◌, ◌≤◌}
use native.Mathlib.Omega.{arith}
use lib.Dec.{eqb, ltb}
use lib.ListN.{length, get_or, drop, length-map}
use borrow.Author.Tests.{ltb-true, lt-ltb, ne_eqb}
use Rattle.std.specs.Prelude.{if◌then◌else◌, Ok, Err}
use Rattle.choice.proofs.Tests.{if-ind}
use Rattle.text.specs.Words.{bytes}
use Rattle.text.specs.Digits.{digit, digits_of, decimal_of, decimal, hex_of}
use Rattle.text.proofs.DigitLaws.{decimal-last, decimal-some}
use Rattle.sets.specs.Scans.{first_word}
use Rattle.sets.specs.declared.scans.Scans.{Scans}
use Rattle.sizes.specs.declared.Sizes.{Sizes}
use Rattle.model.specs.Step.{Answered, answer_no}
use Rattle.model.specs.declared.Answer.TheVariants.{Done, Learnt, Decided}
use Rattle.model.proofs.Lists.{All, none, also}
use Rattle.model.proofs.Answers.{Named, names_none, names_learner, names_proposer, names_refusal}
use Rattle.printer.specs.Text.{set_width, set_text, ok_line, set_line, lines, lines_from, ok_count, refused_count, end_with, end_line, run_text, refused_text}

-- ---- a reader of texts, byte by byte

-- a line's first byte, the rest of its place, the first letter of its word, the rest of the word refused, the digit after it, and what follows to the line's end
data Part : Type 0 where
  begin place word reason number rest : Part

next : Part → ℕ → Part
next begin x = place
next place x = if eqb x 32 then word else place
next word x = if eqb x 114 then reason else rest
next reason x = if eqb x 32 then number else reason
next number x = rest
next rest x = if eqb x 10 then begin else rest

-- a mark for each event, 0 for ok and the first digit of a refusal; and the last line
record Reading : Type 0 where
  marks : List ℕ
  last : List ℕ

adding : List ℕ → Reading → Reading
adding ms r = record { marks = ms ++ r.marks; last = r.last }

-- the last line begins with e, and the word ok with o
noting : Part → ℕ → List ℕ → Reading → Reading
noting begin x xs r = if eqb x 101 then record { marks = []; last = x ∷ xs } else r
noting place x xs r = r
noting word x xs r = if eqb x 111 then adding (0 ∷ []) r else r
noting reason x xs r = r
noting number x xs r = adding (x ∷ []) r
noting rest x xs r = r

reading : Part → List ℕ → Reading
reading p [] = record { marks = []; last = [] }
reading p (x ∷ xs) = noting p x xs (reading (next p x) xs)

-- these bytes lead from one part to another and add these marks
record Reads (p : Part) (l ms : List ℕ) (q : Part) : Type 0 where
  reads : (xs : List ℕ) → reading p (l ++ xs) ≡ adding ms (reading q xs)

joined : {p q r : Part} {k l ms ns : List ℕ} → Reads p k ms q → Reads q l ns r → Reads p (k ++ l) (ms ++ ns) r
unfolding adding
joined {p} {q} {r} {k} {l} {ms} {ns} a b = record {
  reads = λ xs.
      ap (reading p) (append_assoc k l xs)
      ∙ a.reads (l ++ xs)
      ∙ ap (adding ms) (b.reads xs)
      ∙ ap (λ (us : List ℕ). record { marks = us; last = (reading r xs).last }) (sym (append_assoc ms ns (reading r xs).marks));
}

-- ---- digits

all_append : {Q : ℕ → Type 0} {xs ys : List ℕ} → All Q xs → All Q ys → All Q (xs ++ ys)
all_append none b = b
all_append (also q a) b = also q (all_append a b)

-- the byte of a decimal digit; a hex digit's is not below
abbrev Digit : ℕ → Type 0
Digit x = (48 ≤ x) × (x ≤ 57)

digit-is : (d : ℕ) → d < 10 → Digit (digit d)
digit-is d h = rw (lt-ltb d 10 h) (omega arith, omega arith)

digit-least : (d : ℕ) → 48 ≤ digit d
digit-least d = if-ind (λ (x : ℕ). 48 ≤ x) (ltb d 10) (48 + d) (87 + d) (λ _. omega arith) (λ _. omega arith)

decimal-digits : (n x : ℕ) → All Digit (decimal_of n x)
unfolding decimal_of
decimal-digits zero x = none
decimal-digits (suc n) x =
    if-ind (All Digit) (ltb x 10) (digit x ∷ []) (decimal_of n (x / 10) ++ (digit (x % 10) ∷ []))
    (λ h. also (digit-is x (ltb-true x 10 h)) none)
    (λ _. all_append (decimal-digits n (x / 10)) (also (digit-is (x % 10) (omega arith)) none))

hex-digits : (n x : ℕ) → All (λ (d : ℕ). 48 ≤ d) (hex_of n x)
unfolding digits_of
hex-digits zero x = none
hex-digits (suc n) x = all_append (hex-digits n (x / 16)) (also (digit-least (x % 16)) none)

least : {ds : List ℕ} → All Digit ds → All (λ (d : ℕ). 48 ≤ d) ds
least none = none
least (also q a) = also q.0 (least a)

-- ---- digits are passed over

pass-place : {ds : List ℕ} → All Digit ds → (xs : List ℕ) → reading place (ds ++ xs) ≡ reading place xs
unfolding reading next noting
pass-place none xs = refl
pass-place (also {x = d} {xs = ds} q a) xs = rw (ne_eqb d 32 (λ e. omega arith)) (pass-place a xs)

pass-rest : {ds : List ℕ} → All (λ (d : ℕ). 48 ≤ d) ds → (xs : List ℕ) → reading rest (ds ++ xs) ≡ reading rest xs
unfolding reading next noting
pass-rest none xs = refl
pass-rest (also {x = d} {xs = ds} q a) xs = rw (ne_eqb d 10 (λ e. omega arith)) (pass-rest a xs)

pass-begin : {ds : List ℕ} → All Digit ds → 1 ≤ length ds → (xs : List ℕ) → reading begin (ds ++ xs) ≡ reading place xs
unfolding reading next noting
pass-begin none h xs = absurd (omega arith)
pass-begin (also {x = d} {xs = ds} q a) h xs = rw (ne_eqb d 101 (λ e. omega arith)) (pass-place a xs)

pass-number : {ds : List ℕ} → All Digit ds → 1 ≤ length ds → (xs : List ℕ) → reading number (ds ++ xs) ≡ adding (get_or ds 0 0 ∷ []) (reading rest xs)
unfolding reading next noting
pass-number none h xs = absurd (omega arith)
pass-number (also {x = d} {xs = ds} q a) h xs = ap (adding (d ∷ [])) (pass-rest (least a) xs)

-- a line's place, a refusal's number, a party's, a set
the-place : (n : ℕ) → Reads begin (decimal n) [] place
unfolding adding
the-place n = record { reads = λ xs. pass-begin (decimal-digits 20 n) (decimal-some 19 n) xs }

the-refusal : (n : ℕ) → Reads number (decimal n) (get_or (decimal n) 0 0 ∷ []) rest
the-refusal n = record { reads = λ xs. pass-number (decimal-digits 20 n) (decimal-some 19 n) xs }

the-party : (n : ℕ) → Reads rest (decimal n) [] rest
unfolding adding
the-party n = record { reads = λ xs. pass-rest (least (decimal-digits 20 n)) xs }

the-set : (s : ℕ) (v : Scans) → Reads rest (set_text s v) [] rest
unfolding adding set_text
the-set s v = record { reads = λ xs. pass-rest (hex-digits (set_width s) (first_word v)) xs }

-- ---- lines

ok-word : Reads place (bytes " ok\n") (0 ∷ []) begin
unfolding reading next noting adding bytes
ok-word = record { reads = λ xs. refl }

refused-word : Reads place (bytes " refused ") [] number
unfolding reading next noting adding bytes
refused-word = record { reads = λ xs. refl }

learnt-word : Reads place (bytes " learnt ") [] rest
unfolding reading next noting adding bytes
learnt-word = record { reads = λ xs. refl }

decided-word : Reads place (bytes " decided ") [] rest
unfolding reading next noting adding bytes
decided-word = record { reads = λ xs. refl }

space : Reads rest (bytes " ") [] rest
unfolding reading next noting adding bytes
space = record { reads = λ xs. refl }

line-end : Reads rest (bytes "\n") [] begin
unfolding reading next noting adding bytes
line-end = record { reads = λ xs. refl }

refused-schedule : Reads begin (bytes "schedule refused ") [] number
unfolding reading next noting adding bytes
refused-schedule = record { reads = λ xs. refl }

ok-line : (at : ℕ) → Reads begin (ok_line at) (0 ∷ []) begin
ok-line at = joined (the-place at) ok-word

set_line_lem : (s at : ℕ) (name : List ℕ) (party : ℕ) (v : Scans) → Reads place name [] rest → Reads begin (set_line s at name party v) [] begin
set_line_lem s at name party v h = joined (joined (joined (joined (joined (the-place at) h) (the-party party)) space) (the-set s v)) line-end

mark : Answered → ℕ
mark (Ok Done) = 0
mark (Ok (Learnt l v)) = 0
mark (Ok (Decided p v)) = 0
mark (Err n) = get_or (decimal n) 0 0

event-lines : (s at : ℕ) (w : Answered) → Reads begin (lines s at w) (mark w ∷ []) begin
unfolding lines mark
event-lines s at (Ok Done) = ok-line at
event-lines s at (Ok (Learnt l v)) = joined (ok-line at) (set_line_lem s at (bytes " learnt ") l.0 v learnt-word)
event-lines s at (Ok (Decided p v)) = joined (ok-line at) (set_line_lem s at (bytes " decided ") p.0 v decided-word)
event-lines s at (Err n) = joined (joined (joined (the-place at) refused-word) (the-refusal n)) line-end

all_lines : (s at : ℕ) (ws : List Answered) → Reads begin (lines_from s at ws) (map mark ws) begin
unfolding lines_from adding
all_lines s at [] = record { reads = λ xs. refl }
all_lines s at (w ∷ ws) = joined (event-lines s at w) (all_lines s (suc at) ws)

-- ---- a text

end_read : (a b c : ℕ) → reading begin (end_with a b c) ≡ record { marks = []; last = end_with a b c }
unfolding reading noting bytes
end_read a b c = refl

run-read : (s : ℕ) (ws : List Answered) (a b c : ℕ) → reading begin (lines_from s 1 ws ++ end_with a b c) ≡ record { marks = map mark ws; last = end_with a b c }
unfolding adding
run-read s ws a b c =
    (all_lines s 1 ws).reads (end_with a b c)
    ∙ ap (adding (map mark ws)) (end_read a b c)
    ∙ ap (λ (ms : List ℕ). record { marks = ms; last = end_with a b c }) (append-nil (map mark ws))

-- a refused schedule's text has no last line
refusal-text : (n : ℕ) → Reads begin (refused_text n) (get_or (decimal n) 0 0 ∷ []) begin
unfolding refused_text
refusal-text n = joined (joined refused-schedule (the-refusal n)) line-end

refusal-read : (n : ℕ) → (reading begin (refused_text n)).last ≡ []
unfolding reading adding
refusal-read n = ap (λ (t : List ℕ). (reading begin t).last) (sym (append-nil (refused_text n))) ∙ ap (λ (r : Reading). r.last) ((refusal-text n).reads [])

-- what has no last line is no text of a run
no_run : (t : List ℕ) → (reading begin t).last ≡ [] → (s : ℕ) (ws : List Answered) (a b c : ℕ) → t ≡ lines_from s 1 ws ++ end_with a b c → ⊥
unfolding bytes
no_run t h s ws a b c e =
    let q : end_with a b c ≡ [] = sym (ap (λ (r : Reading). r.last) (ap (reading begin) e ∙ run-read s ws a b c)) ∙ h in
    let x : ◌≡◌ {A = ℕ} 101 0 = ap (λ (l : List ℕ). get_or l 0 0) q in
    omega arith

pub refusal-no-run : (n s : ℕ) (ws : List Answered) (a b c : ℕ) → refused_text n ≡ lines_from s 1 ws ++ end_with a b c → ⊥
refusal-no-run n = no_run (refused_text n) (refusal-read n)

pub nothing-no-run : (s : ℕ) (ws : List Answered) (a b c : ℕ) → [] ≡ lines_from s 1 ws ++ end_with a b c → ⊥
unfolding reading
nothing-no-run = no_run [] refl

-- ---- marks say which events are ok

abbrev verdicts : List Answered → List Bool
verdicts ws = map (λ (w : Answered). eqb (answer_no w) 0) ws

first-least : {ds : List ℕ} → All Digit ds → 1 ≤ length ds → 48 ≤ get_or ds 0 0
first-least none h = absurd (omega arith)
first-least (also q a) h = q.0

-- any answer
some-mark : (w : Answered) → ((mark w ≡ 0) × (answer_no w ≡ 0)) ⊎ ((48 ≤ mark w) × (answer_no w ≡ 0 → mark w ≡ 48))
unfolding mark decimal_of
some-mark (Ok Done) = inl (refl, refl)
some-mark (Ok (Learnt l v)) = inl (refl, refl)
some-mark (Ok (Decided p v)) = inl (refl, refl)
some-mark (Err n) = inr (first-least (decimal-digits 20 n) (decimal-some 19 n), λ e. ap (λ (k : ℕ). get_or (decimal k) 0 0) e)

-- an answer of a run: its refusals are 1 to 8
named-mark : (z : Sizes) (u : Answered) → Named z u → ((mark u ≡ 0) × (answer_no u ≡ 0)) ⊎ ((mark u ≡ 48 + answer_no u) × (1 ≤ answer_no u))
unfolding mark
named-mark z (Ok Done) names_none = inl (refl, refl)
named-mark z (Ok (Learnt l v)) (names_learner i) = inl (refl, refl)
named-mark z (Ok (Decided p v)) (names_proposer i) = inl (refl, refl)
named-mark z (Err n) (names_refusal l m) = inr (ap (λ (ds : List ℕ). get_or ds 0 0) (decimal-last 19 n (omega arith)) ∙ rw (lt-ltb n 10 (omega arith)), l)

same-verdict : (z : Sizes) (w u : Answered) → Named z u → mark w ≡ mark u → eqb (answer_no w) 0 ≡ eqb (answer_no u) 0
same-verdict z w u n e = by (some-mark w) (named-mark z u n)
  where
    by : ((mark w ≡ 0) × (answer_no w ≡ 0)) ⊎ ((48 ≤ mark w) × (answer_no w ≡ 0 → mark w ≡ 48)) → ((mark u ≡ 0) × (answer_no u ≡ 0)) ⊎ ((mark u ≡ 48 + answer_no u) × (1 ≤ answer_no u)) → eqb (answer_no w) 0 ≡ eqb (answer_no u) 0
    by (inl a) (inl b) = ap (λ (k : ℕ). eqb k 0) (a.1 ∙ sym b.1)
    by (inl a) (inr b) = absurd (omega (arith, a.0, b.0))
    by (inr a) (inl b) = absurd (omega (arith, a.0, b.0))
    by (inr a) (inr b) = ne_eqb (answer_no w) 0 (λ q. omega (arith, a.1 q, b.0, b.1)) ∙ sym (ne_eqb (answer_no u) 0 (λ q. omega (arith, b.1)))

same-verdicts : (z : Sizes) {us : List Answered} → All (Named z) us → (ws : List Answered) → map mark ws ≡ map mark us → verdicts ws ≡ verdicts us
same-verdicts z none [] e = refl
same-verdicts z none (w ∷ ws) e = absurd (let l : suc (length (map mark ws)) ≡ 0 = ap length e in omega arith)
same-verdicts z (also {x = u} {xs = us} n ns) [] e = absurd (let l : 0 ≡ suc (length (map mark us)) = ap length e in omega arith)
same-verdicts z (also {x = u} {xs = us} n ns) (w ∷ ws) e =
    ap₂ (λ (b : Bool) (bs : List Bool). b ∷ bs) (same-verdict z w u n (ap (λ (l : List ℕ). get_or l 0 0) e)) (same-verdicts z ns ws (ap (drop 1) e))

-- ---- and so how many

oks : List Bool → ℕ
oks [] = 0
oks (b ∷ bs) = if b then suc (oks bs) else oks bs

nos : List Bool → ℕ
nos [] = 0
nos (b ∷ bs) = if b then nos bs else suc (nos bs)

ok_of : (ws : List Answered) → ok_count ws ≡ oks (verdicts ws)
unfolding ok_count oks
ok_of [] = refl
ok_of (w ∷ ws) = rw (ok_of ws)

refused-of : (ws : List Answered) → refused_count ws ≡ nos (verdicts ws)
unfolding refused_count nos
refused-of [] = refl
refused-of (w ∷ ws) = rw (refused-of ws)

-- two lists of answers say the same of each event: ok, or not
pub record Alike (ws us : List Answered) : Type 0 where
  pub same : map (λ (w : Answered). eqb (answer_no w) 0) ws ≡ map (λ (w : Answered). eqb (answer_no w) 0) us

module _ {ws us : List Answered} (e : Alike ws us) where
  pub ok_same : ok_count ws ≡ ok_count us
  ok_same = ok_of ws ∙ ap oks e.same ∙ sym (ok_of us)

  pub refused-same : refused_count ws ≡ refused_count us
  refused-same = refused-of ws ∙ ap nos e.same ∙ sym (refused-of us)

  pub end_same : end_line ws ≡ end_line us
  end_same =
      let l : length ws ≡ length us = sym (length-map ws _) ∙ ap length e.same ∙ length-map us _ in
      rw (l, ok_same, refused-same)

later-verdicts : (ws : List Answered) → verdicts (drop 1 ws) ≡ drop 1 (verdicts ws)
later-verdicts [] = refl
later-verdicts (w ∷ ws) = refl

pub later-alike : {ws us : List Answered} → Alike ws us → Alike (drop 1 ws) (drop 1 us)
later-alike {ws} {us} e = record { same = later-verdicts ws ∙ ap (drop 1) e.same ∙ sym (later-verdicts us) }

-- lines, of whatever number of scans, and a last line that are a run's text: the lines say of each event what the run says, and the last line is theirs
pub one-text : (z : Sizes) {us : List Answered} → All (Named z) us → (s : ℕ) (ws : List Answered) (a b c : ℕ) → lines_from s 1 ws ++ end_with a b c ≡ run_text z.scans us
    → Alike ws us × (end_with a b c ≡ end_line ws)
unfolding run_text
one-text z {us} n s ws a b c e =
    let r = sym (run-read s ws a b c) ∙ ap (reading begin) e ∙ run-read z.scans us (length us) (ok_count us) (refused_count us) in
    let v : Alike ws us = record { same = same-verdicts z n ws (ap (λ (x : Reading). x.marks) r) } in
    (v, ap (λ (x : Reading). x.last) r ∙ sym (end_same v))
