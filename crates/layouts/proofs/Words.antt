-- How the bytes of a number are read and put.
use mathlib.Core.List.{List, [], ◌∷◌, ◌++◌}
use mathlib.Core.Path.{◌≡◌, refl, sym, ap, ◌∙◌}
use Prim.Native.Nat.{ℕ, zero, suc, ◌+◌, ◌-◌, ◌/◌, ◌%◌, ◌^◌, ◌≤◌, ◌<◌}
use native.Mathlib.Nat.{add-zero, add-suc, suc-add, zero-add, div-div-eq-div-mul, pow-suc, pow-succ'}
use native.Mathlib.Numerals.{add-one}
use native.Mathlib.Omega.{arith}
use borrow.Rule.Slice.PartMut.{put_mid}
use denote.Param.Members.{Mut, Called}
use lib.ListN.{length, get_or, set, take, drop}
use lib.Seq.{sets, sets-eq, take_all, take-suc, length-take-le}
use Rattle.std.specs.Array.{IsFromFnResultFrom, IsFromFnResult}
use Rattle.std.specs.Int.{w16, w64, byte_at, bytes_low_first, from_le_bytes}
use Rattle.std.proofs.lemmas.Slice.{put_mid-paste}
use Rattle.forms.proofs.Steps.{sets-append}
use Rattle.layouts.specs.Layout.{word_at, word_bytes}

-- n bytes make a number below 256 ^ n
pub word_small : (bytes : List ℕ) → ((k : ℕ) → get_or bytes k 0 < 256) → (n at : ℕ) → word_at n bytes at < 256 ^ n
unfolding word_at
word_small bytes h zero at = omega arith
word_small bytes h (suc n) at = rw (pow-suc 256 n) (omega (arith, word_small bytes h n (suc at), h at))

-- calls of one function gave the elements of an array
module _ {F : Type 0} (g : Mut F (ℕ × Unit {0}) ℕ) (f : F) (v : ℕ → ℕ) (same : (i y : ℕ) (q : F) → Called g f (i, tt) y q → (q ≡ f) × (y ≡ v i)) (made : List ℕ) where
  made_from : (n i : ℕ) → IsFromFnResultFrom g f made i n → (k : ℕ) → k < n → get_or made (i + k) 0 ≡ v (i + k)
  made_from zero i c k h = absurd (omega arith)
  made_from (suc n) i (q, y, e, d, more) zero h = rw add-zero (e.1 0 ∙ (same i y q d).1)
  made_from (suc n) i (q, y, e, d, more) (suc k) h =
      let p : i + suc k ≡ i + 1 + k = omega arith in
      rw p (made_from n (i + 1) (rw (same i y q d).0 at more) k (omega arith))

  pub made_by : (n : ℕ) → IsFromFnResult g f made n → (k : ℕ) → k < n → get_or made k 0 ≡ v k
  made_by n c k h = rw zero-add at (made_from n 0 c.each k h)

-- a number is made of bytes that stand elsewhere
pub word_moved : (n : ℕ) (bytes others : List ℕ) (at place : ℕ) → ((k : ℕ) → k < n → get_or others (place + k) 0 ≡ get_or bytes (at + k) 0) → word_at n others place ≡ word_at n bytes at
unfolding word_at
word_moved zero bytes others at place h = refl
word_moved (suc n) bytes others at place h =
    let first : get_or others place 0 ≡ get_or bytes at 0 = rw (add-zero place, add-zero at) at (h 0 (omega arith)) in
    let more : word_at n others (suc place) ≡ word_at n bytes (suc at) = word_moved n bytes others (suc at) (suc place) (λ k l. rw (suc-add place k, suc-add at k) (rw (add-suc place k, add-suc at k) at (h (suc k) (omega arith)))) in
    rw (first, more)

-- another byte is put
pub put_more : (bytes : List ℕ) (at : ℕ) (new : List ℕ) (i : ℕ) → i < length new → sets bytes at (take (i + 1) new) ≡ set (sets bytes at (take i new)) (at + i) (get_or new i 0)
put_more bytes at new i h =
    let long : length (take i new) ≡ i = length-take-le i new (omega arith) in
    ap (λ (n : ℕ). sets bytes at (take n new)) (add-one i)
    ∙ ap (λ (l : List ℕ). sets bytes at l) (take-suc new i 0 h)
    ∙ sets-append (take i new) (get_or new i 0 ∷ []) bytes at
    ∙ ap (λ (n : ℕ). set (sets bytes at (take i new)) (at + n) (get_or new i 0)) long

-- all bytes are put where they have room
pub put_there : (bytes : List ℕ) (at n : ℕ) (new part : List ℕ) → part ≡ new → n ≡ length new → at + n ≤ length bytes → put_mid at (at + n - at) bytes part ≡ sets bytes at new
put_there bytes at n new part e f h =
    let k : length new ≡ at + n - at = omega arith in
    put_mid-paste at (at + n - at) bytes part new (length new) e k refl
    ∙ ap (λ (l : List ℕ). take at bytes ++ l ++ drop (at + length new) bytes) (take_all (length new) new (omega arith))
    ∙ sym (sets-eq new bytes at (omega arith))

-- the library's bytes of a number, low byte first, are those of the layouts
module _ (bytes there : List ℕ) (at : ℕ) where
  two : from_le_bytes w16 there ≡ word_at 2 there 0
  unfolding word_at
  two = omega arith

  eight : from_le_bytes w64 there ≡ word_at 8 there 0
  unfolding word_at
  eight = omega arith

  pub two-read : ((k : ℕ) → k < 2 → get_or there k 0 ≡ get_or bytes (at + k) 0) → from_le_bytes w16 there ≡ word_at 2 bytes at
  two-read h = two ∙ word_moved 2 bytes there at 0 (λ k l. rw zero-add (h k l))

  pub eight-read : ((k : ℕ) → k < 8 → get_or there k 0 ≡ get_or bytes (at + k) 0) → from_le_bytes w64 there ≡ word_at 8 bytes at
  eight-read h = eight ∙ word_moved 8 bytes there at 0 (λ k l. rw zero-add (h k l))

byte-next : (i n : ℕ) → byte_at (suc i) n ≡ byte_at i (n / 256)
byte-next zero n = refl
byte-next (suc i) n = ap (λ (k : ℕ). n / k % 256) (pow-succ' 256 (suc i)) ∙ ap (λ (w : ℕ). w % 256) (sym (div-div-eq-div-mul n 256 (256 ^ suc i)))

low_first : (k i n : ℕ) → bytes_low_first (suc i) k n ≡ bytes_low_first i k (n / 256)
low_first zero i n = refl
low_first (suc k) i n = rw (byte-next i n, low_first k (suc i) n)

pub bytes-written : (k n : ℕ) → bytes_low_first 0 k n ≡ word_bytes k n
unfolding word_bytes
bytes-written zero n = refl
bytes-written (suc k) n = ap (λ (l : List ℕ). n % 256 ∷ l) (low_first k 0 n ∙ bytes-written k (n / 256))

pub length-word : (n word : ℕ) → length (word_bytes n word) ≡ n
unfolding word_bytes
length-word zero word = refl
length-word (suc n) word = ap suc (length-word n (word / 256))
