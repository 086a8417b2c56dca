-- What was seen and told before the last call is of the same run.
use mathlib.Core.Path.{◌≡◌, refl, sym, ap, ◌∙◌}
use mathlib.Core.Bool.{Bool, true, false}
use mathlib.Core.List.{List, [], ◌∷◌, ◌++◌, append_assoc, append-nil}
use Prim.Native.Nat.{ℕ, ◌+◌}
use native.Mathlib.Omega.{arith}
use lib.Dec.{eqb}
use lib.ListN.{length, get_or, take, drop}
use lib.Seq.{take_at, drop_at, get_or-drop, take-append_seam}
use Rattle.std.specs.Prelude.{if◌then◌else◌, Ok}
use Rattle.sizes.specs.declared.Sizes.{Sizes}
use Rattle.model.specs.Records.{State, fresh}
use Rattle.model.specs.Step.{Answered, step, run, answers}
use Rattle.model.specs.Safety.{moment}
use Rattle.model.specs.declared.Event.{Event}
use Rattle.model.specs.declared.Answer.TheVariants.{Done}
use Rattle.model.proofs.Moments.{last}
use Rattle.machine.specs.Log.{said, logged}
use Rattle.machine.specs.Calls.{events_in, run_no, StepCall, RunCall}
use Rattle.machine.specs.Histories.{done_by, History}
use Rattle.machine.proofs.RunLaws.{length-answers}
use Rattle.machine.proofs.Histories.{calls-safe}
use Rattle.tight.specs.Moments.{GoesOn, here, stepped, ran, Recalls}

-- ---- the events done before are the first of those done in all

record Begins (es fs : List Event) : Type 0 where
  later : List Event
  whole : fs ≡ es ++ later

begins-on : {es fs : List Event} (gs : List Event) → Begins es fs → Begins es (fs ++ gs)
begins-on {es} gs b = record { later = b.later ++ gs; whole = ap (λ (l : List Event). l ++ gs) b.whole ∙ append_assoc es b.later gs }

begins : {z : Sizes} {es : List Event} {s : State} {fs : List Event} {t : State} → GoesOn z es s fs t → Begins es fs
begins {es} here = record { later = []; whole = sym (append-nil es) }
begins (stepped fs t u e r g c) = begins-on (e ∷ []) (begins g)
begins (ran fs t u ns n log log' r g c) = begins-on (done_by r ns n) (begins g)

-- ---- the answers of a run in two parts

answers-on : (z : Sizes) (s : State) (es fs : List Event) → answers z s (es ++ fs) ≡ answers z s es ++ answers z (run z s es) fs
unfolding answers run
answers-on z s [] fs = refl
answers-on z s (e ∷ es) fs = ap (λ (l : List Answered). (step z s e).answer ∷ l) (answers-on z (step z s e).state es fs)

-- a refused run did no event and logged nothing
log-by : (z : Sizes) (s : State) (ns : List ℕ) (n : ℕ) (log : List ℕ) (b : Bool)
    → (if b then logged (answers z s (events_in ns n)) log else log) ≡ logged (answers z s (if b then events_in ns n else [])) log
unfolding answers said
log-by z s ns n log true = refl
log-by z s ns n log false = refl

module _ (z : Sizes) (es : List Event) (s : State) (h : History z es s) where
  -- the records are those that the events leave
  now-run : s ≡ run z (fresh z) es
  now-run = (calls-safe z es s h).records ∙ last z es

  answers-after : (fs : List Event) → drop (length es) (answers z (fresh z) (es ++ fs)) ≡ answers z s fs
  answers-after fs =
      ap (drop (length es)) (answers-on z (fresh z) es fs)
      ∙ drop_at (answers z (fresh z) es) (answers z (run z (fresh z) es) fs) (length es) (length-answers z (fresh z) es)
      ∙ ap (λ (t : State). answers z t fs) (sym now-run)

  -- what is answered from here on, to the events ds and to what follows
  answers-then : (ds : List Event) {u : State} {fs : List Event} {t : State} (g : GoesOn z (es ++ ds) u fs t)
      → drop (length es) (answers z (fresh z) fs) ≡ answers z s ds ++ answers z (run z s ds) (begins g).later
  answers-then ds g =
      ap (λ (l : List Event). drop (length es) (answers z (fresh z) l)) ((begins g).whole ∙ append_assoc es ds (begins g).later)
      ∙ answers-after (ds ++ (begins g).later)
      ∙ answers-on z s ds (begins g).later

  seen-then : {fs : List Event} {t : State} → GoesOn z es s fs t → s ≡ moment z fs (length es)
  unfolding moment
  seen-then g = now-run ∙ ap (run z (fresh z)) (sym (ap (take (length es)) (begins g).whole ∙ take-append_seam es (begins g).later))

  told-then : (e : Event) (r : Answered) (u : State) → StepCall z s e r u → {fs : List Event} {t : State} → GoesOn z (es ++ (e ∷ [])) u fs t
      → get_or (answers z (fresh z) fs) (length es) (Ok Done) ≡ r
  unfolding answers
  told-then e r u c {fs} g =
      let at : length es + 0 ≡ length es = omega arith in
      let ws = answers z (fresh z) fs in
      ap (λ (n : ℕ). get_or ws n (Ok Done)) (sym at)
      ∙ sym (get_or-drop (length es) ws 0 (Ok Done))
      ∙ ap (λ (l : List Answered). get_or l 0 (Ok Done)) (answers-then (e ∷ []) g)
      ∙ sym c.0

  logged_then : (ns : List ℕ) (n : ℕ) (log log' : List ℕ) (r : ℕ) (u : State) → RunCall z s ns n log r u log'
      → {fs : List Event} {t : State} → GoesOn z (es ++ done_by r ns n) u fs t
      → log' ≡ logged (take (length (done_by r ns n)) (drop (length es) (answers z (fresh z) fs))) log
  logged_then ns n log log' r u c g =
      let ds = done_by r ns n in
      c.1.1
      ∙ log-by z s ns n log (eqb (run_no z s ns n log) 0)
      ∙ ap (λ (k : ℕ). logged (answers z s (done_by k ns n)) log) (sym c.0)
      ∙ ap (λ (ws : List Answered). logged ws log)
      (sym (ap (take (length ds)) (answers-then ds g) ∙ take_at (answers z s ds) (answers z (run z s ds) (begins g).later) (length ds) (length-answers z s ds)))

pub calls-recall : (z : Sizes) (es : List Event) (s : State) → History z es s → Recalls z es s
calls-recall z es s h = record { records = seen-then z es s h; answer = told-then z es s h; log = logged_then z es s h }
