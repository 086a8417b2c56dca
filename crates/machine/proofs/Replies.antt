-- What a reply tells of the call: its number is the first refusal's, or 0; and then whether the set is accepted, the set to send, and the record that is left.
use mathlib.Core.Path.{◌≡◌, refl, sym, ap, ◌∙◌}
use mathlib.Core.Bool.{Bool, true, false, not}
use Prim.Native.Nat.{ℕ}
use lib.Dec.{eqb}
use borrow.Author.Tests.{eqb-true, ne_eqb, not-true}
use Rattle.choice.specs.Refusals.{number}
use Rattle.choice.specs.declared.refusals.Refusal.{Refusal}
use Rattle.choice.proofs.RefusalLaws.{number-some}
use Rattle.choice.proofs.Tests.{if-ind}
use Rattle.sets.specs.Scans.{empty}
use Rattle.sets.specs.declared.scans.Scans.{Scans}
use Rattle.model.specs.Rules.{accepts, accepting, gaining, answering}
use Rattle.model.specs.declared.Acceptor.{Acceptor}
use Rattle.machine.specs.declared.acceptors.Reply.{Reply}
use Rattle.machine.specs.declared.acceptors.Reply.TheVariants.{Accepted, Rejected}
use Rattle.std.specs.Prelude.{Result, Ok, Err}
use Rattle.machine.specs.Acceptors.{reply_no, answering_no, replying, reply_to, record_after}

abbrev is_refusal : Result Reply ℕ → Bool
is_refusal (Ok (Accepted v)) = false
is_refusal (Ok (Rejected v)) = false
is_refusal (Err n) = true

abbrev is_accepted : Result Reply ℕ → Bool
is_accepted (Ok (Accepted v)) = true
is_accepted (Ok (Rejected v)) = false
is_accepted (Err n) = false

abbrev set_of : Result Reply ℕ → Scans
set_of (Ok (Accepted v)) = v
set_of (Ok (Rejected v)) = v
set_of (Err n) = empty

module _ (s : ℕ) (q : Acceptor) (v : Scans) where
  -- of every reply, what holds of a proposal that is answered and of a refusal
  by_number : (Q : Result Reply ℕ → Type 0) → (eqb (answering_no s q v) 0 ≡ true → Q (Ok (replying q v))) → (eqb (answering_no s q v) 0 ≡ false → Q (Err (answering_no s q v))) → Q (reply_to s q v)
  unfolding reply_to
  by_number Q f g = if-ind Q (eqb (answering_no s q v) 0) (Ok (replying q v)) (Err (answering_no s q v)) f g

  -- of one that is answered, what holds where it is accepted and where it is rejected
  by-rule : (Q : Reply → Type 0) → (accepts q v ≡ true → Q (Accepted v)) → (accepts q v ≡ false → Q (Rejected (gaining q v).accepted)) → Q (replying q v)
  by-rule Q f g = if-ind Q (accepts q v) (Accepted v) (Rejected (gaining q v).accepted) f g

  pub reply-number : reply_no (reply_to s q v) ≡ answering_no s q v
  reply-number =
      by_number (λ r. reply_no r ≡ answering_no s q v) (λ e. by-rule (λ r. reply_no (Ok r) ≡ 0) (λ f. refl) (λ f. refl) ∙ sym (eqb-true (answering_no s q v) 0 e)) (λ e. refl)

  -- a reply that is a refusal has a number other than 0
  refusal-number : is_refusal (reply_to s q v) ≡ not (eqb (answering_no s q v) 0)
  refusal-number =
      by_number (λ r. is_refusal r ≡ not (eqb (answering_no s q v) 0)) (λ e. rw e (by-rule (λ r. is_refusal (Ok r) ≡ false) (λ f. refl) (λ f. refl))) (λ e. rw e refl)

  pub told-refused : {r : Result Reply ℕ} {n : ℕ} → r ≡ reply_to s q v → r ≡ Err n → (answering_no s q v ≡ n) × (eqb n 0 ≡ false)
  told-refused {n = n} e f =
      let g : answering_no s q v ≡ n = sym reply-number ∙ ap reply_no (sym e ∙ f) in
      (g, ap (λ (m : ℕ). eqb m 0) (sym g) ∙ not-true (eqb (answering_no s q v) 0) (sym refusal-number ∙ ap is_refusal (sym e ∙ f)))

  -- where nothing is refused
  module _ (z : answering_no s q v ≡ 0) where
    pub replied : reply_to s q v ≡ Ok (replying q v)
    unfolding reply_to
    replied = rw z refl

    accepted-told : is_accepted (reply_to s q v) ≡ accepts q v
    accepted-told = ap is_accepted replied ∙ by-rule (λ r. is_accepted (Ok r) ≡ accepts q v) (λ f. sym f) (λ f. sym f)

    set_told : set_of (reply_to s q v) ≡ (answering q v).accepted
    unfolding answering accepting
    set_told = ap set_of replied ∙ by-rule (λ r. set_of (Ok r) ≡ (answering q v).accepted) (λ f. rw f refl) (λ f. rw f refl)

    pub record-left : record_after s q v ≡ answering q v
    unfolding record_after
    record-left = rw z refl

  -- a refusal is told, and leaves the record
  module _ (r : Refusal) (h : number r ≡ answering_no s q v) where
    refused : eqb (answering_no s q v) 0 ≡ false
    refused = ap (λ (n : ℕ). eqb n 0) (sym h) ∙ ne_eqb (number r) 0 (number-some r)

    pub refusal-told : Err (number r) ≡ reply_to s q v
    unfolding reply_to
    refusal-told = ap Err h ∙ rw refused refl

    pub record-stays : q ≡ record_after s q v
    unfolding record_after
    record-stays = rw refused refl

  pub told-accepted : {r : Result Reply ℕ} {w : Scans} → r ≡ reply_to s q v → r ≡ Ok (Accepted w)
      → (answering_no s q v ≡ 0) × (accepts q v ≡ true) × (w ≡ (answering q v).accepted)
  told-accepted e f =
      let g = sym e ∙ f in
      let z : answering_no s q v ≡ 0 = sym reply-number ∙ ap reply_no g in
      (z, sym (accepted-told z) ∙ ap is_accepted g, ap set_of (sym g) ∙ set_told z)

  pub told-rejected : {r : Result Reply ℕ} {w : Scans} → r ≡ reply_to s q v → r ≡ Ok (Rejected w)
      → (answering_no s q v ≡ 0) × (accepts q v ≡ false) × (w ≡ (answering q v).accepted)
  told-rejected e f =
      let g = sym e ∙ f in
      let z : answering_no s q v ≡ 0 = sym reply-number ∙ ap reply_no g in
      (z, sym (accepted-told z) ∙ ap is_accepted g, ap set_of (sym g) ∙ set_told z)
