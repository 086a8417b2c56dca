-- What hearing an acknowledgement gives, and what it leaves in the record and in the mark, by the tests that are passed.
use mathlib.Core.Bool.{Bool, true, false}
use mathlib.Core.List.{List}
use mathlib.Core.Logic.{◌⊎◌, ⊎_elim}
use mathlib.Core.Path.{◌≡◌, sym, ap, ◌∙◌}
use Prim.Native.Nat.{ℕ, ◌<◌}
use lib.Dec.{ltb}
use lib.ListN.{set}
use lib.Seq.{sets}
use mir.Val.{bool_byte}
use borrow.Author.Tests.{ltb-true}
use Rattle.std.specs.Prelude.{if◌then◌else◌}
use Rattle.sets.specs.declared.scans.Scans.{Scans}
use Rattle.model.specs.Records.{heard_of}
use Rattle.model.specs.Rules.{hearing, teaches, learns, newly_heard, listening}
use Rattle.model.specs.Table.{Announcement}
use Rattle.model.specs.declared.Heard.{Heard}
use Rattle.model.specs.declared.Message.{Message}
use Rattle.layouts.specs.Layout.{set_at, flag_at, flagged, is_set, is_answer, heard_place, heard_at, heard_bytes, is_learner, learner_at, learner_bytes}
use Rattle.layouts.proofs.Parts.{flag-byte, learner-sizes, few-proposers}
use Rattle.layouts.proofs.LayoutLaws.{AreBytes, place_read, place-put, flagged-put}
use Rattle.yazhmandu.specs.Calls.{hear_no, hear_record, hear_learns}

-- ---- what hearing leaves in a learner's record, by the place of the message's proposer

module _ (p a s : ℕ) (kept : List ℕ) (b : AreBytes kept) (e : is_learner p a s kept ≡ true) (m : Message) (below : m.proposer.0 < p) where
  held-so : heard_at kept (heard_place m.proposer.0) ≡ heard_of (learner_at p kept) m.proposer.0
  held-so = sym (place_read p kept m.proposer.0 (few-proposers p a s (learner-sizes p a s kept e)) below)

  learns-so : teaches a (set_at kept 1) (heard_at kept (heard_place m.proposer.0)) m ≡ learns a (learner_at p kept) m
  unfolding learns learner_at
  learns-so = λ j. teaches a (set_at kept 1) (held-so j) m

  module _ {new : Heard} (n : new ≡ hearing (heard_at kept (heard_place m.proposer.0)) m) where
    new-so : new ≡ newly_heard (learner_at p kept) m
    new-so = n ∙ λ j. hearing (held-so j) m

    -- what was learnt stays
    left-unlearnt : learns a (learner_at p kept) m ≡ false → sets kept (heard_place m.proposer.0) (heard_bytes new) ≡ learner_bytes p (listening a (learner_at p kept) m)
    unfolding listening
    left-unlearnt t = place-put kept b p a s e m.proposer.0 new below ∙ rw (t, new-so)

    -- what is then held of the proposer is learnt
    left-learnt : learns a (learner_at p kept) m ≡ true → (learner_at p kept).alive ≡ true
        → sets (sets kept (heard_place m.proposer.0) (heard_bytes new)) 0 (flagged true new.set) ≡ learner_bytes p (listening a (learner_at p kept) m)
    unfolding listening
    left-learnt t l =
        ap (λ (k : List ℕ). sets k 0 (flagged true new.set)) (place-put kept b p a s e m.proposer.0 new below)
        ∙ flagged-put p (record { alive = (learner_at p kept).alive; learnt = (learner_at p kept).learnt; heard = set (learner_at p kept).heard m.proposer.0 new }) true new.set
        ∙ rw (t, l, new-so)

-- ---- what it gives

module _ (p a s : ℕ) (kept : List ℕ) (proposer acceptor number : ℕ) (set : List ℕ) where
  -- what is known where all tests are passed, of the set that is sent too
  abbrev pub Passed : Scans → Type 0
  Passed told =
      (is_learner p a s kept ≡ true)
      × (ltb proposer p ≡ true)
      × (is_answer a acceptor number ≡ true)
      × (is_set s set ≡ true)
      × (flag_at kept 0 ≡ true)
      × (told ≡ set_at set 0)

  module _ (old : ℕ) where
    -- hearing gives 0, and leaves the record b and the mark m
    abbrev pub Hears : List ℕ → ℕ → Type 0
    Hears b m =
        (0 ≡ hear_no p a s kept proposer acceptor number set)
        × (b ≡ hear_record p a s kept proposer acceptor number set)
        × (m ≡ hear_learns p a s kept proposer acceptor number set old)

    -- the place of the proposer is put, and where the learner learns, what it learnt
    pub hears : AreBytes kept → {t : Bool} {held new : Heard} {told learnt : Scans} {b : List ℕ} → Passed told
        → held ≡ heard_at kept (heard_place proposer)
        → new ≡ hearing held (Announcement proposer acceptor number told 0)
        → learnt ≡ set_at kept 1
        → t ≡ teaches a learnt held (Announcement proposer acceptor number told 0)
        → ((t ≡ false) × (b ≡ sets kept (heard_place proposer) (heard_bytes new))) ⊎ ((t ≡ true) × (b ≡ sets (sets kept (heard_place proposer) (heard_bytes new)) 0 (flagged true new.set)))
        → Hears b (bool_byte t)
    unfolding hear_no hear_record hear_learns learner_at
    hears bs {t = t} (e, f, g, h, l, v) o n w m q =
        let m₀ = Announcement proposer acceptor number (set_at set 0) 0 in
        let below = ltb-true proposer p f in
        let n₀ = n ∙ λ j. hearing (o j) (Announcement proposer acceptor number (v j) 0) in
        let t₀ = m ∙ (λ j. teaches a (w j) (o j) (Announcement proposer acceptor number (v j) 0)) ∙ learns-so p a s kept bs e m₀ below in
        let z : hear_no p a s kept proposer acceptor number set ≡ 0 = rw (e, f, g, h, l) in
        let r = ⊎_elim (λ k. k.1 ∙ left-unlearnt p a s kept bs e m₀ below n₀ (sym t₀ ∙ k.0)) (λ k. k.1 ∙ left-learnt p a s kept bs e m₀ below n₀ (sym t₀ ∙ k.0) l) q in
        (sym z, rw z r, rw z (flag-byte t ∙ ap (λ (x : Bool). if x then 1 else 0) t₀))
