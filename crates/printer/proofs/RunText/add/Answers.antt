-- `add` of a run meets its contract. Assumes nothing.
use Rattle.std.proofs.Common.{◌≡◌, ap, ◌∙◌, sym, ◌+◌, eqb, arith}
use mir.Val.{bool_byte}
use Rattle.model.specs.Step.{answer_no}
use Rattle.machine.specs.Log.{answers_in}
use Rattle.printer.specs.Text.{ok_count}
use Rattle.printer.proofs.Events.{no-lines, no-ok, lines-more, ok-more, ok-most, run-text}
use Rattle.printer.proofs.RunText.add.Given as given
use Rattle.printer.proofs.RunText.add.Goals as goal

-- the count after an event more
count : (g : given.Over) (c : goal.After-is_ok g) → c.loop-k.ok + bool_byte c.is_ok.result ≡ ok_count (answers_in c.args.self.now.log.now (c.loop-k.k + 1))
count g c =
    let log = c.args.self.now.log.now in
    let k = c.loop-k.k in
    ap (λ n. n + bool_byte c.is_ok.result) c.loop-k.invariant.1
    ∙ ap (λ b. ok_count (answers_in log k) + bool_byte b) (c.is_ok.ensures ∙ ap (λ w. eqb (answer_no w) 0) c.answer_at-answer.ensures)
    ∙ sym (ok-more log k)

pub loop-k-init : goal.loop-k-init
loop-k-init g c = let a = c.args.self.now in
    (rw (no-lines a.log.now a.scans) (g.met.S.Sink.none c.args.to.now), sym (no-ok a.log.now))

pub overflow_add-ok : goal.overflow_add-ok
overflow_add-ok g c =
    let a = c.args.self.now in
    omega (arith, count g c, ok-most a.log.now (c.loop-k.k + 1), c.loop-k.auto.k-end, c.loop-k-test.true, c.fits-self)

pub loop-k-preserved : goal.loop-k-preserved
loop-k-preserved g c =
    let a = c.args.self.now in
    let l = c.loop-k in
    let line = rw c.answer_at-answer.ensures at c.add_lines.ensures in
    (rw (lines-more a.log.now l.k a.scans) (g.met.S.Sink.joined _ _ _ _ _ l.invariant.0 line), count g c)

pub overflow_sub-self : goal.overflow_sub-self
overflow_sub-self g c = omega (arith, c.loop-k.invariant.1, ok-most c.args.self.now.log.now c.loop-k.k, c.loop-k.auto.k-end)

pub returns : goal.returns
returns g c =
    let a = c.args.self.now in
    let l = c.loop-k in
    let all : l.k ≡ a.events = omega (arith, l.auto.k-end, c.loop-k-test.false) in
    rw (run-text a.scans a.log.now a.events (l.invariant.1 ∙ ap (λ k. ok_count (answers_in a.log.now k)) all))
    (g.met.S.Sink.joined _ _ _ _ _ (rw all at l.invariant.0) c.add_end_line.ensures)
