-- `text::put_first` meets its contract. Assumes nothing.
use Rattle.text.proofs.Putting.{put_next, put_last}
use native.Mathlib.Omega.{arith}
use Rattle.text.proofs.put_first.Goals as goal

pub loop-i-preserved : goal.loop-i-preserved
loop-i-preserved c = let l = c.loop-i in put_next c.args.room.now c.args.word.now l.room l.i (omega arith) l.invariant

pub returns : goal.returns
returns c = let l = c.loop-i in put_last c.args.room.now c.args.word.now l.room l.i (omega arith) l.invariant
