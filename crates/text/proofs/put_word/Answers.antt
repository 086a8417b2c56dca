-- `text::put_word` meets its contract. Assumes nothing.
use Rattle.std.proofs.Common.{refl}
use Rattle.text.proofs.Putting.{put}
use Rattle.text.proofs.put_word.Goals as goal

pub returns : goal.returns
returns c = let a = c.args in
    rw c.put_first.ensures (put a.buffer.now a.word.now a.at c.min-start.result _ c.min-start.ensures refl)
