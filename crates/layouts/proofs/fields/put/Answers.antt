use mathlib.Core.Path.{sym}
use native.Mathlib.Omega.{arith}
use Rattle.layouts.proofs.Words.{put_more, put_there}
use Rattle.layouts.proofs.fields.put.Goals as goal

pub returns-then-from-bytes : goal.returns-then-from-bytes
returns-then-from-bytes g c = let a = c.args in
    put_there a.bytes.now a.at g.row.N a.field.now c.copy_from_slice.new.self c.copy_from_slice.ensures.after (sym c.told-field) c.if-from-bytes.true

pub loop-i-preserved : goal.loop-i-preserved
loop-i-preserved g c = let m = put_more c.args.bytes.now c.args.at c.args.field.now c.loop-i.i (omega arith) in cc
