use Rattle.layouts.proofs.Parts.{put-fields}
use Rattle.layouts.proofs.proposers.put_proposer.Goals as goal

pub returns : goal.returns
returns c = put-fields c.args.kept.now c.args.p c.put_flag.ensures c.put_flag-2.ensures c.put_set.ensures c.put_set-2.ensures c.put_set-3.ensures c.put_number.ensures c.put_acceptors.ensures c.put_acceptors-2.ensures c.put_set-4.ensures
