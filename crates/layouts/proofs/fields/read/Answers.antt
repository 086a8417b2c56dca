use Rattle.std.proofs.Common.{rules, ◌≡◌, ◌+◌, get_or, arith, ◌∙◌}
use Rattle.std.proofs.lemmas.Grind.{common_steps}
use Rattle.layouts.proofs.Words.{made_by}
use Rattle.layouts.proofs.fields.read.Goals as goal

pub returns-in-None-first_chunk : goal.returns-in-None-first_chunk
returns-in-None-first_chunk g c = λ k h. let q : get_or c.in-Some.there.now k 0 ≡ get_or c.args.bytes.now (c.args.at + k) 0 = grind (arith, common_steps) in
    made_by _ _ (λ i. get_or c.in-Some.there.now i 0) (λ i y q d. search rules) c.from_fn.result _ c.from_fn.ensures.items k h ∙ q
