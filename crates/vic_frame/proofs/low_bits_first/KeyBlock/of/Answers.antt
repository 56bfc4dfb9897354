use Rattle.vic_frame.proofs.Words.{◌∙◌, sym}
use Rattle.vic_frame.proofs.MirrorLaws.{block_of}
use Rattle.vic_frame.proofs.low_bits_first.KeyBlock.of.Goals as goal

pub invariant_of-result : goal.invariant_of-result
invariant_of-result c =
    let told = c.in-Some.ensures.short in
    record { block = (block_of c.in-Some.low c.first_key.result c.len.result told.0 told.1 c.first_key.ensures c.len.ensures.value).0 }

pub returns-in-Some : goal.returns-in-Some
returns-in-Some c u w =
    let told = c.in-Some.ensures.short in
    sym (c.in-Some.ensures.same u w) ∙ (block_of c.in-Some.low c.first_key.result c.len.result told.0 told.1 c.first_key.ensures c.len.ensures.value).1 u
