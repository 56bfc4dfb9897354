use Rattle.vicinity_c.proofs.Words.{◌≡◌, ℕ, List, [], ◌∷◌, ◌++◌, ◌/◌, ◌%◌, ap, ◌∙◌, arith, bytes_of, with_crc}
use Rattle.vicinity_c.specs.Frames.{framed}
use Rattle.vicinity_c.proofs.CrcBytes.{pushed_twice}
use Rattle.vicinity_c.proofs.frames.with_crc.Goals as goal

pub returns : goal.returns
returns c =
    let bytes : List ℕ = c.args.bytes.now in
    let code : ℕ = c.crc-code.result in
    let given = c.in-Ok.ensures.ok ∙ ap (λ (xs : List ℕ). xs ++ bytes) c.new-frame.ensures in
    let first = c.push.ensures.items ∙ ap (λ (xs : List ℕ). xs ++ code % 256 ∷ []) given in
    let second = c.push-2.ensures.items ∙ ap (λ (xs : List ℕ). xs ++ code / 256 ∷ []) first in
    let whole : c.as_slice.result.now ≡ with_crc bytes =
    c.as_slice.ensures.value ∙ second ∙ pushed_twice bytes code (omega arith) ∙ ap (λ (n : ℕ). bytes ++ bytes_of 2 n) c.crc-code.ensures in
    c.framed.ensures ∙ ap framed whole
