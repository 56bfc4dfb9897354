use Rattle.vic_answer.proofs.Words.{ap, ◌∙◌}
use Rattle.vic_answer.specs.FrameText.{bytes_text, bytes_status}
use Rattle.vic_answer.proofs.Decoded.{decoded_bytes}
use Rattle.vic_answer.proofs.frame.decoded.Goals as goal

pub returns : goal.returns
returns c =
    let same = decoded_bytes _ _ _ c.in-Some.ensures in
    record { text = c.of_bytes.ensures.text ∙ ap bytes_text same; status = c.of_bytes.ensures.status ∙ ap bytes_status same }
