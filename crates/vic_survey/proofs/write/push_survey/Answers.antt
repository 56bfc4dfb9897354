use Rattle.vic_survey.proofs.Words.{◌≡◌, ◌∙◌, codes, decimal, ◌+◌, ◌++◌, length, hex_bytes, joined, lines_before, ap, ap₂, on_ok_weaker, crc}
use Rattle.vic_survey.proofs.Joined.{seal_joined, behind_text}
use Rattle.vic_survey.proofs.write.push_survey.Goals as goal

pub returns : goal.returns
returns c =
    let L = lines_before c.args.survey.now in
    let counted : c.in_ok-count.count + 1 ≡ length L + 1 = ap (λ n. n + 1) c.in_ok-count.ensures.count in
    let crc_is : c.crc-crc.result ≡ crc (joined L) = c.crc-crc.ensures ∙ ap crc (behind_text c.args.text.now.items (joined L) c.deref.result.now (length c.as_slice-start.result.now) (c.deref.ensures.value ∙ c.in_ok-count.ensures.text) (ap length c.as_slice-start.ensures.value)) in
    on_ok_weaker c.push_seal.result (λ e. seal_joined c.args.text.now.items _ L c.in_ok-count.ensures.text e (ap₂ (λ n k. codes "end " ++ decimal n ++ codes " " ++ hex_bytes 2 k) counted crc_is)) c.push_seal.ensures
