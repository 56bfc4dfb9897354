use Rattle.vic_log.proofs.Words.{ap, ◌∙◌, arith, get_or-map-range_with_len, digit_or_255}
use Rattle.vic_log.proofs.decoding.digit_value.Goals as goal

pub returns : goal.returns
returns c = get_or-map-range_with_len digit_or_255 0 256 c.from.result c.from.result 0 (omega arith) (omega arith) ∙ ap digit_or_255 c.from.ensures
