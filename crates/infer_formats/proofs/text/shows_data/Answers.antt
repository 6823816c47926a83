use Rattle.infer_formats.proofs.TextLemmas.{binary_front}
use Rattle.infer_formats.proofs.text.shows_data.Goals as goal

pub returns-then-buf-ge16 : goal.returns-then-buf-ge16
returns-then-buf-ge16 c = binary_front _ _ 16 c.if-buf-ge16.true c.is_plain_piece.ensures.data
