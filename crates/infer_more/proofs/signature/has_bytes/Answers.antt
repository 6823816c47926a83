use Rattle.infer_more.proofs.Common.{IsTrue, is_inside, length, list_all, map, part_listed, subst, sym}
use Rattle.infer_more.specs.Listed.{pieces_of}
use Rattle.infer_more.proofs.PieceLemmas.{all_inside_more}
use Rattle.infer_more.proofs.signature.has_bytes.Goals as goal

pub has_every-requires : goal.has_every-requires
has_every-requires c =
    subst (λ pieces. IsTrue (list_all (is_inside (length c.args.buf.now)) (map part_listed pieces))) (sym c.pieces_of.ensures)
    (all_inside_more c.args.bytes.now.least (length c.args.buf.now) c.if-bytes-buf.true (map part_listed (pieces_of c.args.bytes.now)) c.requires)
