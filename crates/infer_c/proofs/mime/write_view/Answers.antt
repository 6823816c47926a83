use Rattle.std.proofs.Common.{◌≡◌, arith, length, min, replicate, subst, take}
use Rattle.mime_types.specs.Seen.{mime_of}
use Rattle.infer_c.specs.Mime.{IsTextOf}
use Rattle.infer_c.proofs.MimeLemmas.{written_whole}
use Rattle.infer_c.proofs.mime.write_view.Goals as goal

pub returns-in-Ok : goal.returns-in-Ok
returns-in-Ok c =
    let room = c.write.new.out in
    let size : length room ≡ 4095 = omega arith in
    let end : min c.in-Ok.end 4095 ≡ c.min.result = omega arith in
    let is = written_whole c.args.view.now.tail.now (mime_of c.args.view.now) (replicate 4095 0) room c.in-Ok.end size c.in-Ok.ensures in
    (take c.min.result room, subst (λ n. IsTextOf c.args.view.now.tail.now (mime_of c.args.view.now) (take n room)) end is, c.write_bytes.ensures.length, c.write_bytes.ensures.written)
