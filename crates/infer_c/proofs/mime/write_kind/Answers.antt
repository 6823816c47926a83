use Rattle.std.proofs.Common.{◌≡◌, arith, length, min, replicate, subst, take}
use Rattle.mime_types.specs.Groups.{essence}
use Rattle.mime_types.specs.Seen.{kind_of}
use Rattle.infer_c.specs.Mime.{IsWithRoom}
use Rattle.infer_c.proofs.MimeLemmas.{wrote_whole}
use Rattle.infer_c.proofs.mime.write_kind.Goals as goal

pub returns-in-Some : goal.returns-in-Some
returns-in-Some c =
    let room = c.write_essence.new.out in
    let size : length room ≡ 4095 = omega arith in
    let end : min c.in-Some.end 4095 ≡ c.min.result = omega arith in
    let is = wrote_whole (replicate 4095 0) room (essence (kind_of c.args.view.now)) c.in-Some.end size c.in-Some.ensures in
    (take c.min.result room, subst (λ n. IsWithRoom (essence (kind_of c.args.view.now)) (take n room)) end is, c.write_bytes.ensures.length, c.write_bytes.ensures.written)
