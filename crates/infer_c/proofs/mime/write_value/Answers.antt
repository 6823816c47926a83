use Rattle.std.proofs.Common.{◌≡◌, arith, length, min, replicate, subst, take}
use Rattle.mime_types.specs.Seen.{value_seen}
use Rattle.infer_c.specs.Mime.{IsWithRoom}
use Rattle.infer_c.proofs.MimeLemmas.{wrote_whole}
use Rattle.infer_c.proofs.mime.write_value.Goals as goal

pub returns-in-Some : goal.returns-in-Some
returns-in-Some c =
    let room = c.write.new.out in
    let size : length room ≡ 4095 = omega arith in
    let end : min c.in-Some.end 4095 ≡ c.min.result = omega arith in
    let is = wrote_whole (replicate 4095 0) room (value_seen c.args.value.now) c.in-Some.end size c.in-Some.ensures in
    (take c.min.result room, subst (λ n. IsWithRoom (value_seen c.args.value.now) (take n room)) end is, c.write_bytes.ensures.length, c.write_bytes.ensures.written)
