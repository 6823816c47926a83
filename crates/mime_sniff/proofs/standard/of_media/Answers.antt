use Rattle.mime_sniff.proofs.StandardLemmas.{by_mp3, by_mp4, by_no_media, by_sounds, by_webm}
use Rattle.mime_sniff.proofs.standard.of_media.Goals as goal

pub returns-in-Some : goal.returns-in-Some
returns-in-Some c = by_sounds c.args.header.now c.in-Some.found.now c.in-Some.ensures

pub returns-then-is_mp4_of_any_box : goal.returns-then-is_mp4_of_any_box
returns-then-is_mp4_of_any_box c = by_mp4 c.args.header.now c.in_default.ensures (c.is_mp4_of_any_box.ensures.0 c.if-is_mp4_of_any_box.true)

pub returns-then-is_webm : goal.returns-then-is_webm
returns-then-is_webm c =
    by_webm c.args.header.now c.in_default.ensures (λ is. let t = c.is_mp4_of_any_box.ensures.1 is in cc) (c.is_webm.ensures.0 c.if-is_webm.true)

pub returns-then-is_mp3 : goal.returns-then-is_mp3
returns-then-is_mp3 c =
    by_mp3 c.args.header.now c.in_default.ensures (λ is. let t = c.is_mp4_of_any_box.ensures.1 is in cc) (λ is. let t = c.is_webm.ensures.1 is in cc)
    (c.is_mp3.ensures.0 c.if-is_mp3.true)

pub returns : goal.returns
returns c =
    by_no_media c.args.header.now c.in_default.ensures (λ is. let t = c.is_mp4_of_any_box.ensures.1 is in cc) (λ is. let t = c.is_webm.ensures.1 is in cc)
    (λ is. let t = c.is_mp3.ensures.1 is in cc)
