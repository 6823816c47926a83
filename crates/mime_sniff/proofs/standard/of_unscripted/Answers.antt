use Rattle.mime_sniff.proofs.StandardLemmas.{from_archives, from_images, from_media, from_text, from_texts}
use Rattle.mime_sniff.proofs.standard.of_unscripted.Goals as goal

pub returns-in-Some : goal.returns-in-Some
returns-in-Some c = from_texts c.args.header.now c.in-Some.found.now c.in-Some.ensures

pub returns-in-Some-of_images : goal.returns-in-Some-of_images
returns-in-Some-of_images c = from_images c.args.header.now c.in_default.ensures c.in-Some-of_images.found.now c.in-Some-of_images.ensures

pub returns-in-Some-of_media : goal.returns-in-Some-of_media
returns-in-Some-of_media c =
    from_media c.args.header.now c.in_default.ensures c.in_default-of_images.ensures c.in-Some-of_media.found.now c.in-Some-of_media.ensures

pub returns-in-Some-of_archives : goal.returns-in-Some-of_archives
returns-in-Some-of_archives c =
    from_archives c.args.header.now c.in_default.ensures c.in_default-of_images.ensures c.in_default-of_media.ensures
    c.in-Some-of_archives.found.now c.in-Some-of_archives.ensures

pub returns : goal.returns
returns c =
    from_text c.args.header.now c.in_default.ensures c.in_default-of_images.ensures c.in_default-of_media.ensures _ c.in_default-of_archives.ensures
    c.of_text.ensures
