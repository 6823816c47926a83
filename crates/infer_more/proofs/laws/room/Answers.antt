use Rattle.infer_more.proofs.Common.{refl, archives, code, further, headers, images, late, markup, media, packages, records, disks, elements, games, kinds, office, others, packed, papers, pictures, rasters, roots, sounds, stores, scripts, documents, secrets, openings, prefaces, bitmaps, shapes, chunks, tunes, squeezed, bundles, volumes, assorted, databases, science, measures, prints, compiled, keyrings, consoles, shallow, schemas, dialects, notations, unheaded, mended, remarks, captions, headlines, inner, deeper, farther, buried, letters, settings, scores, objects, texts, has_room}
use Rattle.infer.specs.Table as built_in
use Rattle.infer_more.proofs.TableLemmas.{all_pass}
use Rattle.infer_more.proofs.laws.room.Goals as goal

pub returns : goal.returns
unfolding further archives code headers images late markup media packages records disks elements games kinds office others packed papers pictures rasters roots sounds stores scripts documents secrets openings prefaces bitmaps shapes chunks tunes squeezed bundles volumes assorted databases science measures prints compiled keyrings consoles shallow schemas dialects notations unheaded mended remarks captions headlines inner deeper farther buried letters settings scores objects texts built_in.table
returns c =
    all_pass has_room refl
