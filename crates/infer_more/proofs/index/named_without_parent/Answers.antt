use Rattle.infer_more.proofs.Common.{refl, archives, code, further, headers, images, late, markup, media, packages, records, disks, elements, games, kinds, office, others, packed, papers, pictures, rasters, roots, sounds, stores, scripts, documents, secrets, openings, prefaces, bitmaps, shapes, chunks, tunes, squeezed, bundles, volumes, assorted, databases, science, measures, prints, compiled, keyrings, consoles, shallow, schemas, dialects, notations, unheaded, mended, remarks, captions, headlines, inner, deeper, farther, buried, letters, settings, scores, objects, texts}
use Rattle.infer_more.proofs.FoundLemmas.{each_by_name}
use Rattle.infer_more.specs.Index.{name_texts}
use Rattle.infer_more.proofs.index.named_without_parent.Goals as goal

pub returns : goal.returns
unfolding name_texts further archives code headers images late markup media packages records disks elements games kinds office others packed papers pictures rasters roots sounds stores scripts documents secrets openings prefaces bitmaps shapes chunks tunes squeezed bundles volumes assorted databases science measures prints compiled keyrings consoles shallow schemas dialects notations unheaded mended remarks captions headlines inner deeper farther buried letters settings scores objects texts
returns c =
    each_by_name _ refl refl refl
