use Rattle.infer_more.proofs.Common.{refl, archives, code, further, headers, images, late, markup, media, packages, records, disks, elements, games, kinds, office, others, packed, papers, pictures, rasters, roots, sounds, stores, scripts, documents, secrets, openings, prefaces, bitmaps, shapes, chunks, tunes, squeezed, bundles, volumes, assorted, databases, science, measures, prints, compiled, keyrings, consoles, shallow, schemas, dialects, notations, unheaded, mended, remarks, captions, headlines, inner, deeper, farther, buried, letters, settings, scores, objects, texts, is_dark, is_filled}
use Rattle.infer_more.proofs.TableLemmas.{all_pass}
use Rattle.infer_more.proofs.LawLemmas.{none_is_blank}
use Rattle.infer_more.proofs.laws.blank.Goals as goal

pub returns : goal.returns
unfolding further archives code headers images late markup media packages records disks elements games kinds office others packed papers pictures rasters roots sounds stores scripts documents secrets openings prefaces bitmaps shapes chunks tunes squeezed bundles volumes assorted databases science measures prints compiled keyrings consoles shallow schemas dialects notations unheaded mended remarks captions headlines inner deeper farther buried letters settings scores objects texts
returns c =
    none_is_blank c.by_place.ensures c.leads.ensures
    (all_pass is_dark refl)
    (all_pass is_filled refl)
