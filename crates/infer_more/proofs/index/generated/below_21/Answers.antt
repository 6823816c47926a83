-- Made by `tools/tables` from the further rows: computed of each.
use Rattle.infer_more.proofs.Common.{refl}
use Rattle.infer_more.proofs.Common.{archives, assorted, bitmaps, bundles, buried, captions, chunks, code, compiled, consoles, databases, deeper, dialects, disks, documents, elements, farther, further, games, headers, headlines, images, inner, keyrings, kinds, late, letters, markup, measures, media, mended, notations, objects, office, openings, others, packages, packed, papers, pictures, prefaces, prints, rasters, records, remarks, roots, schemas, science, scores, scripts, secrets, settings, shallow, shapes, sounds, squeezed, stores, texts, tunes, unheaded, volumes}
use Rattle.infer_more.proofs.FoundLemmas.{way_below}
use Rattle.infer_more.specs.Index.{name_texts}
use Rattle.infer_more.proofs.index.generated.below_21.Goals as goal

pub returns : goal.returns
unfolding name_texts archives assorted bitmaps bundles buried captions chunks code compiled consoles databases deeper dialects disks documents elements farther further games headers headlines images inner keyrings kinds late letters markup measures media mended notations objects office openings others packages packed papers pictures prefaces prints rasters records remarks roots schemas science scores scripts secrets settings shallow shapes sounds squeezed stores texts tunes unheaded volumes
returns c = way_below 21 _ refl refl
