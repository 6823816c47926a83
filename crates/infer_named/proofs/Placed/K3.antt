-- Made by `tools/tables` from names.txt: each key of slots 192 to 255 stands in its slot, and none is wrong: if one is, its
-- text stands in the error.
use Rattle.std.proofs.Common.{◌≡◌, [], length, refl}
use Rattle.infer.specs.Table.{table}
use Rattle.infer_more.specs.Table.{packages, headers, markup, code, records, archives, images, media, late, office, kinds, roots, elements, pictures, rasters, sounds, packed, disks, papers, stores, games, others, scripts, documents, secrets, bitmaps, shapes, chunks, tunes, squeezed, bundles, volumes, assorted, databases, science, measures, prints, compiled, keyrings, consoles, shallow, schemas, dialects, notations, unheaded, mended, openings, prefaces, remarks, captions, headlines, letters, settings, scores, objects, inner, deeper, farther, buried, texts, further}
use Rattle.infer_more.specs.Wider.{shown}
use Rattle.infer_named.proofs.FindLemmas.{wrong_from}
use Rattle.infer_named.specs.Keys.K3.{keys}
use Rattle.infer_named.specs.Slots.{starts}

pub many : length keys ≡ 310
unfolding keys
many = refl

pub right : wrong_from starts 1188 878 keys ≡ []
unfolding keys starts shown table further packages headers markup code records archives images media late office kinds roots elements pictures rasters sounds packed disks papers stores games others scripts documents secrets bitmaps shapes chunks tunes squeezed bundles volumes assorted databases science measures prints compiled keyrings consoles shallow schemas dialects notations unheaded mended openings prefaces remarks captions headlines letters settings scores objects inner deeper farther buried texts
right = refl
