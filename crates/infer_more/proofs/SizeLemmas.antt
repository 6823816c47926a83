-- No MIME type and no extension of a row, built-in or further, is longer than 73 bytes.
use Rattle.infer_more.proofs.Common.{◌≤◌, ◌&&◌, ℕ, Bool, List, [], ◌∷◌, zero, suc, IfSome, length, IsTrue, refl, arith, list_all, and_parts, nat_tests, Triple, archives, code, further, headers, images, late, markup, media, packages, records, disks, elements, games, kinds, office, others, packed, papers, pictures, rasters, roots, sounds, stores, scripts, documents, secrets, openings, prefaces, bitmaps, shapes, chunks, tunes, squeezed, bundles, volumes, assorted, databases, science, measures, prints, compiled, keyrings, consoles, shallow, schemas, dialects, notations, unheaded, mended, remarks, captions, headlines, inner, deeper, farther, buried, letters, settings, scores, objects, texts, shown}
use Rattle.std.proofs.Common.{leb}
use Rattle.std.specs.List.{slice_get}
use Rattle.infer.specs.Table as built_in
use Rattle.infer_more.specs.Laws.{TextsFit}

abbrev fits : Triple → Bool
fits t = leb (length t.mime_type) 73 && leb (length t.extension) 73

all_fit : IsTrue (list_all fits shown)
unfolding shown built_in.table further archives code headers images late markup media packages records disks elements games kinds office others packed papers pictures rasters roots sounds stores scripts documents secrets openings prefaces bitmaps shapes chunks tunes squeezed bundles volumes assorted databases science measures prints compiled keyrings consoles shallow schemas dialects notations unheaded mended remarks captions headlines inner deeper farther buried letters settings scores objects texts
all_fit = refl

fit_at : (all : List Triple) → IsTrue (list_all fits all) → (i : ℕ)
    → IfSome (slice_get all i) (λ t. (length t.mime_type ≤ 73) × (length t.extension ≤ 73))
fit_at [] fit i = tt
fit_at (t ∷ all) fit zero =
    let both = and_parts (leb (length t.mime_type) 73) _ (and_parts (fits t) _ fit).0 in
    let mime_type = both.0 in
    let extension = both.1 in
    (grind (arith, nat_tests), grind (arith, nat_tests))
fit_at (t ∷ all) fit (suc i) = fit_at all (and_parts (fits t) _ fit).1 i

pub texts_fit : TextsFit 73
texts_fit = fit_at shown all_fit
