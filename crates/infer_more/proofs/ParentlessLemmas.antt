-- Each row without a parent is found by the index.
use Rattle.infer_more.proofs.Common.{◌≡◌, ℕ, Bool, IsTrue, List, [], drop, refl, subst, sym, take, Further, Parentless, further, archives, code, headers, images, late, markup, media, packages, records, disks, elements, games, kinds, office, others, packed, papers, pictures, rasters, roots, sounds, stores, scripts, documents, secrets, openings, prefaces, bitmaps, shapes, chunks, tunes, squeezed, bundles, volumes, assorted, databases, science, measures, prints, compiled, keyrings, consoles, shallow, schemas, dialects, notations, unheaded, mended, remarks, captions, headlines, inner, deeper, farther, buried, letters, settings, scores, objects, texts}
use Rattle.infer_more.proofs.FoundLemmas.{each_parentless, entries_near}
use Rattle.infer_more.proofs.TableLemmas.{NoRowFails, failing, none_from}
use Rattle.infer_more.specs.Index.{EachParentlessIsFound, are_texts, is_found_parentless, is_row_parentless}
use Rattle.infer_more.specs.declared.index.Entry.{Entry}
use Rattle.infer_more.specs.declared.index.Spot.{Spot}
use Rattle.infer_more.specs.declared.index.Texts.{Texts}
use Rattle.infer_more.specs.declared.index.generated.TheConstants.{ENTRIES, SPOTS, STARTS, TEXTS}

abbrev is_found : ℕ → Further → Bool
is_found i r = is_row_parentless (is_found_parentless (entries_near ENTRIES STARTS) SPOTS TEXTS i) r.parent r

found_0 : failing is_found 0 (take 128 (drop 0 further)) ≡ []
unfolding further archives code headers images late markup media packages records disks elements games kinds office others packed papers pictures rasters roots sounds stores scripts documents secrets openings prefaces bitmaps shapes chunks tunes squeezed bundles volumes assorted databases science measures prints compiled keyrings consoles shallow schemas dialects notations unheaded mended remarks captions headlines inner deeper farther buried letters settings scores objects texts
found_0 = refl

found_128 : failing is_found 128 (take 128 (drop 128 further)) ≡ []
unfolding further archives code headers images late markup media packages records disks elements games kinds office others packed papers pictures rasters roots sounds stores scripts documents secrets openings prefaces bitmaps shapes chunks tunes squeezed bundles volumes assorted databases science measures prints compiled keyrings consoles shallow schemas dialects notations unheaded mended remarks captions headlines inner deeper farther buried letters settings scores objects texts
found_128 = refl

found_256 : failing is_found 256 (take 128 (drop 256 further)) ≡ []
unfolding further archives code headers images late markup media packages records disks elements games kinds office others packed papers pictures rasters roots sounds stores scripts documents secrets openings prefaces bitmaps shapes chunks tunes squeezed bundles volumes assorted databases science measures prints compiled keyrings consoles shallow schemas dialects notations unheaded mended remarks captions headlines inner deeper farther buried letters settings scores objects texts
found_256 = refl

found_384 : failing is_found 384 (take 128 (drop 384 further)) ≡ []
unfolding further archives code headers images late markup media packages records disks elements games kinds office others packed papers pictures rasters roots sounds stores scripts documents secrets openings prefaces bitmaps shapes chunks tunes squeezed bundles volumes assorted databases science measures prints compiled keyrings consoles shallow schemas dialects notations unheaded mended remarks captions headlines inner deeper farther buried letters settings scores objects texts
found_384 = refl

found_512 : failing is_found 512 (take 128 (drop 512 further)) ≡ []
unfolding further archives code headers images late markup media packages records disks elements games kinds office others packed papers pictures rasters roots sounds stores scripts documents secrets openings prefaces bitmaps shapes chunks tunes squeezed bundles volumes assorted databases science measures prints compiled keyrings consoles shallow schemas dialects notations unheaded mended remarks captions headlines inner deeper farther buried letters settings scores objects texts
found_512 = refl

found_640 : failing is_found 640 (take 128 (drop 640 further)) ≡ []
unfolding further archives code headers images late markup media packages records disks elements games kinds office others packed papers pictures rasters roots sounds stores scripts documents secrets openings prefaces bitmaps shapes chunks tunes squeezed bundles volumes assorted databases science measures prints compiled keyrings consoles shallow schemas dialects notations unheaded mended remarks captions headlines inner deeper farther buried letters settings scores objects texts
found_640 = refl

found_768 : failing is_found 768 (take 128 (drop 768 further)) ≡ []
unfolding further archives code headers images late markup media packages records disks elements games kinds office others packed papers pictures rasters roots sounds stores scripts documents secrets openings prefaces bitmaps shapes chunks tunes squeezed bundles volumes assorted databases science measures prints compiled keyrings consoles shallow schemas dialects notations unheaded mended remarks captions headlines inner deeper farther buried letters settings scores objects texts
found_768 = refl

found_896 : failing is_found 896 (drop 896 further) ≡ []
unfolding further archives code headers images late markup media packages records disks elements games kinds office others packed papers pictures rasters roots sounds stores scripts documents secrets openings prefaces bitmaps shapes chunks tunes squeezed bundles volumes assorted databases science measures prints compiled keyrings consoles shallow schemas dialects notations unheaded mended remarks captions headlines inner deeper farther buried letters settings scores objects texts
found_896 = refl

all_found : NoRowFails is_found
all_found =
    none_from is_found 0 found_0 (none_from is_found 128 found_128 (none_from is_found 256 found_256 (none_from is_found 384 found_384
    (none_from is_found 512 found_512 (none_from is_found 640 found_640 (none_from is_found 768 found_768 found_896))))))

texts_found : IsTrue (are_texts TEXTS)
unfolding further archives code headers images late markup media packages records disks elements games kinds office others packed papers pictures rasters roots sounds stores scripts documents secrets openings prefaces bitmaps shapes chunks tunes squeezed bundles volumes assorted databases science measures prints compiled keyrings consoles shallow schemas dialects notations unheaded mended remarks captions headlines inner deeper farther buried letters settings scores objects texts
texts_found = refl

-- an index of these lists finds each
abbrev Finds : List Spot → List ℕ → List Entry → Texts → Type 0
Finds spots starts entries texts =
    NoRowFails (λ i r. is_row_parentless (is_found_parentless (entries_near entries starts) spots texts i) r.parent r)

pub each_found : (index : Parentless) → index.spots.now ≡ SPOTS → index.starts.now ≡ STARTS → index.entries.now ≡ ENTRIES → index.texts ≡ TEXTS
    → EachParentlessIsFound index
each_found index spots starts entries texts =
    let by_texts : Finds SPOTS STARTS ENTRIES index.texts = subst (Finds SPOTS STARTS ENTRIES) (sym texts) all_found in
    let by_entries : Finds SPOTS STARTS index.entries.now index.texts = subst (λ e. Finds SPOTS STARTS e index.texts) (sym entries) by_texts in
    let by_starts : Finds SPOTS index.starts.now index.entries.now index.texts = subst (λ s. Finds SPOTS s index.entries.now index.texts) (sym starts) by_entries in
    each_parentless index (subst (λ s. Finds s index.starts.now index.entries.now index.texts) (sym spots) by_starts)
    (subst (λ t. IsTrue (are_texts t)) (sym texts) texts_found)
