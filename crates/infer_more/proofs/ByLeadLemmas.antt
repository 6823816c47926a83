-- Few bytes leave each row without a parent.
use Rattle.infer_more.proofs.Common.{◌≡◌, ℕ, Bool, IsTrue, List, [], drop, refl, subst, sym, take, Further, further, archives, code, headers, images, late, markup, media, packages, records, disks, elements, games, kinds, office, others, packed, papers, pictures, rasters, roots, sounds, stores, scripts, documents, secrets, openings, prefaces, bitmaps, shapes, chunks, tunes, squeezed, bundles, volumes, assorted, databases, science, measures, prints, compiled, keyrings, consoles, shallow, schemas, dialects, notations, unheaded, mended, remarks, captions, headlines, inner, deeper, farther, buried, letters, settings, scores, objects, texts}
use Rattle.infer_more.proofs.FoundLemmas.{each_by_lead, entries_near}
use Rattle.infer_more.proofs.TableLemmas.{NoRowFails, failing, none_from}
use Rattle.infer_more.specs.Index.{EachIsByLead, is_by_lead, is_row_parentless}
use Rattle.infer_more.specs.declared.index.Entry.{Entry}
use Rattle.infer_more.specs.declared.index.ByLead.{ByLead}
use Rattle.infer_more.specs.declared.index.Spot.{Spot}
use Rattle.infer_more.specs.declared.index.Texts.{Texts}
use Rattle.infer_more.specs.declared.index.generated.TheConstants.{BESIDE, LEAD_ENTRIES, LEAD_SPOTS, LEAD_STARTS, TEXTS}

abbrev is_left : ℕ → Further → Bool
is_left i r = is_row_parentless (is_by_lead (entries_near LEAD_ENTRIES LEAD_STARTS) LEAD_SPOTS BESIDE TEXTS i) r.parent r

left_0 : failing is_left 0 (take 128 (drop 0 further)) ≡ []
unfolding further archives code headers images late markup media packages records disks elements games kinds office others packed papers pictures rasters roots sounds stores scripts documents secrets openings prefaces bitmaps shapes chunks tunes squeezed bundles volumes assorted databases science measures prints compiled keyrings consoles shallow schemas dialects notations unheaded mended remarks captions headlines inner deeper farther buried letters settings scores objects texts
left_0 = refl

left_128 : failing is_left 128 (take 128 (drop 128 further)) ≡ []
unfolding further archives code headers images late markup media packages records disks elements games kinds office others packed papers pictures rasters roots sounds stores scripts documents secrets openings prefaces bitmaps shapes chunks tunes squeezed bundles volumes assorted databases science measures prints compiled keyrings consoles shallow schemas dialects notations unheaded mended remarks captions headlines inner deeper farther buried letters settings scores objects texts
left_128 = refl

left_256 : failing is_left 256 (take 128 (drop 256 further)) ≡ []
unfolding further archives code headers images late markup media packages records disks elements games kinds office others packed papers pictures rasters roots sounds stores scripts documents secrets openings prefaces bitmaps shapes chunks tunes squeezed bundles volumes assorted databases science measures prints compiled keyrings consoles shallow schemas dialects notations unheaded mended remarks captions headlines inner deeper farther buried letters settings scores objects texts
left_256 = refl

left_384 : failing is_left 384 (take 128 (drop 384 further)) ≡ []
unfolding further archives code headers images late markup media packages records disks elements games kinds office others packed papers pictures rasters roots sounds stores scripts documents secrets openings prefaces bitmaps shapes chunks tunes squeezed bundles volumes assorted databases science measures prints compiled keyrings consoles shallow schemas dialects notations unheaded mended remarks captions headlines inner deeper farther buried letters settings scores objects texts
left_384 = refl

left_512 : failing is_left 512 (take 128 (drop 512 further)) ≡ []
unfolding further archives code headers images late markup media packages records disks elements games kinds office others packed papers pictures rasters roots sounds stores scripts documents secrets openings prefaces bitmaps shapes chunks tunes squeezed bundles volumes assorted databases science measures prints compiled keyrings consoles shallow schemas dialects notations unheaded mended remarks captions headlines inner deeper farther buried letters settings scores objects texts
left_512 = refl

left_640 : failing is_left 640 (take 128 (drop 640 further)) ≡ []
unfolding further archives code headers images late markup media packages records disks elements games kinds office others packed papers pictures rasters roots sounds stores scripts documents secrets openings prefaces bitmaps shapes chunks tunes squeezed bundles volumes assorted databases science measures prints compiled keyrings consoles shallow schemas dialects notations unheaded mended remarks captions headlines inner deeper farther buried letters settings scores objects texts
left_640 = refl

left_768 : failing is_left 768 (take 128 (drop 768 further)) ≡ []
unfolding further archives code headers images late markup media packages records disks elements games kinds office others packed papers pictures rasters roots sounds stores scripts documents secrets openings prefaces bitmaps shapes chunks tunes squeezed bundles volumes assorted databases science measures prints compiled keyrings consoles shallow schemas dialects notations unheaded mended remarks captions headlines inner deeper farther buried letters settings scores objects texts
left_768 = refl

left_896 : failing is_left 896 (drop 896 further) ≡ []
unfolding further archives code headers images late markup media packages records disks elements games kinds office others packed papers pictures rasters roots sounds stores scripts documents secrets openings prefaces bitmaps shapes chunks tunes squeezed bundles volumes assorted databases science measures prints compiled keyrings consoles shallow schemas dialects notations unheaded mended remarks captions headlines inner deeper farther buried letters settings scores objects texts
left_896 = refl

all_left : NoRowFails is_left
all_left =
    none_from is_left 0 left_0 (none_from is_left 128 left_128 (none_from is_left 256 left_256 (none_from is_left 384 left_384
    (none_from is_left 512 left_512 (none_from is_left 640 left_640 (none_from is_left 768 left_768 left_896))))))

-- by such lists few do
abbrev Leaves : List Spot → List ℕ → List Entry → List Entry → Texts → Type 0
Leaves spots starts entries beside texts = NoRowFails (λ i r. is_row_parentless (is_by_lead (entries_near entries starts) spots beside texts i) r.parent r)

pub each_left : (by_lead : ByLead) → by_lead.index.spots.now ≡ LEAD_SPOTS → by_lead.index.starts.now ≡ LEAD_STARTS → by_lead.index.entries.now ≡ LEAD_ENTRIES → by_lead.beside.now ≡ BESIDE → by_lead.index.texts ≡ TEXTS
    → EachIsByLead by_lead
each_left by_lead spots starts entries beside texts =
    let by_texts : Leaves LEAD_SPOTS LEAD_STARTS LEAD_ENTRIES BESIDE by_lead.index.texts = subst (Leaves LEAD_SPOTS LEAD_STARTS LEAD_ENTRIES BESIDE) (sym texts) all_left in
    let by_beside : Leaves LEAD_SPOTS LEAD_STARTS LEAD_ENTRIES by_lead.beside.now by_lead.index.texts = subst (λ e. Leaves LEAD_SPOTS LEAD_STARTS LEAD_ENTRIES e by_lead.index.texts) (sym beside) by_texts in
    let by_entries : Leaves LEAD_SPOTS LEAD_STARTS by_lead.index.entries.now by_lead.beside.now by_lead.index.texts = subst (λ e. Leaves LEAD_SPOTS LEAD_STARTS e by_lead.beside.now by_lead.index.texts) (sym entries) by_beside in
    let by_starts : Leaves LEAD_SPOTS by_lead.index.starts.now by_lead.index.entries.now by_lead.beside.now by_lead.index.texts = subst (λ s. Leaves LEAD_SPOTS s by_lead.index.entries.now by_lead.beside.now by_lead.index.texts) (sym starts) by_entries in
    each_by_lead by_lead (subst (λ s. Leaves s by_lead.index.starts.now by_lead.index.entries.now by_lead.beside.now by_lead.index.texts) (sym spots) by_starts)
