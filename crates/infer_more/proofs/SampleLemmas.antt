-- Each further row is the wider answer of its sample.
use Rattle.infer_more.proofs.Common.{Bool, ◌≡◌, ◌<◌, ◌+◌, suc, ℕ, List, Option, None, Some, MatchOption, ap, drop, get_or, length, refl, subst, take, [], get_or_default, le16, le32, be32, be16, header_sum, stands, BuiltIn, IsFirst, IsFirstOf, Accepts, ROW_COUNT, Known, proved, refuted, unknown, at_most, both, takes, some_row, ByPlace, Further, Reaches, further_sample, archives, code, further, headers, images, late, markup, media, packages, records, disks, elements, games, kinds, office, others, packed, papers, pictures, rasters, roots, sounds, stores, scripts, documents, secrets, openings, prefaces, bitmaps, shapes, chunks, tunes, squeezed, bundles, volumes, assorted, databases, science, measures, prints, compiled, keyrings, consoles, shallow, schemas, dialects, notations, unheaded, mended, remarks, captions, headlines, inner, deeper, farther, buried, letters, settings, scores, objects, texts, IsWider, Widens, sym, ◌≢◌}
use Rattle.infer_deep.specs.Laws as Deep
use Rattle.infer_formats.specs.Laws as Inside
use Rattle.infer.specs.Leads.{Leads}
use Rattle.infer.specs.Table as built_in
use Rattle.infer_sig.proofs.KnownLemmas.{is_proved, proof_of, proved_if, same, ◌>>=◌}
use Rattle.infer.proofs.OrderLemmas.{known_at}
use Rattle.infer_more.proofs.BeginningLemmas.{none_before, none_widens}
use Rattle.infer_more.proofs.FitLemmas.{known_accepted}
use Rattle.infer_more.proofs.RefusalLemmas.{accepted, none_accepts}
use Rattle.infer_more.proofs.TableLemmas.{NoRowFails, failing, none_from, row_passes}

pub others_differ : (i j : ℕ) → i ≢ j → Some i ≢ Some j
others_differ i j h e = h (cc)

pub none_differs : (i : ℕ) → None ≢ Some i
none_differs i e = cc

abbrev same_number : (i j : ℕ) → Known (i ≡ j) → Known (Some i ≡ Some j)
same_number i j (proved e) = proved (ap Some e)
same_number i j (refuted h) = refuted (others_differ i j h)
same_number i j unknown = unknown

abbrev same_parent : (p q : Option ℕ) → Known (p ≡ q)
same_parent None None = proved refl
same_parent (Some i) (Some j) = same_number i j (same i j)
same_parent None (Some j) = refuted (none_differs j)
same_parent (Some i) None = refuted (λ e. none_differs i (sym e))

-- what a computation says of a row, and of the first row
abbrev widens : ByPlace → Inside.Leads → Inside.Single → (parent : Option ℕ) (b : List ℕ) (r : Further) → Known (Widens parent b r)
widens by_place inside single parent b r = both (same_parent r.parent parent) (known_accepted by_place inside single b r.signature)

abbrev first_widening : ByPlace → Inside.Leads → Inside.Single → (d : Further) (parent : Option ℕ) (b : List ℕ) (i : ℕ) → Known (IsFirst (Widens parent b) further i)
first_widening by_place inside single d parent b i = do
  within ← takes (at_most (suc i) (length further))
  here ← takes (widens by_place inside single parent b (get_or further i d))
  before ← takes (proved_if (none_widens by_place inside b parent (widens by_place inside single parent b) further i) (none_before by_place inside b parent (widens by_place inside single parent b) further i))
  proved (record { within = within; here = λ c. subst (Widens parent b) (get_or_default further i d c within) here; before = before })

module _ (by_place : ByPlace) (exclude : Deep.Apart) (leads : (s : BuiltIn) → Leads s) (inside : Inside.Leads) (single : Inside.Single) (d : Further) where
  abbrev first_built_in : (b : List ℕ) (parent : Option ℕ) → Known (IsFirstOf (Accepts b) built_in.table parent)
  first_built_in b None = none_accepts by_place leads b
  first_built_in b (Some i) = known_at by_place exclude some_row i b (accepted by_place leads b (get_or built_in.table i some_row).signature)

  abbrev reached : (parent : Option ℕ) (i : ℕ) (o : Option (List ℕ)) → Known (MatchOption o ⊥ (λ s. IsWider s (Some (ROW_COUNT + i))))
  reached parent i None = refuted (λ h. h)
  reached parent i (Some s) = do
    answers ← takes (first_built_in s parent)
    first ← takes (first_widening by_place inside single d parent s i)
    proved (record { parent = parent; found = Some i; answers = answers; widens = first; is = refl })

  abbrev reaches : (i : ℕ) → Known (Reaches i (get_or further i d))
  reaches i = reached (get_or further i d).parent i (further_sample (get_or further i d))

  abbrev reaches_at : ℕ → Further → Bool
  reaches_at i r = is_proved (reaches i)

  reach_0 : failing reaches_at 0 (take 128 (drop 0 further)) ≡ []
  unfolding further archives code headers images late markup media packages records disks elements games kinds office others packed papers pictures rasters roots sounds stores scripts documents secrets openings prefaces bitmaps shapes chunks tunes squeezed bundles volumes assorted databases science measures prints compiled keyrings consoles shallow schemas dialects notations unheaded mended remarks captions headlines inner deeper farther buried letters settings scores objects texts built_in.table stands le16 le32 be16 be32 header_sum
  reach_0 = refl

  reach_128 : failing reaches_at 128 (take 128 (drop 128 further)) ≡ []
  unfolding further archives code headers images late markup media packages records disks elements games kinds office others packed papers pictures rasters roots sounds stores scripts documents secrets openings prefaces bitmaps shapes chunks tunes squeezed bundles volumes assorted databases science measures prints compiled keyrings consoles shallow schemas dialects notations unheaded mended remarks captions headlines inner deeper farther buried letters settings scores objects texts built_in.table stands le16 le32 be16 be32 header_sum
  reach_128 = refl

  reach_256 : failing reaches_at 256 (take 128 (drop 256 further)) ≡ []
  unfolding further archives code headers images late markup media packages records disks elements games kinds office others packed papers pictures rasters roots sounds stores scripts documents secrets openings prefaces bitmaps shapes chunks tunes squeezed bundles volumes assorted databases science measures prints compiled keyrings consoles shallow schemas dialects notations unheaded mended remarks captions headlines inner deeper farther buried letters settings scores objects texts built_in.table stands le16 le32 be16 be32 header_sum
  reach_256 = refl

  reach_384 : failing reaches_at 384 (take 128 (drop 384 further)) ≡ []
  unfolding further archives code headers images late markup media packages records disks elements games kinds office others packed papers pictures rasters roots sounds stores scripts documents secrets openings prefaces bitmaps shapes chunks tunes squeezed bundles volumes assorted databases science measures prints compiled keyrings consoles shallow schemas dialects notations unheaded mended remarks captions headlines inner deeper farther buried letters settings scores objects texts built_in.table stands le16 le32 be16 be32 header_sum
  reach_384 = refl

  reach_512 : failing reaches_at 512 (take 128 (drop 512 further)) ≡ []
  unfolding further archives code headers images late markup media packages records disks elements games kinds office others packed papers pictures rasters roots sounds stores scripts documents secrets openings prefaces bitmaps shapes chunks tunes squeezed bundles volumes assorted databases science measures prints compiled keyrings consoles shallow schemas dialects notations unheaded mended remarks captions headlines inner deeper farther buried letters settings scores objects texts built_in.table stands le16 le32 be16 be32 header_sum
  reach_512 = refl

  reach_640 : failing reaches_at 640 (take 128 (drop 640 further)) ≡ []
  unfolding further archives code headers images late markup media packages records disks elements games kinds office others packed papers pictures rasters roots sounds stores scripts documents secrets openings prefaces bitmaps shapes chunks tunes squeezed bundles volumes assorted databases science measures prints compiled keyrings consoles shallow schemas dialects notations unheaded mended remarks captions headlines inner deeper farther buried letters settings scores objects texts built_in.table stands le16 le32 be16 be32 header_sum
  reach_640 = refl

  reach_768 : failing reaches_at 768 (take 128 (drop 768 further)) ≡ []
  unfolding further archives code headers images late markup media packages records disks elements games kinds office others packed papers pictures rasters roots sounds stores scripts documents secrets openings prefaces bitmaps shapes chunks tunes squeezed bundles volumes assorted databases science measures prints compiled keyrings consoles shallow schemas dialects notations unheaded mended remarks captions headlines inner deeper farther buried letters settings scores objects texts built_in.table stands le16 le32 be16 be32 header_sum
  reach_768 = refl

  reach_896 : failing reaches_at 896 (drop 896 further) ≡ []
  unfolding further archives code headers images late markup media packages records disks elements games kinds office others packed papers pictures rasters roots sounds stores scripts documents secrets openings prefaces bitmaps shapes chunks tunes squeezed bundles volumes assorted databases science measures prints compiled keyrings consoles shallow schemas dialects notations unheaded mended remarks captions headlines inner deeper farther buried letters settings scores objects texts built_in.table stands le16 le32 be16 be32 header_sum
  reach_896 = refl

  all_reach : NoRowFails reaches_at
  all_reach =
      none_from reaches_at 0 reach_0 (none_from reaches_at 128 reach_128 (none_from reaches_at 256 reach_256 (none_from reaches_at 384 reach_384
      (none_from reaches_at 512 reach_512 (none_from reaches_at 640 reach_640 (none_from reaches_at 768 reach_768 reach_896))))))

  pub row_reaches : (i : ℕ) → i < length further → Reaches i (get_or further i d)
  row_reaches i lt = proof_of (reaches i) (row_passes reaches_at all_reach i d lt)
