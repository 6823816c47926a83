-- What nearly every proof names, passed on.
pub use Rattle.std.proofs.Common.{arith, length, ℕ, inr, ◌<◌, inl, ◌≡◌, List, subst, sym, ◌+◌, ◌≤◌, get_or, refl, ◌↔◌, ◌∙◌, rules, IsTrue, ap, ◌++◌, ◌-◌, [], ◌∷◌, drop, length-append, take, ◌⊎◌, min, suc, zero, Bool, true, None, Option, Some, codes, max, ◌*◌, false, length-drop, tests, add-zero, append_assoc, map, ◌/◌, Bor, MatchBool, eqb, length-take, ltb, not, zero-add, ◌&&◌, ◌||◌, leb, take-take, zero-le, cond, if◌then◌else◌, ◌==◌, ◌≢◌, le_refl, Result, Ok, Err, option_map, drop-cons, add-one, MatchOption, lit≤, ap₂, string_bytes, pos, negsuc, ⊎_elim}
pub use Rattle.std.proofs.KnownBytes.{Consumes-trans}
pub use Rattle.std.proofs.Math.Seq.{get_or-append_right, take-append-add, take-append_seam}
pub use Rattle.std.proofs.lemmas.Bool.{cases_lt, false≢true, OnFalse_at, OnTrue_at, cases_order, eq-eqb, lt-ltb, ltb-true, or_cases, or_left, or_right, and_parts, and_from, le-leb, ne_eqb, leb-true, cases_Bool, eqb-true}
pub use Rattle.std.proofs.lemmas.Bool.Decides.{nat_tests, Decides-eqb, not_from_Decides}
pub use Rattle.std.proofs.lemmas.Iterator.{YieldsList-from_range, cases_from_any, YieldsList-from_slice, first_from_find, first_from_Range}
pub use Rattle.std.proofs.lemmas.List.{get_or_past, get_or_append_left, take_rest, take-append-drop, length-take-le, take_at, append-nil, get_or-drop, get_or-take, length-map, length-replicate, take-append-le, append_cancel_left, drop_more, get_or-replicate, get_or_at, get_or_default, map-append, take-map, take_all, drop-take, get_or-append-add, drop-drop, map_more, take_min, drop-replicate}
pub use Rattle.std.proofs.lemmas.List.Elements.{All-append, All-drop, All-replicate, All-from_get_or, All-nil, All-take, All-cons, AllWithin-more, filter_more, AllWithin-none, AllWithin-upto, recursion_from_All, All-map}
pub use Rattle.std.proofs.lemmas.List.Folds.{none_from_all_within}
pub use Rattle.std.proofs.lemmas.List.FromFn.{get_or-range_with_len, length-range_with_len}
pub use Rattle.std.proofs.lemmas.List.Prefix.{at_from_reads, at_reads, front_fits, front_reads, front_from_reads}
pub use Rattle.std.proofs.lemmas.List.Sums.{AllPass-from_list_all, list_all-from_AllPass, count_by-le-length, length-filter}
pub use Rattle.std.proofs.lemmas.Option.{slice_get_past, slice_get-get_or}
pub use Rattle.std.proofs.lemmas.Slice.Eq.{starts_is, bytes_eq-Decides}
pub use Rattle.std.specs.Bool.{OnFalse, OnTrue, Decides}
pub use Rattle.std.specs.Io.KnownBytes.{Consumes, IsAtEnd, Appends, Keeps}
pub use Rattle.std.specs.List.{starts_with, AllByRecursion, AllWithin, HoldsAt, concat, filter, range_with_len, repeat, list_any, list_all, AllPairs, slice_get}
pub use Rattle.std.specs.Option.{IfSome, is_some, unwrap_or, option_map_or, is_none, option_and_then}
pub use Rattle.std.specs.Prelude.{Any, nat_eq, replicate, All, nat_lt}
pub use Rattle.std.specs.Str.{bytes_eq}
pub use Rattle.memchr.specs.Find.{OccursAt, NoneBefore, Nowhere}
pub use Rattle.infer_deep.specs.Blocks.{LacksPair, AllBelow, IsPairAt}
pub use Rattle.infer_deep.specs.Brands.{IsAvif, IsHeif, box_length, HasCompatible, HasMajor, IsBoxed, IsOpenBox, MayHaveCompatible}
pub use Rattle.infer_deep.specs.ClassId.{HasClassId, IsRoot, compound_header, powerpoint_id, word_id, BeginsRoot, MayHaveRoot, excel_id, format_3, format_4, old_excel_id, IsXls}
pub use Rattle.infer_deep.specs.Frames.{IsFrame, BeginsFrame, IsFramed}
pub use Rattle.infer_deep.specs.Joined.{LeadsTo, BeginsWith, NoneBegins, SkipsTo, After}
unfoldable pub use Rattle.infer_deep.specs.Numbers.{be32, le16, le32}
pub use Rattle.infer_deep.specs.Office.{zip_header, DecidesAfter, HasFolder, HasOfficeName, IsDecidingHeader, IsDecidingPlace, IsHeaderFrom, IsOffice, IsThirdHeader, BeginsOffice, IsFolder, MayDecide, MayDecideAfter}
pub use Rattle.infer_deep.specs.Open.{AgreesAt, are_bytes}
pub use Rattle.infer_deep.specs.Places.{IsFirstWithin, IsWithin, IsFirstPlace, FindsPlace}
pub use Rattle.infer_deep.specs.Signatures.{MayBecome, Lasts, ComesWith, AreApart, IsEarly, IsNear}
unfoldable pub use Rattle.infer_deep.specs.Text.{tags_with}
pub use Rattle.infer_deep.specs.Text.{BeginsWithTag, IsMark, IsSpace, IsWhite, BeginsInAnyCase, BeginsMarked, BeginsWhite, IsHtml, IsSameInAnyCase, IsXml, tags}
pub use Rattle.infer_deep.specs.Windows.{IsMatroska, IsPdf, StandsBy}
