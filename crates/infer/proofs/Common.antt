-- What nearly every proof names, passed on.
pub use Rattle.infer.specs.Arrivals.{Begins, BeginsAlone, Comes, IsAwaited, NewcomersAreAwaited}
pub use Rattle.infer.specs.Arrivals.{last_after, last_awaited}
pub use Rattle.infer.specs.Buffer.{head, IsBuffer}
pub use Rattle.infer.specs.BuiltIn.{BuiltIn, IsAccepted, DecidesAccepted}
pub use Rattle.infer.specs.BuiltIn.{avif, doc, fixed, framed, heif, html, matroska, office, pdf, ppt, xls, xml}
pub use Rattle.infer.specs.Caller.{Contracts, Contract, Allows, FixesAnswers}
pub use Rattle.infer.specs.Decided.{AllowsExactly, AnswersAreOpen, CanBeDecided, DecidedByRows, DecidedLasts, IsAnswerForGood}
pub use Rattle.infer.specs.Decided.{FirstOpenComes, IsChangeable, IsDecided, IsDecidedExactly, MayBecomeRow, ReachNarrows}
pub use Rattle.infer.specs.Decided.{DecidesMayBecome}
pub use Rattle.infer.specs.Decided.{rows_before}
pub use Rattle.infer.specs.First.{IsFirstOf, IsFirst, NoneHas, IsAnswer, SomeHas}
pub use Rattle.infer.specs.Laws.{AnswersAreLocal, AnswersAsBuiltIn, AnyLasts, Breaks, FrontDecides, IsNotLater}
pub use Rattle.infer.specs.Laws.{IsSteady, OnlyFarRowsFollow, ReadersAreAlike}
pub use Rattle.infer.specs.Laws.{answers_far}
unfoldable pub use Rattle.infer.specs.Leads.{candidates}
pub use Rattle.infer.specs.Leads.{candidates_of, Leads, allows_first, numbers_from}
pub use Rattle.infer.specs.Listed.{number_of, row_listed}
unfoldable pub use Rattle.infer.specs.Matchers.{signatures, is_far_row}
pub use Rattle.infer.specs.Matchers.{OthersAreNear}
pub use Rattle.infer_deep.specs.Signatures.{Lasts, IsNear}
pub use Rattle.infer.specs.Questions.{HasClass, HasExtension, HasMimeType, IsAsked, SomeBoth}
pub use Rattle.infer.specs.Row.{Accepts, Row, shows}
pub use Rattle.infer.specs.Rows.{custom_rows, AnyAccepts, kept_row, rows, custom_row, Signature}
pub use Rattle.infer.specs.Samples.{sample_of, zeros, HoldsSample, put}
unfoldable pub use Rattle.infer.specs.Table.{table, signature_of}
pub use Rattle.infer.specs.Table.{row}
pub use Rattle.infer.specs.Triple.{Triple, triple_of}
unfoldable pub use Rattle.infer.specs.Walks.{IsFirstAmong}
pub use Rattle.infer.specs.Walks.{HasGiven, RowHas, Takes, WalksFindFirst}
pub use Rattle.infer.specs.Walks.{asked_rows, count_asked, is_asked, is_not_above}
pub use Rattle.infer.specs.Watched.{IsDue, fault_of, inner}
pub use Rattle.infer.specs.declared.beginnings.Beginning.{Beginning}
pub use Rattle.infer.specs.declared.beginnings.Beginning.TheVariants.{OpenBox, Compound, Archive, Frame, White, Mark}
pub use Rattle.infer.specs.declared.read.fault.Fault.{Fault}
pub use Rattle.infer.specs.declared.table.file_type.FileType.{FileType}
pub use Rattle.infer.specs.declared.table.file_type.MatcherType.TheVariants.{Text, App, Image}
pub use Rattle.infer.specs.declared.table.rows.TheConstants.{DLL, EPUB, EPUB_ARCHIVE, EXE, MATCHER_COUNT}
pub use Rattle.infer.specs.declared.table.rows.TheConstants.{MOST_CANDIDATES, MSI, PDF, ROW_COUNT, WASM, ZIP}
unfoldable pub use Rattle.infer_deep.proofs.Common.{le16, le32, be32}
pub use Rattle.infer_deep.proofs.Common.{[], ℕ, ⊎_elim, ◌&&◌, ◌*◌, ◌++◌, ◌+◌, ◌-◌, ◌/◌, ◌<◌, ◌==◌, ◌||◌, ◌↔◌, ◌∙◌, ◌∷◌}
pub use Rattle.infer_deep.proofs.Common.{◌≡◌, ◌≢◌, ◌≤◌, ◌⊎◌}
pub use Rattle.infer_deep.proofs.Common.{All, All-append, All-cons, All-map, All-nil, All-replicate, AllByRecursion}
pub use Rattle.infer_deep.proofs.Common.{AllPairs, AllPass-from_list_all, AllWithin, AllWithin-more, AllWithin-none}
pub use Rattle.infer_deep.proofs.Common.{AllWithin-upto, Appends, AreApart, BeginsMarked, BeginsWithTag, Bool, Bor}
pub use Rattle.infer_deep.proofs.Common.{Consumes, Consumes-trans, Decides, Decides-eqb, Err, HasClassId, HasCompatible}
pub use Rattle.infer_deep.proofs.Common.{HasFolder, HoldsAt, IfSome, IsAtEnd, IsBoxed, IsDecidingHeader, IsFrame}
pub use Rattle.infer_deep.proofs.Common.{IsFramed, IsHeaderFrom, IsHtml, IsMark, IsOffice, IsRoot, IsSpace}
pub use Rattle.infer_deep.proofs.Common.{IsThirdHeader, IsTrue, IsWhite, IsXls, IsXml, Keeps, List, MatchBool}
pub use Rattle.infer_deep.proofs.Common.{MatchOption, MayBecome, None, OccursAt, Ok, OnFalse, Option, Result, SkipsTo}
pub use Rattle.infer_deep.proofs.Common.{Some, StandsBy, YieldsList-from_slice}
pub use Rattle.infer_deep.proofs.Common.{add-one, and_from, and_parts, ap, append-nil, append_assoc, ap₂, are_bytes}
pub use Rattle.infer_deep.proofs.Common.{arith, bytes_eq, bytes_eq-Decides, cases_Bool, cases_from_any, cases_lt}
pub use Rattle.infer_deep.proofs.Common.{cases_order, codes, compound_header, concat, cond, count_by-le-length, drop}
pub use Rattle.infer_deep.proofs.Common.{drop-cons, drop-drop, drop-replicate, eq-eqb, eqb, eqb-true, excel_id, false}
pub use Rattle.infer_deep.proofs.Common.{false≢true, filter, filter_more, first_from_Range, first_from_find, front_fits}
pub use Rattle.infer_deep.proofs.Common.{front_reads, get_or, get_or-append-add, get_or-append_right}
pub use Rattle.infer_deep.proofs.Common.{get_or-range_with_len, get_or-take, get_or_append_left, get_or_default}
pub use Rattle.infer_deep.proofs.Common.{if◌then◌else◌, inl, inr, is_none, is_some, le-leb, le_refl, leb, leb-true}
pub use Rattle.infer_deep.proofs.Common.{length, length-append, length-drop, length-filter, length-map}
pub use Rattle.infer_deep.proofs.Common.{length-range_with_len, length-replicate, length-take, length-take-le, list_all}
pub use Rattle.infer_deep.proofs.Common.{list_any, lit≤, map, map_more, min, nat_eq, nat_lt, nat_tests, ne_eqb, negsuc}
pub use Rattle.infer_deep.proofs.Common.{none_from_all_within, not, not_from_Decides, old_excel_id, option_and_then}
pub use Rattle.infer_deep.proofs.Common.{option_map, option_map_or, or_left, or_right, pos, powerpoint_id}
pub use Rattle.infer_deep.proofs.Common.{range_with_len, recursion_from_All, refl, replicate, rules, slice_get}
pub use Rattle.infer_deep.proofs.Common.{slice_get-get_or, slice_get_past, starts_with, string_bytes, subst, suc, sym}
pub use Rattle.infer_deep.proofs.Common.{tags, take, take-append-add, take-append-drop, take-append-le}
pub use Rattle.infer_deep.proofs.Common.{take-append_seam, take_all, take_at, take_min, tests, true, word_id, zero}
pub use Rattle.infer_deep.proofs.Common.{zero-le, zip_header}
pub use Rattle.infer_sig.specs.Open.{is_sound, MayBecomeIsExact}
unfoldable pub use Rattle.infer_sig.specs.Signature.{stands}
pub use Rattle.infer_sig.specs.Signature.{Alternative, accepts}
