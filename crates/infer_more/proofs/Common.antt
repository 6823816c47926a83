-- What many proofs name, passed on.
-- of the library
pub use Rattle.std.proofs.Common.{[], ◌%◌, ◌&&◌, ◌++◌, ◌+◌, ◌-◌, ◌<◌, ◌==◌, ◌↔◌, ◌∙◌, ◌∷◌, ◌≡◌, ◌≢◌, ◌≤◌, ◌⊎◌}
pub use Rattle.std.proofs.Common.{Bool, IfSome, IsTrue, List, MatchOption, None, Option, Some, ℕ}
pub use Rattle.std.proofs.Common.{ap, append_assoc, arith, below_more, codes, cond, drop, false, get_or, inl, inr}
pub use Rattle.std.proofs.Common.{is_some, length, map, max, nat_le, nat_lt, not, option_map, refl, subst, suc, sym}
pub use Rattle.std.proofs.Common.{take, true, unwrap_or, zero}
pub use Rattle.std.specs.Prelude.{if◌then◌else◌, ◌||◌}
pub use Rattle.std.specs.Prelude.{min, slice_index}
-- of its lists, tests and options
pub use Rattle.std.proofs.Math.Seq.{take-append_seam}
pub use Rattle.std.proofs.lemmas.Bool.{and_from, and_parts, cases_Bool, cases_lt, eq-eqb, eqb-true, false≢true, le-leb}
pub use Rattle.std.proofs.lemmas.Bool.{leb-true, lt-ltb}
pub use Rattle.std.proofs.lemmas.Bool.Decides.{nat_tests}
pub use Rattle.std.proofs.lemmas.List.{drop-drop, drop_more, get_or-take, get_or_default, length-map, length-replicate}
pub use Rattle.std.proofs.lemmas.List.{length-take, length-take-le, take-append-drop}
pub use Rattle.std.proofs.lemmas.List.Elements.{All-nil}
pub use Rattle.std.proofs.lemmas.List.Folds.{list_all_at}
pub use Rattle.std.proofs.lemmas.List.Splits.{slice_split_at, slice_split_none}
pub use Rattle.std.proofs.lemmas.Option.{get_or_from_slice_get, slice_get-map, slice_get_cases, slice_get_past}
pub use Rattle.std.proofs.lemmas.Option.{slice_get_read, slice_get_within}
pub use Rattle.std.proofs.lemmas.Slice.Eq.{bytes_eq-Decides}
pub use Rattle.std.specs.List.{HoldsAt, concat, list_all, list_any}
pub use Rattle.std.specs.Option.{option_map_or}
pub use denote.Ref.{Bor}
-- of the crates below
pub use Rattle.infer_sig.proofs.KnownLemmas.{◌>>◌, Known, at_most, both, each_before, either, needs, negated, proved}
pub use Rattle.infer_sig.proofs.KnownLemmas.{proved_if, refuted, refuted_if, takes, unknown}
pub use Rattle.infer.proofs.OrderLemmas.{some_row}
pub use Rattle.infer_sig.proofs.OccurrenceLemmas.{ByPlace, not_both, occurs}
pub use Rattle.infer.proofs.TableLemmas.{length-table}
pub use Rattle.infer_sig.proofs.TestLemmas.{NoneRefused, passed}
pub use Rattle.infer.specs.Buffer.{IsBuffer}
pub use Rattle.infer.specs.BuiltIn.{BuiltIn}
pub use Rattle.infer.specs.First.{IsFirst, IsFirstOf, NoneHas, SomeHas}
pub use Rattle.infer.specs.Leads.{is_white}
pub use Rattle.infer.specs.Row.{Accepts}
pub use Rattle.infer.specs.Samples.{put, with_parts, zeros}
unfoldable pub use Rattle.infer.specs.Table.{table}
pub use Rattle.infer.specs.Triple.{Triple}
pub use Rattle.infer.specs.declared.table.file_type.MatcherType.{MatcherType}
pub use Rattle.infer.specs.declared.table.rows.TheConstants.{ROW_COUNT}
pub use Rattle.infer_deep.proofs.PlaceLemmas.{OccursAt-append}
pub use Rattle.infer_deep.specs.Find.{OccursAt}
unfoldable pub use Rattle.infer_deep.specs.Numbers.{be32, le16, le32}
pub use Rattle.infer_deep.specs.Office.{zip_header}
pub use Rattle.infer_deep.specs.Signatures.{Lasts, MayBecome}
pub use Rattle.infer_formats.proofs.GrowthLemmas.{there}
pub use Rattle.infer_formats.specs.Json.{CanBe, IsJson, IsJsonLines, Stands}
pub use Rattle.infer_formats.specs.Laws.{HasBracket}
pub use Rattle.infer_formats.specs.Markup.{BeginsElement, HasRoot, IsRootElement, IsXmlSpace}
unfoldable pub use Rattle.infer_formats.specs.Numbers.{be16}
pub use Rattle.infer_formats.specs.Open.{Stays}
pub use Rattle.infer_formats.specs.Png.{here}
pub use Rattle.infer_formats.specs.Script.{IsProgram}
pub use Rattle.infer_formats.specs.Subtitles.{IsDigit, IsSubRip}
unfoldable pub use Rattle.infer_formats.specs.Tar.{header_sum}
pub use Rattle.infer_formats.specs.Tar.{IsOctal}
pub use Rattle.infer_formats.specs.Text.{IsBinary, IsText}
pub use Rattle.infer_formats.specs.Zip.{HasFirstName, IsOneOf, IsPackageWith, applications}
pub use Rattle.infer_notation.specs.Alternative.{Accepted, Fits, binary_bytes, bytes, related}
pub use Rattle.infer_formats.specs.Png.{png_header}
pub use Rattle.infer_formats.specs.Relation.{animated, class_id, dbase, directory_tag, first_entry_ends_in}
pub use Rattle.infer_formats.specs.Relation.{first_entry_has_extra, first_entry_is, json_lines, json_text, package_with}
pub use Rattle.infer_formats.specs.Relation.{plain_text, program, relation_listed, root, root_with, shared_object, subrip}
pub use Rattle.infer_formats.specs.Relation.{tar_checksum}
unfoldable pub use Rattle.infer_notation.specs.Signature.{signature_of}
pub use Rattle.infer_notation.specs.Words.{after_blanks}
pub use Rattle.infer_sig.proofs.PlaceLemmas.{stands_from_occurs}
pub use Rattle.infer_sig.specs.Open.{may_have}
pub use Rattle.infer_sig.specs.Places.{StandsByPlace}
unfoldable pub use Rattle.infer_sig.specs.Signature.{stands}
pub use Rattle.infer_sig.specs.Signature.{Bytes, Part, accepts, all_but, allows, any_of, any_text, at_least, between}
pub use Rattle.infer_sig.specs.Signature.{fits, has_part}
-- of the definitions
pub use Rattle.infer_more.specs.Decided.{MayWiden}
pub use Rattle.infer_more.specs.Ended.{ended_shown}
pub use Rattle.infer_more.specs.Entries.{left_lines, row_lines}
pub use Rattle.infer_more.specs.Index.{HasText, IsFoundBelow, IsLeast, IsNamed, IsNamedWith, IsOfProgram, IsRooted, name_at}
pub use Rattle.infer_more.specs.Index.{IsRowOf, IsTried, ascends, candidate, candidates, has_byte}
pub use Rattle.infer_more.specs.Index.{is_covered, is_listed, is_plain, is_settled, is_tried_parentless}
pub use Rattle.infer_more.specs.Index.{is_true_below, named_row, bucket_of, tried_parentless}
pub use Rattle.infer_more.specs.Laws.{AllLast, IsLost, is_dark, is_filled, is_lasting}
unfoldable pub use Rattle.infer_more.specs.Line.{class_of, is_built_in, is_mime_type, row_of}
pub use Rattle.infer_more.specs.Line.{Fields, fields_listed, fields_of, is_alphanumeric, is_name, is_name_byte}
pub use Rattle.infer_more.specs.Line.{is_remark, line_of, parent_of, row, slash_place}
pub use Rattle.infer_more.specs.Listed.{alternative_listed, part_listed, row_listed}
pub use Rattle.infer_more.specs.Listed.{signature_listed}
pub use Rattle.infer_more.specs.Open.{is_row_sound}
pub use Rattle.infer_more.specs.Outline.{lines, outline}
pub use Rattle.infer_more.specs.Row.{Further, is_inside, is_row_closed}
pub use Rattle.infer_more.specs.Samples.{Reaches, built_in_sample, further_sample, has_room, model, parent_sample}
pub use Rattle.infer_more.specs.Samples.{parts_of, written}
unfoldable pub use Rattle.infer_more.specs.Table.{archives, code, further, headers, images, late, markup, media}
unfoldable pub use Rattle.infer_more.specs.Table.{packages, records}
unfoldable pub use Rattle.infer_more.specs.Table.{disks, elements, games, kinds, office, others, packed}
unfoldable pub use Rattle.infer_more.specs.Table.{papers, pictures, rasters, roots, sounds, stores, scripts, documents, secrets, openings, prefaces, bitmaps, shapes, chunks, tunes, squeezed, bundles, volumes, assorted, databases, science, measures, prints, compiled, keyrings, consoles, shallow, schemas, dialects, notations, unheaded, mended, remarks, captions, headlines, inner, deeper, farther, buried, letters, settings, scores, objects, texts}
pub use Rattle.infer_more.specs.Text.{Answers, IsFirstShown, found_shows, is_line_end, left_size, lines_of, rows_in}
pub use Rattle.infer_more.specs.Text.{rows_left, rows_of, with_row}
unfoldable pub use Rattle.infer_more.specs.Wider.{shown}
pub use Rattle.infer_more.specs.Wider.{IsWider, Widens, WidensAt, wider}
pub use Rattle.infer_more.specs.declared.index.Below.{Below}
pub use Rattle.infer_more.specs.declared.index.Below.TheVariants.{Nothing}
pub use Rattle.infer_more.specs.declared.index.Named.{Named}
pub use Rattle.infer_more.specs.declared.index.Parentless.{Parentless}
pub use Rattle.infer_more.specs.declared.index.generated.TheConstants.{FURTHER_COUNT}
pub use Rattle.infer_more.specs.declared.samples.TheConstants.{SAMPLE_SIZE}
pub use Rattle.infer_more.specs.declared.row_data.Piece.{Piece}
pub use Rattle.infer_more.specs.declared.row_data.FurtherRow.{FurtherRow}
