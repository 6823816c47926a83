-- What many proofs name, passed on.
-- of the library
pub use Rattle.std.proofs.Common.{[], ◌%◌, ◌*◌, ◌++◌, ◌+◌, ◌-◌, ◌/◌, ◌<◌, ◌==◌, ◌^◌, ◌||◌, ◌↔◌, ◌∙◌, ◌∷◌, ◌≡◌, ◌≤◌, ◌⊎◌}
pub use Rattle.std.proofs.Common.{Bool, IsTrue, List, MatchOption, None, Option, Some, ℕ, add-zero, ap, append_assoc}
pub use Rattle.std.proofs.Common.{arith, codes, drop, eq-eqb, eqb, false, get_or, inl, inr, is_some, length}
pub use Rattle.std.proofs.Common.{length-append, length-drop, map, max, min, nat_eq, refl, subst, suc, sym, take, true}
pub use Rattle.std.proofs.Common.{zero}
pub use Rattle.std.specs.Prelude.{◌&&◌, if◌then◌else◌, nat_le, nat_lt, not, replicate, slice_index, slice_range}
-- of its lists, tests and options
pub use Rattle.std.proofs.Math.ListN.{get_or-eq_default}
pub use Rattle.std.proofs.Math.Seq.{get_or-append_right}
pub use Rattle.std.proofs.lemmas.Bool.{OnTrue_at, and_from, and_parts, cases_lt, eqb-true, false_from_ne_true}
pub use Rattle.std.proofs.lemmas.Bool.{false≢true, le-leb, leb-true, lt-ltb, or_left, or_right, true≢false}
pub use Rattle.std.proofs.lemmas.Bool.Decides.{Decides-eqb, nat_tests}
pub use Rattle.std.proofs.lemmas.Grind.{get_or_default_zero}
pub use Rattle.std.proofs.lemmas.List.{drop-append-le, drop_all, drop_more, ext_get_or, get_or-drop, get_or-replicate}
pub use Rattle.std.proofs.lemmas.List.{get_or-take, get_or_append_left, length-replicate, take_rest}
pub use Rattle.std.proofs.lemmas.Slice.Eq.{slice_eq-Decides}
pub use Rattle.std.specs.Bool.{OnTrue}
pub use Rattle.std.specs.Int.{bit_at}
pub use Rattle.std.specs.List.{list_all}
pub use Rattle.std.proofs.Common.{append-nil, cond, length-take, take-append-drop, take_all, w64, w8}
-- of the crates below
pub use Rattle.memchr.specs.Find.{IsFirstByte, Nowhere, OccursAt, Passes, is_byte}
pub use Rattle.infer_deep.proofs.NumberLemmas.{be32-append, le16-append, le32-append}
pub use Rattle.infer_deep.proofs.OpenLemmas.{IsBytes, agrees_past, grown_agrees, test_from_reads}
pub use Rattle.infer_deep.proofs.PlaceLemmas.{IsFirstPlace-same, OccursAt-append, OccursAt-begins, OccursAt-first}
pub use Rattle.infer_deep.proofs.PlaceLemmas.{OccursAt-front, OccursAt-part, part_reads}
pub use Rattle.infer_deep.proofs.SearchLemmas.{IsFirstWithin-skip}
pub use Rattle.infer_deep.specs.Blocks.{AllBelow}
unfoldable pub use Rattle.infer_deep.specs.Numbers.{le16}
pub use Rattle.infer_deep.specs.Numbers.{be32}
pub use Rattle.infer_deep.specs.Office.{zip_header}
pub use Rattle.infer_deep.specs.Open.{AgreesAt, are_bytes}
pub use Rattle.infer_deep.specs.Places.{FindsPlace, IsFirstWithin, IsWithin}
pub use Rattle.infer_deep.specs.Signatures.{Lasts, MayBecome}
pub use Rattle.infer_sig.specs.Places.{StandsByPlace}
pub use Rattle.infer_sig.specs.Signature.{Part, accepts, all_but, allows, any_of, at_least, between, fits, has_part}
pub use Rattle.infer_sig.specs.Signature.{stands}
-- of the definitions
pub use Rattle.infer_formats.specs.Dbase.{BeginsName, IsDbase, after, versions}
pub use Rattle.infer_formats.specs.Elf.{AsksAt, HasOwnTable, IsSharedObject, counted_length, entry_count, entry_size}
pub use Rattle.infer_formats.specs.Elf.{known_size, table_place}
pub use Rattle.infer_formats.specs.Json.{BeginsLines, BeginsText, BeginsToken, BeginsWhole, AfterBlanks, CanBe}
pub use Rattle.infer_formats.specs.Json.{IsAmong, IsBlank, IsJson, IsJsonLines, SaysJson, IsStructural, NoneGoesOn}
pub use Rattle.infer_formats.specs.Json.{BeginsWithToken, Stands, Symbol, UpToMark, blanks, by_rule, byte, char, chars}
pub use Rattle.infer_formats.specs.Json.{digit, digits, escape, exact, exponent, fraction, hex, items, member, members}
pub use Rattle.infer_formats.specs.Json.{more_items, more_members, next_line, nothing, number, one, power, range, rules}
pub use Rattle.infer_formats.specs.Json.{same_line, text, value, integer}
unfoldable pub use Rattle.infer_formats.specs.JsonStates.{frames}
pub use Rattle.infer_formats.specs.JsonStates.{EndSays, EndsNumber, Follows, IsBracket, IsClosedTo, SaysJsonBefore}
pub use Rattle.infer_formats.specs.JsonStates.{SaysJsonPastMark, IsNextLine, IsNested, IsPast, IsPastMark, Leaves}
pub use Rattle.infer_formats.specs.JsonStates.{LineSays, MayGoOn, NoToken, Onward, PlaceSays, Reads, Starts}
pub use Rattle.infer_formats.specs.JsonStates.{StartsLine, SaysAsMuch, closing, due_left, first_in, left, more_in}
pub use Rattle.infer_formats.specs.JsonStates.{next_left, beginning}
pub use Rattle.infer_formats.specs.Markup.{AgreesWithDoctype, BeginsAt, BeginsElement, ClosesDeclaration, HasInTag}
pub use Rattle.infer_formats.specs.Markup.{HasRoot, HasRootWith, IsDoctype, IsEnclosed, IsMisc, IsNameByte, IsPart}
pub use Rattle.infer_formats.specs.Markup.{IsRootElement, IsSpaceRun, EndsType, IsXmlSpace, ReachesTag, MayStart}
pub use Rattle.infer_formats.specs.Markup.{MayReachTag, StartsTag, utf8_mark}
unfoldable pub use Rattle.infer_formats.specs.Numbers.{be16}
pub use Rattle.infer_formats.specs.Numbers.{bytes16, low_bytes, number16, number32, number64}
pub use Rattle.infer_formats.specs.Png.{IsAnimated, IsAnimatedFrom, png_header}
pub use Rattle.infer_formats.specs.Runs.{IsAfterLast, IsNext, IsRun}
pub use Rattle.infer_formats.specs.Script.{EndsBare, HasEquals, IsEnv, IsFirstWord, IsFolder, IsLineEnd, IsNameOf}
pub use Rattle.infer_formats.specs.Script.{IsNextWord, IsProgram, IsRead, IsSetting, IsVersionByte, IsWord, IsWordByte}
pub use Rattle.infer_formats.specs.Script.{NamesProgram}
pub use Rattle.infer_formats.specs.Subtitles.{AreDigits, EndsLine, IsCue, IsDigit, IsPairAt, IsSubRip, IsTime, GoesOn}
pub use Rattle.infer_formats.specs.Subtitles.{MayBeSubRip, MayBeginCue}
unfoldable pub use Rattle.infer_formats.specs.Tar.{header_sum}
pub use Rattle.infer_formats.specs.Tar.{HasTarChecksum, IsField, IsOctal, octal, sum_from}
pub use Rattle.infer_formats.specs.Text.{BeginsUtf8, IsBinary, IsCutLen, IsDataByte, IsPlainByte, IsText, MayBeginChar}
pub use Rattle.infer_formats.specs.Text.{MayFollow, SomeBelow}
pub use Rattle.infer_formats.specs.Tiff.{BeginsTiff, HasTag, IsTagEntry}
pub use Rattle.infer_formats.specs.Zip.{FirstEntryEndsIn, FirstEntryHasExtra, FirstEntryIs, IsFirstFolder}
pub use Rattle.infer_formats.specs.Zip.{IsFolderEntry, IsPackageWith, IsPartEntry, MayBeginPackage, applications}
pub use Rattle.infer_formats.specs.declared.json.reader.Due.{Due}
pub use Rattle.infer_formats.specs.declared.json.reader.Due.TheVariants.{After, Colon, First, Key, Value}
pub use Rattle.infer_formats.specs.declared.json.Json.{Json}
pub use Rattle.infer_formats.specs.declared.json.Json.TheVariants.{Lines, Text}
pub use Rattle.infer_formats.specs.declared.json.reader.Next.{Next}
pub use Rattle.infer_formats.specs.declared.json.reader.Next.TheVariants.{Between, Closed, InKey, InValue}
pub use Rattle.infer_formats.specs.declared.json.reader.Reader.{Reader}
pub use Rattle.infer_formats.specs.declared.json.token.Step.TheVariants.{Ended, EndedBefore, Inside, Wrong}
pub use Rattle.infer_formats.specs.declared.json.token.Token.{Token}
pub use Rattle.infer_formats.specs.declared.json.token.Token.TheVariants.{Char1, Char2, Char3, CharE0, CharEd, CharF0}
pub use Rattle.infer_formats.specs.declared.json.token.Token.TheVariants.{CharF4, Chars, Escape, Exponent, F, Fa, Fal}
pub use Rattle.infer_formats.specs.declared.json.token.Token.TheVariants.{Fals, Fraction, Hex1, Hex2, Hex3, Hex4, Minus}
pub use Rattle.infer_formats.specs.declared.json.token.Token.TheVariants.{N, Nu, Nul, Point, Power, Sign, T, Tr, Tru}
pub use Rattle.infer_formats.specs.declared.json.token.Token.TheVariants.{Integer, Zero}
pub use Rattle.infer_formats.specs.Open.{MayBe, Stays}
pub use Rattle.infer_formats.specs.Outline.{counted, counted_for, digit_after, digits_after, json_outline}
pub use Rattle.infer_formats.specs.Outline.{markup_lines, named}
pub use Rattle.infer_formats.specs.Relation.{Fits, HasLines, Relation, animated, class_id, dbase, directory_tag}
pub use Rattle.infer_formats.specs.Relation.{first_entry_ends_in, first_entry_has_extra, first_entry_is, is_lasting}
pub use Rattle.infer_formats.specs.Relation.{json_lines, json_text, lines, package_with, plain_text, program}
pub use Rattle.infer_formats.specs.Relation.{relation_listed, root, root_with, shared_object, subrip, tar_checksum}
