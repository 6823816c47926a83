-- What many proofs name, passed on.
-- of the library
pub use Rattle.std.proofs.Common.{[], ◌&&◌, ◌++◌, ◌+◌, ◌<◌, ◌==◌, ◌||◌, ◌∙◌, ◌∷◌, ◌≡◌, ◌≤◌, ◌⊎◌}
pub use Rattle.std.proofs.Common.{Bool, IsTrue, List, None, Option, Some, ℕ}
pub use Rattle.std.proofs.Common.{ap, arith, codes, cond, drop, false, get_or, inl, inr, length, map, nat_eq, nat_le}
pub use Rattle.std.proofs.Common.{nat_lt, not, option_map, refl, rules, slice_index, subst, suc, sym, take, true, zero}
-- of its lists, tests and options
pub use Rattle.std.proofs.lemmas.Bool.{and_parts, cases_Bool, cases_lt, eqb-true, false≢true, le-leb, leb-true, lt-leb}
pub use Rattle.std.proofs.lemmas.Bool.{lt-ltb, ltb-true, or_cases}
pub use Rattle.std.proofs.lemmas.Bool.Decides.{nat_tests}
pub use Rattle.std.proofs.lemmas.List.{append-nil, at_drop_all, at_drop_more, drop-drop, drop_all, drop_more}
pub use Rattle.std.proofs.lemmas.List.{length-drop, length-map}
pub use Rattle.std.proofs.lemmas.List.Elements.{All-cons, All-nil}
pub use Rattle.std.proofs.lemmas.List.Splits.{slice_split-cons_no, slice_split_at, slice_split_none}
pub use Rattle.std.proofs.lemmas.Option.{cond_some}
pub use Rattle.std.proofs.lemmas.Result.{err_from_is_err_and}
pub use Rattle.std.proofs.lemmas.Slice.Eq.{bytes_eq-Decides}
pub use Rattle.std.specs.List.{All, list_all, list_any, onto_first, prefix_len, slice_split, starts_with}
pub use Rattle.std.specs.Str.{bytes_eq}
-- of the crates below
unfoldable pub use Rattle.infer_sig.specs.Signature.{stands}
pub use Rattle.infer_sig.specs.Signature.{Part, all_but, allows, any_of, between, byte, has_part, text}
-- of the definitions
pub use Rattle.infer_notation.specs.Alternative.{Accepted, Alternative, related}
pub use Rattle.infer_notation.specs.Described.{BeginsWith, IsMadeOf, blank, by_separator, by_word, empty, in_braces}
pub use Rattle.infer_notation.specs.Described.{in_quotes, next}
unfoldable pub use Rattle.infer_notation.specs.Fixed.{step}
pub use Rattle.infer_notation.specs.Fixed.{Asked, Effect, Rest, accepts, alternatives_of, asks_binary, cursor}
pub use Rattle.infer_notation.specs.Fixed.{effect_seen, given, has_data, joined, more_read, opens, part, piece}
pub use Rattle.infer_notation.specs.Fixed.{range_of, rest_at, rest_of, rest_seen, set_part, start, state, state_taken}
pub use Rattle.infer_notation.specs.Fixed.{step_at, step_seen, within, word_part}
pub use Rattle.infer_notation.specs.Grammar.{Derives, opened, signature, tokens_at, tokens_of}
pub use Rattle.infer_notation.specs.Leads.{IsKnown, IsLed, IsRead, is_found}
pub use Rattle.infer_formats.specs.Relation.{name_listed, names}
pub use Rattle.infer_notation.specs.Relations.{IsSeen, begins_by, bytes_in, each_of, group_listed, groups_of, is_or}
pub use Rattle.infer_notation.specs.Relations.{item_of, items_in, items_of, left_groups, extra_entry}
pub use Rattle.infer_notation.specs.Relations.{named_in, programs_of, relations_in, relations_of, same_token}
pub use Rattle.infer_notation.specs.Relations.{short_groups}
unfoldable pub use Rattle.infer_notation.specs.Signature.{signature_of}
pub use Rattle.infer_notation.specs.Signature.{begins_relation, described}
unfoldable pub use Rattle.infer_notation.specs.Tokens.{token_at}
pub use Rattle.infer_notation.specs.Tokens.{bare, bare_at, is_separator, is_of, separator, quoted, quoted_at, set_at}
pub use Rattle.infer_notation.specs.Tokens.{token_listed}
pub use Rattle.infer_notation.specs.Words.{◌>>=◌, after_blanks, byte_of, byte_with, bytes_after, bytes_of}
pub use Rattle.infer_notation.specs.Words.{first_passes, found_by, hex_joined, hex_seen, is_blank, number_of}
pub use Rattle.infer_notation.specs.declared.fixed.Cursor.{Cursor}
pub use Rattle.infer_notation.specs.declared.fixed.Effect.TheVariants.{Has}
pub use Rattle.infer_notation.specs.declared.fixed.Wanted.{Wanted}
pub use Rattle.infer_notation.specs.declared.fixed.Wanted.TheVariants.{At, Binary, Byte, Colon, Length, More, Or, Place}
pub use Rattle.infer_formats.specs.declared.relation.Takes.{Takes}
pub use Rattle.infer_formats.specs.declared.relation.Takes.TheVariants.{Nothing, Program}
pub use Rattle.infer_notation.specs.declared.signature.State.{State}
pub use Rattle.infer_notation.specs.declared.tokens.Run.TheVariants.{Bare}
pub use Rattle.infer_notation.specs.declared.words.Hex.{Hex}
