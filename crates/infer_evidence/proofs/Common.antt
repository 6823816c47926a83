-- What the proofs of this crate use.
pub use Rattle.std.proofs.Common.{◌≡◌, ◌≢◌, ◌↔◌, ◌+◌, ◌-◌, ◌<◌, ◌≤◌, ◌⊎◌, ◌&&◌, ◌||◌, ◌==◌, ◌∷◌, ◌++◌, ◌∙◌, ℕ, zero, suc, Bool, true, false, List, [], IsTrue, length, map, take, drop, get_or, set, nat_le, nat_lt, nat_eq, ap, subst, sym, arith, refl}
pub use Rattle.std.specs.Prelude.{All, not}
pub use Rattle.std.proofs.lemmas.Grind.{take-set_at}
pub use Rattle.std.proofs.lemmas.List.{get_or_append_left, length-take-le, take-set-le, take_all, length-append, length-map}
pub use Rattle.std.proofs.Math.Seq.{get_or-append_right}
pub use Rattle.infer_evidence.specs.Evidence.{AgreesOn, Grows, HasSame, IsInside, IsOf, IsAround, IsSame, place_in, ranges_of, row_of}
pub use Rattle.infer_evidence.specs.declared.ranges.Evidence.{Evidence}
pub use Rattle.infer_evidence.specs.declared.ranges.Range.{Range}
pub use Rattle.std.proofs.lemmas.List.Elements.{All-push, All-take, All-nil}
pub use Rattle.infer_evidence.specs.Listed.{alternative_listed, part_listed, signature_listed}
pub use Rattle.infer_evidence.specs.Weighed.{Differs, StandsNone, most_parts, most_ranges}
pub use Rattle.infer_sig.specs.Places.{StandsByPlace}
pub use Rattle.std.specs.List.{AllWithin, HoldsAt, list_all, list_any}
pub use Rattle.std.proofs.lemmas.List.Elements.{AllWithin-more, AllWithin-none}
pub use Rattle.std.proofs.lemmas.Bool.{false≢true, and_parts, and_from, cases_Bool, lt-ltb, ltb-true}
pub use Rattle.std.specs.Prelude.{min}
pub use denote.Ref.{Bor}
pub use Rattle.std.proofs.lemmas.List.{get_or_default}
pub use Rattle.std.specs.Prelude.{Any}
pub use Rattle.infer_evidence.specs.Weighed.{HasAlternative, HasPart, HasSignature}
pub use Rattle.std.proofs.lemmas.Bool.{leb-true, le-leb}
pub use Rattle.std.proofs.lemmas.List.Folds.{Any-from_list_any, list_any-from_Any}
pub use Rattle.std.proofs.lemmas.List.Sums.{AllPass-from_list_all, list_all-from_AllPass}
pub use Rattle.infer_evidence.specs.Listed.{set_listed}
pub use Rattle.infer_evidence.specs.declared.signature.Alternative.{Alternative}
pub use Rattle.infer_evidence.specs.declared.signature.Part.{Part}
pub use Rattle.infer_evidence.specs.declared.signature.Part.TheVariants.{AnyText, Byte, Text}
pub use Rattle.infer_sig.specs.Signature.{allows, accepts, fits, has_part}
unfoldable pub use Rattle.infer_sig.specs.Signature.{stands}
pub use Rattle.std.proofs.Common.{inl, inr}
pub use Rattle.std.proofs.lemmas.Bool.{cases_lt}
pub use Rattle.memchr.specs.Find.{OccursAt}
pub use Rattle.infer_deep.specs.Places.{IsWithin}
pub use Rattle.infer_deep.specs.Windows.{StandsBy}
pub use Rattle.infer_evidence.specs.Searched.{IsHit, StandsNowhereBy}
pub use Rattle.infer_evidence.specs.declared.search.Hit.{Hit}
pub use Rattle.std.specs.Prelude.{max}
pub use Rattle.std.specs.Prelude.{None, Some}
