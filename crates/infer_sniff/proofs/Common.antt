-- What nearly every proof names, passed on.
unfoldable pub use Rattle.infer.proofs.Common.{signature_of, table}
pub use Rattle.infer.proofs.Common.{◌≡◌, ◌↔◌, ℕ, ◌<◌, ◌≤◌, Bool, leb, List, [], ◌++◌, length, get_or, refl, sym, ap, subst, ◌∙◌, inl, inr, Option, None, Some, arith, IsTrue, length-append, cases_lt, nat_tests, append_assoc, slice_get-get_or, option_map, IsAwaited, last_awaited, NewcomersAreAwaited, BuiltIn, fixed, avif, doc, framed, heif, html, matroska, office, pdf, ppt, xls, xml, IsAccepted, IsAnswer, IsFirstOf, IsNotLater, Lasts, Row, Accepts, row, Triple, triple_of, ◌+◌, ◌-◌, ◌∷◌, map, take, min, length-take, take-append-add, length-take-le, take-append-le, append-nil, map_more, take_all, take_min, concat, ◌⊎◌, IfSome, Consumes, IsAtEnd, drop, take-append-drop, Begins, BeginsAlone, IsFirst, Breaks, head, rules}
pub use Rattle.infer.specs.Arrivals.{last_after}
pub use Rattle.infer_sniff.specs.Verdicts.{AreAlike, StaysFinalFromBeginning, IsTypeOf, IsSettled, IsVerdict, StaysFinal, RowStaysFinal, found_of, IsOneShort, KeepsOpen}
pub use Rattle.infer_sniff.specs.declared.verdict.Verdict.{Verdict}
pub use Rattle.infer_sniff.specs.declared.verdict.Verdict.TheVariants.{SoFar, Final}
