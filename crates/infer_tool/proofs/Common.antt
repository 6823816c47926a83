-- What nearly every proof names, passed on.
unfoldable pub use Rattle.infer.proofs.Common.{table}
pub use Rattle.infer.proofs.Common.{◌≡◌, ℕ, Bool, true, false, List, [], ◌++◌, ◌∷◌, Option, None, Some, refl, sym, subst, ◌∙◌, Appends, ◌+◌, ◌<◌, length, map, take, get_or, ap, map_more, MatchOption, ◌-◌, ◌≤◌, ◌⊎◌, inl, inr, arith, OnFalse, HoldsAt, take_at, length-map, BuiltIn, Row, IsFirst, IsFirstOf, HasExtension, HoldsSample, sample_of, zeros, codes, rules, string_bytes, tests, first_from_Range}
pub use Rattle.infer_lines.specs.Outcome.{outcome_after, worse_of}
pub use Rattle.infer_tool.specs.Reader.{ReportsReader, LosesFront, LosesUntilFinal}
pub use Rattle.infer_lines.specs.Said.{Says, Saying, unless_failed}
pub use Rattle.infer_tool.specs.Report.{ReportsInput, told}
pub use Rattle.infer_tool.specs.Run.{ReportsEach, no_input, one_more}
pub use Rattle.infer_tool.specs.Sample.{WritesSample, HasSample}
pub use Rattle.infer_lines.specs.Writer.{IsAfter, has_failed, inner}
pub use Rattle.infer_lines.specs.declared.outcome.Outcome.{Outcome}
pub use Rattle.infer_lines.specs.declared.outcome.Outcome.TheVariants.{Known}
