-- Why bytes have their answer: which of them tell it, and what is needed of their length.
use Rattle.std.specs.Prelude.{◌≡◌, ◌==◌, ◌||◌, ℕ, Bool, true, false, List, [], Option, None, Some, IfSome, MatchBool, MatchOption, drop, if◌then◌else◌, length, map, nat_le, take}
use Rattle.infer.specs.Evidence as built_in
use Rattle.infer.specs.First.{IsFirstOf}
use Rattle.infer.specs.Row.{Accepts}
use Rattle.infer.specs.Table.{table}
use Rattle.infer_evidence.specs.Evidence.{IsOf, ranges_of, row_of}
use Rattle.infer_evidence.specs.declared.ranges.Evidence.{Evidence}
use Rattle.infer_evidence.specs.declared.ranges.Range.{Range}
use Rattle.infer_evidence.specs.declared.ranges.TheConstants.{MOST_RANGES}
use Rattle.infer_more.specs.Evidence as wider
use Rattle.infer_more.specs.Wider.{IsWider}
use Rattle.infer_label.specs.declared.options.Look.{Look}
use Rattle.infer_label.specs.declared.options.Look.TheVariants as looks
use Rattle.infer_label.specs.declared.why.Reason as reason_code
use Rattle.infer_label.specs.declared.why.Why as code

-- bytes that tell: the place of the first, how many they are, how far each other stands after the one before, the bytes if
-- they stand side by side, the row of which they tell, if it is a single one, and whether it accepts by them
pub record Reason : Type 0 where
  pub place : ℕ
  pub len : ℕ
  pub step : ℕ
  pub bytes : List ℕ
  pub row : Option ℕ
  pub accepts : Bool

-- the row that is the answer, the reasons, the length that is needed at least, whether just that is, and whether these are all
-- reasons
pub record Why : Type 0 where
  pub answer : Option ℕ
  pub reasons : List Reason
  pub least : ℕ
  pub is_exact : Bool
  pub is_whole : Bool

abbrev pub is_that : Option ℕ → ℕ → Bool
is_that None i = false
is_that (Some j) i = j == i

-- the row is the answer, or the built-in one, of which the answer may be a finer kind
abbrev pub is_accepting : (answer built_in : Option ℕ) → Option ℕ → Bool
is_accepting answer built_in None = false
is_accepting answer built_in (Some i) = is_that answer i || is_that built_in i

-- the bytes of a range of b, if they stand side by side
abbrev pub bytes_of : List ℕ → Range → List ℕ
bytes_of b r = if r.step == 1 then take r.len (drop r.place b) else []

-- the reason that a range of b is
abbrev pub reason_of : List ℕ → (answer built_in : Option ℕ) → Range → Reason
reason_of b answer built_in r = record {
  place = r.place;
  len = r.len;
  step = r.step;
  bytes = bytes_of b r;
  row = row_of r;
  accepts = is_accepting answer built_in (row_of r);
}

-- what evidence of b tells
abbrev pub why_by : List ℕ → (answer built_in : Option ℕ) → Evidence → Why
why_by b answer built_in e = record {
  answer = answer;
  reasons = map (reason_of b answer built_in) (ranges_of e);
  least = if e.exact then length b else e.least;
  is_exact = e.exact;
  is_whole = nat_le e.count MOST_RANGES;
}

-- why b has its wider answer: by evidence that decides it
pub record IsWiderWhy (b : List ℕ) (why : Why) : Type 0 where
  pub answer : Option ℕ
  pub built_in_answer : Option ℕ
  pub evidence : Evidence
  pub is_wider : IsWider b answer
  pub is_built_in : IsFirstOf (Accepts b) table built_in_answer
  pub inside : IsOf evidence b
  pub decides : wider.Decides evidence b answer
  pub is : why ≡ why_by b answer built_in_answer evidence

-- why it has its built-in one
pub record IsBuiltInWhy (b : List ℕ) (why : Why) : Type 0 where
  pub answer : Option ℕ
  pub evidence : Evidence
  pub is_built_in : IsFirstOf (Accepts b) table answer
  pub inside : IsOf evidence b
  pub decides : built_in.Decides evidence b answer
  pub is : why ≡ why_by b answer answer evidence

-- the same by what is looked at. Of what a browser makes of bytes it is not told
abbrev pub IsWhyBy : Look → List ℕ → Option Why → Type 0
IsWhyBy looks.NameAndBytes b why = MatchOption why ⊥ (IsWiderWhy b)
IsWhyBy looks.Bytes b why = MatchOption why ⊥ (IsWiderWhy b)
IsWhyBy looks.BuiltIn b why = MatchOption why ⊥ (IsBuiltInWhy b)
IsWhyBy looks.Browser b why = why ≡ None
IsWhyBy looks.BrowserForbidden b why = why ≡ None

-- what is told is so, by what is looked at
abbrev pub IsReported : Look → List ℕ → Option Why → Type 0
IsReported look b why = IfSome why (λ w. IsWhyBy look b (Some w))

-- it is told if it is asked for, and there are bytes
abbrev pub IsWhy : Bool → Look → List ℕ → Option Why → Type 0
IsWhy true look b why = MatchBool (length b == 0) (why ≡ None) (IsWhyBy look b why)
IsWhy false look b why = why ≡ None

-- both as the code has them
abbrev pub reason_listed : reason_code.Reason → Reason
reason_listed r = record { place = r.place; len = r.len; step = r.step; bytes = r.bytes.now; row = r.row; accepts = r.accepts }

abbrev pub why_listed : code.Why → Why
why_listed w = why_by w.buf.now w.answer w.built_in w.evidence
