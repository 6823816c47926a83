-- What a run does, by its words.
use Rattle.std.specs.Prelude.{◌≡◌, ◌≢◌, ◌<◌, ◌≤◌, ◌⊎◌, ℕ, List, [], ◌∷◌, ◌++◌, Option, None, drop, length}
use Rattle.std.specs.Io.KnownBytes.{Keeps}
use Rattle.infer.specs.declared.read.head.TheConstants.{FRONT}
use Rattle.infer_lines.specs.Limit.{IsLimit}
use Rattle.infer_tool.specs.Line.{limits_line, no_sample_line, usage_line}
use Rattle.infer_lines.specs.Outcome.{worse_of}
use Rattle.infer_tool.specs.Reader.{LosesFront, LosesUntilFinal}
use Rattle.infer_lines.specs.Said.{Saying}
use Rattle.infer_tool.specs.Report.{ReportsInput}
use Rattle.infer_tool.specs.Sample.{HasSample, WritesSample}
use Rattle.infer_tool.specs.Words.{Asks, front_option, sample_option, second}
use Rattle.infer_lines.specs.declared.outcome.Outcome.{Outcome}
use Rattle.infer_lines.specs.declared.outcome.Outcome.TheVariants.{Known}

-- the reports of files of these names, one after the other, with the worst of their outcomes
pub data ReportsEach (n : ℕ) : List (List ℕ) → Outcome → (old new err_old err_new : Option (List ℕ)) → Type 0 where
  no_input : (old new err_old err_new : Option (List ℕ)) → Keeps old new → Keeps err_old err_new → ReportsEach n [] Known old new err_old err_new
  one_more : (names : List (List ℕ)) (name : List ℕ) (earlier outcome : Outcome) (old between new err_old err_between err_new : Option (List ℕ))
      → ReportsEach n names earlier old between err_old err_between → ReportsInput n None name outcome between new err_between err_new
      → ReportsEach n (names ++ name ∷ []) (worse_of earlier outcome) old new err_old err_new

-- what is said of standard input, of which at most n bytes are looked at, and what it loses
abbrev pub SayingOfInput : Type 1
SayingOfInput = (n : ℕ) (Lost : (old new : Option (List ℕ)) → Type 0) → Saying

-- after `--sample` the sample of an extension is written. It is told if there is none, and if no single word stands there.
pub record WritesAsked (words : List (List ℕ)) (Said : Saying → Type 0) (Refused : List ℕ → Type 0) : Type 0 where
  pub sample : length words ≡ 2 → (i : ℕ) → HasSample (second words) i → Said (WritesSample i)
  pub no_sample : length words ≡ 2 → ((i : ℕ) → ¬ HasSample (second words) i) → Refused (no_sample_line (second words))
  pub usage : length words ≢ 2 → Refused usage_line

-- after `--front` and a limit each file is reported by its front, or standard input if no file is named. It is told if
-- the limit is none, and if there is none.
pub record ReportsFronts (words : List (List ℕ)) (input : SayingOfInput) (Said : Saying → Type 0) (Refused : List ℕ → Type 0) : Type 0 where
  pub line : (n : ℕ) → IsLimit (second words) n → length words ≡ 2 → Said (input n (LosesFront n))
  pub each : (n : ℕ) → IsLimit (second words) n → length words ≢ 2 → Said (ReportsEach n (drop 2 words))
  pub no_limit : 2 ≤ length words → ((n : ℕ) → ¬ IsLimit (second words) n) → Refused limits_line
  pub usage : length words < 2 → Refused usage_line

-- a run reports standard input if it has no words, and each file if the first word is no option. `Said` tells how
-- something was said, `Refused` how the line that refuses wrong words was told, and `input` what is said of standard input.
pub record Runs (words : List (List ℕ)) (input : SayingOfInput) (Said : Saying → Type 0) (Refused : List ℕ → Type 0) : Type 0 where
  pub line : words ≡ [] → Said (input FRONT LosesUntilFinal)
  pub each : words ≢ [] → ¬ Asks sample_option words → ¬ Asks front_option words → Said (ReportsEach FRONT words)
  pub sample : Asks sample_option words → WritesAsked words Said Refused
  pub front : Asks front_option words → ReportsFronts words input Said Refused

-- the words name a limit, and no file
abbrev pub NamesNoFile : List (List ℕ) → Type 0
NamesNoFile words = (length words ≡ 2) × ((n : ℕ) × IsLimit (second words) n)

-- standard input is asked for
abbrev pub AsksForInput : List (List ℕ) → Type 0
AsksForInput words = (words ≡ []) ⊎ (Asks front_option words × NamesNoFile words)
