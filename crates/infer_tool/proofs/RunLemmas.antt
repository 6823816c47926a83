-- Reports of the inputs that words name, one word after the other, and what is said of them by other writers.
use Rattle.infer_tool.proofs.Common.{◌≡◌, ◌+◌, ◌<◌, ℕ, List, [], ◌∷◌, ◌++◌, Option, None, length, map, take, get_or, ap, subst, sym, ◌∙◌, map_more, outcome_after, worse_of, LosesFront, LosesUntilFinal, ReportsInput, ReportsReader, Says, Saying, told, unless_failed, ReportsEach, no_input, one_more, IsAfter, WritesSample, has_failed, inner, Outcome}
use Rattle.std.specs.Prelude.{IfOk}
use Rattle.infer.specs.Watched as watched
use Rattle.infer.specs.declared.read.head.TheConstants.{FRONT}
use Rattle.infer.specs.declared.read.watched.Watched.{Watched}
use Rattle.infer_lines.proofs.SaidLemmas.{Moves, appends-moved, in_two, keeps-moved, later_moved, worse_after}
use Rattle.infer_lines.specs.declared.writer.Output.{Output}
use Rattle.infer_tool.specs.Report.{IsFound}
use Rattle.infer_tool.specs.Run.{Runs, SayingOfInput}

-- what is said of two writers is said of what is known of them less
pub sample_moves : (i : ℕ) → Moves (WritesSample i)
sample_moves i o old new eo en before after eb ea m e (is, lines, faults) =
    (is, λ d. appends-moved old new before after _ m (lines d), keeps-moved eo en eb ea e faults)

pub reader_moves : {R : Type 0} (remaining : R → Option (List ℕ)) (n : ℕ) (Lost : (old new : Option (List ℕ)) → Type 0) (before after : Watched R) (name : List ℕ)
    → Moves (ReportsReader remaining n Lost before after name)
reader_moves remaining n Lost read left name o old new eo en before after eb ea m e (answer, found, (is, lines, faults)) =
    (answer, found, (is, appends-moved old new before after _ m lines, appends-moved eo en eb ea _ e faults))

pub each_moves : (n : ℕ) (names : List (List ℕ)) → Moves (ReportsEach n names)
each_moves n _ _ _ _ _ _ before after eb ea m e (no_input old new eo en kept err_kept) =
    no_input before after eb ea (keeps-moved old new before after m kept) (keeps-moved eo en eb ea e err_kept)
each_moves n _ _ _ _ _ _ before after eb ea m e (one_more names name earlier outcome old between new eo err_between en reports (answer, found, (is, grown, told))) =
    let (middle, first, then) = in_two old between new before after m in
    let (err_middle, err_first, err_then) = in_two eo err_between en eb ea e in
    one_more names name earlier outcome before middle after eb err_middle ea
    (each_moves n names earlier old between eo err_between before middle eb err_middle first err_first reports)
    (answer, found, (is, appends-moved between new middle after _ then grown, appends-moved err_between en err_middle ea _ err_then told))

-- the report of a watched reader is one of the reader below it
pub input_of_reader : {R : Type 0} (remaining : R → Option (List ℕ)) (n : ℕ) (Lost : (old new : Option (List ℕ)) → Type 0) (before after : Watched R) (reader : R)
    (name : List ℕ) (outcome : Outcome) (old new err_old err_new : Option (List ℕ)) → watched.inner before ≡ reader
    → ReportsReader remaining n Lost before after name outcome old new err_old err_new → ReportsInput n (remaining reader) name outcome old new err_old err_new
input_of_reader remaining n Lost before after reader name outcome old new eo en is (answer, answers, reports) =
    (told answer, subst (λ r. IfOk (told answer) (IsFound n (remaining r))) is answers.found, reports)

-- what a run says in one way it says in another, if all that it may say is said so
pub runs_moved : (words : List (List ℕ)) (input input_then : SayingOfInput) (Said Then : Saying → Type 0) (Refused Refused_then : List ℕ → Type 0)
    → ((n : ℕ) (Lost : (old new : Option (List ℕ)) → Type 0) → Moves (input n Lost)) → ((This : Saying) → Moves This → Said This → Then This)
    → ((n : ℕ) (Lost : (old new : Option (List ℕ)) → Type 0) → Then (input n Lost) → Then (input_then n Lost))
    → ((refusal : List ℕ) → Refused refusal → Refused_then refusal) → Runs words input Said Refused → Runs words input_then Then Refused_then
runs_moved words input input_then Said Then Refused Refused_then input_moves moved of_input refused runs = record {
  line = λ none. of_input FRONT LosesUntilFinal (moved _ (input_moves FRONT LosesUntilFinal) (runs.line none));
  each = λ some plain every. moved _ (each_moves _ _) (runs.each some plain every);
  sample = λ asks. let samples = runs.sample asks in record {
    sample = λ two i has. moved _ (sample_moves i) (samples.sample two i has);
    no_sample = λ two none. refused _ (samples.no_sample two none);
    usage = λ more. refused _ (samples.usage more);
  };
  front = λ asks. let fronts = runs.front asks in record {
    line = λ n limit two. of_input n (LosesFront n) (moved _ (input_moves n (LosesFront n)) (fronts.line n limit two));
    each = λ n limit more. moved _ (each_moves _ _) (fronts.each n limit more);
    no_limit = λ two none. refused _ (fronts.no_limit two none);
    usage = λ few. refused _ (fronts.usage few);
  };
}

-- the report of one more word
pub each-more : {A W E : Type 0} (name_of : A → List ℕ) (contents : W → Option (List ℕ)) (err_contents : E → Option (List ℕ)) (n : ℕ) (words : List A) (i : ℕ) (d : A) (name : List ℕ)
    (old between new : Output W E) (so_far result : Outcome) → i < length words → name ≡ name_of (get_or words i d) → IsAfter between new result
    → Says contents err_contents old between (outcome_after (has_failed between.out) so_far) (ReportsEach n (map name_of (take i words)))
    → Says contents err_contents between new result (ReportsInput n None name)
    → Says contents err_contents old new (outcome_after (has_failed new.out) (worse_of so_far result)) (ReportsEach n (map name_of (take (i + 1) words)))
each-more name_of contents err_contents n words i d name old between new so_far result lt named after (earlier, same, reports) (outcome, is, this) =
    let names = map name_of (take i words) in
    let more : names ++ name ∷ [] ≡ map name_of (take (i + 1) words) =
    ap (λ l. names ++ l ∷ []) named ∙ sym (map_more name_of words i d lt) in
    let before = each_moves n names earlier _ _ _ _ _ _ _ _
    (later_moved (has_failed between.out) (has_failed new.out) after.0.1 (contents (inner old.out)) (contents (inner between.out)))
    (later_moved (has_failed between.err) (has_failed new.err) after.1.1 (err_contents (inner old.err)) (err_contents (inner between.err))) reports in (
      worse_of earlier outcome,
      worse_after (has_failed between.out) (has_failed new.out) after.0.1 so_far earlier result outcome same is,
      subst (λ l. ReportsEach n l (worse_of earlier outcome) (unless_failed (has_failed new.out) (contents (inner old.out))) (contents (inner new.out))
          (unless_failed (has_failed new.err) (err_contents (inner old.err))) (err_contents (inner new.err))) more
          (one_more names name earlier outcome _ _ _ _ _ _ before this),
    )
