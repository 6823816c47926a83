-- What is said of a buffer is said of the writer below it, which got the buffer's bytes, and what is said through watched
-- writers is said of the writers below them.
use Rattle.std.proofs.Common.{◌≡◌, ◌≢◌, ℕ, Bool, true, false, List, Option, None, Some, IsTrue, IfSome, ap, ap₂, refl, subst, sym, ◌∙◌}
use Rattle.std.specs.Bool.{OnFalse}
use Rattle.std.specs.Io.KnownBytes.{Appends, Keeps}
use Rattle.std.specs.Option.{is_none, option_and_then}
use Rattle.infer_lines.specs.Outcome.{outcome_after, worse_of}
use Rattle.infer_lines.specs.Said.{Refuses, RefusesBy, Says, SaysThrough, Saying, unless_failed}
use Rattle.infer_lines.specs.Writer.{IsAfter, has_failed, inner}
use Rattle.infer_lines.specs.declared.outcome.Outcome.{Outcome}
use Rattle.infer_lines.specs.declared.outcome.Outcome.TheVariants.{Failed}
use Rattle.infer_lines.specs.declared.writer.Output.{Output}

pub keeps_itself : (bytes : Option (List ℕ)) → Keeps bytes bytes
keeps_itself None = tt
keeps_itself (Some xs) = refl

pub keeps_unless_failed : (failed : Bool) (bytes : Option (List ℕ)) → Keeps (unless_failed failed bytes) bytes
keeps_unless_failed true bytes = tt
keeps_unless_failed false bytes = keeps_itself bytes

-- what is known of a writer's bytes before and after says no more of a second pair: nothing is known before, or the
-- second pair begins with the same bytes and what came after them is kept
abbrev pub Moved : (old new before after : Option (List ℕ)) → Type 0
Moved old new before after = IfSome before (λ xs. (old ≡ Some xs) × Keeps new after)

pub moved_itself : (old new : Option (List ℕ)) → Moved old new old new
moved_itself None new = tt
moved_itself (Some xs) new = (refl, keeps_itself new)

pub appends-moved : (old new before after : Option (List ℕ)) (bs : List ℕ) → Moved old new before after → Appends old new bs → Appends before after bs
appends-moved old new None after bs moved grown = tt
appends-moved old new (Some xs) after bs (same, kept) grown = appended new after (subst (λ o. Appends o new bs) same grown) kept
  where
    appended : (new after : Option (List ℕ)) → Appends (Some xs) new bs → Keeps new after → Appends (Some xs) after bs
    appended None after grown kept = absurd grown
    appended (Some ys) None grown kept = absurd kept
    appended (Some ys) (Some zs) grown kept = kept ∙ grown

pub keeps-moved : (old new before after : Option (List ℕ)) → Moved old new before after → Keeps old new → Keeps before after
keeps-moved old new None after moved kept = tt
keeps-moved old new (Some xs) after (same, later) kept = both new after (subst (λ o. Keeps o new) same kept) later
  where
    both : (new after : Option (List ℕ)) → Keeps (Some xs) new → Keeps new after → Keeps (Some xs) after
    both None after kept later = absurd kept
    both (Some ys) None kept later = absurd later
    both (Some ys) (Some zs) kept later = later ∙ kept

-- so it is in two steps
pub in_two : (old between new before after : Option (List ℕ)) → Moved old new before after
    → (middle : Option (List ℕ)) × Moved old between before middle × Moved between new middle after
in_two old between new None after moved = (None, tt, tt)
in_two old None new (Some xs) after (same, kept) = (None, (same, tt), tt)
in_two old (Some ys) new (Some xs) after (same, kept) = (Some ys, (same, refl), (refl, kept))

-- what is said of two writers is said of what is known of them less
abbrev pub Moves : Saying → Type 0
Moves Said = (o : Outcome) (old new eo en before after eb ea : Option (List ℕ)) → Moved old new before after → Moved eo en eb ea
    → Said o old new eo en → Said o before after eb ea

pub later_moved : (failed fails : Bool) → (IsTrue failed → IsTrue fails) → (old new : Option (List ℕ))
    → Moved (unless_failed failed old) new (unless_failed fails old) (unless_failed fails new)
later_moved failed true remembers old new = tt
later_moved false false remembers old new = moved_itself old new
later_moved true false remembers old new = absurd (let e = remembers refl in cc)

-- the worst of two outcomes is that of what they are after a failure
pub worse_after : (before after : Bool) → (IsTrue before → IsTrue after) → (so_far earlier result outcome : Outcome)
    → outcome_after before so_far ≡ outcome_after before earlier → result ≡ outcome_after after outcome
    → outcome_after after (worse_of so_far result) ≡ outcome_after after (worse_of earlier outcome)
worse_after before true remembers so_far earlier result outcome same is = refl
worse_after true false remembers so_far earlier result outcome same is = absurd (let e = remembers refl in cc)
worse_after false false remembers so_far earlier result outcome same is = ap₂ worse_of same is

-- a run that has not ended as `Failed` has a writer that has not
unfailed : (failed : Bool) (result outcome : Outcome) → result ≢ Failed → result ≡ outcome_after failed outcome → (failed ≡ false) × (outcome ≡ result)
unfailed true result outcome fine is = absurd (fine is)
unfailed false result outcome fine is = (refl, sym is)

pub refuses_moves : (refusal : List ℕ) → Moves (Refuses refusal)
refuses_moves refusal o old new eo en before after eb ea m e (is, kept, told) =
    (is, keeps-moved old new before after m kept, appends-moved eo en eb ea refusal e told)

-- a refusal is `Failed` whether or not a writer has failed, and its line is told of one that has not
failed_is_failed : (failed : Bool) → Failed ≡ outcome_after failed Failed
failed_is_failed true = refl
failed_is_failed false = refl

appends_told : (failed : Bool) (old new : Option (List ℕ)) (refusal : List ℕ) → OnFalse failed (Appends old new refusal)
    → Appends (unless_failed failed old) new refusal
appends_told true old new refusal told = tt
appends_told false old new refusal told = told

module _ {W E : Type 0} (contents : W → Option (List ℕ)) (err_contents : E → Option (List ℕ)) (old new : Output W E) (result : Outcome) where
  -- what a run that has not failed said through an output is said of the writers below it
  pub said_plainly : (out out_after : W) (err err_after : E) → inner old.out ≡ out → inner new.out ≡ out_after → inner old.err ≡ err → inner new.err ≡ err_after
      → has_failed old.err ≡ false → IsAfter old new result → (Said : Saying) → Says contents err_contents old new result Said
      → result ≢ Failed → Said result (contents out) (contents out_after) (err_contents err) (err_contents err_after)
  said_plainly out out_after err err_after o oa e ea fresh after Said (outcome, is, said) fine =
      let (going, same) = unfailed (has_failed new.out) result outcome fine is in
      let quiet : has_failed new.err ≡ false = ap has_failed (after.2 fine) ∙ fresh in
      rw (going, quiet, same, o, oa, e, ea) at said

  -- a line that refuses wrong words is said
  pub refused_is_said : (refusal : List ℕ) → RefusesBy err_contents old new result refusal → Says contents err_contents old new result (Refuses refusal)
  refused_is_said refusal (is, same, told) = (
    Failed,
    is ∙ failed_is_failed (has_failed new.out),
    (
      refl,
      subst (λ w. Keeps (unless_failed (has_failed new.out) (contents (inner old.out))) (contents (inner w))) (sym same)
          (keeps_unless_failed (has_failed new.out) (contents (inner old.out))),
      appends_told (has_failed new.err) (err_contents (inner old.err)) (err_contents (inner new.err)) refusal told,
    ),
  )

-- a buffer that gave its writer back, or failed
module _ {W : Type 0} (contents : W → Option (List ℕ)) (out : W) where
  moved_over : (bytes first last after : Option (List ℕ)) → Keeps bytes first → Keeps last after → Moved first last bytes after
  moved_over None first last after kept left = tt
  moved_over (Some xs) None last after kept left = absurd kept
  moved_over (Some xs) (Some ys) last after kept left = (ap Some kept, left)

  moved_below : (given : Option W) (failed : Bool) (first last : Option (List ℕ)) → Keeps (contents out) first
      → IfSome given (λ w. Keeps last (contents w)) → (failed ≡ true → given ≡ None)
      → Moved (unless_failed failed first) last (unless_failed (is_none given) (contents out)) (option_and_then contents given)
  moved_below None failed first last kept left lost = tt
  moved_below (Some w) true first last kept left lost = absurd (let e = lost refl in cc)
  moved_below (Some w) false first last kept left lost = moved_over (contents out) first last (contents w) kept left

same_outcome : {W : Type 0} (given : Option W) (failed : Bool) (result outcome : Outcome) → (failed ≡ true → given ≡ None)
    → result ≡ outcome_after failed outcome → outcome_after (is_none given) result ≡ outcome_after (is_none given) outcome
same_outcome None failed result outcome lost is = refl
same_outcome (Some w) true result outcome lost is = absurd (let e = lost refl in cc)
same_outcome (Some w) false result outcome lost is = is

-- what is said of two buffers is said of what they were made over, if they gave it back
pub said_through : {W E B C : Type 0} (contents : W → Option (List ℕ)) (err_contents : E → Option (List ℕ)) (held : B → Option (List ℕ)) (err_held : C → Option (List ℕ))
    (out : W) (err : E) (old new : Output B C) (result : Outcome) (done : Outcome × (Option W × Option E)) → done.0 ≡ outcome_after (is_none done.1.0) result
    → Keeps (contents out) (held (inner old.out)) → IfSome done.1.0 (λ w. Keeps (held (inner new.out)) (contents w)) → (has_failed new.out ≡ true → done.1.0 ≡ None)
    → Keeps (err_contents err) (err_held (inner old.err)) → IfSome done.1.1 (λ e. Keeps (err_held (inner new.err)) (err_contents e)) → (has_failed new.err ≡ true → done.1.1 ≡ None)
    → (Said : Saying) → Moves Said → Says held err_held old new result Said → SaysThrough contents err_contents out err done Said
said_through contents err_contents held err_held out err old new result done is kept left lost err_kept err_left err_lost Said moves (outcome, same, said) = (
  outcome,
  is ∙ same_outcome done.1.0 (has_failed new.out) result outcome lost same,
  moves outcome _ _ _ _ _ _ _ _ (moved_below contents out done.1.0 (has_failed new.out) (held (inner old.out)) (held (inner new.out)) kept left lost)
      (moved_below err_contents err done.1.1 (has_failed new.err) (err_held (inner old.err)) (err_held (inner new.err)) err_kept err_left err_lost) said,
)
