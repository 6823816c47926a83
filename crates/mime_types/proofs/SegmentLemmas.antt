-- Segments: how long what they leave is, and what the code's view of one shows.
use Rattle.std.proofs.Common.{◌≡◌, ◌==◌, ◌∙◌, ◌∷◌, [], ℕ, ◌+◌, ◌<◌, ◌≤◌, List, Bool, Option, true, false, None, Some, ap, arith, drop, get_or, length, length-drop, option_map, refl, sym, if◌then◌else◌}
use Rattle.mime_types.specs.Seen.{parameter_seen, segment_seen, standing_seen, written_seen}
use Rattle.mime_types.specs.Segment.{bare, named, parameter_said, quoted, quoted_len, segment, segment_of, segment_said, standing, stands, valued}
use Rattle.mime_types.specs.Text.{after, ends_name, front, is_semicolon, onward, trim_start, before}
use Rattle.mime_types.specs.declared.parameter.Parameter.{Parameter}
use Rattle.mime_types.specs.declared.segment.Segment.{Segment}

pub closes : (t : List ℕ) → 0 < length t → get_or t 0 0 ≡ 0x22 → quoted_len t ≡ 0
closes [] some is = refl
closes (x ∷ []) some is = let e : x ≡ 0x22 = is in rw e refl
closes (x ∷ y ∷ s) some is = let e : x ≡ 0x22 = is in rw e refl

after_shorter : (t : List ℕ) → length (after is_semicolon t) ≤ length t
after_shorter t = omega (arith, length-drop (before is_semicolon t + 1) t)

bare_shorter : (name s : List ℕ) → length (bare name s).rest ≤ length s
bare_shorter name s = after_shorter s

valued_shorter : (name s : List ℕ) → length (valued name s).rest ≤ length s
valued_shorter name [] = bare_shorter name []
valued_shorter name (x ∷ s) = cases (x == 0x22)
  where
    cases : (b : Bool) → length (if b then quoted name s else bare name (x ∷ s)).rest ≤ length (x ∷ s)
    cases true = let less = after_shorter (drop (quoted_len s) s) in omega (arith, length-drop (quoted_len s) s)
    cases false = bare_shorter name (x ∷ s)

named_shorter : (name s : List ℕ) (n : ℕ) → length s ≤ n → 0 < n → length (named name s).rest < n
named_shorter name [] n fits some = omega arith
named_shorter name (x ∷ s) n fits some = cases (x == 0x3D)
  where
    cases : (b : Bool) → length (if b then valued name s else standing None s).rest < n
    cases true = let less = valued_shorter name s in omega arith
    cases false = omega arith

-- a segment takes a byte at least
pub leaves_less : (s : List ℕ) → 0 < length s → length (segment s).rest < length s
unfolding segment stands
leaves_less s some =
    named_shorter (front ends_name (trim_start s)) (onward ends_name (trim_start s)) (length s)
    (omega (arith, length-drop {A = ℕ})) some

said_seen : (o : Option Parameter) → option_map parameter_said (option_map written_seen o) ≡ option_map parameter_seen o
said_seen None = refl
said_seen (Some p) = refl

-- what stands in a segment says what the segment writes
pub segment_is : (v : Segment) (s : List ℕ) → standing_seen v ≡ stands s → segment_seen v ≡ segment s
unfolding segment
segment_is v s is = sym (ap (λ o. segment_of o v.rest.now) (said_seen v.written)) ∙ ap segment_said is
