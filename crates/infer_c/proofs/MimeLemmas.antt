-- Texts of MIME types, and the room for them.
use Rattle.std.proofs.Common.{◌≡◌, ◌∙◌, ◌++◌, ◌+◌, ◌-◌, ◌≤◌, ◌↔◌, ℕ, Bool, List, [], Option, None, Some, Ok, Err, IfSome, ap, arith, drop, inl, inr, length, min, option_map, refl, subst, sym, take}
use Rattle.std.proofs.lemmas.List.{length-take, take_all, take_at, take_min}
use Rattle.mime_types.specs.Mime.{Kind, Mime}
use Rattle.mime_types.specs.Parse.{Parsed, tail_text}
use Rattle.mime_types.specs.Seen.{kind_of, mime_of}
use Rattle.mime_types.specs.Serialize.{serialize}
use Rattle.mime_types.specs.Wrote.{IsWritten, Wrote}
use Rattle.mime_types.specs.declared.mime_type.MimeType.{MimeType}
use Rattle.mime_types.specs.declared.write.TheConstants.{MOST_PARAMETERS}
use Rattle.mime_types.specs.declared.write.WriteError.{WriteError}
use Rattle.mime_types.specs.declared.write.WriteError.TheVariants.{NoRoom, TooManyParameters}
use Rattle.mime_sniff.specs.Computed.{IsComputedIn, Supply, supply_of}
use Rattle.mime_sniff.specs.declared.context.Context.{Context}
use Rattle.mime_sniff.specs.declared.supplied.Supplied.{Supplied}
use Rattle.infer_c.specs.Mime.{IsFoundText, IsMimeText, IsTextOf, IsWithRoom, Says, has_bit, kind_said, supply_said}

-- what the code's view shows is what the text says
pub says_of : (t : List ℕ) (o : Option Mime) → ((m : Mime) → (o ≡ Some m) ↔ Parsed t m) → Says t o
says_of t None c = λ m p. let e = (c m).1 p in absurd (cc)
says_of t (Some m) c = (c m).0 refl

pub text_of_found : (t : List ℕ) (o : Option MimeType) (written : List ℕ) → IfSome o (λ v. v.tail.now ≡ tail_text t) → IsFoundText o written → IsMimeText t (option_map mime_of o) written
text_of_found t None written tail is = is
text_of_found t (Some v) written tail is = subst (λ tl. IsTextOf tl (mime_of v) written) tail is

-- a text stands in the room from its start on, and is as long as was told
taken : (n : ℕ) (room text : List ℕ) → n ≡ length text → take n room ≡ text → (n ≤ length room) × (take (min n (length room)) room ≡ text)
taken n room text long is =
    let l : min n (length room) ≡ length text = sym (length-take n room) ∙ ap length is in
    (omega (arith, l, long), take_min n room ∙ is)

-- what is written from the start on stands there, and is as long as was told
at_start : (old new text : List ℕ) (n : ℕ) → Wrote old new 0 text (Some n) → (n ≡ length text) × (take n new ≡ text)
at_start old new text n (ends, within, is) =
    let same : n ≡ length text = omega (arith, ends) in
    let after = drop (0 + length text) old in (
      same,
      ap (take n) is ∙ (ap (λ t. take n (t ++ after)) (take_all (length old - 0) text (omega (arith, same, within))) ∙ take_at text after n (sym same)),
    )

pub written_whole : (tail : List ℕ) (m : Mime) (old new : List ℕ) (n : ℕ) → length new ≡ 4095 → IsWritten MOST_PARAMETERS tail m old new (Ok n)
    → IsTextOf tail m (take (min n 4095) new)
written_whole tail m old new n size (few, wrote) =
    let (long, is) = at_start old new (serialize m) n wrote in
    let t = taken n new (serialize m) long is in
    inl ((few, omega (arith, long, size, t.0)), subst (λ k. take (min n k) new ≡ serialize m) size t.1)

pub written_none : (tail : List ℕ) (m : Mime) (old new : List ℕ) (e : WriteError) → length old ≡ 4095 → IsWritten MOST_PARAMETERS tail m old new (Err e)
    → IsTextOf tail m []
written_none tail m old new NoRoom size (few, short) = inr ((λ is. absurd (omega (arith, is.1, size, short.0))), refl)
written_none tail m old new TooManyParameters size many = inr ((λ is. many.0 is.0), refl)

-- the same of a text that is written from the start on
pub wrote_whole : (old new text : List ℕ) (n : ℕ) → length new ≡ 4095 → Wrote old new 0 text (Some n) → IsWithRoom text (take (min n 4095) new)
wrote_whole old new text n size wrote =
    let (same, is) = at_start old new text n wrote in
    let t = taken n new text same is in
    inl (omega (arith, same, size, t.0), subst (λ k. take (min n k) new ≡ text) size t.1)

pub wrote_none : (old new text : List ℕ) → length old ≡ 4095 → Wrote old new 0 text None → IsWithRoom text []
wrote_none old new text size short = inr ((λ is. absurd (omega (arith, is, size, short.0))), refl)

kinds : (o : Option MimeType) → option_map kind_of o ≡ kind_said (option_map mime_of o)
kinds None = refl
kinds (Some v) = refl

supply : Option Kind → Bool → Bool → Supply
supply k no_sniff bug = record { kind = k; no_sniff = no_sniff; apache_bug = bug }

-- what is supplied is what was told
pub supply_is : (s : Supplied) (flags : ℕ) → s.no_sniff ≡ has_bit flags 1 → s.check_for_apache_bug ≡ has_bit flags 2
    → supply_of s ≡ supply_said (option_map mime_of s.mime_type) flags
unfolding supply
supply_is s flags forbids old =
    ap (λ k. supply k s.no_sniff s.check_for_apache_bug) (kinds s.mime_type)
    ∙ (ap (λ n. supply (kind_said (option_map mime_of s.mime_type)) n s.check_for_apache_bug) forbids
    ∙ ap (λ b. supply (kind_said (option_map mime_of s.mime_type)) (has_bit flags 1) b) old)

pub computed_by : (p q : Context) (s t : Supply) (b : List ℕ) (told : Option (List ℕ)) → p ≡ q → s ≡ t → IsComputedIn p s b told → IsComputedIn q t b told
computed_by p q s t b told places supplies is = subst (λ x. IsComputedIn x t b told) places (subst (λ y. IsComputedIn p y b told) supplies is)
