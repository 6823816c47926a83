use Rattle.std.proofs.Common.{◌≡◌, List, None, Option, Some, option_map, refl, subst, sym, ℕ}
use Rattle.std.specs.Option.{option_or}
use Rattle.mime_sniff.specs.Computed.{Answers}
use Rattle.mime_sniff.proofs.standard.answer.Goals as goal

-- what is told, or else none, is what is told
or_none : (told : Option (List ℕ)) → told ≡ option_or told None
or_none None = refl
or_none (Some t) = refl

pub returns-in-Anything : goal.returns-in-Anything
returns-in-Anything c =
    subst (λ q. Answers q c.args.header.now (option_map (λ t. t.now) c.or_octets.result)) (sym c.in-Anything.is)
    (option_map (λ t. t.now) c.of_anything.result, c.of_anything.ensures, c.or_octets.ensures)

pub returns-in-Unscripted : goal.returns-in-Unscripted
returns-in-Unscripted c =
    subst (λ q. Answers q c.args.header.now (option_map (λ t. t.now) c.or_octets-in-Unscripted.result)) (sym c.in-Unscripted.is)
    (option_map (λ t. t.now) c.of_unscripted.result, c.of_unscripted.ensures, c.or_octets-in-Unscripted.ensures)

pub returns-in-TextOrBinary : goal.returns-in-TextOrBinary
returns-in-TextOrBinary c =
    subst (λ q. Answers q c.args.header.now (option_map (λ t. t.now) c.or_octets-in-TextOrBinary.result)) (sym c.in-TextOrBinary.is)
    (option_map (λ t. t.now) c.of_text_or_binary.result, c.of_text_or_binary.ensures, c.or_octets-in-TextOrBinary.ensures)

pub returns-in-Images : goal.returns-in-Images
returns-in-Images c =
    subst (λ q. Answers q c.args.header.now (option_map (λ t. t.now) c.of_images.result)) (sym c.in-Images.is)
    (option_map (λ t. t.now) c.of_images.result, c.of_images.ensures, or_none _)

pub returns-in-Media : goal.returns-in-Media
returns-in-Media c =
    subst (λ q. Answers q c.args.header.now (option_map (λ t. t.now) c.of_media.result)) (sym c.in-Media.is)
    (option_map (λ t. t.now) c.of_media.result, c.of_media.ensures, or_none _)

pub returns-in-Fonts : goal.returns-in-Fonts
returns-in-Fonts c =
    subst (λ q. Answers q c.args.header.now (option_map (λ t. t.now) c.of_fonts.result)) (sym c.in-Fonts.is)
    (option_map (λ t. t.now) c.of_fonts.result, c.of_fonts.ensures, or_none _)
