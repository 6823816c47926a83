use Rattle.std.proofs.Common.{IfSome, option_map, refl, subst, sym}
use Rattle.mime_sniff.specs.Growth.{AnswerForGood}
use Rattle.mime_sniff.specs.declared.question.Question.TheVariants.{Fonts, Images, Media}
use Rattle.mime_sniff.proofs.GrowthLemmas.{settle_answer}
use Rattle.mime_sniff.proofs.settled.settled.Goals as goal

pub returns-in-Anything-clause-good : goal.returns-in-Anything-clause-good
returns-in-Anything-clause-good c =
    subst (λ q. IfSome c.anything.result (λ told. AnswerForGood q c.args.header.now (option_map (λ t. t.now) told))) (sym c.in-Anything.is) c.anything.ensures

pub returns-in-Unscripted-clause-good : goal.returns-in-Unscripted-clause-good
returns-in-Unscripted-clause-good c =
    subst (λ q. IfSome c.unscripted.result (λ told. AnswerForGood q c.args.header.now (option_map (λ t. t.now) told))) (sym c.in-Unscripted.is) c.unscripted.ensures

pub returns-in-TextOrBinary-clause-good : goal.returns-in-TextOrBinary-clause-good
returns-in-TextOrBinary-clause-good c =
    subst (λ q. IfSome c.text_or_binary.result (λ told. AnswerForGood q c.args.header.now (option_map (λ t. t.now) told))) (sym c.in-TextOrBinary.is) c.text_or_binary.ensures

pub returns-in-Images-clause-good : goal.returns-in-Images-clause-good
returns-in-Images-clause-good c =
    subst (λ q. IfSome c.of_images.result (λ told. AnswerForGood q c.args.header.now (option_map (λ t. t.now) told))) (sym c.in-Images.is)
    (settle_answer Images c.args.header.now refl c.of_images.result c.of_images.ensures)

pub returns-in-Media-clause-good : goal.returns-in-Media-clause-good
returns-in-Media-clause-good c =
    subst (λ q. IfSome c.of_media.result (λ told. AnswerForGood q c.args.header.now (option_map (λ t. t.now) told))) (sym c.in-Media.is)
    (settle_answer Media c.args.header.now refl c.of_media.result c.of_media.ensures)

pub returns-in-Fonts-clause-good : goal.returns-in-Fonts-clause-good
returns-in-Fonts-clause-good c =
    subst (λ q. IfSome c.of_fonts.result (λ told. AnswerForGood q c.args.header.now (option_map (λ t. t.now) told))) (sym c.in-Fonts.is)
    (settle_answer Fonts c.args.header.now refl c.of_fonts.result c.of_fonts.ensures)
