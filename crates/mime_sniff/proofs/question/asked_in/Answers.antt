use Rattle.std.proofs.Common.{subst, sym}
use Rattle.mime_sniff.specs.Computed.{IsAskedIn, supply_of}
use Rattle.mime_sniff.proofs.question.asked_in.Goals as goal

pub returns-in-Image : goal.returns-in-Image
returns-in-Image c = subst (λ context. IsAskedIn context (supply_of c.args.supplied.now) c.unless_xml.result) (sym c.in-Image.is) c.unless_xml.ensures

pub returns-in-AudioOrVideo : goal.returns-in-AudioOrVideo
returns-in-AudioOrVideo c =
    subst (λ context. IsAskedIn context (supply_of c.args.supplied.now) c.unless_xml-in-AudioOrVideo.result) (sym c.in-AudioOrVideo.is)
    c.unless_xml-in-AudioOrVideo.ensures

pub returns-in-Font : goal.returns-in-Font
returns-in-Font c =
    subst (λ context. IsAskedIn context (supply_of c.args.supplied.now) c.unless_xml-in-Font.result) (sym c.in-Font.is) c.unless_xml-in-Font.ensures
