use Rattle.infer_deep.proofs.Common.{IsHeif, IsAvif}
use Rattle.infer_deep.proofs.BrandLemmas.{boxed-lasts, IsHeif-carried, IsAvif-carried}
use Rattle.infer_deep.proofs.ClassIdLemmas.{HasClassId-lasts, IsXls-lasts}
use Rattle.infer_deep.proofs.FrameLemmas.{IsFramed-lasts}
use Rattle.infer_deep.proofs.OfficeLemmas.{IsOffice-lasts}
use Rattle.infer_deep.proofs.TextLemmas.{IsHtml-lasts, IsXml-lasts}
use Rattle.infer_deep.proofs.WindowLemmas.{StandsBy-lasts, IsMatroska-lasts}
use Rattle.infer_deep.proofs.laws.growth.Goals as goal

pub returns : goal.returns
returns c =
    let heif = boxed-lasts IsHeif (λ b h. h.0) IsHeif-carried in
    let avif = boxed-lasts IsAvif (λ b h. h.0) IsAvif-carried in
    search (StandsBy-lasts, IsMatroska-lasts, IsFramed-lasts, heif, avif, IsOffice-lasts, HasClassId-lasts, IsXls-lasts, IsHtml-lasts, IsXml-lasts)
