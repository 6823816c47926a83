use Rattle.infer_deep.proofs.Common.{IsHeif, IsAvif}
use Rattle.infer_deep.proofs.BrandLemmas.{boxed-comes, IsAvif-carried, IsHeif-carried, IsOpenBox-early}
use Rattle.infer_deep.proofs.ClassIdLemmas.{BeginsCompound-early, HasClassId-comes}
use Rattle.infer_deep.proofs.FrameLemmas.{BeginsFrame-early, IsFramed-comes}
use Rattle.infer_deep.proofs.OfficeLemmas.{BeginsOffice-early, IsOffice-comes}
use Rattle.infer_deep.proofs.TextLemmas.{BeginsMarked-early, BeginsWhite-early, IsHtml-comes, IsXml-comes}
use Rattle.infer_deep.proofs.laws.arrival.Goals as goal

pub returns-clause-comes : goal.returns-clause-comes
returns-clause-comes c =
    let heif = boxed-comes IsHeif (λ b h. h.0) IsHeif-carried in
    let avif = boxed-comes IsAvif (λ b h. h.0) IsAvif-carried in
    search (heif, avif, HasClassId-comes, IsOffice-comes, IsFramed-comes, IsHtml-comes, IsXml-comes)

pub returns-clause-early : goal.returns-clause-early
returns-clause-early c = search (IsOpenBox-early, BeginsCompound-early, BeginsOffice-early, BeginsFrame-early, BeginsWhite-early, BeginsMarked-early)
