use Rattle.infer_formats.proofs.Common.{◌≡◌, ◌↔◌, ◌+◌, ◌<◌, eqb, get_or, take, drop, map, sym, subst, ◌∙◌, arith, bit_at, w8}
use Rattle.std.proofs.lemmas.Simd.{bit_mask_l, bitmask_splat, get_or-chunk, length-chunk}
use Rattle.infer_formats.proofs.NearLemmas.{bit_marked}
use Rattle.infer_formats.proofs.search.hits.Goals as goal

pub returns : goal.returns
returns c k =
    let b = c.args.buf.now in
    let place = c.args.place in
    let byte = c.args.byte in
    let window = take 32 (drop place b) in
    let long = length-chunk place 32 b c.requires in
    let mask = bitmask_splat w8 eqb window 32 byte long (omega arith) in
    let told = bit_marked byte window k in
    let bit = bit_mask_l (map (λ x. eqb x byte) window) k in
    subst (λ m. (bit_at m k ≡ 1) ↔ ((k < 32) × (get_or b (place + k) 0 ≡ byte))) (sym mask) (
      λ h. let t = told.0 (sym bit ∙ h) in (omega (arith, t.0), sym (get_or-chunk place 32 b k 0 (omega (arith, t.0))) ∙ t.1),
      λ (lt, is). bit ∙ told.1 (omega arith, get_or-chunk place 32 b k 0 lt ∙ is),
    )
