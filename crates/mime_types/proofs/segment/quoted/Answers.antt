use Rattle.std.proofs.Common.{◌∙◌, Some, ap, drop, take, true}
use Rattle.mime_types.specs.Segment.{as_written, quoted_len, standing}
use Rattle.mime_types.specs.Text.{after, is_semicolon}
use Rattle.mime_types.proofs.segment.quoted.Goals as goal

pub returns : goal.returns
returns c =
    let name = c.args.name.now in
    let t = c.args.text.now in
    let inside = c.split_at.ensures.front ∙ ap (λ n. take n t) c.quoted_len.ensures.value in
    let onward = c.split_at.ensures.back ∙ ap (λ n. drop n t) c.quoted_len.ensures.value in
    ap (λ s. standing (Some (as_written name s true)) c.cut.result.1.now) inside
    ∙ ap (λ r. standing (Some (as_written name (take (quoted_len t) t) true)) r) (c.cut.ensures.after ∙ ap (after is_semicolon) onward)
