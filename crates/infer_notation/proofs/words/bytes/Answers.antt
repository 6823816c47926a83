use Rattle.infer_notation.proofs.Common.{◌≡◌, ◌∷◌, ◌+◌, drop, get_or, ◌∙◌, sym, ap, arith, None, Some, at_drop_more, at_drop_all}
use Rattle.infer_notation.proofs.HexLemmas.{gives, gives_start, gives_blank, gives_first, gives_byte, gives_end}
use Rattle.infer_notation.proofs.words.bytes.Goals as goal
use Rattle.infer_notation.proofs.words.bytes.Goals.{in-None+then-not-is_blank, in-None+else-not-is_blank, in-Some+in-Some-byte_with}

pub loop-digit-init : goal.loop-digit-init
loop-digit-init c = (omega arith, gives_start c.args.buf.now c.args.text.now)

pub loop-digit-preserved : goal.loop-digit-preserved
loop-digit-preserved c =
    let l = c.loop-digit in
    let m = c.match-first in
    let buf = c.args.buf.now in
    let x = get_or c.args.text.now l.digit-index 0 in
    let rest = drop (l.digit-index + 1) c.args.text.now in
    let next = at_drop_more (gives l.read l.left.now buf l.first) c.args.text.now l.digit-index 0 c.loop-digit-test.true in
    elim c.match-first.branch [
      | in-None+then-not-is_blank w ↦
          let same : gives m.read m.left.now buf m.first rest ≡ gives l.read l.left.now buf (Some x) rest = cc in
          let is = ap (λ f. gives l.read l.left.now buf f (x ∷ rest)) w.in-None.is in
          let step = gives_first l.read l.left.now buf x rest (cc) in
          (let e = w.read-is in grind arith, same ∙ sym step ∙ sym is ∙ sym next ∙ l.invariant.1)
      | in-None+else-not-is_blank w ↦
          let same : gives m.read m.left.now buf m.first rest ≡ gives l.read l.left.now buf None rest = cc in
          let is = ap (λ f. gives l.read l.left.now buf f (x ∷ rest)) w.in-None.is in
          let step = gives_blank l.read l.left.now buf x rest (cc) in
          (let e = w.read-is in grind arith, same ∙ sym step ∙ sym is ∙ sym next ∙ l.invariant.1)
      | in-Some+in-Some-byte_with w ↦
          let b = w.in-Some-byte_with.byte in
          let read = w.with_byte-read.result in
          let same : gives m.read m.left.now buf m.first rest ≡ gives read (drop 1 l.left.now) buf None rest = cc in
          let is = ap (λ f. gives l.read l.left.now buf f (x ∷ rest)) w.in-Some.is in
          let step = gives_byte l.read read l.left.now (drop 1 l.left.now) buf w.in-Some.other x b rest (cc) w.with_byte-read.ensures.joined in
          (let e = w.read-is in let n = w.with_byte-read.ensures.count in grind arith, same ∙ sym step ∙ sym is ∙ sym next ∙ l.invariant.1)
    ]

pub returns-in-None-first-clause-found : goal.returns-in-None-first-clause-found
returns-in-None-first-clause-found c =
    let l = c.loop-digit in
    let buf = c.args.buf.now in
    let none = ap (λ f. gives l.read l.left.now buf f (drop l.digit-index c.args.text.now)) c.in-None-first.is in
    let all = at_drop_all (gives l.read l.left.now buf None) c.args.text.now l.digit-index c.loop-digit-test.false in
    sym (gives_end l.read l.left.now buf) ∙ sym all ∙ sym none ∙ l.invariant.1
