use Rattle.infer_notation.proofs.Common.{◌≡◌, [], Some, map, refl, sym, token_listed}
use Rattle.infer_formats.specs.Relation.{text_first, text_first_with, text_first_with_all}
use Rattle.infer_notation.specs.Relations.{beginning_of}
use Rattle.infer_notation.proofs.SeenLemmas.{one_seen}
use Rattle.infer_notation.proofs.items.has_beginning.Goals as goal

pub returns-in_default : goal.returns-in_default
returns-in_default c =
    let is : Some (text_first c.read.result.now) ≡ beginning_of (map token_listed c.args.tokens.now) =
    rw (c.read.ensures, sym c.in_ok-first.ensures, c.in_default.is) refl in
    one_seen (beginning_of (map token_listed c.args.tokens.now)) (text_first c.read.result.now) c.args.buf.now _ is c.fits.ensures

pub returns-in_default-after : goal.returns-in_default-after
returns-in_default-after c =
    let t = c.read-in_default-after in
    let u = c.read-in_default-after-2 in
    let is : Some (text_first_with t.result.now u.result.now) ≡ beginning_of (map token_listed c.args.tokens.now) =
    rw (t.ensures, u.ensures, sym c.in_ok-first.ensures, c.in-Some.is, sym c.in_ok-one.ensures, c.in_default-after.is) refl in
    one_seen (beginning_of (map token_listed c.args.tokens.now)) (text_first_with t.result.now u.result.now) c.args.buf.now _ is c.fits-in_default-after.ensures

pub returns-in_default-after-2 : goal.returns-in_default-after-2
returns-in_default-after-2 c =
    let t = c.read-in_default-after-2-2 in
    let u = c.read-in_default-after-2-3 in
    let v = c.read-in_default-after-2-4 in
    let r = text_first_with_all t.result.now u.result.now v.result.now [] in
    let is : Some r ≡ beginning_of (map token_listed c.args.tokens.now) =
    rw (t.ensures, u.ensures, v.ensures, sym c.in_ok-first.ensures, c.in-Some.is, sym c.in_ok-one.ensures, c.in-Some-after.is, sym c.in_ok-two.ensures, c.in_default-after-2.is) refl in
    one_seen (beginning_of (map token_listed c.args.tokens.now)) r c.args.buf.now _ is c.fits-in_default-after-2.ensures

pub returns : goal.returns
returns c =
    let r = text_first_with_all c.read-2.result.now c.read-3.result.now c.read-4.result.now c.read-5.result.now in
    let is : Some r ≡ beginning_of (map token_listed c.args.tokens.now) =
    rw (c.read-2.ensures, c.read-3.ensures, c.read-4.ensures, c.read-5.ensures, sym c.in_ok-first.ensures, c.in-Some.is, sym c.in_ok-one.ensures, c.in-Some-after.is, sym c.in_ok-two.ensures, c.in-Some-after-2.is, sym c.in_ok-three.ensures) refl in
    one_seen (beginning_of (map token_listed c.args.tokens.now)) r c.args.buf.now _ is c.fits-2.ensures
