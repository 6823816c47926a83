use Rattle.std.proofs.Common.{rules, subst}
use Rattle.infer_named.specs.Names.{IsLastDot}
use Rattle.infer_named.proofs.names.extension_key.Goals as goal

pub returns-then-is_versioned : goal.returns-then-is_versioned
returns-then-is_versioned c = record {
  versioned = c.is_versioned.result;
  last = c.last_dot-last.result;
  second = c.last_dot-second.result;
  is_versioned = c.is_versioned.ensures;
  is_last = c.last_dot-last.ensures.dot;
  is_second = subst (λ before. IsLastDot c.args.stem.now before c.last_dot-second.result) c.unwrap_or.ensures c.last_dot-second.ensures.dot;
  is = search rules;
}

pub returns-in-Some : goal.returns-in-Some
returns-in-Some c = record {
  versioned = c.is_versioned.result;
  last = c.last_dot-last.result;
  second = c.last_dot-second.result;
  is_versioned = c.is_versioned.ensures;
  is_last = c.last_dot-last.ensures.dot;
  is_second = subst (λ before. IsLastDot c.args.stem.now before c.last_dot-second.result) c.unwrap_or.ensures c.last_dot-second.ensures.dot;
  is = search rules;
}

pub returns-in-None : goal.returns-in-None
returns-in-None c = record {
  versioned = c.is_versioned.result;
  last = c.last_dot-last.result;
  second = c.last_dot-second.result;
  is_versioned = c.is_versioned.ensures;
  is_last = c.last_dot-last.ensures.dot;
  is_second = subst (λ before. IsLastDot c.args.stem.now before c.last_dot-second.result) c.unwrap_or.ensures c.last_dot-second.ensures.dot;
  is = search rules;
}
