-- What the words of a row say.
use Rattle.infer_more.proofs.Common.{◌≡◌, ℕ, Bool, true, false, List, Option, None, Some, cond, option_map, refl, MatcherType, signature_of, Fields, class_of, is_mime_type, is_name, parent_of, row, row_of}
use Rattle.infer_notation.specs.Alternative.{Alternative}
use Rattle.infer_notation.specs.Words.{◌>>=◌}
use Rattle.infer_more.specs.Line.{Row}

-- what each word of a row says
pub record Says (f : Fields) (own : Row) : Type 0 where
  pub class : MatcherType
  pub parent : Option (List ℕ)
  pub signature : List Alternative
  pub is_extension : is_name f.extension ≡ true
  pub is_mime : is_mime_type f.mime_type ≡ true
  pub is_class : class_of f.class ≡ Some class
  pub is_parent : parent_of f.parent ≡ Some parent
  pub is_signature : signature_of f.signature ≡ Some signature
  pub is : own ≡ row class f.mime_type f.extension parent signature

says_from : (f : Fields) (own : Row) (a b : Bool) (c : Option MatcherType) (p : Option (Option (List ℕ))) (s : Option (List Alternative))
    → is_name f.extension ≡ a → is_mime_type f.mime_type ≡ b → class_of f.class ≡ c → parent_of f.parent ≡ p → signature_of f.signature ≡ s
    → cond a (cond b (c >>= λ class. p >>= λ parent. option_map (λ signature. row class f.mime_type f.extension parent signature) s) None) None ≡ Some own
    → Says f own
says_from f own false b c p s is-a is-b is-c is-p is-s e = absurd cc
says_from f own true false c p s is-a is-b is-c is-p is-s e = absurd cc
says_from f own true true None p s is-a is-b is-c is-p is-s e = absurd cc
says_from f own true true (Some c) None s is-a is-b is-c is-p is-s e = absurd cc
says_from f own true true (Some c) (Some p) None is-a is-b is-c is-p is-s e = absurd cc
says_from f own true true (Some c) (Some p) (Some s) is-a is-b is-c is-p is-s e = record {
  class = c;
  parent = p;
  signature = s;
  is_extension = is-a;
  is_mime = is-b;
  is_class = is-c;
  is_parent = is-p;
  is_signature = is-s;
  is = cc;
}

pub says : (f : Fields) (own : Row) → row_of f ≡ Some own → Says f own
unfolding row_of
says f own e = says_from f own (is_name f.extension) (is_mime_type f.mime_type) (class_of f.class) (parent_of f.parent) (signature_of f.signature) refl refl refl refl refl e
