-- The rows that the code lists, some at a time, beside those of the definitions.
use Rattle.infer_more.proofs.Common.{◌≡◌, ◌+◌, ◌==◌, ◌∙◌, ℕ, zero, suc, List, ◌++◌, [], ◌∷◌, Option, None, Some, get_or, get_or_from_slice_get, if◌then◌else◌, refl, ap, arith, drop, map, option_map, subst, sym, Further, FurtherRow, ended_shown, row_listed, slice_get-map}
use Rattle.std.proofs.Common.{ap₂, slice_get, unwrap_or}
use Rattle.std.proofs.Math.Path.{fun_ext}
use Rattle.std.proofs.lemmas.List.{drop-drop, map-append, take-append-drop}
use Rattle.std.proofs.lemmas.Option.{unwrap_or-slice_get}
use Rattle.infer.specs.Triple.{triple}
use Rattle.infer_formats.specs.Relation.{Relation, plain_text}
use Rattle.infer_more.proofs.NearLemmas.{Stretches, element_by, element_is, near, near_is}
use Rattle.infer_more.specs.Ended.{Ended}
use Rattle.infer_more.specs.Listed.{alternative_listed, alternatives, asked_texts, ended_of, extensions, mime_types, pieces, relation_at, relations}
use Rattle.infer_evidence.specs.Spans.{stretch}
use Rattle.infer_more.specs.declared.row_data.Alternative.{Alternative}
use Rattle.infer_more.specs.declared.row_data.Alternative.TheVariants.{BinaryBytes, Bytes, Related}
use Rattle.infer_more.specs.declared.row_data.Bytes as code
use Rattle.infer_more.specs.declared.row_data.Piece.{Piece}
use Rattle.infer_more.specs.declared.row_data.Piece.TheVariants.{At, Between, OneOf}
use Rattle.infer_notation.specs.Alternative as signature
use Rattle.infer_notation.specs.Alternative.{binary_bytes, bytes, related}
use Rattle.infer_sig.specs.Signature as fixed
use Rattle.infer_sig.specs.Signature.{Part, any_of, at_least, between, byte, text}

-- the row, and its texts with what stands after each;  and as the definitions have both
abbrev pub listed : FurtherRow → Further × Ended
listed r = (row_listed r, ended_of r)

abbrev pub shown : Further → Further × Ended
shown r = (r, ended_shown r.shows)

-- the same by what stands near in the code's lists: first what a piece asks, and an alternative of bytes
abbrev part_by : Stretches ℕ → Piece → Part
part_by asked (At place t) = text place (asked t.start t.count)
part_by asked (OneOf place set) = byte place (any_of (asked set.start set.count))
part_by asked (Between place low high) = if low == high then text place (low ∷ []) else byte place (between low high)

abbrev bytes_by : Stretches ℕ → Stretches Piece → code.Bytes → fixed.Alternative
bytes_by asked pieces a = at_least a.least (map (part_by asked) (pieces a.pieces.start a.pieces.count))

-- a relation
abbrev relation_by : Stretches Relation → ℕ → Relation
relation_by relations number = unwrap_or (element_by relations number) plain_text

abbrev alternative_by : (code.Bytes → fixed.Alternative) → (ℕ → Relation) → Alternative → signature.Alternative
alternative_by asked relation (Bytes a) = bytes (asked a)
alternative_by asked relation (BinaryBytes a) = binary_bytes (asked a)
alternative_by asked relation (Related number) = related (relation number)

-- and a row, with what stands after its texts
abbrev row_by : (Alternative → signature.Alternative) → Stretches Alternative → Stretches ℕ → Stretches ℕ → FurtherRow → Further × Ended
row_by asked alternatives mime_types extensions r = (
  record {
    shows = triple r.matcher_type (mime_types r.mime_type.start r.mime_type.count) (extensions r.extension.start r.extension.count);
    parent = r.parent;
    signature = map asked (alternatives r.signature.start r.signature.count);
  },
  record {
    mime_type = mime_types r.mime_type.start (r.mime_type.count + 1);
    extension = extensions r.extension.start (r.extension.count + 1);
  },
)

abbrev asked_near : Alternative → signature.Alternative
asked_near = alternative_by (bytes_by (near asked_texts) (near pieces)) (relation_by (near relations))

abbrev pub listed_near : FurtherRow → Further × Ended
listed_near = row_by asked_near (near alternatives) (near mime_types) (near extensions)

relation_is : relation_by (near relations) ≡ relation_at
relation_is =
    ap (λ element number. unwrap_or (element number) plain_text) (element_is relations)
    ∙ fun_ext (λ number. unwrap_or-slice_get relations number plain_text)

asked_is : asked_near ≡ alternative_listed
asked_is = ap₂ alternative_by (ap₂ bytes_by (near_is asked_texts) (near_is pieces)) relation_is

pub listed_is : listed_near ≡ listed
listed_is =
    ap₂ (λ asked alternatives. row_by asked alternatives (near mime_types) (near extensions)) asked_is (near_is alternatives)
    ∙ ap₂ (row_by alternative_listed (stretch alternatives)) (near_is mime_types) (near_is extensions)

module _ {A B C : Type 0} (f : A → C) (g : B → C) (xs : List A) (ys : List B) where
  -- sixteen elements from s on have the same images in either list
  abbrev AreAlike16 : ℕ → Type 0
  AreAlike16 s = map f (stretch xs s 16) ≡ map g (stretch ys s 16)

  -- and 256 of them, sixteen at a time
  abbrev pub AreAlike : ℕ → Type 0
  AreAlike s =
      AreAlike16 s × AreAlike16 (s + 16) × AreAlike16 (s + 32) × AreAlike16 (s + 48)
      × AreAlike16 (s + 64) × AreAlike16 (s + 80) × AreAlike16 (s + 96) × AreAlike16 (s + 112)
      × AreAlike16 (s + 128) × AreAlike16 (s + 144) × AreAlike16 (s + 160) × AreAlike16 (s + 176)
      × AreAlike16 (s + 192) × AreAlike16 (s + 208) × AreAlike16 (s + 224) × AreAlike16 (s + 240)

  joined : (s : ℕ) → map f (stretch xs s 16) ≡ map g (stretch ys s 16) → map f (drop (s + 16) xs) ≡ map g (drop (s + 16) ys) → map f (drop s xs) ≡ map g (drop s ys)
  joined s here after =
      let left = ap (map f) (sym (take-append-drop 16 (drop s xs))) ∙ map-append f (stretch xs s 16) (drop 16 (drop s xs)) in
      let right = ap (map g) (sym (take-append-drop 16 (drop s ys))) ∙ map-append g (stretch ys s 16) (drop 16 (drop s ys)) in
      let rest = ap (map f) (drop-drop 16 s xs) ∙ (after ∙ sym (ap (map g) (drop-drop 16 s ys))) in
      left ∙ (ap (λ l. l ++ map f (drop 16 (drop s xs))) here ∙ (ap (λ l. map g (stretch ys s 16) ++ l) rest ∙ sym right))

  -- from s on
  abbrev AreAlikeFrom : ℕ → Type 0
  AreAlikeFrom s = map f (drop s xs) ≡ map g (drop s ys)

  step : (s t : ℕ) → t ≡ s + 16 → AreAlike16 s → AreAlikeFrom t → AreAlikeFrom s
  step s t next here after = joined s here (subst AreAlikeFrom next after)

  -- 256 of them, and those after
  pub walked : (s t : ℕ) → t ≡ s + 256 → AreAlike s → AreAlikeFrom t → AreAlikeFrom s
  walked s t next are after =
      let (a, b, c, d, e, h, i, j, k, l, m, n, o, p, q, r) = are in
      step s (s + 16) refl a (step (s + 16) (s + 32) (omega arith) b (step (s + 32) (s + 48) (omega arith) c (step (s + 48) (s + 64) (omega arith) d
      (step (s + 64) (s + 80) (omega arith) e (step (s + 80) (s + 96) (omega arith) h (step (s + 96) (s + 112) (omega arith) i (step (s + 112) (s + 128) (omega arith) j
      (step (s + 128) (s + 144) (omega arith) k (step (s + 144) (s + 160) (omega arith) l (step (s + 160) (s + 176) (omega arith) m (step (s + 176) (s + 192) (omega arith) n
      (step (s + 192) (s + 208) (omega arith) o (step (s + 208) (s + 224) (omega arith) p (step (s + 224) (s + 240) (omega arith) q (step (s + 240) t (omega arith) r after)))))))))))))))

-- nothing is read where nothing stands
none_read : {A : Type 0} (xs : List A) (i : ℕ) (d : A) → slice_get xs i ≡ None → d ≡ get_or xs i d
none_read [] i d e = refl
none_read (x ∷ xs) zero d e = absurd (cc)
none_read (x ∷ xs) (suc i) d e = none_read xs i d e

first_of : (o : Option FurtherRow) (p : Option Further) → option_map listed o ≡ option_map shown p → option_map row_listed o ≡ p
first_of None None e = refl
first_of None (Some r) e = absurd (cc)
first_of (Some r) None e = absurd (cc)
first_of (Some r) (Some s) e = ap (option_map (λ (pair : Further × Ended). pair.0)) e

second_of : (o : Option FurtherRow) (p : Option Further) → option_map listed o ≡ option_map shown p → option_map ended_of o ≡ option_map (λ r. ended_shown r.shows) p
second_of None None e = refl
second_of None (Some r) e = absurd (cc)
second_of (Some r) None e = absurd (cc)
second_of (Some r) (Some s) e = ap (option_map (λ (pair : Further × Ended). pair.1)) e

-- a row that is read from the code is that of the definitions, and a zero stands after each of its texts
module _ (i : ℕ) (rows : List FurtherRow) (further : List Further) (same : map listed rows ≡ map shown further) where
  read : option_map listed (slice_get rows i) ≡ option_map shown (slice_get further i)
  read = sym (slice_get-map listed rows i) ∙ (ap (λ l. slice_get l i) same ∙ slice_get-map shown further i)

  pub row_read : option_map row_listed (slice_get rows i) ≡ slice_get further i
  row_read = first_of (slice_get rows i) (slice_get further i) read

  pub ended_read : option_map ended_of (slice_get rows i) ≡ option_map (λ r. ended_shown r.shows) (slice_get further i)
  ended_read = second_of (slice_get rows i) (slice_get further i) read

-- the relation that is read, and what stands for one where there is none
pub relation_read : (number : ℕ) (r : Relation) → Some r ≡ slice_get relations number → r ≡ relation_at number
relation_read number r e = sym (get_or_from_slice_get relations number r plain_text (sym e))

pub no_relation : (number : ℕ) → None ≡ slice_get relations number → plain_text ≡ relation_at number
no_relation number e = none_read relations number plain_text (sym e)
