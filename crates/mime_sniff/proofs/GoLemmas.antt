-- The rules of Go, part by part.
use Rattle.std.proofs.Common.{◌≡◌, true, ℕ, List, [], ◌∷◌, ◌++◌, ◌<◌, ◌≤◌, ◌&&◌, Bool, codes, length, nat_le, nat_lt, Option, None, Some, refl, subst}
use Rattle.std.proofs.lemmas.Bool.{and_parts, leb-true, ltb-true}
use Rattle.std.specs.List.{list_all}
use Rattle.infer_formats.specs.Text.{IsBinary}
use Rattle.mime_sniff.specs.Mp4.{IsMp4}
use Rattle.mime_sniff.specs.Go.{between, documents, earlier, later, markup, mp4_rule, rules, text_rule}
use Rattle.mime_sniff.specs.Table.{images, sounds, tag_rules, xml_rules}
use Rattle.mime_sniff.specs.Rule.{Accepts, Rule, FindsFirst}
use Rattle.mime_sniff.proofs.FirstLemmas.{told_passes, finds_here, finds_later, finds_left, finds_none, finds_right}
use Rattle.mime_sniff.proofs.RuleLemmas.{is_direct_rule, is_plain_rule}

pub documents_is : list_all is_plain_rule documents ≡ true
unfolding documents
documents_is = refl

pub later_is : list_all is_plain_rule later ≡ true
unfolding later
later_is = refl

pub between_is : list_all is_direct_rule between ≡ true
unfolding between
between_is = refl

abbrev before_mp4 : List Rule
before_mp4 = markup ++ earlier

abbrev before_later : List Rule
before_later = before_mp4 ++ mp4_rule ∷ between

abbrev before_text : List Rule
before_text = before_later ++ later

module _ (b : List ℕ) where
  abbrev P : Rule → Type 0
  P = Accepts b

  from_between : (t : List ℕ) → FindsFirst P before_later (Some t) → FindsFirst P rules (Some t)
  from_between t h = finds_left P before_text (text_rule ∷ []) t (finds_left P before_later later t h)

  -- what is asked of the first byte
  pub by_documents : (t : List ℕ) → FindsFirst P documents (Some t) → FindsFirst P earlier (Some t)
  by_documents t h = finds_left P (documents ++ images) sounds t (finds_left P documents images t h)

  module _ (no_documents : FindsFirst P documents None) where
    pub by_images : (t : List ℕ) → FindsFirst P images (Some t) → FindsFirst P earlier (Some t)
    by_images t h = finds_left P (documents ++ images) sounds t (finds_right P documents images (Some t) no_documents h)

    pub by_sounds : (told : Option (List ℕ)) → FindsFirst P images None → FindsFirst P sounds told → FindsFirst P earlier told
    by_sounds told no_images h = finds_right P (documents ++ images) sounds told (finds_right P documents images None no_documents no_images) h

  pub by_markup : (t : List ℕ) → FindsFirst P markup (Some t) → FindsFirst P rules (Some t)
  by_markup t h = from_between t (finds_left P before_mp4 (mp4_rule ∷ between) t (finds_left P markup earlier t h))

  module _ (no_markup : FindsFirst P markup None) where
    pub by_earlier : (t : List ℕ) → FindsFirst P earlier (Some t) → FindsFirst P rules (Some t)
    by_earlier t h = from_between t (finds_left P before_mp4 (mp4_rule ∷ between) t (finds_right P markup earlier (Some t) no_markup h))

    module _ (no_earlier : FindsFirst P earlier None) where
      none_before_mp4 : FindsFirst P before_mp4 None
      none_before_mp4 = finds_right P markup earlier None no_markup no_earlier

      pub by_mp4 : IsMp4 b → FindsFirst P rules (Some (codes "video/mp4"))
      by_mp4 is = from_between (codes "video/mp4") (finds_right P before_mp4 (mp4_rule ∷ between) (Some (codes "video/mp4")) none_before_mp4 (finds_here P mp4_rule between is))

      module _ (no_mp4 : ¬ IsMp4 b) where
        past_mp4 : (told : Option (List ℕ)) → FindsFirst P between told → FindsFirst P before_later told
        past_mp4 told h = finds_right P before_mp4 (mp4_rule ∷ between) told none_before_mp4 (finds_later P mp4_rule between told no_mp4 h)

        pub by_between : (t : List ℕ) → FindsFirst P between (Some t) → FindsFirst P rules (Some t)
        by_between t h = from_between t (past_mp4 (Some t) h)

        module _ (no_between : FindsFirst P between None) where
          past_between : (told : Option (List ℕ)) → FindsFirst P later told → FindsFirst P before_text told
          past_between told h = finds_right P before_later later told (past_mp4 None no_between) h

          pub by_later : (t : List ℕ) → FindsFirst P later (Some t) → FindsFirst P rules (Some t)
          by_later t h = finds_left P before_text (text_rule ∷ []) t (past_between (Some t) h)

          module _ (no_later : FindsFirst P later None) where
            pub by_text : (¬ IsBinary b) → FindsFirst P rules (Some (codes "text/plain; charset=utf-8"))
            by_text is =
                finds_right P before_text (text_rule ∷ []) (Some (codes "text/plain; charset=utf-8")) (past_between None no_later) (finds_here P text_rule [] is)

            pub by_none : IsBinary b → FindsFirst P rules None
            by_none is = finds_right P before_text (text_rule ∷ []) None (past_between None no_later) (finds_later P text_rule [] None (λ not. not is) (finds_none P))

-- no type is empty, or longer than "application/vnd.ms-fontobject"
abbrev is_short : Rule → Bool
is_short rule = nat_lt 0 (length rule.mime_type) && nat_le (length rule.mime_type) 29

all_short : list_all is_short rules ≡ true
unfolding tag_rules xml_rules documents images sounds between later
all_short = refl

pub told_short : (P : Rule → Type 0) (t : List ℕ) → FindsFirst P rules (Some t) → (0 < length t) × (length t ≤ 29)
told_short P t h =
    let (rule, short, is) = told_passes P is_short rules t all_short h in
    let parts = and_parts (nat_lt 0 (length rule.mime_type)) (nat_le (length rule.mime_type) 29) short in
    subst (λ u. (0 < length u) × (length u ≤ 29)) is (ltb-true 0 _ parts.0, leb-true (length rule.mime_type) 29 parts.1)
