-- The rules of the standard, part by part.
use Rattle.std.proofs.Common.{◌≡◌, true, ℕ, List, [], ◌∷◌, ◌++◌, codes, Option, None, Some, refl}
use Rattle.std.specs.List.{list_all}
use Rattle.infer_formats.specs.Text.{IsBinary}
use Rattle.mime_sniff.specs.Mp3.{IsMp3}
use Rattle.mime_sniff.specs.Mp4.{IsMp4OfAnyBox}
use Rattle.mime_sniff.specs.Webm.{IsWebm}
use Rattle.mime_sniff.specs.Rule.{Accepts, Rule, FindsFirst}
use Rattle.mime_sniff.specs.Standard.{archives, documents, fonts, marks, media, mp3_rule, mp4_rule, plain_text, text_rule, texts, unscripted, webm_rule}
use Rattle.mime_sniff.specs.Table.{images, sounds}
use Rattle.mime_sniff.proofs.FirstLemmas.{finds_here, finds_later, finds_left, finds_none, finds_right}
use Rattle.mime_sniff.proofs.RuleLemmas.{is_direct_rule, is_plain_rule}

pub documents_is : list_all is_direct_rule documents ≡ true
unfolding documents
documents_is = refl

pub texts_is : list_all is_direct_rule texts ≡ true
unfolding texts
texts_is = refl

pub archives_is : list_all is_direct_rule archives ≡ true
unfolding archives
archives_is = refl

pub fonts_is : list_all is_direct_rule fonts ≡ true
unfolding fonts
fonts_is = refl

pub marks_is : list_all is_direct_rule marks ≡ true
unfolding marks
marks_is = refl

pub images_is : list_all is_plain_rule images ≡ true
unfolding images
images_is = refl

pub sounds_is : list_all is_plain_rule sounds ≡ true
unfolding sounds
sounds_is = refl

module _ (b : List ℕ) where
  abbrev P : Rule → Type 0
  P = Accepts b

  -- sounds and films after the sounds that first bytes tell
  abbrev rest : List Rule
  rest = mp4_rule ∷ webm_rule ∷ mp3_rule ∷ []

  pub by_sounds : (t : List ℕ) → FindsFirst P sounds (Some t) → FindsFirst P media (Some t)
  by_sounds t h = finds_left P sounds rest t h

  module _ (no_sounds : FindsFirst P sounds None) where
    pub by_mp4 : IsMp4OfAnyBox b → FindsFirst P media (Some (codes "video/mp4"))
    by_mp4 is = finds_right P sounds rest (Some (codes "video/mp4")) no_sounds (finds_here P mp4_rule (webm_rule ∷ mp3_rule ∷ []) is)

    module _ (no_mp4 : ¬ IsMp4OfAnyBox b) where
      past_mp4 : (told : Option (List ℕ)) → FindsFirst P (webm_rule ∷ mp3_rule ∷ []) told → FindsFirst P media told
      past_mp4 told h = finds_right P sounds rest told no_sounds (finds_later P mp4_rule (webm_rule ∷ mp3_rule ∷ []) told no_mp4 h)

      pub by_webm : IsWebm b → FindsFirst P media (Some (codes "video/webm"))
      by_webm is = past_mp4 (Some (codes "video/webm")) (finds_here P webm_rule (mp3_rule ∷ []) is)

      module _ (no_webm : ¬ IsWebm b) where
        pub by_mp3 : IsMp3 b → FindsFirst P media (Some (codes "audio/mpeg"))
        by_mp3 is = past_mp4 (Some (codes "audio/mpeg")) (finds_later P webm_rule (mp3_rule ∷ []) (Some (codes "audio/mpeg")) no_webm (finds_here P mp3_rule [] is))

        pub by_no_media : (¬ IsMp3 b) → FindsFirst P media None
        by_no_media not = past_mp4 None (finds_later P webm_rule (mp3_rule ∷ []) None no_webm (finds_later P mp3_rule [] None not (finds_none P)))

  -- text, if no byte is one of binary data
  pub by_text : (¬ IsBinary b) → FindsFirst P (text_rule ∷ []) (Some plain_text)
  by_text is = finds_here P text_rule [] is

  pub by_binary : IsBinary b → FindsFirst P (text_rule ∷ []) None
  by_binary is = finds_later P text_rule [] None (λ not. not is) (finds_none P)

  -- what is asked of an unknown resource beside what may run scripts, part by part
  abbrev after_media : List Rule
  after_media = archives ++ text_rule ∷ []

  abbrev after_images : List Rule
  after_images = media ++ after_media

  abbrev after_texts : List Rule
  after_texts = images ++ after_images

  pub from_texts : (t : List ℕ) → FindsFirst P texts (Some t) → FindsFirst P unscripted (Some t)
  from_texts t h = finds_left P texts after_texts t h

  module _ (no_texts : FindsFirst P texts None) where
    pub from_images : (t : List ℕ) → FindsFirst P images (Some t) → FindsFirst P unscripted (Some t)
    from_images t h = finds_right P texts after_texts (Some t) no_texts (finds_left P images after_images t h)

    module _ (no_images : FindsFirst P images None) where
      past_images : (told : Option (List ℕ)) → FindsFirst P after_images told → FindsFirst P unscripted told
      past_images told h = finds_right P texts after_texts told no_texts (finds_right P images after_images told no_images h)

      pub from_media : (t : List ℕ) → FindsFirst P media (Some t) → FindsFirst P unscripted (Some t)
      from_media t h = past_images (Some t) (finds_left P media after_media t h)

      module _ (no_media : FindsFirst P media None) where
        pub from_archives : (t : List ℕ) → FindsFirst P archives (Some t) → FindsFirst P unscripted (Some t)
        from_archives t h = past_images (Some t) (finds_right P media after_media (Some t) no_media (finds_left P archives (text_rule ∷ []) t h))

        pub from_text : (told : Option (List ℕ)) → FindsFirst P archives None → FindsFirst P (text_rule ∷ []) told → FindsFirst P unscripted told
        from_text told no_archives h =
            past_images told (finds_right P media after_media told no_media (finds_right P archives (text_rule ∷ []) told no_archives h))
