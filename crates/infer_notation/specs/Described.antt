-- What a text describes, as relations between its bytes, its tokens and alternatives.
use Rattle.std.specs.Prelude.{◌≡◌, ◌+◌, ◌*◌, ◌<◌, ◌≤◌, ◌⊎◌, ℕ, false, All, IsFalse, IsTrue, List, [], ◌∷◌, ◌++◌, Some, codes, length, map}
use Rattle.std.specs.List.{list_all}
use Rattle.infer_formats.specs.Relation.{Relation, class_id, directory_tag, directory_tag_and_make, first_entry_ends_in, first_entry_has_extra, first_entry_is, first_key, first_key_with, header, names, of_text, program, relation_listed, root, root_with, text_first, text_first_with, text_first_with_all}
use Rattle.infer_formats.specs.declared.relation.Relation as relations
use Rattle.infer_notation.specs.Alternative.{Alternative, related}
use Rattle.infer_notation.specs.Fixed.{Asked, rest_of}
use Rattle.infer_notation.specs.Grammar.{Derives, signature}
use Rattle.infer_notation.specs.Relations.{is_or}
use Rattle.infer_notation.specs.Signature.{described}
use Rattle.infer_notation.specs.Tokens.{Token, bare, is_separator, is_of, separator, quoted, set}
use Rattle.infer_notation.specs.Words.{byte_of, byte_with, bytes_of, first_passes, is_blank, number_of}
use Rattle.infer_formats.specs.declared.relation.OfText.{OfText}
use Rattle.infer_formats.specs.declared.relation.Takes.{Takes}
use Rattle.infer_formats.specs.declared.relation.Takes.TheVariants.{Begins, ClassId, Entry, FirstKey, Header, Nothing, OneText, Program, Root, Tag}
use Rattle.infer_notation.specs.declared.tokens.Run.{Run}
use Rattle.infer_notation.specs.declared.tokens.Run.TheVariants.{Bare, Quoted, Set}

-- each byte can stand in such a run
abbrev AreOf : Run → List ℕ → Type 0
AreOf run xs = IsTrue (list_all (is_of run) xs)

-- the text begins with the token, and this follows. A bare word is as long as it can be
pub data BeginsWith : List ℕ → Token → List ℕ → Type 0 where
  in_quotes : (xs rest : List ℕ) → 0 < length xs → AreOf Quoted xs → BeginsWith (0x22 ∷ (xs ++ 0x22 ∷ rest)) (quoted xs) rest
  in_braces : (xs rest : List ℕ) → AreOf Set xs → BeginsWith (0x7B ∷ (xs ++ 0x7D ∷ rest)) (set xs) rest
  by_separator : (x : ℕ) (rest : List ℕ) → IsTrue (is_separator x) → BeginsWith (x ∷ rest) (separator x) rest
  by_word : (xs rest : List ℕ) → 0 < length xs → AreOf Bare xs → first_passes (is_of Bare) rest ≡ false → BeginsWith (xs ++ rest) (bare xs) rest

-- the text is made of the tokens, and of blanks before and after them
pub data IsMadeOf : List ℕ → List Token → Type 0 where
  empty : IsMadeOf [] []
  blank : (x : ℕ) (text : List ℕ) (ts : List Token) → IsTrue (is_blank x) → IsMadeOf text ts → IsMadeOf (x ∷ text) ts
  next : (text rest : List ℕ) (t : Token) (ts : List Token) → BeginsWith text t rest → IsMadeOf rest ts → IsMadeOf text (t ∷ ts)

-- the relation that takes this has that name
abbrev pub IsNameIn : List (List Token × Takes) → Takes → List Token → Type 0
IsNameIn [] takes name = ⊥
IsNameIn (n ∷ others) takes name = (n ≡ (name, takes)) ⊎ IsNameIn others takes name

abbrev pub IsName : Takes → List Token → Type 0
IsName takes name = IsNameIn names takes name

-- each word writes one of the bytes, in order
abbrev pub AreBytes : List (List ℕ) → List ℕ → Type 0
AreBytes [] [] = Unit {0}
AreBytes (w ∷ ws) (x ∷ xs) = (byte_of w ≡ Some x) × AreBytes ws xs
AreBytes ws xs = ⊥

-- the pieces are these bytes, one after the other
pub data Joins : List Token → List ℕ → Type 0 where
  no_piece : Joins [] []
  quoted_piece : (xs : List ℕ) (ts : List Token) (ys : List ℕ) → Joins ts ys → Joins (quoted xs ∷ ts) (xs ++ ys)
  bytes_piece : (w xs : List ℕ) (ts : List Token) (ys : List ℕ) → bytes_of w ≡ Some xs → Joins ts ys → Joins (bare w ∷ ts) (xs ++ ys)

-- the tokens write the text: it stands between quotes, or in pieces, at least one, and has at most 64 bytes
pub data Writes : List Token → List ℕ → Type 0 where
  between_quotes : (text : List ℕ) → Writes (quoted text ∷ []) text
  in_pieces : (ts : List Token) (text : List ℕ) → 0 < length ts → Joins ts text → length text ≤ 64 → Writes ts text

-- they write the texts, with a word "has" before each but the first
pub data WriteEach : List Token → List (List ℕ) → Type 0 where
  one_text : (ts : List Token) (text : List ℕ) → Writes ts text → WriteEach ts (text ∷ [])
  texts : (ts us : List Token) (text : List ℕ) (others : List (List ℕ)) → Writes ts text → WriteEach us others
      → WriteEach (ts ++ (bare (codes "has") ∷ us)) (text ∷ others)

-- the word writes the number, which is below 65536
abbrev pub IsShort : List ℕ → ℕ → Type 0
IsShort w n = (number_of w ≡ Some n) × (n < 65536)

-- with these tokens after a name that takes this, the text asks for the relation
pub data Asks : Takes → List Token → Relation → Type 0 where
  nothing : (r : relations.Relation) → Asks (Nothing r) [] (relation_listed r)
  a_tag : (a b c d x y : ℕ) → byte_with a b ≡ Some x → byte_with c d ≡ Some y
      → Asks Tag (bare (a ∷ b ∷ c ∷ d ∷ []) ∷ []) (directory_tag (256 * x + y))
  a_tag_and_make : (a b c d x y : ℕ) (ts : List Token) (make : List ℕ) → byte_with a b ≡ Some x → byte_with c d ≡ Some y → Writes ts make
      → Asks Tag (bare (a ∷ b ∷ c ∷ d ∷ []) ∷ bare (codes "and") ∷ bare (codes "make") ∷ ts) (directory_tag_and_make (256 * x + y) make)
  a_text : (which : OfText) (text : List ℕ) → Asks (OneText which) (quoted text ∷ []) (of_text which text)
  a_program : (w : List ℕ) → Asks Program (bare w ∷ []) (program w)
  a_name : (name : List ℕ) → Asks Entry (bare (codes "is") ∷ quoted name ∷ []) (first_entry_is name)
  an_end : (end : List ℕ) → Asks Entry (bare (codes "ends") ∷ bare (codes "in") ∷ quoted end ∷ []) (first_entry_ends_in end)
  an_extra : (v w : List ℕ) (x y : ℕ) → byte_of v ≡ Some x → byte_of w ≡ Some y
      → Asks Entry (bare (codes "has") ∷ bare (codes "extra") ∷ bare v ∷ bare w ∷ []) (first_entry_has_extra (x ∷ y ∷ []))
  an_id : (ws : List (List ℕ)) (id : List ℕ) → length ws ≡ 16 → AreBytes ws id → Asks ClassId (map bare ws) (class_id id)
  an_element : (name : List ℕ) → Asks Root (bare name ∷ []) (root name)
  a_text_within : (name text : List ℕ) → Asks Root (bare name ∷ bare (codes "with") ∷ quoted text ∷ []) (root_with name text)
  a_beginning : (ts : List Token) (text : List ℕ) → WriteEach ts (text ∷ []) → Asks Begins ts (text_first text)
  a_text_after : (ts : List Token) (text other : List ℕ) → WriteEach ts (text ∷ other ∷ []) → Asks Begins ts (text_first_with text other)
  two_texts_after : (ts : List Token) (text one two : List ℕ) → WriteEach ts (text ∷ one ∷ two ∷ []) → Asks Begins ts (text_first_with_all text one two [])
  three_texts_after : (ts : List Token) (text one two three : List ℕ) → WriteEach ts (text ∷ one ∷ two ∷ three ∷ [])
      → Asks Begins ts (text_first_with_all text one two three)
  a_later_header : (ts : List Token) (text v w x : List ℕ) (low high far : ℕ) → Writes ts text → IsShort v low → IsShort w high → IsShort x far
      → Asks Header (ts ++ (bare (codes "with") ∷ bare v ∷ bare (codes "to") ∷ bare w ∷ bare (codes "at") ∷ bare x ∷ [])) (header text far low high)
  a_key : (key : List ℕ) → Asks FirstKey (quoted key ∷ []) (first_key key)
  a_value : (key value : List ℕ) → Asks FirstKey (quoted key ∷ bare (codes "is") ∷ quoted value ∷ []) (first_key_with key value)

-- it asks for the alternatives: the relation, or programs, each by a word
pub data AsksFor : Takes → List Token → List Alternative → Type 0 where
  a_relation : (takes : Takes) (ts : List Token) (r : Relation) → Asks takes ts r → AsksFor takes ts (related r ∷ [])
  programs : (w : List ℕ) (ws : List (List ℕ)) → AsksFor Program (map bare (w ∷ ws)) (map (λ v. related (program v)) (w ∷ ws))

-- tokens between words "or": 1 to 24, and none of them is "or"
pub record IsGroup (ts : List Token) : Type 0 where
  pub some : 0 < length ts
  pub few : length ts ≤ 24
  pub one : All (λ t. IsFalse (is_or t)) ts

-- the groups between words "or"
pub data IsParted : List Token → List (List Token) → Type 0 where
  last : (g : List Token) → IsGroup g → IsParted g (g ∷ [])
  other : (g ts : List Token) (gs : List (List Token)) → IsGroup g → IsParted ts gs → IsParted (g ++ (bare (codes "or") ∷ ts)) (g ∷ gs)

-- it asks for the alternatives, some by each group
abbrev pub AsksEach : Takes → List (List Token) → List Alternative → Type 0
AsksEach takes [] alternatives = alternatives ≡ []
AsksEach takes (g ∷ gs) alternatives = (first others : List Alternative) × AsksFor takes g first × AsksEach takes gs others × (alternatives ≡ first ++ others)

-- the text names a relation, which asks for the alternatives: the first group begins with the name
pub record NamesRelation (text : List ℕ) (alternatives : List Alternative) : Type 0 where
  pub tokens : List Token
  pub made : IsMadeOf text tokens
  pub takes : Takes
  pub name : List Token
  pub named : IsName takes name
  pub first : List Token
  pub others : List (List Token)
  pub parted : IsParted tokens ((name ++ first) ∷ others)
  pub asks : AsksEach takes (first ∷ others) alternatives

-- the text asks for fixed bytes
pub record AsksBytes (text : List ℕ) (alternatives : List Alternative) : Type 0 where
  pub tokens : List Token
  pub made : IsMadeOf text tokens
  pub asked : List Asked
  pub derived : Derives signature tokens (rest_of [] false asked)
  pub same : alternatives ≡ map described asked

-- the text describes the alternatives
abbrev pub Describes : List ℕ → List Alternative → Type 0
Describes text alternatives = AsksBytes text alternatives ⊎ NamesRelation text alternatives
