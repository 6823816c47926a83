-- What is told of an input.
use Rattle.std.specs.Prelude.{◌≡◌, ◌==◌, ◌↔◌, ℕ, Any, Bool, false, true, IsTrue, List, Option, None, Some, MatchOption, length, option_map}
use Rattle.std.specs.Option.{option_and_then, option_or}
use Rattle.infer.specs.First.{IsAnswer}
use Rattle.infer.specs.Row.{Accepts}
use Rattle.infer.specs.Table.{table}
use Rattle.infer.specs.Triple.{Triple}
use Rattle.infer.specs.declared.table.file_type.MatcherType.{MatcherType}
use Rattle.infer_formats.specs.Text.{IsEncodingOf}
use Rattle.infer_formats.specs.declared.text.Encoding.{Encoding}
use Rattle.infer_more.specs.Line.{Row}
use Rattle.infer_more.specs.Text.{IsOwnAnswer, rows_of}
use Rattle.infer_more.specs.Wider.{IsWiderAnswer}
use Rattle.infer_named.specs.Join.{Answer, Told, extension_of, mime_type_of, type_of_name}
use Rattle.infer_named.specs.Named.{IsNamed, answer_of, key_of}
use Rattle.infer_named.specs.declared.join.Named.{Named}
use Rattle.infer_named.specs.declared.join.Standing.{Standing}
use Rattle.infer_named.specs.declared.join.Standing.TheVariants.{Agree, BytesAlone, BytesRefine, Contradicts, NameAlone, NameRefines, Nothing}
use Rattle.mime_sniff.specs.Computed.{IsComputed, Supply, apache_bugs}
use Rattle.mime_types.specs.Mime.{Mime}
use Rattle.mime_types.specs.Parse.{Parsed}
use Rattle.infer_label.specs.Options.{Options}
use Rattle.infer_label.specs.declared.label.Label as code
use Rattle.infer_label.specs.declared.options.Look.{Look}
use Rattle.infer_label.specs.declared.options.Look.TheVariants as looks

-- the MIME type and the extension, if they are known, the class of what the bytes are, how the text is encoded, whether there
-- are no bytes, what the name did, if it was asked, and the MIME type and the extension that it has, if the bytes contradict it
pub record Label : Type 0 where
  pub mime_type : Option (List ℕ)
  pub extension : Option (List ℕ)
  pub class : Option MatcherType
  pub encoding : Option Encoding
  pub is_empty : Bool
  pub standing : Option Standing
  pub named : Option (List ℕ)
  pub named_extension : Option (List ℕ)

abbrev pub is_empty : List ℕ → Bool
is_empty b = length b == 0

abbrev pub mime_type_in : Option Triple → Option (List ℕ)
mime_type_in t = option_map (λ it. it.mime_type) t

abbrev pub extension_in : Option Triple → Option (List ℕ)
extension_in t = option_map (λ it. it.extension) t

abbrev pub class_in : Option Triple → Option MatcherType
class_in t = option_map (λ it. it.class) t

-- of a name whose type is this what is told beside a standing: that type, if the bytes contradict it
abbrev pub contradicted : Standing → Option Told → Option Told
contradicted Contradicts told = told
contradicted Agree told = None
contradicted NameRefines told = None
contradicted BytesRefine told = None
contradicted BytesAlone told = None
contradicted NameAlone told = None
contradicted Nothing told = None

-- the label by an answer to a name and bytes, where these are the types of both; by a type of bytes alone; and by a built-in type
abbrev pub by_both : Answer → Option Told → Option Triple → Option Encoding → Bool → Label
by_both a name_type t encoding empty = record {
  mime_type = option_map mime_type_of a.told;
  extension = option_and_then extension_of a.told;
  class = class_in t;
  encoding = encoding;
  is_empty = empty;
  standing = Some a.standing;
  named = option_map mime_type_of (contradicted a.standing name_type);
  named_extension = option_and_then extension_of (contradicted a.standing name_type);
}

abbrev pub by_bytes : Option Triple → Option Encoding → Bool → Label
by_bytes t encoding empty = record {
  mime_type = mime_type_in t;
  extension = extension_in t;
  class = class_in t;
  encoding = encoding;
  is_empty = empty;
  standing = None;
  named = None;
  named_extension = None;
}

abbrev pub by_built_in : Option Triple → Label
by_built_in t = by_bytes t None false

-- the label of an input by what its name and b tell, whose type is this, with the encoding of b
abbrev pub IsLabelOf : Named → Option Triple → List ℕ → Label → Type 0
IsLabelOf n t b label =
    (encoding : Option Encoding) × IsEncodingOf b encoding × (label ≡ by_both (answer_of n) (type_of_name (key_of n)) t encoding (is_empty b))

-- what a browser knows that was told a content type, or none: the MIME type that it says, if it says one, and whether it is
-- one that old servers send of every file
abbrev pub IsSaid : Option (List ℕ) → Option Mime → Type 0
IsSaid None said = said ≡ None
IsSaid (Some t) said = (m : Mime) → (said ≡ Some m) ↔ Parsed t m

abbrev pub IsOfOldServer : Option (List ℕ) → Type 0
IsOfOldServer content_type = MatchOption content_type ⊥ (λ t. Any (λ bug. t ≡ bug) apache_bugs)

pub record IsSupply (no_sniff : Bool) (content_type : Option (List ℕ)) (s : Supply) : Type 0 where
  pub said : Option Mime
  pub is_said : IsSaid content_type said
  pub kind : s.kind ≡ option_map (λ m. m.kind) said
  pub forbidden : s.no_sniff ≡ no_sniff
  pub of_old_server : IsTrue s.apache_bug ↔ IsOfOldServer content_type

-- the label by what it computes of b. Where the type stays it is told as it was given
abbrev pub by_browser : Option (List ℕ) → Label
by_browser told = record {
  mime_type = told;
  extension = None;
  class = None;
  encoding = None;
  is_empty = false;
  standing = None;
  named = None;
  named_extension = None;
}

abbrev pub IsLabelOfBrowser : Bool → Option (List ℕ) → List ℕ → Label → Type 0
IsLabelOfBrowser no_sniff content_type b label =
    (s : Supply) × (told : Option (List ℕ)) × IsSupply no_sniff content_type s × IsComputed s b told × (label ≡ by_browser (option_or told content_type))

-- the label of an input with this name, of which b is looked at: by what the name and b tell; by the wider answer of b; by
-- its first built-in row; or by what a browser makes of b, with the content type that it was told
abbrev pub IsLabelBy : Look → Option (List ℕ) → List ℕ → List ℕ → Label → Type 0
IsLabelBy looks.NameAndBytes told name b label = (n : Named) × (t : Option Triple) × IsNamed name b n × IsWiderAnswer b t × IsLabelOf n t b label
IsLabelBy looks.Bytes told name b label =
    (t : Option Triple) × (encoding : Option Encoding) × IsWiderAnswer b t × IsEncodingOf b encoding × (label ≡ by_bytes t encoding (is_empty b))
IsLabelBy looks.BuiltIn told name b label = (t : Option Triple) × IsAnswer (Accepts b) table t × (label ≡ by_built_in t)
IsLabelBy looks.Browser told name b label = IsLabelOfBrowser false told b label
IsLabelBy looks.BrowserForbidden told name b label = IsLabelOfBrowser true told b label

-- the label by a type of one's own, by the bytes alone
abbrev pub IsLabelOfType : Triple → List ℕ → Label → Type 0
IsLabelOfType t b label = (encoding : Option Encoding) × IsEncodingOf b encoding × (label ≡ by_bytes (Some t) encoding (is_empty b))

-- the label by the rows of a text: that of the first which accepts the bytes, and else by what is looked at
abbrev pub IsOwnLabel : List Row → Look → Option (List ℕ) → List ℕ → List ℕ → Label → Type 0
IsOwnLabel rows look told name b label =
    (own : Option Triple) × IsOwnAnswer rows b own × MatchOption own (IsLabelBy look told name b label) (λ t. IsLabelOfType t b label)

-- the label by some options: types of one's own are asked first, if they are some
abbrev pub IsLabelWith : Option (List ℕ) → Look → Option (List ℕ) → List ℕ → List ℕ → Label → Type 0
IsLabelWith None look told name b label = IsLabelBy look told name b label
IsLabelWith (Some text) look told name b label = (rows : List Row) → rows_of text ≡ Some rows → IsOwnLabel rows look told name b label

abbrev pub IsLabel : Options → List ℕ → List ℕ → Label → Type 0
IsLabel options name b label = IsLabelWith options.own options.look options.content_type name b label

-- the label as the code has it
abbrev pub label_listed : code.Label → Label
label_listed l = record {
  mime_type = option_map (λ m. m.now) l.mime_type;
  extension = option_map (λ e. e.now) l.extension;
  class = l.class;
  encoding = l.encoding;
  is_empty = l.is_empty;
  standing = l.standing;
  named = option_map (λ m. m.now) l.named;
  named_extension = option_map (λ e. e.now) l.named_extension;
}
