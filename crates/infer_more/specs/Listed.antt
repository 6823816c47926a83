-- The further rows as the code lists them.
use Rattle.std.specs.Prelude.{◌≡◌, ◌==◌, ◌+◌, ℕ, List, [], ◌∷◌, get_or, if◌then◌else◌, map}
use Rattle.std.specs.List.{flat_map}
use Rattle.infer_formats.specs.Relation.{Relation, plain_text, relation_listed}
use Rattle.infer_formats.specs.declared.relation.Relation as code
use Rattle.infer_sig.specs.Signature as fixed
use Rattle.infer_sig.specs.Signature.{Part, at_least, text, byte, any_of, between}
use Rattle.infer.specs.Triple.{triple}
use Rattle.infer_more.specs.Ended.{Ended}
use Rattle.infer_more.specs.Row.{Further}
use Rattle.infer_more.specs.Table.{further}
use Rattle.infer_notation.specs.Alternative as signature
use Rattle.infer_notation.specs.Alternative.{binary_bytes, bytes, related}
use Rattle.infer_more.specs.declared.row_data.Alternative.{Alternative}
use Rattle.infer_more.specs.declared.row_data.Alternative.TheVariants.{BinaryBytes, Bytes, Related}
use Rattle.infer_more.specs.declared.row_data.Bytes as listed
use Rattle.infer_more.specs.declared.row_data.FurtherRow.{FurtherRow}
use Rattle.infer_more.specs.declared.row_data.Piece.{Piece}
use Rattle.infer_more.specs.declared.row_data.Piece.TheVariants.{At, OneOf, Between}
use Rattle.infer_evidence.specs.Spans.{stretch}
use Rattle.infer_evidence.specs.declared.spans.Span.{Span}
use Rattle.infer_more.specs.declared.row_data.generated.TheConstants.{ALTERNATIVES, ASKED_TEXTS, EXTENSIONS, MIME_TYPES, PIECES, ROWS}
use Rattle.infer_more.specs.declared.row_data.relations.TheConstants.{RELATIONS_OF_A_LIST}

-- the MIME types and the extensions of all rows, a zero after each, and what they ask for
unfoldable pub mime_types : List ℕ
mime_types = MIME_TYPES.now

unfoldable pub extensions : List ℕ
extensions = EXTENSIONS.now

unfoldable pub asked_texts : List ℕ
asked_texts = ASKED_TEXTS.now

-- the pieces of all alternatives, the alternatives of all rows, and the rows
unfoldable pub pieces : List Piece
pieces = PIECES

unfoldable pub alternatives : List Alternative
alternatives = ALTERNATIVES

unfoldable pub rows : List FurtherRow
rows = ROWS

-- the bytes that are asked for at a span
abbrev pub asked : Span → List ℕ
asked span = stretch asked_texts span.start span.count

-- the relations that rows ask for, one after the other
abbrev pub relation_of : signature.Alternative → List Relation
relation_of (related r) = r ∷ []
relation_of other = []

unfoldable pub relations : List Relation
relations = flat_map (λ r. flat_map relation_of r.signature) further

-- that of a number, and plain text for a number too great
abbrev pub relation_at : ℕ → Relation
relation_at number = get_or relations number plain_text

-- what a piece asks: a range of one byte is a text of that byte
abbrev pub part_listed : Piece → Part
part_listed (At place t) = text place (asked t)
part_listed (OneOf place set) = byte place (any_of (asked set))
part_listed (Between place low high) = if low == high then text place (low ∷ []) else byte place (between low high)

-- the pieces of an alternative
abbrev pub pieces_of : listed.Bytes → List Piece
pieces_of a = stretch pieces a.pieces.start a.pieces.count

abbrev pub bytes_listed : listed.Bytes → fixed.Alternative
bytes_listed a = at_least a.least (map part_listed (pieces_of a))

abbrev pub alternative_listed : Alternative → signature.Alternative
alternative_listed (Bytes a) = bytes (bytes_listed a)
alternative_listed (BinaryBytes a) = binary_bytes (bytes_listed a)
alternative_listed (Related number) = related (relation_at number)

abbrev pub signature_listed : List Alternative → List signature.Alternative
signature_listed alternatives = map alternative_listed alternatives

-- the alternatives of a row
abbrev pub alternatives_of : FurtherRow → List Alternative
alternatives_of r = stretch alternatives r.signature.start r.signature.count

abbrev pub row_listed : FurtherRow → Further
row_listed r = record {
  shows = triple r.matcher_type (stretch mime_types r.mime_type.start r.mime_type.count) (stretch extensions r.extension.start r.extension.count);
  parent = r.parent;
  signature = signature_listed (alternatives_of r);
}

-- the texts of a row, each with the byte after it
abbrev pub ended_of : FurtherRow → Ended
ended_of r = record {
  mime_type = stretch mime_types r.mime_type.start (r.mime_type.count + 1);
  extension = stretch extensions r.extension.start (r.extension.count + 1);
}

-- these are relations of rows that stand one after the other, the first of that number, and as many as a list has or all that
-- are left
abbrev pub AreRelations : ℕ → List code.Relation → Type 0
AreRelations first list = map relation_listed list ≡ stretch relations first RELATIONS_OF_A_LIST
