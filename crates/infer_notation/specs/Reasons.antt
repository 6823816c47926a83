-- What is wrong with a text, in words.
use Rattle.std.specs.Prelude.{ℕ, Bool, true, false, List, codes}
use Rattle.infer_notation.specs.declared.reason.Reason.{Reason}
use Rattle.infer_notation.specs.declared.reason.Reason.TheVariants.{Fields, Extension, MimeType, Class, Parent, OpenQuote, Empty, OpenSet, Byte, Digits, Length, Place, Bytes, Overlap, Past, Range, Binary, Relation, Item, End}

-- the words of a reason
abbrev pub reason_text : Reason → List ℕ
reason_text Fields = codes "a type has an extension, a MIME type, a class, a parent and a signature"
reason_text Extension = codes "no extension"
reason_text MimeType = codes "no MIME type"
reason_text Class = codes "unknown class"
reason_text Parent = codes "no such parent"
reason_text OpenQuote = codes "quotes do not close"
reason_text Empty = codes "a quoted text is empty"
reason_text OpenSet = codes "a set does not close"
reason_text Byte = codes "a byte that is no printable ASCII, or stands where it cannot"
reason_text Digits = codes "bytes are two hexadecimal digits each"
reason_text Length = codes "a length is wanted, as in 14:"
reason_text Place = codes "a place is wanted, as in @0"
reason_text Bytes = codes "bytes are wanted"
reason_text Overlap = codes "parts overlap"
reason_text Past = codes "place past the length"
reason_text Range = codes "a range ends before it begins"
reason_text Binary = codes "`and binary` is wanted, and `or` or the end behind it"
reason_text Relation = codes "unknown relation"
reason_text Item = codes "the relation does not take this"
reason_text End = codes "the signature ends too early"

-- a reason for which no token stands at the place
abbrev pub is_of_token : Reason → Bool
is_of_token OpenQuote = true
is_of_token Empty = true
is_of_token OpenSet = true
is_of_token Byte = true
is_of_token other = false
