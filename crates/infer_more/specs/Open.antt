-- What is told of the bytes that may follow a buffer, alternative by alternative.
use Rattle.std.specs.Prelude.{Bool, false, true, List, [], ◌∷◌, ◌&&◌}
use Rattle.std.specs.List.{list_all}
use Rattle.infer_formats.specs.Relation.{Relation, package_with}
use Rattle.infer_sig.specs.Open.{is_alternative_sound}
use Rattle.infer_more.specs.Index.{is_application}
use Rattle.infer_more.specs.Laws.{lasts}
use Rattle.infer_more.specs.Row.{Further}
use Rattle.infer_notation.specs.Alternative.{Alternative, binary_bytes, bytes, related}

-- a folder that the relation asks is that of an application
abbrev pub is_known : Relation → Bool
is_known (package_with folder) = is_application folder
is_known other = true

-- the parts of its bytes ascend, lie apart and are possible, and its folder is that of an application
abbrev pub is_sound : Alternative → Bool
is_sound (bytes a) = is_alternative_sound a
is_sound (binary_bytes a) = is_alternative_sound a
is_sound (related r) = is_known r

-- the alternative asks for bytes at fixed places, or for these and a byte of binary data
abbrev pub is_fixed : Alternative → Bool
is_fixed (bytes a) = true
is_fixed (binary_bytes a) = true
is_fixed a = false

-- so does each of a signature
abbrev pub are_fixed : List Alternative → Bool
are_fixed signature = list_all is_fixed signature

-- each alternative of a signature is sound
abbrev pub are_sound : List Alternative → Bool
are_sound signature = list_all is_sound signature

-- the signature has one alternative, or lasts
abbrev pub is_one_or_lasts : List Alternative → Bool
is_one_or_lasts (a ∷ []) = true
is_one_or_lasts signature = lasts signature

abbrev pub is_row_sound : Further → Bool
is_row_sound r = are_sound r.signature && is_one_or_lasts r.signature
