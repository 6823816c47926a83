use Rattle.infer.proofs.Common.{◌≢◌, ℕ, List, ◌∷◌, ◌++◌, map, sym, ap, ◌∙◌, refl, arith, AllPairs, length-map, bytes_eq-Decides, shows, table, Triple}
use Rattle.std.proofs.lemmas.Cmp.{nat_list_eq_equiv}
use Rattle.std.proofs.lemmas.List.{get_or-map}
use Rattle.std.proofs.lemmas.Map.Made.{AllPairs-from_IsDistinct, IsDistinct-from_count}
use denote.Enum.Declared.{tag_of}
use Rattle.infer.specs.contracts.table.file_type.MatcherType as matcher_type
use Rattle.infer.proofs.laws.distinct.Goals as goal

-- a triple as one text
abbrev key : Triple → List ℕ
key t = tag_of matcher_type.the_type t.class ∷ t.extension ++ t.mime_type

keys_apart : AllPairs (λ a b. a ≢ b) (map key (map shows table))
unfolding table
keys_apart =
    let keys = map key (map shows table) in AllPairs-from_IsDistinct bytes_eq-Decides keys (IsDistinct-from_count nat_list_eq_equiv keys refl)

pub returns : goal.returns
returns c = λ i j d before lt same.
    keys_apart i j (key d) before (omega (arith, length-map (map shows table) key))
    (get_or-map key (map shows table) i d (key d) (omega arith) ∙ ap key same ∙ sym (get_or-map key (map shows table) j d (key d) lt))
