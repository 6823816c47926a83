-- Made by `tools/tables` from names.txt: code and definition have the same keys, and no key is wrong.
use Rattle.std.proofs.Common.{◌≡◌, [], map, refl, subst}
use Rattle.infer_named.proofs.FindLemmas.{right_append, wrong_from}
use Rattle.infer_named.proofs.ListedLemmas.{key_is, key_near}
use Rattle.infer_named.specs.Listed.{key_listed, key_texts, mime_types, ranges, readings, row_spans, row_texts}
use Rattle.infer_named.specs.Slots.{starts}
use Rattle.infer_named.specs.Table.{keys}
use Rattle.infer_named.specs.Texts.{lead_lists}
use Rattle.infer_named.specs.declared.table.generated.keys.TheConstants.{KEYS}
use Rattle.infer_named.proofs.Placed.K0 as k0
use Rattle.infer_named.proofs.Placed.K1 as k1
use Rattle.infer_named.proofs.Placed.K2 as k2
use Rattle.infer_named.proofs.Placed.K3 as k3
use Rattle.infer_named.proofs.Placed.K4 as k4
use Rattle.infer_named.proofs.Placed.K5 as k5
use Rattle.infer_named.proofs.Placed.K6 as k6
use Rattle.infer_named.proofs.Placed.K7 as k7
use Rattle.infer_named.specs.Keys.K0 as of_k0
use Rattle.infer_named.specs.Keys.K1 as of_k1
use Rattle.infer_named.specs.Keys.K2 as of_k2
use Rattle.infer_named.specs.Keys.K3 as of_k3
use Rattle.infer_named.specs.Keys.K4 as of_k4
use Rattle.infer_named.specs.Keys.K5 as of_k5
use Rattle.infer_named.specs.Keys.K6 as of_k6
use Rattle.infer_named.specs.Keys.K7 as of_k7

pub right : wrong_from starts 2321 0 keys ≡ []
unfolding keys
right =
    right_append starts 2321 0 300 _ _ refl k0.many k0.right
    (right_append starts 2321 300 310 _ _ refl k1.many k1.right
    (right_append starts 2321 610 268 _ _ refl k2.many k2.right
    (right_append starts 2321 878 310 _ _ refl k3.many k3.right
    (right_append starts 2321 1188 293 _ _ refl k4.many k4.right
    (right_append starts 2321 1481 281 _ _ refl k5.many k5.right
    (right_append starts 2321 1762 286 _ _ refl k6.many k6.right
    (k7.right)))))))

keys_alike : map key_near KEYS ≡ keys
unfolding keys of_k0.keys of_k1.keys of_k2.keys of_k3.keys of_k4.keys of_k5.keys of_k6.keys of_k7.keys key_texts readings mime_types ranges row_spans row_texts lead_lists
keys_alike = refl

pub keys_listed : map key_listed KEYS ≡ keys
keys_listed = subst (λ listed. map listed KEYS ≡ keys) key_is keys_alike
