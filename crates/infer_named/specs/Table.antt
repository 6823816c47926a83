-- Made by `tools/tables` from names.txt: all keys, in the order of their slots.
use Rattle.std.specs.Prelude.{List, ◌++◌}
use Rattle.infer_named.specs.Key.{Key}
use Rattle.infer_named.specs.Keys.K0 as k0
use Rattle.infer_named.specs.Keys.K1 as k1
use Rattle.infer_named.specs.Keys.K2 as k2
use Rattle.infer_named.specs.Keys.K3 as k3
use Rattle.infer_named.specs.Keys.K4 as k4
use Rattle.infer_named.specs.Keys.K5 as k5
use Rattle.infer_named.specs.Keys.K6 as k6
use Rattle.infer_named.specs.Keys.K7 as k7

-- the table of keys
unfoldable pub keys : List Key
keys = k0.keys ++ (k1.keys ++ (k2.keys ++ (k3.keys ++ (k4.keys ++ (k5.keys ++ (k6.keys ++ (k7.keys)))))))
