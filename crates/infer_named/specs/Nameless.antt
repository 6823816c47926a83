-- Made by `tools/tables` from names.txt: the rows whose files have no name of their own.
use Rattle.std.specs.Prelude.{ℕ, List, [], ◌∷◌, codes}

unfoldable pub nameless : List (List ℕ)
nameless =
    codes "xcursor"
    ∷ codes "ocamlrun"
    ∷ codes "xvthumb"
    ∷ codes "szq"
    ∷ codes "zdict"
    ∷ codes "gdkp"
    ∷ codes "binlog"
    ∷ codes "octave"
    ∷ codes "riff"
    ∷ codes "pico"
    ∷ codes "stlsub"
    ∷ codes "appledouble"
    ∷ codes "applesingle"
    ∷ []
