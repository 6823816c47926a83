-- Made by `tools/tables` from names.txt: sets of rows that many readings have, and the lists of leads.
use Rattle.std.specs.Prelude.{ℕ, List, [], ◌∷◌, codes}

-- no rows
abbrev pub none : List (List ℕ)
none = []

-- any beginning
abbrev pub any : List (List ℕ)
any = []

-- the rows of texts
abbrev pub texts : List (List ℕ)
texts =
    codes "3dmodel" ∷ codes "abook" ∷ codes "abw" ∷ codes "afm" ∷ codes "age" ∷ codes "agekey" ∷ codes "amf" ∷ codes "application/x-pem-key"
    ∷ codes "asc" ∷ codes "asx" ∷ codes "asxref" ∷ codes "atom" ∷ codes "aup" ∷ codes "awk" ∷ codes "bdf" ∷ codes "bib"
    ∷ codes "bookmarks" ∷ codes "busconfig" ∷ codes "catmeta" ∷ codes "ccmx" ∷ codes "cdx" ∷ codes "clj" ∷ codes "cloudcfg" ∷ codes "cmap"
    ∷ codes "cml" ∷ codes "cms" ∷ codes "csh" ∷ codes "csr" ∷ codes "cue" ∷ codes "dae" ∷ codes "dart" ∷ codes "dbk"
    ∷ codes "dbusintro" ∷ codes "dbusservice" ∷ codes "dep5" ∷ codes "desktop" ∷ codes "dia" ∷ codes "diashape" ∷ codes "dif" ∷ codes "diff"
    ∷ codes "docker" ∷ codes "dsc" ∷ codes "dtsi" ∷ codes "dxf" ∷ codes "elisp" ∷ codes "eml" ∷ codes "eps" ∷ codes "escript"
    ∷ codes "execline" ∷ codes "exs" ∷ codes "fb2" ∷ codes "fish" ∷ codes "fl" ∷ codes "flatpakref" ∷ codes "flatpakrepo" ∷ codes "fodg"
    ∷ codes "fodp" ∷ codes "fods" ∷ codes "fodt" ∷ codes "fontconfig" ∷ codes "gcurve" ∷ codes "geojson" ∷ codes "gff3" ∷ codes "ggr"
    ∷ codes "gitpatch" ∷ codes "gjs" ∷ codes "glade" ∷ codes "gltf" ∷ codes "gml" ∷ codes "gnucash" ∷ codes "gnumeric" ∷ codes "gnuplot"
    ∷ codes "gpgsec" ∷ codes "gpl" ∷ codes "gpx" ∷ codes "gresource" ∷ codes "groovy" ∷ codes "gschema" ∷ codes "gtkbuilder" ∷ codes "gv"
    ∷ codes "gx" ∷ codes "hqx" ∷ codes "hs" ∷ codes "html" ∷ codes "http" ∷ codes "icontheme" ∷ codes "ics" ∷ codes "igs"
    ∷ codes "imy" ∷ codes "inf" ∷ codes "info" ∷ codes "iptables" ∷ codes "ipynb" ∷ codes "it87" ∷ codes "jad" ∷ codes "jarmf"
    ∷ codes "jl" ∷ codes "jnlp" ∷ codes "js" ∷ codes "json" ∷ codes "kml" ∷ codes "la" ∷ codes "ldif" ∷ codes "ldml"
    ∷ codes "lingts" ∷ codes "lisp" ∷ codes "ll" ∷ codes "lua" ∷ codes "ly" ∷ codes "lyx" ∷ codes "m" ∷ codes "m3u8"
    ∷ codes "m4" ∷ codes "m4u" ∷ codes "mbox" ∷ codes "meta4" ∷ codes "metainfo" ∷ codes "metalink" ∷ codes "microdvd" ∷ codes "mif"
    ∷ codes "mimeinfo" ∷ codes "minisig" ∷ codes "mk" ∷ codes "ml" ∷ codes "mml" ∷ codes "model/obj" ∷ codes "modulefile" ∷ codes "mol2"
    ∷ codes "mpd" ∷ codes "mpl2" ∷ codes "mpsub" ∷ codes "msbuild" ∷ codes "mscx" ∷ codes "mtl" ∷ codes "mup" ∷ codes "musicxml"
    ∷ codes "ncx" ∷ codes "ndjson" ∷ codes "news" ∷ codes "nex" ∷ codes "nft" ∷ codes "nsc" ∷ codes "nzb" ∷ codes "openssh"
    ∷ codes "opf" ∷ codes "opml" ∷ codes "osm" ∷ codes "owx" ∷ codes "p7c" ∷ codes "param" ∷ codes "pc" ∷ codes "pcd"
    ∷ codes "pdbmol" ∷ codes "pem" ∷ codes "pfa" ∷ codes "pgp" ∷ codes "php" ∷ codes "pkginfo" ∷ codes "pkgmeta" ∷ codes "pl"
    ∷ codes "plist" ∷ codes "po" ∷ codes "pom" ∷ codes "ppd" ∷ codes "ppk" ∷ codes "ps" ∷ codes "ps1" ∷ codes "pubkey"
    ∷ codes "puml" ∷ codes "py" ∷ codes "pysu" ∷ codes "qml" ∷ codes "qti" ∷ codes "r" ∷ codes "raku" ∷ codes "raml"
    ∷ codes "rb" ∷ codes "rdf" ∷ codes "rkt" ∷ codes "rng" ∷ codes "roff" ∷ codes "rq" ∷ codes "rss" ∷ codes "rtf"
    ∷ codes "sam" ∷ codes "sami" ∷ codes "sbml" ∷ codes "scala" ∷ codes "scc" ∷ codes "sch" ∷ codes "scm" ∷ codes "sdp"
    ∷ codes "sed" ∷ codes "sfd" ∷ codes "sgf" ∷ codes "sh" ∷ codes "sig" ∷ codes "sitemap" ∷ codes "sla" ∷ codes "smil"
    ∷ codes "spec" ∷ codes "srt" ∷ codes "srx" ∷ codes "ssa" ∷ codes "ssh2pub" ∷ codes "sshpub" ∷ codes "sshsig" ∷ codes "stp"
    ∷ codes "subviewer" ∷ codes "svg" ∷ codes "t2t" ∷ codes "tcl" ∷ codes "tei" ∷ codes "tex" ∷ codes "texi" ∷ codes "texlua"
    ∷ codes "tgif" ∷ codes "toc" ∷ codes "tres" ∷ codes "tscn" ∷ codes "ttl" ∷ codes "ttml" ∷ codes "ttx" ∷ codes "ui"
    ∷ codes "unit" ∷ codes "usda" ∷ codes "uu" ∷ codes "vault" ∷ codes "vcf" ∷ codes "vcfg" ∷ codes "vnt" ∷ codes "vpnpcf"
    ∷ codes "vtt" ∷ codes "wordml" ∷ codes "wreg" ∷ codes "wsdl" ∷ codes "x3d" ∷ codes "xbel" ∷ codes "xbm" ∷ codes "xhtml"
    ∷ codes "xib" ∷ codes "xkbrules" ∷ codes "xliff" ∷ codes "xmcd" ∷ codes "xmi" ∷ codes "xml" ∷ codes "xmp" ∷ codes "xpm"
    ∷ codes "xpm2" ∷ codes "xsd" ∷ codes "xslt" ∷ codes "xspf" ∷ codes "yaml" ∷ []

-- those that no program runs and no browser renders
unfoldable pub tame : List (List ℕ)
tame =
    codes "abook" ∷ codes "agekey" ∷ codes "asc" ∷ codes "asxref" ∷ codes "atom" ∷ codes "bib" ∷ codes "bookmarks" ∷ codes "busconfig"
    ∷ codes "catmeta" ∷ codes "ccmx" ∷ codes "cdx" ∷ codes "clj" ∷ codes "cloudcfg" ∷ codes "cml" ∷ codes "cue" ∷ codes "dart"
    ∷ codes "dbk" ∷ codes "dbusintro" ∷ codes "dbusservice" ∷ codes "dep5" ∷ codes "desktop" ∷ codes "diff" ∷ codes "docker" ∷ codes "dsc"
    ∷ codes "dtsi" ∷ codes "eml" ∷ codes "escript" ∷ codes "exs" ∷ codes "fl" ∷ codes "flatpakref" ∷ codes "flatpakrepo" ∷ codes "fontconfig"
    ∷ codes "gcurve" ∷ codes "geojson" ∷ codes "gff3" ∷ codes "ggr" ∷ codes "gitpatch" ∷ codes "glade" ∷ codes "gml" ∷ codes "gnuplot"
    ∷ codes "gpl" ∷ codes "gpx" ∷ codes "gresource" ∷ codes "gschema" ∷ codes "gtkbuilder" ∷ codes "gv" ∷ codes "gx" ∷ codes "http"
    ∷ codes "icontheme" ∷ codes "ics" ∷ codes "inf" ∷ codes "info" ∷ codes "iptables" ∷ codes "ipynb" ∷ codes "it87" ∷ codes "jad"
    ∷ codes "jarmf" ∷ codes "jl" ∷ codes "jnlp" ∷ codes "kml" ∷ codes "la" ∷ codes "ldif" ∷ codes "ldml" ∷ codes "lingts"
    ∷ codes "ll" ∷ codes "ly" ∷ codes "lyx" ∷ codes "m" ∷ codes "m4" ∷ codes "mbox" ∷ codes "meta4" ∷ codes "metainfo"
    ∷ codes "metalink" ∷ codes "microdvd" ∷ codes "mimeinfo" ∷ codes "minisig" ∷ codes "mk" ∷ codes "mml" ∷ codes "modulefile" ∷ codes "mol2"
    ∷ codes "mpl2" ∷ codes "mpsub" ∷ codes "msbuild" ∷ codes "mup" ∷ codes "ndjson" ∷ codes "news" ∷ codes "nex" ∷ codes "nft"
    ∷ codes "nsc" ∷ codes "nzb" ∷ codes "opml" ∷ codes "osm" ∷ codes "owx" ∷ codes "pc" ∷ codes "pdbmol" ∷ codes "pkginfo"
    ∷ codes "pkgmeta" ∷ codes "plist" ∷ codes "po" ∷ codes "pom" ∷ codes "ppd" ∷ codes "puml" ∷ codes "pysu" ∷ codes "qml"
    ∷ codes "raml" ∷ codes "rdf" ∷ codes "rkt" ∷ codes "rng" ∷ codes "rq" ∷ codes "rss" ∷ codes "sam" ∷ codes "sami"
    ∷ codes "sbml" ∷ codes "scc" ∷ codes "sch" ∷ codes "sdp" ∷ codes "sed" ∷ codes "sgf" ∷ codes "sitemap" ∷ codes "spec"
    ∷ codes "srt" ∷ codes "srx" ∷ codes "ssa" ∷ codes "ssh2pub" ∷ codes "sshpub" ∷ codes "subviewer" ∷ codes "t2t" ∷ codes "tei"
    ∷ codes "tex" ∷ codes "texi" ∷ codes "texlua" ∷ codes "toc" ∷ codes "tres" ∷ codes "tscn" ∷ codes "ttl" ∷ codes "ttml"
    ∷ codes "ui" ∷ codes "unit" ∷ codes "uu" ∷ codes "vault" ∷ codes "vcf" ∷ codes "vcfg" ∷ codes "vnt" ∷ codes "vpnpcf"
    ∷ codes "vtt" ∷ codes "wreg" ∷ codes "wsdl" ∷ codes "xbel" ∷ codes "xib" ∷ codes "xkbrules" ∷ codes "xliff" ∷ codes "xmcd"
    ∷ codes "xmi" ∷ codes "xmp" ∷ codes "xsd" ∷ codes "xslt" ∷ codes "yaml" ∷ []

-- the rows of files that people name as they like: texts and programs
unfoldable pub free : List (List ℕ)
free = codes "txt" ∷ codes "elf" ∷ codes "ocamlrun" ∷ codes "shar" ∷ texts

-- with what the files of a type begin, as lists that readings have
unfoldable pub lead_lists : List (List (List ℕ))
lead_lists =
    any
    ∷ ((0x25 ∷ 0x20 ∷ []) ∷ codes "%%" ∷ codes "%!" ∷ (0x25 ∷ 0x09 ∷ []) ∷ (0x25 ∷ 0x0A ∷ []) ∷ codes ":-" ∷ codes "/*" ∷ [])
    ∷ (codes "%" ∷ [])
    ∷ (codes "%" ∷ codes "##" ∷ (0x23 ∷ 0x20 ∷ []) ∷ (0x23 ∷ 0x0A ∷ []) ∷ codes "#!" ∷ codes "fu" ∷ codes "cl" ∷ [])
    ∷ (codes "'" ∷ (0x23 ∷ 0x20 ∷ []) ∷ [])
    ∷ (codes "(*" ∷ [])
    ∷ (codes "/" ∷ codes "%{" ∷ codes "%o" ∷ codes "%%" ∷ [])
    ∷ (codes "/*" ∷ codes "//" ∷ (0x22 ∷ []) ∷ [])
    ∷ (codes "/*" ∷ codes "GR" ∷ codes "IN" ∷ codes "OU" ∷ [])
    ∷ (codes "//" ∷ codes "/*" ∷ [])
    ∷ (codes "//" ∷ codes "/*" ∷ codes "@" ∷ codes "#i" ∷ codes "#d" ∷ codes "#p" ∷ [])
    ∷ (codes ";" ∷ codes "ta" ∷ codes "so" ∷ codes "de" ∷ codes "@" ∷ [])
    ∷ (codes "<" ∷ [])
    ∷ (codes "<" ∷ codes "_" ∷ codes "#" ∷ [])
    ∷ (codes "d" ∷ [])
    ∷ (codes "us" ∷ codes "#!" ∷ (0x23 ∷ 0x20 ∷ []) ∷ codes "my" ∷ codes "BE" ∷ codes "no" ∷ codes "pa" ∷ codes "##" ∷ (0x23 ∷ 0x0A ∷ []) ∷ codes "re" ∷ [])
    ∷ []
