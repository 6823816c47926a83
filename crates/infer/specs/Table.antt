-- The built-in rows, in order.
use Rattle.std.specs.Prelude.{ℕ, List, [], ◌∷◌, codes}
use Rattle.std.specs.List.{slice_get}
use Rattle.std.specs.Option.{option_map_or}
use Rattle.infer_sig.specs.App.{coff, der, dex, dey, elf, exe, java, llvm, mach, pem, qcow2, wasm}
use Rattle.infer_sig.specs.Archive.{ar, bz2, bz3, cab, cpio, crx, dcm, deb, eot, gz, lz, msi, nes, par2, ps, rar, rpm, rtf, seven_z, sqlite, swf, tar, xz, z, zip}
use Rattle.infer_sig.specs.Audio.{aac, aiff, amr, ape, dsf, flac, m4a, midi, mp3, ogg, ogg_opus, wav}
use Rattle.infer_sig.specs.Book.{epub, mobi}
use Rattle.infer_sig.specs.Font.{otf, ttf, woff, woff2}
use Rattle.infer_sig.specs.Image.{bmp, cr2, djvu, dwg, gif, ico, jpeg, jpeg2000, jxl, jxr, ora, png, psd, tiff, webp}
use Rattle.infer_sig.specs.Odf.{odp, ods, odt}
use Rattle.infer_sig.specs.Text.{shellscript}
use Rattle.infer_sig.specs.Video.{avi, flv, m4v, mov, mp4, mpeg, wmv}
use Rattle.infer_deep.specs.Frames.{lz4_magic, zst_magic}
use Rattle.infer_deep.specs.Windows.{mkv_type, webm_type}
use Rattle.infer.specs.BuiltIn.{BuiltIn, fixed, avif, doc, framed, heif, html, matroska, office, pdf, ppt, xls, xml}
use Rattle.infer.specs.Row.{Row}
use Rattle.infer.specs.Triple.{triple}
use Rattle.infer.specs.declared.table.file_type.MatcherType.{MatcherType}
use Rattle.infer.specs.declared.table.file_type.MatcherType.TheVariants.{App, Archive, Audio, Book, Doc, Font, Image, Text, Video}

abbrev pub row : MatcherType → List ℕ → List ℕ → BuiltIn → Row BuiltIn
row class mime_type extension signature = record { shows = triple class mime_type extension; signature = signature }

unfoldable pub table : List (Row BuiltIn)
table =
    row App (codes "application/wasm") (codes "wasm") (fixed wasm)
    ∷ row App (codes "application/x-executable") (codes "elf") (fixed elf)
    ∷ row App (codes "application/vnd.microsoft.portable-executable") (codes "exe") (fixed exe)
    ∷ row App (codes "application/vnd.microsoft.portable-executable") (codes "dll") (fixed exe)
    ∷ row App (codes "application/java") (codes "class") (fixed java)
    ∷ row App (codes "application/x-llvm") (codes "bc") (fixed llvm)
    ∷ row App (codes "application/x-mach-binary") (codes "mach") (fixed mach)
    ∷ row App (codes "application/vnd.android.dex") (codes "dex") (fixed dex)
    ∷ row App (codes "application/vnd.android.dey") (codes "dey") (fixed dey)
    ∷ row App (codes "application/x-x509-ca-cert") (codes "der") (fixed der)
    ∷ row App (codes "application/x-executable") (codes "obj") (fixed coff)
    ∷ row App (codes "application/x-x509-ca-cert") (codes "pem") (fixed pem)
    ∷ row App (codes "application/x-qemu-disk") (codes "qcow2") (fixed qcow2)
    ∷ row Book (codes "application/epub+zip") (codes "epub") (fixed epub)
    ∷ row Book (codes "application/x-mobipocket-ebook") (codes "mobi") (fixed mobi)
    ∷ row Image (codes "image/jpeg") (codes "jpg") (fixed jpeg)
    ∷ row Image (codes "image/jp2") (codes "jp2") (fixed jpeg2000)
    ∷ row Image (codes "image/png") (codes "png") (fixed png)
    ∷ row Image (codes "image/gif") (codes "gif") (fixed gif)
    ∷ row Image (codes "image/webp") (codes "webp") (fixed webp)
    ∷ row Image (codes "image/x-canon-cr2") (codes "cr2") (fixed cr2)
    ∷ row Image (codes "image/tiff") (codes "tif") (fixed tiff)
    ∷ row Image (codes "image/bmp") (codes "bmp") (fixed bmp)
    ∷ row Image (codes "image/vnd.ms-photo") (codes "jxr") (fixed jxr)
    ∷ row Image (codes "image/vnd.adobe.photoshop") (codes "psd") (fixed psd)
    ∷ row Image (codes "image/vnd.microsoft.icon") (codes "ico") (fixed ico)
    ∷ row Image (codes "image/heif") (codes "heif") heif
    ∷ row Image (codes "image/avif") (codes "avif") avif
    ∷ row Image (codes "image/jxl") (codes "jxl") (fixed jxl)
    ∷ row Image (codes "image/openraster") (codes "ora") (fixed ora)
    ∷ row Image (codes "image/vnd.djvu") (codes "djvu") (fixed djvu)
    ∷ row Image (codes "image/vnd.dwg") (codes "dwg") (fixed dwg)
    ∷ row Video (codes "video/mp4") (codes "mp4") (fixed mp4)
    ∷ row Video (codes "video/x-m4v") (codes "m4v") (fixed m4v)
    ∷ row Video (codes "video/x-matroska") (codes "mkv") (matroska mkv_type)
    ∷ row Video (codes "video/webm") (codes "webm") (matroska webm_type)
    ∷ row Video (codes "video/quicktime") (codes "mov") (fixed mov)
    ∷ row Video (codes "video/x-msvideo") (codes "avi") (fixed avi)
    ∷ row Video (codes "video/x-ms-wmv") (codes "wmv") (fixed wmv)
    ∷ row Video (codes "video/mpeg") (codes "mpg") (fixed mpeg)
    ∷ row Video (codes "video/x-flv") (codes "flv") (fixed flv)
    ∷ row Audio (codes "audio/midi") (codes "midi") (fixed midi)
    ∷ row Audio (codes "audio/mpeg") (codes "mp3") (fixed mp3)
    ∷ row Audio (codes "audio/m4a") (codes "m4a") (fixed m4a)
    ∷ row Audio (codes "audio/opus") (codes "opus") (fixed ogg_opus)
    ∷ row Audio (codes "audio/ogg") (codes "ogg") (fixed ogg)
    ∷ row Audio (codes "audio/x-flac") (codes "flac") (fixed flac)
    ∷ row Audio (codes "audio/x-wav") (codes "wav") (fixed wav)
    ∷ row Audio (codes "audio/amr") (codes "amr") (fixed amr)
    ∷ row Audio (codes "audio/aac") (codes "aac") (fixed aac)
    ∷ row Audio (codes "audio/x-aiff") (codes "aiff") (fixed aiff)
    ∷ row Audio (codes "audio/x-dsf") (codes "dsf") (fixed dsf)
    ∷ row Audio (codes "audio/x-ape") (codes "ape") (fixed ape)
    ∷ row Font (codes "application/font-woff") (codes "woff") (fixed woff)
    ∷ row Font (codes "application/font-woff") (codes "woff2") (fixed woff2)
    ∷ row Font (codes "application/font-sfnt") (codes "ttf") (fixed ttf)
    ∷ row Font (codes "application/font-sfnt") (codes "otf") (fixed otf)
    ∷ row Doc (codes "application/msword") (codes "doc") doc
    ∷ row Doc (codes "application/vnd.openxmlformats-officedocument.wordprocessingml.document") (codes "docx") (office (codes "word/"))
    ∷ row Doc (codes "application/vnd.ms-excel") (codes "xls") xls
    ∷ row Doc (codes "application/vnd.openxmlformats-officedocument.spreadsheetml.sheet") (codes "xlsx") (office (codes "xl/"))
    ∷ row Doc (codes "application/vnd.ms-powerpoint") (codes "ppt") ppt
    ∷ row Doc (codes "application/vnd.openxmlformats-officedocument.presentationml.presentation") (codes "pptx") (office (codes "ppt/"))
    ∷ row Doc (codes "application/vnd.oasis.opendocument.text") (codes "odt") (fixed odt)
    ∷ row Doc (codes "application/vnd.oasis.opendocument.spreadsheet") (codes "ods") (fixed ods)
    ∷ row Doc (codes "application/vnd.oasis.opendocument.presentation") (codes "odp") (fixed odp)
    ∷ row Archive (codes "application/epub+zip") (codes "epub") (fixed epub)
    ∷ row Archive (codes "application/zip") (codes "zip") (fixed zip)
    ∷ row Archive (codes "application/x-tar") (codes "tar") (fixed tar)
    ∷ row Archive (codes "application/x-par2") (codes "par2") (fixed par2)
    ∷ row Archive (codes "application/vnd.rar") (codes "rar") (fixed rar)
    ∷ row Archive (codes "application/gzip") (codes "gz") (fixed gz)
    ∷ row Archive (codes "application/x-bzip2") (codes "bz2") (fixed bz2)
    ∷ row Archive (codes "application/vnd.bzip3") (codes "bz3") (fixed bz3)
    ∷ row Archive (codes "application/x-7z-compressed") (codes "7z") (fixed seven_z)
    ∷ row Archive (codes "application/x-xz") (codes "xz") (fixed xz)
    ∷ row Archive (codes "application/pdf") (codes "pdf") pdf
    ∷ row Archive (codes "application/x-shockwave-flash") (codes "swf") (fixed swf)
    ∷ row Archive (codes "application/rtf") (codes "rtf") (fixed rtf)
    ∷ row Archive (codes "application/octet-stream") (codes "eot") (fixed eot)
    ∷ row Archive (codes "application/postscript") (codes "ps") (fixed ps)
    ∷ row Archive (codes "application/vnd.sqlite3") (codes "sqlite") (fixed sqlite)
    ∷ row Archive (codes "application/x-nintendo-nes-rom") (codes "nes") (fixed nes)
    ∷ row Archive (codes "application/x-google-chrome-extension") (codes "crx") (fixed crx)
    ∷ row Archive (codes "application/vnd.ms-cab-compressed") (codes "cab") (fixed cab)
    ∷ row Archive (codes "application/vnd.debian.binary-package") (codes "deb") (fixed deb)
    ∷ row Archive (codes "application/x-unix-archive") (codes "ar") (fixed ar)
    ∷ row Archive (codes "application/x-compress") (codes "Z") (fixed z)
    ∷ row Archive (codes "application/x-lzip") (codes "lz") (fixed lz)
    ∷ row Archive (codes "application/x-rpm") (codes "rpm") (fixed rpm)
    ∷ row Archive (codes "application/dicom") (codes "dcm") (fixed dcm)
    ∷ row Archive (codes "application/zstd") (codes "zst") (framed zst_magic)
    ∷ row Archive (codes "application/x-lz4") (codes "lz4") (framed lz4_magic)
    ∷ row Archive (codes "application/x-ole-storage") (codes "msi") (fixed msi)
    ∷ row Archive (codes "application/x-cpio") (codes "cpio") (fixed cpio)
    ∷ row Text (codes "text/html") (codes "html") html
    ∷ row Text (codes "text/xml") (codes "xml") xml
    ∷ row Text (codes "text/x-shellscript") (codes "sh") (fixed shellscript)
    ∷ []

-- the signature of row i, and one that accepts nothing if there is no such row
unfoldable pub signature_of : ℕ → BuiltIn
signature_of i = option_map_or (λ r. r.signature) (slice_get table i) (fixed [])
