-- Each relation, by the lemmas of its format.
use Rattle.infer_formats.proofs.Common.{[], ◌≡◌, ◌↔◌, IsTrue, List, ℕ, OccursAt-append, Lasts, arith, refl, StandsByPlace, stands, Stays, png_header, Fits, HasLines, Relation, animated, class_id, dbase, directory_tag, first_entry_ends_in, first_entry_has_extra, first_entry_is, is_lasting, json_lines, json_text, package_with, plain_text, program, relation_listed, root, root_with, shared_object, subrip, tar_checksum}
use Rattle.infer_formats.specs.Relation.{behind_id3, directory_tag_and_make, first_key, first_key_with, has_entry, header, java_archive, text_first, text_first_with, text_first_with_all}
use Rattle.infer_formats.proofs.BeginsLemmas.{begins_and_has-lasts, begins_and_has_all-lasts, begins-lasts, begins_lines, known_begins, known_begins_and_has, known_begins_and_has_all}
use Rattle.infer_formats.proofs.DbaseLemmas.{dbase_lines, dbase-lasts, known_table}
use Rattle.infer_formats.proofs.ElfLemmas.{object_lines, shared_object-lasts, known_object}
use Rattle.infer_formats.proofs.FirstKeyLemmas.{first_key-lasts, first_key_with-lasts, key_lines, known_key, known_value, value_lines}
use Rattle.infer_formats.proofs.HeaderLemmas.{header-lasts, header_lines, known_header}
use Rattle.infer_formats.proofs.Id3Lemmas.{after-lasts, after_lines, known_after}
use Rattle.infer_formats.proofs.JsonLeadLemmas.{lines_lead, text_leads, json_begins}
use Rattle.infer_formats.proofs.LeadLemmas.{begins_markup, markup_begins}
use Rattle.infer_formats.proofs.MarkupLemmas.{HasRoot-lasts, HasRootWith-lasts}
use Rattle.infer_formats.proofs.OutlineLemmas.{begins}
use Rattle.infer_formats.proofs.PngLemmas.{chunk, known_animation}
use Rattle.infer_formats.proofs.ScriptLemmas.{IsProgram-lasts, program_lines, known_program}
use Rattle.infer_formats.proofs.SubtitlesLemmas.{subrip_lines, subrip-lasts, known_subrip}
use Rattle.infer_formats.proofs.TarLemmas.{field_lines, tar_checksum-lasts, known_checksum}
use Rattle.infer_formats.proofs.TextLemmas.{text_lines, known_text}
use Rattle.infer_formats.proofs.TiffLemmas.{known_tag, known_tag_and_make, tag_and_make-lasts, tag_lines, tag-lasts}
use Rattle.infer_formats.proofs.ZipLemmas.{counted_for_lines, entry_lines, java_lines, named_part, package_lines, has_entry-lasts, java_archive-lasts, known_later, first_entry_ends_in-lasts, first_entry_has_extra-lasts, first_entry_is-lasts, package_with-lasts, known_ending, known_entry, known_extra, known_java, known_package}
use Rattle.infer_formats.specs.declared.relation.Relation as declared
use Rattle.infer_formats.specs.declared.relation.Relation.TheVariants.{JsonLines, JsonText, PlainText}
use Rattle.infer_deep.proofs.ClassIdLemmas.{HasClassId-lasts}
use Rattle.infer_formats.proofs.JsonLemmas.{known_json, known_json_lines}
use Rattle.infer_formats.proofs.RootLemmas.{known_root, known_root_with}
use Rattle.infer_formats.specs.Laws.{Leads, Single}
use Rattle.infer_sig.proofs.ClassIdLemmas.{known_class}
use Rattle.infer_sig.proofs.KnownLemmas.{Known}
use Rattle.infer_sig.proofs.OccurrenceLemmas.{ByPlace}

pub relation_lasts : (r : Relation) → IsTrue (is_lasting r) → Lasts (Fits r)
relation_lasts shared_object l = shared_object-lasts
relation_lasts (first_entry_is name) l = λ b more. first_entry_is-lasts b more name
relation_lasts (first_entry_ends_in text) l = λ b more. first_entry_ends_in-lasts b more text
relation_lasts (first_entry_has_extra text) l = λ b more. first_entry_has_extra-lasts b more text
relation_lasts java_archive l = java_archive-lasts
relation_lasts (has_entry name) l = λ b more. has_entry-lasts b more name
relation_lasts (package_with folder) l = λ b more. package_with-lasts b more folder
relation_lasts (class_id id) l = HasClassId-lasts id
relation_lasts (directory_tag tag) l = λ b more. tag-lasts b more tag
relation_lasts (directory_tag_and_make tag make) l = λ b more. tag_and_make-lasts b more tag make
relation_lasts (behind_id3 t) l = λ b more. after-lasts b more t
relation_lasts (text_first t) l = λ b more. begins-lasts b more t
relation_lasts (text_first_with t u) l = λ b more. begins_and_has-lasts b more t u
relation_lasts (text_first_with_all t u v w) l = λ b more. begins_and_has_all-lasts b more t u v w
relation_lasts (header t far low high) l = λ b more. header-lasts b more t far low high
relation_lasts (first_key k) l = first_key-lasts k
relation_lasts (first_key_with k v) l = first_key_with-lasts k v
relation_lasts animated l = λ b more (front, chunks). (OccursAt-append b more png_header 0 front, chunk b more 8 chunks)
relation_lasts subrip l = subrip-lasts
relation_lasts dbase l = dbase-lasts
relation_lasts tar_checksum l = tar_checksum-lasts
relation_lasts (program name) l = IsProgram-lasts name
relation_lasts (root name) l = HasRoot-lasts name
relation_lasts (root_with name t) l = HasRootWith-lasts name t
relation_lasts r l = absurd cc

lasts_but : (r : declared.Relation) → (r ≡ JsonLines → ⊥) → (r ≡ JsonText → ⊥) → (r ≡ PlainText → ⊥) → IsTrue (is_lasting (relation_listed r))
lasts_but JsonLines n m p = absurd (n refl)
lasts_but JsonText n m p = absurd (m refl)
lasts_but PlainText n m p = absurd (p refl)
lasts_but r n m p = refl

pub fit_stays : (r : declared.Relation) → (r ≡ JsonLines → ⊥) → (r ≡ JsonText → ⊥) → (r ≡ PlainText → ⊥) → (b : List ℕ) → Fits (relation_listed r) b → Stays (Fits (relation_listed r)) b
fit_stays r n m p b f more bytes = relation_lasts (relation_listed r) (lasts_but r n m p) b more f

-- it has one of its lines
module _ (by_place : (place : ℕ) (t buf : List ℕ) → IsTrue (stands place t buf) ↔ StandsByPlace place t buf) (b : List ℕ) where
  pub has_lines : (r : Relation) → HasLines r b
  has_lines shared_object small (wide, big, class, order, table) = object_lines by_place b wide big table
  has_lines (first_entry_is name) small h = named_part by_place b name [] h.0.header h.2
  has_lines (first_entry_ends_in name) small h = counted_for_lines by_place b name 26 h.0 (omega arith) h.1
  has_lines (first_entry_has_extra extra) small h = counted_for_lines by_place b extra 28 h.0 (omega arith) h.1
  has_lines java_archive small h = java_lines by_place b h
  has_lines (has_entry name) small h = entry_lines by_place b name h
  has_lines (package_with folder) small h = package_lines by_place b folder h.0
  has_lines (class_id id) small (place, r, o) = let le = r.header.fits in begins by_place b 8 _ (omega arith) r.header
  has_lines (directory_tag tag) small (big, starts, e) = tag_lines by_place b big starts
  has_lines (directory_tag_and_make tag make) small (big, starts, tagged, made) = tag_lines by_place b big starts
  has_lines (behind_id3 t) small h = after_lines by_place b t h
  has_lines (text_first t) small h = begins_lines by_place b t h
  has_lines (text_first_with t u) small h = begins_lines by_place b t h.0
  has_lines (text_first_with_all t u v w) small h = begins_lines by_place b t h.0
  has_lines (header t far low high) small h = header_lines by_place b t far low high h
  has_lines (first_key k) small h = key_lines by_place b k h
  has_lines (first_key_with k v) small h = value_lines by_place b k v h
  has_lines animated small (o, a) = let le = o.fits in begins by_place b 4 png_header (omega arith) o
  has_lines subrip small h = subrip_lines by_place b h
  has_lines dbase small h = dbase_lines by_place b h
  has_lines tar_checksum small (long, some, (p, d, f, sums)) = field_lines by_place b p d long f
  has_lines (program name) small h = program_lines by_place b name h
  has_lines (root name) small h = markup_begins by_place b (begins_markup b name h.0 h.1)
  has_lines (root_with name t) small h = markup_begins by_place b (begins_markup b name h.0 h.1)
  has_lines json_lines small h = json_begins by_place b (lines_lead b h).0
  has_lines json_text small h = json_begins by_place b (text_leads b h).0
  has_lines plain_text small h = text_lines by_place b (small refl) h

-- ---- what a computation says of each

module _ (by_place : ByPlace) (inside : Leads) (single : Single) (b : List ℕ) where
  abbrev pub known_relation : (r : Relation) → Known (Fits r b)
  known_relation shared_object = known_object b
  known_relation (first_entry_is name) = known_entry by_place b name
  known_relation (first_entry_ends_in text) = known_ending by_place b text
  known_relation (first_entry_has_extra text) = known_extra by_place b text
  known_relation java_archive = known_java by_place b
  known_relation (has_entry name) = known_later by_place b name
  known_relation (package_with folder) = known_package by_place b folder
  known_relation (class_id id) = known_class by_place b id
  known_relation (directory_tag tag) = known_tag by_place b tag
  known_relation (directory_tag_and_make tag make) = known_tag_and_make by_place b tag make
  known_relation (behind_id3 t) = known_after by_place b t
  known_relation (text_first t) = known_begins by_place b t
  known_relation (text_first_with t u) = known_begins_and_has by_place b t u
  known_relation (text_first_with_all t u v w) = known_begins_and_has_all by_place b t u v w
  known_relation (header t far low high) = known_header by_place b t far low high
  known_relation (first_key k) = known_key b k
  known_relation (first_key_with k v) = known_value b k v
  known_relation animated = known_animation by_place b
  known_relation subrip = known_subrip by_place b
  known_relation dbase = known_table b
  known_relation tar_checksum = known_checksum b
  known_relation (program name) = known_program by_place single b name
  known_relation (root name) = known_root by_place inside single b name
  known_relation (root_with name t) = known_root_with by_place inside single b name t
  known_relation json_lines = known_json_lines inside single b
  known_relation json_text = known_json inside single b
  known_relation plain_text = known_text b
