-- Made by `tools/tables`: the rows of the code are those of the definitions, and a zero stands after each of their texts, sixteen
-- rows a line, so that a line which is refused tells of which rows.
use Rattle.infer_more.proofs.Common.{archives, assorted, bitmaps, bundles, buried, captions, chunks, code, compiled, consoles, databases, deeper, dialects, disks, documents, elements, farther, further, games, headers, headlines, images, inner, keyrings, kinds, late, letters, markup, measures, media, mended, notations, objects, office, openings, others, packages, packed, papers, pictures, prefaces, prints, rasters, records, remarks, roots, schemas, science, scores, scripts, secrets, settings, shallow, shapes, sounds, squeezed, stores, texts, tunes, unheaded, volumes, ◌≡◌, drop, length, map, refl, subst}
use Rattle.infer_more.proofs.ListedLemmas.{AreAlike, listed, listed_is, listed_near, shown, walked}
use Rattle.infer_more.specs.Listed.{alternatives, asked_texts, extensions, mime_types, pieces, relations, rows}
use Rattle.infer_more.specs.declared.row_data.relations.TheConstants.{RELATION_COUNT}

from_0 : AreAlike listed_near shown rows further 0
unfolding alternatives asked_texts extensions mime_types pieces relations rows archives assorted bitmaps bundles buried captions chunks code compiled consoles databases deeper dialects disks documents elements farther further games headers headlines images inner keyrings kinds late letters markup measures media mended notations objects office openings others packages packed papers pictures prefaces prints rasters records remarks roots schemas science scores scripts secrets settings shallow shapes sounds squeezed stores texts tunes unheaded volumes
from_0 = (
  refl,  -- 0 to 15
  refl,  -- 16 to 31
  refl,  -- 32 to 47
  refl,  -- 48 to 63
  refl,  -- 64 to 79
  refl,  -- 80 to 95
  refl,  -- 96 to 111
  refl,  -- 112 to 127
  refl,  -- 128 to 143
  refl,  -- 144 to 159
  refl,  -- 160 to 175
  refl,  -- 176 to 191
  refl,  -- 192 to 207
  refl,  -- 208 to 223
  refl,  -- 224 to 239
  refl,  -- 240 to 255
)

from_256 : AreAlike listed_near shown rows further 256
unfolding alternatives asked_texts extensions mime_types pieces relations rows archives assorted bitmaps bundles buried captions chunks code compiled consoles databases deeper dialects disks documents elements farther further games headers headlines images inner keyrings kinds late letters markup measures media mended notations objects office openings others packages packed papers pictures prefaces prints rasters records remarks roots schemas science scores scripts secrets settings shallow shapes sounds squeezed stores texts tunes unheaded volumes
from_256 = (
  refl,  -- 256 to 271
  refl,  -- 272 to 287
  refl,  -- 288 to 303
  refl,  -- 304 to 319
  refl,  -- 320 to 335
  refl,  -- 336 to 351
  refl,  -- 352 to 367
  refl,  -- 368 to 383
  refl,  -- 384 to 399
  refl,  -- 400 to 415
  refl,  -- 416 to 431
  refl,  -- 432 to 447
  refl,  -- 448 to 463
  refl,  -- 464 to 479
  refl,  -- 480 to 495
  refl,  -- 496 to 511
)

from_512 : AreAlike listed_near shown rows further 512
unfolding alternatives asked_texts extensions mime_types pieces relations rows archives assorted bitmaps bundles buried captions chunks code compiled consoles databases deeper dialects disks documents elements farther further games headers headlines images inner keyrings kinds late letters markup measures media mended notations objects office openings others packages packed papers pictures prefaces prints rasters records remarks roots schemas science scores scripts secrets settings shallow shapes sounds squeezed stores texts tunes unheaded volumes
from_512 = (
  refl,  -- 512 to 527
  refl,  -- 528 to 543
  refl,  -- 544 to 559
  refl,  -- 560 to 575
  refl,  -- 576 to 591
  refl,  -- 592 to 607
  refl,  -- 608 to 623
  refl,  -- 624 to 639
  refl,  -- 640 to 655
  refl,  -- 656 to 671
  refl,  -- 672 to 687
  refl,  -- 688 to 703
  refl,  -- 704 to 719
  refl,  -- 720 to 735
  refl,  -- 736 to 751
  refl,  -- 752 to 767
)

from_768 : AreAlike listed_near shown rows further 768
unfolding alternatives asked_texts extensions mime_types pieces relations rows archives assorted bitmaps bundles buried captions chunks code compiled consoles databases deeper dialects disks documents elements farther further games headers headlines images inner keyrings kinds late letters markup measures media mended notations objects office openings others packages packed papers pictures prefaces prints rasters records remarks roots schemas science scores scripts secrets settings shallow shapes sounds squeezed stores texts tunes unheaded volumes
from_768 = (
  refl,  -- 768 to 783
  refl,  -- 784 to 799
  refl,  -- 800 to 815
  refl,  -- 816 to 831
  refl,  -- 832 to 847
  refl,  -- 848 to 863
  refl,  -- 864 to 879
  refl,  -- 880 to 895
  refl,  -- 896 to 911
  refl,  -- 912 to 927
  refl,  -- 928 to 943
  refl,  -- 944 to 959
  refl,  -- 960 to 975
  refl,  -- 976 to 991
  refl,  -- 992 to 1007
  refl,  -- 1008 to 1023
)

behind : map listed_near (drop 1024 rows) ≡ map shown (drop 1024 further)
unfolding rows archives assorted bitmaps bundles buried captions chunks code compiled consoles databases deeper dialects disks documents elements farther further games headers headlines images inner keyrings kinds late letters markup measures media mended notations objects office openings others packages packed papers pictures prefaces prints rasters records remarks roots schemas science scores scripts secrets settings shallow shapes sounds squeezed stores texts tunes unheaded volumes
behind = refl

pub rows_listed : map listed rows ≡ map shown further
rows_listed = subst (λ listed. map listed rows ≡ map shown further) listed_is
    (walked listed_near shown rows further 0 256 refl from_0 (walked listed_near shown rows further 256 512 refl from_256 (walked listed_near shown rows further 512 768 refl from_512 (walked listed_near shown rows further 768 1024 refl from_768 behind))))

pub length-relations : length relations ≡ RELATION_COUNT
unfolding relations archives assorted bitmaps bundles buried captions chunks code compiled consoles databases deeper dialects disks documents elements farther further games headers headlines images inner keyrings kinds late letters markup measures media mended notations objects office openings others packages packed papers pictures prefaces prints rasters records remarks roots schemas science scores scripts secrets settings shallow shapes sounds squeezed stores texts tunes unheaded volumes
length-relations = refl
