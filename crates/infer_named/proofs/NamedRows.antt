-- Made by `tools/tables` from names.txt and the rows: a key that takes each row, by its number. A row that the key does not take
-- stands in the error.
use Rattle.std.proofs.Common.{◌≡◌, ℕ, [], List, ◌∷◌, drop, refl, take}
use Rattle.infer.specs.Table.{table}
use Rattle.infer_more.specs.Table.{packages, headers, markup, code, records, archives, images, media, late, office, kinds, roots, elements, pictures, rasters, sounds, packed, disks, papers, stores, games, others, scripts, documents, secrets, bitmaps, shapes, chunks, tunes, squeezed, bundles, volumes, assorted, databases, science, measures, prints, compiled, keyrings, consoles, shallow, schemas, dialects, notations, unheaded, mended, openings, prefaces, remarks, captions, headlines, letters, settings, scores, objects, inner, deeper, farther, buried, texts, further}
use Rattle.infer_more.specs.Wider.{shown}
use Rattle.infer_named.proofs.NamedLemmas.{named_last, named_part, unnamed}
use Rattle.infer_named.specs.Laws.{EachRowIsNamed}
use Rattle.infer_named.specs.Nameless.{nameless}
use Rattle.infer_named.specs.Table.{keys}
use Rattle.infer_named.specs.Keys.K0 as k0
use Rattle.infer_named.specs.Keys.K1 as k1
use Rattle.infer_named.specs.Keys.K2 as k2
use Rattle.infer_named.specs.Keys.K3 as k3
use Rattle.infer_named.specs.Keys.K4 as k4
use Rattle.infer_named.specs.Keys.K5 as k5
use Rattle.infer_named.specs.Keys.K6 as k6
use Rattle.infer_named.specs.Keys.K7 as k7

takers_0 : List ℕ
takers_0 = 1633 ∷ 174 ∷ 195 ∷ 195 ∷ 865 ∷ 935 ∷ 771 ∷ 1267 ∷ 174 ∷ 276 ∷ 935 ∷ 10 ∷ 1009 ∷ 1346 ∷ 237 ∷ 202 ∷ 130 ∷ 537 ∷ 1297 ∷ 404 ∷ 827 ∷ 88 ∷ 1373 ∷ 71 ∷ 727 ∷ 634 ∷ 109 ∷ 410 ∷ 1437 ∷ 1421 ∷ 163 ∷ 1130 ∷ 12 ∷ 102 ∷ 866 ∷ 266 ∷ 109 ∷ 667 ∷ 313 ∷ 246 ∷ 1497 ∷ 339 ∷ 125 ∷ 109 ∷ 156 ∷ 156 ∷ 600 ∷ 462 ∷ 1407 ∷ 1046 ∷ 397 ∷ 1917 ∷ 2035 ∷ 118 ∷ 923 ∷ 1764 ∷ 1764 ∷ 60 ∷ 1156 ∷ 356 ∷ 224 ∷ 112 ∷ 197 ∷ 922 ∷ 772 ∷ 270 ∷ 1346 ∷ 9 ∷ 486 ∷ 1269 ∷ 1635 ∷ 0 ∷ 33 ∷ 1301 ∷ 1295 ∷ 33 ∷ 874 ∷ 1213 ∷ 10 ∷ 1061 ∷ 10 ∷ 131 ∷ 1162 ∷ 1091 ∷ 425 ∷ 982 ∷ 982 ∷ 165 ∷ 1337 ∷ 304 ∷ 2255 ∷ 347 ∷ 1531 ∷ 2305 ∷ 627 ∷ 10 ∷ 2 ∷ 3 ∷ 269 ∷ 269 ∷ 269 ∷ 269 ∷ 691 ∷ 1096 ∷ 691 ∷ 1156 ∷ 224 ∷ 197 ∷ 581 ∷ 361 ∷ 1138 ∷ 957 ∷ 1050 ∷ 922 ∷ 772 ∷ 270 ∷ 269 ∷ 2305 ∷ 457 ∷ 234 ∷ 401 ∷ 10 ∷ 10 ∷ 10 ∷ 10 ∷ 10 ∷ 1646 ∷ 684 ∷ []

named_0 : unnamed (take 128 (drop 0 shown)) takers_0 ≡ []
unfolding shown table further packages headers markup code records archives images media late office kinds roots elements pictures rasters sounds packed disks papers stores games others scripts documents secrets bitmaps shapes chunks tunes squeezed bundles volumes assorted databases science measures prints compiled keyrings consoles shallow schemas dialects notations unheaded mended openings prefaces remarks captions headlines letters settings scores objects inner deeper farther buried texts nameless keys k0.keys k1.keys k2.keys k3.keys k4.keys k5.keys k6.keys k7.keys takers_0
named_0 = refl

takers_1 : List ℕ
takers_1 = 131 ∷ 827 ∷ 537 ∷ 1358 ∷ 31 ∷ 10 ∷ 213 ∷ 600 ∷ 202 ∷ 10 ∷ 10 ∷ 10 ∷ 10 ∷ 10 ∷ 10 ∷ 10 ∷ 10 ∷ 10 ∷ 10 ∷ 10 ∷ 10 ∷ 10 ∷ 10 ∷ 2 ∷ 10 ∷ 10 ∷ 374 ∷ 1417 ∷ 458 ∷ 1787 ∷ 1294 ∷ 1141 ∷ 759 ∷ 1686 ∷ 1068 ∷ 958 ∷ 10 ∷ 921 ∷ 879 ∷ 1109 ∷ 94 ∷ 580 ∷ 374 ∷ 1679 ∷ 80 ∷ 802 ∷ 250 ∷ 656 ∷ 1838 ∷ 851 ∷ 1759 ∷ 1254 ∷ 731 ∷ 1567 ∷ 1209 ∷ 645 ∷ 450 ∷ 450 ∷ 92 ∷ 825 ∷ 333 ∷ 30 ∷ 1531 ∷ 1011 ∷ 338 ∷ 627 ∷ 1410 ∷ 0 ∷ 206 ∷ 715 ∷ 2120 ∷ 827 ∷ 577 ∷ 2107 ∷ 830 ∷ 228 ∷ 10 ∷ 10 ∷ 1079 ∷ 1582 ∷ 371 ∷ 373 ∷ 397 ∷ 1214 ∷ 1175 ∷ 427 ∷ 10 ∷ 1694 ∷ 1284 ∷ 10 ∷ 10 ∷ 10 ∷ 10 ∷ 10 ∷ 1386 ∷ 107 ∷ 109 ∷ 12 ∷ 109 ∷ 1436 ∷ 1358 ∷ 109 ∷ 1554 ∷ 350 ∷ 316 ∷ 572 ∷ 192 ∷ 1860 ∷ 261 ∷ 486 ∷ 490 ∷ 1421 ∷ 1082 ∷ 617 ∷ 445 ∷ 1421 ∷ 536 ∷ 859 ∷ 1421 ∷ 1669 ∷ 767 ∷ 369 ∷ 197 ∷ 1244 ∷ 987 ∷ 526 ∷ 982 ∷ 443 ∷ []

named_1 : unnamed (take 128 (drop 128 shown)) takers_1 ≡ []
unfolding shown table further packages headers markup code records archives images media late office kinds roots elements pictures rasters sounds packed disks papers stores games others scripts documents secrets bitmaps shapes chunks tunes squeezed bundles volumes assorted databases science measures prints compiled keyrings consoles shallow schemas dialects notations unheaded mended openings prefaces remarks captions headlines letters settings scores objects inner deeper farther buried texts nameless keys k0.keys k1.keys k2.keys k3.keys k4.keys k5.keys k6.keys k7.keys takers_1
named_1 = refl

takers_2 : List ℕ
takers_2 = 832 ∷ 130 ∷ 163 ∷ 600 ∷ 10 ∷ 425 ∷ 304 ∷ 10 ∷ 10 ∷ 211 ∷ 9 ∷ 332 ∷ 10 ∷ 10 ∷ 10 ∷ 10 ∷ 10 ∷ 10 ∷ 10 ∷ 10 ∷ 10 ∷ 10 ∷ 10 ∷ 10 ∷ 10 ∷ 10 ∷ 10 ∷ 10 ∷ 10 ∷ 10 ∷ 10 ∷ 10 ∷ 10 ∷ 227 ∷ 1783 ∷ 754 ∷ 2052 ∷ 583 ∷ 1207 ∷ 16 ∷ 1935 ∷ 2049 ∷ 557 ∷ 758 ∷ 584 ∷ 2285 ∷ 541 ∷ 358 ∷ 1631 ∷ 1746 ∷ 2094 ∷ 143 ∷ 912 ∷ 1455 ∷ 1025 ∷ 384 ∷ 1940 ∷ 1173 ∷ 975 ∷ 1996 ∷ 818 ∷ 1281 ∷ 1834 ∷ 501 ∷ 1700 ∷ 426 ∷ 301 ∷ 322 ∷ 1319 ∷ 382 ∷ 1566 ∷ 1222 ∷ 10 ∷ 600 ∷ 2035 ∷ 1311 ∷ 1175 ∷ 1917 ∷ 292 ∷ 2054 ∷ 324 ∷ 1697 ∷ 173 ∷ 1588 ∷ 1778 ∷ 782 ∷ 941 ∷ 2099 ∷ 1957 ∷ 95 ∷ 0 ∷ 617 ∷ 617 ∷ 1247 ∷ 1704 ∷ 0 ∷ 0 ∷ 302 ∷ 449 ∷ 1226 ∷ 603 ∷ 520 ∷ 1378 ∷ 1564 ∷ 983 ∷ 1867 ∷ 644 ∷ 2219 ∷ 716 ∷ 1576 ∷ 2075 ∷ 579 ∷ 540 ∷ 10 ∷ 10 ∷ 1413 ∷ 193 ∷ 10 ∷ 1070 ∷ 1364 ∷ 471 ∷ 2204 ∷ 255 ∷ 2144 ∷ 210 ∷ 213 ∷ 600 ∷ 600 ∷ []

named_2 : unnamed (take 128 (drop 256 shown)) takers_2 ≡ []
unfolding shown table further packages headers markup code records archives images media late office kinds roots elements pictures rasters sounds packed disks papers stores games others scripts documents secrets bitmaps shapes chunks tunes squeezed bundles volumes assorted databases science measures prints compiled keyrings consoles shallow schemas dialects notations unheaded mended openings prefaces remarks captions headlines letters settings scores objects inner deeper farther buried texts nameless keys k0.keys k1.keys k2.keys k3.keys k4.keys k5.keys k6.keys k7.keys takers_2
named_2 = refl

takers_3 : List ℕ
takers_3 = 600 ∷ 2144 ∷ 201 ∷ 1645 ∷ 10 ∷ 10 ∷ 913 ∷ 10 ∷ 1828 ∷ 383 ∷ 1259 ∷ 293 ∷ 10 ∷ 10 ∷ 10 ∷ 3 ∷ 10 ∷ 10 ∷ 10 ∷ 10 ∷ 0 ∷ 10 ∷ 10 ∷ 10 ∷ 10 ∷ 10 ∷ 10 ∷ 10 ∷ 10 ∷ 10 ∷ 10 ∷ 10 ∷ 922 ∷ 308 ∷ 1421 ∷ 127 ∷ 287 ∷ 1115 ∷ 1421 ∷ 1421 ∷ 961 ∷ 211 ∷ 332 ∷ 9 ∷ 1421 ∷ 1421 ∷ 352 ∷ 1421 ∷ 1101 ∷ 956 ∷ 831 ∷ 271 ∷ 10 ∷ 10 ∷ 10 ∷ 10 ∷ 10 ∷ 10 ∷ 10 ∷ 10 ∷ 276 ∷ 276 ∷ 276 ∷ 131 ∷ 131 ∷ 131 ∷ 131 ∷ 1841 ∷ 1744 ∷ 1581 ∷ 1919 ∷ 1045 ∷ 693 ∷ 905 ∷ 461 ∷ 827 ∷ 827 ∷ 2022 ∷ 849 ∷ 1463 ∷ 2193 ∷ 2148 ∷ 300 ∷ 1384 ∷ 1017 ∷ 1890 ∷ 1482 ∷ 1889 ∷ 1390 ∷ 398 ∷ 1044 ∷ 2175 ∷ 0 ∷ 1211 ∷ 334 ∷ 1556 ∷ 721 ∷ 2065 ∷ 2060 ∷ 1108 ∷ 1571 ∷ 1159 ∷ 1129 ∷ 571 ∷ 2048 ∷ 2017 ∷ 15 ∷ 2260 ∷ 2027 ∷ 462 ∷ 765 ∷ 462 ∷ 1185 ∷ 1587 ∷ 2206 ∷ 417 ∷ 1368 ∷ 1483 ∷ 2055 ∷ 1656 ∷ 1613 ∷ 1971 ∷ 1396 ∷ 1074 ∷ 1139 ∷ 492 ∷ 128 ∷ 2004 ∷ []

named_3 : unnamed (take 128 (drop 384 shown)) takers_3 ≡ []
unfolding shown table further packages headers markup code records archives images media late office kinds roots elements pictures rasters sounds packed disks papers stores games others scripts documents secrets bitmaps shapes chunks tunes squeezed bundles volumes assorted databases science measures prints compiled keyrings consoles shallow schemas dialects notations unheaded mended openings prefaces remarks captions headlines letters settings scores objects inner deeper farther buried texts nameless keys k0.keys k1.keys k2.keys k3.keys k4.keys k5.keys k6.keys k7.keys takers_3
named_3 = refl

takers_4 : List ℕ
takers_4 = 2002 ∷ 2003 ∷ 178 ∷ 565 ∷ 1062 ∷ 757 ∷ 1809 ∷ 598 ∷ 1964 ∷ 393 ∷ 433 ∷ 2103 ∷ 1753 ∷ 615 ∷ 576 ∷ 32 ∷ 45 ∷ 1067 ∷ 108 ∷ 277 ∷ 519 ∷ 496 ∷ 2267 ∷ 2218 ∷ 2307 ∷ 1537 ∷ 1311 ∷ 392 ∷ 1826 ∷ 610 ∷ 2186 ∷ 704 ∷ 556 ∷ 1252 ∷ 695 ∷ 844 ∷ 399 ∷ 399 ∷ 0 ∷ 1053 ∷ 0 ∷ 1276 ∷ 452 ∷ 2007 ∷ 21 ∷ 1413 ∷ 692 ∷ 701 ∷ 811 ∷ 135 ∷ 104 ∷ 1514 ∷ 1292 ∷ 635 ∷ 1237 ∷ 1153 ∷ 10 ∷ 1590 ∷ 2289 ∷ 545 ∷ 1215 ∷ 879 ∷ 1548 ∷ 1289 ∷ 1303 ∷ 1900 ∷ 1565 ∷ 1565 ∷ 318 ∷ 1399 ∷ 932 ∷ 511 ∷ 1565 ∷ 2180 ∷ 1275 ∷ 200 ∷ 1565 ∷ 2160 ∷ 2050 ∷ 964 ∷ 682 ∷ 2236 ∷ 2113 ∷ 0 ∷ 1448 ∷ 730 ∷ 894 ∷ 756 ∷ 424 ∷ 295 ∷ 1639 ∷ 1304 ∷ 1424 ∷ 1609 ∷ 1373 ∷ 440 ∷ 1285 ∷ 1447 ∷ 2251 ∷ 332 ∷ 2058 ∷ 147 ∷ 1212 ∷ 672 ∷ 728 ∷ 2066 ∷ 400 ∷ 363 ∷ 325 ∷ 0 ∷ 357 ∷ 1913 ∷ 1821 ∷ 62 ∷ 1714 ∷ 620 ∷ 1144 ∷ 647 ∷ 5 ∷ 105 ∷ 1606 ∷ 1198 ∷ 1355 ∷ 1527 ∷ 650 ∷ 2091 ∷ 129 ∷ 1745 ∷ []

named_4 : unnamed (take 128 (drop 512 shown)) takers_4 ≡ []
unfolding shown table further packages headers markup code records archives images media late office kinds roots elements pictures rasters sounds packed disks papers stores games others scripts documents secrets bitmaps shapes chunks tunes squeezed bundles volumes assorted databases science measures prints compiled keyrings consoles shallow schemas dialects notations unheaded mended openings prefaces remarks captions headlines letters settings scores objects inner deeper farther buried texts nameless keys k0.keys k1.keys k2.keys k3.keys k4.keys k5.keys k6.keys k7.keys takers_4
named_4 = refl

takers_5 : List ℕ
takers_5 = 33 ∷ 1059 ∷ 864 ∷ 10 ∷ 10 ∷ 1678 ∷ 1022 ∷ 1874 ∷ 2281 ∷ 2207 ∷ 10 ∷ 10 ∷ 10 ∷ 2176 ∷ 249 ∷ 2208 ∷ 968 ∷ 1342 ∷ 1988 ∷ 722 ∷ 10 ∷ 0 ∷ 247 ∷ 816 ∷ 1604 ∷ 1345 ∷ 194 ∷ 1191 ∷ 34 ∷ 60 ∷ 74 ∷ 1357 ∷ 2301 ∷ 1576 ∷ 10 ∷ 920 ∷ 1039 ∷ 1563 ∷ 10 ∷ 594 ∷ 1935 ∷ 648 ∷ 2317 ∷ 790 ∷ 2111 ∷ 100 ∷ 1038 ∷ 88 ∷ 1611 ∷ 1423 ∷ 2140 ∷ 154 ∷ 1969 ∷ 2009 ∷ 995 ∷ 1129 ∷ 1633 ∷ 547 ∷ 488 ∷ 365 ∷ 935 ∷ 521 ∷ 1879 ∷ 10 ∷ 737 ∷ 899 ∷ 402 ∷ 402 ∷ 1512 ∷ 706 ∷ 348 ∷ 833 ∷ 348 ∷ 761 ∷ 815 ∷ 2087 ∷ 4 ∷ 962 ∷ 2292 ∷ 1652 ∷ 937 ∷ 377 ∷ 1715 ∷ 1773 ∷ 10 ∷ 593 ∷ 1163 ∷ 1163 ∷ 1808 ∷ 10 ∷ 2205 ∷ 1447 ∷ 2241 ∷ 502 ∷ 10 ∷ 10 ∷ 10 ∷ 1683 ∷ 10 ∷ 1169 ∷ 921 ∷ 900 ∷ 1539 ∷ 10 ∷ 1528 ∷ 1868 ∷ 1465 ∷ 349 ∷ 1990 ∷ 317 ∷ 151 ∷ 1875 ∷ 857 ∷ 1137 ∷ 1911 ∷ 819 ∷ 566 ∷ 1100 ∷ 931 ∷ 921 ∷ 0 ∷ 1912 ∷ 1246 ∷ 2149 ∷ 1730 ∷ 10 ∷ 286 ∷ 10 ∷ []

named_5 : unnamed (take 128 (drop 640 shown)) takers_5 ≡ []
unfolding shown table further packages headers markup code records archives images media late office kinds roots elements pictures rasters sounds packed disks papers stores games others scripts documents secrets bitmaps shapes chunks tunes squeezed bundles volumes assorted databases science measures prints compiled keyrings consoles shallow schemas dialects notations unheaded mended openings prefaces remarks captions headlines letters settings scores objects inner deeper farther buried texts nameless keys k0.keys k1.keys k2.keys k3.keys k4.keys k5.keys k6.keys k7.keys takers_5
named_5 = refl

takers_6 : List ℕ
takers_6 = 10 ∷ 10 ∷ 10 ∷ 10 ∷ 10 ∷ 10 ∷ 10 ∷ 10 ∷ 10 ∷ 10 ∷ 10 ∷ 10 ∷ 10 ∷ 10 ∷ 10 ∷ 10 ∷ 10 ∷ 10 ∷ 10 ∷ 10 ∷ 10 ∷ 10 ∷ 10 ∷ 10 ∷ 10 ∷ 10 ∷ 10 ∷ 10 ∷ 10 ∷ 10 ∷ 10 ∷ 10 ∷ 10 ∷ 10 ∷ 10 ∷ 10 ∷ 10 ∷ 10 ∷ 10 ∷ 10 ∷ 10 ∷ 10 ∷ 10 ∷ 10 ∷ 10 ∷ 10 ∷ 10 ∷ 10 ∷ 10 ∷ 10 ∷ 10 ∷ 10 ∷ 10 ∷ 10 ∷ 10 ∷ 10 ∷ 10 ∷ 10 ∷ 10 ∷ 10 ∷ 10 ∷ 10 ∷ 10 ∷ 13 ∷ 510 ∷ 10 ∷ 10 ∷ 10 ∷ 10 ∷ 401 ∷ 276 ∷ 548 ∷ 923 ∷ 923 ∷ 195 ∷ 195 ∷ 195 ∷ 195 ∷ 195 ∷ 827 ∷ 827 ∷ 827 ∷ 662 ∷ 827 ∷ 2305 ∷ 2294 ∷ 1021 ∷ 10 ∷ 10 ∷ 1709 ∷ 10 ∷ 10 ∷ 10 ∷ 10 ∷ 10 ∷ 10 ∷ 35 ∷ 10 ∷ 1889 ∷ 229 ∷ 906 ∷ 890 ∷ 10 ∷ 10 ∷ 10 ∷ 10 ∷ 1995 ∷ 10 ∷ 10 ∷ 10 ∷ 10 ∷ 10 ∷ 10 ∷ 10 ∷ 10 ∷ 10 ∷ 10 ∷ 10 ∷ 10 ∷ 1015 ∷ 10 ∷ 1509 ∷ 372 ∷ 10 ∷ 10 ∷ 10 ∷ 1785 ∷ 915 ∷ []

named_6 : unnamed (take 128 (drop 768 shown)) takers_6 ≡ []
unfolding shown table further packages headers markup code records archives images media late office kinds roots elements pictures rasters sounds packed disks papers stores games others scripts documents secrets bitmaps shapes chunks tunes squeezed bundles volumes assorted databases science measures prints compiled keyrings consoles shallow schemas dialects notations unheaded mended openings prefaces remarks captions headlines letters settings scores objects inner deeper farther buried texts nameless keys k0.keys k1.keys k2.keys k3.keys k4.keys k5.keys k6.keys k7.keys takers_6
named_6 = refl

takers_7 : List ℕ
takers_7 = 1443 ∷ 10 ∷ 359 ∷ 10 ∷ 10 ∷ 10 ∷ 10 ∷ 10 ∷ 1350 ∷ 10 ∷ 10 ∷ 10 ∷ 1569 ∷ 10 ∷ 10 ∷ 10 ∷ 10 ∷ 1738 ∷ 10 ∷ 10 ∷ 1155 ∷ 10 ∷ 442 ∷ 10 ∷ 168 ∷ 10 ∷ 10 ∷ 10 ∷ 10 ∷ 10 ∷ 10 ∷ 10 ∷ 10 ∷ 10 ∷ 10 ∷ 10 ∷ 10 ∷ 10 ∷ 10 ∷ 10 ∷ 10 ∷ 10 ∷ 10 ∷ 10 ∷ 10 ∷ 10 ∷ 10 ∷ 10 ∷ 10 ∷ 10 ∷ 10 ∷ 10 ∷ 10 ∷ 10 ∷ 10 ∷ 10 ∷ 10 ∷ 10 ∷ 10 ∷ 10 ∷ 452 ∷ 10 ∷ 10 ∷ 935 ∷ 10 ∷ 559 ∷ 683 ∷ 928 ∷ 416 ∷ 409 ∷ 1124 ∷ 1927 ∷ 1519 ∷ 1431 ∷ 1431 ∷ 2246 ∷ 1976 ∷ 2145 ∷ 1473 ∷ 1648 ∷ 697 ∷ 625 ∷ 2213 ∷ 1718 ∷ 558 ∷ 12 ∷ 1641 ∷ 1677 ∷ 560 ∷ 1565 ∷ 1565 ∷ 1565 ∷ 1565 ∷ 1565 ∷ 1565 ∷ 1565 ∷ 1565 ∷ 1621 ∷ 987 ∷ 2242 ∷ 1971 ∷ 124 ∷ 962 ∷ 1092 ∷ 1032 ∷ 126 ∷ 1970 ∷ 833 ∷ 833 ∷ 2234 ∷ 1161 ∷ 1161 ∷ 989 ∷ 218 ∷ 1431 ∷ 1241 ∷ 53 ∷ 0 ∷ 1431 ∷ 1431 ∷ 1902 ∷ 1925 ∷ 169 ∷ 378 ∷ 1431 ∷ 1088 ∷ 1832 ∷ 936 ∷ []

named_7 : unnamed (take 128 (drop 896 shown)) takers_7 ≡ []
unfolding shown table further packages headers markup code records archives images media late office kinds roots elements pictures rasters sounds packed disks papers stores games others scripts documents secrets bitmaps shapes chunks tunes squeezed bundles volumes assorted databases science measures prints compiled keyrings consoles shallow schemas dialects notations unheaded mended openings prefaces remarks captions headlines letters settings scores objects inner deeper farther buried texts nameless keys k0.keys k1.keys k2.keys k3.keys k4.keys k5.keys k6.keys k7.keys takers_7
named_7 = refl

takers_8 : List ℕ
takers_8 = 10 ∷ 0 ∷ 10 ∷ 2 ∷ 1 ∷ []

named_8 : unnamed (take 5 (drop 1024 shown)) takers_8 ≡ []
unfolding shown table further packages headers markup code records archives images media late office kinds roots elements pictures rasters sounds packed disks papers stores games others scripts documents secrets bitmaps shapes chunks tunes squeezed bundles volumes assorted databases science measures prints compiled keyrings consoles shallow schemas dialects notations unheaded mended openings prefaces remarks captions headlines letters settings scores objects inner deeper farther buried texts nameless keys k0.keys k1.keys k2.keys k3.keys k4.keys k5.keys k6.keys k7.keys takers_8
named_8 = refl

pub each_named : EachRowIsNamed
unfolding shown table further packages headers markup code records archives images media late office kinds roots elements pictures rasters sounds packed disks papers stores games others scripts documents secrets bitmaps shapes chunks tunes squeezed bundles volumes assorted databases science measures prints compiled keyrings consoles shallow schemas dialects notations unheaded mended openings prefaces remarks captions headlines letters settings scores objects inner deeper farther buried texts
each_named =
    named_part shown 0 128 takers_0 named_0
    (named_part shown 128 128 takers_1 named_1
    (named_part shown 256 128 takers_2 named_2
    (named_part shown 384 128 takers_3 named_3
    (named_part shown 512 128 takers_4 named_4
    (named_part shown 640 128 takers_5 named_5
    (named_part shown 768 128 takers_6 named_6
    (named_part shown 896 128 takers_7 named_7
    (named_last shown 1024 5 takers_8 refl named_8))))))))
