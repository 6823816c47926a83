-- Windows: they last, and the first 1024 bytes decide.
use Rattle.infer_deep.proofs.Common.{IsTrue, ◌≡◌, ◌↔◌, ℕ, ◌+◌, ◌≤◌, List, [], ◌∷◌, ◌++◌, length, max, refl, true, Option, Some, None, inl, inr, arith, length-append, take-append-drop, length-take-le, cases_lt, false≢true, is_some, OccursAt, IsFirstWithin, are_bytes, AgreesAt, Lasts, IsNear, MayBecome, StandsBy, IsMatroska}
use Rattle.infer_deep.proofs.PlaceLemmas.{OccursAt-append, OccursAt-front}
use Rattle.infer_deep.proofs.OpenLemmas.{agrees_past, grown_agrees, stands_where_whole, fills_text, fills_parts}

abbrev ebml : List ℕ
ebml = 0x1A ∷ 0x45 ∷ 0xDF ∷ 0xA3 ∷ []

pub StandsBy-lasts : (text : List ℕ) (end : ℕ) → Lasts (StandsBy text end)
StandsBy-lasts text end b more (p, w) = grind (arith, OccursAt-append b more text p w.stands)

-- it stands in a front that reaches the end of the window
pub StandsBy-front : (text : List ℕ) (end : ℕ) (b more : List ℕ)
    → end ≤ length b → StandsBy text end (b ++ more) → StandsBy text end b
StandsBy-front text end b more l (p, w) = grind (arith, OccursAt-front b more text p)

pub IsMatroska-lasts : (doc_type : List ℕ) → Lasts (IsMatroska doc_type)
IsMatroska-lasts doc_type b more h = grind (arith, length-append b more, OccursAt-append b more ebml 0 h.1, StandsBy-lasts doc_type 256 b more h.2)

-- what lasts is near, if the first 1024 bytes of a yes say yes
pub near_from_growth : (S : List ℕ → Type 0) → Lasts S
    → ((b more : List ℕ) → length b ≡ 1024 → S (b ++ more) → S b) → IsNear S
near_from_growth S lasts front b l = grind (arith, take-append-drop 1024 b, length-take-le 1024 b l)

-- whether there is a least place says whether there is one
pub found_stands : (b text : List ℕ) (end : ℕ) (r : Option ℕ)
    → IsFirstWithin OccursAt b text 0 end r → is_some r ≡ true ↔ StandsBy text end b
found_stands b text end None h = (λ is. absurd (false≢true is), λ (p, w). absurd (h p w))
found_stands b text end (Some p) h = (λ is. (p, h.here), λ is. refl)

-- a text can come to stand where it agrees, so it can after a buffer that leaves room for it
pub reach_window : (text : List ℕ) (end : ℕ) (b : List ℕ) (p : ℕ) → IsTrue (are_bytes text) → p + length text ≤ end → AgreesAt b text p → MayBecome (StandsBy text end) b
reach_window text end b p bytes high a = grind (arith, fills_text b text p bytes a)

pub room_reaches : (b text : List ℕ) (end : ℕ) → IsTrue (are_bytes text) → length b + length text ≤ end → MayBecome (StandsBy text end) b
room_reaches b text end bytes room = reach_window text end b (length b) bytes room (agrees_past b text (length b) (omega arith))

pub found_reaches : (b text : List ℕ) (end : ℕ) (r : Option ℕ) → IsTrue (are_bytes text)
    → IsFirstWithin AgreesAt b text 0 end r → is_some r ≡ true ↔ MayBecome (StandsBy text end) b
found_reaches b text end None bytes none = (λ is. absurd (false≢true is), λ (more, all, (p, w)). grind (arith, none p, grown_agrees b more text p))
found_reaches b text end (Some p) bytes first = grind (arith, reach_window text end b p bytes)

-- the header of EBML and a document type can come to stand together
pub matroska_reaches : (doc_type b : List ℕ) → IsTrue (are_bytes doc_type) → length doc_type ≤ 252
    → (AgreesAt b ebml 0 × MayBecome (StandsBy doc_type 256) b) ↔ MayBecome (IsMatroska doc_type) b
matroska_reaches doc_type b bytes short = (
  λ (header, (more, all, (p, w))). elim (cases_lt 256 (length b + length doc_type)) [
    | inl full ↦
        let f = fills_parts (record { place = p; text = doc_type } ∷ []) b 0 257
        (omega arith, bytes, omega arith)
        (grown_agrees b more doc_type p w.stands, tt) in
        let begins = OccursAt-append b f.more ebml 0 (stands_where_whole b ebml 0 (omega arith) header) in
        (f.more, f.bytes, (f.long, begins, (p, grind (arith, f.holds))))
    | inr room ↦
        let f = fills_parts (record { place = 0; text = ebml } ∷ record { place = max 4 (length b); text = doc_type } ∷ []) b 0 257
        (omega arith, refl, (omega arith, bytes, omega arith))
        (header, (agrees_past b doc_type (max 4 (length b)) (omega arith), tt)) in
        (f.more, f.bytes, (omega arith, f.holds.0, (max 4 (length b), grind (arith, f.holds))))
  ],
  λ (more, all, (long, header, (p, w))). (grown_agrees b more ebml 0 header, (more, all, (p, w))),
)
