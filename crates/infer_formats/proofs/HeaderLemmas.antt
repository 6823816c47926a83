-- Later headers: what more bytes keep and may bring, and what a computation says of them.
use Rattle.infer_formats.proofs.Common.{◌≡◌, ◌⊎◌, inl, inr, ℕ, ◌+◌, ◌<◌, ◌≤◌, List, ◌++◌, IsTrue, length, codes, sym, subst, arith, cases_lt, le16-append, le32-append, OccursAt, OccursAt-append, AgreesAt, MayBecome, grown_agrees, StandsByPlace, accepts, lines, stands, ◌↔◌, le16}
use Rattle.infer_formats.specs.Header.{HasLaterHeader, later_place}
use Rattle.infer_formats.specs.Relation.{header}
use Rattle.infer_formats.proofs.GrowthLemmas.{longer}
use Rattle.infer_formats.proofs.OutlineLemmas.{begins}
use Rattle.infer_sig.proofs.KnownLemmas.{Known, at_most, needs, proved, ◌>>=◌}
use Rattle.infer_sig.proofs.OccurrenceLemmas.{ByPlace, occurs}

module _ (b more : List ℕ) (long : 64 ≤ length b) where
  place_kept : later_place (b ++ more) ≡ later_place b
  place_kept = le32-append b more 60 (omega arith)

pub header-lasts : (b more t : List ℕ) (far low high : ℕ) → HasLaterHeader t far low high b → HasLaterHeader t far low high (b ++ more)
header-lasts b more t far low high (long, dos, o, within, from, to) =
    let place = place_kept b more long in
    let number = le16-append b more (later_place b + far) within in
    subst (λ n. (64 ≤ length (b ++ more)) × OccursAt (b ++ more) (codes "MZ") 0 × OccursAt (b ++ more) t n × (n + far + 2 ≤ length (b ++ more)) × (low ≤ le16 (b ++ more) (n + far)) × (le16 (b ++ more) (n + far) ≤ high))
    (sym place) (
      longer b more 64 long,
      OccursAt-append b more _ 0 dos,
      OccursAt-append b more t (later_place b) o,
      longer b more _ within,
      subst (λ n. low ≤ n) (sym number) from,
      subst (λ n. n ≤ high) (sym number) to,
    )

pub header_known : (t : List ℕ) (far low high : ℕ) (b : List ℕ) → MayBecome (HasLaterHeader t far low high) b
    → AgreesAt b (codes "MZ") 0
    × ((length b < 64)
    ⊎ (AgreesAt b t (later_place b) × (later_place b + far + 2 ≤ length b → (low ≤ le16 b (later_place b + far)) × (le16 b (later_place b + far) ≤ high))))
header_known t far low high b (more, bytes, (big, dos, o, within, from, to)) = (
  grown_agrees b more _ 0 dos,
  elim (cases_lt (length b) 64) [
    | inl l ↦ inl l
    | inr long ↦
        let place = place_kept b more long in
        let number_from = subst (λ n. low ≤ le16 (b ++ more) (n + far)) place from in
        let number_to = subst (λ n. le16 (b ++ more) (n + far) ≤ high) place to in
        inr (
          grown_agrees b more t (later_place b) (subst (OccursAt (b ++ more) t) place o),
          λ inside.
              let number = le16-append b more (later_place b + far) inside in
              (subst (λ n. low ≤ n) number number_from, subst (λ n. n ≤ high) number number_to),
        )
  ],
)

pub header_lines : (by_place : (place : ℕ) (t buf : List ℕ) → IsTrue (stands place t buf) ↔ StandsByPlace place t buf) (b t : List ℕ) (far low high : ℕ)
    → HasLaterHeader t far low high b → IsTrue (accepts (lines (header t far low high)) b)
header_lines by_place b t far low high (long, dos, o, within, from, to) = begins by_place b 2 (codes "MZ") (omega arith) dos

-- ---- what a computation says of it

module _ (by_place : ByPlace) (b : List ℕ) where
  abbrev pub known_header : (t : List ℕ) (far low high : ℕ) → Known (HasLaterHeader t far low high b)
  known_header t far low high = do
    long ← needs (at_most 64 (length b)) (λ h. h.0)
    dos ← needs (occurs by_place (codes "MZ") b 0) (λ h. h.1)
    stands ← needs (occurs by_place t b (later_place b)) (λ h. h.2)
    within ← needs (at_most (later_place b + far + 2) (length b)) (λ h. h.3)
    from ← needs (at_most low (le16 b (later_place b + far))) (λ h. h.4)
    to ← needs (at_most (le16 b (later_place b + far)) high) (λ h. h.5)
    proved (long, dos, stands, within, from, to)
