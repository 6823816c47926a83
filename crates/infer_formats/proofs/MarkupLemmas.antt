-- The parts of a prolog, the tag that they lead to, the name of the document type, and what more bytes may make of them.
use Rattle.infer_formats.proofs.Common.{◌≡◌, ◌↔◌, ℕ, ◌+◌, ◌-◌, ◌<◌, ◌≤◌, ◌⊎◌, inl, inr, List, ◌++◌, Option, None, Some, length, codes, get_or, add-zero, refl, sym, subst, ap, ◌∙◌, arith, cases_lt, slice_range, OccursAt, Lasts, AgreesWithDoctype, BeginsAt, BeginsElement, ClosesDeclaration, HasRoot, HasRootWith, IsDoctype, IsEnclosed, IsMisc, IsPart, IsRootElement, IsSpaceRun, EndsType, IsXmlSpace, ReachesTag, StartsTag, utf8_mark, IsAfterLast, IsRun, zero, suc, drop, get_or_append_left, AgreesAt, MayBecome, grown_agrees, OccursAt-front, HasInTag, drop-append-le, IsNameByte, MayReachTag}
use Rattle.infer_formats.specs.Markup.{HasClosing, StartsElement, DecidesRoot, here, later}
use Rattle.infer_formats.proofs.FrontLemmas.{SharesFront, after_last_shared, byte_shared, byte_shared_back, front_grows, front_swaps, range_shared, run_shared, text_shared}
use Rattle.infer_formats.proofs.RunLemmas.{one_after_last, one_run_end}
use Rattle.infer_formats.proofs.SubsetLemmas.{close_lasts, close_within, comment_first, enclosed_lasts, instruction_first, one_close, one_enclosed}

-- what the first bytes of a part are
pub space_first : (b : List ℕ) (p q : ℕ) → IsSpaceRun b p q → IsXmlSpace (get_or b p 0)
space_first b p q (some, run) = run.bytes p (omega arith) some

doctype_first : (b : List ℕ) (p name close : ℕ) → IsDoctype b p name close
    → (get_or b p 0 ≡ 0x3C) × (get_or b (p + 1) 0 ≡ 0x21) × (get_or b (p + 2) 0 ≡ 0x44)
doctype_first b p name close d =
    let o = d.starts in (rw add-zero at (o.reads 0 (omega arith)), o.reads 1 (omega arith), o.reads 2 (omega arith))

-- "<" is no white space
pub not_space : (x : ℕ) → x ≡ 0x3C → ¬ IsXmlSpace x
not_space x is s = grind arith

-- so one part stands at a place
one_misc : (b : List ℕ) (p q r : ℕ) → IsMisc b p q → IsMisc b p r → q ≡ r
one_misc b p q r (inl s) (inl t) = one_run_end IsXmlSpace b p q r s.1 t.1
one_misc b p q r (inr (inl i)) (inr (inl j)) = one_enclosed b (codes "<?") (codes "?>") p q r i j
one_misc b p q r (inr (inr c)) (inr (inr e)) = one_enclosed b (codes "<!--") (codes "-->") p q r c e
one_misc b p q r (inl s) (inr (inl i)) = absurd (not_space _ (instruction_first b p r i).0 (space_first b p q s))
one_misc b p q r (inl s) (inr (inr c)) = absurd (not_space _ (comment_first b p r c).0 (space_first b p q s))
one_misc b p q r (inr (inl i)) (inl s) = absurd (not_space _ (instruction_first b p q i).0 (space_first b p r s))
one_misc b p q r (inr (inr c)) (inl s) = absurd (not_space _ (comment_first b p q c).0 (space_first b p r s))
one_misc b p q r (inr (inl i)) (inr (inr c)) =
    absurd (let x = instruction_first b p q i in let y = comment_first b p r c in omega arith)
one_misc b p q r (inr (inr c)) (inr (inl i)) =
    absurd (let x = instruction_first b p r i in let y = comment_first b p q c in omega arith)

no_misc_doctype : (b : List ℕ) (p q name close : ℕ) → IsMisc b p q → ¬ IsDoctype b p name close
no_misc_doctype b p q name close (inl s) d = not_space _ (doctype_first b p name close d).0 (space_first b p q s)
no_misc_doctype b p q name close (inr (inl i)) d =
    let x = instruction_first b p q i in let y = doctype_first b p name close d in omega arith
no_misc_doctype b p q name close (inr (inr c)) d =
    let x = comment_first b p q c in let y = doctype_first b p name close d in omega arith

one_doctype : (b : List ℕ) (p name close other end : ℕ) → IsDoctype b p name close → IsDoctype b p other end
    → (name ≡ other) × (close ≡ end)
one_doctype b p name close other end d e =
    let same = one_run_end IsXmlSpace b (p + 9) name other d.space.1 e.space.1 in
    let moved = subst (λ n. ClosesDeclaration b n close) same d.closes in
    (same, one_close b other close end moved e.closes)

one_part : (b : List ℕ) (p : ℕ) (d : Option ℕ) (q : ℕ) (e : Option ℕ) (r : ℕ) (f : Option ℕ)
    → IsPart b p d q e → IsPart b p d r f → (q ≡ r) × (e ≡ f)
one_part b p d q e r f (inl (m, is)) (inl (n, same)) = (one_misc b p q r m n, is ∙ sym same)
one_part b p d q e r f (inl (m, is)) (inr (name, close, doctype, none, ends, same)) =
    absurd (no_misc_doctype b p q name close m doctype)
one_part b p d q e r f (inr (name, close, doctype, none, ends, same)) (inl (m, is)) =
    absurd (no_misc_doctype b p r name close m doctype)
one_part b p d q e r f (inr (name, close, doctype, none, ends, is)) (inr (other, end, again, _, stops, same)) =
    let one = one_doctype b p name close other end doctype again in (omega arith, is ∙ ap Some one.0 ∙ sym same)

-- and it is within the buffer, and no tag of an element
pub part_within : (b : List ℕ) (p : ℕ) (d : Option ℕ) (q : ℕ) (e : Option ℕ) → IsPart b p d q e
    → (p < q) × (q ≤ length b)
part_within b p d q e (inl (inl (some, run), is)) = (some, let w = run.whole in omega arith)
part_within b p d q e (inl (inr (inl (o, (end, first, same))), is)) = let w = first.here in (omega arith, omega arith)
part_within b p d q e (inl (inr (inr (o, (end, first, same))), is)) = let w = first.here in (omega arith, omega arith)
part_within b p d q e (inr (name, close, doctype, none, ends, is)) =
    let space = doctype.space in
    let within = close_within b name close doctype.closes in (omega (arith, space.0), omega arith)

no_tag : (b : List ℕ) (at to p : ℕ) (d : Option ℕ) (q : ℕ) (e : Option ℕ) → IsPart b p d q e → ¬ StartsTag b at to p d
no_tag b at to p d q e (inl (inl s, is)) tag = not_space _ tag.starts (space_first b p q s)
no_tag b at to p d q e (inl (inr (inl i), is)) tag = tag.begins.1 (instruction_first b p q i).1
no_tag b at to p d q e (inl (inr (inr c), is)) tag = tag.begins.0 (comment_first b p q c).1
no_tag b at to p d q e (inr (name, close, doctype, none, ends, is)) tag =
    tag.begins.0 (doctype_first b p name close doctype).1

-- the ways to a tag
pub ways : (b : List ℕ) (at to p : ℕ) (d : Option ℕ) → ReachesTag b at to p d
    → StartsTag b at to p d ⊎ ((q : ℕ) × ((e : Option ℕ) × IsPart b p d q e × ReachesTag b at to q e))
ways b at to p d (here _ _ tag) = inl tag
ways b at to p d (later _ _ q e is rest) = inr (q, (e, is, rest))

-- one leads past a part that stands there
pub past_part : (b : List ℕ) (at to p : ℕ) (d : Option ℕ) (q : ℕ) (e : Option ℕ) → IsPart b p d q e
    → ReachesTag b at to p d ↔ ReachesTag b at to q e
past_part b at to p d q e is = (
  λ leads. elim (ways b at to p d leads) [
    | inl tag ↦ absurd (no_tag b at to p d q e is tag)
    | inr (r, (f, other, rest)) ↦
        let same = one_part b p d r f q e other is in
        subst (λ x. ReachesTag b at to x e) same.0 (subst (λ y. ReachesTag b at to r y) same.1 rest)
  ],
  λ rest. later p d q e is rest,
)

-- where no part stands, the tag starts
pub past_none : (b : List ℕ) (at to p : ℕ) (d : Option ℕ) → ((q : ℕ) (e : Option ℕ) → ¬ IsPart b p d q e)
    → ReachesTag b at to p d ↔ StartsTag b at to p d
past_none b at to p d none = (
  λ leads. elim (ways b at to p d leads) [ inl tag ↦ tag | inr (q, (e, is, rest)) ↦ absurd (none q e is) ],
  λ tag. here p d tag,
)

-- one tag starts at a place
pub one_tag : (b : List ℕ) (at to from end p : ℕ) (d : Option ℕ) → StartsTag b at to p d
    → StartsTag b from end p d → (at ≡ from) × (to ≡ end)
one_tag b at to from end p d t u =
    let same = one_run_end IsNameByte b (p + 1) to end t.name u.name in
    let moved = subst (λ x. IsAfterLast 0x3A b (p + 1) x at) same t.local in
    (one_after_last 0x3A b (p + 1) end at from moved u.local, same)

-- so a place leads to one
pub one_lead : (b : List ℕ) (at to from end p : ℕ) (d : Option ℕ) → ReachesTag b at to p d → ReachesTag b from end p d
    → (at ≡ from) × (to ≡ end)
one_lead b at to from end p d (here _ _ t) other = elim (ways b from end p d other) [
  | inl u ↦ one_tag b at to from end p d t u
  | inr (q, (e, part, rest)) ↦ absurd (no_tag b at to p d q e part t)
]
one_lead b at to from end p d (later _ _ q e part rest) other =
    one_lead b at to from end q e rest ((past_part b from end p d q e part).0 other)

-- where no white space, instruction, comment or first declaration stands, no part does
pub no_part : (b : List ℕ) (p : ℕ) (d : Option ℕ) → ((q : ℕ) → ¬ IsMisc b p q)
    → (d ≡ None → (name close : ℕ) → ¬ IsDoctype b p name close) → (q : ℕ) (e : Option ℕ) → ¬ IsPart b p d q e
no_part b p d no_misc no_doctype q e (inl (m, is)) = no_misc q m
no_part b p d no_misc no_doctype q e (inr (name, close, doctype, none, ends, is)) = no_doctype none name close doctype

-- where neither white space, an instruction nor a comment stands, none of them does
pub no_misc : (b : List ℕ) (p : ℕ) → (¬ IsXmlSpace (get_or b p 0)) → ((q : ℕ) → ¬ IsEnclosed b (codes "<?") (codes "?>") p q)
    → ((q : ℕ) → ¬ IsEnclosed b (codes "<!--") (codes "-->") p q) → (q : ℕ) → ¬ IsMisc b p q
no_misc b p no_space no_instruction no_comment q (inl space) = no_space (space_first b p q space)
no_misc b p no_space no_instruction no_comment q (inr (inl instruction)) = no_instruction q instruction
no_misc b p no_space no_instruction no_comment q (inr (inr comment)) = no_comment q comment

-- where the name of an element begins after "<" none of them does
pub no_misc_started : (b : List ℕ) (p : ℕ) → StartsElement b p → (q : ℕ) → ¬ IsMisc b p q
no_misc_started b p (within, tag, (no_mark, no_question)) q (inl space) = not_space _ tag (space_first b p q space)
no_misc_started b p (within, tag, (no_mark, no_question)) q (inr (inl i)) = no_question (instruction_first b p q i).1
no_misc_started b p (within, tag, (no_mark, no_question)) q (inr (inr c)) = no_mark (comment_first b p q c).1

-- nor any part, where no document type was declared
pub started_undeclared : (b : List ℕ) (p : ℕ) → StartsElement b p → (q : ℕ) (e : Option ℕ) → ¬ IsPart b p None q e
started_undeclared b p starts = no_part b p None (no_misc_started b p starts)
    (λ none name close doctype. let (within, tag, (no_mark, no_question)) = starts in no_mark (doctype_first b p name close doctype).1)

-- a tag is led to from before white space as from after it
pub spaces_lead : (b : List ℕ) (at to p q : ℕ) (d : Option ℕ) → p ≤ q → ((k : ℕ) → p ≤ k → k < q → IsXmlSpace (get_or b k 0))
    → ReachesTag b at to p d ↔ ReachesTag b at to q d
spaces_lead b at to p q d order spaces = elim (cases_lt p q) [
  | inr late ↦ let same : p ≡ q = omega arith in (λ l. subst (λ x. ReachesTag b at to x d) same l, λ l. subst (λ x. ReachesTag b at to x d) (sym same) l)
  | inl less ↦
      let space = spaces p (omega arith) less in
      let to_there : (q < length b) → (¬ IsXmlSpace (get_or b q 0)) → ReachesTag b at to q d → ReachesTag b at to p d = λ whole ends leads.
      later p d q d (inl (inl (less, record { order = order; bytes = spaces; whole = whole; ends = ends }), refl)) leads in (
        λ leads. elim (ways b at to p d leads) [
          | inl tag ↦ absurd (not_space _ tag.starts space)
          | inr (r, (e, part, rest)) ↦ elim part [
            | inl (inl (some, run), is) ↦
                let far : q ≤ r = elim (cases_lt r q) [ inl early ↦ absurd (run.ends (spaces r (omega arith) early)) | inr le ↦ le ] in
                elim (cases_lt q r) [
                  | inl lt ↦
                      later q d r e (inl (
                        inl (
                          lt,
                          record {
                            order = far;
                            bytes = λ k low high. run.bytes k (omega arith) high;
                            whole = run.whole;
                            ends = run.ends;
                          },
                        ),
                        is,
                      )) rest
                  | inr le ↦
                      let here : r ≡ q = omega arith in subst (λ x. ReachesTag b at to x d) here (subst (λ x. ReachesTag b at to r x) is rest)
                ]
            | inl (inr (inl i), is) ↦ absurd (not_space _ (instruction_first b p r i).0 space)
            | inl (inr (inr c), is) ↦ absurd (not_space _ (comment_first b p r c).0 space)
            | inr (name, close, doctype, none, ends, is) ↦ absurd (not_space _ (doctype_first b p name close doctype).0 space)
          ]
        ],
        λ leads. elim (ways b at to q d leads) [
          | inl tag ↦ to_there (let order = tag.name.order in let whole = tag.name.whole in omega arith) (not_space _ tag.starts) leads
          | inr (r, (e, part, rest)) ↦
              let within = part_within b q d r e part in
              let inside : q < length b = omega arith in
              elim part [
                | inl (inl (some, run), is) ↦
                    later p d r e (inl (
                      inl (
                        omega arith,
                        record {
                          order = omega arith;
                          bytes = λ k low high. elim (cases_lt k q) [ inl early ↦ spaces k low early | inr le ↦ run.bytes k le high ];
                          whole = run.whole;
                          ends = run.ends;
                        },
                      ),
                      is,
                    )) rest
                | inl (inr (inl i), is) ↦ to_there inside (not_space _ (instruction_first b q r i).0) leads
                | inl (inr (inr c), is) ↦ to_there inside (not_space _ (comment_first b q r c).0) leads
                | inr (name, close, doctype, none, ends, is) ↦ to_there inside (not_space _ (doctype_first b q name close doctype).0) leads
              ]
        ],
      )
]

-- no tag starts where the name, or what follows its last ":", is no name of an element
module _ (b : List ℕ) (p to : ℕ) (d : Option ℕ) (run : IsRun IsNameByte b (p + 1) to) where
  same_end : (at end : ℕ) → StartsTag b at end p d → end ≡ to
  same_end at end tag = one_run_end IsNameByte b (p + 1) end to tag.name run

  pub undeclared : (¬ AgreesWithDoctype b d (p + 1) to) → (at end : ℕ) → ¬ StartsTag b at end p d
  undeclared other at end tag = other (subst (AgreesWithDoctype b d (p + 1)) (same_end at end tag) tag.agrees)

  pub unnamed : IsAfterLast 0x3A b (p + 1) to to → (at end : ℕ) → ¬ StartsTag b at end p d
  unnamed none at end tag =
      let same = same_end at end tag in
      let moved = subst (λ x. IsAfterLast 0x3A b (p + 1) x at) same tag.local in
      let empty = one_after_last 0x3A b (p + 1) to at to moved none in
      let some = tag.some in omega arith

-- a prolog begins at one place
pub one_begin : (b : List ℕ) (p q : ℕ) → BeginsAt b p → BeginsAt b q → p ≡ q
one_begin b p q (inl (mark, is)) (inl (_, same)) = is ∙ sym same
one_begin b p q (inl (mark, is)) (inr (none, same)) = absurd (none mark)
one_begin b p q (inr (none, is)) (inl (mark, same)) = absurd (none mark)
one_begin b p q (inr (none, is)) (inr (_, same)) = is ∙ sym same

-- what begins with an element begins with no byte order mark
pub begins_at_front : (b : List ℕ) → get_or b 0 0 ≡ 0x3C → BeginsAt b 0
begins_at_front b e = inr (λ mark. absurd (let first : get_or b 0 0 ≡ 0xEF = mark.reads 0 (omega arith) in omega arith), refl)

-- what stands in b stands in what begins as b does
module _ (b c : List ℕ) (s : SharesFront (length b) b c) where
  space_lasts : (p q : ℕ) → IsSpaceRun b p q → IsSpaceRun c p q
  space_lasts p q (some, run) = (some, run_shared (length b) b c s IsXmlSpace p q run.whole run)

  pub part_lasts : (p : ℕ) (d : Option ℕ) (q : ℕ) (e : Option ℕ) → IsPart b p d q e → IsPart c p d q e
  part_lasts p d q e (inl (inl space, is)) = inl (inl (space_lasts p q space), is)
  part_lasts p d q e (inl (inr (inl i), is)) = inl (inr (inl (enclosed_lasts b c s (codes "<?") (codes "?>") p q i)), is)
  part_lasts p d q e (inl (inr (inr i), is)) = inl (inr (inr (enclosed_lasts b c s (codes "<!--") (codes "-->") p q i)), is)
  part_lasts p d q e (inr (name, close, doctype, none, ends, is)) =
      inr (
        name,
        close,
        record {
          starts = text_shared (length b) b c s (codes "<!DOCTYPE") p doctype.starts.fits doctype.starts;
          space = space_lasts (p + 9) name doctype.space;
          closes = close_lasts b c s name close doctype.closes;
        },
        none,
        ends,
        is,
      )

  pub name_lasts : (d : Option ℕ) (p q : ℕ) → p ≤ q → q ≤ length b → AgreesWithDoctype b d p q → AgreesWithDoctype c d p q
  name_lasts None p q order high is = is
  name_lasts (Some name) p q order high (o, fits, ends) =
      let same = range_shared (length b) b c s p q order high in (
        subst (λ t. OccursAt c t name) same (text_shared (length b) b c s (slice_range b p q) name o.fits o),
        (let long = s.second in omega arith),
        byte_shared (length b) b c s EndsType (name + (q - p)) fits ends,
      )

  pub tag_lasts : (at to p : ℕ) (d : Option ℕ) → StartsTag b at to p d → StartsTag c at to p d
  tag_lasts at to p d t =
      let order = t.name.order in
      let whole = t.name.whole in record {
        starts = byte_shared (length b) b c s (λ x. x ≡ 0x3C) p (omega arith) t.starts;
        name = run_shared (length b) b c s IsNameByte (p + 1) to whole t.name;
        begins = byte_shared (length b) b c s BeginsElement (p + 1) (omega arith) t.begins;
        local = after_last_shared (length b) b c s 0x3A (p + 1) to at (omega arith) t.local;
        some = t.some;
        agrees = name_lasts d (p + 1) to order (omega arith) t.agrees;
      }

  leads_lasts : (at to p : ℕ) (d : Option ℕ) → ReachesTag b at to p d → ReachesTag c at to p d
  leads_lasts at to p d (here _ _ tag) = here p d (tag_lasts at to p d tag)
  leads_lasts at to p d (later _ _ q e is rest) = later p d q e (part_lasts p d q e is) (leads_lasts at to q e rest)

-- the tag is within the buffer
tag_within : (b : List ℕ) (at to p : ℕ) (d : Option ℕ) → ReachesTag b at to p d
    → (p + 1 ≤ at) × (at < to) × (to < length b)
tag_within b at to p d (here _ _ tag) = (tag.local.low, tag.some, tag.name.whole)
tag_within b at to p d (later _ _ q e is rest) =
    let past = part_within b p d q e is in let within = tag_within b at to q e rest in (omega arith, within.1, within.2)

pub begin_lasts : (b c : List ℕ) (p : ℕ) → SharesFront (length b) b c → 3 ≤ length b → BeginsAt b p → BeginsAt c p
begin_lasts b c p s long (inl (mark, is)) = inl (text_shared (length b) b c s utf8_mark 0 mark.fits mark, is)
begin_lasts b c p s long (inr (none, is)) =
    inr (λ mark. none (text_shared (length b) c b (front_swaps (length b) b c s) utf8_mark 0 (omega arith) mark), is)

pub root_lasts : (name rest b more : List ℕ) → IsRootElement name rest b → IsRootElement name (rest ++ more) (b ++ more)
root_lasts name rest b more (p, at, to, begins, leads, is_name, is_rest) =
    let s = front_grows b more in
    let (low, some, whole) = tag_within b at to p None leads in (
      p,
      at,
      to,
      begin_lasts b (b ++ more) p s (omega arith) begins,
      leads_lasts b (b ++ more) s at to p None leads,
      is_name ∙ range_shared (length b) b (b ++ more) s at to (omega arith) (omega arith),
      ap (λ r. r ++ more) is_rest ∙ sym (drop-append-le to b more (omega arith)),
    )

pub HasRoot-lasts : (name : List ℕ) → Lasts (HasRoot name)
HasRoot-lasts name b more (rest, is) = (rest ++ more, root_lasts name rest b more is)

pub HasRootWith-lasts : (name text : List ℕ) → Lasts (HasRootWith name text)
HasRootWith-lasts name text b more (rest, is, (p, o, none)) =
    let s = front_grows rest more in
    let back = byte_shared_back (length rest) rest (rest ++ more) s (λ x. x ≡ 0x3E) in
    let fits = o.fits in (
      rest ++ more,
      root_lasts name rest b more is,
      (
        p,
        text_shared (length rest) rest (rest ++ more) s text p fits o,
        λ k lt closes. none k lt (back k (omega arith) closes),
      ),
    )

-- ---- what more bytes may make

-- the prolog begins where it did
begin_stays : (b more : List ℕ) (start : ℕ) → ¬ ((length b < 3) × AgreesAt b utf8_mark 0) → BeginsAt b start → BeginsAt (b ++ more) start
begin_stays b more start other begins = elim (cases_lt (length b) 3) [
  | inr l ↦ begin_lasts b (b ++ more) start (front_grows b more) l begins
  | inl l ↦ elim begins [
    | inl (mark, is) ↦ absurd (let fits = mark.fits in omega arith)
    | inr (none, is) ↦ inr (λ mark. other (l, grown_agrees b more utf8_mark 0 mark), is)
  ]
]

-- where no part stands, a tag that comes may open, or white space goes on to the end of b
reaches : (b more : List ℕ) (p at to : ℕ) (d : Option ℕ) → ((q : ℕ) (e : Option ℕ) → ¬ IsPart b p d q e) → ReachesTag (b ++ more) at to p d → MayReachTag b p
reaches b more p at to d stuck leads = elim (ways (b ++ more) at to p d leads) [
  | inl tag ↦ inr (started tag.starts)
  | inr (q, (e, inl (inl (some, run), same), rest)) ↦ elim (cases_lt q (length b)) [
    | inl lt ↦ absurd (stuck q d (inl (inl (some, run_shared (length b) (b ++ more) b back IsXmlSpace p q lt run), refl)))
    | inr far ↦ inl (λ k low lt. subst IsXmlSpace (get_or_append_left b more 0 k lt) (run.bytes k low (omega arith)))
  ]
  | inr (q, (e, inl (inr (inl i), same), rest)) ↦ inr (started (instruction_first (b ++ more) p q i).0)
  | inr (q, (e, inl (inr (inr c), same), rest)) ↦ inr (started (comment_first (b ++ more) p q c).0)
  | inr (q, (e, inr (name, close, doctype, none, ends, same), rest)) ↦ inr (started (doctype_first (b ++ more) p name close doctype).0)
]
  where
    back : SharesFront (length b) (b ++ more) b
    back = front_swaps (length b) b (b ++ more) (front_grows b more)

    started : get_or (b ++ more) p 0 ≡ 0x3C → AgreesAt b (codes "<") p
    started is = record { reads = go }
      where
        go : (k : ℕ) → k < 1 → p + k < length b → get_or b (p + k) 0 ≡ get_or (codes "<") k 0
        go zero lt within = let here = get_or_append_left b more 0 p (omega arith) in rw add-zero (sym here ∙ is)
        go (suc k) lt within = absurd (omega arith)

pub root_reached : (b name : List ℕ) (start p : ℕ) (d : Option ℕ) → ¬ ((length b < 3) × AgreesAt b utf8_mark 0) → BeginsAt b start
    → ((more : List ℕ) (at to : ℕ) → ReachesTag (b ++ more) at to start None ↔ ReachesTag (b ++ more) at to p d)
    → ((q : ℕ) (e : Option ℕ) → ¬ IsPart b p d q e) → MayBecome (HasRoot name) b → MayReachTag b p
root_reached b name start p d other begins grown stuck (more, bytes, (rest, (q, at, to, begin, leads, is, follows))) =
    let same = one_begin (b ++ more) q start begin (begin_stays b more start other begins) in
    reaches b more p at to d stuck ((grown more at to).0 (subst (λ x. ReachesTag (b ++ more) at to x None) same leads))

-- there is one
pub one_root : (c n rest m other : List ℕ) → IsRootElement n rest c → IsRootElement m other c → (n ≡ m) × (rest ≡ other)
one_root c n rest m other (p, at, to, begins, leads, is, follows) (q, from, end, begin, lead, same, after) =
    let start = one_begin c q p begin begins in
    let both = one_lead c at to from end p None leads (subst (λ x. ReachesTag c from end x None) start lead) in (
      is ∙ ap (λ x. slice_range c x to) both.0 ∙ ap (slice_range c from) both.1 ∙ sym same,
      follows ∙ ap (λ x. drop x c) both.1 ∙ sym after,
    )

pub root_stays : (b n rest name : List ℕ) → IsRootElement n rest b → MayBecome (HasRoot name) b → n ≡ name
root_stays b n rest name is (more, bytes, (other, root)) = (one_root (b ++ more) n (rest ++ more) name other (root_lasts n rest b more is) root).0

-- ---- with a text in the tag

-- a tag that has ended keeps what it has
pub in_tag_ended : (text rest : List ℕ) → HasClosing rest → MayBecome (HasInTag text) rest → HasInTag text rest
in_tag_ended text rest (i, lt, closes) (more, bytes, (p, o, none)) =
    let early : p + length text ≤ i = elim (cases_lt i (p + length text)) [
      | inl l ↦ absurd (none i l (get_or_append_left rest more 0 i lt ∙ closes))
      | inr l ↦ l
    ] in
    (p, OccursAt-front rest more text p (omega arith) o, λ k less e. none k less (get_or_append_left rest more 0 k (omega arith) ∙ e))

pub root_stays_with : (b n rest name text : List ℕ) → IsRootElement n rest b → MayBecome (HasRootWith name text) b
    → (n ≡ name) × MayBecome (HasInTag text) rest
root_stays_with b n rest name text is (more, bytes, (other, root, in_tag)) =
    let one = one_root (b ++ more) n (rest ++ more) name other (root_lasts n rest b more is) root in
    (one.0, (more, bytes, subst (HasInTag text) (sym one.1) in_tag))

pub without_text : (b name text : List ℕ) → MayBecome (HasRootWith name text) b → MayBecome (HasRoot name) b
without_text b name text (more, bytes, (rest, root, in_tag)) = (more, bytes, (rest, root))

-- ---- what tells the root element: a root whose tag has ended, and that there will be none
pub ended_says : (b n rest : List ℕ) → IsRootElement n rest b → HasClosing rest → DecidesRoot b
ended_says b n rest is closes m o ms os name text = (
  λ h. let same = root_stays b n rest name is (m, ms, h) in HasRoot-lasts name b o (rest, subst (λ x. IsRootElement x rest b) same is),
  λ h. let stays = root_stays_with b n rest name text is (m, ms, h) in
      HasRootWith-lasts name text b o (rest, subst (λ x. IsRootElement x rest b) stays.0 is, in_tag_ended text rest closes stays.1),
)

pub never_says : (b : List ℕ) → ((name : List ℕ) → ¬ MayBecome (HasRoot name) b) → DecidesRoot b
never_says b never m o ms os name text =
    (λ h. absurd (never name (m, ms, h)), λ h. absurd (never name (without_text b name text (m, ms, h))))
