-- The program that a script names, and what more bytes may make of it.
use Rattle.infer_formats.proofs.Common.{◌≡◌, ◌==◌, ◌||◌, ◌&&◌, nat_le, if◌then◌else◌, ℕ, zero, suc, ◌+◌, ◌-◌, ◌<◌, ◌≤◌, ◌⊎◌, inl, inr, ap, refl, Bool, true, false, List, ◌++◌, Option, None, Some, length, codes, get_or, sym, subst, ◌∙◌, MatchOption, arith, list_all, get_or_append_left, OccursAt, Lasts, IsEnv, IsFirstWord, IsLineEnd, IsNextWord, IsProgram, IsSetting, IsVersionByte, IsWord, IsWordByte, NamesProgram, IsRun, AgreesAt, MayBecome, grown_agrees, ◌↔◌, IsTrue, not, true≢false, lines, program, EndsBare, IsFolder, IsNameOf, IsRead, StandsByPlace, accepts, stands, cases_lt, drop, nat_tests, slice_index, slice_range}
use Rattle.std.proofs.lemmas.List.Sums.{AllPass-from_list_all}
use Rattle.infer_formats.specs.Script.{IsBlank}
use Rattle.infer_formats.specs.declared.script.Word.{Word}
use Rattle.infer_formats.proofs.FrontLemmas.{SharesFront, after_last_shared, byte_shared, byte_shared_back, front_grows, front_swaps, range_shared, run_shared, text_shared}
use Rattle.infer_formats.proofs.OutlineLemmas.{begins}
use Rattle.infer_formats.proofs.RunLemmas.{one_after_last, one_run_end}
use Rattle.std.proofs.Common.{◌≢◌}
use Rattle.infer_formats.specs.Laws.{Single}
use Rattle.infer_formats.proofs.LetterLemmas.{Letters, letters, letters_from}
use Rattle.infer_sig.proofs.KnownLemmas.{Known, at_most, both, either, is, needs, negated, proved, same, same_text, takes, ◌>>=◌}
use Rattle.infer_sig.proofs.OccurrenceLemmas.{ByPlace, occurs}

-- words that overlap are one
pub one_word : (b : List ℕ) (from to p q : ℕ) → IsWord b from to → IsWord b p q → from ≤ p → p < to → (p ≡ from) × (q ≡ to)
one_word b from to p q w v low high =
    let here : p ≡ from = (let before = w.run.bytes (p - 1) in let blank = v.begins in let least = w.low in grind arith) in
    let moved = subst (λ x. IsWord b x q) here v in
    (here, one_run_end IsWordByte b from q to moved.run w.run)

-- so one word is the next with a property
pub one_next_word : (b : List ℕ) (Has : ℕ → ℕ → Type 0) (place from to p q : ℕ)
    → IsNextWord b Has place from to → IsNextWord b Has place p q → (p ≡ from) × (q ≡ to)
one_next_word b Has place from to p q w v =
    let early = λ (lt : p < from). w.before p q v.low lt v.word v.has in
    let late = λ (lt : from < p). v.before from to w.low lt w.word w.has in
    let here : p ≡ from = grind arith in
    let some = w.word.some in
    one_word b from to p q w.word v.word (omega arith) (omega arith)

-- past the spaces and tabs no word begins where word bytes go on to the end
pub no_word_to_end : (b : List ℕ) (place from : ℕ) → ((k : ℕ) → place ≤ k → k < from → ¬ IsWordByte (get_or b k 0))
    → ((k : ℕ) → from ≤ k → k < length b → IsWordByte (get_or b k 0)) → (p q : ℕ) → place ≤ p → ¬ IsWord b p q
no_word_to_end b place from blanks rest p q low w =
    let r = w.run in
    let order = w.some in
    let whole = r.whole in
    let first = r.bytes p (omega arith) order in
    let far : from ≤ p = (let early = blanks p low in grind arith) in
    r.ends (rest q (omega arith) whole)

-- past them the word that stands there is the next one
pub next_read : (b : List ℕ) (place from : ℕ) → ((k : ℕ) → place ≤ k → k < from → IsBlank (get_or b k 0)) → 2 ≤ place
    → ((k : ℕ) → 2 ≤ k → k < place → ¬ IsLineEnd (get_or b k 0)) → (place ≡ 2) ⊎ (¬ IsWordByte (get_or b place 0)) → place ≤ from → IsWordByte (get_or b from 0) → (r : Option Word)
    → MatchOption r ((k : ℕ) → from ≤ k → k < length b → IsWordByte (get_or b k 0)) (λ w. (w.from ≡ from) × IsRun IsWordByte b from w.to × IsRead b w)
    → MatchOption r ((p q : ℕ) → place ≤ p → ¬ IsWord b p q) (λ w. IsNextWord b (λ p q. Unit {0}) place w.from w.to)
next_read b place from blanks least line ends low here None rest = no_word_to_end b place from (λ k le lt is. let blank = blanks k le lt in grind arith) rest
next_read b place from blanks least line ends low here (Some w) (same, run, read) =
    let parted : (k : ℕ) → place ≤ k → k < from → ¬ IsWordByte (get_or b k 0) = (λ k le lt is. let blank = blanks k le lt in grind arith) in
    let order = run.order in
    let end = run.ends in
    subst (λ x. IsNextWord b (λ p q. Unit {0}) place x w.to) (sym same) (record {
      word = record {
        low = omega arith;
        line = λ k le lt is. let early = line k le in let later = blanks k in grind arith;
        begins = λ lt. let before = blanks (from - 1) in grind arith;
        some = grind arith;
        run = run;
      };
      low = low;
      has = tt;
      before = λ p q le lt v u. parted p le lt (v.run.bytes p (omega arith) v.some);
    })

-- the words that `env` has before the one from `from` on, and that one
pub settings_more : (b : List ℕ) (place before from to : ℕ) → IsNextWord b (λ i j. Unit {0}) before from to
    → ((p q : ℕ) → place ≤ p → p < before → IsWord b p q → IsSetting b p q) → IsSetting b from to
    → (p q : ℕ) → place ≤ p → p < to → IsWord b p q → IsSetting b p q
settings_more b place before from to w settings this p q low high v =
    let early = λ (lt : p < before). settings p q low lt v in
    let between : before ≤ p → p < from → IsSetting b p q = λ le lt. absurd (w.before p q le lt v tt) in
    let here = λ (le : from ≤ p).
    let same = one_word b from to p q w.word v le high in
    subst (λ x. IsSetting b x q) (sym same.0) (subst (λ y. IsSetting b from y) (sym same.1) this) in
    grind arith

-- with no word in the line none names the program
pub no_first_word : (b : List ℕ) → ((p q : ℕ) → 2 ≤ p → ¬ IsWord b p q) → (p q : ℕ) → ¬ NamesProgram b p q
no_first_word b none p q names = elim names [
  | inl (first, other) ↦ none p q first.low first.word
  | inr (from, to, first, env, next) ↦ none from to first.low first.word
]

-- where the first word is `env`, the next that it does not take for itself names the program
pub named_after_env : (b : List ℕ) (from to : ℕ) → IsFirstWord b from to → IsEnv b from to → (r : Option Word)
    → MatchOption r ((p q : ℕ) → to ≤ p → IsWord b p q → IsSetting b p q) (λ w. IsNextWord b (λ i j. ¬ IsSetting b i j) to w.from w.to)
    → MatchOption r ((p q : ℕ) → ¬ NamesProgram b p q) (λ w. NamesProgram b w.from w.to)
named_after_env b from to first env (Some w) next = inr (from, to, first, env, next)
named_after_env b from to first env None settings = λ p q names. elim names [
  | inl (other, not_env) ↦
      let same = one_next_word b (λ i j. Unit {0}) 2 p q from to other first in
      not_env (subst (λ x. IsEnv b x q) same.0 (subst (λ y. IsEnv b from y) same.1 env))
  | inr (other, end, is_first, is_env, next) ↦
      let same = one_next_word b (λ i j. Unit {0}) 2 other end from to is_first first in
      let low = next.low in
      next.has (settings p q (omega (arith, same.1)) next.word)
]

-- one word names the program
pub one_program_word : (b : List ℕ) (from to p q : ℕ) → NamesProgram b from to → NamesProgram b p q → (p ≡ from) × (q ≡ to)
one_program_word b from to p q (inl (first, other)) (inl (is_first, not_env)) =
    one_next_word b (λ i j. Unit {0}) 2 from to p q first is_first
one_program_word b from to p q (inl (first, other)) (inr (f, t, is_first, env, next)) =
    let same = one_next_word b (λ i j. Unit {0}) 2 f t from to is_first first in
    absurd (other (subst (λ x. IsEnv b x to) (sym same.0) (subst (λ y. IsEnv b f y) (sym same.1) env)))
one_program_word b from to p q (inr (f, t, is_first, env, next)) (inl (first, other)) =
    let same = one_next_word b (λ i j. Unit {0}) 2 f t p q is_first first in
    absurd (other (subst (λ x. IsEnv b x q) (sym same.0) (subst (λ y. IsEnv b f y) (sym same.1) env)))
one_program_word b from to p q (inr (f, t, first, env, next)) (inr (g, u, is_first, is_env, is_next)) =
    let same = one_next_word b (λ i j. Unit {0}) 2 f t g u first is_first in
    one_next_word b (λ i j. ¬ IsSetting b i j) t from to p q next (subst (λ x. IsNextWord b (λ i j. ¬ IsSetting b i j) x p q) same.1 is_next)

-- which is one of the line
pub named_word : (b : List ℕ) (p q : ℕ) → NamesProgram b p q → IsWord b p q
named_word b p q (inl (first, other)) = first.word
named_word b p q (inr (from, to, first, env, next)) = next.word

-- whose name has one end without a version
pub one_bare_end : (b : List ℕ) (at to end other : ℕ) → EndsBare b at to end → EndsBare b at to other → end ≡ other
one_bare_end b at to end other n m =
    let early = λ (lt : end < other). m.kept (omega arith) (n.dropped (other - 1) (omega arith) (omega arith)) in
    let late = λ (lt : other < end). n.kept (omega arith) (m.dropped (end - 1) (omega arith) (omega arith)) in
    grind arith

pub one_program : (b n m : List ℕ) → IsProgram n b → IsProgram m b → n ≡ m
one_program b n m (begins, (at, end, p, is)) (again, (other, stop, q, same)) =
    let word = one_program_word b p.from p.to q.from q.to p.word q.word in
    let moved = subst (λ x. IsNameOf b x p.to other) word.0 (subst (λ y. IsNameOf b q.from y other) word.1 q.name) in
    let name = one_after_last 0x2F b p.from p.to other at moved p.name in
    let bare = subst (λ x. EndsBare b x p.to stop) name (subst (λ y. EndsBare b other y stop) word.1 q.bare) in
    let last = one_bare_end b at p.to stop end bare p.bare in
    cc

-- what stands in b stands in what begins as b does
module _ (n : ℕ) (b c : List ℕ) (s : SharesFront n b c) where
  pub word_shared : (p q : ℕ) → q < n → IsWord b p q → IsWord c p q
  word_shared p q high w =
      let some = w.some in record {
        low = w.low;
        line = λ k low lt is. w.line k low lt (byte_shared_back n b c s IsLineEnd k (omega arith) is);
        begins = λ lt. byte_shared n b c s IsBlank (p - 1) (omega arith) (w.begins lt);
        some = some;
        run = run_shared n b c s IsWordByte p q high w.run;
      }

  pub setting_shared : (p q : ℕ) → p < q → q < n → IsSetting b p q → IsSetting c p q
  setting_shared p q some high (inl is) = inl (byte_shared n b c s (λ x. x ≡ 0x2D) p (omega arith) is)
  setting_shared p q some high (inr (k, low, lt, is)) =
      inr (k, low, lt, byte_shared n b c s (λ x. x ≡ 0x3D) k (omega arith) is)

  pub env_shared : (p q : ℕ) → q < n → IsEnv b p q → IsEnv c p q
  env_shared p q high (at, name, o, ends) =
      let name_shared = after_last_shared n b c s 0x2F p q at (omega arith) name in
      (at, name_shared, text_shared n b c s (codes "env") at (omega arith) o, ends)

  bare_shared : (at to end : ℕ) → to ≤ n → EndsBare b at to end → EndsBare c at to end
  bare_shared at to end high e = record {
    low = e.low;
    high = e.high;
    dropped = λ k low lt. byte_shared n b c s IsVersionByte k (omega arith) (e.dropped k low lt);
    kept = λ lt is. let h = e.high in e.kept lt (byte_shared_back n b c s IsVersionByte (end - 1) (omega arith) is);
  }

module _ (b c : List ℕ) (s : SharesFront (length b) b c) where
  -- a word before one of b ends before it begins
  pub ends_before : (from to p q : ℕ) → IsWord b from to → p < from → IsWord c p q → q < from
  ends_before from to p q w lt v =
      let low = v.low in
      let some = w.some in
      let whole = w.run.whole in
      let blank = byte_shared (length b) b c s IsBlank (from - 1) (omega arith) (w.begins (omega arith)) in
      let inside = v.run.bytes (from - 1) (omega arith) in
      grind arith

  next_lasts : (Has Had : ℕ → ℕ → Type 0) → ((p q : ℕ) → p < q → q < length b → Has p q → Had p q)
      → ((p q : ℕ) → p < q → q < length b → Had p q → Has p q)
      → (place from to : ℕ) → IsNextWord b Has place from to → IsNextWord c Had place from to
  next_lasts Has Had keeps was place from to w =
      let some = w.word.some in
      let whole = w.word.run.whole in record {
        word = word_shared (length b) b c s from to whole w.word;
        low = w.low;
        has = keeps from to some whole w.has;
        before = λ p q low lt v had.
            let ends = ends_before from to p q w.word lt v in
            let fits : q < length b = omega arith in
            let word = word_shared (length b) c b (front_swaps (length b) b c s) p q fits v in
            w.before p q low lt word (was p q v.some fits had);
      }

  pub first_lasts : (p q : ℕ) → IsFirstWord b p q → IsFirstWord c p q
  first_lasts = next_lasts (λ p q. Unit {0}) (λ p q. Unit {0}) (λ p q some high is. tt) (λ p q some high is. tt) 2

  names_lasts : (p q : ℕ) → NamesProgram b p q → NamesProgram c p q
  names_lasts p q (inl (first, other)) =
      let back = front_swaps (length b) b c s in
      inl (first_lasts p q first, λ env. other (env_shared (length b) c b back p q first.word.run.whole env))
  names_lasts p q (inr (from, to, first, env, next)) =
      let back = front_swaps (length b) b c s in
      inr (
        from,
        to,
        first_lasts from to first,
        env_shared (length b) b c s from to first.word.run.whole env,
        next_lasts (λ i j. ¬ IsSetting b i j) (λ i j. ¬ IsSetting c i j)
            (λ i j some high other is. other (setting_shared (length b) c b back i j some high is))
            (λ i j some high other is. other (setting_shared (length b) b c s i j some high is)) to p q next,
      )

pub IsProgram-lasts : (name : List ℕ) → Lasts (IsProgram name)
IsProgram-lasts name b more (begins, (at, end, p, is)) =
    let s = front_grows b more in
    let c = b ++ more in
    let whole = (named_word b p.from p.to p.word).run.whole in
    let low = p.bare.low in
    let high = p.bare.high in (
      text_shared (length b) b c s (codes "#!") 0 begins.fits begins,
      (
        at,
        end,
        record {
          from = p.from;
          to = p.to;
          word = names_lasts b c s p.from p.to p.word;
          name = after_last_shared (length b) b c s 0x2F p.from p.to at (omega arith) p.name;
          bare = bare_shared (length b) b c s at p.to end (omega arith) p.bare;
        },
        is ∙ range_shared (length b) b c s at end low (omega arith),
      ),
    )

-- ---- paths as most scripts name them

abbrev is_path_byte : ℕ → Bool
is_path_byte x = not (x == 0x20 || x == 0x09 || x == 0x0A || x == 0x0D || x == 0x3D)

path_byte : (x : ℕ) → is_path_byte x ≡ true → IsWordByte x × (¬ (x ≡ 0x3D))
path_byte x h = ((λ e. no 0x20 e refl, λ e. no 0x09 e refl, λ e. no 0x0A e refl, λ e. no 0x0D e refl), λ e. no 0x3D e refl)
  where
    no : (y : ℕ) → x ≡ y → ¬ (is_path_byte y ≡ false)
    no y e other = absurd (true≢false (sym h ∙ ap is_path_byte e ∙ other))

path_reads : (b path : List ℕ) (p : ℕ) → list_all is_path_byte path ≡ true → OccursAt b path p
    → (k : ℕ) → p ≤ k → k < p + length path → IsWordByte (get_or b k 0) × (¬ (get_or b k 0 ≡ 0x3D))
path_reads b path p all o k low lt =
    let same : p + (k - p) ≡ k = omega arith in
    let within : k - p < length path = omega arith in
    let reads = subst (λ x. get_or b x 0 ≡ get_or path (k - p) 0) same (o.reads (k - p) within) in
    path_byte _ (ap is_path_byte reads ∙ AllPass-from_list_all is_path_byte path all (k - p) 0 within)

-- a path that ends by "/" is a folder
pub path_is_folder : (b path : List ℕ) (p : ℕ) → list_all is_path_byte path ≡ true → get_or path (length path - 1) 0 ≡ 0x2F
    → OccursAt b path p → IsFolder b p (p + length path)
path_is_folder b path p all last o = record {
  low = omega arith;
  high = o.fits;
  bytes = path_reads b path p all o;
  ends = λ lt.
      let same : p + (length path - 1) ≡ p + length path - 1 = omega arith in
      subst (λ x. get_or b x 0 ≡ 0x2F) same (o.reads (length path - 1) (omega arith) ∙ last);
}

module _ (b : List ℕ) (o : OccursAt b (codes "/usr/bin/env ") 2) where
  path_stands : OccursAt b (codes "/usr/bin/env") 2
  path_stands = record {
    fits = (let fits = o.fits in omega arith);
    reads = λ j lt. o.reads j (omega arith) ∙ get_or_append_left (codes "/usr/bin/env") (codes " ") 0 j lt;
  }

  pub env_byte : (k : ℕ) → 2 ≤ k → k < 14 → IsWordByte (get_or b k 0)
  env_byte k low lt = (path_reads b (codes "/usr/bin/env") 2 refl path_stands k low lt).0

  pub env_first : IsFirstWord b 2 14
  env_first = record {
    word = record {
      low = omega arith;
      line = λ k low lt. absurd (omega arith);
      begins = λ lt. absurd (omega arith);
      some = omega arith;
      run = record {
        order = omega arith;
        bytes = env_byte;
        whole = (let fits = o.fits in omega arith);
        ends = λ is. is.0 (o.reads 12 (omega arith));
      };
    };
    low = omega arith;
    has = tt;
    before = λ p q low lt. absurd (omega arith);
  }

  pub env_named : IsEnv b 2 14
  env_named = (
    11,
    record {
      low = omega arith;
      high = omega arith;
      begins = λ lt. o.reads 8 (omega arith);
      last = λ k low lt is. let e = o.reads 9 (omega arith) in let n = o.reads 10 (omega arith) in let v = o.reads 11 (omega arith) in grind arith;
    },
    record { fits = (let fits = o.fits in omega arith); reads = reads_env },
    refl,
  )
    where
      reads_env : (j : ℕ) → j < 3 → get_or b (11 + j) 0 ≡ get_or (codes "env") j 0
      reads_env zero lt = o.reads 9 (omega arith)
      reads_env (suc zero) lt = o.reads 10 (omega arith)
      reads_env (suc (suc zero)) lt = o.reads 11 (omega arith)
      reads_env (suc (suc (suc j))) lt = absurd (omega arith)

-- ---- what more bytes may make

-- one that names a program keeps it
pub named_stays : (b n name : List ℕ) → IsProgram n b → MayBecome (IsProgram name) b → n ≡ name
named_stays b n name is (more, bytes, later) = one_program (b ++ more) n name (IsProgram-lasts n b more is) later

pub begun_so : (b name : List ℕ) → MayBecome (IsProgram name) b → AgreesAt b (codes "#!") 0
begun_so b name (more, bytes, (o, rest)) = grown_agrees b more (codes "#!") 0 o

-- ---- the bytes that each has

module _ (by_place : (place : ℕ) (t buf : List ℕ) → IsTrue (stands place t buf) ↔ StandsByPlace place t buf) (b : List ℕ) where
  pub program_lines : (name : List ℕ) → IsProgram name b → IsTrue (accepts (lines (program name)) b)
  program_lines name (o, _) = begins by_place b 2 (codes "#!") (let le = o.fits in omega arith) o

-- ---- what a computation says of the program of a script

-- what stands between words, and what a name has, of which "/" begins another
abbrev pub is_gap : ℕ → Bool
is_gap x = (x == 0x20 || x == 0x09) || (x == 0x0A || x == 0x0D)

abbrev pub is_named_byte : ℕ → Bool
is_named_byte x = not (is_gap x || x == 0x2F)

abbrev pub is_version : ℕ → Bool
is_version x = (nat_le 0x30 x && nat_le x 0x39) || x == 0x2E

gap_ends : (x : ℕ) → IsTrue (is_gap x) → ¬ IsWordByte x
gap_ends x h (no_space, no_tab, no_line, no_return) = grind (arith, nat_tests)

byte_of_word : (x : ℕ) → IsTrue (is_named_byte x) → IsWordByte x
byte_of_word x h = (λ e. grind (arith, nat_tests), λ e. grind (arith, nat_tests), λ e. grind (arith, nat_tests), λ e. grind (arith, nat_tests))

named_no_slash : (x : ℕ) → IsTrue (is_named_byte x) → x ≢ 0x2F
named_no_slash x h e = grind (arith, nat_tests)

not_version : (x : ℕ) → IsTrue (not (is_version x)) → ¬ IsVersionByte x
not_version x h (inl (low, high)) = grind (arith, nat_tests)
not_version x h (inr e) = grind (arith, nat_tests)

module _ (by_place : ByPlace) (single : Single) (b : List ℕ) where
  -- a name that begins the line, or stands after the "/" that does, up to a gap
  pub is_program : (at to : ℕ) → OccursAt b (codes "#!") 0 → (at ≡ 2) ⊎ ((at ≡ 3) × (slice_index b 2 ≡ 0x2F)) → Letters is_named_byte b at to
      → at < to → to < length b → IsTrue (is_gap (slice_index b to)) → IsTrue (not (is_version (slice_index b (to - 1)))) → ¬ OccursAt b (codes "env") at
      → IsProgram (slice_range b at to) b
  is_program at to starts front letters some whole gap bare other =
      let low : 2 ≤ at = elim front [ inl e ↦ omega arith | inr (e, slash) ↦ omega arith ] in
      let early : (k : ℕ) → 2 ≤ k → k < at → slice_index b k ≡ 0x2F = λ k from lt. elim front [
        | inl e ↦ absurd (omega arith)
        | inr (e, slash) ↦ let same : 2 ≡ k = omega arith in subst (λ i. slice_index b i ≡ 0x2F) same slash
      ] in
      let bytes : (k : ℕ) → 2 ≤ k → k < to → IsWordByte (slice_index b k) = λ k from lt. elim (cases_lt k at) [
        | inl before ↦ let slash = early k from before in (λ e. omega arith, λ e. omega arith, λ e. omega arith, λ e. omega arith)
        | inr after ↦ byte_of_word (slice_index b k) (letters k after lt)
      ] in
      let word : IsWord b 2 to = record {
        low = omega arith;
        line = λ k from lt is. omega arith;
        begins = λ lt. absurd (omega arith);
        some = omega arith;
        run = record { order = omega arith; bytes = bytes; whole = whole; ends = gap_ends (slice_index b to) gap };
      } in
      let first : IsFirstWord b 2 to = record { word = word; low = omega arith; has = tt; before = λ p q from lt. absurd (omega arith) } in
      let name : IsNameOf b 2 to at = record {
        low = low;
        high = omega arith;
        begins = λ lt. early (at - 1) (omega arith) (omega arith);
        last = λ k from lt. named_no_slash (slice_index b k) (letters k from lt);
      } in
      let not_env : ¬ IsEnv b 2 to = λ (place, own, o, e). other (subst (OccursAt b (codes "env")) (one_after_last 0x2F b 2 to place at own name) o) in (
        starts,
        (
          at,
          to,
          record {
            from = 2;
            to = to;
            word = inl (first, not_env);
            name = name;
            bare = record {
              low = omega arith;
              high = omega arith;
              dropped = λ k from lt. absurd (omega arith);
              kept = λ lt. not_version (slice_index b (to - 1)) bare;
            };
          },
          refl,
        ),
      )

  -- where the name begins and ends
  abbrev name_start : ℕ
  name_start = if slice_index b 2 == 0x2F then 3 else 2

  abbrev name_end : ℕ
  name_end = name_start + letters is_named_byte (drop name_start b)

  abbrev starts_name : Known ((name_start ≡ 2) ⊎ ((name_start ≡ 3) × (slice_index b 2 ≡ 0x2F)))
  starts_name = either (same name_start 2) (both (same name_start 3) (same (slice_index b 2) 0x2F))

  abbrev own_program : Known (IsProgram (slice_range b name_start name_end) b)
  own_program = do
    starts ← takes (occurs by_place (codes "#!") b 0)
    front ← takes starts_name
    some ← takes (at_most (suc name_start) name_end)
    whole ← takes (at_most (suc name_end) (length b))
    gap ← takes (is (is_gap (slice_index b name_end)))
    bare ← takes (is (not (is_version (slice_index b (name_end - 1)))))
    other ← takes (negated (occurs by_place (codes "env") b name_start))
    proved (is_program name_start name_end starts front (letters_from is_named_byte b name_start) (omega arith) (omega arith) gap bare other)

  abbrev pub known_program : (name : List ℕ) → Known (IsProgram name b)
  known_program name = do
    own ← takes own_program
    equal ← needs (same_text name (slice_range b name_start name_end)) (λ is. single.program b name (slice_range b name_start name_end) is own)
    proved (subst (λ n. IsProgram n b) (sym equal) own)
