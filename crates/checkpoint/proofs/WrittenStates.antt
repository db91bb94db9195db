-- What a state writes is read as the state, and is short enough.
use Rattle.std.proofs.Common.{◌≡◌, ◌⊎◌, ℕ, zero, suc, ◌+◌, ◌-◌, ◌*◌, ◌%◌, ◌^◌, ◌≤◌, ◌<◌, Bool, true, false, cond, ltb, List, [], ◌∷◌, ◌++◌, length, get_or, take, drop, Result, Ok, Err, refl, sym, ap, subst, ◌∙◌, length-append, length-take, length-drop, get_or-take, get_or-drop, arith, inl, inr}
use Rattle.std.specs.Prelude.{codes, decimal, All}
use Rattle.std.specs.List.{concat, flat_map, AllByRecursion}
use Rattle.std.proofs.lemmas.Bool.{ltb-false}
use Rattle.std.proofs.lemmas.Fmt.{length-decimal-le}
use Rattle.std.proofs.lemmas.List.{take-append-drop, nil_from_length}
use Rattle.sha2.specs.Sha256.{sha256}
use Rattle.localisation.specs.Agreement.{modulus_at}
use Rattle.problem.specs.Rules.{ProblemView}
use Rattle.problem_toml.specs.Reading.{reading, reading_of_any_length}
use Rattle.problem_toml.specs.declared.error.ProblemError.{ProblemError}
use Rattle.problem_toml.specs.declared.error.ProblemError.TheVariants as problem_errors
use Rattle.checkpoint.specs.Readers.{problem_or_refusal, counts_fit, residues_fit, state_of}
use Rattle.checkpoint.specs.Refusals.{IsShort, IsRow, IsKnownVersion, AreContents, Writes}
use Rattle.checkpoint.specs.States.{StateView, IsState}
use Rattle.checkpoint.specs.Texts.{Contents, number_line, source_text, residue_text, residues_line, body_of, seal, rows_of, contents_in, text_in, IsTextOf}
use Rattle.checkpoint.proofs.Fits.{counts_fit_from, residues_fit_from}
use Rattle.checkpoint.proofs.Seals.{length-seal}
use Rattle.checkpoint.proofs.StateLaws.{at_state}
use Rattle.checkpoint.proofs.TextLaws.{sha256_digest}
use Rattle.checkpoint.proofs.WordLaws.{chosen}

-- ---- rows of a list

pub length_rows_of : (m count : ℕ) (xs : List ℕ) → length (rows_of m count xs) ≡ count
length_rows_of m zero xs = refl
length_rows_of m (suc count) xs = ap suc (length_rows_of m count (drop m xs))

room_next : (m count : ℕ) (xs : List ℕ) → length xs ≡ suc count * m
    → (length (take m xs) ≡ m) × (length (drop m xs) ≡ count * m)
room_next m count xs room =
    let t = length-take m xs in
    let d = length-drop m xs in
    (grind (arith, t, room), grind (arith, d, room))

pub concat_rows_of : (m count : ℕ) (xs : List ℕ) → length xs ≡ count * m → concat (rows_of m count xs) ≡ xs
concat_rows_of m zero xs room = sym (nil_from_length xs (grind (arith, room)))
concat_rows_of m (suc count) xs room =
    ap (λ (t : List ℕ). take m xs ++ t) (concat_rows_of m count (drop m xs) (room_next m count xs room).1)
    ∙ take-append-drop m xs

pub each_row_of : (m count : ℕ) (xs : List ℕ) → length xs ≡ count * m
    → AllByRecursion (λ row. length row ≡ m) (rows_of m count xs)
each_row_of m zero xs room = tt
each_row_of m (suc count) xs room = let r = room_next m count xs room in (r.0, each_row_of m count (drop m xs) r.1)

abbrev AreSmall : List ℕ → Type 0
AreSmall xs = (j : ℕ) → j < length xs → get_or xs j 0 < 2 ^ 64

numbers_of_list : (xs : List ℕ) → AreSmall xs → AllByRecursion (λ r. r < 2 ^ 64) xs
numbers_of_list [] h = tt
numbers_of_list (x ∷ xs) h = (h 0 (omega arith), numbers_of_list xs (λ j lt. h (suc j) (omega arith)))

small_take : (m : ℕ) (xs : List ℕ) → m ≤ length xs → AreSmall xs → AreSmall (take m xs)
small_take m xs le h j lt =
    let inside : j < m = omega (arith, length-take m xs) in
    rw (get_or-take m xs j 0 inside) (h j (omega arith))

small_drop : (m : ℕ) (xs : List ℕ) → AreSmall xs → AreSmall (drop m xs)
small_drop m xs h j lt = rw get_or-drop (h (m + j) (omega (arith, length-drop m xs)))

pub rows_are : (m count : ℕ) (xs : List ℕ) → 1 ≤ m → length xs ≡ count * m → AreSmall xs
    → AllByRecursion IsRow (rows_of m count xs)
rows_are m zero xs some room small = tt
rows_are m (suc count) xs some room small =
    let r = room_next m count xs room in
    let le : m ≤ length xs = omega (arith, r.0, length-take m xs) in
    (record { some = omega (arith, r.0); numbers = numbers_of_list (take m xs) (small_take m xs le small) }, rows_are m count (drop m xs) some r.1 (small_drop m xs small))

-- ---- the contents of a state

pub source_short : (source : List ℕ) (p : ProblemView) → reading source ≡ Ok p → length source ≤ 1048576
unfolding reading
source_short source p h =
    elim (chosen_problem (ltb 1048576 (length source)) (Err problem_errors.TooLong) (reading_of_any_length source) (Ok p) h) [
      | inl long ↦ absurd (cc long.1)
      | inr short ↦ ltb-false _ _ short.0
    ]
  where
    chosen_problem : (b : Bool) (x y z : Result ProblemView ProblemError) → cond b x y ≡ z
        → ((b ≡ true) × (x ≡ z)) ⊎ ((b ≡ false) × (y ≡ z))
    chosen_problem b x y z e = chosen b x y z e

pub residues_small : (s : StateView) → IsState s → AreSmall s.residues
residues_small s is j lt =
    let ms = s.problem.moduli in
    let moduli = is.rules.moduli in
    let place : j % length ms < length ms = omega (arith, moduli.least) in
    let modulus = moduli.each (j % length ms) 0 place in
    omega (arith, is.residues.below j lt, modulus.limited)

module _ (v : ℕ) (s : StateView) (is : IsState s) (known : IsKnownVersion v) (one : v ≡ 1 → length s.problem.integrals ≡ 1) where
  abbrev m : ℕ
  m = length s.problem.moduli

  abbrev n : ℕ
  n = length s.problem.integrals

  state_again : state_of (contents_in v s) ≡ Ok s
  state_again =
      let joined = concat_rows_of m n s.residues is.residues.one_each in
      let fit : residues_fit s.problem.moduli 0 (concat (rows_of m n s.residues)) ≡ Ok tt = ap (residues_fit s.problem.moduli 0) joined
      ∙ residues_fit_from s.problem.moduli 0 s.residues
      (λ j lt. subst (λ (k : ℕ). get_or s.residues j 0 < modulus_at s.problem.moduli k) (omega arith) (is.residues.below j lt)) in
      at_state (contents_in v s) s.problem (ap problem_or_refusal is.problem) is.next (length_rows_of m n s.residues)
      (counts_fit_from m (rows_of m n s.residues) (each_row_of m n s.residues is.residues.one_each)) fit
      ∙ ap
      (λ (xs : List ℕ). Ok (record { source = s.source; problem = s.problem; next = s.next; residues = xs })) joined

  contents_are : AreContents (contents_in v s)
  contents_are = record {
    version = known;
    source = omega (arith, source_short s.source s.problem is.problem);
    next = omega (arith, is.next, is.rules.few_trees);
    rows = rows_are m n s.residues is.rules.moduli.least is.residues.one_each (residues_small s is);
    some = omega (arith, length_rows_of m n s.residues, is.rules.some_integrals);
    one = λ first. length_rows_of m n s.residues ∙ one first;
  }

-- ---- how long a text is

pub line_short : (word : List ℕ) (k : ℕ) → k < 2 ^ 64 → length (number_line word k) ≤ length word + 21
line_short word k small =
    let d = length-decimal-le 20 k (omega arith) (omega arith) small in
    omega (arith, d, length-append (word ++ decimal k) (codes "\n"), length-append word (decimal k))

residues_short : (row : List ℕ) → AllByRecursion (λ r. r < 2 ^ 64) row
    → length (flat_map residue_text row) ≤ length row * 21
residues_short [] h = omega arith
residues_short (r ∷ row) h =
    let d = length-decimal-le 20 r (omega arith) (omega arith) h.0 in
    omega (arith, d, length-append (residue_text r) (flat_map residue_text row), length-append (codes " ") (decimal r), residues_short row h.1)

row_short : (m : ℕ) (row : List ℕ) → m ≤ 8 → length row ≡ m → IsRow row → length (residues_line row) ≤ 177
row_short m row few count is =
    omega (arith, count, residues_short row is.numbers, length-append (codes "residues" ++ flat_map residue_text row) (codes "\n"), length-append (codes "residues") (flat_map residue_text row))

pub rows_short : (m : ℕ) (rows : List (List ℕ)) → m ≤ 8 → AllByRecursion IsRow rows
    → AllByRecursion (λ row. length row ≡ m) rows → length (flat_map residues_line rows) ≤ length rows * 177
rows_short m [] few are each = omega arith
rows_short m (row ∷ rows) few are each =
    omega (arith, length-append (residues_line row) (flat_map residues_line rows), row_short m row few each.0 are.0, rows_short m rows few are.1 each.1)

sum_of_five : (a s n f k : List ℕ)
    → length (a ++ s ++ n ++ f ++ k) ≡ length a + length s + length n + length f + length k
sum_of_five a s n f k =
    omega (arith, length-append (a ++ s ++ n ++ f) k, length-append (a ++ s ++ n) f, length-append (a ++ s) n, length-append a s)

pub source_line_short : (source : List ℕ) → length source ≤ 1048576 → length (source_text source) ≤ 1048606
source_line_short source short =
    let front = number_line (codes "problem ") (length source) in
    omega (arith, length-append (front ++ source) (codes "\n"), length-append front source, line_short (codes "problem ") (length source) (omega (arith, short)))

module _ (v : ℕ) (s : StateView) (is : IsState s) (known : IsKnownVersion v) (one : v ≡ 1 → length s.problem.integrals ≡ 1) where
  text_short : IsShort (text_in v s)
  text_short =
      let c = contents_in v s in
      let m = length s.problem.moduli in
      let n = length s.problem.integrals in
      let are = contents_are v s is known one in
      let a = number_line (codes "locus-checkpoint ") v in
      let t = source_text s.source in
      let x = number_line (codes "next ") s.next in
      let f = flat_map residues_line (rows_of m n s.residues) in
      let k = seal (sha256 (body_of c)) in
      let version : v < 2 ^ 64 = known_small known in
      let rows =
      rows_short m (rows_of m n s.residues) is.rules.moduli.most are.rows
      (each_row_of m n s.residues is.residues.one_each) in
      omega (
        arith,
        sum_of_five a t x f k,
        line_short (codes "locus-checkpoint ") v version,
        source_line_short s.source (source_short s.source s.problem is.problem),
        line_short (codes "next ") s.next are.next,
        rows,
        length_rows_of m n s.residues,
        is.rules.few_integrals,
        length-seal (sha256 (body_of c)) (sha256_digest (body_of c)),
      )
    where
      known_small : IsKnownVersion v → v < 2 ^ 64
      known_small (inl one) = omega arith
      known_small (inr two) = omega arith

  in_version : (text : List ℕ) → text ≡ text_in v s → Writes text (contents_in v s)
  in_version text h = record { fits = subst IsShort (sym h) text_short; contents = contents_are v s is known one; whole = h }

-- the contents of a text of a state
pub record WritesState (text : List ℕ) (s : StateView) : Type 0 where
  pub contents : Contents
  pub writes : Writes text contents
  pub read : state_of contents ≡ Ok s

pub written_state : (s : StateView) (text : List ℕ) → IsState s → IsTextOf s text → WritesState text s
written_state s text is (inl two) = record {
  contents = contents_in 2 s;
  writes = in_version 2 s is (inr refl) not_one text two;
  read = state_again 2 s is (inr refl) not_one;
}
  where
    not_one : ◌≡◌ {A = ℕ} 2 1 → length s.problem.integrals ≡ 1
    not_one h = absurd (omega arith)
written_state s text is (inr one) = record {
  contents = contents_in 1 s;
  writes = in_version 1 s is (inl refl) (λ _. one.0) text one.1;
  read = state_again 1 s is (inl refl) (λ _. one.0);
}
