-- The rows that are read are those that were written, and what was written is read again.
use Rattle.std.proofs.Common.{◌≡◌, ℕ, zero, suc, ◌+◌, ◌-◌, ◌*◌, ◌^◌, ◌≤◌, ◌<◌, Bool, true, false, cond, eqb, List, [], ◌∷◌, ◌++◌, length, take, drop, Result, Ok, Err, refl, sym, ap, subst, ◌∙◌, inl, inr, append_assoc, length-append, length-drop, arith}
use Rattle.std.specs.Prelude.{codes, decimal, ok_or}
use Rattle.std.specs.List.{flat_map, AllByRecursion}
use Rattle.std.proofs.lemmas.Bool.{eqb-false, ne_eqb}
use Rattle.std.proofs.lemmas.List.{append-nil}
use Rattle.checkpoint.specs.Readers.{after_word, many, starts_with_space, goes_on, decimal_at, residue_at, residues_at, row_at, rows_at}
use Rattle.checkpoint.specs.Refusals.{IsRow}
use Rattle.checkpoint.specs.Steps.{◌>>=◌}
use Rattle.checkpoint.specs.Texts.{residue_text, residues_line, rows_of}
use Rattle.checkpoint.specs.declared.error.CheckpointError.{CheckpointError}
use Rattle.checkpoint.specs.declared.error.CheckpointError.TheVariants.{BadBody}
use Rattle.checkpoint.proofs.WordLaws.{bind_ok, bind_err, ok_or_ok, ok_or_err, chosen, after_word_takes}
use Rattle.checkpoint.proofs.Decimals.{starts_digit, decimal_takes, decimal_again}
use Rattle.checkpoint.proofs.Loops.{Reader}

pub same_ok : {A : Type 0} (x y : A) → ◌≡◌ {A = Result A CheckpointError} (Ok x) (Ok y) → x ≡ y
same_ok x y h = cc

pub same_err : {A : Type 0} (d e : CheckpointError) → ◌≡◌ {A = Result A CheckpointError} (Err d) (Err e) → d ≡ e
same_err d e h = cc

-- ---- items one after the other

module _ {X : Type 0} (more : List ℕ → Bool) (item : Reader X) (spell : X → List ℕ) (IsItem : X → Type 0) where
  pub record Spelled (text : List ℕ) (x : X) (rest : List ℕ) : Type 0 where
    pub parts : text ≡ spell x ++ rest
    pub fits : IsItem x

  pub record AllSpelled (text : List ℕ) (xs : List X) (rest : List ℕ) : Type 0 where
    pub parts : text ≡ flat_map spell xs ++ rest
    pub fit : AllByRecursion IsItem xs
    pub ends : more rest ≡ false

  none_spelled : (text : List ℕ) (xs : List X) (rest : List ℕ) → more text ≡ false
      → ◌≡◌ {A = Result (List X × List ℕ) CheckpointError} (Ok ([], text)) (Ok (xs, rest)) → AllSpelled text xs rest
  none_spelled text xs rest ends h =
      let e = same_ok ([], text) (xs, rest) h in
      let P : List X × List ℕ → Type 0 = λ p. AllSpelled text p.0 p.1 in
      subst P e (record { parts = refl; fit = tt; ends = ends })

  pub many_take : ((text : List ℕ) (x : X) (rest : List ℕ) → item text ≡ Ok (x, rest) → Spelled text x rest)
      → (n : ℕ) (text : List ℕ) (xs : List X) (rest : List ℕ) → many more item n text ≡ Ok (xs, rest)
      → AllSpelled text xs rest
  unfolding many
  many_take one zero text xs rest h =
      elim (chosen (more text) (Err BadBody) (Ok ([], text)) (Ok (xs, rest)) h) [
        | inl bad ↦ absurd (cc bad.1)
        | inr done ↦ none_spelled text xs rest done.0 done.1
      ]
  many_take one (suc n) text xs rest h =
      elim (chosen (more text) (item text >>= (λ x. many more item n x.1 >>= (λ xs. Ok (x.0 ∷ xs.0, xs.1)))) (Ok ([], text)) (Ok (xs, rest)) h) [
        | inl goes ↦
            let a =
            bind_ok (item text) (λ x. many more item n x.1 >>= (λ xs. Ok (x.0 ∷ xs.0, xs.1))) (xs, rest) goes.1 in
            let b = bind_ok (many more item n a.0.1) (λ ys. Ok (a.0.0 ∷ ys.0, ys.1)) (xs, rest) a.2 in
            let first = one text a.0.0 a.0.1 a.1 in
            let others = many_take one n a.0.1 b.0.0 b.0.1 b.1 in
            let P : List X × List ℕ → Type 0 = λ p. AllSpelled text p.0 p.1 in
            subst P (same_ok (a.0.0 ∷ b.0.0, b.0.1) (xs, rest) b.2) (record {
              parts = first.parts ∙ ap (λ (t : List ℕ). spell a.0.0 ++ t) others.parts
                  ∙ sym (append_assoc (spell a.0.0) (flat_map spell b.0.0) b.0.1);
              fit = (first.fits, others.fit);
              ends = others.ends;
            })
        | inr done ↦ none_spelled text xs rest done.0 done.1
      ]

  pub many_again : (Follows : List ℕ → Type 0)
      → ((x : X) (rest : List ℕ) → IsItem x → Follows rest → item (spell x ++ rest) ≡ Ok (x, rest))
      → ((x : X) (rest : List ℕ) → more (spell x ++ rest) ≡ true)
      → ((x : X) (rest : List ℕ) → Follows (spell x ++ rest))
      → (n : ℕ) (xs : List X) (rest : List ℕ) → length xs ≤ n → AllByRecursion IsItem xs → more rest ≡ false
      → Follows rest
      → many more item n (flat_map spell xs ++ rest) ≡ Ok (xs, rest)
  unfolding many
  many_again Follows again goes follows zero [] rest le fit ends last = rw ends refl
  many_again Follows again goes follows (suc n) [] rest le fit ends last = rw ends refl
  many_again Follows again goes follows zero (x ∷ xs) rest le fit ends last = absurd (omega arith)
  many_again Follows again goes follows (suc n) (x ∷ xs) rest le fit ends last =
      let regrouped : flat_map spell (x ∷ xs) ++ rest ≡ spell x ++ (flat_map spell xs ++ rest) =
      append_assoc (spell x) (flat_map spell xs) rest in
      let later = many_again Follows again goes follows n xs rest (omega arith) fit.1 ends last in
      let here = again x (flat_map spell xs ++ rest) fit.0 (follows_all xs) in
      ap (many more item (suc n)) regrouped ∙ rw (goes x (flat_map spell xs ++ rest), here, later) refl
    where
      follows_all : (ys : List X) → Follows (flat_map spell ys ++ rest)
      follows_all [] = last
      follows_all (y ∷ ys) =
          subst Follows (sym (append_assoc (spell y) (flat_map spell ys) rest)) (follows y (flat_map spell ys ++ rest))

  pub spelled_long : ((x : X) → 0 < length (spell x)) → (xs : List X) → length xs ≤ length (flat_map spell xs)
  spelled_long some [] = omega arith
  spelled_long some (x ∷ xs) = omega (arith, length-append (spell x) (flat_map spell xs), some x, spelled_long some xs)

  pub many_err : ((text : List ℕ) (e : CheckpointError) → item text ≡ Err e → e ≡ BadBody)
      → (n : ℕ) (text : List ℕ) (e : CheckpointError) → many more item n text ≡ Err e → e ≡ BadBody
  unfolding many
  many_err bad zero text e h =
      elim (chosen (more text) (Err BadBody) (Ok ([], text)) (Err e) h) [
        | inl fault ↦ sym (same_err {A = List X × List ℕ} BadBody e fault.1)
        | inr done ↦ absurd (cc done.1)
      ]
  many_err bad (suc n) text e h =
      elim (chosen (more text) (item text >>= (λ x. many more item n x.1 >>= (λ xs. Ok (x.0 ∷ xs.0, xs.1)))) (Ok ([], text)) (Err e) h) [
        | inl goes ↦
            elim (bind_err (item text) (λ x. many more item n x.1 >>= (λ xs. Ok (x.0 ∷ xs.0, xs.1))) e goes.1) [
              | inl first ↦ bad text e first
              | inr rest ↦
                  elim (bind_err (many more item n rest.0.1) (λ ys. Ok (rest.0.0 ∷ ys.0, ys.1)) e rest.2) [
                    | inl later ↦ many_err bad n rest.0.1 e later
                    | inr past ↦ absurd (cc past.2)
                  ]
            ]
        | inr done ↦ absurd (cc done.1)
      ]

-- ---- residues

abbrev pub IsNumber : ℕ → Type 0
IsNumber r = r < 2 ^ 64

abbrev pub NoDigit : List ℕ → Type 0
NoDigit rest = starts_digit rest ≡ false

residue_takes : (text : List ℕ) (r : ℕ) (rest : List ℕ) → residue_at text ≡ Ok (r, rest)
    → Spelled starts_with_space residue_at residue_text IsNumber text r rest
unfolding residue_at
residue_takes text r rest h =
    let a =
    bind_ok (ok_or (after_word (codes " ") text) BadBody) (λ rest. ok_or (decimal_at rest) BadBody) (r, rest) h in
    let first = after_word_takes (codes " ") text a.0 (ok_or_ok _ _ _ a.1) in
    let second = decimal_takes a.0 r rest (ok_or_ok _ _ _ a.2) in
    record {
      parts = first ∙ ap (λ (t : List ℕ). codes " " ++ t) second.parts
          ∙ sym (append_assoc (codes " ") (decimal r) rest);
      fits = second.fits;
    }

residue_again : (r : ℕ) (rest : List ℕ) → IsNumber r → NoDigit rest → residue_at (residue_text r ++ rest) ≡ Ok (r, rest)
unfolding residue_at
residue_again r rest small ends =
    let regrouped : residue_text r ++ rest ≡ codes " " ++ (decimal r ++ rest) =
    append_assoc (codes " ") (decimal r) rest in
    ap residue_at regrouped ∙ rw (decimal_again r rest small ends) refl

residue_err : (text : List ℕ) (e : CheckpointError) → residue_at text ≡ Err e → e ≡ BadBody
unfolding residue_at
residue_err text e h =
    elim (bind_err (ok_or (after_word (codes " ") text) BadBody) (λ rest. ok_or (decimal_at rest) BadBody) e h) [
      | inl first ↦ sym (ok_or_err _ _ _ first).1
      | inr rest ↦ sym (ok_or_err _ _ _ rest.2).1
    ]

residues_take : (text : List ℕ) (row rest : List ℕ) → residues_at text ≡ Ok (row, rest)
    → AllSpelled starts_with_space residue_at residue_text IsNumber text row rest
unfolding residues_at
residues_take text row rest h =
    many_take starts_with_space residue_at residue_text IsNumber residue_takes (length text) text row rest h

residues_again : (row rest : List ℕ) → AllByRecursion IsNumber row
    → residues_at (flat_map residue_text row ++ (codes "\n" ++ rest)) ≡ Ok (row, codes "\n" ++ rest)
unfolding residues_at
residues_again row rest fit =
    let long =
    spelled_long starts_with_space residue_at residue_text IsNumber
    (λ r. omega (arith, length-append (codes " ") (decimal r))) row in
    let le : length row ≤ length (flat_map residue_text row ++ (codes "\n" ++ rest)) =
    omega (arith, length-append (flat_map residue_text row) (codes "\n" ++ rest), long) in
    many_again starts_with_space residue_at residue_text IsNumber NoDigit residue_again (λ r rest. refl)
    (λ r rest. refl) (length (flat_map residue_text row ++ (codes "\n" ++ rest))) row
    (codes "\n" ++ rest) le fit refl refl

residues_err : (text : List ℕ) (e : CheckpointError) → residues_at text ≡ Err e → e ≡ BadBody
unfolding residues_at
residues_err text e h = many_err starts_with_space residue_at residue_text IsNumber residue_err (length text) text e h

-- ---- rows

some_from_test : (n : ℕ) → eqb n 0 ≡ false → 1 ≤ n
some_from_test n h = let other = eqb-false n 0 h in omega arith

row_takes : (text : List ℕ) (row rest : List ℕ) → row_at text ≡ Ok (row, rest)
    → Spelled goes_on row_at residues_line IsRow text row rest
unfolding row_at
row_takes text row rest h =
    let last : List ℕ × List ℕ → List ℕ → Result (List ℕ × List ℕ) CheckpointError =
    λ x rest. cond (eqb (length x.0) 0) (Err BadBody) (Ok (x.0, rest)) in
    let a =
    bind_ok (ok_or (after_word (codes "residues") text) BadBody)
    (λ rest. residues_at rest >>= (λ x. ok_or (after_word (codes "\n") x.1) BadBody >>= last x)) (row, rest) h in
    let b = bind_ok (residues_at a.0) (λ x. ok_or (after_word (codes "\n") x.1) BadBody >>= last x) (row, rest) a.2 in
    let d = bind_ok (ok_or (after_word (codes "\n") b.0.1) BadBody) (last b.0) (row, rest) b.2 in
    let first = after_word_takes (codes "residues") text a.0 (ok_or_ok _ _ _ a.1) in
    let second = residues_take a.0 b.0.0 b.0.1 b.1 in
    let third = after_word_takes (codes "\n") b.0.1 d.0 (ok_or_ok _ _ _ d.1) in
    elim (chosen (eqb (length b.0.0) 0) (Err BadBody) (Ok (b.0.0, d.0)) (Ok (row, rest)) d.2) [
      | inl none ↦ absurd (cc none.1)
      | inr some ↦
          let P : List ℕ × List ℕ → Type 0 = λ p. Spelled goes_on row_at residues_line IsRow text p.0 p.1 in
          let regrouped : codes "residues" ++ (flat_map residue_text b.0.0 ++ (codes "\n" ++ d.0)) ≡ residues_line b.0.0 ++ d.0 = simp append_assoc in
          subst P (same_ok (b.0.0, d.0) (row, rest) some.1) (record {
            parts = first
                ∙ ap (λ (t : List ℕ). codes "residues" ++ t)
                (second.parts ∙ ap (λ (t : List ℕ). flat_map residue_text b.0.0 ++ t) third)
                ∙ regrouped;
            fits = record { some = some_from_test _ some.0; numbers = second.fit };
          })
    ]

row_again : (row rest : List ℕ) → IsRow row → Unit {0} → row_at (residues_line row ++ rest) ≡ Ok (row, rest)
unfolding row_at
row_again row rest fits u =
    let regrouped : residues_line row ++ rest ≡ codes "residues" ++ (flat_map residue_text row ++ (codes "\n" ++ rest)) =
    simp append_assoc in
    let some : eqb (length row) 0 ≡ false = ne_eqb (length row) 0 (λ none. absurd (omega (arith, none, fits.some))) in
    ap row_at regrouped ∙ rw (residues_again row rest fits.numbers, some) refl

row_err : (text : List ℕ) (e : CheckpointError) → row_at text ≡ Err e → e ≡ BadBody
unfolding row_at
row_err text e h =
    let last : List ℕ × List ℕ → List ℕ → Result (List ℕ × List ℕ) CheckpointError =
    λ x rest. cond (eqb (length x.0) 0) (Err BadBody) (Ok (x.0, rest)) in
    elim (bind_err (ok_or (after_word (codes "residues") text) BadBody) (λ rest. residues_at rest >>= (λ x. ok_or (after_word (codes "\n") x.1) BadBody >>= last x)) e h) [
      | inl first ↦ sym (ok_or_err _ _ _ first).1
      | inr a ↦
          elim (bind_err (residues_at a.0) (λ x. ok_or (after_word (codes "\n") x.1) BadBody >>= last x) e a.2) [
            | inl second ↦ residues_err a.0 e second
            | inr b ↦
                elim (bind_err (ok_or (after_word (codes "\n") b.0.1) BadBody) (last b.0) e b.2) [
                  | inl third ↦ sym (ok_or_err _ _ _ third).1
                  | inr d ↦
                      elim (chosen (eqb (length b.0.0) 0) (Err BadBody) (Ok (b.0.0, d.0)) (Err e) d.2) [
                        | inl none ↦ sym (same_err {A = List ℕ × List ℕ} BadBody e none.1)
                        | inr some ↦ absurd (cc some.1)
                      ]
                ]
          ]
    ]

goes_on-nil : (text : List ℕ) → goes_on text ≡ false → text ≡ []
goes_on-nil [] h = refl
goes_on-nil (b ∷ bs) h = absurd cc

pub record RowsIn (text : List ℕ) (rows : List (List ℕ)) : Type 0 where
  pub parts : text ≡ flat_map residues_line rows
  pub fit : AllByRecursion IsRow rows

pub rows_take : (text : List ℕ) (rows : List (List ℕ)) (rest : List ℕ) → rows_at text ≡ Ok (rows, rest)
    → RowsIn text rows
unfolding rows_at
rows_take text rows rest h =
    let t = many_take goes_on row_at residues_line IsRow row_takes (length text) text rows rest h in
    record {
      parts = t.parts ∙ ap (λ (r : List ℕ). flat_map residues_line rows ++ r) (goes_on-nil rest t.ends)
          ∙ append-nil (flat_map residues_line rows);
      fit = t.fit;
    }

line_is_some : (row : List ℕ) → 0 < length (residues_line row)
line_is_some row = omega (arith, length-append (codes "residues" ++ flat_map residue_text row) (codes "\n"))

pub rows_long : (rows : List (List ℕ)) → length rows ≤ length (flat_map residues_line rows)
rows_long rows = spelled_long goes_on row_at residues_line IsRow line_is_some rows

pub rows_again : (rows : List (List ℕ)) → AllByRecursion IsRow rows
    → rows_at (flat_map residues_line rows) ≡ Ok (rows, [])
unfolding rows_at
rows_again rows fit =
    let all = append-nil (flat_map residues_line rows) in
    let le : length rows ≤ length (flat_map residues_line rows) = rows_long rows in
    ap (λ (t : List ℕ). many goes_on row_at (length (flat_map residues_line rows)) t) (sym all)
    ∙ many_again goes_on row_at residues_line IsRow (λ _. Unit {0}) row_again (λ row rest. refl) (λ row rest. tt)
    (length (flat_map residues_line rows)) rows [] le fit refl tt

pub rows_err : (text : List ℕ) (e : CheckpointError) → rows_at text ≡ Err e → e ≡ BadBody
unfolding rows_at
rows_err text e h = many_err goes_on row_at residues_line IsRow row_err (length text) text e h

-- ---- rows of a state

pub rows_next : (m count i : ℕ) (xs : List ℕ) → i < count
    → rows_of m (count - i) xs ≡ take m xs ∷ rows_of m (count - (i + 1)) (drop m xs)
rows_next m count i xs lt =
    let k : count - i ≡ suc (count - (i + 1)) = omega arith in
    ap (λ (n : ℕ). rows_of m n xs) k

pub rows_room : (m count i : ℕ) (xs : List ℕ) → i < count → length xs ≡ (count - i) * m
    → length (drop m xs) ≡ (count - (i + 1)) * m
rows_room m count i xs lt room = go (count - (i + 1)) (omega arith)
  where
    go : (k : ℕ) → count - i ≡ suc k → length (drop m xs) ≡ k * m
    go k is =
        let n : length xs ≡ suc k * m = room ∙ ap (λ (c : ℕ). c * m) is in
        let e = length-drop m xs in
        grind (arith, e, n)
