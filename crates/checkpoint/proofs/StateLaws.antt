-- What is read against a problem: the state, or the first refusal.
use Rattle.std.proofs.Common.{◌≡◌, ◌≢◌, ℕ, ◌+◌, ◌-◌, ◌≤◌, ◌<◌, true, false, eqb, leb, List, [], ◌∷◌, length, get_or, take, drop, Result, Ok, Err, refl, sym, ap, subst, ◌∙◌, arith, inl, inr}
use Rattle.std.specs.List.{concat, AllByRecursion}
use Rattle.std.proofs.lemmas.Bool.{eqb-true, eqb-false, leb-true, leb-false, le-leb, lt-leb, eq-eqb, ne_eqb}
use Rattle.std.proofs.lemmas.List.{take_at, drop_at}
use Rattle.localisation.specs.Agreement.{modulus_at}
use Rattle.problem.specs.Rules.{ProblemView}
use Rattle.problem.specs.Sums.{count_of}
use Rattle.problem_toml.specs.Reading.{reading}
use Rattle.problem_toml.specs.declared.error.ProblemError.{ProblemError}
use Rattle.checkpoint.specs.Readers.{problem_or_refusal, shown_count, counts_fit, residues_fit, state_of}
use Rattle.checkpoint.specs.Refusals.{Writes, WritesFor, HasNext, HasRows, ReachesResidues, IsFirstCount, IsFirstRefused, IsCheckpointRefusal}
use Rattle.checkpoint.specs.States.{StateView}
use Rattle.checkpoint.specs.Steps.{◌>>=◌, keep}
use Rattle.checkpoint.specs.Texts.{Contents, rows_of, text_of, text_in, IsTextOf}
use Rattle.checkpoint.specs.declared.error.CheckpointError.{CheckpointError}
use Rattle.checkpoint.specs.declared.error.CheckpointError.TheVariants.{ProblemRefused, NextTooLarge, LineCount, ResidueCount, ResidueRefused}
use Rattle.checkpoint.proofs.Fits.{keep_ok, keep_err, counts_fit_each, counts_fit_from, counts_fit_other, counts_fit_at, residues_fit_above, residues_fit_at}
use Rattle.checkpoint.proofs.RowLaws.{same_ok}
use Rattle.checkpoint.proofs.TextLaws.{sizes}
use Rattle.checkpoint.proofs.WordLaws.{bind_ok, bind_err}

-- ---- what the reading gives in each case

module _ (c : Contents) where
  pub at_problem : (e : CheckpointError) → problem_or_refusal (reading c.source) ≡ Err e → state_of c ≡ Err e
  unfolding state_of
  at_problem e h = rw h refl

  module _ (p : ProblemView) (read : problem_or_refusal (reading c.source) ≡ Ok p) where
    pub at_next : count_of p < c.next → state_of c ≡ Err (NextTooLarge c.next (count_of p))
    unfolding state_of
    at_next large = rw (read, lt-leb c.next (count_of p) large) refl

    pub at_lines : c.next ≤ count_of p → length c.rows ≢ length p.integrals
        → state_of c ≡ Err (LineCount (shown_count (length c.rows)) (length p.integrals))
    unfolding state_of
    at_lines next other =
        rw (read, le-leb c.next (count_of p) next, ne_eqb (length c.rows) (length p.integrals) other) refl

    pub at_counts : (e : CheckpointError) → c.next ≤ count_of p → length c.rows ≡ length p.integrals
        → counts_fit (length p.moduli) c.rows ≡ Err e → state_of c ≡ Err e
    unfolding state_of
    at_counts e next lines h =
        rw (read, le-leb c.next (count_of p) next, eq-eqb (length c.rows) (length p.integrals) lines, h) refl

    pub at_residues : (e : CheckpointError) → c.next ≤ count_of p → length c.rows ≡ length p.integrals
        → counts_fit (length p.moduli) c.rows ≡ Ok tt → residues_fit p.moduli 0 (concat c.rows) ≡ Err e
        → state_of c ≡ Err e
    unfolding state_of
    at_residues e next lines counts h =
        rw (read, le-leb c.next (count_of p) next, eq-eqb (length c.rows) (length p.integrals) lines, counts, h) refl

    pub at_state : c.next ≤ count_of p → length c.rows ≡ length p.integrals
        → counts_fit (length p.moduli) c.rows ≡ Ok tt → residues_fit p.moduli 0 (concat c.rows) ≡ Ok tt
        → state_of c ≡ Ok (record { source = c.source; problem = p; next = c.next; residues = concat c.rows })
    unfolding state_of
    at_state next lines counts h =
        rw (read, le-leb c.next (count_of p) next, eq-eqb (length c.rows) (length p.integrals) lines, counts, h) refl

-- ---- what was read is written

problem_ok : (r : Result ProblemView ProblemError) (p : ProblemView) → problem_or_refusal r ≡ Ok p → r ≡ Ok p
problem_ok (Ok q) p h = cc
problem_ok (Err why) p h = absurd cc

problem_err : (r : Result ProblemView ProblemError) (e : CheckpointError) → problem_or_refusal r ≡ Err e
    → (why : ProblemError) × (r ≡ Err why) × (ProblemRefused why ≡ e)
problem_err (Ok q) e h = absurd cc
problem_err (Err why) e h = (why, refl, cc)

abbrev state_in : Contents → ProblemView → StateView
state_in c p = record { source = c.source; problem = p; next = c.next; residues = concat c.rows }

abbrev last_rule : Contents → ProblemView → Result StateView CheckpointError
last_rule c p = residues_fit p.moduli 0 (concat c.rows) >>= (λ _. Ok (state_in c p))

abbrev count_rules : Contents → ProblemView → Result StateView CheckpointError
count_rules c p = counts_fit (length p.moduli) c.rows >>= (λ _. last_rule c p)

abbrev line_rules : Contents → ProblemView → Result StateView CheckpointError
line_rules c p =
    keep (eqb (length c.rows) (length p.integrals)) (LineCount (shown_count (length c.rows)) (length p.integrals)) >>=
    (λ _. count_rules c p)

abbrev next_rules : Contents → ProblemView → Result StateView CheckpointError
next_rules c p = keep (leb c.next (count_of p)) (NextTooLarge c.next (count_of p)) >>= (λ _. line_rules c p)

pub rows_of_concat : (m : ℕ) (rows : List (List ℕ)) → AllByRecursion (λ row. length row ≡ m) rows
    → rows_of m (length rows) (concat rows) ≡ rows
rows_of_concat m [] h = refl
rows_of_concat m (row ∷ rows) h =
    rw (take_at row (concat rows) m h.0, drop_at row (concat rows) m h.0, rows_of_concat m rows h.1) refl

text_of_state : (text : List ℕ) (c : Contents) (p : ProblemView) → Writes text c → length c.rows ≡ length p.integrals
    → AllByRecursion (λ row. length row ≡ length p.moduli) c.rows → IsTextOf (state_in c p) text
text_of_state text c p w lines each =
    let m = length p.moduli in
    let rows : rows_of m (length p.integrals) (concat c.rows) ≡ c.rows =
    ap (λ (n : ℕ). rows_of m n (concat c.rows)) (sym lines) ∙ rows_of_concat m c.rows each in
    let here : text ≡ text_in c.version (state_in c p) =
    w.whole ∙ ap
    (λ (r : List (List ℕ)). text_of (record { version = c.version; source = c.source; next = c.next; rows = r }))
    (sym rows) in
    elim w.contents.version [
      | inl one ↦ inr (sym lines ∙ w.contents.one one, here ∙ ap (λ (v : ℕ). text_in v (state_in c p)) one)
      | inr two ↦ inl (here ∙ ap (λ (v : ℕ). text_in v (state_in c p)) two)
    ]

pub state_ok : (text : List ℕ) (c : Contents) (s : StateView) → Writes text c → state_of c ≡ Ok s → IsTextOf s text
unfolding state_of
state_ok text c s w h =
    let a = bind_ok (problem_or_refusal (reading c.source)) (next_rules c) s h in
    let p = a.0 in
    let k1 = keep_ok (leb c.next (count_of p)) (NextTooLarge c.next (count_of p)) (line_rules c p) s a.2 in
    let k2 =
    keep_ok (eqb (length c.rows) (length p.integrals))
    (LineCount (shown_count (length c.rows)) (length p.integrals)) (count_rules c p) s k1.1 in
    let b = bind_ok (counts_fit (length p.moduli) c.rows) (λ _. last_rule c p) s k2.1 in
    let d = bind_ok (residues_fit p.moduli 0 (concat c.rows)) (λ _. Ok (state_in c p)) s b.2 in
    let made = same_ok (state_in c p) s d.2 in
    subst (λ (t : StateView). IsTextOf t text) made
    (text_of_state text c p w (eqb-true _ _ k2.0) (counts_fit_each (length p.moduli) c.rows b.1))

pub state_err : (text : List ℕ) (c : Contents) (e : CheckpointError) → Writes text c → state_of c ≡ Err e
    → IsCheckpointRefusal text e
unfolding state_of
state_err text c e w h =
    let size = sizes text c w in
    elim (bind_err (problem_or_refusal (reading c.source)) (next_rules c) e h) [
      | inl fault ↦
          let why = problem_err (reading c.source) e fault in
          subst (IsCheckpointRefusal text) why.2 (c, w, why.1)
      | inr a ↦
          let p = a.0 in
          let for : WritesFor p text c = record { writes = w; problem = problem_ok (reading c.source) p a.1 } in
          elim (keep_err (leb c.next (count_of p)) (NextTooLarge c.next (count_of p)) e (line_rules c p) a.2) [
            | inl large ↦ subst (IsCheckpointRefusal text) large.1 (c, p, for, refl, refl, leb-false _ _ large.0)
            | inr k1 ↦
                let next : HasNext p text c = record { written = for; next = leb-true _ _ k1.0 } in
                elim (keep_err (eqb (length c.rows) (length p.integrals)) (LineCount (shown_count (length c.rows)) (length p.integrals)) e (count_rules c p) k1.1) [
                  | inl lines ↦ subst (IsCheckpointRefusal text) lines.1 (c, p, next, size.rows, refl, λ same. eqb-false _ _ lines.0 (sym size.rows ∙ same))
                  | inr k2 ↦
                      let rows : HasRows p text c = record { written = next; rows = eqb-true _ _ k2.0 } in
                      elim (bind_err (counts_fit (length p.moduli) c.rows) (λ _. last_rule c p) e k2.1) [
                        | inl counts ↦
                            let other = counts_fit_other (length p.moduli) c.rows e counts in
                            let first = other.first in
                            let shown : shown_count other.found ≡ other.found =
                            ap shown_count (sym first.count) ∙ size.row first.place ∙ first.count in
                            subst (IsCheckpointRefusal text)
                            (ap (λ (n : ℕ). ResidueCount n (length p.moduli)) (sym shown) ∙ sym other.is)
                            (c, p, rows, refl, first)
                        | inr b ↦
                            elim (bind_err (residues_fit p.moduli 0 (concat c.rows)) (λ _. Ok (state_in c p)) e b.2) [
                              | inl residues ↦
                                  let above = residues_fit_above p.moduli 0 (concat c.rows) e residues in
                                  let shown : above.place ≡ shown_count (0 + above.place) =
                                  sym (size.place above.place above.within) ∙ ap shown_count (omega arith) in
                                  let all : ReachesResidues p text c = record { written = rows; residues = counts_fit_each (length p.moduli) c.rows b.1 } in
                                  subst (IsCheckpointRefusal text) (ap (λ (n : ℕ). ResidueRefused n) shown ∙ sym above.is) (
                                    c,
                                    p,
                                    all,
                                    record {
                                      within = above.within;
                                      refused = subst
                                          (λ (n : ℕ). modulus_at p.moduli n ≤ get_or (concat c.rows) above.place 0)
                                          (omega arith) above.refused;
                                      first = λ j lt. subst (λ (n : ℕ). get_or (concat c.rows) j 0 < modulus_at p.moduli n) (omega arith) (above.first j lt);
                                    },
                                  )
                              | inr d ↦ absurd (cc d.2)
                            ]
                      ]
                ]
          ]
    ]

-- ---- what is refused is refused so

pub refused_problem : (text : List ℕ) (c : Contents) (why : ProblemError) → reading c.source ≡ Err why
    → state_of c ≡ Err (ProblemRefused why)
refused_problem text c why read = at_problem c (ProblemRefused why) (ap problem_or_refusal read)

read_of : (text : List ℕ) (c : Contents) (p : ProblemView) → WritesFor p text c → problem_or_refusal (reading c.source) ≡ Ok p
read_of text c p for = ap problem_or_refusal for.problem

pub refused_next : (text : List ℕ) (c : Contents) (p : ProblemView) → WritesFor p text c → count_of p < c.next
    → state_of c ≡ Err (NextTooLarge c.next (count_of p))
refused_next text c p for large = at_next c p (read_of text c p for) large

pub refused_lines : (text : List ℕ) (c : Contents) (p : ProblemView) → HasNext p text c
    → length c.rows ≢ length p.integrals → state_of c ≡ Err (LineCount (length c.rows) (length p.integrals))
refused_lines text c p next other =
    at_lines c p (read_of text c p next.written) next.next other
    ∙ ap (λ (n : ℕ). Err (LineCount n (length p.integrals))) (sizes text c next.written.writes).rows

pub refused_counts : (text : List ℕ) (c : Contents) (p : ProblemView) (found : ℕ) → HasRows p text c
    → IsFirstCount c.rows (length p.moduli) found → state_of c ≡ Err (ResidueCount found (length p.moduli))
refused_counts text c p found rows first =
    let next = rows.written in
    let shown : shown_count found ≡ found =
    ap shown_count (sym first.count) ∙ (sizes text c next.written.writes).row first.place ∙ first.count in
    at_counts c p (read_of text c p next.written) (ResidueCount found (length p.moduli)) next.next rows.rows
    (counts_fit_at (length p.moduli) c.rows found first.place first.within first.count first.other first.first ∙ ap (λ (n : ℕ). Err (ResidueCount n (length p.moduli))) shown)

pub refused_residues : (text : List ℕ) (c : Contents) (p : ProblemView) (place : ℕ) → ReachesResidues p text c
    → IsFirstRefused p.moduli (concat c.rows) place → state_of c ≡ Err (ResidueRefused place)
refused_residues text c p place all first =
    let rows = all.written in
    let next = rows.written in
    let shown : shown_count (0 + place) ≡ place =
    ap shown_count (omega arith) ∙ (sizes text c next.written.writes).place place first.within in
    at_residues c p (read_of text c p next.written) (ResidueRefused place) next.next rows.rows
    (counts_fit_from (length p.moduli) c.rows all.residues)
    (residues_fit_at p.moduli 0 (concat c.rows) place first.within (subst (λ (n : ℕ). modulus_at p.moduli n ≤ get_or (concat c.rows) place 0) (omega arith) first.refused)
    (λ j lt. subst (λ (n : ℕ). get_or (concat c.rows) j 0 < modulus_at p.moduli n) (omega arith) (first.first j lt))
    ∙ ap (λ (n : ℕ). Err (ResidueRefused n)) shown)
