-- One block more of a loop, and the loops of two halves.
use Rattle.std.proofs.Common.{◌≡◌, ℕ, ◌<◌, ◌≤◌, ◌-◌, Bool, true, false, cond, leb, arith, length, List, [], ◌∷◌, ◌++◌, append_assoc, sym, refl, ap, subst, ◌∙◌}
use Rattle.std.specs.Prelude.{Option, Some, None, All, IfSome}
use Rattle.std.specs.List.{cons_option}
use Rattle.std.specs.Option.{option_to_list}
use Rattle.std.proofs.lemmas.List.{append-nil, length-append, get_or_append_left, get_or-append_right}
use mathlib.Core.Logic.{dite}
use native.Mathlib.Decide.{dec_lt}
use Rattle.claim_table.specs.Counts.{nothing_bad}
use Rattle.claim_table.specs.declared.claimer.Record.{Record}
use Rattle.claim_table.specs.Claims.{with_taken, with_seen}
use Rattle.claim_table.proofs.Lists.{map-one, each_push}
use Rattle.worker_pool.specs.Rounds.{at_most, with_answer, answers, blocks_of, seens_of, worked, IsLoop, AreLoops}

pub worked_none : (least_bad : ℕ → Option ℕ) (r : Record) → r ≡ worked least_bad r [] r.dry
worked_none least_bad r = λ i. record {
  worker = r.worker;
  taken = sym
      (append-nil r.taken) i;
  dry = r.dry;
  reported = sym (append-nil r.reported) i;
  seens = sym
      (append-nil r.seens) i;
}

cons_nothing : (o : Option ℕ) → cons_option o [] ≡ option_to_list o
cons_nothing None = refl
cons_nothing (Some x) = refl

cons_append : (o : Option ℕ) (xs ys : List ℕ) → cons_option o (xs ++ ys) ≡ cons_option o xs ++ ys
cons_append None xs ys = refl
cons_append (Some x) xs ys = refl

answers-one : (least_bad : ℕ → Option ℕ) (ps : List (ℕ × ℕ)) (b n : ℕ)
    → answers least_bad (ps ++ (b, n) ∷ []) ≡ answers least_bad ps ++ option_to_list (at_most n (least_bad b))
answers-one least_bad [] b n = cons_nothing (at_most n (least_bad b))
answers-one least_bad (p ∷ ps) b n = ap (cons_option (at_most p.1 (least_bad p.0))) (answers-one least_bad ps b n)
    ∙ cons_append (at_most p.1 (least_bad p.0)) (answers least_bad ps) (option_to_list (at_most n (least_bad b)))

worked_one : (least_bad : ℕ → Option ℕ) (r : Record) (ps : List (ℕ × ℕ)) (dry : Bool) (b n : ℕ)
    → with_answer (with_seen (with_taken (worked least_bad r ps dry) b) n) (at_most n (least_bad b))
    ≡ worked least_bad r (ps ++ (b, n) ∷ []) false
worked_one least_bad r ps dry b n = λ i. record {
  worker = r.worker;
  taken = (append_assoc r.taken (blocks_of ps) (b ∷ [])
      ∙ ap (λ l. r.taken ++ l) (sym (map-one (λ (p : ℕ × ℕ). p.0) ps (b, n)))) i;
  dry = false;
  reported = (append_assoc r.reported (answers least_bad ps) (option_to_list (at_most n (least_bad b)))
      ∙ ap (λ l. r.reported ++ l) (sym (answers-one least_bad ps b n))) i;
  seens = (append_assoc r.seens (seens_of ps) (n ∷ [])
      ∙ ap (λ l. r.seens ++ l) (sym (map-one (λ (p : ℕ × ℕ). p.1) ps (b, n)))) i;
}

-- a block that was taken and worked, whose answer was reported
pub worked_more : (least_bad : ℕ
    → Option ℕ) (r : Record) (ps : List (ℕ × ℕ)) (dry : Bool) (b n : ℕ) (answer : Option ℕ) (s0 s1 s2 s3 : Record)
    → s0 ≡ worked least_bad r ps dry → s1 ≡ with_taken s0 b → s2 ≡ with_seen s1 n → s3 ≡ with_answer s2 answer
    → answer ≡ at_most n (least_bad b) → s3 ≡ worked least_bad r (ps ++ (b, n) ∷ []) false
worked_more least_bad r ps dry b n answer s0 s1 s2 s3 e0 e1 e2 e3 a = e3 ∙ ap (with_answer s2) a
    ∙ ap (λ (s : Record). with_answer s (at_most n (least_bad b))) (e2 ∙ ap (λ (s : Record). with_seen s n) e1
    ∙ ap (λ (s : Record). with_seen (with_taken s b) n) e0) ∙ worked_one least_bad r ps dry b n

-- one number more of 64 bits
pub fits_more : (ps : List (ℕ × ℕ)) (b seen : ℕ) → All (λ p. p.1 ≤ nothing_bad) ps → seen < 18446744073709551616
    → All (λ p. p.1 ≤ nothing_bad) (ps ++ (b, seen) ∷ [])
fits_more ps b seen old small = each_push (λ k p. p.1 ≤ nothing_bad) ps (b, seen) old (omega arith)

if_passed : (t : Bool) (number : ℕ) → number < nothing_bad → IfSome (cond t (Some number) None) (λ n. n < nothing_bad)
if_passed true number lt = lt
if_passed false number lt = tt

answer_fits : (seen : ℕ) (o : Option ℕ) → ((number : ℕ) → o ≡ Some number → number < nothing_bad)
    → IfSome (at_most seen o) (λ n. n < nothing_bad)
answer_fits seen None h = tt
answer_fits seen (Some number) h = if_passed (leb number seen) number (h number refl)

-- what `work` answers is below 2^64 - 1, as each bad number is
pub answer_below : (seen : ℕ) (o answer : Option ℕ) → ((number : ℕ) → o ≡ Some number → number < nothing_bad)
    → answer ≡ at_most seen o → IfSome answer (λ n. n < nothing_bad)
answer_below seen o answer h e = subst
    (λ (a : Option ℕ). IfSome a (λ n. n < nothing_bad)) (sym e) (answer_fits seen o h)

-- the loops of two halves are those of the whole
pub loops_of_halves : {S P : Type 0} (least_bad : ℕ → Option ℕ) (stands : P → List (ℕ × ℕ) → Type 0)
    (record_of : S → Record) (xs ys xs' ys' : List S) (ps qs ps' qs' : List P) → length ps ≡ length xs
    → length xs' ≡ length xs → length ps' ≡ length xs
    → AreLoops least_bad stands record_of xs ps xs' ps' → AreLoops least_bad stands record_of ys qs ys' qs'
    → AreLoops least_bad stands record_of (xs ++ ys) (ps ++ qs) (xs' ++ ys') (ps' ++ qs')
loops_of_halves {S} {P} least_bad stands record_of xs ys xs' ys' ps qs ps' qs' p a' p' low high k s p0 lt =
    let W : S × P × S × P → Type 0 = λ t. IsLoop least_bad stands (record_of t.0) t.1 (record_of t.2) t.3 in
    let n = length-append xs ys in
    let j : ℕ = k - length xs in
    dite (dec_lt k (length xs))
    (λ less. subst W (λ i. (
      sym (get_or_append_left xs ys s k less) i,
      sym (get_or_append_left ps qs p0 k (omega arith)) i,
      sym (get_or_append_left xs' ys' s k (omega arith)) i,
      sym (get_or_append_left ps' qs' p0 k (omega arith)) i,
    )) (low k s p0 less))
    (λ more. subst W (λ i. (
      sym (get_or-append_right xs ys (length xs) k s refl (omega arith)) i,
      sym (get_or-append_right ps qs (length xs) k p0 p (omega arith)) i,
      sym (get_or-append_right xs' ys' (length xs) k s a' (omega arith)) i,
      sym (get_or-append_right ps' qs' (length xs) k p0 p' (omega arith)) i,
    )) (high j s p0 (omega arith)))
