-- Sums that grow tree by tree.
use Rattle.std.proofs.Common.{◌≡◌, ℕ, ◌+◌, ◌*◌, ◌%◌, ◌<◌, ◌≤◌, List, [], length, get_or, slice_index, ℤ, pos, refl, sym, ap, subst, ◌∙◌, ⊎_elim, arith, mod-lt, Bool, true, false, ◌&&◌, Result, Ok, Err, OnOk}
use Rattle.std.specs.Result.{is_ok}
use Rattle.std.proofs.lemmas.Bool.{cases_lt}
use Rattle.std.proofs.lemmas.Nat.{mod-mul-add}
use Rattle.std.proofs.Math.Nat.{mod-eq_of_lt}
use Rattle.arithmetic.specs.Fractions.{Fraction, fraction, plus, IsResidue}
use Rattle.arithmetic.proofs.Residues.{IsResidue-plus, IsResidue-whole}
use Rattle.arithmetic.proofs.Congruences.{same_refl, same_of_eq, same_sym, same_trans, same_add, same_mod}
use Rattle.arithmetic.proofs.Modular.{Leaves-pos}
use Rattle.trees.specs.Decorated.{DecoratedTree}
use Rattle.trees.specs.TreeNumbers.{tree_of}
use Rattle.classes.specs.declared.class.Term.{Term}
use Rattle.localisation.specs.Contribution.{contribution, partial_sum}
use Rattle.localisation.specs.Agreement.{modulus_at, integral_at}
use Rattle.localisation.proofs.PartialSums.{partial_sum-none, partial_sum-next}
use Rattle.problem.specs.Rules.{ProblemView}
use Rattle.problem.specs.declared.problem.Problem.{Problem}
use Rattle.range_sum.specs.Totals.{AddsResidue}
use Rattle.range_sum.proofs.SumIndices.{integral_of_place}
use Rattle.range_sum.proofs.RangeLaws.{modulus_above}
use Rattle.factor_table.specs.declared.table.FactorTable.{FactorTable}
use Rattle.factor_table.specs.declared.table.FactorSeat.{FactorSeat}
use Rattle.table_sum.specs.Words.{IsLater}
use Rattle.table_sum.specs.Trees.{KnowsEdges, edge_keys}
use Rattle.table_sum.specs.Sums.{AreSumsBelow, GrowBy, KnowsTree, KnowsTrees}
use Rattle.table_sum.proofs.EdgeLists.{all_later}

-- ---- one sum
adds_zero : (m old : ℕ) → 1 < m → old < m → AddsResidue m (fraction (pos 0) (pos 1)) old old
adds_zero m old above below = record {
  value = 0;
  is_residue = IsResidue-whole (pos 0) (Leaves-pos m 0 0 (omega arith) (sym (mod-eq_of_lt (omega arith))));
  sum = (let z : old ≡ old + 0 = omega arith in z) ∙ sym (mod-eq_of_lt (let l : old + 0 < m = omega arith in l));
}

folded : (m a x y : ℕ) → ((a + x) % m + y) % m ≡ (a + (x + y) % m) % m
folded m a x y =
    (same_trans (same_add (same_mod m (a + x)) (same_refl m y))
    (same_trans (same_of_eq m _ _ (turned a x y)) (same_sym (same_add (same_refl m a) (same_mod m (x + y)))))).is
  where
    turned : (a x y : ℕ) → a + x + y ≡ a + (x + y)
    turned a x y = omega arith

adds_both : (m : ℕ) (f g : Fraction) (old mid new : ℕ) → 1 < m → AddsResidue m f old mid → AddsResidue m g mid new
    → AddsResidue m (plus f g) old new
adds_both m f g old mid new above p q = record {
  value = (p.value + q.value) % m;
  is_residue = IsResidue-plus m f g p.value q.value above p.is_residue q.is_residue;
  sum = q.sum ∙ ap (λ n. (n + q.value) % m) p.sum ∙ folded m old p.value q.value;
}

-- ---- the sums of a problem
pub no_trees : (p : Problem) (first : ℕ) (sums : List ℕ) → AreSumsBelow p sums
    → GrowBy p (partial_sum p.setup p.shape first first) sums sums
no_trees p first sums below place within =
    subst (λ f. AddsResidue (modulus_at p.moduli place) f (slice_index sums place) (slice_index sums place))
    (sym (partial_sum-none p.setup p.shape first (integral_at p.moduli p.integrals place)))
    (adds_zero (modulus_at p.moduli place) (slice_index sums place) (modulus_above p place) (below place within))

pub one_tree_more : (p : Problem) (first k : ℕ) (g : DecoratedTree) (old mid new : List ℕ) → first ≤ k
    → g ≡ tree_of p.shape k
    → GrowBy p (partial_sum p.setup p.shape first k) old mid → GrowBy p (λ terms. contribution p.setup terms g) mid new
    → GrowBy p (partial_sum p.setup p.shape first (k + 1)) old new
one_tree_more p first k g old mid new from e before more place within =
    let m = modulus_at p.moduli place in
    let terms = integral_at p.moduli p.integrals place in
    let sum = partial_sum p.setup p.shape first k terms in
    subst (λ f. AddsResidue m f (slice_index old place) (slice_index new place))
    (sym (partial_sum-next p.setup p.shape first k terms from ∙ ap (λ t. plus sum (contribution p.setup terms t)) (sym e)))
    (adds_both m sum (contribution p.setup terms g) (slice_index old place) (slice_index mid place) (slice_index new place) (modulus_above p place) (before place within) (more place within))

-- sums below their moduli stay so, if those before an index grew and the others did not change
pub still_below : (p : Problem) (fraction_of : List Term → Fraction) (end : ℕ) (old new : List ℕ) → AreSumsBelow p old
    → ((q : ℕ) → q < end → AddsResidue (modulus_at p.moduli q) (fraction_of (integral_at p.moduli p.integrals q)) (slice_index old q) (slice_index new q))
    → ((q : ℕ) → end ≤ q → slice_index new q ≡ slice_index old q) → AreSumsBelow p new
still_below p fraction_of end old new below added rest place within =
    ⊎_elim
    (λ earlier. let a = added place earlier in let above = modulus_above p place in
    subst (λ x. x < modulus_at p.moduli place) (sym a.sum)
    (mod-lt (slice_index old place + a.value) (omega (arith, above))))
    (λ later. subst (λ x. x < modulus_at p.moduli place) (sym (rest place later)) (below place within))
    (cases_lt place end)

-- the sum at the index of an integral and a modulus
pub adds_here : (ws : List ℤ) (integrals : List (List Term)) (ms : List ℕ) (g : DecoratedTree) (i j place m old new x : ℕ)
    → place ≡ i * length ms + j → j < length ms
    → slice_index ms j ≡ m → IsResidue (slice_index ms j) (contribution ws (get_or integrals i []) g) x
    → new ≡ (old + x) % m
    → AddsResidue (modulus_at ms place) (contribution ws (integral_at ms integrals place) g) old new
adds_here ws integrals ms g i j place m old new x e below get r sum =
    let at_place : modulus_at ms place ≡ slice_index ms j =
    ap (λ p. slice_index ms (p % length ms)) e ∙ ap (slice_index ms) (mod-mul-add i (length ms) j below) in
    record {
      value = x;
      is_residue = subst (λ n. IsResidue n (contribution ws (integral_at ms integrals place) g) x) (sym at_place)
          (subst (λ ts. IsResidue (slice_index ms j) (contribution ws ts g) x) (sym (integral_of_place ms integrals i j place e below)) r);
      sum = sum ∙ ap (λ n. (old + x) % n) (sym (at_place ∙ get));
    }

-- ---- what is known so far
pub below_next : (Q : ℕ → Type 0) (i : ℕ) → ((k : ℕ) → k < i → Q k) → Q i → (k : ℕ) → k < i + 1 → Q k
below_next Q i before here k below =
    ⊎_elim (λ earlier. before k earlier) (λ later. subst Q (let e : i ≡ k = omega arith in e) here) (cases_lt k i)

pub edges_later : (t : FactorTable) (old new : FactorSeat) (g : DecoratedTree) (m : ℕ) → IsLater t old new
    → KnowsEdges old t g m → KnowsEdges new t g m
edges_later t old new g m h k = all_later t old new m (edge_keys g) h k

pub tree_later : (p : ProblemView) (t : FactorTable) (old new : FactorSeat) (g : DecoratedTree) → IsLater t old new
    → KnowsTree p t old g → KnowsTree p t new g
tree_later p t old new g h k index below = edges_later t old new g index h (k index below)

pub trees_next : (p : ProblemView) (t : FactorTable) (old new : FactorSeat) (g : DecoratedTree) (first k : ℕ)
    → IsLater t old new → g ≡ tree_of p.shape k
    → KnowsTrees p t old first k → KnowsTree p t new g → KnowsTrees p t new first (k + 1)
trees_next p t old new g first k h e before here q from below =
    ⊎_elim (λ earlier. tree_later p t old new (tree_of p.shape q) h (before q from earlier))
    (λ later. subst (KnowsTree p t new) (e ∙ ap (tree_of p.shape) (let l : k ≡ q = omega arith in l)) here)
    (cases_lt q k)

pub both_first : (b c : Bool) → (b && c) ≡ true → b ≡ true
both_first true c h = refl
both_first false c h = cc

pub both_second : (b c : Bool) → (b && c) ≡ true → c ≡ true
both_second true c h = h
both_second false c h = cc

pub from_ok : {X E : Type 0} (r : Result X E) (P : Type 0) → is_ok r ≡ true → OnOk r P → P
from_ok (Ok x) P h k = k
from_ok (Err e) P h k = cc
