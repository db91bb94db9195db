-- What the rules of a problem give for its table.
use Rattle.std.proofs.Common.{◌≡◌, ℕ, suc, ◌+◌, ◌*◌, ◌<◌, ◌≤◌, List, [], ◌∷◌, length, length-append, take, get_or, flat_map, sum_by, sym, ap, subst, All, arith, Some}
use Rattle.std.specs.List.{slice_get}
use Rattle.std.proofs.lemmas.List.{length-map}
use Rattle.std.proofs.lemmas.List.Concat.{flat_map-cons}
use Rattle.std.proofs.lemmas.List.Sums.{sum_by-cons}
use Rattle.std.proofs.lemmas.Option.{get_or_from_slice_get}
use Rattle.trees.specs.Decorated.{TreeShape}
use Rattle.classes.specs.declared.class.Power.{Power}
use Rattle.classes.specs.declared.class.Term.{Term}
use Rattle.problem.specs.declared.problem.Problem.{Problem}
use Rattle.problem.specs.Problems.{view}
use Rattle.problem.specs.Rules.{IsTermOf, IsIntegralOf}
use Rattle.factor_table.specs.declared.table.FactorTable.{FactorTable}
use Rattle.factor_table.specs.declared.parameters.Parameters.{Parameters}
use Rattle.factor_table.specs.Seats.{parameters_of}
use Rattle.table_sum.specs.Classes.{classes_of_term, classes_of_terms, classes_of, AreClassesFrom}
use Rattle.table_sum.specs.Problems.{IsTableOf}
use Rattle.table_sum.specs.Trees.{IsShapeIn}
use Rattle.table_sum.proofs.ClassLaws.{of_item}

-- ---- at most 16 classes in a term, so at most 512 in all
all_rest : {A : Type 0} (P : A → Type 0) (x : A) (xs : List A) → All P (x ∷ xs) → All P xs
all_rest P x xs h i d below = h (suc i) d (omega arith)

terms_few : (s : TreeShape) (ts : List Term) → All (IsTermOf s) ts → length (classes_of_terms ts) ≤ 16 * length ts
terms_few s [] h = omega arith
terms_few s (t ∷ ts) h =
    let own = (h 0 t (omega arith)).limits.count in
    let long = length-map t.classes (λ (q : Power). q.class) in
    let rest = terms_few s ts (all_rest (IsTermOf s) t ts h) in
    rw (flat_map-cons classes_of_term t ts) (rw (length-append (classes_of_term t) (classes_of_terms ts)) (omega (arith, own, long, rest)))

integrals_few : (s : TreeShape) (is : List (List Term)) → All (IsIntegralOf s) is
    → length (classes_of is) ≤ 16 * sum_by length is
integrals_few s [] h = omega arith
integrals_few s (ts ∷ is) h =
    let own = terms_few s ts (h 0 ts (omega arith)).each in
    let rest = integrals_few s is (all_rest (IsIntegralOf s) ts is h) in
    let count = sum_by-cons length ts is in
    rw (flat_map-cons classes_of_terms ts is) (rw (length-append (classes_of_terms ts) (classes_of is)) (omega (arith, own, rest, count)))

pub few_classes : (p : Problem) → length (classes_of p.integrals) ≤ 512
few_classes p =
    let most = p.rules.few_terms in
    let all = integrals_few p.shape p.integrals p.rules.integrals in
    omega (arith, most, all)

pub table_few_classes : (p : Problem) (t : FactorTable) → IsTableOf (view p) t → length (parameters_of t).classes ≤ 512
table_few_classes p t e = subst (λ n. n ≤ 512) (sym (ap (λ (q : Parameters). length q.classes) e)) (few_classes p)

-- ---- the table
pub table_shape : (p : Problem) (t : FactorTable) (s : TreeShape) → IsTableOf (view p) t → s ≡ p.shape
    → IsShapeIn (parameters_of t) s
table_shape p t s e same =
    subst (IsShapeIn (parameters_of t)) (sym same)
    (subst (λ q. IsShapeIn q p.shape) (sym e)
    (record { colours = (let one = p.rules.one_weight_each in omega (arith, one)); degrees = omega arith }))

pub table_setup : (p : Problem) (t : FactorTable) → IsTableOf (view p) t → (parameters_of t).setup ≡ p.setup
table_setup p t e = ap (λ (q : Parameters). q.setup) e

pub table_moduli : (p : Problem) (t : FactorTable) → IsTableOf (view p) t → (parameters_of t).moduli ≡ p.moduli
table_moduli p t e = ap (λ (q : Parameters). q.moduli) e

-- the classes of an integral in the table's list
pub integral_classes : (p : Problem) (t : FactorTable) (i first : ℕ) (terms : List Term) → IsTableOf (view p) t
    → i < length p.integrals
    → first ≡ length (flat_map classes_of_terms (take i p.integrals)) → slice_get p.integrals i ≡ Some terms
    → AreClassesFrom (parameters_of t).classes first (classes_of_terms terms)
integral_classes p t i first terms e below count get =
    let whole : AreClassesFrom (classes_of p.integrals) 0 (classes_of p.integrals) = record { within = omega arith; each = λ k d lt. let e : 0 + k ≡ k = omega arith in ap (λ n. get_or (classes_of p.integrals) n d) e } in
    subst (λ cs. AreClassesFrom cs first (classes_of_terms terms)) (sym (ap (λ (q : Parameters). q.classes) e))
    (subst (λ n. AreClassesFrom (classes_of p.integrals) n (classes_of_terms terms)) (sym count)
    (subst (λ ts. AreClassesFrom (classes_of p.integrals) (length (flat_map classes_of_terms (take i p.integrals))) (classes_of_terms ts))
    (get_or_from_slice_get p.integrals i terms [] get)
    (subst (λ n. AreClassesFrom (classes_of p.integrals) n (classes_of_terms (get_or p.integrals i [])))
    (let e : 0 + length (flat_map classes_of_terms (take i p.integrals)) ≡ length (flat_map classes_of_terms (take i p.integrals)) = omega arith in e)
    (of_item classes_of_terms (classes_of p.integrals) 0 i p.integrals [] whole below))))

-- the number of classes of one integral more
pub count_within : (p : Problem) (i : ℕ) (terms : List Term) → i < length p.integrals
    → slice_get p.integrals i ≡ Some terms
    → length (flat_map classes_of_terms (take i p.integrals)) + length (classes_of_terms terms) ≤ 512
count_within p i terms below get =
    let whole : AreClassesFrom (classes_of p.integrals) 0 (classes_of p.integrals) = record { within = omega arith; each = λ k d lt. let e : 0 + k ≡ k = omega arith in ap (λ n. get_or (classes_of p.integrals) n d) e } in
    let own = of_item classes_of_terms (classes_of p.integrals) 0 i p.integrals [] whole below in
    let within = own.within in
    let few = few_classes p in
    let same : length (classes_of_terms (get_or p.integrals i [])) ≡ length (classes_of_terms terms) =
    ap (λ ts. length (classes_of_terms ts)) (get_or_from_slice_get p.integrals i terms [] get) in
    omega (arith, within, few, same)
