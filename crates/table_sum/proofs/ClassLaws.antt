-- The classes of terms in the table's list, and the values of classes.
use Rattle.std.proofs.Common.{◌≡◌, ℕ, ◌+◌, ◌-◌, ◌<◌, ◌≤◌, List, [], ◌∷◌, ◌++◌, length, length-append, take, get_or, flat_map, ℤ, pos, ◌*ℤ◌, neg_ℤ, refl, sym, ap, ◌∙◌, arith}
use Rattle.arithmetic.specs.Numbers.{power}
use Rattle.std.proofs.lemmas.Grind.{flat_map-append}
use Rattle.std.proofs.lemmas.List.Concat.{get_or-flat_map, flat_map-cons}
use Rattle.std.proofs.lemmas.List.Folds.{length-flat_map-take}
use Rattle.std.proofs.lemmas.List.{get_or-map, length-map, take_more, flat_map_more}
use Rattle.arithmetic.specs.Fractions.{fraction, IsResidue}
use Rattle.arithmetic.proofs.Residues.{IsResidue-whole}
use Rattle.trees.specs.Decorated.{DecoratedTree}
use Rattle.classes.specs.declared.class.Class.{Class}
use Rattle.classes.specs.declared.class.Class.TheVariants.{Mark, Hypersurface, Incidence, R1, Contact, Psi}
use Rattle.classes.specs.declared.class.Power.{Power}
use Rattle.classes.specs.declared.class.Term.{Term}
use Rattle.residue.specs.declared.ratio.Ratio.{Ratio}
use Rattle.classes.specs.Classes.{IsClassFor}
use Rattle.residue.specs.Ratios.{IsRatioOf}
use Rattle.localisation.specs.Weights.{weight}
use Rattle.localisation.specs.ClassValue.{class_value, class_product, class_vertex}
use Rattle.factor_table.specs.Factors.{HasParts}
use Rattle.table_sum.specs.Classes.{classes_of_powers, classes_of_term, classes_of_terms, AreClassesFrom}

-- ---- the classes of one item of a list
pub of_item : {A : Type 0} (f : A → List Class) (classes : List Class) (first i : ℕ) (xs : List A) (x : A)
    → AreClassesFrom classes first (flat_map f xs) → i < length xs
    → AreClassesFrom classes (first + length (flat_map f (take i xs))) (f (get_or xs i x))
of_item f classes first i xs x h below =
    let within = h.within in
    let shorter = length-flat_map-take f xs i x below in
    record {
      within = omega (arith, shorter, within);
      each = λ k d lt.
          let at : first + length (flat_map f (take i xs)) + k ≡ first + (length (flat_map f (take i xs)) + k) =
          omega arith in
          ap (λ n. get_or classes n d) at ∙ h.each (length (flat_map f (take i xs)) + k) d (omega (arith, shorter, lt))
          ∙ get_or-flat_map f xs i k x d below lt;
    }

pub length-next : {A : Type 0} (f : A → List Class) (xs : List A) (i n : ℕ) (x : A) → i < length xs → x ≡ get_or xs i x
    → n ≡ length (f x)
    → length (flat_map f (take (i + 1) xs)) ≡ length (flat_map f (take i xs)) + n
length-next f xs i n x below is count =
    ap (λ ys. length (flat_map f ys)) (take_more xs i x below)
    ∙ ap length (flat_map-append f (take i xs) (get_or xs i x ∷ []))
    ∙ length-append (flat_map f (take i xs)) (flat_map f (get_or xs i x ∷ []))
    ∙ ap (λ k. length (flat_map f (take i xs)) + k)
    (ap length (flat_map-cons f (get_or xs i x) []) ∙ length-append (f (get_or xs i x)) []
    ∙ last (length (f (get_or xs i x))) ∙ ap (λ y. length (f y)) (sym is) ∙ sym count)
  where
    last : (k : ℕ) → k + 0 ≡ k
    last k = omega arith

pub item_within : (classes : List Class) (first i : ℕ) (ts : List Term) (t : Term)
    → AreClassesFrom classes first (classes_of_terms ts) → i < length ts → t ≡ get_or ts i t
    → first + length (classes_of_terms (take i ts)) + length t.classes ≤ length classes
item_within classes first i ts t h below is =
    let own = of_item classes_of_term classes first i ts t h below in
    let within = own.within in
    let long : length (classes_of_term (get_or ts i t)) ≡ length t.classes =
    ap (λ x. length (classes_of_term x)) (sym is) ∙ length-map t.classes (λ (q : Power). q.class) in
    omega (arith, within, long)

pub item_counted : (ts : List Term) (i : ℕ) (t : Term) → i < length ts → t ≡ get_or ts i t
    → length (classes_of_terms (take i ts)) + length t.classes ≤ length (classes_of_terms ts)
item_counted ts i t below is =
    let shorter = length-flat_map-take classes_of_term ts i t below in
    let long : length (classes_of_term (get_or ts i t)) ≡ length t.classes =
    ap (λ x. length (classes_of_term x)) (sym is) ∙ length-map t.classes (λ (q : Power). q.class) in
    omega (arith, shorter, long)

-- the class of a power
pub class_of_power : (classes : List Class) (first i : ℕ) (ps : List Power) (d : Class) (p : Power)
    → AreClassesFrom classes first (classes_of_powers ps) → i < length ps
    → get_or classes (first + i) d ≡ (get_or ps i p).class
class_of_power classes first i ps d p h below =
    h.each i d (let long = length-map ps (λ (q : Power). q.class) in omega (arith, long))
    ∙ get_or-map (λ (q : Power). q.class) ps i p d below

pub power_within : (classes : List Class) (first i : ℕ) (ps : List Power)
    → AreClassesFrom classes first (classes_of_powers ps) → i < length ps → first + i < length classes
power_within classes first i ps h below =
    let long = length-map ps (λ (q : Power). q.class) in
    let within = h.within in
    omega (arith, long, within)

-- ---- a class with parts has the product of its parts as its value ..
pub has_product : (ws : List ℤ) (class : Class) (g : DecoratedTree) → HasParts class
    → class_value ws class g ≡ class_product ws class g
has_product ws (Mark mark) g h = absurd h
has_product ws (Hypersurface b) g h = refl
has_product ws (Incidence q) g h = absurd h
has_product ws (R1 k) g h = refl
has_product ws Contact g h = refl
has_product ws (Psi mark) g h = absurd h

-- .. and any other a whole number
pub whole_value : (ws : List ℤ) (class : Class) (g : DecoratedTree) (marks m : ℕ) (ratio : Ratio)
    → IsClassFor marks class → (HasParts class → ⊥)
    → IsRatioOf m (class_value ws class g) ratio → IsResidue m (class_value ws class g) ratio.top
whole_value ws (Mark mark) g marks m ratio h none r = IsResidue-whole _ r.top
whole_value ws (Hypersurface b) g marks m ratio h none r = absurd (none h.parameter)
whole_value ws (Incidence q) g marks m ratio h none r = IsResidue-whole _ r.top
whole_value ws (R1 k) g marks m ratio h none r = absurd (none h.parameter)
whole_value ws Contact g marks m ratio h none r = absurd (none tt)
whole_value ws (Psi mark) g marks m ratio h none r = IsResidue-whole _ r.top

-- ---- the part of a class at a leaf is 1
pub vertex_of_leaf : (ws : List ℤ) (class : Class) (c s : ℕ) → s ≡ 1 → class_vertex ws class c s ≡ fraction (pos 1) (pos 1)
vertex_of_leaf ws (Mark mark) c s e = refl
vertex_of_leaf ws (Hypersurface b) c s e = ap (λ n. fraction (pos 1) (power (pos b *ℤ weight ws c) (n - 1))) e
vertex_of_leaf ws (Incidence q) c s e = refl
vertex_of_leaf ws (R1 k) c s e = ap (λ n. fraction (power (neg_ℤ (pos k) *ℤ weight ws c) (n - 1)) (pos 1)) e
vertex_of_leaf ws Contact c s e = ap (λ n. fraction (power (pos 2 *ℤ weight ws c) (n - 1)) (pos 1)) e
vertex_of_leaf ws (Psi mark) c s e = refl

-- ---- the classes are listed one after another
pub flat-next : {A : Type 0} (f : A → List Class) (initial old new : List Class) (xs : List A) (i : ℕ) (x : A)
    → i < length xs → x ≡ get_or xs i x
    → old ≡ initial ++ flat_map f (take i xs) → new ≡ old ++ f x → new ≡ initial ++ flat_map f (take (i + 1) xs)
flat-next f initial old new xs i x below is before added =
    added ∙ ap (λ cs. cs ++ f x) before ∙ ap (λ y. (initial ++ flat_map f (take i xs)) ++ f y) is
    ∙ flat_map_more f initial (take i xs) (get_or xs i x)
    ∙ ap (λ ys. initial ++ flat_map f ys) (sym (take_more xs i x below))
