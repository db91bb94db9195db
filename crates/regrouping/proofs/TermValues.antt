-- The value of a term is the product of its parts.
use Rattle.std.proofs.Common.{◌≡◌, ℕ, List, [], ◌∷◌, map, ℤ, pos, refl, sym, ap, ap₂, ◌∙◌}
use Rattle.arithmetic.specs.Fractions.{Fraction, fraction, times, product_of_fractions, power_of_fraction}
use Rattle.arithmetic.proofs.FractionSums.{times-one}
use Rattle.arithmetic.proofs.FractionProducts.{one-times}
use Rattle.trees.specs.Decorated.{DecoratedTree}
use Rattle.classes.specs.declared.class.Class.{Class}
use Rattle.classes.specs.declared.class.Class.TheVariants.{Mark, Hypersurface, Incidence, R1, Contact, Psi}
use Rattle.classes.specs.declared.class.Power.{Power}
use Rattle.classes.specs.declared.class.Term.{Term}
use Rattle.localisation.specs.ClassValue.{at_edges, along_edges, class_edge, class_value, term_value}
use Rattle.regrouping.specs.TreeParts.{class_step_part}
use Rattle.regrouping.specs.TermEdges.{class_whole, over_classes, term_edge, term_whole, value_parts}
use Rattle.regrouping.proofs.Prefixes.{power-times, power-product, paired-products}
use Rattle.regrouping.proofs.Steps.{with_degrees, edge_at, along-map}
use Rattle.regrouping.proofs.TreeProducts.{IsWalkedTree}
use Rattle.regrouping.proofs.Contributions.{class_product-spread}

-- ---- products of 1
ones : {A : Type 0} (xs : List A) → product_of_fractions (map (λ (x : A). fraction (pos 1) (pos 1)) xs) ≡ fraction (pos 1) (pos 1)
ones [] = refl
ones (x ∷ xs) = ap (times (fraction (pos 1) (pos 1))) (ones xs)

-- ---- a product of products, the other way round
pub products-swapped : {A B : Type 0} (f : A → B → Fraction) (xs : List A) (ys : List B)
    → product_of_fractions (map (λ x. product_of_fractions (map (f x) ys)) xs) ≡ product_of_fractions (map (λ y. product_of_fractions (map (λ x. f x y) xs)) ys)
products-swapped f [] ys = sym (ones ys)
products-swapped f (x ∷ xs) ys =
    ap (times (product_of_fractions (map (f x) ys))) (products-swapped f xs ys)
    ∙ sym (paired-products (f x) (λ y. product_of_fractions (map (λ x'. f x' y) xs)) ys)

pub products-same : {A : Type 0} (f g : A → Fraction) (xs : List A) → ((x : A) → f x ≡ g x) → product_of_fractions (map f xs) ≡ product_of_fractions (map g xs)
products-same f g [] h = refl
products-same f g (x ∷ xs) h = ap₂ times (h x) (products-same f g xs h)

mapped : {A B : Type 0} (g : B → Fraction) (f : A → B) (xs : List A) → product_of_fractions (map g (map f xs)) ≡ product_of_fractions (map (λ x. g (f x)) xs)
mapped g f [] = refl
mapped g f (x ∷ xs) = ap (times (g (f x))) (mapped g f xs)

-- ---- one class
pub none_at_edges : (colours : List ℕ) (es : List (ℕ × ℕ)) (ds : List ℕ) → product_of_fractions (along_edges (λ i j a. fraction (pos 1) (pos 1)) colours es ds) ≡ fraction (pos 1) (pos 1)
none_at_edges colours [] ds = refl
none_at_edges colours (e ∷ es) [] = refl
none_at_edges colours (e ∷ es) (a ∷ ds) = ap (times (fraction (pos 1) (pos 1))) (none_at_edges colours es ds)

whole_only : (g : DecoratedTree) (rest : List (ℕ × ℕ)) (f : Fraction)
    → f ≡ times (product_of_fractions (at_edges (λ i j a. fraction (pos 1) (pos 1)) g)) (times (product_of_fractions (map (λ (s : ℕ × ℕ). fraction (pos 1) (pos 1)) rest)) f)
whole_only g rest f =
    sym (ap₂ times (none_at_edges g.colours g.edges g.degrees) (ap (λ x. times x f) (ones rest)) ∙ one-times (times (fraction (pos 1) (pos 1)) f) ∙ one-times f)

class_value-parts : (ws : List ℤ) (class : Class) (g : DecoratedTree) (s : ℕ × ℕ) (rest : List (ℕ × ℕ)) → IsWalkedTree g s rest
    → class_value ws class g ≡ times (product_of_fractions (at_edges (class_edge ws class) g)) (times (product_of_fractions (map (class_step_part ws class g) rest)) (class_whole ws class g))
class_value-parts ws (Mark j) g s rest r = whole_only g rest (class_value ws (Mark j) g)
class_value-parts ws (Incidence q) g s rest r = whole_only g rest (class_value ws (Incidence q) g)
class_value-parts ws (Psi j) g s rest r = whole_only g rest (class_value ws (Psi j) g)
class_value-parts ws (Hypersurface b) g s rest r = class_product-spread ws (Hypersurface b) g s rest r ∙ ap (times _) (sym (times-one (product_of_fractions (map (class_step_part ws (Hypersurface b) g) rest))))
class_value-parts ws (R1 k) g s rest r = class_product-spread ws (R1 k) g s rest r ∙ ap (times _) (sym (times-one (product_of_fractions (map (class_step_part ws (R1 k) g) rest))))
class_value-parts ws Contact g s rest r = class_product-spread ws Contact g s rest r ∙ ap (times _) (sym (times-one (product_of_fractions (map (class_step_part ws Contact g) rest))))

-- ---- its power
times-power : (f g : Fraction) (n : ℕ) → power_of_fraction (times f g) n ≡ times (power_of_fraction f n) (power_of_fraction g n)
times-power f g n = ap₂ fraction (power-times f.top g.top n) (power-times f.bottom g.bottom n)

-- ---- all classes: three products, each over the classes and their edges, steps and whole
pub classes_times : (ps : List Power) (f g : Class → Fraction) → over_classes ps (λ c. times (f c) (g c)) ≡ times (over_classes ps f) (over_classes ps g)
classes_times ps f g =
    products-same (λ (p : Power). power_of_fraction (times (f p.class) (g p.class)) p.power)
    (λ (p : Power). times (power_of_fraction (f p.class) p.power) (power_of_fraction (g p.class) p.power)) ps (λ p. times-power (f p.class) (g p.class) p.power)
    ∙ paired-products (λ (p : Power). power_of_fraction (f p.class) p.power) (λ (p : Power). power_of_fraction (g p.class) p.power) ps

pub classes_list : {A : Type 0} (ps : List Power) (f : Class → A → Fraction) (xs : List A)
    → over_classes ps (λ c. product_of_fractions (map (f c) xs)) ≡ product_of_fractions (map (λ x. over_classes ps (λ c. f c x)) xs)
classes_list ps f xs =
    products-same (λ (p : Power). power_of_fraction (product_of_fractions (map (f p.class) xs)) p.power)
    (λ (p : Power). product_of_fractions (map (λ x. power_of_fraction (f p.class x) p.power) xs)) ps
    (λ p. power-product (map (f p.class) xs) p.power ∙ mapped (λ h. power_of_fraction h p.power) (f p.class) xs)
    ∙ products-swapped (λ (p : Power) x. power_of_fraction (f p.class x) p.power) ps xs

pub classes_edges : (ws : List ℤ) (term : Term) (g : DecoratedTree)
    → over_classes term.classes (λ c. product_of_fractions (at_edges (class_edge ws c) g)) ≡ product_of_fractions (at_edges (term_edge ws term) g)
classes_edges ws term g =
    let xs = with_degrees g.edges g.degrees in
    products-same (λ (p : Power). power_of_fraction (product_of_fractions (at_edges (class_edge ws p.class) g)) p.power)
    (λ (p : Power). power_of_fraction (product_of_fractions (map (edge_at (class_edge ws p.class) g.colours) xs)) p.power) term.classes
    (λ p. ap (λ fs. power_of_fraction (product_of_fractions fs) p.power) (along-map (class_edge ws p.class) g.colours g.edges g.degrees))
    ∙ classes_list term.classes (λ c. edge_at (class_edge ws c) g.colours) xs
    ∙ ap product_of_fractions (sym (along-map (term_edge ws term) g.colours g.edges g.degrees))

pub term_value-parts : (ws : List ℤ) (term : Term) (g : DecoratedTree) (s : ℕ × ℕ) (rest : List (ℕ × ℕ)) → IsWalkedTree g s rest
    → term_value ws term g ≡ value_parts ws term g rest
term_value-parts ws term g s rest r =
    let edges : Class → Fraction = λ c. product_of_fractions (at_edges (class_edge ws c) g) in
    let steps : Class → Fraction = λ c. product_of_fractions (map (class_step_part ws c g) rest) in
    let whole : Class → Fraction = λ c. class_whole ws c g in
    ap (times (fraction term.coefficient (pos 1)))
    (products-same (λ (p : Power). power_of_fraction (class_value ws p.class g) p.power)
    (λ (p : Power). power_of_fraction (times (edges p.class) (times (steps p.class) (whole p.class))) p.power) term.classes
    (λ p. ap (λ f. power_of_fraction f p.power) (class_value-parts ws p.class g s rest r))
    ∙ classes_times term.classes edges (λ c. times (steps c) (whole c))
    ∙ ap₂ times (classes_edges ws term g)
    (classes_times term.classes steps whole ∙ ap (λ x. times x (term_whole ws term g)) (classes_list term.classes (λ c. class_step_part ws c g) rest)))
