-- The fraction of a key, and the word that stands for its residue.
use Rattle.std.specs.Prelude.{◌≡◌, ◌≢◌, ℕ, ◌+◌, ◌≤◌, ◌⊎◌, List, [], ◌∷◌, length, slice_index, slice_index_or, nat_abs, ℤ, pos, ◌-ℤ◌, Result, Ok, Err}
use Rattle.arithmetic.specs.Numbers.{gcd}
use Rattle.arithmetic.specs.Fractions.{Fraction, fraction, IsResidue}
use Rattle.residue.specs.declared.errors.NoUnit.{NoUnit}
use Rattle.classes.specs.declared.class.Class.{Class}
use Rattle.classes.specs.declared.class.Class.TheVariants.{Mark, Hypersurface, Incidence, R1, Contact, Psi}
use Rattle.localisation.specs.Weights.{weight, tangent_product}
use Rattle.localisation.specs.EdgeFraction.{edge_fraction}
use Rattle.localisation.specs.VertexFraction.{plain_vertex}
use Rattle.localisation.specs.ClassValue.{class_edge, class_vertex}
use Rattle.vertex_factor.specs.Ends.{end, flag_fraction}
use Rattle.factor_table.specs.declared.key.Key.{Key}
use Rattle.factor_table.specs.declared.key.Key.TheVariants.{Edge, Flag, Tangent, Pair, ClassEdge, ClassVertex, Tip}
use Rattle.factor_table.specs.declared.parameters.Parameters.{Parameters}
use Rattle.factor_table.specs.declared.layout.Sizes.{Sizes}
use Rattle.factor_table.specs.KeyPlaces.{IsKeyWithin}

abbrev pub parameters : List ℤ → ℕ → List ℕ → List Class → Parameters
parameters setup degree moduli classes = record { setup = setup; degree = degree; moduli = moduli; classes = classes }

-- how many there are of each
abbrev pub sizes_of : Parameters → Sizes
sizes_of p = record { colours = length p.setup; degree = p.degree; moduli = length p.moduli; classes = length p.classes }

-- the modulus at an index
abbrev pub modulus_in : Parameters → ℕ → ℕ
modulus_in p index = slice_index p.moduli index

-- the class at an index
abbrev pub class_at : Parameters → ℕ → Class
class_at p index = slice_index_or p.classes index Contact

-- a class that has a fraction at each edge and each vertex, its parameter within the limits
abbrev pub HasParts : Class → Type 0
HasParts (Mark mark) = ⊥
HasParts (Hypersurface b) = (1 ≤ b) × (b ≤ 64)
HasParts (Incidence q) = ⊥
HasParts (R1 k) = (1 ≤ k) × (k ≤ 64)
HasParts Contact = Unit {0}
HasParts (Psi mark) = ⊥

-- neighbours have different colours, and a class has parts
abbrev pub HasFraction : Parameters → Key → Type 0
HasFraction p (Edge i j a) = i ≢ j
HasFraction p (Flag c u a) = u ≢ c
HasFraction p (Tangent c) = Unit {0}
HasFraction p (Pair c c1 a1 c2 a2) = (c1 ≢ c) × (c2 ≢ c)
HasFraction p (ClassEdge class i j a) = HasParts (class_at p class) × (i ≢ j)
HasFraction p (ClassVertex class c n) = HasParts (class_at p class)
HasFraction p (Tip c u a) = u ≢ c

-- a key of the table
pub record IsKeyOf (p : Parameters) (key : Key) : Type 0 where
  pub within : IsKeyWithin (sizes_of p) key
  pub has_fraction : HasFraction p key

-- the fraction of a tip: the difference of the weights of the neighbour and the vertex, over the degree
abbrev pub tip_fraction : List ℤ → ℕ → ℕ → ℕ → Fraction
tip_fraction ws c u a = fraction (weight ws u -ℤ weight ws c) (pos a)

-- the fraction of a key
abbrev pub fraction_of : Parameters → Key → Fraction
fraction_of p (Edge i j a) = edge_fraction p.setup i j a
fraction_of p (Flag c u a) = flag_fraction p.setup c u a
fraction_of p (Tangent c) = fraction (tangent_product p.setup c) (pos 1)
fraction_of p (Pair c c1 a1 c2 a2) = plain_vertex p.setup c (end c1 a1 ∷ end c2 a2 ∷ []) 0
fraction_of p (ClassEdge class i j a) = class_edge p.setup (class_at p class) i j a
fraction_of p (ClassVertex class c n) = class_vertex p.setup (class_at p class) c n
fraction_of p (Tip c u a) = tip_fraction p.setup c u a

-- The word of a fraction modulo m: its residue plus 1, or 2^64 - 1 if its bottom is no unit.
abbrev pub IsWordOf : ℕ → Fraction → ℕ → Type 0
IsWordOf m f word =
    ((x : ℕ) × IsResidue m f x × (word ≡ x + 1))
    ⊎ ((gcd (nat_abs f.bottom) m ≢ 1) × (word ≡ 18446744073709551615))

-- the word of an answer
abbrev pub answer_word : Result ℕ NoUnit → ℕ
answer_word (Ok x) = x + 1
answer_word (Err e) = 18446744073709551615
