-- The place of a key: the index of the word of the table that is its own.
use Rattle.std.specs.Prelude.{ℕ, ◌+◌, ◌-◌, ◌*◌, ◌<◌, ◌≤◌, ◌≡◌}
use Rattle.factor_table.specs.declared.key.Key.{Key}
use Rattle.factor_table.specs.declared.layout.Sizes.{Sizes}
use Rattle.factor_table.specs.declared.layout.Strides.{Strides}
use Rattle.factor_table.specs.declared.key.Key.TheVariants.{Edge, Flag, Tangent, Pair, ClassEdge, ClassVertex, Tip}

-- the limits: 1 to 13 colours, degree at most 10, at most 8 moduli and 512 classes
pub record AreWithinLimits (s : Sizes) : Type 0 where
  pub some_colour : 1 ≤ s.colours
  pub colours_limited : s.colours ≤ 13
  pub degree_limited : s.degree ≤ 10
  pub moduli_limited : s.moduli ≤ 8
  pub classes_limited : s.classes ≤ 512

-- the end of an edge of degree a at a vertex of colour u
pub record IsEnd (s : Sizes) (u a : ℕ) : Type 0 where
  pub colour_within : u < s.colours
  pub degree_positive : 1 ≤ a
  pub degree_within : a ≤ s.degree

-- the colours, the degrees and the class of a key are among those of the table
abbrev pub IsKeyWithin : Sizes → Key → Type 0
IsKeyWithin s (Edge i j a) = (i < s.colours) × IsEnd s j a
IsKeyWithin s (Flag c u a) = (c < s.colours) × IsEnd s u a
IsKeyWithin s (Tangent c) = c < s.colours
IsKeyWithin s (Pair c c1 a1 c2 a2) = (c < s.colours) × IsEnd s c1 a1 × IsEnd s c2 a2
IsKeyWithin s (ClassEdge class i j a) = (class < s.classes) × (i < s.colours) × IsEnd s j a
IsKeyWithin s (ClassVertex class c n) = (class < s.classes) × IsEnd s c n
IsKeyWithin s (Tip c u a) = (c < s.colours) × IsEnd s u a

-- how many ends there are, and how many flags, a colour and an end each
abbrev pub ends : Sizes → ℕ
ends s = s.colours * s.degree

abbrev pub flags : Sizes → ℕ
flags s = s.colours * ends s

-- the number of an end and of a flag, counted from 0
abbrev pub end_number : Sizes → ℕ → ℕ → ℕ
end_number s u a = u * s.degree + (a - 1)

abbrev pub flag_number : Sizes → ℕ → ℕ → ℕ → ℕ
flag_number s c u a = c * ends s + end_number s u a

-- Among the words of one modulus those of the edges come first, and then those of the flags, the tips, the tangents,
-- the pairs, the classes at edges and the classes at vertices: the first word of each.
abbrev pub first_flag : Sizes → ℕ
first_flag s = flags s

abbrev pub first_tip : Sizes → ℕ
first_tip s = first_flag s + flags s

abbrev pub first_tangent : Sizes → ℕ
first_tangent s = first_tip s + flags s

abbrev pub first_pair : Sizes → ℕ
first_pair s = first_tangent s + s.colours

abbrev pub first_class_edge : Sizes → ℕ
first_class_edge s = first_pair s + flags s * ends s

abbrev pub first_class_vertex : Sizes → ℕ
first_class_vertex s = first_class_edge s + s.classes * flags s

-- how many words there are for one modulus
abbrev pub words_of_modulus : Sizes → ℕ
words_of_modulus s = first_class_vertex s + s.classes * ends s

-- the number of a key among the words of one modulus
abbrev pub key_number : Sizes → Key → ℕ
key_number s (Edge i j a) = flag_number s i j a
key_number s (Flag c u a) = first_flag s + flag_number s c u a
key_number s (Tangent c) = first_tangent s + c
key_number s (Pair c c1 a1 c2 a2) = first_pair s + (flag_number s c c1 a1 * ends s + end_number s c2 a2)
key_number s (ClassEdge class i j a) = first_class_edge s + (class * flags s + flag_number s i j a)
key_number s (ClassVertex class c n) = first_class_vertex s + (class * ends s + end_number s c n)
key_number s (Tip c u a) = first_tip s + flag_number s c u a

-- the table begins with the weights and the moduli
abbrev pub first_factor : Sizes → ℕ
first_factor s = s.colours + s.moduli

-- the strides of a table: each is what it is called
pub record AreStrides (s : Sizes) (strides : Strides) : Type 0 where
  pub ends : strides.ends ≡ ends s
  pub flags : strides.flags ≡ flags s
  pub first_edge : strides.first_edge ≡ first_factor s
  pub first_flag : strides.first_flag ≡ first_factor s + first_flag s
  pub first_tip : strides.first_tip ≡ first_factor s + first_tip s
  pub first_tangent : strides.first_tangent ≡ first_factor s + first_tangent s
  pub first_pair : strides.first_pair ≡ first_factor s + first_pair s
  pub first_class_edge : strides.first_class_edge ≡ first_factor s + first_class_edge s
  pub first_class_vertex : strides.first_class_vertex ≡ first_factor s + first_class_vertex s
  pub words_of_modulus : strides.words_of_modulus ≡ words_of_modulus s

-- how many words the table has
unfoldable pub words_of : Sizes → ℕ
words_of s = first_factor s + s.moduli * words_of_modulus s

-- the place of the word of a key for the modulus at an index
unfoldable pub word_place : Sizes → Key → ℕ → ℕ
word_place s key modulus = first_factor s + modulus * words_of_modulus s + key_number s key
