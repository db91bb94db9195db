-- The table that a problem is written as, of version 2 of the format.
use Rattle.std.specs.Prelude.{ℕ, ℤ, pos, List, [], ◌∷◌, map, Option, Some, None}
use Rattle.std.specs.Ordering.{nat_cmp, match_ordering}
use Rattle.std.specs.Cmp.Lexicographic.{slice_cmp}
use Rattle.toml.specs.Data.{Data, string, integer, array, table, Items, no_items, item, Members, no_members, member}
use Rattle.classes.specs.declared.class.Class.{Class}
use Rattle.classes.specs.declared.class.Class.TheVariants as class
use Rattle.classes.specs.declared.class.Power.{Power}
use Rattle.classes.specs.declared.class.Term.{Term}
use Rattle.problem.specs.Rules.{ProblemView}
use Rattle.problem_toml.specs.Keys.{key_of}
use Rattle.problem_toml.specs.Kinds.{word_of, parameter_key}
use Rattle.problem_toml.specs.declared.kind.Kind.{Kind}
use Rattle.problem_toml.specs.declared.kind.Kind.TheVariants.{Mark, Hypersurface, Incidence, R1, Contact, Psi}
use Rattle.problem_toml.specs.declared.name.Name.{Name}
use Rattle.problem_toml.specs.declared.name.Name.TheVariants as key

-- the members with a value at a key, in the order of the keys
abbrev pub insert_member : List ℕ → Data → Members → Members
insert_member k d no_members = member k d no_members
insert_member k d (member l e ms) =
    match_ordering (slice_cmp nat_cmp k l) (member k d (member l e ms)) (member l d ms)
    (member l e (insert_member k d ms))

abbrev pub integer_items : List ℤ → Items
integer_items [] = no_items
integer_items (z ∷ zs) = item (integer z) (integer_items zs)

abbrev pub table_items : List Members → Items
table_items [] = no_items
table_items (doc ∷ docs) = item (table doc) (table_items docs)

-- the kind of a class
abbrev pub kind_for : Class → Kind
kind_for (class.Mark mark) = Mark
kind_for (class.Hypersurface b) = Hypersurface
kind_for (class.Incidence q) = Incidence
kind_for (class.R1 k) = R1
kind_for class.Contact = Contact
kind_for (class.Psi mark) = Psi

-- the parameter of a class, 0 for one without
abbrev pub parameter_of : Class → ℕ
parameter_of (class.Mark mark) = mark
parameter_of (class.Hypersurface b) = b
parameter_of (class.Incidence q) = q
parameter_of (class.R1 k) = k
parameter_of class.Contact = 0
parameter_of (class.Psi mark) = mark

abbrev pub with_parameter : Option Name → ℕ → Members → Members
with_parameter None parameter doc = doc
with_parameter (Some name) parameter doc = insert_member (key_of name) (integer (pos parameter)) doc

-- a class to its power
unfoldable pub power_table : Power → Members
power_table p =
    with_parameter (parameter_key (kind_for p.class)) (parameter_of p.class)
    (insert_member (key_of key.Power) (integer (pos p.power))
    (insert_member (key_of key.Kind) (string (word_of (kind_for p.class))) no_members))

-- a term
unfoldable pub term_table : Term → Members
term_table t =
    insert_member (key_of key.Classes) (array (table_items (map power_table t.classes)))
    (insert_member (key_of key.Coefficient) (integer t.coefficient) no_members)

-- an integral
unfoldable pub integral_table : List Term → Members
integral_table terms = insert_member (key_of key.Term) (array (table_items (map term_table terms))) no_members

-- a problem
unfoldable pub written_table : ProblemView → Members
written_table p =
    insert_member (key_of key.Integral) (array (table_items (map integral_table p.integrals)))
    (insert_member (key_of key.DenominatorBound) (integer (pos p.bottom_bound))
    (insert_member (key_of key.NumeratorBound) (integer (pos p.top_bound))
    (insert_member (key_of key.Moduli) (array (integer_items (map pos p.moduli)))
    (insert_member (key_of key.Weights) (array (integer_items p.weights))
    (insert_member (key_of key.Marks) (integer (pos p.shape.marks))
    (insert_member (key_of key.Degree) (integer (pos p.shape.degree))
    (insert_member (key_of key.Rank) (integer (pos p.shape.rank))
    (insert_member (key_of key.Version) (integer (pos 2)) no_members))))))))
