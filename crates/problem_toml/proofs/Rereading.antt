-- The table of a problem reads as the problem.
use Rattle.std.proofs.Common.{◌≡◌, ℕ, suc, ℤ, pos, ◌+◌, ◌-◌, ◌*◌, ◌^◌, ◌<◌, ◌≤◌, true, false, List, [], ◌∷◌, length, map, Option, Some, None, Ok, refl, sym, ap, subst, arith, All, sum_by, unsigned_abs, int_lt, nat_eq, le-leb, lt-ltb, eq-eqb, slice_index, max, Ordering, Less, Equal, Greater}
use Rattle.std.specs.Str.{IsUtf8}
use Rattle.std.specs.List.{list_any}
use Rattle.std.specs.Ordering.{match_ordering, nat_cmp}
use Rattle.std.specs.Cmp.Lexicographic.{slice_cmp}
use Rattle.std.proofs.lemmas.Grind.{common_steps}
use Rattle.std.proofs.lemmas.Bool.Decides.{nat_tests}
use Rattle.std.proofs.lemmas.List.{length-map}
use Rattle.std.proofs.lemmas.List.Elements.{All-head, All-tail}
use Rattle.std.proofs.lemmas.List.Sums.{sum_by-cons}
use Rattle.toml.specs.Data.{Data, integer, string, array, Members, no_members, member, depth, items_depth, members_depth}
use Rattle.toml.specs.Parse.{parse_document}
use Rattle.arithmetic.specs.Numbers.{gcd}
use Rattle.trees.specs.Decorated.{TreeShape}
use Rattle.lists.specs.Digits.{product_of}
use Rattle.trees.specs.TreeNumbers.{tree_count}
use Rattle.decorated_tree.specs.Shapes.{within_limits}
use Rattle.classes.specs.Classes.{IsClassFor}
use Rattle.residue.specs.Limits.{IsModulus, IsWeight, is_beyond_limit}
use Rattle.classes.specs.declared.class.Class.{Class}
use Rattle.classes.specs.declared.class.Class.TheVariants as class
use Rattle.classes.specs.declared.class.Power.{Power}
use Rattle.classes.specs.declared.class.Term.{Term}
use Rattle.arithmetic.specs.Agreement.{ArePairwiseCoprime}
use Rattle.problem.specs.Rules.{ProblemView, KeepsRules, IsPower, IsTerm, IsTermOf, IsIntegralOf, dimension_of, powers_degree}
use Rattle.problem_toml.specs.Classes.{kind_at, power_of, powers_from}
use Rattle.problem_toml.specs.Header.{WrittenView, written_of, marks_in, lists_fit, bounds_of, header_of}
use Rattle.problem_toml.specs.Integrals.{integral_of, integrals_from, integrals_of}
use Rattle.problem_toml.specs.Keys.{key_of}
use Rattle.problem_toml.specs.Kinds.{word_of, parameter_key}
use Rattle.problem_toml.specs.Moduli.{weights_of, modulus_of, moduli_from, coprime_to, coprime_from, bounds_fit}
use Rattle.problem_toml.specs.Reading.{moduli_of, degrees_fit, all_degrees_fit, shape_fits, problem_with, problem_in, reading_of_any_length}
use Rattle.problem_toml.specs.Tables.{integers_in, integer_at, integers_at, tables_at, all_present, all_known, all_tables, tables_among, within, count_within}
use Rattle.problem_toml.specs.Terms.{term_of, terms_from}
use Rattle.problem_toml.specs.Versions.{version_of, list_key, needed, known}
use Rattle.problem_toml.specs.Writing.{insert_member, integer_items, table_items, kind_for, parameter_of, with_parameter, power_table, term_table, integral_table, written_table}
use Rattle.problem_toml.specs.declared.header.Header.{Header}
use Rattle.problem_toml.specs.declared.name.Name.{Name}
use Rattle.problem_toml.specs.declared.name.Name.TheVariants as key
use Rattle.problem_toml.specs.declared.place.Place.{Place}
use Rattle.problem_toml.specs.declared.place.Place.TheVariants as place
use Rattle.problem_toml.specs.declared.version.Version.TheVariants.{Two}
use Rattle.problem_toml.proofs.Documents.{document_ok}

-- ---- what is written once more
integers_again : (place : Place) (name : Name) (zs : List ℤ) → integers_in place name (integer_items zs) ≡ Ok zs
integers_again place name [] = refl
integers_again place name (z ∷ zs) = rw (integers_again place name zs)

within_again : (place : Place) (name : Name) (least most n : ℕ) → least ≤ n → n ≤ most
    → within place name least most (pos n) ≡ Ok n
within_again place name least most n low high = grind (arith, common_steps)

count_again : (place : Place) (name : Name) (least most n : ℕ) → least ≤ n → n ≤ most
    → count_within place name least most n ≡ Ok tt
count_again place name least most n low high = rw (le-leb least n low, le-leb n most high)

all_are_tables : (docs : List Members) → all_tables (table_items docs) ≡ true
all_are_tables [] = refl
all_are_tables (doc ∷ docs) = all_are_tables docs

tables_again : (docs : List Members) → tables_among (table_items docs) ≡ docs
tables_again [] = refl
tables_again (doc ∷ docs) = ap (λ l. doc ∷ l) (tables_again docs)

-- ---- classes, terms and integrals
power_with : (marks i j q : ℕ) (c : Class) → IsClassFor marks c → 1 ≤ q → q ≤ 64
    → power_of Two marks i j (power_table (record { class = c; power = q })) ≡ Ok (record { class = c; power = q })
unfolding power_of kind_at integer_at power_table
power_with marks i j q (class.Mark m) is low high =
    rw (within_again (place.Class i j) key.Mark 1 marks m is.mark.0 is.mark.1, within_again (place.Class i j) key.Power 1 64 q low high)
power_with marks i j q (class.Hypersurface b) is low high =
    rw (within_again (place.Class i j) key.B 1 64 b is.parameter.0 is.parameter.1, within_again (place.Class i j) key.Power 1 64 q low high)
power_with marks i j q (class.Incidence n) is low high =
    rw (within_again (place.Class i j) key.Q 2 12 n is.parameter.0 is.parameter.1, within_again (place.Class i j) key.Power 1 64 q low high)
power_with marks i j q (class.R1 k) is low high =
    rw (within_again (place.Class i j) key.K 1 64 k is.parameter.0 is.parameter.1, within_again (place.Class i j) key.Power 1 64 q low high)
power_with marks i j q class.Contact is low high = rw (within_again (place.Class i j) key.Power 1 64 q low high)
power_with marks i j q (class.Psi m) is low high =
    rw (within_again (place.Class i j) key.Mark 1 marks m is.mark.0 is.mark.1, within_again (place.Class i j) key.Power 1 64 q low high)

power_again : (marks i j : ℕ) (p : Power) → IsPower marks p → power_of Two marks i j (power_table p) ≡ Ok p
power_again marks i j p is = power_with marks i j p.power p.class is.class is.least is.most

powers_again : (marks i j : ℕ) (ps : List Power) → All (IsPower marks) ps
    → powers_from Two marks i j (map power_table ps) ≡ Ok ps
powers_again marks i j [] are = refl
powers_again marks i j (p ∷ ps) are =
    rw (power_again marks i j p (All-head (IsPower marks) p ps are), powers_again marks i (j + 1) ps (All-tail (IsPower marks) p ps are))

term_again : (marks i : ℕ) (t : Term) → IsTerm marks t → term_of Two marks i (term_table t) ≡ Ok t
unfolding term_of tables_at term_table
term_again marks i t is =
    let few : length (map power_table t.classes) ≤ 16 =
    subst (λ n. n ≤ 16) (sym (length-map t.classes power_table)) is.count in
    rw (
      all_are_tables (map power_table t.classes),
      tables_again (map power_table t.classes),
      le-leb (unsigned_abs t.coefficient) 1000000000 is.coefficient,
      count_again (place.Term i) key.Classes 0 16 (length (map power_table t.classes)) (omega arith) few,
      powers_again marks i 0 t.classes is.classes,
    )

terms_again : (marks i : ℕ) (ts : List Term) → All (IsTerm marks) ts
    → terms_from Two marks i (map term_table ts) ≡ Ok ts
terms_again marks i [] are = refl
terms_again marks i (t ∷ ts) are =
    rw (term_again marks i t (All-head (IsTerm marks) t ts are), terms_again marks (i + 1) ts (All-tail (IsTerm marks) t ts are))

integral_again : (marks i before : ℕ) (ts : List Term) → All (IsTerm marks) ts → 1 ≤ length ts → before + length ts ≤ 32
    → integral_of marks i before (integral_table ts) ≡ Ok ts
unfolding integral_of tables_at integral_table
integral_again marks i before ts are some few =
    let long = length-map ts term_table in
    rw (
      all_are_tables (map term_table ts),
      tables_again (map term_table ts),
      count_again (place.Integral i) key.Term 1 (32 - before) (length (map term_table ts)) (omega arith) (omega arith),
      terms_again marks before ts are,
    )

integrals_again : (marks i before : ℕ) (its : List (List Term)) → All (All (IsTerm marks)) its
    → All (λ ts. 1 ≤ length ts) its → before + sum_by length its ≤ 32
    → integrals_from marks i before (map integral_table its) ≡ Ok its
integrals_again marks i before [] are some few = refl
integrals_again marks i before (ts ∷ its) are some few =
    let sum = sum_by-cons length ts its in
    rw (
      integral_again marks i before ts (All-head (All (IsTerm marks)) ts its are) (All-head (λ ts. 1 ≤ length ts) ts its some) (omega arith),
      integrals_again marks (i + 1) (before + length ts) its (All-tail (All (IsTerm marks)) ts its are) (All-tail (λ ts. 1 ≤ length ts) ts its some) (omega arith),
    )

-- ---- weights, moduli and bounds
not_negative : (m : ℕ) → int_lt (pos m) (pos 0) ≡ false
not_negative m = grind (arith, common_steps)

modulus_again : (i m : ℕ) → IsModulus m → modulus_of i (pos m) ≡ Ok m
unfolding modulus_of
modulus_again i m is =
    let odd = is.odd in
    let least = is.at_least_3 in
    let limited = is.limited in
    let not_one : nat_eq m 1 ≡ false = grind (arith, nat_tests) in
    rw (not_negative m, odd, not_one, lt-ltb m (2 ^ 62) limited)

moduli_again : (i : ℕ) (ms : List ℕ) → All IsModulus ms → moduli_from i (map pos ms) ≡ Ok ms
moduli_again i [] are = refl
moduli_again i (m ∷ ms) are =
    rw (modulus_again i m (All-head IsModulus m ms are), moduli_again (i + 1) ms (All-tail IsModulus m ms are))

coprime_to_again : (i m j : ℕ) (ns : List ℕ) → ((k : ℕ) → k < length ns → gcd m (slice_index ns k) ≡ 1)
    → coprime_to i m j ns ≡ Ok tt
coprime_to_again i m j [] h = refl
coprime_to_again i m j (n ∷ ns) h =
    rw (h 0 (omega arith), coprime_to_again i m (j + 1) ns (λ k l. h (suc k) (omega arith)))

coprime_again : (i : ℕ) (ms : List ℕ) → ArePairwiseCoprime ms → coprime_from i ms ≡ Ok tt
coprime_again i [] h = refl
coprime_again i (m ∷ ms) h =
    rw (coprime_to_again i m (i + 1) ms (λ k l. h 0 (suc k) (omega arith) (omega arith)), coprime_again (i + 1) ms (λ j k l n. h (suc j) (suc k) (omega arith) (omega arith)))

bounds_again : (ms : List ℕ) (top bottom : ℕ) → product_of ms < 2 ^ 126 → 2 * top * bottom < product_of ms
    → bounds_fit ms top bottom ≡ Ok tt
unfolding bounds_fit
bounds_again ms top bottom product below =
    rw (lt-ltb (product_of ms) (2 ^ 126) product, lt-ltb (2 * top * bottom) (product_of ms) below)

pub none_beyond : (ws : List ℤ) → All IsWeight ws → list_any is_beyond_limit ws ≡ false
none_beyond [] are = refl
none_beyond (w ∷ ws) are =
    let is : unsigned_abs w ≤ 1000000000 = All-head IsWeight w ws are in
    let own : is_beyond_limit w ≡ false = grind (arith, nat_tests) in
    rw (own, none_beyond ws (All-tail IsWeight w ws are))

-- ---- degrees
degrees_again : (s : TreeShape) (i : ℕ) (ts : List Term) → All (IsTermOf s) ts → degrees_fit s i ts ≡ Ok tt
degrees_again s i [] are = refl
degrees_again s i (t ∷ ts) are =
    let is = All-head (IsTermOf s) t ts are in
    rw (eq-eqb (powers_degree s.degree t.classes) (dimension_of s) is.dimension, degrees_again s (i + 1) ts (All-tail (IsTermOf s) t ts are))

all_degrees_again : (s : TreeShape) (i : ℕ) (its : List (List Term)) → All (IsIntegralOf s) its
    → all_degrees_fit s i its ≡ Ok tt
all_degrees_again s i [] are = refl
all_degrees_again s i (ts ∷ its) are =
    let is = All-head (IsIntegralOf s) ts its are in
    rw (degrees_again s i ts is.each, all_degrees_again s (i + length ts) its (All-tail (IsIntegralOf s) ts its are))

-- ---- the top
abbrev written_as : ProblemView → WrittenView
written_as p = record {
  rank = pos p.shape.rank;
  degree = pos p.shape.degree;
  marks = pos p.shape.marks;
  weights = p.weights;
  moduli = map pos p.moduli;
  numerator_bound = pos p.top_bound;
  denominator_bound = pos p.bottom_bound;
}

abbrev header_as : ProblemView → Header
header_as p = record { rank = p.shape.rank; degree = p.shape.degree; marks = p.shape.marks; top_bound = p.top_bound; bottom_bound = p.bottom_bound }

version_again : (p : ProblemView) → version_of (written_table p) ≡ Ok Two
unfolding version_of integer_at written_table
version_again p = refl

present_again : (p : ProblemView) → all_present place.Top (needed Two) (written_table p) ≡ Ok tt
unfolding written_table
present_again p = refl

known_again : (p : ProblemView) → all_known place.Top (known Two) (written_table p) ≡ Ok tt
unfolding written_table
known_again p = refl

written_again : (p : ProblemView) → written_of (written_table p) ≡ Ok (written_as p)
unfolding written_of marks_in integer_at integers_at written_table
written_again p =
    rw (integers_again place.Top key.Weights p.weights, integers_again place.Top key.Moduli (map pos p.moduli))

integral_tables_again : (p : ProblemView)
    → tables_at place.Top (list_key Two) (written_table p) ≡ Ok (map integral_table p.integrals)
unfolding tables_at written_table
integral_tables_again p =
    rw (all_are_tables (map integral_table p.integrals), tables_again (map integral_table p.integrals))

record Limits (s : TreeShape) : Type 0 where
  least_rank : 1 ≤ s.rank
  most_rank : s.rank ≤ 12
  least_degree : 1 ≤ s.degree
  most_degree : s.degree ≤ 10
  most_marks : s.marks ≤ 12

limits : (s : TreeShape) → within_limits s ≡ true → Limits s
limits s h = record {
  least_rank = grind (arith, nat_tests);
  most_rank = grind (arith, nat_tests);
  least_degree = grind (arith, nat_tests);
  most_degree = grind (arith, nat_tests);
  most_marks = grind (arith, nat_tests);
}

lists_again : (p : ProblemView) → KeepsRules p → lists_fit p.weights (map pos p.moduli) ≡ Ok tt
unfolding lists_fit
lists_again p is =
    let long = length-map p.moduli pos in
    let least = is.moduli.least in
    let most = is.moduli.most in
    rw (none_beyond p.weights is.weights.within, count_again place.Top key.Moduli 1 8 (length (map pos p.moduli)) (omega arith) (omega arith))

both_bounds_again : (p : ProblemView) → KeepsRules p → bounds_of (written_as p) ≡ Ok (p.top_bound, p.bottom_bound)
unfolding bounds_of
both_bounds_again p is =
    let most_top = is.bounds.most_top in
    let most_bottom = is.bounds.most_bottom in
    rw (within_again place.Top key.NumeratorBound 1 (2 ^ 62 - 1) p.top_bound is.bounds.least_top (omega arith), within_again place.Top key.DenominatorBound 1 (2 ^ 62 - 1) p.bottom_bound is.bounds.least_bottom (omega arith))

header_again : (p : ProblemView) (n : ℕ) → KeepsRules p → 1 ≤ n → n ≤ 8
    → header_of Two (written_as p) n ≡ Ok (header_as p)
unfolding header_of
header_again p n is some few =
    let l = limits p.shape is.shape in
    rw (
      within_again place.Top key.Rank 1 12 p.shape.rank l.least_rank l.most_rank,
      within_again place.Top key.Degree 1 10 p.shape.degree l.least_degree l.most_degree,
      within_again place.Top key.Marks 0 12 p.shape.marks (omega arith) l.most_marks,
      lists_again p is,
      both_bounds_again p is,
      count_again place.Top key.Integral 1 8 n some few,
    )

weights_again : (p : ProblemView) → KeepsRules p → weights_of p.shape.rank p.weights ≡ Ok p.weights
unfolding weights_of
weights_again p is = rw (eq-eqb (length p.weights) (p.shape.rank + 1) is.one_weight_each)

all_moduli_again : (p : ProblemView) → KeepsRules p → moduli_of (header_as p) (written_as p) ≡ Ok p.moduli
unfolding moduli_of
all_moduli_again p is =
    rw (moduli_again 0 p.moduli is.moduli.each, coprime_again 0 p.moduli is.moduli.coprime, bounds_again p.moduli p.top_bound p.bottom_bound is.moduli.product is.bounds.below)

all_integrals_again : (p : ProblemView) → KeepsRules p
    → integrals_of Two p.shape.marks (map integral_table p.integrals) ≡ Ok p.integrals
all_integrals_again p is =
    integrals_again p.shape.marks 0 0 p.integrals
    (λ i d inside j e within. ((is.integrals i d inside).each j e within).limits)
    (λ i d inside. (is.integrals i d inside).some) (let f = is.few_terms in omega arith)

shape_again : (s : TreeShape) → tree_count s ≤ 2 ^ 40 → shape_fits s ≡ Ok s
unfolding shape_fits
shape_again s few = rw (le-leb (tree_count s) (2 ^ 40) few)

with_again : (p : ProblemView) → KeepsRules p
    → problem_with Two (header_as p) (written_as p) (map integral_table p.integrals) ≡ Ok p
unfolding problem_with
with_again p is =
    rw (weights_again p is, all_moduli_again p is, all_integrals_again p is, all_degrees_again p.shape 0 p.integrals is.integrals, shape_again p.shape is.few_trees)

problem_again : (p : ProblemView) → KeepsRules p → problem_in (written_table p) ≡ Ok p
unfolding problem_in
problem_again p is =
    let long = length-map p.integrals integral_table in
    let some = is.some_integrals in
    let few = is.few_integrals in
    rw (
      version_again p,
      present_again p,
      known_again p,
      written_again p,
      integral_tables_again p,
      header_again p (length (map integral_table p.integrals)) is (omega arith) (omega arith),
      with_again p is,
    )

pub printed_reads : (p : ProblemView) (text : List ℕ) → KeepsRules p → IsUtf8 text
    → parse_document text ≡ Some (written_table p) → reading_of_any_length text ≡ Ok p
unfolding reading_of_any_length
printed_reads p text is utf8 parsed = rw (document_ok text (written_table p) utf8 parsed) (problem_again p is)

-- ---- the table is not nested deeply
record IsShallow (n : ℕ) (ms : Members) : Type 0 where
  most : members_depth ms ≤ n

max_within : (a b n : ℕ) → a ≤ n → b ≤ n → max a b ≤ n
max_within a b n h k = omega arith

no_depth : (n : ℕ) → IsShallow n no_members
no_depth n = record { most = omega arith }

shallow_insert : {ms : Members} (n : ℕ) (k : List ℕ) (d : Data) → depth d ≤ n → IsShallow n ms
    → IsShallow n (insert_member k d ms)
shallow_insert {ms} n k d h s = record { most = inserted ms s.most }
  where
    chosen : (o : Ordering) (l : List ℕ) (e : Data) (ms rest : Members) → depth e ≤ n → members_depth ms ≤ n
        → members_depth rest ≤ n
        → members_depth (match_ordering o (member k d (member l e ms)) (member l d ms) (member l e rest)) ≤ n
    chosen Less l e ms rest a b c =
        max_within (depth d) (max (depth e) (members_depth ms)) n h (max_within (depth e) (members_depth ms) n a b)
    chosen Equal l e ms rest a b c = max_within (depth d) (members_depth ms) n h b
    chosen Greater l e ms rest a b c = max_within (depth e) (members_depth rest) n a c

    inserted : (ms : Members) → members_depth ms ≤ n → members_depth (insert_member k d ms) ≤ n
    inserted no_members m = max_within (depth d) 0 n h m
    inserted (member l e ms) m =
        let a : depth e ≤ n = omega arith in
        let b : members_depth ms ≤ n = omega arith in
        chosen (slice_cmp nat_cmp k l) l e ms (insert_member k d ms) a b (inserted ms b)

flat : (zs : List ℤ) → items_depth (integer_items zs) ≡ 0
flat [] = refl
flat (z ∷ zs) = rw (flat zs)

tables_depth : {X : Type 0} (f : X → Members) (n : ℕ) (xs : List X) → ((x : X) → IsShallow n (f x))
    → items_depth (table_items (map f xs)) ≤ n + 1
tables_depth f n [] h = omega arith
tables_depth f n (x ∷ xs) h =
    let own = (h x).most in
    max_within (suc (members_depth (f x))) (items_depth (table_items (map f xs))) (n + 1) (omega arith)
    (tables_depth f n xs h)

with_shallow : {ms : Members} (o : Option Name) (z : ℕ) → IsShallow 0 ms → IsShallow 0 (with_parameter o z ms)
with_shallow None z s = s
with_shallow (Some name) z s = shallow_insert 0 (key_of name) (integer (pos z)) (omega arith) s

power_shallow : (p : Power) → IsShallow 0 (power_table p)
unfolding power_table
power_shallow p =
    with_shallow (parameter_key (kind_for p.class)) (parameter_of p.class)
    (shallow_insert 0 (key_of key.Power) (integer (pos p.power)) (omega arith) (shallow_insert 0 (key_of key.Kind) (string (word_of (kind_for p.class))) (omega arith) (no_depth 0)))

term_shallow : (t : Term) → IsShallow 2 (term_table t)
unfolding term_table
term_shallow t =
    let d = tables_depth power_table 0 t.classes power_shallow in
    shallow_insert 2 (key_of key.Classes) (array (table_items (map power_table t.classes))) (omega arith)
    (shallow_insert 2 (key_of key.Coefficient) (integer t.coefficient) (omega arith) (no_depth 2))

integral_shallow : (ts : List Term) → IsShallow 4 (integral_table ts)
unfolding integral_table
integral_shallow ts =
    let d = tables_depth term_table 2 ts term_shallow in
    shallow_insert 4 (key_of key.Term) (array (table_items (map term_table ts))) (omega arith) (no_depth 4)

table_shallow : (p : ProblemView) → IsShallow 80 (written_table p)
unfolding written_table
table_shallow p =
    let d = tables_depth integral_table 4 p.integrals integral_shallow in
    let weights = flat p.weights in
    let moduli = flat (map pos p.moduli) in
    shallow_insert 80 (key_of key.Integral) (array (table_items (map integral_table p.integrals))) (omega arith)
    (shallow_insert 80 (key_of key.DenominatorBound) (integer (pos p.bottom_bound)) (omega arith)
    (shallow_insert 80 (key_of key.NumeratorBound) (integer (pos p.top_bound)) (omega arith)
    (shallow_insert 80 (key_of key.Moduli) (array (integer_items (map pos p.moduli))) (omega arith)
    (shallow_insert 80 (key_of key.Weights) (array (integer_items p.weights)) (omega arith)
    (shallow_insert 80 (key_of key.Marks) (integer (pos p.shape.marks)) (omega arith)
    (shallow_insert 80 (key_of key.Degree) (integer (pos p.shape.degree)) (omega arith)
    (shallow_insert 80 (key_of key.Rank) (integer (pos p.shape.rank)) (omega arith)
    (shallow_insert 80 (key_of key.Version) (integer (pos 2)) (omega arith) (no_depth 80)))))))))

pub table_depth : (p : ProblemView) → members_depth (written_table p) ≤ 80
table_depth p = (table_shallow p).most
