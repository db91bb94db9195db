-- What is asked of a tree of a shape, in the order in which it is tested.
use Rattle.std.proofs.Common.{◌≡◌, ℕ, ◌+◌, ◌-◌, ◌<◌, ◌≤◌, Bool, true, false, ◌&&◌, nat_lt, nat_le, List, [], ◌∷◌, ◌++◌, length, take, sum, refl, sym, ap, ap₂, ◌∙◌, subst, arith, eqb-true, eq-eqb, leb-true, le-leb}
use Rattle.std.specs.List.{list_all}
use Rattle.std.proofs.lemmas.List.{length-take-le}
use Rattle.std.proofs.Math.Seq.{take-append_seam}
use Rattle.std.proofs.lemmas.Bool.Decides.{nat_tests}
use Rattle.trees.specs.Edges.{is_tree}
use Rattle.trees.specs.Decorated.{TreeShape, ends_differ}
use Rattle.trees.specs.Words.{encoded}
use Rattle.trees.specs.Walks.{walk_in, digits_of}
use Rattle.trees.specs.DegreeLists.{AreDegrees, rank_of}
use Rattle.lists.specs.Digits.{AreDigits, joined}
use Rattle.trees.specs.TreeNumbers.{bases, trees_from, tree_count, tree_of, number_of, digits_by}
use Rattle.std.proofs.lemmas.Bool.{and_parts, and_from}
use Rattle.trees.proofs.AllTrees.{IsDecorated, parts, decorated_from}
use Rattle.trees.proofs.TreeDigits.{digits_with, digits_by_digits}
use Rattle.trees.proofs.TreeNumbers.{number_of_below, tree_of-number_of}
use Rattle.decorated_tree.specs.declared.tree.Tree.{Tree}
use Rattle.decorated_tree.specs.Steps.{AreWithin}
use Rattle.decorated_tree.specs.Trees.{tree_view, is_padded, is_tree_of, fits_shape}
use Rattle.trees.proofs.ColourDigits.{length-digits_of}

-- the arrays of a tree
pub record Arrays (t : Tree) : Type 0 where
  pub colours : length t.colours ≡ 11
  pub degrees : length t.degrees ≡ 10
  pub marks : length t.marks ≡ 12

pub record TreeOf (s : TreeShape) (t : Tree) : Type 0 where
  pub fits : fits_shape s t ≡ true
  pub tree : is_tree t.n t.edges ≡ true
  pub differ : list_all (ends_differ (take t.n t.colours)) t.edges ≡ true

pub decorated : (s : TreeShape) (t : Tree) → is_tree_of s t ≡ true → IsDecorated s (tree_view t)
decorated s t h = parts s (tree_view t) (and_parts _ _ h).1

pub tree_of_shape : (s : TreeShape) (t : Tree) → is_tree_of s t ≡ true → TreeOf s t
tree_of_shape s t h =
    let d = decorated s t h in
    let first = and_parts _ _ (and_parts _ _ h).0 in
    record {
      fits = and_from _ _ (and_from _ _ (and_from _ _ (and_from _ _ (and_from _ _ (and_from _ _ (and_from _ _ (le-leb 2 t.n d.least) (le-leb t.n (s.degree + 1) d.most)) first.0) first.1) d.colours_within) d.degrees_positive)
          (eq-eqb _ _ d.degrees_sum)) d.marks_within;
      tree = d.tree;
      differ = d.differ;
    }

-- what is known after the first tests
pub record FitFacts (s : TreeShape) (t : Tree) : Type 0 where
  pub least : 2 ≤ t.n
  pub most : t.n ≤ s.degree + 1
  pub marks : t.m ≡ s.marks
  pub padding : is_padded t ≡ true
  pub colours_within : list_all (λ c. nat_le c s.rank) (take t.n t.colours) ≡ true
  pub positive : list_all (λ a. nat_le 1 a) (take (t.n - 1) t.degrees) ≡ true
  pub total : sum (take (t.n - 1) t.degrees) ≡ s.degree
  pub marks_within : list_all (λ v. nat_lt v t.n) (take t.m t.marks) ≡ true

pub fit_facts : (s : TreeShape) (t : Tree) → fits_shape s t ≡ true → FitFacts s t
fit_facts s t h =
    let a = and_parts _ _ h in
    let b = and_parts _ _ a.0 in
    let c = and_parts _ _ b.0 in
    let d = and_parts _ _ c.0 in
    let e = and_parts _ _ d.0 in
    let f = and_parts _ _ e.0 in
    let g = and_parts _ _ f.0 in
    record {
      least = leb-true 2 t.n g.0;
      most = leb-true t.n (s.degree + 1) g.1;
      marks = eqb-true t.m s.marks f.1;
      padding = e.1;
      colours_within = d.1;
      positive = c.1;
      total = eqb-true _ s.degree b.1;
      marks_within = a.1;
    }

pub shape_of_tree : (s : TreeShape) (t : Tree) → s.degree ≤ 10 → s.marks ≤ 12 → Arrays t → TreeOf s t
    → is_tree_of s t ≡ true
shape_of_tree s t small few l h =
    let f = fit_facts s t h.fits in
    let least = f.least in
    let most = f.most in
    let marks = f.marks in
    let lc = l.colours in
    let ld = l.degrees in
    let lm = l.marks in
    let counted = and_parts _ _ (and_parts _ _ h.tree).0 in
    let count : length t.edges + 1 ≡ t.n = eqb-true (length t.edges + 1) t.n counted.1 in
    let degrees_long = length-take-le (t.n - 1) t.degrees (omega arith) in
    and_from _ _ (and_from _ _ (eq-eqb t.m s.marks marks) f.padding)
    (decorated_from s (tree_view t) (record {
      least = least;
      most = most;
      tree = h.tree;
      colours = length-take-le t.n t.colours (omega arith);
      colours_within = f.colours_within;
      differ = h.differ;
      degrees = (omega arith);
      degrees_positive = f.positive;
      degrees_sum = f.total;
      marks = length-take-le t.m t.marks (omega arith) ∙ marks;
      marks_within = f.marks_within;
    }))

pub not_true : (b : Bool) → (b ≡ true → ⊥) → b ≡ false
not_true true h = absurd (h refl)
not_true false h = refl

pub edges_within : (n : ℕ) (es : List (ℕ × ℕ)) → is_tree n es ≡ true → AreWithin n es
edges_within n es t = all es (and_parts _ _ (and_parts _ _ (and_parts _ _ t).0).0).1
  where
    pair : (u v : ℕ) → (nat_lt u v && nat_lt v n) ≡ true → (u < n) × (v < n)
    pair u v h = (grind (arith, nat_tests), grind (arith, nat_tests))

    all : (fs : List (ℕ × ℕ)) → list_all (λ e. nat_lt e.0 e.1 && nat_lt e.1 n) fs ≡ true → AreWithin n fs
    all [] h = tt
    all (e ∷ fs) h = let b = and_parts _ _ h in let p = pair e.0 e.1 b.0 in (p.0, p.1, all fs b.1)

-- ---- the digits of a tree
pub record DigitsOf (s : TreeShape) (t : Tree) : Type 0 where
  pub least : 2 ≤ t.n
  pub most : t.n ≤ s.degree + 1
  pub colours_long : length (take t.n t.colours) ≡ t.n
  pub degrees : AreDegrees (length (take (t.n - 1) t.degrees)) s.degree (take (t.n - 1) t.degrees)
  pub word_long : length (encoded t.n t.edges) + 2 ≡ t.n
  pub marks_long : length (take t.m t.marks) ≡ s.marks
  pub tree : is_tree t.n t.edges ≡ true

pub digits_of_shape : (s : TreeShape) (t : Tree) → s.degree < 11 → is_tree_of s t ≡ true → DigitsOf s t
digits_of_shape s t small h =
    let d = decorated s t h in
    let w = digits_with s (tree_view t) d small in
    record {
      least = d.least;
      most = d.most;
      colours_long = d.colours;
      degrees = record { long = refl; positive = d.degrees_positive; total = d.degrees_sum };
      word_long = w.word_long;
      marks_long = d.marks;
      tree = d.tree;
    }

-- ---- the number
pub record NumberOf (s : TreeShape) (t : Tree) (k : ℕ) : Type 0 where
  pub value : k ≡ number_of s (tree_view t)
  pub below : k < tree_count s
  pub tree : tree_of s k ≡ tree_view t

pub digits_within : (s : TreeShape) (t : Tree) → s.degree < 11 → is_tree_of s t ≡ true
    → AreDigits (bases s t.n) (digits_by s (tree_view t))
digits_within s t small h = digits_by_digits s (tree_view t) small (and_parts _ _ h).1

pub number_is : (s : TreeShape) (t : Tree) (before number : ℕ) (radix digits : List ℕ) → s.degree < 11
    → is_tree_of s t ≡ true → before ≡ trees_from s 2 (t.n - 2)
    → radix ≡ bases s t.n → digits ≡ digits_by s (tree_view t) → number ≡ joined radix digits
    → NumberOf s t (before + number)
unfolding number_of
number_is s t before number radix digits small h b r d n =
    let good = (and_parts _ _ h).1 in
    let value : before + number ≡ number_of s (tree_view t) = ap₂ (λ (x y : ℕ). x + y) b (n ∙ ap₂ joined r d) in
    record {
      value = value;
      below = subst (λ z. z < tree_count s) (sym value) (number_of_below s (tree_view t) small good);
      tree = ap (tree_of s) value ∙ tree_of-number_of s (tree_view t) small good;
    }

pub all_digits : (s : TreeShape) (t : Tree) (word one two three four used places rest own marks degrees : List ℕ) (walk edges : List (ℕ × ℕ)) (rank d : ℕ)
    → s.degree < 11 → is_tree_of s t ≡ true → word ≡ encoded t.n t.edges → edges ≡ t.edges
    → walk ≡ walk_in t.n edges (0 ∷ []) → used ≡ take t.n t.colours
    → places ≡ digits_of walk used (take (length used) t.colours) → own ≡ take (length used) (places ++ rest)
    → one ≡ [] ++ word → two ≡ one ++ own → d ≡ s.degree → degrees ≡ take (t.n - 1) t.degrees → rank ≡ rank_of degrees d
    → three ≡ two ++ rank ∷ [] → marks ≡ take t.m t.marks → four ≡ three ++ marks
    → four ≡ digits_by s (tree_view t)
all_digits s t word one two three four used places rest own marks degrees walk edges rank d small h is_word is_edges is_walk is_used is_places is_own is_one is_two is_d is_degrees is_rank is_three is_marks is_four =
    let k = digits_of_shape s t small h in
    let colours = take t.n t.colours in
    let count : length used ≡ t.n = ap length is_used ∙ k.colours_long in
    let along : walk ≡ walk_in t.n t.edges (0 ∷ []) = is_walk ∙ ap (λ e. walk_in t.n e (0 ∷ [])) is_edges in
    let digits : places ≡ digits_of (walk_in t.n t.edges (0 ∷ [])) colours colours =
    is_places ∙ ap (λ w. digits_of w used (take (length used) t.colours)) along
    ∙ ap (λ u. digits_of (walk_in t.n t.edges (0 ∷ [])) u (take (length used) t.colours)) is_used
    ∙ ap (λ z. digits_of (walk_in t.n t.edges (0 ∷ [])) colours (take z t.colours)) count in
    let long : length places ≡ length used =
    ap length digits ∙ length-digits_of (walk_in t.n t.edges (0 ∷ [])) colours colours ∙ ap length (sym is_used) in
    let kept : own ≡ places = is_own ∙ ap (λ z. take z (places ++ rest)) (sym long) ∙ take-append_seam places rest in
    let ranked : rank ≡ rank_of (take (t.n - 1) t.degrees) s.degree =
    is_rank ∙ ap (λ z. rank_of z d) is_degrees ∙ ap (rank_of (take (t.n - 1) t.degrees)) is_d in
    is_four ∙ ap₂ (λ (x y : List ℕ). x ++ y)
    (is_three ∙ ap₂ (λ (x : List ℕ) (y : ℕ). x ++ y ∷ []) (is_two ∙ ap₂ (λ (x y : List ℕ). x ++ y) (is_one ∙ is_word) (kept ∙ digits)) ranked) is_marks
