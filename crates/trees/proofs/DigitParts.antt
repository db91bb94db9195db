-- The five kinds of digits of a tree: letters, the first colour, places of colours, the rank of the degrees, and marks.
use Rattle.std.proofs.Common.{◌≡◌, ◌≢◌, ℕ, zero, suc, ◌+◌, ◌-◌, ◌<◌, ◌≤◌, true, nat_lt, List, [], ◌∷◌, ◌++◌, length, get_or, take, drop, replicate, refl, sym, ap, ◌∙◌, subst, arith, ltb-true, lt-ltb, append_assoc}
use Rattle.std.specs.List.{list_all}
use Rattle.std.proofs.lemmas.List.{take-append-drop}
use Rattle.trees.specs.Decorated.{TreeShape}
use Rattle.lists.specs.Members.{is_member, IsIn}
use Rattle.lists.specs.Digits.{AreDigits}
use Rattle.lists.specs.Binomials.{choose}
use Rattle.trees.specs.TreeNumbers.{bases}
use Rattle.lists.proofs.Members.{each_of, all_from, StandsAt, place_in, in_place}
use Rattle.trees.proofs.ColourDigits.{AreColourDigits}
use Rattle.lists.proofs.Digits.{digits_join, digits_same, digits_split, same_digits}
use Rattle.lists.proofs.Different.{in_member, member_in}

-- ---- the digits of colours
colour_digits : (n r : ℕ) (cs : List ℕ) → 0 < n → AreDigits ((r + 1) ∷ replicate (n - 1) r) cs → AreColourDigits n r cs
colour_digits n r [] some h = absurd h
colour_digits n r (c ∷ cs) some h =
    let rest = digits_same (n - 1) r cs h.1 in
    let long = rest.0 in
    let first = h.0 in
    record { long = omega arith; first = omega arith; places = λ v. place v long rest.1 }
  where
    place : (v : ℕ) → length cs ≡ n - 1 → ((x : ℕ) → IsIn x cs → x < r) → v < n → 0 ≢ v → get_or (c ∷ cs) v 0 < r
    place zero long f k ne = absurd (ne refl)
    place (suc v) long f k ne = f (get_or cs v 0) (in_place cs 0 v (omega arith))

digits_colour : (n r : ℕ) (cs : List ℕ) → 0 < n → AreColourDigits n r cs → AreDigits ((r + 1) ∷ replicate (n - 1) r) cs
digits_colour n r [] some h = absurd (let l = h.long in omega arith)
digits_colour n r (c ∷ cs) some h =
    let long = h.long in
    let first : c ≤ r = h.first in
    (omega arith, same_digits (n - 1) r cs (omega arith) (λ x i. each x (place_in cs 0 x i) long))
  where
    each : (x : ℕ) → StandsAt cs 0 x → length (c ∷ cs) ≡ n → x < r
    each x p long = let w = p.within in subst (λ z. z < r) p.is (h.places (suc p.place) (omega arith) (λ e. absurd (omega arith)))

-- ---- all digits
pub regroup : (a b : List ℕ) (x y : ℕ) (c : List ℕ) → a ++ x ∷ [] ++ b ++ y ∷ [] ++ c ≡ a ++ ((x ∷ b) ++ (y ∷ c))
regroup a b x y c = simp append_assoc

pub regroup_digits : (a b : List ℕ) (y : ℕ) (c : List ℕ) → a ++ b ++ y ∷ [] ++ c ≡ a ++ (b ++ (y ∷ c))
regroup_digits a b y c = simp append_assoc

pub record AreTreeDigits (s : TreeShape) (n : ℕ) (w cs : List ℕ) (q : ℕ) (ms : List ℕ) : Type 0 where
  pub word_long : length w + 2 ≡ n
  pub letters : (x : ℕ) → is_member x w ≡ true → x < n
  pub colours : AreColourDigits n s.rank cs
  pub rank : q < choose (s.degree - 1) (n - 2)
  pub marks_long : length ms ≡ s.marks
  pub marks_within : list_all (λ v. nat_lt v n) ms ≡ true

pub record TreeDigits (s : TreeShape) (n : ℕ) (ds : List ℕ) : Type 0 where
  pub word : List ℕ
  pub colours : List ℕ
  pub rank : ℕ
  pub marks : List ℕ
  pub is : ds ≡ word ++ (colours ++ rank ∷ marks)
  pub digits : AreTreeDigits s n word colours rank marks

-- the rank and the marks
rank_and_marks : (s : TreeShape) (n : ℕ) (w cs ds : List ℕ) → AreDigits (choose (s.degree - 1) (n - 2) ∷ replicate s.marks n) ds
    → length w + 2 ≡ n → ((x : ℕ) → is_member x w ≡ true → x < n) → AreColourDigits n s.rank cs → TreeDigits s n (w ++ (cs ++ ds))
rank_and_marks s n w cs [] h e f g = absurd h
rank_and_marks s n w cs (q ∷ ms) h e f g =
    let marks = digits_same s.marks n ms h.1 in
    record {
      word = w;
      colours = cs;
      rank = q;
      marks = ms;
      is = refl;
      digits = record {
        word_long = e;
        letters = f;
        colours = g;
        rank = h.0;
        marks_long = marks.0;
        marks_within = all_from (λ v. nat_lt v n) ms (λ v i. lt-ltb v n (marks.1 v i));
      };
    }

pub tree_digits : (s : TreeShape) (n : ℕ) (ds : List ℕ) → 2 ≤ n → AreDigits (bases s n) ds → TreeDigits s n ds
tree_digits s n ds least h =
    let places : List ℕ = (s.rank + 1) ∷ replicate (n - 1) s.rank in
    let rest : List ℕ = choose (s.degree - 1) (n - 2) ∷ replicate s.marks n in
    let first = digits_split (replicate (n - 2) n) (places ++ rest) ds
    (subst (λ bs. AreDigits bs ds) (regroup (replicate (n - 2) n) (replicate (n - 1) s.rank) (s.rank + 1) (choose (s.degree - 1) (n - 2)) (replicate s.marks n)) h) in
    let w = take (length (replicate (n - 2) n)) ds in
    let others = drop (length (replicate (n - 2) n)) ds in
    let second = digits_split places rest others first.1 in
    let cs = take (length places) others in
    let letters = digits_same (n - 2) n w first.0 in
    let long : length w + 2 ≡ n = (let e = letters.0 in omega arith) in
    subst (TreeDigits s n) (ap (λ z. w ++ z) (take-append-drop (length places) others) ∙ take-append-drop (length (replicate (n - 2) n)) ds)
    (rank_and_marks s n w cs (drop (length places) others) second.1 long (λ x m. letters.1 x (member_in x w m)) (colour_digits n s.rank cs (omega arith) second.0))

pub digits_of_tree : (s : TreeShape) (n : ℕ) (w cs : List ℕ) (q : ℕ) (ms : List ℕ) → 2 ≤ n → AreTreeDigits s n w cs q ms → AreDigits (bases s n) (w ++ (cs ++ q ∷ ms))
digits_of_tree s n w cs q ms least h =
    let places : List ℕ = (s.rank + 1) ∷ replicate (n - 1) s.rank in
    let rest : List ℕ = choose (s.degree - 1) (n - 2) ∷ replicate s.marks n in
    subst (λ bs. AreDigits bs (w ++ (cs ++ q ∷ ms)))
    (sym (regroup (replicate (n - 2) n) (replicate (n - 1) s.rank) (s.rank + 1) (choose (s.degree - 1) (n - 2)) (replicate s.marks n)))
    (digits_join (replicate (n - 2) n) (places ++ rest) w (cs ++ q ∷ ms)
    (same_digits (n - 2) n w (let e = h.word_long in omega arith) (λ x i. h.letters x (in_member x w i)))
    (digits_join places rest cs (q ∷ ms) (digits_colour n s.rank cs (omega arith) h.colours)
    (h.rank, same_digits s.marks n ms h.marks_long (λ v i. ltb-true v n (each_of (λ v. nat_lt v n) ms h.marks_within i)))))
