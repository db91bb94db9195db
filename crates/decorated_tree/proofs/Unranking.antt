-- The tree of a number: how many vertices it has, its number among the trees with as many, and what its digits give.
-- The counts of trees are subtracted one after the other until the rest is below one of them; the digits of the rest
-- are cut into the letters, the colours, the rank of the degrees and the marks.
use Rattle.std.proofs.Common.{◌≡◌, ℕ, zero, suc, ◌+◌, ◌-◌, ◌*◌, ◌<◌, ◌≤◌, Bool, true, ◌&&◌, ◌==◌, nat_lt, List, [], ◌∷◌, ◌++◌, length, get_or, take, drop, replicate, All, ◌≢◌, inl, inr, ◌⊎◌, refl, sym, ap, ◌∙◌, subst, arith, ltb-true}
use Rattle.std.specs.List.{list_all}
use Rattle.std.proofs.lemmas.List.{get_or-append-add, length-append, length-drop, drop-replicate}
use Rattle.std.proofs.lemmas.List.Elements.{All-from_get_or, All-same}
use Rattle.std.proofs.lemmas.Bool.{cases_eq}
use Rattle.std.proofs.Math.Seq.{take-append_seam, drop-append_seam, drop-append-add, get_or-append_seam}
use Rattle.lists.specs.Padding.{padded}
use Rattle.trees.specs.Decorated.{TreeShape, DecoratedTree}
use Rattle.lists.specs.Members.{is_member}
use Rattle.trees.specs.Words.{decoded}
use Rattle.lists.specs.Digits.{AreDigits, split}
use Rattle.lists.specs.Binomials.{choose}
use Rattle.trees.specs.DegreeLists.{degree_lists}
use Rattle.trees.specs.Walks.{walk_in, coloured}
use Rattle.trees.specs.TreeNumbers.{bases, trees_with, trees_from, tree_count, tree_by, tree_from, tree_of}
use Rattle.lists.proofs.Members.{each_of, in_place}
use Rattle.trees.proofs.DegreeRanks.{ranked}
use Rattle.trees.proofs.DigitParts.{tree_digits}
use Rattle.lists.proofs.Different.{in_member}
use Rattle.trees.proofs.ColourDigits.{AreColourDigits, length-coloured}
use Rattle.decorated_tree.specs.Shapes.{counts_from, counts_of}
use Rattle.decorated_tree.proofs.Counts.{length-counts, total_push, total_within}
use Rattle.trees.proofs.TreeNumbers.{first_kind, later_kind}

-- ---- the number of vertices
count_at : (s : TreeShape) (n k i : ℕ) → i < k → get_or (counts_from s n k) i 0 ≡ trees_with s (n + i)
count_at s n zero i h = absurd (omega arith)
count_at s n (suc k) zero h = let e : n ≡ n + 0 = omega arith in ap (trees_with s) e
count_at s n (suc k) (suc i) h =
    let e : n + 1 + i ≡ n + suc i = omega arith in count_at s (n + 1) k i (omega arith) ∙ ap (trees_with s) e

pub record IsPlace (s : TreeShape) (k i n rest : ℕ) : Type 0 where
  pub vertices : n ≡ 2 + i
  pub within : i ≤ s.degree
  pub below : rest < trees_from s n (s.degree - i)
  pub tree : tree_of s k ≡ tree_from s n (s.degree - i) rest

pub place_start : (s : TreeShape) (k : ℕ) → k < tree_count s → IsPlace s k 0 2 k
unfolding tree_count tree_of
place_start s k h =
    let e : s.degree ≡ s.degree - 0 = omega arith in
    record { vertices = refl; within = omega arith; below = subst (λ z. k < trees_from s 2 z) e h; tree = ap (λ z. tree_from s 2 z k) e }

pub length-counts_of : (s : TreeShape) → length (counts_of s) ≡ s.degree
unfolding counts_of
length-counts_of s = length-counts s 2 s.degree

count_here : (s : TreeShape) (i : ℕ) → i < s.degree → get_or (counts_of s) i 0 ≡ trees_with s (2 + i)
unfolding counts_of
count_here s i h = count_at s 2 s.degree i h

pub record Found (s : TreeShape) (k n rest : ℕ) : Type 0 where
  pub least : 2 ≤ n
  pub most : n ≤ s.degree + 1
  pub below : rest < trees_with s n
  pub tree : tree_of s k ≡ tree_by s n (split (bases s n) rest)

pub found : (s : TreeShape) (counts : List ℕ) (k i n rest : ℕ) → counts ≡ counts_of s → i < length counts
    → rest < get_or counts i 0 → IsPlace s k i n rest → Found s k n rest
found s counts k i n rest e h l p =
    let long = ap length e ∙ length-counts_of s in
    let v = p.vertices in
    let here : get_or counts i 0 ≡ trees_with s n =
    ap (λ z. get_or z i 0) e ∙ count_here s i (omega arith) ∙ ap (trees_with s) (sym v) in
    let left : s.degree - i ≡ suc (s.degree - i - 1) = omega arith in
    let less : rest < trees_with s n = subst (λ z. rest < z) here l in
    record { least = omega arith; most = omega arith; below = less; tree = p.tree ∙ ap (λ z. tree_from s n z rest) left ∙ first_kind s n (s.degree - i - 1) rest less }

pub not_found : (s : TreeShape) (counts : List ℕ) (k i n rest : ℕ) → counts ≡ counts_of s → i < length counts
    → get_or counts i 0 ≤ rest → IsPlace s k i n rest
    → IsPlace s k (i + 1) (n + 1) (rest - get_or counts i 0)
not_found s counts k i n rest e h l p =
    let long = ap length e ∙ length-counts_of s in
    let v = p.vertices in
    let here : get_or counts i 0 ≡ trees_with s n =
    ap (λ z. get_or z i 0) e ∙ count_here s i (omega arith) ∙ ap (trees_with s) (sym v) in
    let left : s.degree - i ≡ suc (s.degree - (i + 1)) = omega arith in
    let more : trees_with s n ≤ rest = subst (λ z. z ≤ rest) here l in
    let below : rest < trees_with s n + trees_from s (n + 1) (s.degree - (i + 1)) =
    subst (λ z. rest < trees_from s n z) left p.below in
    record {
      vertices = omega arith;
      within = omega arith;
      below = subst (λ z. rest - z < trees_from s (n + 1) (s.degree - (i + 1))) (sym here)
          (less (trees_with s n) _ more below);
      tree = p.tree ∙ ap (λ z. tree_from s n z rest) left ∙ later_kind s n (s.degree - (i + 1)) rest more
          ∙ ap (λ z. tree_from s (n + 1) (s.degree - (i + 1)) (rest - z)) (sym here);
    }
  where
    less : (a b : ℕ) → a ≤ rest → rest < a + b → rest - a < b
    less a b h k = omega arith

pub place_short : (s : TreeShape) (k i n rest : ℕ) → IsPlace s k i n rest → n ≤ s.degree + 2
place_short s k i n rest p = let v = p.vertices in let w = p.within in omega arith

pub never_through : (s : TreeShape) (counts : List ℕ) (k i n rest : ℕ) → counts ≡ counts_of s → length counts ≤ i
    → IsPlace s k i n rest → ⊥
never_through s counts k i n rest e h p =
    let long = ap length e ∙ length-counts_of s in
    let none : s.degree - i ≡ 0 = omega arith in
    let less : rest < 0 = subst (λ z. rest < trees_from s n z) none p.below in
    omega arith

-- ---- the parts of the digits of a tree
all_below : (b : ℕ) (xs : List ℕ) → ((x : ℕ) → is_member x xs ≡ true → x < b) → All (λ x. x < b) xs
all_below b xs h =
    All-from_get_or (λ x. x < b) xs 0 (λ i k. h (get_or xs i 0) (in_member (get_or xs i 0) xs (in_place xs 0 i k)))

all_tested : (b : ℕ) (xs : List ℕ) → list_all (λ v. nat_lt v b) xs ≡ true → All (λ x. x < b) xs
all_tested b xs h =
    All-from_get_or (λ x. x < b) xs 0
    (λ i k. ltb-true (get_or xs i 0) b (each_of (λ v. nat_lt v b) xs h (in_place xs 0 i k)))

all_places : (n r : ℕ) (cs : List ℕ) → AreColourDigits n r cs → All (λ x. x < r + 1) cs
all_places n r cs h = All-from_get_or (λ x. x < r + 1) cs 0 (λ i k. at i k (cases_eq 0 i))
  where
    at : (i : ℕ) → i < length cs → (0 ≡ i) ⊎ (0 ≢ i) → get_or cs i 0 < r + 1
    at i k (inl e) = let f : get_or cs 0 0 ≤ r = h.first in subst (λ z. get_or cs z 0 < r + 1) e (omega arith)
    at i k (inr ne) = let l = h.long in let f : get_or cs i 0 < r = h.places i (omega arith) ne in omega arith

-- the parts at their indices
pub record PartsAt (n : ℕ) (w cs : List ℕ) (q : ℕ) (ms ds : List ℕ) : Type 0 where
  pub word : take (n - 2) ds ≡ w
  pub colours : take n (drop (n - 2) ds) ≡ cs
  pub rank : get_or ds (2 * n - 2) 0 ≡ q
  pub marks : drop (2 * n - 1) ds ≡ ms
  pub others : drop n (drop (n - 2) ds) ≡ q ∷ ms
  pub long : length ds ≡ 2 * n - 1 + length ms

pub parts_at : (n : ℕ) (w cs : List ℕ) (q : ℕ) (ms : List ℕ) → length w + 2 ≡ n → length cs ≡ n
    → PartsAt n w cs q ms (w ++ (cs ++ q ∷ ms))
parts_at n w cs q ms e f =
    let ds = w ++ (cs ++ q ∷ ms) in
    let front : n - 2 ≡ length w = omega arith in
    let at_rank : 2 * n - 2 ≡ length w + length cs = omega arith in
    let at_marks : 2 * n - 1 ≡ length w + (length cs + 1) = omega arith in
    let rest : drop (n - 2) ds ≡ cs ++ q ∷ ms = ap (λ k. drop k ds) front ∙ drop-append_seam w (cs ++ q ∷ ms) in
    let all = length-append w (cs ++ q ∷ ms) in
    let others = length-append cs (q ∷ ms) in
    record {
      word = ap (λ k. take k ds) front ∙ take-append_seam w (cs ++ q ∷ ms);
      colours = ap (take n) rest ∙ ap (λ k. take k (cs ++ q ∷ ms)) (sym f) ∙ take-append_seam cs (q ∷ ms);
      rank = ap (λ k. get_or ds k 0) at_rank ∙ get_or-append-add w (cs ++ q ∷ ms) (length cs) 0
          ∙ get_or-append_seam cs q ms 0;
      marks = ap (λ k. drop k ds) at_marks ∙ drop-append-add w (cs ++ q ∷ ms) (length cs + 1)
          ∙ drop-append-add cs (q ∷ ms) 1;
      others = ap (drop n) rest ∙ ap (λ k. drop k (cs ++ q ∷ ms)) (sym f) ∙ drop-append_seam cs (q ∷ ms);
      long = omega arith;
    }

-- what is known of the digits of a tree
pub record DigitFacts (s : TreeShape) (n : ℕ) (ds : List ℕ) : Type 0 where
  pub long : length ds ≡ 2 * n - 1 + s.marks
  pub word_long : length (take (n - 2) ds) + 2 ≡ n
  pub letters : All (λ x. x < n) (take (n - 2) ds)
  pub places_long : length (take n (drop (n - 2) ds)) ≡ n
  pub places : All (λ x. x < s.rank + 1) (take n (drop (n - 2) ds))
  pub rank : get_or ds (2 * n - 2) 0 < choose (s.degree - 1) (n - 2)
  pub marks_long : length (drop (2 * n - 1) ds) ≡ s.marks
  pub marks : All (λ x. x < n) (drop (2 * n - 1) ds)
  pub some : 0 < length (drop n (drop (n - 2) ds))
  pub rank_is : get_or (drop n (drop (n - 2) ds)) 0 0 ≡ get_or ds (2 * n - 2) 0
  pub marks_is : take (length (drop n (drop (n - 2) ds)) - 1) (drop 1 (drop n (drop (n - 2) ds))) ≡ drop (2 * n - 1) ds
  pub words_within : n - 2 ≤ length ds
  pub colours_within : n ≤ length (drop (n - 2) ds)

tail_is : (q : ℕ) (ms : List ℕ) → take (length (q ∷ ms) - 1) (drop 1 (q ∷ ms)) ≡ ms
tail_is q ms = let e : length (q ∷ ms) - 1 ≡ length ms = omega arith in ap (λ k. take k ms) e ∙ take_length ms
  where
    take_length : (l : List ℕ) → take (length l) l ≡ l
    take_length [] = refl
    take_length (x ∷ l) = ap (λ r. x ∷ r) (take_length l)

pub digit_facts : (s : TreeShape) (n : ℕ) (ds : List ℕ) → 2 ≤ n → AreDigits (bases s n) ds → DigitFacts s n ds
digit_facts s n ds least h =
    let t = tree_digits s n ds least h in
    let d = t.digits in
    let p =
    subst (PartsAt n t.word t.colours t.rank t.marks) (sym t.is)
    (parts_at n t.word t.colours t.rank t.marks d.word_long d.colours.long) in
    let long = p.long in
    let marks_long = d.marks_long in
    record {
      long = omega arith;
      word_long = ap (λ l. length l + 2) p.word ∙ d.word_long;
      letters = All-same (λ x. x < n) (take (n - 2) ds) t.word p.word (all_below n t.word d.letters);
      places_long = ap length p.colours ∙ d.colours.long;
      places = All-same (λ x. x < s.rank + 1) (take n (drop (n - 2) ds)) t.colours p.colours
          (all_places n s.rank t.colours d.colours);
      rank = subst (λ z. z < choose (s.degree - 1) (n - 2)) (sym p.rank) d.rank;
      marks_long = ap length p.marks ∙ marks_long;
      marks = All-same (λ x. x < n) (drop (2 * n - 1) ds) t.marks p.marks (all_tested n t.marks d.marks_within);
      some = (let e = ap length p.others in omega arith);
      rank_is = ap (λ l. get_or l 0 0) p.others ∙ sym p.rank;
      marks_is = ap (λ l. take (length l - 1) (drop 1 l)) p.others ∙ tail_is t.rank t.marks ∙ sym p.marks;
      words_within = omega arith;
      colours_within = (let e = length-drop (n - 2) ds in omega arith);
    }

-- ---- used entries, and the others
all_zero : (k : ℕ) → list_all (λ x. x == 0) (replicate k 0) ≡ true
all_zero zero = refl
all_zero (suc k) = all_zero k

pub used_places : (n k : ℕ) (xs l : List ℕ) → l ≡ padded 0 n xs → length xs ≡ k → take k l ≡ xs
used_places n k xs l e f =
    ap (λ z. take z l) (sym f) ∙ ap (take (length xs)) e ∙ take-append_seam xs (replicate (n - length xs) 0)

pub other_places : (n k : ℕ) (xs l : List ℕ) → l ≡ padded 0 n xs → length xs ≡ k
    → list_all (λ x. x == 0) (drop k l) ≡ true
other_places n k xs l e f =
    ap (λ z. list_all (λ x. x == 0) (drop z l)) (sym f) ∙ ap (λ z. list_all (λ x. x == 0) (drop (length xs) z)) e
    ∙ ap (list_all (λ x. x == 0)) (drop-append_seam xs (replicate (n - length xs) 0)) ∙ all_zero (n - length xs)

pub length-degrees : (n d q : ℕ) → 2 ≤ n → n ≤ d + 1 → d < 11 → q < choose (d - 1) (n - 2)
    → length (get_or (degree_lists (n - 1) d) q []) ≡ n - 1
length-degrees n d q least most small h = ((ranked n d least most small).degrees q h).long

pub all_parts : (a b c : Bool) → a ≡ true → b ≡ true → c ≡ true → (a && b && c) ≡ true
all_parts a b c h j k = grind arith

abbrev pub view_of : ℕ → List (ℕ × ℕ) → List ℕ → List ℕ → List ℕ → DecoratedTree
view_of n es cs ds ms = record { vertices = n; edges = es; colours = cs; degrees = ds; marks = ms }

pub view_is : (n : ℕ) (es fs : List (ℕ × ℕ)) (cs bs ds as' ms ls : List ℕ) → es ≡ fs → cs ≡ bs → ds ≡ as' → ms ≡ ls
    → view_of n es cs ds ms ≡ view_of n fs bs as' ls
view_is n es fs cs bs ds as' ms ls p q r t = rw (p, q, r, t)

pub coloured_places : (k : ℕ) (places bytes zeros new : List ℕ) → bytes ≡ places → zeros ≡ replicate 11 0
    → length places ≡ k → length new ≡ k
    → new ++ drop k (bytes ++ drop k zeros) ≡ padded 0 11 new
coloured_places k places bytes zeros new e z f g =
    ap (λ l. new ++ drop k (l ++ drop k zeros)) e ∙ ap (λ j. new ++ drop j (places ++ drop k zeros)) (sym f)
    ∙ ap (λ l. new ++ l) (drop-append_seam places (drop k zeros)) ∙ ap (λ l. new ++ drop k l) z
    ∙ ap (λ l. new ++ l) (drop-replicate k 11 0)
    ∙ ap (λ j. new ++ replicate (11 - j) 0) (sym g)

-- the entries that are filled from the digits
pub record FilledTree (s : TreeShape) (n : ℕ) (ds : List ℕ) (es : List (ℕ × ℕ)) (cs bs : List ℕ) (m : ℕ) (ms : List ℕ) : Type 0 where
  pub view : view_of n es (take n cs) (take (n - 1) bs) (take m ms) ≡ tree_by s n ds
  pub padding : (list_all (λ x. x == 0) (drop n cs) && list_all (λ x. x == 0) (drop (n - 1) bs) && list_all (λ x. x == 0) (drop m ms)) ≡ true

pub filled_tree : (s : TreeShape) (n : ℕ) (ds letters places others last : List ℕ) (es : List (ℕ × ℕ)) (cs bs : List ℕ) (d m : ℕ) (ms : List ℕ)
    → 2 ≤ n → n ≤ s.degree + 1 → s.degree < 11 → AreDigits (bases s n) ds → letters ≡ take (n - 2) ds
    → others ≡ drop (n - 2) ds → places ≡ take n others → last ≡ drop n others
    → es ≡ decoded n letters → cs ≡ padded 0 11 (coloured (walk_in n es (0 ∷ [])) places places) → d ≡ s.degree
    → bs ≡ padded 0 10 (get_or (degree_lists (n - 1) d) (get_or last 0 0) []) → m ≡ s.marks
    → ms ≡ padded 0 12 (take (length last - 1) (drop 1 last))
    → FilledTree s n ds es cs bs m ms
filled_tree s n ds letters places others last es cs bs d m ms least most small h is_letters is_others is_places is_last is_es is_cs is_d is_bs is_m is_ms =
    let f = digit_facts s n ds least h in
    let colours : places ≡ take n (drop (n - 2) ds) = is_places ∙ ap (take n) is_others in
    let after : last ≡ drop n (drop (n - 2) ds) = is_last ∙ ap (drop n) is_others in
    let edges : es ≡ decoded n (take (n - 2) ds) = is_es ∙ ap (decoded n) is_letters in
    let walk : coloured (walk_in n es (0 ∷ [])) places places ≡ coloured (walk_in n (decoded n (take (n - 2) ds)) (0 ∷ [])) (take n (drop (n - 2) ds)) (take n (drop (n - 2) ds)) =
    ap (λ z. coloured (walk_in n z (0 ∷ [])) places places) edges
    ∙ ap (λ z. coloured (walk_in n (decoded n (take (n - 2) ds)) (0 ∷ [])) z z) colours in
    let rank : get_or last 0 0 ≡ get_or ds (2 * n - 2) 0 = ap (λ l. get_or l 0 0) after ∙ f.rank_is in
    let list : get_or (degree_lists (n - 1) d) (get_or last 0 0) [] ≡ get_or (degree_lists (n - 1) s.degree) (get_or ds (2 * n - 2) 0) [] =
    ap (λ z. get_or (degree_lists (n - 1) z) (get_or last 0 0) []) is_d
    ∙ ap (λ z. get_or (degree_lists (n - 1) s.degree) z []) rank in
    let marks : take (length last - 1) (drop 1 last) ≡ drop (2 * n - 1) ds =
    ap (λ l. take (length l - 1) (drop 1 l)) after ∙ f.marks_is in
    let of_colours : cs ≡ padded 0 11 (coloured (walk_in n (decoded n (take (n - 2) ds)) (0 ∷ [])) (take n (drop (n - 2) ds)) (take n (drop (n - 2) ds))) = is_cs ∙ ap (padded 0 11) walk in
    let of_degrees = is_bs ∙ ap (padded 0 10) list in
    let of_marks = is_ms ∙ ap (padded 0 12) marks in
    let colours_long =
    length-coloured (walk_in n (decoded n (take (n - 2) ds)) (0 ∷ [])) (take n (drop (n - 2) ds))
    (take n (drop (n - 2) ds)) ∙ f.places_long in
    let degrees_long = length-degrees n s.degree (get_or ds (2 * n - 2) 0) least most small f.rank in
    let marks_long : length (drop (2 * n - 1) ds) ≡ m = f.marks_long ∙ sym is_m in
    record {
      view = view_is n _ _ _ _ _ _ _ _ edges (used_places 11 n _ cs of_colours colours_long)
          (used_places 10 (n - 1) _ bs of_degrees degrees_long) (used_places 12 m _ ms of_marks marks_long);
      padding = all_parts _ _ _ (other_places 11 n _ cs of_colours colours_long)
          (other_places 10 (n - 1) _ bs of_degrees degrees_long) (other_places 12 m _ ms of_marks marks_long);
    }

-- ---- the trees with fewer vertices
pub more_before : (s : TreeShape) (counts : List ℕ) (before i : ℕ) → counts ≡ counts_of s → i < s.degree
    → before ≡ trees_from s 2 i → before + get_or counts i 0 ≡ trees_from s 2 (i + 1)
more_before s counts before i e h b =
    let here : get_or counts i 0 ≡ trees_with s (2 + i) = ap (λ z. get_or z i 0) e ∙ count_here s i h in
    let next : suc i ≡ i + 1 = omega arith in
    plus (trees_from s 2 i) (trees_with s (2 + i)) _ _ b here (total_push s 2 i) ∙ ap (trees_from s 2) next
  where
    plus : (x y c whole : ℕ) → before ≡ x → c ≡ y → whole ≡ x + y → before + c ≡ whole
    plus x y c whole p q r = omega arith

pub before_within : (s : TreeShape) (before i : ℕ) → i ≤ s.degree → before ≡ trees_from s 2 i
    → tree_count s ≤ 1099511627776 → before ≤ 1099511627776
unfolding tree_count
before_within s before i h b l = let w = total_within s 2 i s.degree h in omega arith
