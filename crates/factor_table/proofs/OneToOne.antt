-- The place of a key is one to one.
use Rattle.std.proofs.Common.{◌≡◌, ℕ, zero, suc, ◌+◌, ◌-◌, ◌*◌, ◌<◌, ◌≤◌, List, [], ◌∷◌, refl, sym, ap, ◌∙◌, arith}
use Rattle.factor_table.specs.declared.key.Key.{Key}
use Rattle.factor_table.specs.declared.key.Key.TheVariants.{Edge, Flag, Tangent, Pair, ClassEdge, ClassVertex, Tip}
use Rattle.factor_table.specs.declared.layout.Sizes.{Sizes}
use Rattle.factor_table.specs.KeyPlaces.{IsEnd, IsKeyWithin, ends, flags, end_number, flag_number, words_of_modulus, key_number, first_factor, words_of, word_place}
use Rattle.factor_table.proofs.Digits.{digits, digit_below}
use Rattle.factor_table.proofs.Strides.{end_below, flag_below}

-- ---- numbers in parts that lie one behind another

-- the number x of the part k
abbrev pub in_part : List ℕ → ℕ → ℕ → ℕ
in_part [] k x = x
in_part (n ∷ ns) zero x = x
in_part (n ∷ ns) (suc k) x = n + in_part ns k x

-- how many numbers the part k has
abbrev pub part_size : List ℕ → ℕ → ℕ
part_size [] k = 0
part_size (n ∷ ns) zero = n
part_size (n ∷ ns) (suc k) = part_size ns k

abbrev pub total : List ℕ → ℕ
total [] = 0
total (n ∷ ns) = n + total ns

-- a number determines its part, and its number there
part_told : (ns : List ℕ) (k x l y : ℕ) → x < part_size ns k → y < part_size ns l → in_part ns k x ≡ in_part ns l y
    → (k ≡ l) × (x ≡ y)
part_told [] k x l y h i e = absurd (omega arith)
part_told (n ∷ ns) zero x zero y h i e = (refl, e)
part_told (n ∷ ns) zero x (suc l) y h i e = absurd (omega arith)
part_told (n ∷ ns) (suc k) x zero y h i e = absurd (omega arith)
part_told (n ∷ ns) (suc k) x (suc l) y h i e = let t = part_told ns k x l y h i (omega arith) in (ap suc t.0, t.1)

-- ---- the kinds of keys

abbrev pub kind_of : Key → ℕ
kind_of (Edge i j a) = 0
kind_of (Flag c u a) = 1
kind_of (Tip c u a) = 2
kind_of (Tangent c) = 3
kind_of (Pair c c1 a1 c2 a2) = 4
kind_of (ClassEdge class i j a) = 5
kind_of (ClassVertex class c n) = 6

-- the number of a key among those of its kind
abbrev pub number_in_kind : Sizes → Key → ℕ
number_in_kind s (Edge i j a) = flag_number s i j a
number_in_kind s (Flag c u a) = flag_number s c u a
number_in_kind s (Tip c u a) = flag_number s c u a
number_in_kind s (Tangent c) = c
number_in_kind s (Pair c c1 a1 c2 a2) = flag_number s c c1 a1 * ends s + end_number s c2 a2
number_in_kind s (ClassEdge class i j a) = class * flags s + flag_number s i j a
number_in_kind s (ClassVertex class c n) = class * ends s + end_number s c n

-- how many keys of each kind there are
abbrev pub kinds : Sizes → List ℕ
kinds s =
    flags s ∷ flags s ∷ flags s ∷ s.colours ∷ (flags s * ends s) ∷ (s.classes * flags s) ∷ (s.classes * ends s) ∷ []

in_kind : (s : Sizes) (key : Key) → key_number s key ≡ in_part (kinds s) (kind_of key) (number_in_kind s key)
in_kind s (Edge i j a) = refl
in_kind s (Flag c u a) = refl
in_kind s (Tip c u a) = omega arith
in_kind s (Tangent c) = omega arith
in_kind s (Pair c c1 a1 c2 a2) = omega arith
in_kind s (ClassEdge class i j a) = omega arith
in_kind s (ClassVertex class c n) = omega arith

kind_below : (s : Sizes) (key : Key) → IsKeyWithin s key → number_in_kind s key < part_size (kinds s) (kind_of key)
kind_below s (Edge i j a) w = flag_below s i j a w.0 w.1
kind_below s (Flag c u a) w = flag_below s c u a w.0 w.1
kind_below s (Tip c u a) w = flag_below s c u a w.0 w.1
kind_below s (Tangent c) w = w
kind_below s (Pair c c1 a1 c2 a2) w =
    digit_below (flag_number s c c1 a1) (end_number s c2 a2) (flags s) (ends s) (flag_below s c c1 a1 w.0 w.1)
    (end_below s c2 a2 w.2)
kind_below s (ClassEdge class i j a) w =
    digit_below class (flag_number s i j a) s.classes (flags s) w.0 (flag_below s i j a w.1 w.2)
kind_below s (ClassVertex class c n) w =
    digit_below class (end_number s c n) s.classes (ends s) w.0 (end_below s c n w.1)

-- ---- the numbers of ends and flags determine their colours and degrees

same_end : (s : Sizes) (u a v b : ℕ) → IsEnd s u a → IsEnd s v b → end_number s u a ≡ end_number s v b
    → (u ≡ v) × (a ≡ b)
same_end s u a v b m n e =
    let p = m.degree_positive in let q = n.degree_positive in let x = m.degree_within in let y = n.degree_within in
    let d = digits u (a - 1) v (b - 1) s.degree (omega arith) (omega arith) e in
    let below = d.1 in (d.0, omega arith)

same_flag : (s : Sizes) (c u a d v b : ℕ) → IsEnd s u a → IsEnd s v b → flag_number s c u a ≡ flag_number s d v b
    → (c ≡ d) × (u ≡ v) × (a ≡ b)
same_flag s c u a d v b m n e =
    let t = digits c (end_number s u a) d (end_number s v b) (ends s) (end_below s u a m) (end_below s v b n) e in
    let r = same_end s u a v b m n t.1 in (t.0, r.0, r.1)

-- keys of one kind and one number are one key
same_in_kind : (s : Sizes) (k l : Key) → IsKeyWithin s k → IsKeyWithin s l → kind_of k ≡ kind_of l
    → number_in_kind s k ≡ number_in_kind s l → k ≡ l
same_in_kind s (Edge i j a) (Edge p q b) w v kind e =
    let t = same_flag s i j a p q b w.1 v.1 e in let x = t.0 in let y = t.1 in let z = t.2 in cc
same_in_kind s (Flag i j a) (Flag p q b) w v kind e =
    let t = same_flag s i j a p q b w.1 v.1 e in let x = t.0 in let y = t.1 in let z = t.2 in cc
same_in_kind s (Tip i j a) (Tip p q b) w v kind e =
    let t = same_flag s i j a p q b w.1 v.1 e in let x = t.0 in let y = t.1 in let z = t.2 in cc
same_in_kind s (Tangent c) (Tangent d) w v kind e = ap Tangent e
same_in_kind s (Pair c c1 a1 c2 a2) (Pair d d1 b1 d2 b2) w v kind e =
    let t =
    digits (flag_number s c c1 a1) (end_number s c2 a2) (flag_number s d d1 b1) (end_number s d2 b2) (ends s)
    (end_below s c2 a2 w.2) (end_below s d2 b2 v.2) e in
    let f = same_flag s c c1 a1 d d1 b1 w.1 v.1 t.0 in let g = same_end s c2 a2 d2 b2 w.2 v.2 t.1 in
    let x = f.0 in let y = f.1 in let z = f.2 in let m = g.0 in let n = g.1 in cc
same_in_kind s (ClassEdge class i j a) (ClassEdge other p q b) w v kind e =
    let t =
    digits class (flag_number s i j a) other (flag_number s p q b) (flags s) (flag_below s i j a w.1 w.2)
    (flag_below s p q b v.1 v.2) e in
    let f = same_flag s i j a p q b w.2 v.2 t.1 in let u = t.0 in let x = f.0 in let y = f.1 in let z = f.2 in cc
same_in_kind s (ClassVertex class c m) (ClassVertex other d n) w v kind e =
    let t =
    digits class (end_number s c m) other (end_number s d n) (ends s) (end_below s c m w.1) (end_below s d n v.1) e in
    let f = same_end s c m d n w.1 v.1 t.1 in let u = t.0 in let x = f.0 in let y = f.1 in cc
same_in_kind s (Edge i j a) l w v kind e = absurd (omega arith)
same_in_kind s (Flag i j a) l w v kind e = absurd (omega arith)
same_in_kind s (Tip i j a) l w v kind e = absurd (omega arith)
same_in_kind s (Tangent c) l w v kind e = absurd (omega arith)
same_in_kind s (Pair c c1 a1 c2 a2) l w v kind e = absurd (omega arith)
same_in_kind s (ClassEdge class i j a) l w v kind e = absurd (omega arith)
same_in_kind s (ClassVertex class c m) l w v kind e = absurd (omega arith)

same_key : (s : Sizes) (k l : Key) → IsKeyWithin s k → IsKeyWithin s l → key_number s k ≡ key_number s l → k ≡ l
same_key s k l w v e =
    let t =
    part_told (kinds s) (kind_of k) (number_in_kind s k) (kind_of l) (number_in_kind s l) (kind_below s k w)
    (kind_below s l v) (sym (in_kind s k) ∙ e ∙ in_kind s l) in
    same_in_kind s k l w v t.0 t.1

-- ---- places

part_below : (ns : List ℕ) (k x : ℕ) → x < part_size ns k → in_part ns k x < total ns
part_below [] k x h = absurd (omega arith)
part_below (n ∷ ns) zero x h = omega arith
part_below (n ∷ ns) (suc k) x h = let t = part_below ns k x h in omega arith

-- the number of a key is below the number of words for one modulus
key_below : (s : Sizes) (key : Key) → IsKeyWithin s key → key_number s key < words_of_modulus s
key_below s key w =
    let t = part_below (kinds s) (kind_of key) (number_in_kind s key) (kind_below s key w) in
    let e = in_kind s key in omega arith

pub place_from : (s : Sizes) (key : Key) (m : ℕ) → first_factor s ≤ word_place s key m
unfolding word_place
place_from s key m = omega arith

pub place_below : (s : Sizes) (key : Key) (m : ℕ) → IsKeyWithin s key → m < s.moduli → word_place s key m < words_of s
unfolding word_place words_of
place_below s key m w lt =
    let d = digit_below m (key_number s key) s.moduli (words_of_modulus s) lt (key_below s key w) in omega arith

-- no two keys and moduli have one place
pub one_to_one : (s : Sizes) (k l : Key) (m n : ℕ) → IsKeyWithin s k → IsKeyWithin s l → word_place s k m ≡ word_place s l n
    → (k ≡ l) × (m ≡ n)
unfolding word_place
one_to_one s k l m n w v e =
    let d =
    digits m (key_number s k) n (key_number s l) (words_of_modulus s) (key_below s k w) (key_below s l v)
    (omega arith) in
    (same_key s k l w v d.1, d.0)
