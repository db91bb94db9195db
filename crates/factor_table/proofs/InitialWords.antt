-- The words with which a table is opened: lists that are copied item by item, and zeros up to the number of words.
use Rattle.std.proofs.Common.{◌≡◌, ℕ, ◌+◌, ◌-◌, ◌^◌, ◌<◌, ◌≤◌, List, [], ◌∷◌, ◌++◌, length, take, replicate, get_or, map, Some, append_assoc, length-append, sym, ap, ◌∙◌, arith}
use Rattle.std.specs.List.{slice_get}
use Rattle.std.proofs.lemmas.List.{take_more, replicate_more, length-map, length-replicate}
use Rattle.std.proofs.lemmas.Option.{get_or_from_slice_get, slice_get_within}
use Rattle.arithmetic.specs.Numbers.{reduce}
use Rattle.factor_table.specs.declared.layout.Sizes.{Sizes}
use Rattle.factor_table.specs.declared.parameters.Parameters.{Parameters}
use Rattle.factor_table.specs.KeyPlaces.{first_factor, words_of}
use Rattle.factor_table.specs.Factors.{sizes_of}
use Rattle.factor_table.specs.Rule.{first_words}

-- one item more of a prefix
pub take_next : {A : Type 0} (xs : List A) (i : ℕ) (x : A) → slice_get xs i ≡ Some x
    → take i xs ++ x ∷ [] ≡ take (i + 1) xs
take_next xs i x e =
    ap (λ y. take i xs ++ y ∷ []) (sym (get_or_from_slice_get xs i x x e))
    ∙ sym (take_more xs i x (slice_get_within xs i x e))

-- a copied prefix, with one item more
pub item_copied : (xs copies after : List ℕ) (i x y : ℕ) → slice_get xs i ≡ Some x → y ≡ x → copies ≡ take i xs
    → after ≡ copies ++ y ∷ [] → after ≡ take (i + 1) xs
item_copied xs copies after i x y get same prefix e =
    e ∙ ap (λ l. l ++ y ∷ []) prefix ∙ ap (λ z. take i xs ++ z ∷ []) same ∙ take_next xs i x get

pub item_limited : (xs : List ℕ) (i x y : ℕ) → slice_get xs i ≡ Some x → y ≡ x → y < 2 ^ 62 → get_or xs i 0 < 2 ^ 62
item_limited xs i x y get same limited = let item = get_or_from_slice_get xs i x 0 get in omega arith

-- one more zero
pub zero_more : (base : List ℕ) (n k : ℕ) → n ≤ k
    → base ++ replicate (k - n) 0 ++ 0 ∷ [] ≡ base ++ replicate (k + 1 - n) 0
zero_more base n k h =
    let e : k - n + 1 ≡ k + 1 - n = omega arith in
    append_assoc base (replicate (k - n) 0) (0 ∷ []) ∙ ap (λ l. base ++ l) (replicate_more (k - n) 0)
    ∙ ap (λ m. base ++ replicate m 0) e

pub length_first : (p : Parameters) → length (first_words p) ≡ first_factor (sizes_of p)
length_first p =
    length-append (map (reduce 18446744073709551616) p.setup) p.moduli
    ∙ ap (λ k. k + length p.moduli) (length-map p.setup (reduce 18446744073709551616))

pub first_within : (s : Sizes) → first_factor s ≤ words_of s
unfolding words_of
first_within s = omega arith

-- zeros up to the number of words
pub blank : (p : Parameters) (s : Sizes) (words base : List ℕ) (counter count : ℕ) → base ≡ first_words p
    → s ≡ sizes_of p → count ≡ words_of s
    → words ≡ base ++ replicate (counter - length base) 0 → count ≤ counter → (length base ≤ count → counter ≤ count)
    → words ≡ first_words p ++ replicate (words_of (sizes_of p) - first_factor (sizes_of p)) 0
blank p s words base counter count begins same is made end within =
    let first : length base ≡ first_factor (sizes_of p) = ap length begins ∙ length_first p in
    let all : count ≡ words_of (sizes_of p) = is ∙ ap words_of same in
    let room = first_within (sizes_of p) in
    let below = within (omega arith) in
    let e : counter - length base ≡ words_of (sizes_of p) - first_factor (sizes_of p) = omega arith in
    made ∙ ap (λ n. base ++ replicate n 0) e
    ∙ ap (λ l. l ++ replicate (words_of (sizes_of p) - first_factor (sizes_of p)) 0) begins

pub length_blank : (p : Parameters) (words : List ℕ)
    → words ≡ first_words p ++ replicate (words_of (sizes_of p) - first_factor (sizes_of p)) 0
    → length words ≡ words_of (sizes_of p)
length_blank p words e =
    let n : ℕ = words_of (sizes_of p) - first_factor (sizes_of p) in let room = first_within (sizes_of p) in
    let all = ap length e ∙ length-append (first_words p) (replicate n 0) in let first = length_first p in let rest = length-replicate {A = ℕ} n 0 in omega arith
