-- A text that grows by the lines of one number after the other.
use Rattle.std.specs.List.{flat_map}
use Rattle.std.proofs.Common.{◌≡◌, ℕ, suc, ◌+◌, ◌-◌, ◌<◌, ◌≤◌, List, ◌∷◌, ◌++◌, length, drop, slice_index, sym, ap, ◌∙◌, arith, append_assoc}
use Rattle.std.proofs.lemmas.List.{append-nil, drop_more}
use Rattle.lists.specs.Ranges.{counted_from}

next_number : (i n : ℕ) → i < n → counted_from i (n - i) ≡ i ∷ counted_from (i + 1) (n - (i + 1))
next_number i n h =
    let here : n - i ≡ suc (n - (i + 1)) = omega arith in
    let after : suc i ≡ i + 1 = omega arith in
    ap (counted_from i) here ∙ ap (λ k. i ∷ counted_from k (n - (i + 1))) after

-- the lines of i are written, and those of the numbers after it are left
pub lines_next : (f : ℕ → List ℕ) (text new whole : List ℕ) (i n : ℕ) → i < n → new ≡ text ++ f i
    → text ++ flat_map f (counted_from i (n - i)) ≡ whole → new ++ flat_map f (counted_from (i + 1) (n - (i + 1))) ≡ whole
lines_next f text new whole i n h grown e =
    ap (λ t. t ++ flat_map f (counted_from (i + 1) (n - (i + 1)))) grown
    ∙ append_assoc text (f i) (flat_map f (counted_from (i + 1) (n - (i + 1))))
    ∙ ap (λ l. text ++ flat_map f l) (sym (next_number i n h)) ∙ e

-- none is left
pub lines_done : (f : ℕ → List ℕ) (text whole : List ℕ) (i n : ℕ) → n ≤ i → text ++ flat_map f (counted_from i (n - i)) ≡ whole → text ≡ whole
lines_done f text whole i n h e =
    let none : n - i ≡ 0 = omega arith in
    sym (append-nil text) ∙ ap (λ k. text ++ flat_map f (counted_from i k)) (sym none) ∙ e

-- the same of the items of a list
pub line_next : (f : ℕ → List ℕ) (ms text new line whole : List ℕ) (i : ℕ) → i < length ms → new ≡ text ++ line
    → line ≡ f (slice_index ms i) → text ++ flat_map f (drop i ms) ≡ whole → new ++ flat_map f (drop (i + 1) ms) ≡ whole
line_next f ms text new line whole i h grown is e =
    ap (λ t. t ++ flat_map f (drop (i + 1) ms)) (grown ∙ ap (λ l. text ++ l) is)
    ∙ append_assoc text (f (slice_index ms i)) (flat_map f (drop (i + 1) ms))
    ∙ ap (λ l. text ++ flat_map f l) (sym (drop_more ms i 0 h)) ∙ e

-- four pieces that were appended one after the other
regrouped : (old a b c d : List ℕ) → old ++ a ++ b ++ c ++ d ≡ old ++ (a ++ b ++ c ++ d)
regrouped old a b c d = simp append_assoc

pub joined : (old a b c d x y z text : List ℕ) → x ≡ old ++ a → y ≡ x ++ b → z ≡ y ++ c → text ≡ z ++ d
    → text ≡ old ++ (a ++ b ++ c ++ d)
joined old a b c d x y z text first second third fourth =
    fourth ∙ ap (λ t. t ++ d) (third ∙ ap (λ t. t ++ c) (second ∙ ap (λ t. t ++ b) first)) ∙ regrouped old a b c d
