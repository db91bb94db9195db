-- Laws of short lists in longer arrays.
use Rattle.std.proofs.Common.{◌≡◌, ℕ, zero, suc, ◌+◌, ◌-◌, ◌<◌, ◌≤◌, List, ◌++◌, length, take, drop, replicate, slice_index, slice_set, refl, ap, sym, ◌∙◌, arith}
use Rattle.std.proofs.lemmas.List.{length-append, length-replicate, length-take-le, length-set, take-append-drop, drop-set-lt, drop-drop, drop-replicate}
use Rattle.std.proofs.Math.Seq.{take-append_seam, drop-append_seam}
use Rattle.lists.specs.Padding.{padded, IsPadded}

pub length-front : {A : Type 0} (d : A) (n c : ℕ) (l : List A) → IsPadded d n c l → length (take c l) ≡ c
length-front d n c l h = length-take-le c l (let e = h.long in let s = h.short in omega arith)

pub padded-take : {A : Type 0} (d : A) (n c : ℕ) (l : List A) → IsPadded d n c l → padded d n (take c l) ≡ l
padded-take d n c l h =
    ap (λ k. take c l ++ replicate (n - k) d) (length-front d n c l h) ∙ ap (λ r. take c l ++ r) (sym h.rest) ∙ take-append-drop c l

pub padded_array : {A : Type 0} (d : A) (n : ℕ) (xs l : List A) → length xs ≤ n → l ≡ padded d n xs → IsPadded d n (length xs) l
padded_array d n xs l h e = rw e (record {
  short = h;
  long = length-append xs (replicate (n - length xs) d) ∙ ap (λ k. length xs + k) (length-replicate (n - length xs) d) ∙ (omega arith);
  rest = drop-append_seam xs (replicate (n - length xs) d);
})

pub take-padded_array : {A : Type 0} (d : A) (n : ℕ) (xs l : List A) → l ≡ padded d n xs → take (length xs) l ≡ xs
take-padded_array d n xs l e = ap (take (length xs)) e ∙ take-append_seam xs (replicate (n - length xs) d)

-- one more item in use
pub padded-set : {A : Type 0} (d : A) (n c : ℕ) (l : List A) (y : A) → c < n → IsPadded d n c l → IsPadded d n (c + 1) (slice_set l c y)
padded-set d n c l y h p = record {
  short = omega arith;
  long = length-set l c y ∙ p.long;
  rest = drop-set-lt (c + 1) l c y (omega arith) ∙ sym (drop-drop 1 c l) ∙ ap (drop 1) p.rest ∙ drop-replicate 1 (n - c) d ∙ ap (λ k. replicate k d) (let e : n - c - 1 ≡ n - (c + 1) = omega arith in e);
}

-- an array of zeros holds 0 everywhere, and past its end too
pub zeros : (n i : ℕ) → slice_index (replicate n 0) i ≡ 0
zeros zero i = refl
zeros (suc n) zero = refl
zeros (suc n) (suc i) = zeros n i
