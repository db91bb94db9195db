-- The first difference of lists.
use Rattle.std.specs.Prelude.{◌≡◌, ◌≢◌, ℕ, ◌<◌, List, [], length, slice_index, slice_index_or, All}

-- the least index at which two equally long lists of numbers differ
pub record IsFirstDifference (xs ys : List ℕ) (index : ℕ) : Type 0 where
  pub within : index < length xs
  pub differ : slice_index xs index ≢ slice_index ys index
  pub first : (i : ℕ) → i < index → slice_index xs i ≡ slice_index ys i

-- the first of some lists
abbrev pub first_of : List (List ℕ) → List ℕ
first_of lists = slice_index_or lists 0 []

-- all lists are equal to the first
abbrev pub AllAgree : List (List ℕ) → Type 0
AllAgree lists = All (λ list. list ≡ first_of lists) lists

-- of some lists this one is the first that differs from the very first, and this is the least index at which it does
pub record IsFirstDisagreement (lists : List (List ℕ)) (list index : ℕ) : Type 0 where
  pub within : list < length lists
  pub differ : IsFirstDifference (first_of lists) (slice_index_or lists list []) index
  pub before : (i : ℕ) → i < list → slice_index_or lists i [] ≡ first_of lists
