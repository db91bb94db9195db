-- Words and trees correspond one to one.
use Rattle.std.specs.Prelude.{◌≡◌, ℕ, ◌+◌, ◌<◌, List, length, All, IsTrue}
use Rattle.trees.specs.Edges.{is_tree}
use Rattle.trees.specs.Words.{decoded, encoded}

-- a word of n - 2 letters below n
pub record IsWordOver (n : ℕ) (w : List ℕ) : Type 0 where
  pub long : length w + 2 ≡ n
  pub letters : All (λ x. x < n) w

-- each word decodes to a tree, each tree has a word that decodes to it, and no two words decode to the same tree (Prüfer 1918)
pub record WordsAreTrees (n : ℕ) : Type 0 where
  pub trees : (w : List ℕ) → IsWordOver n w → IsTrue (is_tree n (decoded n w))
  pub words : (es : List (ℕ × ℕ)) → IsTrue (is_tree n es) → IsWordOver n (encoded n es) × (decoded n (encoded n es) ≡ es)
  pub once : (v w : List ℕ) → IsWordOver n v → IsWordOver n w → decoded n v ≡ decoded n w → v ≡ w
