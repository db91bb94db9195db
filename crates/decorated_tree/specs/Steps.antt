-- Steps along edges.
use Rattle.std.specs.Prelude.{ℕ, ◌<◌, Bool, ◌&&◌, not, if◌then◌else◌, List, [], ◌∷◌, Option, Some, None}

-- the step along an edge from an end that was there to one that was not
abbrev pub step_by : ℕ × ℕ → Bool → Bool → Option (ℕ × ℕ)
step_by e first second =
    if first && not second then Some (e.1, e.0) else if second && not first then Some (e.0, e.1) else None

-- both ends of each step are below n
abbrev pub AreWithin : ℕ → List (ℕ × ℕ) → Type 0
AreWithin n [] = Unit {0}
AreWithin n (s ∷ walk) = (s.0 < n) × (s.1 < n) × AreWithin n walk
