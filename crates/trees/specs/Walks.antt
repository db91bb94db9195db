-- The walk away from vertex 0, and colours along it.
use Rattle.std.specs.Prelude.{◌≡◌, ℕ, zero, suc, ◌+◌, ◌-◌, true, false, ◌&&◌, not, nat_lt, if◌then◌else◌, List, [], ◌∷◌, ◌++◌, get_or, set}
use Rattle.lists.specs.Members.{is_member}

-- one round: the new vertices that the edges reach, one after the other, each with the neighbour that it is reached from
abbrev pub steps_of : List (ℕ × ℕ) → List ℕ → List (ℕ × ℕ)
steps_of [] before = []
steps_of (e ∷ es) before =
    if is_member e.0 before && not (is_member e.1 before) then (e.1, e.0) ∷ steps_of es (e.1 ∷ before) else
    if is_member e.1 before && not (is_member e.0 before) then (e.0, e.1) ∷ steps_of es (e.0 ∷ before) else steps_of es before

-- what is there after a walk
abbrev pub after : List (ℕ × ℕ) → List ℕ → List ℕ
after [] before = before
after (s ∷ walk) before = after walk (s.0 ∷ before)

-- the walk in so many rounds; in a tree, the second vertex of a step is the neighbour on the way back
abbrev pub walk_in : ℕ → List (ℕ × ℕ) → List ℕ → List (ℕ × ℕ)
walk_in zero es before = []
walk_in (suc k) es before = steps_of es before ++ walk_in k es (after (steps_of es before) before)

-- each vertex of the walk is new, and stands beside one that was there before
abbrev pub IsWalk : List (ℕ × ℕ) → List ℕ → Type 0
IsWalk [] before = Unit {0}
IsWalk (s ∷ walk) before = (is_member s.0 before ≡ false) × (is_member s.1 before ≡ true) × IsWalk walk (s.0 ∷ before)

-- the colour with this index among the colours other than c, counted upwards from 0
abbrev pub lifted : ℕ → ℕ → ℕ
lifted x c = if nat_lt x c then x else x + 1

-- the index of a colour among the colours other than c
abbrev pub place_of : ℕ → ℕ → ℕ
place_of x c = if nat_lt x c then x else x - 1

-- the colours along a walk; the digit of the vertex v has the index v
abbrev pub coloured : List (ℕ × ℕ) → List ℕ → List ℕ → List ℕ
coloured [] digits colours = colours
coloured (s ∷ walk) digits colours =
    coloured walk digits (set colours s.0 (lifted (get_or digits s.0 0) (get_or colours s.1 0)))

-- each colour of the walk is that of its digit
abbrev pub Follows : List (ℕ × ℕ) → List ℕ → List ℕ → Type 0
Follows [] digits colours = Unit {0}
Follows (s ∷ walk) digits colours =
    (get_or colours s.0 0 ≡ lifted (get_or digits s.0 0) (get_or colours s.1 0)) × Follows walk digits colours

-- the digits along a walk: the index of each colour among those other than the colour of the vertex before it
abbrev pub digits_of : List (ℕ × ℕ) → List ℕ → List ℕ → List ℕ
digits_of [] colours digits = digits
digits_of (s ∷ walk) colours digits = digits_of walk colours (set digits s.0 (place_of (get_or colours s.0 0) (get_or colours s.1 0)))
