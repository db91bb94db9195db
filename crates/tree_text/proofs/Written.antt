-- The text that has been read at each stage.
use Rattle.std.proofs.Common.{◌≡◌, ℕ, ◌+◌, ◌*◌, ◌/◌, ◌%◌, ◌<◌, ◌≤◌, List, [], ◌∷◌, ◌++◌, length, take, refl, sym, ap, ap₂, ◌∙◌, append_assoc, arith}
use Rattle.std.specs.Prelude.{codes, decimal}
use Rattle.std.proofs.lemmas.List.{append-nil}
use Rattle.std.proofs.lemmas.Fmt.{decimal_step, length-decimal-le}
use Rattle.trees.specs.Texts.{edges_text, numbers_text, marks_text}
use Rattle.tree_text.specs.declared.stage.Word.{Word}
use Rattle.tree_text.specs.declared.stage.Word.TheVariants.{Edges, Colours, Marks}
use Rattle.tree_text.specs.declared.stage.Role.{Role}
use Rattle.tree_text.specs.declared.stage.Role.TheVariants.{FirstEnd, SecondEnd, Degree, Colour, Mark}
use Rattle.tree_text.specs.declared.stage.Stage.{Stage}
use Rattle.tree_text.specs.declared.stage.Stage.TheVariants.{Inside, Start, Number, MoreEdges, MoreColours, FirstMark, NoMarks}
use Rattle.tree_text.specs.declared.parts.Parts.{Parts}
use Rattle.tree_text.specs.Steps.{letters_of}

-- ---- decimals below 100

pub two_digits : (n d : ℕ) → 0 < n → n < 10 → d ≤ 9 → decimal (n * 10 + d) ≡ decimal n ++ (48 + d) ∷ []
two_digits n d some small digit =
    let q : (n * 10 + d) / 10 ≡ n = omega arith in
    let r : (n * 10 + d) % 10 ≡ d = omega arith in
    decimal_step (n * 10 + d) (omega arith) (omega arith) ∙ ap₂ (λ (a b : ℕ). decimal a ++ (48 + b) ∷ []) q r

pub short_decimal : (n : ℕ) → n < 100 → length (decimal n) ≤ 2
short_decimal n h = length-decimal-le 2 n (omega arith) (omega arith) (omega arith)

-- ---- one more edge and one more number

unfoldable pub edge_text : ℕ × ℕ → ℕ → List ℕ
edge_text e a = codes " " ++ decimal e.0 ++ codes "-" ++ decimal e.1 ++ codes ":" ++ decimal a

pub edges_text-push : (es : List (ℕ × ℕ)) (ds : List ℕ) (e : ℕ × ℕ) (a : ℕ) → length ds ≡ length es
    → edges_text (es ++ e ∷ []) (ds ++ a ∷ []) ≡ edges_text es ds ++ edge_text e a
unfolding edge_text
edges_text-push [] [] e a long = append-nil _
edges_text-push [] (d ∷ ds) e a long = absurd cc
edges_text-push (f ∷ es) [] e a long = absurd cc
edges_text-push (f ∷ es) (d ∷ ds) e a long =
    ap (λ (t : List ℕ). edge_text f d ++ t) (edges_text-push es ds e a (omega arith)) ∙ sym (append_assoc (edge_text f d) (edges_text es ds) (edge_text e a))

pub numbers_text-push : (ns : List ℕ) (n : ℕ) → numbers_text (ns ++ n ∷ []) ≡ numbers_text ns ++ (codes " " ++ decimal n)
numbers_text-push [] n = append-nil _
numbers_text-push (m ∷ ns) n =
    ap (λ (t : List ℕ). codes " " ++ decimal m ++ t) (numbers_text-push ns n)
    ∙ sym (append_assoc (codes " " ++ decimal m) (numbers_text ns) (codes " " ++ decimal n))

pub marks_text-some : (ns : List ℕ) (n : ℕ) → marks_text (ns ++ n ∷ []) ≡ numbers_text (ns ++ n ∷ [])
marks_text-some [] n = refl
marks_text-some (m ∷ ns) n = refl

-- ---- the text

abbrev pub edges_so_far : Parts → List ℕ
edges_so_far p = codes "edges" ++ edges_text p.edges p.degrees

abbrev pub colours_so_far : Parts → List ℕ
colours_so_far p = edges_so_far p ++ codes " colours" ++ numbers_text p.colours

abbrev pub marks_so_far : Parts → List ℕ
marks_so_far p = colours_so_far p ++ codes " marks" ++ numbers_text p.marks

abbrev pub before_word : Parts → Word → List ℕ
before_word p Edges = []
before_word p Colours = edges_so_far p ++ codes " "
before_word p Marks = colours_so_far p ++ codes " "

abbrev pub before_number : Parts → Role → List ℕ
before_number p FirstEnd = edges_so_far p ++ codes " "
before_number p (SecondEnd u) = edges_so_far p ++ codes " " ++ decimal u ++ codes "-"
before_number p (Degree u v) = edges_so_far p ++ codes " " ++ decimal u ++ codes "-" ++ decimal v ++ codes ":"
before_number p Colour = colours_so_far p ++ codes " "
before_number p Mark = marks_so_far p ++ codes " "

-- what has been read at a stage
abbrev pub written : Parts → Stage → List ℕ
written p (Inside word count) = before_word p word ++ take count (letters_of word)
written p (Start role) = before_number p role
written p (Number role n) = before_number p role ++ decimal n
written p MoreEdges = edges_so_far p ++ codes " "
written p MoreColours = colours_so_far p ++ codes " "
written p FirstMark = colours_so_far p ++ codes " marks" ++ codes " "
written p NoMarks = colours_so_far p ++ codes " marks" ++ codes " " ++ codes "-"
