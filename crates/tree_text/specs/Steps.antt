-- How a text is read, byte by byte. This serves the proofs alone: what a text of the grammar is, and how far a text begins one,
-- is said in Grammar, and the contract of `read` speaks of that.
use Rattle.std.specs.Prelude.{◌≡◌, ℕ, ◌+◌, ◌-◌, ◌*◌, ◌≤◌, ◌<◌, Bool, true, ◌&&◌, ◌==◌, nat_le, nat_lt, if◌then◌else◌, List, [], ◌∷◌, ◌++◌, length, slice_index, codes, Option, Some, None, option_map}
use Rattle.std.specs.List.{list_all}
use Rattle.trees.specs.Decorated.{DecoratedTree}
use Rattle.trees.specs.Texts.{tree_text}
use Rattle.lists.specs.Padding.{padded}
use Rattle.decorated_tree.specs.declared.tree.Tree.{Tree}
use Rattle.tree_text.specs.Grammar.{is_small, HasText, IsText, IsLongestBeginning}
use Rattle.tree_text.specs.declared.stage.Word.{Word}
use Rattle.tree_text.specs.declared.stage.Word.TheVariants.{Edges, Colours, Marks}
use Rattle.tree_text.specs.declared.stage.Role.{Role}
use Rattle.tree_text.specs.declared.stage.Role.TheVariants.{FirstEnd, SecondEnd, Degree, Colour, Mark}
use Rattle.tree_text.specs.declared.stage.Stage.{Stage}
use Rattle.tree_text.specs.declared.stage.Stage.TheVariants.{Inside, Start, Number, MoreEdges, MoreColours, FirstMark, NoMarks}
use Rattle.tree_text.specs.declared.parts.Parts.{Parts}
use Rattle.tree_text.specs.declared.reader.Reader.{Reader}

-- ---- steps

-- the letters of a word and the space after it
abbrev pub letters_of : Word → List ℕ
letters_of Edges = codes "edges "
letters_of Colours = codes "colours "
letters_of Marks = codes "marks "

-- where the first number after a word begins
abbrev pub after_word : Word → Stage
after_word Edges = Start FirstEnd
after_word Colours = Start Colour
after_word Marks = FirstMark

-- after so many letters of a word
abbrev pub inside : Word → ℕ → Stage
inside word count = if count == length (letters_of word) then after_word word else Inside word count

abbrev pub is_digit : ℕ → Bool
is_digit byte = nat_le 48 byte && nat_le byte 57

-- the stage after a digit
abbrev pub after_digit : Parts → Stage → ℕ → Option Stage
after_digit p (Inside word count) d = None
after_digit p (Start role) d = Some (Number role d)
after_digit p (Number role n) d = if nat_lt 0 n && nat_lt n 10 then Some (Number role (n * 10 + d)) else None
after_digit p MoreEdges d = if nat_lt (length p.edges) 10 then Some (Number FirstEnd d) else None
after_digit p MoreColours d = if nat_lt (length p.colours) 11 then Some (Number Colour d) else None
after_digit p FirstMark d = Some (Number Mark d)
after_digit p NoMarks d = None

abbrev pub with_edge : Parts → ℕ × ℕ → ℕ → Parts
with_edge p e a = record p { edges = p.edges ++ e ∷ []; degrees = p.degrees ++ a ∷ [] }

abbrev pub with_colour : Parts → ℕ → Parts
with_colour p c = record p { colours = p.colours ++ c ∷ [] }

abbrev pub with_mark : Parts → ℕ → Parts
with_mark p v = record p { marks = p.marks ++ v ∷ [] }

abbrev pub if_is : ℕ → ℕ → Parts → Stage → Option Reader
if_is byte wanted p stage = if byte == wanted then Some (record { parts = p; stage = stage }) else None

-- what is read after a number and another byte than a digit
abbrev pub after_number : Parts → Role → ℕ → ℕ → Option Reader
after_number p FirstEnd n byte = if_is byte 45 p (Start (SecondEnd n))
after_number p (SecondEnd u) n byte = if_is byte 58 p (Start (Degree u n))
after_number p (Degree u v) n byte = if_is byte 32 (with_edge p (u, v) n) MoreEdges
after_number p Colour n byte = if_is byte 32 (with_colour p n) MoreColours
after_number p Mark n byte = if nat_lt (length p.marks) 11 then if_is byte 32 (with_mark p n) (Start Mark) else None

-- what is read after another byte than a digit
abbrev pub after_sign : Parts → Stage → ℕ → Option Reader
after_sign p (Inside word count) byte = if_is byte (slice_index (letters_of word) count) p (inside word (count + 1))
after_sign p (Start role) byte = None
after_sign p (Number role n) byte = after_number p role n byte
after_sign p MoreEdges byte = if_is byte 99 p (Inside Colours 1)
after_sign p MoreColours byte = if nat_le 2 (length p.colours) then if_is byte 109 p (Inside Marks 1) else None
after_sign p FirstMark byte = if_is byte 45 p NoMarks
after_sign p NoMarks byte = None

abbrev pub with_parts : Parts → Stage → Reader
with_parts p stage = record { parts = p; stage = stage }

-- what is read after one more byte, if any text goes on so
unfoldable pub after : Reader → ℕ → Option Reader
after r byte =
    if is_digit byte then option_map (with_parts r.parts) (after_digit r.parts r.stage (byte - 48)) else after_sign r.parts r.stage byte

-- nothing
abbrev pub no_parts : Parts
no_parts = record { edges = []; degrees = []; colours = []; marks = [] }

abbrev pub first_reader : Reader
first_reader = record { parts = no_parts; stage = Inside Edges 0 }

abbrev pub finished_at : Parts → Stage → Option Parts
finished_at p (Number Mark n) = Some (with_mark p n)
finished_at p NoMarks = Some p
finished_at p stage = None

-- the parts, if the text may end here
abbrev pub finished : Reader → Option Parts
finished r = finished_at r.parts r.stage

-- ---- what is so while a text is read

-- all numbers are small
pub record AreSmall (p : Parts) : Type 0 where
  pub ends : list_all (λ e. is_small e.0 && is_small e.1) p.edges ≡ true
  pub degrees : list_all is_small p.degrees ≡ true
  pub colours : list_all is_small p.colours ≡ true
  pub marks : list_all is_small p.marks ≡ true

-- so many edges, each with a degree, so many colours and so many marks, at least and at most
pub record Has (least_edges most_edges least_colours most_colours most_marks : ℕ) (p : Parts) : Type 0 where
  pub edges_least : least_edges ≤ length p.edges
  pub edges_most : length p.edges ≤ most_edges
  pub degrees : length p.degrees ≡ length p.edges
  pub colours_least : least_colours ≤ length p.colours
  pub colours_most : length p.colours ≤ most_colours
  pub marks_most : length p.marks ≤ most_marks
  pub small : AreSmall p

-- there is room for a number of the role
abbrev pub HasRoom : Parts → Role → Type 0
HasRoom p FirstEnd = Has 0 9 0 0 0 p
HasRoom p (SecondEnd u) = (u < 100) × Has 0 9 0 0 0 p
HasRoom p (Degree u v) = (u < 100) × (v < 100) × Has 0 9 0 0 0 p
HasRoom p Colour = Has 1 10 0 10 0 p
HasRoom p Mark = Has 1 10 2 11 11 p

-- so many letters of a word can have been read
abbrev pub HasWord : Parts → Word → Type 0
HasWord p Edges = Has 0 0 0 0 0 p
HasWord p Colours = Has 1 10 0 0 0 p
HasWord p Marks = Has 1 10 2 11 0 p

abbrev pub IsAt : Parts → Stage → Type 0
IsAt p (Inside word count) = (count < length (letters_of word)) × HasWord p word
IsAt p (Start role) = HasRoom p role
IsAt p (Number role n) = (n < 100) × HasRoom p role
IsAt p MoreEdges = Has 1 10 0 0 0 p
IsAt p MoreColours = Has 1 10 1 11 0 p
IsAt p FirstMark = Has 1 10 2 11 0 p
IsAt p NoMarks = Has 1 10 2 11 0 p

abbrev pub IsReading : Reader → Type 0
IsReading r = IsAt r.parts r.stage

-- the parts as those of a tree, with a vertex for each colour
abbrev pub parts_view : Parts → DecoratedTree
parts_view p = record {
  vertices = length p.colours;
  edges = p.edges;
  colours = p.colours;
  degrees = p.degrees;
  marks = p.marks;
}

-- the tree of the parts, with zeros past the used entries
abbrev pub tree_of_parts : Parts → Tree
tree_of_parts p = record {
  n = length p.colours;
  edges = p.edges;
  colours = padded 0 11 p.colours;
  degrees = padded 0 10 p.degrees;
  m = length p.marks;
  marks = padded 0 12 p.marks;
}

-- ---- what the whole text is

-- a text of the grammar with these parts
pub record IsTextOfParts (text : List ℕ) (p : Parts) : Type 0 where
  pub has : HasText (parts_view p)
  pub is : text ≡ tree_text (parts_view p)

-- a text that is not of the grammar, and the longest prefix that begins a text of it
pub record IsRefusedAt (text : List ℕ) (place : ℕ) : Type 0 where
  pub none : ¬ IsText text
  pub longest : IsLongestBeginning text place
